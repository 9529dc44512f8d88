-- The seven numbers and the buffers, read off the end of a run. Assumes nothing.
use Rattle.std.specs.Prelude.{Option, Some, None}
use Rattle.judgment.specs.declared.TypeError.{TypeError}
use mathlib.Core.Path.{◌≡◌, refl, sym, ap, subst, ◌∙◌}
use mathlib.Core.Bool.{Bool, true, false, cond}
use mathlib.Core.List.{List, [], ◌++◌, append-nil}
use Prim.Native.Nat.{ℕ, zero, suc, ◌+◌, ◌*◌, ◌-◌, ◌≤◌, ◌<◌}
use native.Mathlib.Nat.{zero-add}
use native.Mathlib.Omega.{arith}
use lib.Dec.{ltb}
use lib.ListN.{length, get_or, take, replicate, length-append, length-replicate, drop_of_length-le}
use lib.Seq.{sets, length-sets, sets-eq, take_all, length-take-le, get_or-take, get_or-append-add, ext_get_or}
use lib.ListN.{get_or-append, get_or-replicate}
use borrow.Author.Tests.{ltb-true, ltb-false}
use Rattle.sizes.specs.Sizes.{board_size, book_size, report_stride}
use Rattle.nodes.specs.Nodes.{words, nodes_at, zeros}
use Rattle.nodes.proofs.ListLaws.{cond_ind}
use Rattle.nodes.proofs.Laws.{length-words, length-nodes_at, getD-sets-below, getD-sets-in}
use Rattle.sheet.specs.Plan.{plain_plan, plan_of}
use Rattle.sheet.specs.Rows.{rows}
use Rattle.judgment.specs.declared.Answer.{Answer}
use Rattle.judgment.specs.Solutions.{Solutions}
use Rattle.judgment.specs.Board.{State, state}
use Rattle.judgment.specs.Levels.{Levels, own_levels, levels_after, Mode}
use Rattle.judgment.specs.Run.{events, run_from, check_type}
use Rattle.judgment.specs.Run.{Run as Steps, run as steps}
use Rattle.judgment.specs.Chain.{Told, told}
use Rattle.judgment.specs.Result.{start_of, Judged, end_report, result_of, run_of, judge, limits_for, padded, book_words, report_words, board_words}
use Rattle.judgment.proofs.Words.{length-board}
use Rattle.book.specs.Book.{sols, levels_of, levels_written}
use Rattle.book.proofs.Words.{words-at, book-words, length-written}
use Rattle.operations.specs.declared.Run.{Run}
use Rattle.operations.specs.State.{reported, refusal_of, state_of, WellFormed}
use Rattle.applying.specs.Applying.{env_on}
use Rattle.ending.specs.Ending.{end_by, end_of, report_end, answer_by}
use Rattle.checker.specs.Calling.{Ran}

-- ---- the result
abbrev counter_of : State → ℕ
counter_of (state Γ σ n) = n

abbrev solutions_of : State → Solutions
solutions_of (state Γ σ n) = σ

abbrev result_told : Bool → Told → Judged
result_told plain t = record {
  answer = answer_by plain t.end t.taken (counter_of t.last);
  report = end_report t.end;
  solutions = solutions_of t.last;
  levels = t.levels;
}

result-told : (plain : Bool) (v : Levels) (R : Steps) → result_of plain v R ≡ result_told plain (told 0 v R)
unfolding result_of
result-told plain v (steps ss e (state Γ σ n)) =
    ap (λ (m : ℕ). result_told plain (record { end = e; taken = m; last = state Γ σ n; levels = levels_after (events ss) v })) (sym (zero-add (length ss)))

pub judged : (m : Mode) (s : List ℕ) (C limit : ℕ) (b k rep : List ℕ) (c : Run)
    → told 0 own_levels (run_from (limits_for m limit) (env_on s) C own_levels (start_of (rows s))) ≡ record { end = end_of rep c; taken = c.counters.taken; last = state_of (rows s) b k c; levels = levels_of k }
    → judge (limits_for m limit) C (rows s) ≡ record {
      answer = answer_by (plan_of (rows s)).plain (end_of rep c) c.counters.taken c.counters.fresh;
      report = end_report (end_of rep c);
      solutions = sols k;
      levels = levels_of k;
    }
unfolding judge run_of check_type
judged m s C limit b k rep c e =
    let p = plan_of (rows s) in
    result-told p.plain own_levels (run_from (limits_for m limit) (env_on s) C own_levels (start_of (rows s))) ∙ ap (result_told p.plain) e

-- ---- the buffers
-- all words of a buffer of that length
pub all_set : (l vs : List ℕ) → length l ≡ length vs → sets l 0 vs ≡ vs
all_set l vs e =
    let z : length l ≤ 0 + length vs = omega arith in
    sets-eq vs l 0 (omega arith) ∙ ap (λ (r : List ℕ). vs ++ r) (drop_of_length-le l z) ∙ append-nil vs

pub whole-board : (b b' : List ℕ) → length b ≡ board_size → b' ≡ sets b 0 board_words → b' ≡ board_words
whole-board b b' l e = e ∙ all_set b board_words (l ∙ sym length-board)

pub whole-book : {b k : List ℕ} {c : Run} → WellFormed b k c → length k ≡ book_size → levels_written k c.counters.fresh ≡ book_words (sols k) (levels_of k) c.counters.fresh
whole-book {b} {k} {c} h e =
    sym (take_all book_size (levels_written k c.counters.fresh) (omega (arith, length-written k c.counters.fresh))) ∙ book-words k c.book h.book c.counters.fresh h.numbers (λ j l i. (h.unmade j l i).1)

-- the report: n nodes, and then 0
module _ (limit : ℕ) (rep : List ℕ) (len : length rep ≡ report_stride * limit) (n : ℕ) where
  abbrev size : ℕ
  size = report_stride * limit

  abbrev end : ℕ
  end = cond (ltb (2 * n) size) (2 * n) size

  abbrev W : List ℕ
  W = words (nodes_at rep 0 n)

  long : length W ≡ 2 * n
  long = length-words (nodes_at rep 0 n) ∙ ap (λ (m : ℕ). 2 * m) (length-nodes_at rep 0 n)

  -- a word of the types
  in-types : (i : ℕ) → i < 2 * n → get_or (W ++ replicate size 0) i 0 ≡ get_or rep i 0
  in-types i h =
      let l = long in
      get_or-append W (replicate size 0) 0 i (omega arith) ∙ words-at rep 0 n i h ∙ ap (λ (j : ℕ). get_or rep j 0) (zero-add i)

  word-is : (i : ℕ) → i < size → (b : Bool) → ltb (2 * n) size ≡ b → get_or (sets rep (cond b (2 * n) size) (zeros (size - cond b (2 * n) size))) i 0 ≡ get_or (W ++ replicate size 0) i 0
  unfolding zeros
  word-is i h true e = go (ltb i (2 * n)) refl
    where
      go : (b : Bool) → ltb i (2 * n) ≡ b → get_or (sets rep (2 * n) (replicate (size - 2 * n) 0)) i 0 ≡ get_or (W ++ replicate size 0) i 0
      go true q = let x = ltb-true i (2 * n) q in getD-sets-below rep (2 * n) (replicate (size - 2 * n) 0) i x ∙ sym (in-types i x)
      go false q =
          let x = ltb-false i (2 * n) q in
          let y = ltb-true (2 * n) size e in
          let l = long in
          let z : 2 * n + (i - 2 * n) ≡ i = omega arith in
          let u : i ≡ length W + (i - 2 * n) = omega arith in
          let m = length-replicate {A = ℕ} (size - 2 * n) 0 in
          ap (λ (j : ℕ). get_or (sets rep (2 * n) (replicate (size - 2 * n) 0)) j 0) (sym z)
          ∙ getD-sets-in rep (2 * n) (replicate (size - 2 * n) 0) (i - 2 * n) (omega arith) (omega arith)
          ∙ get_or-replicate (size - 2 * n) (i - 2 * n) 0 0 (omega arith)
          ∙ sym (ap (λ (j : ℕ). get_or (W ++ replicate size 0) j 0) u ∙ get_or-append-add W (replicate size 0) (i - 2 * n) 0 ∙ get_or-replicate size (i - 2 * n) 0 0 (omega arith))
  word-is i h false e =
      let x = ltb-false (2 * n) size e in
      getD-sets-below rep size (replicate (size - size) 0) i h ∙ sym (in-types i (omega arith))

  pub report-is : sets rep end (zeros (size - end)) ≡ report_words limit (nodes_at rep 0 n)
  unfolding report_words padded
  report-is =
      let l = length-append W (replicate size 0) in
      let r = length-replicate {A = ℕ} size 0 in
      let m = length-take-le size (W ++ replicate size 0) (omega arith) in
      let a = length-sets rep end (zeros (size - end)) in
      ext_get_or 0 (sets rep end (zeros (size - end))) (take size (W ++ replicate size 0)) (a ∙ len ∙ sym m)
      (λ i q.
      let h : i < size = omega arith in
      word-is i h (ltb (2 * n) size) refl ∙ sym (get_or-take size (W ++ replicate size 0) i 0 h))

-- no types
front-0 : (size : ℕ) (b : Bool) → ltb 0 size ≡ b → cond b 0 size ≡ 0
front-0 size true e = refl
front-0 size false e = let x = ltb-false 0 size e in omega arith

-- at any end
pub ended-report : (limit : ℕ) (rep : List ℕ) → length rep ≡ report_stride * limit → (h : Option TypeError) (i : ℕ)
    → (let e = report_end (report_stride * limit) h in sets rep e (zeros (report_stride * limit - e)) ≡ report_words limit (end_report (end_by h i rep)))
unfolding nodes_at report_end
ended-report limit rep len h i = go h i
  where
    none : sets rep 0 (zeros (report_stride * limit - 0)) ≡ report_words limit []
    none = let s = report_stride * limit in subst (λ (e : ℕ). sets rep e (zeros (s - e)) ≡ report_words limit []) (front-0 s (ltb 0 s) refl) (report-is limit rep len 0)

    go : (h : Option TypeError) (i : ℕ) → (let e = report_end (report_stride * limit) h in sets rep e (zeros (report_stride * limit - e)) ≡ report_words limit (end_report (end_by h i rep)))
    go None zero = none
    go None (suc i) = none
    go (Some e) i = report-is limit rep len (reported e)

pub end-within : {n size : ℕ} (h : Option TypeError) → n ≡ report_end size h → n ≤ size
unfolding report_end
end-within {n} {size} h e = rw e (go h)
  where
    go : (h : Option TypeError) → report_end size h ≤ size
    go None = omega arith
    go (Some x) = cond_ind (λ (n : ℕ). n ≤ size) (ltb (2 * reported x) size) (λ q. let y = ltb-true (2 * reported x) size q in omega arith) (λ _. omega arith)

pub end-clears : {n size l : ℕ} (h : Option TypeError) → n ≡ report_end size h → size ≡ l → n + (size - n) ≤ l
end-clears h e q = let x = end-within h e in omega arith

-- ---- all of it
pub ran : (m : Mode) (s : List ℕ) (C limit : ℕ) {b k : List ℕ} (rep : List ℕ) (c : Run) {b' k' rep' : List ℕ} {a : Answer} {plain : Bool} {size n : ℕ}
    → WellFormed b k c × (told 0 own_levels (run_from (limits_for m limit) (env_on s) C own_levels (start_of (rows s))) ≡ record { end = end_of rep c; taken = c.counters.taken; last = state_of (rows s) b k c; levels = levels_of k })
    → length k ≡ book_size → k' ≡ levels_written k c.counters.fresh → length rep ≡ report_stride * limit → b' ≡ board_words → size ≡ length rep → n ≡ report_end size (refusal_of c.halt) → rep' ≡ sets rep n (zeros (size - n))
    → plain ≡ plain_plan (rows s) → ((rep : List ℕ) → a ≡ answer_by plain (end_of rep c) c.counters.taken c.counters.fresh) → Ran limit (judge (limits_for m limit) C (rows s)) b' k' rep' a
unfolding plan_of
ran m s C limit {b} {k} rep c {size} {n} h lk ek lr eb es en er ep ea =
    let j = judged m s C limit b k rep c h.1 in
    let z : size ≡ report_stride * limit = es ∙ lr in
    record {
      answer = ea rep ∙ ap (λ (p : Bool). answer_by p (end_of rep c) c.counters.taken c.counters.fresh) ep ∙ sym (ap (λ (r : Judged). r.answer) j);
      board = eb;
      book = ek ∙ whole-book h.0 lk ∙ sym (ap (λ (r : Judged). book_words r.solutions r.levels r.answer.fresh) j);
      report = er ∙ ap (λ (m : ℕ). sets rep m (zeros (size - m))) en ∙ ap (λ (m : ℕ). sets rep (report_end m (refusal_of c.halt)) (zeros (m - report_end m (refusal_of c.halt)))) z
          ∙ ended-report limit rep lr (refusal_of c.halt) c.counters.board.entries ∙ sym (ap (λ (r : Judged). report_words limit r.report) j);
    }
