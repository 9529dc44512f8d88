-- The entry call by its tests, one after the other. Assumes nothing.
use Rattle.grammar.specs.declared.SheetError.TheVariants.{Length}
use Rattle.grammar.specs.declared.SheetError.{SheetError}
use Rattle.std.specs.Prelude.{Result, Ok, Err}
use mathlib.Core.Path.{◌≡◌, refl, sym, ap, ◌∙◌}
use mathlib.Core.Bool.{Bool, true, false, ◌||◌}
use mathlib.Core.List.{List, ◌++◌}
use Prim.Native.Nat.{ℕ, ◌*◌, ◌≤◌, ◌<◌}
use native.Mathlib.Nat.{zero-add}
use native.Mathlib.Omega.{arith}
use lib.Dec.{ltb}
use lib.ListN.{length, take, drop, take-append-drop}
use lib.Seq.{sets, sets-eq}
use borrow.Author.Tests.{lt-ltb, le-ltb, ltb-false}
use Rattle.sizes.specs.Sizes.{highest_ceiling, highest_limit, board_size, book_size, report_stride}
use Rattle.grammar.specs.Check.{length_ok, check, check_line, refusal_line}
use Rattle.grammar.proofs.Lines.{line_small}
use Rattle.sheet.specs.Plan.{triples}
use Rattle.judgment.specs.declared.Answer.{Answer}
use Rattle.judgment.specs.Levels.{Mode}
use Rattle.judgment.specs.Result.{Judged, Buffers, Called, limits_for, judge, refused_at, limit_bad, too_short, by_check, call, board_words, book_words, report_words}
use Rattle.judgment.proofs.Narrow.{limit-good}
use Rattle.judgment.proofs.Promised.{promise}
use Rattle.judgment.proofs.Words.{length-board, length-book, length-report}
use Rattle.checker.specs.Calling.{Ran, Kept, ByCheck, FrontAsk, Fronted}
use Rattle.checker.specs.Answered.{Answered}

-- ---- fronts
front : (l e ws : List ℕ) (n : ℕ) → length ws ≡ n → n ≤ length l → e ≡ ws → e ++ drop n l ≡ sets l 0 ws
front l e ws n h m q =
    rw q (sym (sets-eq ws l 0 (omega arith) ∙ ap (λ (k : ℕ). ws ++ drop k l) (zero-add (length ws) ∙ h)))

fronted : {limit : ℕ} {s b k rep : List ℕ} (a : FrontAsk limit s b k rep) (o : Judged) {b' k' rep' : List ℕ} {r : Answer} → Ran limit o b' k' rep' r
    → Fronted limit o b k rep (b' ++ drop board_size b) (k' ++ drop book_size k) (rep' ++ drop (report_stride * limit) rep) r
fronted {limit} {s} {b} {k} {rep} a o {b'} {k'} {rep'} q = record {
  answer = q.answer;
  board = front b b' board_words board_size length-board a.board q.board;
  book = front k k' (book_words o.solutions o.levels o.answer.fresh) book_size (length-book o.solutions o.levels o.answer.fresh) a.book q.book;
  report = front rep rep' (report_words limit o.report) (report_stride * limit) (length-report limit o.report) a.report q.report;
}

-- what is kept of a front is kept of the whole
rejoined : (l e : List ℕ) (n : ℕ) → e ≡ take n l → e ++ drop n l ≡ l
rejoined l e n q = rw q (take-append-drop n l)

kept-fronts : (limit : ℕ) {v : (Result Unit SheetError)} {b k rep b' k' rep' : List ℕ} {r : Answer} → Kept v (take board_size b) (take book_size k) (take (report_stride * limit) rep) b' k' rep' r
    → Kept v b k rep (b' ++ drop board_size b) (k' ++ drop book_size k) (rep' ++ drop (report_stride * limit) rep) r
kept-fronts limit {v} {b} {k} {rep} {b'} {k'} {rep'} q = record {
  answer = q.answer;
  board = rejoined b b' board_size q.board;
  book = rejoined k k' book_size q.book;
  report = rejoined rep rep' (report_stride * limit) q.report;
}

each-check : (v : Result Unit SheetError) (A B C D : Type 0) → (A → C) → (B → D) → ByCheck v A B → ByCheck v C D
each-check (Ok _) A B C D f g x = f x
each-check (Err e) A B C D f g x = g x

pub fronts : {limit : ℕ} {s b k rep : List ℕ} (a : FrontAsk limit s b k rep) (o : Judged) (b' k' rep' : List ℕ) (r : Answer)
    → ByCheck (check s) (Ran limit o b' k' rep' r) (Kept (check s) (take board_size b) (take book_size k) (take (report_stride * limit) rep) b' k' rep' r)
    → ByCheck (check s) (Fronted limit o b k rep (b' ++ drop board_size b) (k' ++ drop book_size k) (rep' ++ drop (report_stride * limit) rep) r) (Kept (check s) b k rep (b' ++ drop board_size b) (k' ++ drop book_size k) (rep' ++ drop (report_stride * limit) rep) r)
fronts {limit} {s} {b} {k} {rep} a o b' k' rep' r =
    each-check (check s) (Ran limit o b' k' rep' r) (Kept (check s) (take board_size b) (take book_size k) (take (report_stride * limit) rep) b' k' rep' r)
    (Fronted limit o b k rep (b' ++ drop board_size b) (k' ++ drop book_size k) (rep' ++ drop (report_stride * limit) rep) r) (Kept (check s) b k rep (b' ++ drop board_size b) (k' ++ drop book_size k) (rep' ++ drop (report_stride * limit) rep) r)
    (λ q. fronted a o q) (λ q. kept-fronts limit q)

-- ---- the tests
module _ (m : Mode) (s : List ℕ) (c w : ℕ) (b : Buffers) where
  called : {a : Answer} {d : Buffers} → call m s c w b ≡ record { answer = a; after = d } → Answered m s c w b a d
  called {a} {d} e = record {
    answer = sym (ap (λ (x : Called). x.answer) e);
    buffers = sym (ap (λ (x : Called). x.after) e);
    promise = promise (limits_for m w) s c;
  }

  pub high-ceiling : {a : Answer} → highest_ceiling < c → a ≡ refused_at 1 0 → Answered m s c w b a b
  unfolding call
  high-ceiling h e = called (rw (lt-ltb highest_ceiling c h, e) refl)

  pub bad-limit : {a : Answer} {x : Bool} → c ≤ highest_ceiling → x ≡ limit_bad w → x ≡ true → a ≡ refused_at 32 0 → Answered m s c w b a b
  unfolding call
  bad-limit h l q e = called (rw (le-ltb highest_ceiling c h, sym l ∙ q, e) refl)

  module _ {y : Bool} (h : c ≤ highest_ceiling) (l : y ≡ limit_bad w) (p : y ≡ false) where
    pub low-limit : w ≤ highest_limit
    low-limit = (limit-good w (sym l ∙ p)).1

    pub short-buffer : {a : Answer} {x : Bool} → x ≡ too_short w b → x ≡ true → a ≡ refused_at 2 0 → Answered m s c w b a b
    unfolding call
    short-buffer t q e = called (rw (le-ltb highest_ceiling c h, sym l ∙ p, sym t ∙ q, e) refl)

    module _ {x : Bool} (t : x ≡ too_short w b) (q : x ≡ false) where
      by-check : (v : Result Unit SheetError) → check s ≡ v → call m s c w b ≡ by_check m s c w b v
      unfolding call
      by-check v z = rw (le-ltb highest_ceiling c h, sym l ∙ p, sym t ∙ q, z) refl

      pub bad-length : {a : Answer} {n : Bool} → n ≡ length_ok (length s) → n ≡ false → a ≡ refused_at 3 0 → Answered m s c w b a b
      unfolding check
      bad-length z p e = called (by-check (Err Length) (rw (sym z ∙ p)) ∙ rw e refl)

      long-enough : too_short w b ≡ false → (board_size ≤ length b.board) × (book_size ≤ length b.book) × (report_stride * w ≤ length b.report)
      long-enough = go (ltb (length b.board) board_size) (ltb (length b.book) book_size) (ltb (length b.report) (report_stride * w)) refl refl refl
        where
          go : (x y z : Bool) → ltb (length b.board) board_size ≡ x → ltb (length b.book) book_size ≡ y → ltb (length b.report) (report_stride * w) ≡ z → (x || (y || z)) ≡ false
              → (board_size ≤ length b.board) × (book_size ≤ length b.book) × (report_stride * w ≤ length b.report)
          go true y z p q r e = absurd (let u : ◌≡◌ {A = ℕ} 0 1 = cc in omega arith)
          go false true z p q r e = absurd (let u : ◌≡◌ {A = ℕ} 0 1 = cc in omega arith)
          go false false true p q r e = absurd (let u : ◌≡◌ {A = ℕ} 0 1 = cc in omega arith)
          go false false false p q r e = (ltb-false (length b.board) board_size p, ltb-false (length b.book) book_size q, ltb-false (length b.report) (report_stride * w) r)

      pub front-asks : length_ok (length s) ≡ true → FrontAsk w s b.board b.book b.report
      front-asks z = let e = long-enough (sym t ∙ q) in record { sized = z; limited = low-limit; board = e.0; book = e.1; report = e.2 }

      pub answered : {a : Answer} {d : Buffers}
          → ByCheck (check s) (Fronted w (judge (limits_for m w) c (triples s)) b.board b.book b.report d.board d.book d.report a) (Kept (check s) b.board b.book b.report d.board d.book d.report a)
          → Answered m s c w b a d
      answered {a} {d} = go (check s) refl
        where
          go : (v : Result Unit SheetError) → check s ≡ v → ByCheck v (Fronted w (judge (limits_for m w) c (triples s)) b.board b.book b.report d.board d.book d.report a) (Kept v b.board b.book b.report d.board d.book d.report a)
              → Answered m s c w b a d
          go (Ok _) z f = called (by-check (Ok tt) z ∙ sym (rw (f.answer, f.board, f.book, f.report) refl))
          go (Err e) z f = called (by-check (Err e) z ∙ sym (rw (f.answer, f.board, f.book, f.report) refl))

-- a refused line is a word
pub line_word : (s : List ℕ) {v : Result Unit SheetError} → v ≡ check s → {x : SheetError} → v ≡ Err x → refusal_line x < 4294967296
line_word s {v} e {x} q =
    let n = line_small s in
    let m = ap check_line (sym e ∙ q) in
    omega arith
