-- Sub by what a comparison has met. Assumes nothing.
use Rattle.book.specs.declared.Unlike.TheVariants.{Differ, Over}
use Rattle.book.specs.declared.Unlike.{Unlike}
use Rattle.std.proofs.Common.{Result, Ok, Err, ◌≡◌, refl, sym, ap, ap₂, ◌∙◌, ◌≢◌, Bool, true, false, cond, true≢false, List, ℕ, suc, ◌+◌, ◌*◌, ◌≤◌, ◌<◌, arith, length, take, le-leb}
use mathlib.Core.Path.{subst⁻¹}
use borrow.Author.Tests.{lt-leb}
use Rattle.nodes.specs.Nodes.{Ty, node_parts, nodes_at}
use Rattle.nodes.specs.Parts.{Whole}
use Rattle.nodes.proofs.ListLaws.{all_map}
use Rattle.spelling.specs.declared.Triple.{Triple}
use Rattle.judgment.specs.declared.TypeError.TheVariants.{TypeTooLong}
use Rattle.judgment.specs.Types.{eq_ty}
use Rattle.judgment.specs.Solutions.{Solutions, write_out}
use Rattle.judgment.specs.Board.{Board as Entries, Rule, zonk, state}
use Rattle.judgment.specs.Chain.{perform_o, zonk_o, perform_l}
use Rattle.judgment.specs.Result.{Way, limits_in}
use Rattle.judgment.specs.Rules.{subtype}
use Rattle.judgment.proofs.TypeLaws.{eq_ty-same, eq_ty-not}
use Rattle.judgment.specs.Levels.{Levels}
use Rattle.board.specs.Board.{entries_of}
use Rattle.book.specs.Book.{sols, levels_of}
use Rattle.operations.specs.declared.Halt.{Halt}
use Rattle.operations.specs.declared.Run.{Run}
use Rattle.operations.specs.State.{refusal_of, outcome_by, state_of, zonk_w, perform_w, Does, going, stopped, refused_run, Zonks}
use Rattle.operations.proofs.Latch.{not-halted, refused-is, came, stays-does}
use Rattle.operations.proofs.Then.{does-as, done-does, zonk-then}
use Rattle.book.specs.declared.Rest.{Rest}
use Rattle.book.specs.Compared.{parts_from, verdict, passed, compared, MeetAsk}
use Rattle.book.proofs.Comparing.{Tells, tells, parts_at}
use Rattle.subtyping.specs.Subtyping.{differ_report, subtype_report, SubtypeAsk}
use Rattle.subtyping.proofs.Outs.{written_sub, same-done}

-- ---- a write-out that is judged and not made
fits_out : (w : Way) (h : Halt) → going h ≡ true → (rep : List ℕ) (Γ : Entries) (σ : Solutions) (n : ℕ) (t : Ty) (f : Ty → Rule) → length (write_out σ t) ≤ w.written
    → perform_o (limits_in w) (f (write_out σ t)) (outcome_by (refusal_of h) rep (state Γ σ n)) ≡ perform_o (limits_in w) (zonk t f) (outcome_by (refusal_of h) rep (state Γ σ n))
unfolding zonk_o
fits_out w h g rep Γ σ n t f few = rw (not-halted h g, le-leb (length (write_out σ t)) w.written few) refl

fits-levels : (w : Way) (h : Halt) → going h ≡ true → (rep : List ℕ) (Γ : Entries) (σ : Solutions) (n : ℕ) (t : Ty) (f : Ty → Rule) (v : Levels) → length (write_out σ t) ≤ w.written
    → perform_l (limits_in w) (f (write_out σ t)) (outcome_by (refusal_of h) rep (state Γ σ n)) v ≡ perform_l (limits_in w) (zonk t f) (outcome_by (refusal_of h) rep (state Γ σ n)) v
unfolding zonk_o
fits-levels w h g rep Γ σ n t f v few = rw (not-halted h g, le-leb (length (write_out σ t)) w.written few) refl

fits-words : (w : Way) (ls : List Triple) (b k : List ℕ) (c : Run) → going c.halt ≡ true → (t : Ty) (f : Ty → Rule) → length (write_out (sols k) t) ≤ w.written
    → perform_w w ls (f (write_out (sols k) t)) (record { board = b; book = k; run = c }) ≡ perform_w w ls (zonk t f) (record { board = b; book = k; run = c })
unfolding zonk_w
fits-words w ls b k c g t f few = rw (g, le-leb (length (write_out (sols k) t)) w.written few) refl

-- one that fits, and then the rest with what it would have written
zonk-fits : {w : Way} {ls : List Triple} {b k rep : List ℕ} {c : Run} {b' k' rep' : List ℕ} {d : Run} {t : Ty} {f : Ty → Rule} → going c.halt ≡ true → length (write_out (sols k) t) ≤ w.written
    → Does w ls b k rep c (f (write_out (sols k) t)) b' k' rep' d → Does w ls b k rep c (zonk t f) b' k' rep' d
zonk-fits {w} {ls} {b} {k} {rep} {c} {t = t} {f = f} g few h = record {
  kept = h.kept;
  taken = h.taken;
  outcome = h.outcome ∙ came (fits_out w c.halt g rep (entries_of ls b c.counters.board.entries) (sols k) c.counters.fresh t f few) (fits-words w ls b k c g t f few)
      (fits-levels w c.halt g rep (entries_of ls b c.counters.board.entries) (sols k) c.counters.fresh t f (levels_of k) few);
}

module _ {b k rep : List ℕ} {c : Run} {at ln rn w : ℕ} (p : SubtypeAsk b k rep c at ln rn w) where
  abbrev l : Ty
  l = nodes_at b at ln

  abbrev r : Ty
  r = nodes_at b (at + 2 * ln) rn

  abbrev L : Ty
  L = write_out (sols k) l

  abbrev R : Ty
  R = write_out (sols k) r

  abbrev way : (ℕ → Ty → Bool) → Way
  way z = record { written = w; scope = z }

  -- what is compared
  abbrev sides : Rest
  sides = record { left = at; right = at + 2 * ln; parts = 1; budget = w }

  left_is : parts_from b at 1 ≡ l
  left_is = parts_at b at ln 1 (let z = p.within in omega arith) p.left.whole

  right_is : parts_from b (at + 2 * ln) 1 ≡ r
  right_is = parts_at b (at + 2 * ln) rn 1 (let z = p.within in omega arith) p.right.whole

  pub meet-asks : {i : Rest} → i ≡ sides → MeetAsk b b k i
  meet-asks e = rw e
      (record {
        sides = record {
          left = subst⁻¹ (λ (t : Ty). Whole node_parts t 1) left_is p.left.whole;
          right = subst⁻¹ (λ (t : Ty). Whole node_parts t 1) right_is p.right.whole;
        };
        book = (c.book, p.formed.book);
        solutions = all_map (λ x q. q.whole) (sols k) p.solutions;
      })

  -- what Sub leaves: the rule done, and every word of the report
  abbrev Leaves : List ℕ → List ℕ → List ℕ → Run → Type 0
  Leaves b' k' rep' o = ((z : ℕ → Ty → Bool) (ls : List Triple) → Does (way z) ls b k rep c (subtype l r) b' k' rep' o) × (rep' ≡ subtype_report rep c L R w)

  -- the same, and not more nodes than the limit: the rule is done
  same-does : L ≡ R → length L ≤ w → (z : ℕ → Ty → Bool) (ls : List Triple) (g : Bool) → going c.halt ≡ g → Does (way z) ls b k rep c (subtype l r) b k rep c
  unfolding subtype
  same-does same few z ls true g =
      let few₂ : length R ≤ w = omega (arith, ap {B = ℕ} length same) in
      zonk-fits {t = l} {f = λ (x : Ty). zonk r (written_sub x)} g few (zonk-fits {t = r} {f = written_sub L} g few₂ (does-as (λ _. sym (same-done L R (ap (eq_ty L) (sym same) ∙ eq_ty-same L))) (done-does p.formed)))
  same-does same few z ls false g = stays-does p.formed (way z) ls rep g (subtype l r)

  -- more nodes than the limit
  stops : w < length L → going c.halt ≡ true → Zonks k rep c l 0 w rep (record { run = stopped c TypeTooLong; nodes = 0 })
  unfolding zonk_o zonk_w nodes_at
  stops many g = record {
    does = λ z ls b f. record {
      kept = record { board = f.board; book = f.book; numbers = f.numbers; unmade = f.unmade };
      taken = refl;
      outcome = came (refused-is TypeTooLong rep (state_of ls b k c) ∙ rw (not-halted c.halt g, lt-leb (length L) w many)) (rw (g, lt-leb (length L) w many)) refl;
    };
    nodes = λ z. absurd (true≢false (sym z));
    within = omega arith;
  }

  over-does : {d : Run} → w < length L → d ≡ refused_run c TypeTooLong → (z : ℕ → Ty → Bool) (ls : List Triple) (g : Bool) → going c.halt ≡ g → Does (way z) ls b k rep c (subtype l r) b k rep d
  unfolding subtype
  over-does {d} many u z ls true g =
      let v : d ≡ stopped c TypeTooLong = u ∙ rw g in
      let Z = stops many g in
      rw v (zonk-then {f = λ (x : Ty). zonk r (written_sub x)} p.formed Z (stays-does (Z.does z ls b p.formed).kept (way z) ls rep refl (zonk r (written_sub (nodes_at rep (2 * 0) 0)))))
  over-does {d} many u z ls false g = let v : d ≡ c = u ∙ rw g in rw v (stays-does p.formed (way z) ls rep g (subtype l r))

  -- no node differs, up to one more than the limit: nothing is written
  nothing_written : take (suc w) L ≡ take (suc w) R → rep ≡ subtype_report rep c L R w
  nothing_written e = sym (ap (λ (x : Bool). cond x rep (differ_report rep c L R w)) (ap (eq_ty (take (suc w) L)) (sym e) ∙ eq_ty-same (take (suc w) L)))

  module _ {o : (Result Rest Unlike)} {i : Rest} (e : i ≡ sides) (q : o ≡ compared b b k i) where
    said : {m : (Result Rest Unlike)} → o ≡ m → Tells L R w (passed b b k sides) m
    unfolding compared
    said {m} u = tells L R w (passed b b k sides) m
        (ap₂ (λ (s t : Ty). verdict (write_out (sols k) s) (write_out (sols k) t) w (passed b b k sides)) (sym left_is) (sym right_is) ∙ sym (q ∙ ap (compared b b k) e) ∙ u)

    pub same-leaves : {d : Rest} → o ≡ Ok d → Leaves b k rep c
    same-leaves u = let s = said u in (λ z ls. same-does s.0 s.1 z ls (going c.halt) refl, nothing_written (ap (λ (t : Ty). take (suc w) t) s.0))

    pub over-leaves : {d : Run} → o ≡ Err Over → d ≡ refused_run c TypeTooLong → Leaves b k rep d
    over-leaves u v = let s = said u in (λ z ls. over-does s.1 v z ls (going c.halt) refl, nothing_written s.0)

    -- a node differs: the types do
    pub differ-asks : o ≡ Err Differ → L ≢ R
    differ-asks u = λ s. said u (ap (λ (t : Ty). take (suc w) t) s)

    pub differ-report : o ≡ Err Differ → {rep' : List ℕ} → rep' ≡ differ_report rep c L R w → rep' ≡ subtype_report rep c L R w
    differ-report u h = h ∙ sym (ap (λ (x : Bool). cond x rep (differ_report rep c L R w)) (eq_ty-not (take (suc w) L) (take (suc w) R) (said u)))
