-- Laws of the judge: what it compares is what the definition of a call says. Assumes nothing.
use Rattle.std.proofs.Common.{◌≡◌, ℕ, ◌+◌, Bool, true, false, ◌&&◌, List, take, drop, IsTrue, ◌↔◌, nat_eq, refl, sym, ◌∙◌}
use Rattle.std.specs.Cmp.Lexicographic.{same_text, other_text}
use lib.Pointwise.{pointwise}
use Rattle.sizes.specs.Sizes.{book_size, usual_report}
use Rattle.judgment.specs.declared.Answer.{Answer}
use Rattle.judgment.specs.Result.{Buffers, numbers}
use Rattle.replay.specs.declared.record.Plan.{Plan}
use Rattle.replay.specs.Recorded.{book_from, report_from, seven_from}
use Rattle.replay.specs.Replay.{Wanted, AsWanted, dirty, called_on, left_by}

-- ---- a chain of tests, x and then y
pub and-yes : (v x y : Bool) → x ≡ true → v ≡ y → v ≡ (x && y)
and-yes v true y e h = h
and-yes v false y e h = cc

pub and-no : (v x y : Bool) → x ≡ false → v ≡ x → v ≡ (x && y)
and-no v true y e h = cc
and-no v false y e h = h

both : (x y : Bool) → (x && y) ≡ true → (x ≡ true) × (y ≡ true)
both true y e = (refl, e)
both false y e = cc

is-true : (b : Bool) → (false ≡ b → ⊥) → b ≡ true
is-true true h = refl
is-true false h = absurd (h refl)

-- ---- the tests of lists
same_if : (a b : List ℕ) → pointwise nat_eq a b ≡ true → a ≡ b
same_if a b e = same_text a b (sym e)

if_same : (a b : List ℕ) → a ≡ b → pointwise nat_eq a b ≡ true
if_same a b e = is-true (pointwise nat_eq a b) (λ h. other_text a b h e)

abbrev pub all_same : List ℕ → List ℕ → List ℕ → List ℕ → List ℕ → Bool
all_same seven board book report want =
    ((pointwise nat_eq board (take book_from want) && pointwise nat_eq book (take (book_size + 8) (drop book_from want)))
    && pointwise nat_eq report (take (usual_report + 4) (drop report_from want))) && pointwise nat_eq seven (take 7 (drop seven_from want))

pub wanted_if : (seven board book report want : List ℕ) (r : Bool) → r ≡ all_same seven board book report want → IsTrue r ↔ Wanted seven board book report want
wanted_if seven board book report want r e = (
  (λ t. let p3 = both _ _ (sym e ∙ t) in let p2 = both _ _ p3.0 in let p1 = both _ _ p2.0 in
      record { board-wanted = same_if _ _ p1.0; book-wanted = same_if _ _ p1.1; report-wanted = same_if _ _ p2.1; seven-wanted = same_if _ _ p3.1 }),
  (λ w. e ∙ rw (if_same _ _ w.board-wanted, if_same _ _ w.book-wanted, if_same _ _ w.report-wanted, if_same _ _ w.seven-wanted)),
)

-- ---- the call in dirty buffers, b, that leaves d
module _ (s want : List ℕ) (p : Plan) (a : Answer) (b d : Buffers) (e : b ≡ dirty) (f : a ≡ (called_on s p b).answer) (g : d ≡ left_by s p b) where
  pub as-wanted : Wanted (numbers a) d.board d.book d.report want → AsWanted s p dirty want
  as-wanted x = rw e at (rw (f, g) at x)

  pub wanted-as : AsWanted s p dirty want → Wanted (numbers a) d.board d.book d.report want
  wanted-as x = rw (f, g, e) x
