-- The sizes, by what the definitions ask and write. Assumes nothing.
use Rattle.grammar.specs.declared.SheetError.TheVariants.{Length, Misspelt, Unfit}
use Rattle.grammar.specs.declared.SheetError.{SheetError}
use Rattle.std.specs.Prelude.{Result, Ok, Err}
use mathlib.Core.Path.{◌≡◌, refl, sym}
use mathlib.Core.Bool.{Bool, true, false, cond, ◌&&◌}
use mathlib.Core.List.{List}
use Prim.Native.Nat.{ℕ, ◌*◌, ◌%◌, ◌≤◌}
use native.Mathlib.Omega.{arith}
use lib.Dec.{ltb, leb, eqb}
use lib.ListN.{length}
use borrow.Author.Tests.{leb-true, eqb-true}
use Rattle.sizes.specs.Sizes.{line_length, sheet_bytes, highest_ceiling, highest_limit, board_size, book_size, report_stride}
use Rattle.nodes.specs.Nodes.{Ty}
use Rattle.grammar.specs.Check.{length_ok, check}
use Rattle.sheet.specs.Plan.{triples, plan_of}
use Rattle.judgment.specs.declared.TypeError.{TypeError}
use Rattle.judgment.specs.declared.TypeError.TheVariants.{UnboundVariable, UnboundDataConstructor, NotAFunction, ArityMismatch, SubtypingError, TypeUnificationError, InstantiationError, IntrinsicArityMismatch, UnknownIntrinsic, BoardFull, TypeTooLong, NoFreshNumber, SolutionsFull, OutOfScope}
use Rattle.judgment.specs.Solutions.{Solutions}
use Rattle.judgment.specs.Board.{state}
use Rattle.judgment.specs.Run.{End, accepted, ceiling, refused_by, Run, run}
use Rattle.judgment.specs.Levels.{Levels, own_levels, Mode}
use Rattle.judgment.specs.Result.{error_number, end_number, result_of, run_of, judge, limits_for, Buffers, Called, board_words, book_words, report_words, refused_at, limit_bad, too_short, by_check, call}
use Rattle.judgment.proofs.Words.{length-board, length-book, length-report}
use Rattle.exports.specs.Interface.{Least, Highest, HighestLimit, Longest, OneLine}

-- ---- the buffers
least : (w : ℕ) → Least w board_size book_size (report_stride * w)
least w b = refl

pub board-words : (board_size ≡ length board_words) × ((w : ℕ) → Least w board_size book_size (report_stride * w))
board-words = (sym length-board, least)

pub book-words : ((σ : Solutions) (v : Levels) (n : ℕ) → book_size ≡ length (book_words σ v n)) × ((w : ℕ) → Least w board_size book_size (report_stride * w))
book-words = (λ σ v n. sym (length-book σ v n), least)

pub report-words : (w : ℕ) {r : ℕ} → r ≡ report_stride * w → ((t : Ty) → r ≡ length (report_words w t)) × Least w board_size book_size r
report-words w e = rw e (λ t. sym (length-report w t), least w)

-- ---- the ceiling and the limit: no run has their numbers
abbrev Other : ℕ → Type 0
Other n = (eqb n 1 ≡ false) × (eqb n 32 ≡ false)

error-other : (e : TypeError) → Other (error_number e)
error-other (UnboundVariable x) = (refl, refl)
error-other (UnboundDataConstructor x) = (refl, refl)
error-other (NotAFunction n) = (refl, refl)
error-other (ArityMismatch e a) = (refl, refl)
error-other (SubtypingError l r) = (refl, refl)
error-other TypeUnificationError = (refl, refl)
error-other (InstantiationError k n) = (refl, refl)
error-other (IntrinsicArityMismatch a) = (refl, refl)
error-other (UnknownIntrinsic x) = (refl, refl)
error-other BoardFull = (refl, refl)
error-other TypeTooLong = (refl, refl)
error-other NoFreshNumber = (refl, refl)
error-other SolutionsFull = (refl, refl)
error-other OutOfScope = (refl, refl)

end-other : (e : End) → Other (end_number e)
end-other accepted = (refl, refl)
end-other ceiling = (refl, refl)
end-other (refused_by e ts) = error-other e

run-other : (p : Bool) (v : Levels) (r : Run) → Other (result_of p v r).answer.number
unfolding result_of
run-other p v (run ss e (state Γ σ n)) = end-other e

module _ (m : Mode) (s : List ℕ) (c w : ℕ) (b : Buffers) where
  check-other : (v : Result Unit SheetError) → Other (by_check m s c w b v).answer.number
  unfolding judge
  check-other (Ok _) = let p = plan_of (triples s) in run-other p.plain own_levels (run_of (limits_for m w) c p)
  check-other (Err Length) = (refl, refl)
  check-other (Err (Misspelt l)) = (refl, refl)
  check-other (Err (Unfit l)) = (refl, refl)

  -- the call by its three tests
  abbrev tested : Bool → Bool → Bool → Called
  tested x y z =
      cond x (record { answer = refused_at 1 0; after = b }) (cond y (record { answer = refused_at 32 0; after = b }) (cond z (record { answer = refused_at 2 0; after = b }) (by_check m s c w b (check s))))

  one : (x y z : Bool) → eqb (tested x y z).answer.number 1 ≡ x
  one true y z = refl
  one false true z = refl
  one false false true = refl
  one false false false = (check-other (check s)).0

  thirty_two : (x y z : Bool) → eqb (tested x y z).answer.number 1 ≡ false → eqb (tested x y z).answer.number 32 ≡ y
  thirty_two true y z e = absurd (let u : ◌≡◌ {A = ℕ} 0 1 = cc in omega arith)
  thirty_two false true z e = refl
  thirty_two false false true e = refl
  thirty_two false false false e = (check-other (check s)).1

pub highest : Highest highest_ceiling
unfolding call
highest m s c w b = one m s c w b (ltb highest_ceiling c) (limit_bad w) (too_short w b)

pub highest-limit : HighestLimit highest_limit
unfolding call
highest-limit m s c w b e = thirty_two m s c w b (ltb highest_ceiling c) (limit_bad w) (too_short w b) e

-- ---- the sheet
module _ (n : ℕ) where
  fits : length_ok n ≡ true → (n ≤ sheet_bytes) × (n % line_length ≡ 0)
  fits = go (ltb 0 n) (leb n sheet_bytes) (eqb (n % line_length) 0) refl refl
    where
      go : (a b d : Bool) → leb n sheet_bytes ≡ b → eqb (n % line_length) 0 ≡ d → (a && (b && d)) ≡ true → (n ≤ sheet_bytes) × (n % line_length ≡ 0)
      go true true true h k e = (leb-true n sheet_bytes h, eqb-true (n % line_length) 0 k)
      go true true false h k e = absurd (let z : ◌≡◌ {A = ℕ} 0 1 = cc in omega arith)
      go true false d h k e = absurd (let z : ◌≡◌ {A = ℕ} 0 1 = cc in omega arith)
      go false b d h k e = absurd (let z : ◌≡◌ {A = ℕ} 0 1 = cc in omega arith)

pub longest : Longest sheet_bytes
longest = (refl, λ m e. (fits m e).0)

pub one_line : OneLine line_length
one_line = (refl, λ m e. (fits m e).1)
