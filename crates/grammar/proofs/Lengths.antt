-- Which lengths a sheet may have, in document 01's digits, by computation. Assumes nothing.
use Rattle.std.proofs.Common.{◌≡◌, refl, true, false, [], ◌∷◌, map}
use Rattle.grammar.specs.Check.{length_ok}

-- no byte, one line, a byte less and a byte more, 1,999, 2,000 and 2,001 lines
pub lengths : map length_ok (0 ∷ 29 ∷ 28 ∷ 30 ∷ 57971 ∷ 58000 ∷ 57999 ∷ 58001 ∷ 58029 ∷ []) ≡ false ∷ true ∷ false ∷ false ∷ true ∷ true ∷ false ∷ false ∷ false ∷ []
lengths = refl
