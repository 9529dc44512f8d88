-- Whether a sheet has a Case. Assumes nothing.
use Rattle.std.proofs.Common.{refl, false, ◌≡◌, sym, ap, ◌∙◌, Bool, true, ◌||◌, List, [], ◌∷◌, ℕ, zero, suc, ◌+◌, ◌≤◌, ◌<◌, add-one, arith, length, get_or, drop, drop_of_length-le, eqb, drop-cons, eq-eqb}
use mathlib.Core.Bool.{or-true, or-false}
use Rattle.spelling.specs.declared.Triple.{Triple}
use Rattle.sheet.specs.Plan.{no_triple}
use Rattle.inferring.specs.Inferring.{has_case}

-- a sheet with a line of that kind has one
pub case-here : (ls : List Triple) (i : ℕ) → (get_or ls i no_triple).kind ≡ 27 → has_case ls ≡ true
unfolding has_case
case-here [] i e = absurd (omega arith)
case-here (t ∷ ts) zero e = rw (eq-eqb t.kind 27 e)
case-here (t ∷ ts) (suc i) e = ap (λ (b : Bool). eqb t.kind 27 || b) (case-here ts i e) ∙ or-true (eqb t.kind 27)

-- ---- the lines from i on
module _ (ls : List Triple) (i : ℕ) where
  here : i < length ls → has_case (drop i ls) ≡ (eqb (get_or ls i no_triple).kind 27 || has_case (drop (i + 1) ls))
  unfolding has_case
  here h = ap has_case (drop-cons ls i no_triple h) ∙ rw add-one

  pub case-turn : (b : Bool) → i < length ls → (b || eqb (get_or ls i no_triple).kind 27 || has_case (drop (i + 1) ls)) ≡ (b || has_case (drop i ls))
  case-turn true h = refl
  case-turn false h = sym (here h)

  pub case-end : (b : Bool) → length ls ≤ i → b ≡ (b || has_case (drop i ls))
  unfolding has_case
  case-end b h = sym (ap (λ (l : List Triple). b || has_case l) (drop_of_length-le ls h) ∙ or-false b)
