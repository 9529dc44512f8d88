-- Lists in prefix order: each element says how many parts follow it, as a node of a type or a line of a sheet does.
-- Assumes nothing: these are definitions.
use Rattle.std.specs.Prelude.{ℕ, zero, suc, ◌+◌, ◌≡◌, List, [], ◌∷◌}

module _ {A : Type 0} (parts : A → ℕ) where
  -- the first n whole parts of a list
  abbrev pub take_parts : List A → ℕ → List A
  take_parts [] n = []
  take_parts (x ∷ xs) zero = []
  take_parts (x ∷ xs) (suc n) = x ∷ take_parts xs (parts x + n)

  -- what stands after them
  abbrev pub drop_parts : List A → ℕ → List A
  drop_parts [] n = []
  drop_parts (x ∷ xs) zero = x ∷ xs
  drop_parts (x ∷ xs) (suc n) = drop_parts xs (parts x + n)

  -- a list is n whole parts: none is cut short, and nothing stands after them
  abbrev pub Whole : List A → ℕ → Type 0
  Whole [] n = n ≡ 0
  Whole (x ∷ xs) zero = ⊥
  Whole (x ∷ xs) (suc n) = Whole xs (parts x + n)
