-- Laws of `take_parts`, `drop_parts` and `Whole`, for any number of parts that an element may have. Assumes nothing.
use Rattle.std.proofs.Common.{◌≡◌, refl, ap, List, [], ◌∷◌, ◌++◌, ℕ, zero, suc, ◌+◌, ◌-◌, ◌≤◌, zero-add, arith, length, take, drop}
use Rattle.nodes.specs.Parts.{take_parts, drop_parts}

module _ {A : Type 0} (parts : A → ℕ) where
  pub take_none : (xs : List A) → take_parts parts xs 0 ≡ []
  take_none [] = refl
  take_none (x ∷ xs) = refl

  pub drop-none : (xs : List A) → drop_parts parts xs 0 ≡ xs
  drop-none [] = refl
  drop-none (x ∷ xs) = refl

  -- one element of a walk over n parts
  pub take-turn : (x : A) (xs : List A) (n : ℕ) → (n ≡ 0 → ⊥) → take_parts parts (x ∷ xs) n ≡ x ∷ take_parts parts xs (n - 1 + parts x)
  take-turn x xs zero h = absurd (h refl)
  take-turn x xs (suc n) h = let e : parts x + n ≡ suc n - 1 + parts x = omega arith in ap (λ (m : ℕ). x ∷ take_parts parts xs m) e

  -- no part ends before the list does
  pub take_all : (xs : List A) (n : ℕ) → length xs ≤ n → take_parts parts xs n ≡ xs
  take_all [] n h = refl
  take_all (x ∷ xs) zero h = absurd (omega arith)
  take_all (x ∷ xs) (suc n) h = ap (λ (l : List A). x ∷ l) (take_all xs (parts x + n) (omega arith))

  pub take-drop : (xs : List A) (n : ℕ) → take_parts parts xs n ++ drop_parts parts xs n ≡ xs
  take-drop [] n = refl
  take-drop (x ∷ xs) zero = refl
  take-drop (x ∷ xs) (suc n) = ap (λ (l : List A). x ∷ l) (take-drop xs (parts x + n))

  pub length-take : (xs : List A) (n : ℕ) → length (take_parts parts xs n) ≤ length xs
  length-take [] n = omega arith
  length-take (x ∷ xs) zero = omega arith
  length-take (x ∷ xs) (suc n) = let h = length-take xs (parts x + n) in omega arith

  -- both are plain cuts of the list, at the number of elements in the parts
  pub is-take : (xs : List A) (n : ℕ) → take_parts parts xs n ≡ take (length (take_parts parts xs n)) xs
  is-take [] n = refl
  is-take (x ∷ xs) zero = refl
  is-take (x ∷ xs) (suc n) = ap (λ (l : List A). x ∷ l) (is-take xs (parts x + n))

  pub is-drop : (xs : List A) (n : ℕ) → drop_parts parts xs n ≡ drop (length (take_parts parts xs n)) xs
  is-drop [] n = refl
  is-drop (x ∷ xs) zero = refl
  is-drop (x ∷ xs) (suc n) = is-drop xs (parts x + n)

  more : (m n : ℕ) → suc m + n ≡ suc (m + n)
  more m n = omega arith

  same : (p m n : ℕ) → p + (m + n) ≡ p + m + n
  same p m n = omega arith

  -- the first parts of more parts, and what comes after them
  pub take-take : (xs : List A) (m n : ℕ) → take_parts parts (take_parts parts xs (m + n)) m ≡ take_parts parts xs m
  take-take [] m n = refl
  take-take (x ∷ xs) zero zero = refl
  take-take (x ∷ xs) zero (suc n) = let e : 0 + suc n ≡ suc n = omega arith in rw e
  take-take (x ∷ xs) (suc m) n =
      rw (more m n, same (parts x) m n) (ap (λ (l : List A). x ∷ l) (take-take xs (parts x + m) n))

  pub drop-take : (xs : List A) (m n : ℕ) → drop_parts parts (take_parts parts xs (m + n)) m ≡ take_parts parts (drop_parts parts xs m) n
  drop-take [] m n = refl
  drop-take (x ∷ xs) zero zero = refl
  drop-take (x ∷ xs) zero (suc n) = let e : 0 + suc n ≡ suc n = omega arith in rw e
  drop-take (x ∷ xs) (suc m) n = rw (more m n, same (parts x) m n) (drop-take xs (parts x + m) n)

  pub drop-drop : (xs : List A) (m n : ℕ) → drop_parts parts xs (m + n) ≡ drop_parts parts (drop_parts parts xs m) n
  drop-drop [] m n = refl
  drop-drop (x ∷ xs) zero n = ap (drop_parts parts (x ∷ xs)) (zero-add n)
  drop-drop (x ∷ xs) (suc m) n = rw (more m n, same (parts x) m n) (drop-drop xs (parts x + m) n)
