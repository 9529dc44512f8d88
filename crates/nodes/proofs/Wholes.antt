-- Laws of `Whole`: parts put together, replaced and taken apart stay whole, and no whole list begins another. Assumes
-- nothing.
use Rattle.std.proofs.Common.{◌≡◌, refl, ap, ap₂, ◌∙◌, List, [], ◌∷◌, ◌++◌, ℕ, zero, suc, ◌+◌, ◌≤◌, arith, length, take}
use mathlib.Core.Path.{subst⁻¹}
use Rattle.nodes.specs.Parts.{take_parts, drop_parts, Whole}
use Rattle.nodes.proofs.PartLaws.{take_none}

module _ {A : Type 0} (parts : A → ℕ) where
  whole-as : (xs : List A) {m n : ℕ} → m ≡ n → Whole parts xs m → Whole parts xs n
  whole-as xs e h = rw e at h

  -- m parts and then n parts are m + n parts
  pub whole_append : (xs ys : List A) (m n : ℕ) → Whole parts xs m → Whole parts ys n → Whole parts (xs ++ ys) (m + n)
  whole_append [] ys m n h k = whole-as ys (let z : m ≡ 0 = h in omega arith) k
  whole_append (x ∷ xs) ys zero n h k = absurd h
  whole_append (x ∷ xs) ys (suc m) n h k =
      let e : parts x + m + n ≡ parts x + (m + n) = omega arith in
      let r = whole-as (xs ++ ys) e (whole_append xs ys (parts x + m) n h k) in
      let f : suc m + n ≡ suc (m + n) = omega arith in
      rw f r

  -- the first m of m + n parts, and the rest
  pub whole_split : (xs : List A) (m n : ℕ) → Whole parts xs (m + n) → Whole parts (take_parts parts xs m) m × Whole parts (drop_parts parts xs m) n
  whole_split [] m n h = (let z : m + n ≡ 0 = h in omega arith, let z : m + n ≡ 0 = h in omega arith)
  whole_split (x ∷ xs) zero n h = (refl, whole-as (x ∷ xs) (let e : 0 + n ≡ n = omega arith in e) h)
  whole_split (x ∷ xs) (suc m) n h =
      let f : suc m + n ≡ suc (m + n) = omega arith in
      let g : Whole parts xs (parts x + (m + n)) = rw f at h in
      let e : parts x + (m + n) ≡ parts x + m + n = omega arith in
      whole_split xs (parts x + m) n (whole-as xs e g)

  -- each element replaced by another with as many parts
  pub whole-map : {B : Type 0} (others : B → ℕ) (f : A → B) → ((x : A) → others (f x) ≡ parts x) → (g : List A → List B) → (g [] ≡ [])
      → ((x : A) (xs : List A) → g (x ∷ xs) ≡ f x ∷ g xs) → (xs : List A) (n : ℕ) → Whole parts xs n → Whole others (g xs) n
  whole-map others f e g nil cons [] n h = rw nil h
  whole-map others f e g nil cons (x ∷ xs) zero h = absurd h
  whole-map others f e g nil cons (x ∷ xs) (suc n) h =
      rw (cons x xs, e x) (whole-map others f e g nil cons xs (parts x + n) h)

  -- m whole parts are the first m parts of whatever begins with them
  pub take_whole : (xs ys : List A) (m : ℕ) → Whole parts xs m → take_parts parts (xs ++ ys) m ≡ xs
  take_whole [] ys m h = ap (take_parts parts ys) h ∙ take_none parts ys
  take_whole (x ∷ xs) ys zero h = absurd h
  take_whole (x ∷ xs) ys (suc m) h = ap (λ (l : List A). x ∷ l) (take_whole xs ys (parts x + m) h)

  -- no part is empty
  pub whole-few : (xs : List A) (m : ℕ) → Whole parts xs m → m ≤ length xs
  whole-few [] m h = let z : m ≡ 0 = h in omega arith
  whole-few (x ∷ xs) zero h = absurd h
  whole-few (x ∷ xs) (suc m) h = let z = whole-few xs (parts x + m) h in omega arith

  -- where two lists that begin with as many parts agree in their first k elements, these parts do
  pub prefix-free : (k : ℕ) (xs ys us vs : List A) (m : ℕ) → Whole parts xs m → Whole parts ys m → take k (xs ++ us) ≡ take k (ys ++ vs) → take k xs ≡ take k ys
  prefix-free zero xs ys us vs m h g e = refl
  prefix-free (suc k) [] [] us vs m h g e = refl
  prefix-free (suc k) [] (y ∷ ys) us vs zero h g e = absurd g
  prefix-free (suc k) [] (y ∷ ys) us vs (suc m) h g e = absurd (let z : suc m ≡ 0 = h in omega arith)
  prefix-free (suc k) (x ∷ xs) ys us vs zero h g e = absurd h
  prefix-free (suc k) (x ∷ xs) [] us vs (suc m) h g e = absurd (let z : suc m ≡ 0 = g in omega arith)
  prefix-free (suc k) (x ∷ xs) (y ∷ ys) us vs (suc m) h g e =
      let a : x ≡ y = cc in
      let b : take k (xs ++ us) ≡ take k (ys ++ vs) = cc in
      let f : Whole parts ys (parts x + m) = subst⁻¹ (λ (z : A). Whole parts ys (parts z + m)) a g in
      ap₂ {C = List A} (λ z zs. z ∷ zs) a (prefix-free k xs ys us vs (parts x + m) h f b)
