-- Laws of `All`, `In` and `count`.
-- Assumes nothing.
use Rattle.std.proofs.Common.{ℕ, zero, suc, ◌+◌, arith, take, drop, ◌≡◌, refl, inl, inr, Bool, true, false, cond, List, [], ◌∷◌, ◌++◌}
use mathlib.Core.Path.{subst⁻¹}
use Rattle.nodes.specs.Lists.{All, In, count}
use Rattle.nodes.specs.Parts.{take_parts, drop_parts}

-- a choice, proved by its two sides
pub cond_ind {ℓ} : {A : Type ℓ} (P : A → Type 0) (b : Bool) {x y : A} → (b ≡ true → P x) → (b ≡ false → P y) → P (cond b x y)
cond_ind P true f g = f refl
cond_ind P false f g = g refl

module _ {A : Type 0} (P : A → Type 0) where
  pub all_append : (xs ys : List A) → All P xs → All P ys → All P (xs ++ ys)
  all_append [] ys h k = k
  all_append (x ∷ xs) ys h k = (h.0, all_append xs ys h.1 k)

pub all_map : {A : Type 0} {P Q : A → Type 0} → ((x : A) → P x → Q x) → (xs : List A) → All P xs → All Q xs
all_map f [] h = tt
all_map f (x ∷ xs) h = (f x h.0, all_map f xs h.1)

module _ {A : Type 0} (parts : A → ℕ) where
  pub all_take : (P : A → Type 0) (xs : List A) (n : ℕ) → All P xs → All P (take_parts parts xs n)
  all_take P [] n h = tt
  all_take P (x ∷ xs) zero h = tt
  all_take P (x ∷ xs) (suc n) h = (h.0, all_take P xs (parts x + n) h.1)

  pub all_drop : (P : A → Type 0) (xs : List A) (n : ℕ) → All P xs → All P (drop_parts parts xs n)
  all_drop P [] n h = tt
  all_drop P (x ∷ xs) zero h = h
  all_drop P (x ∷ xs) (suc n) h = all_drop P xs (parts x + n) h.1

module _ {A : Type 0} (P : A → Type 0) where
  pub all_split : (xs ys : List A) → All P (xs ++ ys) → All P xs × All P ys
  all_split [] ys h = (tt, h)
  all_split (x ∷ xs) ys h = let r = all_split xs ys h.1 in ((h.0, r.0), r.1)

pub all_in : {A : Type 0} (P : A → Type 0) (xs : List A) (x : A) → In x xs → All P xs → P x
all_in P [] x m h = absurd m
all_in P (y ∷ ys) x (inl e) h = subst⁻¹ P e h.0
all_in P (y ∷ ys) x (inr m) h = all_in P ys x m h.1

pub all_of : {A : Type 0} (P : A → Type 0) (xs : List A) → ((x : A) → In x xs → P x) → All P xs
all_of P [] f = tt
all_of P (y ∷ ys) f = (f y (inl refl), all_of P ys (λ x m. f x (inr m)))

pub all-of-take : {A : Type 0} (P : A → Type 0) (n : ℕ) (xs : List A) → All P xs → All P (take n xs)
all-of-take P zero xs h = tt
all-of-take P (suc n) [] h = tt
all-of-take P (suc n) (x ∷ xs) h = (h.0, all-of-take P n xs h.1)

pub all-of-drop : {A : Type 0} (P : A → Type 0) (n : ℕ) (xs : List A) → All P xs → All P (drop n xs)
all-of-drop P zero xs h = h
all-of-drop P (suc n) [] h = tt
all-of-drop P (suc n) (x ∷ xs) h = all-of-drop P n xs h.1

pub count-append : {A : Type 0} (p : A → Bool) (xs ys : List A) → count p (xs ++ ys) ≡ count p xs + count p ys
unfolding count
count-append p [] ys = omega arith
count-append p (x ∷ xs) ys = let h = count-append p xs ys in omega arith
