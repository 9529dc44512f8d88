-- Laws of binders: the names at a type's front, their places, and the table that tells them. Assumes nothing.
use Rattle.std.proofs.Common.{◌≡◌, refl, sym, ap, ◌∙◌, Bool, true, false, cond, List, [], ◌∷◌, ℕ, zero, suc, ◌+◌, ◌-◌, ◌≤◌, ◌<◌, add-zero, add-one, arith, length, get_or, set, take, drop, length-set, eqb, ltb, get_or-set_same, get_or-set_other, eqb-true, ne_eqb, eq-eqb, ltb-true, ltb-false}
use lib.ListN.{get_or-eq_default}
use borrow.Author.Tests.{eqb-false}
use Rattle.nodes.specs.Lists.{All}
use Rattle.spelling.specs.declared.Triple.{Triple}
use Rattle.sheet.specs.Plan.{no_triple}
use Rattle.sheet.specs.Rows.{front_of, place_from, place_in, binder_of}
use Rattle.sheet.specs.Used.{table_length}
use Rattle.sheet.specs.Binders.{put_names, binder_by, TellsPlaces, UpTo, InTable}

-- ---- places
place-step : (b : Bool) (i p : ℕ) → p ≤ i → cond b (i + 1) p ≤ i + 1
place-step true i p h = omega arith
place-step false i p h = omega arith

from-small : (xs : List ℕ) (i x p : ℕ) → p ≤ i → place_from xs i x p ≤ i + length xs
unfolding place_from
from-small [] i x p h = omega arith
from-small (y ∷ xs) i x p h = let r = from-small xs (i + 1) x (cond (eqb y x) (i + 1) p) (place-step (eqb y x) i p h) in omega arith

-- a place is one of the names'
pub place-small : (xs : List ℕ) (x : ℕ) → place_in xs x ≤ length xs
place-small xs x = let r = from-small xs 0 x 0 (omega arith) in omega arith

-- counted from another line
from-line : (xs : List ℕ) (i j x p : ℕ) → place_from xs (i + j) x p - i ≡ place_from xs j x (p - i)
unfolding place_from
from-line [] i j x p = refl
from-line (y ∷ xs) i j x p =
    let q = cond (eqb y x) (i + j + 1) p in
    let k : i + j + 1 ≡ i + (j + 1) = omega arith in
    ap (λ (n : ℕ). place_from xs n x q - i) k ∙ from-line xs i (j + 1) x q ∙ ap (place_from xs (j + 1) x) (go (eqb y x))
  where
    go : (b : Bool) → cond b (i + j + 1) p - i ≡ cond b (j + 1) (p - i)
    go true = omega arith
    go false = refl

-- a name that no table has is none of those that one has
from-none : (xs : List ℕ) (i x p : ℕ) → All InTable xs → table_length ≤ x → place_from xs i x p ≡ p
unfolding place_from
from-none [] i x p h k = refl
from-none (y ∷ xs) i x p h k =
    let l = h.0 in
    let e : eqb y x ≡ false = ne_eqb y x (λ q. omega arith) in
    ap (λ (b : Bool). place_from xs (i + 1) x (cond b (i + 1) p)) e ∙ from-none xs (i + 1) x p h.1 k

-- ---- the table
set_is : (u : List ℕ) (y x v : ℕ) → x < length u → get_or (set u y v) x 0 ≡ cond (eqb y x) v (get_or u x 0)
set_is u y x v h = go (eqb y x) refl
  where
    go : (b : Bool) → eqb y x ≡ b → get_or (set u y v) x 0 ≡ cond b v (get_or u x 0)
    go true e = ap (λ (w : ℕ). get_or (set u w v) x 0) (eqb-true y x e) ∙ get_or-set_same u x v 0 h
    go false e = get_or-set_other u y x v 0 (λ q. eqb-false y x e (sym q))

pub length-names : (xs : List ℕ) (u : List ℕ) (i : ℕ) → length (put_names u i xs) ≡ length u
unfolding put_names
length-names [] u i = refl
length-names (y ∷ xs) u i = length-names xs (set u y (i + 1)) (i + 1) ∙ length-set u y (i + 1)

names-are : (xs u : List ℕ) (i x : ℕ) → x < length u → get_or (put_names u i xs) x 0 ≡ place_from xs i x (get_or u x 0)
unfolding put_names place_from
names-are [] u i x h = refl
names-are (y ∷ xs) u i x h =
    let l = length-set u y (i + 1) in
    names-are xs (set u y (i + 1)) (i + 1) x (omega arith) ∙ ap (place_from xs (i + 1) x) (set_is u y x (i + 1) h)

module _ (u : List ℕ) (i : ℕ) (xs : List ℕ) (l : length u ≡ table_length) (older : UpTo u i) where
  past-table : (x : ℕ) → table_length ≤ x → get_or (put_names u i xs) x 0 ≡ 0
  past-table x h = let n = length-names xs u i in get_or-eq_default (put_names u i xs) 0 (omega arith)

  -- the names of a type's front put, the table tells their places
  pub front-tells : All InTable xs → TellsPlaces (put_names u i xs) i xs
  front-tells f x = go (ltb x table_length) refl
    where
      go : (b : Bool) → ltb x table_length ≡ b → get_or (put_names u i xs) x 0 - i ≡ place_in xs x
      go true e =
          let h = ltb-true x table_length e in
          let o = older x in
          let z : get_or u x 0 - i ≡ 0 = omega arith in
          ap (λ (n : ℕ). n - i) (names-are xs u i x (omega arith) ∙ ap (λ (n : ℕ). place_from xs n x (get_or u x 0)) (sym (add-zero i))) ∙ from-line xs i 0 x (get_or u x 0) ∙ ap (place_from xs 0 x) z
      go false e =
          let h = ltb-false x table_length e in
          let z = past-table x h in
          let n = from-none xs 0 x 0 f h in
          omega arith

  -- and has no line after them
  pub front-upto : (end : ℕ) → i + length xs ≤ end → UpTo (put_names u i xs) end
  front-upto end k x = go (ltb x table_length) refl
    where
      go : (b : Bool) → ltb x table_length ≡ b → get_or (put_names u i xs) x 0 ≤ end
      go true e =
          let h = ltb-true x table_length e in
          let n = names-are xs u i x (omega arith) in
          let s = from-small xs i x (get_or u x 0) (older x) in
          omega arith
      go false e = let h = ltb-false x table_length e in let z = past-table x h in omega arith

-- a binder by the table
pub binder-is : (u : List ℕ) (i : ℕ) (xs : List ℕ) (t : Triple) → TellsPlaces u i xs → binder_by u i t ≡ binder_of xs t
binder-is u i xs t f = ap (λ (n : ℕ). cond (eqb t.kind 11) n 0) (f t.value)

-- ---- the front of the lines from i up to end
front-next : (ls : List Triple) (i n : ℕ)
    → front_of (take (suc n) (drop i ls)) ≡ cond (eqb (get_or ls i no_triple).kind 14) ((get_or ls i no_triple).value ∷ front_of (take n (drop (suc i) ls))) []
unfolding front_of
front-next [] zero zero = refl
front-next [] zero (suc n) = refl
front-next [] (suc i) zero = refl
front-next [] (suc i) (suc n) = refl
front-next (t ∷ ls) zero n = refl
front-next (t ∷ ls) (suc i) n = front-next ls i n

pub front-none : (ls : List Triple) (i n : ℕ) → eqb (get_or ls i no_triple).kind 14 ≡ false → front_of (take n (drop i ls)) ≡ []
unfolding front_of
front-none ls i zero e = refl
front-none ls i (suc n) e = front-next ls i n ∙ rw e

pub front_length : (ts : List Triple) → length (front_of ts) ≤ length ts
unfolding front_of
front_length [] = omega arith
front_length (t ∷ ts) = go (eqb t.kind 14) (front_length ts)
  where
    go : (b : Bool) → length (front_of ts) ≤ length ts → length (cond b (t.value ∷ front_of ts) []) ≤ suc (length ts)
    go true h = omega arith
    go false h = omega arith

-- `mark_front`, line by line
module _ (ls : List Triple) (i end : ℕ) (u : List ℕ) where
  abbrev whole : List ℕ
  whole = put_names u i (front_of (take (end - i) (drop i ls)))

  pub mark-over : end ≤ i → u ≡ whole
  unfolding put_names front_of
  mark-over h = let e : end - i ≡ 0 = omega arith in rw e

  pub mark-other : {t : Triple} → t ≡ get_or ls i no_triple → (t.kind ≡ 14 → ⊥) → u ≡ whole
  unfolding put_names
  mark-other e n = let z = ne_eqb (get_or ls i no_triple).kind 14 (λ q. n (ap (λ (v : Triple). v.kind) e ∙ q)) in rw (front-none ls i (end - i) z)

  pub mark-next : i < end → {t : Triple} → t ≡ get_or ls i no_triple → t.kind ≡ 14 → {v : List ℕ} → v ≡ set u t.value (i + 1)
      → (put_names v (i + 1) (front_of (take (end - (i + 1)) (drop (i + 1) ls))) ≡ whole) × (length v ≡ length u)
  unfolding put_names
  mark-next h {t} e k {v} s =
      let z : eqb (get_or ls i no_triple).kind 14 ≡ true = eq-eqb (get_or ls i no_triple).kind 14 (ap (λ (v : Triple). v.kind) (sym e) ∙ k) in
      let n : end - i ≡ suc (end - (i + 1)) = omega arith in
      let f : front_of (take (end - i) (drop i ls)) ≡ t.value ∷ front_of (take (end - (i + 1)) (drop (i + 1) ls)) =
      ap (λ (m : ℕ). front_of (take m (drop i ls))) n ∙ front-next ls i (end - (i + 1)) ∙ rw (z, e, add-one) in
      (ap (λ (w : List ℕ). put_names w (i + 1) (front_of (take (end - (i + 1)) (drop (i + 1) ls)))) s ∙ sym (ap (put_names u i) f), ap length s ∙ length-set u t.value (i + 1))
