-- The bytes of a field, one after the other; those of short fields by where they lie; and four bytes as one word.
-- Assumes nothing.
use Rattle.std.proofs.Common.{Some, None, ◌≡◌, refl, sym, ap, ◌∙◌, Bool, true, false, cond, ◌&&◌, List, ℕ, zero, suc, add_assoc, add-zero, get_or, ◌+◌, ◌*◌, ◌-◌, ◌^◌, ◌≤◌, ◌<◌, arith, T, leb, eqb, le-leb, leb-true, leb-false, eq-eqb, ne_eqb, eqb-true}
use mathlib.Core.Bool.{and-true, and_assoc}
use borrow.Author.Tests.{lt-leb, eqb-false}
use Rattle.spelling.specs.declared.Field.{Field}
use Rattle.spelling.specs.declared.Field.TheVariants.{Blank, Minus, Number, Bad}
use Rattle.spelling.specs.Spelling.{field_from, blank, spaces_from, digit_step, other_step, step}
use Rattle.spelling.specs.Few.{plain}
use Rattle.spelling.proofs.Few.{lost, lost-one}

-- ---- a field from any place on
field_step : (s : List ℕ) (at n m : ℕ) (f : Field) → n ≡ suc m → field_from s at n f ≡ field_from s (at + 1) m (step f (get_or s at 0))
unfolding field_from
field_step s at n m f e = rw e

pub field-again : (s : List ℕ) (at w i : ℕ) (f g : Field) → i < w → g ≡ step f (get_or s (at + i) 0) → field_from s (at + (i + 1)) (w - (i + 1)) g ≡ field_from s (at + i) (w - i) f
field-again s at w i f g h e = rw (e, ← add_assoc at i 1) (sym (field_step s (at + i) (w - i) (w - (i + 1)) f (omega arith)))

pub field-done : (s : List ℕ) (at n : ℕ) (f : Field) → n ≡ 0 → field_from s at n f ≡ f
unfolding field_from
field-done s at n f e = rw e

-- ---- the spaces at its front
module _ (s : List ℕ) where
  space-here : (at n m : ℕ) → n ≡ suc m → get_or s at 0 ≡ 32 → spaces_from s at n ≡ suc (spaces_from s (at + 1) m)
  unfolding spaces_from
  space-here at n m e h = rw (e, h)

  pub space-again : (at w i : ℕ) → i < w → get_or s (at + i) 0 ≡ 32 → i + 1 + spaces_from s (at + (i + 1)) (w - (i + 1)) ≡ i + spaces_from s (at + i) (w - i)
  space-again at w i h e = rw (space-here (at + i) (w - i) (w - (i + 1)) (omega arith) e, ← add_assoc at i 1) (omega arith)

  pub space-stop : (at w i : ℕ) → (get_or s (at + i) 0 ≡ 32 → ⊥) → i ≡ i + spaces_from s (at + i) (w - i)
  unfolding spaces_from
  space-stop at w i h = sym (go (w - i) ∙ add-zero i)
    where
      go : (n : ℕ) → i + spaces_from s (at + i) n ≡ i + 0
      go zero = refl
      go (suc n) = rw (ne_eqb (get_or s (at + i) 0) 32 h)

  pub space-done : (at w i : ℕ) → w ≤ i → i ≡ i + spaces_from s (at + i) (w - i)
  unfolding spaces_from
  space-done at w i h = let e : w - i ≡ 0 = omega arith in rw (e, add-zero)

  -- bytes that are spaces, one more
  blank-snoc : (i at : ℕ) → blank s at (suc i) ≡ (blank s at i && eqb (get_or s (at + i) 0) 32)
  unfolding blank
  blank-snoc zero at = rw add-zero (and-true (eqb (get_or s at 0) 32))
  blank-snoc (suc i) at =
      let e : at + 1 + i ≡ at + suc i = omega arith in
      ap (λ (b : Bool). eqb (get_or s at 0) 32 && b) (blank-snoc i (at + 1) ∙ rw e) ∙ sym (and_assoc (eqb (get_or s at 0) 32) (blank s (at + 1) i) (eqb (get_or s (at + suc i) 0) 32))

  pub blank-again : (at i : ℕ) {a r : Bool} → a ≡ blank s at i → r ≡ (a && eqb (get_or s (at + i) 0) 32) → r ≡ blank s at (i + 1)
  blank-again at i e q =
      let k : i + 1 ≡ suc i = omega arith in
      q ∙ rw (e, k) (sym (blank-snoc i at))

-- ---- one byte by where it lies
step-below : (f : Field) (b : ℕ) → b < 48 → step f b ≡ other_step f b
step-below f b h = rw (lt-leb 48 b h)

step-above : (f : Field) (b : ℕ) → 57 < b → step f b ≡ other_step f b
step-above f b h = simp (le-leb 48 b (omega arith), lt-leb b 57 h)

step-digit : (f : Field) (b : ℕ) → 48 ≤ b → b ≤ 57 → step f b ≡ digit_step f (b - 48)
step-digit f b h k = simp (le-leb 48 b h, le-leb b 57 k)

other_none : (f : Field) (b : ℕ) → plain (other_step f b) ≡ None
other_none Blank b = go (eqb b 32) (eqb b 45)
  where
    go : (t u : Bool) → plain (cond t Blank (cond u Minus Bad)) ≡ None
    go true u = refl
    go false true = refl
    go false false = refl
other_none Minus b = refl
other_none (Number n m) b = refl
other_none Bad b = refl

pub none_below : (f : Field) (b : ℕ) → b < 48 → plain (step f b) ≡ None
none_below f b h = ap plain (step-below f b h) ∙ other_none f b

pub none_above : (f : Field) (b : ℕ) → 57 < b → plain (step f b) ≡ None
none_above f b h = ap plain (step-above f b h) ∙ other_none f b

-- ---- two bytes after spaces
pub one-digit : (a b : ℕ) → a ≡ 32 → 48 ≤ b → b ≤ 57 → plain (step (step Blank a) b) ≡ Some (b - 48)
one-digit a b e h k = rw e (ap plain (step-digit Blank b h k))

lost-other : (a : ℕ) → (a ≡ 32 → ⊥) → T (lost (other_step Blank a))
lost-other a n = rw (ne_eqb a 32 n) (go (eqb a 45))
  where
    go : (t : Bool) → T (lost (cond t Minus Bad))
    go true = tt
    go false = tt

pub lost-below : (a : ℕ) → (a ≡ 32 → ⊥) → a < 49 → T (lost (step Blank a))
lost-below a n h = go (leb 48 a) refl
  where
    go : (t : Bool) → leb 48 a ≡ t → T (lost (step Blank a))
    go true e = let l = leb-true 48 a e in let z : a ≡ 48 = omega arith in rw z tt
    go false e = let l = leb-false 48 a e in rw (step-below Blank a (omega arith)) (lost-other a n)

pub lost-above : (a : ℕ) → 57 < a → T (lost (step Blank a))
lost-above a h = rw (step-above Blank a h) (lost-other a (λ e. omega arith))

more-digit : (m b : ℕ) → 0 < m → m < 100000 → 48 ≤ b → b ≤ 57 → step (Number false m) b ≡ Number false (10 * m + (b - 48))
more-digit m b p q h k =
    step-digit (Number false m) b h k
    ∙ simp (ne_eqb m 0 (λ e. omega arith), le-leb (10 * m + (b - 48)) (2 ^ 63) (omega arith))

pub two_digits : (a b : ℕ) → 49 ≤ a → a ≤ 57 → 48 ≤ b → b ≤ 57 → plain (step (step Blank a) b) ≡ Some (10 * (a - 48) + (b - 48))
two_digits a b p q h k =
    ap (λ (f : Field). plain (step f b)) (step-digit Blank a (omega arith) q)
    ∙ ap plain (more-digit (a - 48) b (omega arith) (omega arith) h k)

-- ---- two bytes after a number
pub late_below : (n a b : ℕ) → a < 48 → plain (step (step (Number false n) a) b) ≡ None
late_below n a b h = lost-one (step (Number false n) a) b (rw (step-below (Number false n) a h) tt)

pub late-above : (n a b : ℕ) → 57 < a → plain (step (step (Number false n) a) b) ≡ None
late-above n a b h = lost-one (step (Number false n) a) b (rw (step-above (Number false n) a h) tt)

pub more-digits : (n a b : ℕ) → 0 < n → n < 100 → 48 ≤ a → a ≤ 57 → 48 ≤ b → b ≤ 57
    → plain (step (step (Number false n) a) b) ≡ Some (10 * (10 * n + (a - 48)) + (b - 48))
more-digits n a b p q h k i j =
    ap (λ (f : Field). plain (step f b)) (more-digit n a p (omega arith) h k)
    ∙ ap plain (more-digit (10 * n + (a - 48)) b (omega arith) (omega arith) i j)

-- ---- four bytes as one word
pub four-spaces : (a b c d : ℕ) → a < 256 → b < 256 → c < 256 → d < 256
    → eqb (a + 256 * b + 65536 * (c + 256 * d)) 538976288 ≡ (eqb a 32 && (eqb b 32 && (eqb c 32 && eqb d 32)))
four-spaces a b c d ha hb hc hd = go (eqb a 32) refl (eqb b 32) refl (eqb c 32) refl (eqb d 32) refl
  where
    go : (p : Bool) → eqb a 32 ≡ p → (q : Bool) → eqb b 32 ≡ q → (r : Bool) → eqb c 32 ≡ r → (s : Bool) → eqb d 32 ≡ s
        → eqb (a + 256 * b + 65536 * (c + 256 * d)) 538976288 ≡ (p && (q && (r && s)))
    go true p true q true r true s =
        let x = eqb-true a 32 p in
        let y = eqb-true b 32 q in
        let z = eqb-true c 32 r in
        let w = eqb-true d 32 s in
        eq-eqb (a + 256 * b + 65536 * (c + 256 * d)) 538976288 (omega arith)
    go true p true q true r false s = let w = eqb-false d 32 s in ne_eqb (a + 256 * b + 65536 * (c + 256 * d)) 538976288 (λ e. w (omega arith))
    go true p true q false r s' s = let w = eqb-false c 32 r in ne_eqb (a + 256 * b + 65536 * (c + 256 * d)) 538976288 (λ e. w (omega arith))
    go true p false q r' r s' s = let w = eqb-false b 32 q in ne_eqb (a + 256 * b + 65536 * (c + 256 * d)) 538976288 (λ e. w (omega arith))
    go false p q' q r' r s' s = let w = eqb-false a 32 p in ne_eqb (a + 256 * b + 65536 * (c + 256 * d)) 538976288 (λ e. w (omega arith))
