-- One byte of a field, and one line of a sheet, taken off the front.
-- Assumes nothing.
use Rattle.std.proofs.Common.{Option, Some, None, is_some, ◌≡◌, refl, sym, ◌∙◌, ap, Bool, true, false, cond, ◌&&◌, List, [], ◌∷◌, ℕ, zero, suc, ◌+◌, ◌*◌, ◌-◌, ◌/◌, ◌≤◌, ◌<◌, arith, add_assoc, add-zero, zero-add, add-one, drop-cons, T, ltb, eqb, eqb→eq, ltb-true, ltb-false, ne_eqb, length, get_or, take, drop}
use mathlib.Core.Path.{subst⁻¹}
use mathlib.Core.Bool.{and-true, and_assoc, false≢true}
use native.Mathlib.Nat.{sub-zero}
use Rattle.std.specs.List.{fold}
use lib.ListN.{get_or-eq_default}
use Rattle.std.proofs.Common.{get_or-take, get_or-drop, length-take, length-drop}
use Rattle.sizes.specs.Sizes.{line_length}
use Rattle.spelling.specs.Spelling.{field_from, blank, spaces_from, step, unsigned, magnitude, sign_ok, line_of, line_at, lines_from, lines_of, first_misspelt}
use Rattle.spelling.specs.declared.Field.{Field}
use Rattle.spelling.specs.declared.Field.TheVariants.{Blank}
use Rattle.spelling.specs.declared.Triple.{Triple}

-- ---- m bytes cut out, from a on, are those bytes
module _ (s : List ℕ) (a m : ℕ) where
  pub cut-byte : (i : ℕ) → i < m → get_or (take m (drop a s)) i 0 ≡ get_or s (a + i) 0
  cut-byte i h = get_or-take m (drop a s) i 0 h ∙ get_or-drop a s i 0

  pub cut-field : (w at : ℕ) (f : Field) → at + w ≤ m → field_from (take m (drop a s)) at w f ≡ field_from s (a + at) w f
  unfolding field_from
  cut-field zero at f h = refl
  cut-field (suc w) at f h = rw (cut-byte at (omega arith), add_assoc a at 1) (cut-field w (at + 1) (step f (get_or s (a + at) 0)) (omega arith))

  pub cut-blank : (w at : ℕ) → at + w ≤ m → blank (take m (drop a s)) at w ≡ blank s (a + at) w
  unfolding blank
  cut-blank zero at h = refl
  cut-blank (suc w) at h = rw (cut-byte at (omega arith), cut-blank w (at + 1) (omega arith), add_assoc a at 1)

-- a field of w bytes cut out by itself
pub field-alone : (s : List ℕ) (a w n : ℕ) → n ≡ w → a + w ≤ length s
    → field_from (take n (drop a s)) 0 (length (take n (drop a s))) Blank ≡ field_from s a w Blank
field-alone s a w n e h =
    let l : length (take w (drop a s)) ≡ w = simp (length-take, length-drop) (omega arith) in
    rw (e, l) (cut-field s a w w 0 Blank (omega arith) ∙ rw add-zero)

-- ---- the spaces at the front of a field
module _ (s : List ℕ) where
  pub spaces-within : (at w : ℕ) → spaces_from s at w ≤ w
  unfolding spaces_from
  spaces-within at zero = omega arith
  spaces-within at (suc w) = go (eqb (get_or s at 0) 32) (spaces-within (at + 1) w)
    where
      go : (t : Bool) → spaces_from s (at + 1) w ≤ w → cond t (suc (spaces_from s (at + 1) w)) 0 ≤ suc w
      go true h = omega arith
      go false h = omega arith

  space-here : (at n m : ℕ) → n ≡ suc m → get_or s at 0 ≡ 32 → spaces_from s at n ≡ suc (spaces_from s (at + 1) m)
  unfolding spaces_from
  space-here at n m e h = rw (e, h)

  pub space-again : (w i : ℕ) → i < w → get_or s i 0 ≡ 32 → i + 1 + spaces_from s (i + 1) (w - (i + 1)) ≡ i + spaces_from s i (w - i)
  space-again w i h e = rw (space-here i (w - i) (w - (i + 1)) (omega arith) e) (omega arith)

  pub space-stop : (w i : ℕ) → (get_or s i 0 ≡ 32 → ⊥) → i ≡ i + spaces_from s i (w - i)
  unfolding spaces_from
  space-stop w i h = sym (go (w - i) ∙ add-zero i)
    where
      go : (n : ℕ) → i + spaces_from s i n ≡ i + 0
      go zero = refl
      go (suc n) = rw (ne_eqb (get_or s i 0) 32 h)

  pub space-done : (w : ℕ) → w ≡ w + spaces_from s w (w - w)
  unfolding spaces_from
  space-done w = let e : w - w ≡ 0 = omega arith in rw (e, add-zero)

  -- bytes that are spaces, by a fold and passed over
  pub blank_fold : (n at : ℕ) (b : Bool) → at + n ≤ length s → fold (λ (a : Bool) x. a && eqb x 32) b (take n (drop at s)) ≡ (b && blank s at n)
  unfolding blank
  blank_fold zero at b h = sym (and-true b)
  blank_fold (suc n) at b h =
      rw (drop-cons s at 0 (omega arith), ← add-one at) (blank_fold n (at + 1) (b && eqb (get_or s at 0) 32) (omega arith))
      ∙ and_assoc b (eqb (get_or s at 0) 32) (blank s (at + 1) n)

  pub blank_skip : (n at w : ℕ) → n ≤ w → blank s at n ≡ true → n + spaces_from s (at + n) (w - n) ≡ spaces_from s at w
  unfolding blank spaces_from
  blank_skip zero at w h e = simp (zero-add, add-zero, sub-zero)
  blank_skip (suc n) at zero h e = absurd (omega arith)
  blank_skip (suc n) at (suc w) h e = go (eqb (get_or s at 0) 32) (blank s (at + 1) n) refl refl e (λ q. blank_skip n (at + 1) w (omega arith) q)
    where
      go : (a b : Bool) → eqb (get_or s at 0) 32 ≡ a → blank s (at + 1) n ≡ b → (a && b) ≡ true → (blank s (at + 1) n ≡ true → n + spaces_from s (at + 1 + n) (w - n) ≡ spaces_from s (at + 1) w)
          → suc n + spaces_from s (at + suc n) (suc w - suc n) ≡ cond (eqb (get_or s at 0) 32) (suc (spaces_from s (at + 1) w)) 0
      go true true p q r again =
          let k : at + suc n ≡ at + 1 + n = omega arith in
          let m : suc w - suc n ≡ w - n = omega arith in
          let u = again q in
          rw (p, k, m) (omega arith)
      go true false p q r again = absurd (false≢true r)
      go false b p q r again = absurd (false≢true r)

  skip-none : (at w : ℕ) → field_from s (at + 0) (w - 0) Blank ≡ field_from s at w Blank
  skip-none at w = rw (add-zero, sub-zero)

  -- a field starts after them
  pub spaces-skip : (at w : ℕ) → field_from s (at + spaces_from s at w) (w - spaces_from s at w) Blank ≡ field_from s at w Blank
  unfolding spaces_from field_from
  spaces-skip at zero = refl
  spaces-skip at (suc w) = go (eqb (get_or s at 0) 32) refl (spaces-skip (at + 1) w)
    where
      go : (t : Bool) → eqb (get_or s at 0) 32 ≡ t
          → field_from s (at + 1 + spaces_from s (at + 1) w) (w - spaces_from s (at + 1) w) Blank ≡ field_from s (at + 1) w Blank
          → field_from s (at + cond t (suc (spaces_from s (at + 1) w)) 0) (suc w - cond t (suc (spaces_from s (at + 1) w)) 0) Blank ≡ field_from s at (suc w) Blank
      go true e h =
          let n = spaces_from s (at + 1) w in
          let p : at + suc n ≡ at + 1 + n = omega arith in
          let q : suc w - suc n ≡ w - n = omega arith in
          let b : step Blank (get_or s at 0) ≡ Blank = ap (step Blank) (eqb→eq (get_or s at 0) 32 (subst⁻¹ T e tt)) in
          rw (p, q) h ∙ sym (ap (field_from s (at + 1) w) b)
      go false e h = skip-none at (suc w)

-- past the last whole line stands no LF
pub past_end : (s : List ℕ) (i : ℕ) → length s / line_length ≤ i → line_at s i ≡ None
unfolding line_at line_of
past_end s i h =
    let z : get_or s (line_length * i + 28) 0 ≡ 0 = get_or-eq_default s 0 (omega arith) in
    rw z (none (unsigned (field_from s (line_length * i) 3 Blank)) (sign_ok (field_from s (line_length * i + 3) 20 Blank) (magnitude (field_from s (line_length * i) 3 Blank))) (unsigned (field_from s (line_length * i + 23) 5 Blank)) _)
  where
    none : (a b c : Bool) (t : Triple) → cond (a && (b && (c && false))) (Some t) None ≡ None
    none true true true t = refl
    none true true false t = refl
    none true false c t = refl
    none false b c t = refl

-- ---- lines
pub length-lines : (s : List ℕ) (i n : ℕ) → length (lines_from s i n) ≡ n
unfolding lines_from
length-lines s i zero = refl
length-lines s i (suc n) = ap suc (length-lines s (i + 1) n)

pub lines_cons : (s : List ℕ) (i n : ℕ) → i < n → lines_from s i (n - i) ≡ line_at s i ∷ lines_from s (i + 1) (n - (i + 1))
unfolding lines_from
lines_cons s i n h = let e : n - i ≡ suc (n - (i + 1)) = omega arith in rw e

pub lines-nil : (s : List ℕ) (i n : ℕ) → n ≤ i → lines_from s i (n - i) ≡ []
unfolding lines_from
lines-nil s i n h = let e : n - i ≡ 0 = omega arith in rw e

pub get-line : (s : List ℕ) (i n k : ℕ) → k < n → get_or (lines_from s i n) k None ≡ line_at s (i + k)
unfolding lines_from
get-line s i zero k h = absurd (omega arith)
get-line s i (suc n) zero h = rw add-zero
get-line s i (suc n) (suc k) h = let e : i + 1 + k ≡ i + suc k = omega arith in get-line s (i + 1) n k (omega arith) ∙ ap (line_at s) e

-- the line at i, also where there is none
pub line-of-sheet : (s : List ℕ) (i : ℕ) → get_or (lines_of s) i None ≡ line_at s i
unfolding lines_of
line-of-sheet s i = go (ltb i (length s / line_length)) refl
  where
    go : (t : Bool) → ltb i (length s / line_length) ≡ t → get_or (lines_from s 0 (length s / line_length)) i None ≡ line_at s i
    go true e = get-line s 0 (length s / line_length) i (ltb-true i _ e) ∙ ap (line_at s) (zero-add i)
    go false e =
        let h = ltb-false i (length s / line_length) e in
        get_or-eq_default (lines_from s 0 (length s / line_length)) None (omega (arith, length-lines s 0 (length s / line_length))) ∙ sym (past_end s i h)

-- ---- the first misspelt line
abbrev pub Left : List ℕ → ℕ → ℕ → ℕ
Left s i n = i + first_misspelt (lines_from s i (n - i))

pub first-start : (s : List ℕ) (n : ℕ) → n ≡ length s / line_length → Left s 0 n ≡ first_misspelt (lines_of s)
unfolding lines_of
first-start s n e = rw (e, zero-add, sub-zero)

pub first-again : (s : List ℕ) (i n : ℕ) → i < n → is_some (line_at s i) ≡ true → Left s (i + 1) n ≡ Left s i n
unfolding first_misspelt
first-again s i n h = go (line_at s i) refl
  where
    go : (l : Option Triple) → line_at s i ≡ l → is_some l ≡ true → Left s (i + 1) n ≡ Left s i n
    go (Some t) e p =
        let m = first_misspelt (lines_from s (i + 1) (n - (i + 1))) in
        let k : first_misspelt (lines_from s i (n - i)) ≡ suc m = rw (lines_cons s i n h, e) in
        rw k (omega arith)
    go None e p = cc

pub first-here : (s : List ℕ) (i n : ℕ) → i < n → is_some (line_at s i) ≡ false → i ≡ Left s i n
unfolding first_misspelt
first-here s i n h = go (line_at s i) refl
  where
    go : (l : Option Triple) → line_at s i ≡ l → is_some l ≡ false → i ≡ Left s i n
    go (Some t) e p = cc
    go None e p = let k : first_misspelt (lines_from s i (n - i)) ≡ 0 = rw (lines_cons s i n h, e) in rw (k, add-zero)

pub first-none : (s : List ℕ) (i n : ℕ) → n ≤ i → i ≡ Left s i n
unfolding first_misspelt
first-none s i n h =
    let k : first_misspelt (lines_from s i (n - i)) ≡ 0 = rw (lines-nil s i n h) in
    rw (k, add-zero)
