-- A field reads as a number exactly if it is that number's text.
-- Assumes nothing.
use Rattle.std.proofs.Common.{fold, zero-add, ◌≡◌, refl, sym, ap, ◌∙◌, Bool, true, false, cond, ◌&&◌, List, [], ◌∷◌, ◌++◌, ℕ, zero, suc, ◌+◌, ◌*◌, ◌-◌, ◌/◌, ◌%◌, ◌^◌, ◌≤◌, ◌<◌, arith, length, get_or, take, drop, length-drop, T, ltb, leb, eqb, take-suc, take_all, length-take-le, drop-cons, lt-ltb, le-ltb, le-leb, ne_eqb, leb-true, eqb-true, ltb-true, ltb-false, add-one}
use lib.ListN.{get_or-eq_default}
use borrow.Author.Tests.{eqb-false}
use Rattle.spelling.specs.declared.Field.{Field}
use Rattle.spelling.specs.declared.Field.TheVariants.{Blank, Minus, Number, Bad}
use native.Mathlib.Nat.{pow-succ'}
use Rattle.spelling.specs.Spelling.{digit_step, other_step, step, field_from, spaces_from}
use Rattle.spelling.proofs.Laws.{spaces-skip}
use Rattle.spelling.specs.Text.{last, front, field_text}
use Rattle.std.proofs.lemmas.List.Sums.{fold_push}

-- w columns are enough for it
unfoldable Wide : ℕ → Field → Type 0
Wide zero f = f ≡ Blank
Wide (suc w) f = Wide w (front f)

-- what the reader makes of a list of bytes, after f
abbrev pub run : Field → List ℕ → Field
run f bs = fold step f bs

abbrev good : Field → Bool
good Blank = true
good Minus = true
good (Number n x) = true
good Bad = false

abbrev Back : Field → ℕ → Field → Type 0
Back f b g = T (good g) → (front g ≡ f) × (last g ≡ b)

-- a number is the state and the digit before it
back_more : (n : Bool) (m d : ℕ) → (m ≡ 0 → ⊥) → d ≤ 9 → (front (Number n (10 * m + d)) ≡ Number n m) × (last (Number n (10 * m + d)) ≡ 48 + d)
back_more n m d h k =
    let e : (10 * m + d) / 10 ≡ m = omega arith in
    let r : (10 * m + d) % 10 ≡ d = omega arith in
    let o : 10 ≤ 10 * m + d = omega arith in
    (rw (le-ltb (10 * m + d) 10 o, e), rw r)

back_one : (n : Bool) (d : ℕ) → d ≤ 9 → (front (Number n d) ≡ cond n Minus Blank) × (last (Number n d) ≡ 48 + d)
back_one n d k =
    let r : d % 10 ≡ d = omega arith in
    let o : d < 10 = omega arith in
    (rw (lt-ltb d 10 o), rw r)

back-digit : (f : Field) (d : ℕ) → d ≤ 9 → Back f (48 + d) (digit_step f d)
back-digit Blank d k = λ g. back_one false d k
back-digit Minus d k = go (eqb d 0) refl
  where
    go : (t : Bool) → eqb d 0 ≡ t → Back Minus (48 + d) (cond t Bad (Number true d))
    go true e g = absurd g
    go false e g = back_one true d k
back-digit (Number n m) d k = go (eqb m 0) refl (leb (10 * m + d) (2 ^ 63))
  where
    go : (t : Bool) → eqb m 0 ≡ t → (u : Bool) → Back (Number n m) (48 + d) (cond t Bad (cond u (Number n (10 * m + d)) Bad))
    go true e u g = absurd g
    go false e true g = back_more n m d (eqb-false m 0 e) k
    go false e false g = absurd g
back-digit Bad d k = λ g. absurd g

back-other : (f : Field) (b : ℕ) → Back f b (other_step f b)
back-other Blank b = go (eqb b 32) refl (eqb b 45) refl
  where
    go : (t : Bool) → eqb b 32 ≡ t → (u : Bool) → eqb b 45 ≡ u → Back Blank b (cond t Blank (cond u Minus Bad))
    go true e u i g = (refl, sym (eqb-true b 32 e))
    go false e true i g = (refl, sym (eqb-true b 45 i))
    go false e false i g = absurd g
back-other Minus b = λ g. absurd g
back-other (Number n m) b = λ g. absurd g
back-other Bad b = λ g. absurd g

-- a byte read that leaves no bad field is the last of the spelling, and what was read before it stands before it
back : (f : Field) (b : ℕ) → Back f b (step f b)
back f b = go (leb 48 b) refl (leb b 57) refl
  where
    go : (t : Bool) → leb 48 b ≡ t → (u : Bool) → leb b 57 ≡ u → Back f b (cond (t && u) (digit_step f (b - 48)) (other_step f b))
    go true e true i g =
        let lo = leb-true 48 b e in
        let hi = leb-true b 57 i in
        let same : 48 + (b - 48) ≡ b = omega arith in
        rw same at (back-digit f (b - 48) (omega arith) g)
    go true e false i g = back-other f b g
    go false e u i g = back-other f b g

run-snoc : (f : Field) (l : List ℕ) (b : ℕ) → run f (l ++ (b ∷ [])) ≡ step (run f l) b
run-snoc f l b = fold_push step f l b

good-front : (f : Field) → T (good f) → T (good (front f))
good-front Blank g = tt
good-front Minus g = tt
good-front (Number n x) g = go n (ltb x 10)
  where
    go : (n t : Bool) → T (good (cond t (cond n Minus Blank) (Number n (x / 10))))
    go n false = tt
    go n true = each n
      where
        each : (n : Bool) → T (good (cond n Minus Blank))
        each true = tt
        each false = tt
good-front Bad g = absurd g

empty : (l : List ℕ) → length l ≡ 0 → l ≡ []
empty [] e = refl
empty (x ∷ l) e = absurd (omega arith)

-- the last byte of a field that is read, and what was read before it
module _ (w : ℕ) (l : List ℕ) (e : length l ≡ suc w) (g : T (good (run Blank l))) where
  abbrev init : List ℕ
  init = take w l

  abbrev byte : ℕ
  byte = get_or l w 0

  split : l ≡ init ++ (byte ∷ [])
  split = sym (take_all (suc w) l (omega arith)) ∙ take-suc l w 0 (omega arith)

  runs : run Blank l ≡ step (run Blank init) byte
  runs = ap (run Blank) split ∙ run-snoc Blank init byte

  ends : (front (run Blank l) ≡ run Blank init) × (last (run Blank l) ≡ byte)
  ends = rw runs (back (run Blank init) byte (rw runs at g))

  init-good : T (good (run Blank init))
  init-good = rw ends.0 at (good-front (run Blank l) g)

  init-length : length init ≡ w
  init-length = length-take-le w l (omega arith)

-- bytes that the reader takes for a number are that number's text, and fit its columns
only : (w : ℕ) (l : List ℕ) → length l ≡ w → T (good (run Blank l)) → l ≡ field_text w (run Blank l)
unfolding field_text
only zero l e g = empty l e
only (suc w) l e g =
    rw ((ends w l e g).0, (ends w l e g).1, ← only w (init w l e g) (init-length w l e g) (init-good w l e g)) (split w l e g)

only-wide : (w : ℕ) (l : List ℕ) → length l ≡ w → T (good (run Blank l)) → Wide w (run Blank l)
unfolding Wide
only-wide zero l e g = rw (empty l e)
only-wide (suc w) l e g = rw (ends w l e g).0 (only-wide w (init w l e g) (init-length w l e g) (init-good w l e g))

-- a number in range, and no -0
abbrev Ok : Field → Type 0
Ok Blank = Unit {0}
Ok Minus = Unit {0}
Ok (Number n x) = (x ≤ 2 ^ 63) × (n ≡ true → x ≡ 0 → ⊥)
Ok Bad = ⊥

step-digit : (f : Field) (d : ℕ) → d ≤ 9 → step f (48 + d) ≡ digit_step f d
step-digit f d k =
    let e : 48 + d - 48 ≡ d = omega arith in
    rw (le-leb 48 (48 + d) (omega arith), le-leb (48 + d) 57 (omega arith), e)

again-one : (n : Bool) (x : ℕ) → x < 10 → (n ≡ true → x ≡ 0 → ⊥) → digit_step (cond n Minus Blank) x ≡ Number n x
again-one true x h z = rw (ne_eqb x 0 (z refl))
again-one false x h z = refl

again : (f : Field) → Ok f → step (front f) (last f) ≡ f
again Blank o = refl
again Minus o = refl
again (Number n x) o = step-digit (front (Number n x)) (x % 10) (omega arith) ∙ go (ltb x 10) refl
  where
    go : (t : Bool) → ltb x 10 ≡ t → digit_step (cond t (cond n Minus Blank) (Number n (x / 10))) (x % 10) ≡ Number n x
    go true e =
        let h = ltb-true x 10 e in
        let r : x % 10 ≡ x = omega arith in
        rw r (again-one n x h o.1)
    go false e =
        let h = ltb-false x 10 e in
        let r : 10 * (x / 10) + x % 10 ≡ x = omega arith in
        rw (ne_eqb (x / 10) 0 (omega arith), r, le-leb x (2 ^ 63) o.0)
again Bad o = absurd o

ok-front : (f : Field) → Ok f → Ok (front f)
ok-front Blank o = tt
ok-front Minus o = tt
ok-front (Number n x) o = go (ltb x 10) refl
  where
    each : (n : Bool) → Ok (cond n Minus Blank)
    each true = tt
    each false = tt

    go : (t : Bool) → ltb x 10 ≡ t → Ok (cond t (cond n Minus Blank) (Number n (x / 10)))
    go true e = each n
    go false e = let h = ltb-false x 10 e in (omega (arith, o.0), λ _. omega arith)
ok-front Bad o = o

-- BACK: the spelling of a number reads as that number
reads : (w : ℕ) (f : Field) → Ok f → Wide w f → run Blank (field_text w f) ≡ f
unfolding field_text Wide
reads zero f o e = sym e
reads (suc w) f o e = run-snoc Blank (field_text w (front f)) (last f) ∙ ap (λ (g : Field). step g (last f)) (reads w (front f) (ok-front f o) e) ∙ again f o

-- the reader of w bytes from at reads that part of the sheet
pub field-run : (w at : ℕ) (s : List ℕ) (f : Field) → at + w ≤ length s → field_from s at w f ≡ run f (take w (drop at s))
unfolding field_from
field-run zero at s f h = refl
field-run (suc w) at s f h = field-run w (at + 1) s (step f (get_or s at 0)) (omega arith) ∙ rw (drop-cons s at 0 (omega arith), add-one)

-- a field is what follows its spaces
pub field-rest : (s : List ℕ) (n : ℕ) → n ≤ length s → n ≡ spaces_from s 0 (length s)
    → run Blank (take (length s - n) (drop n s)) ≡ field_from s 0 (length s) Blank
field-rest s n h e = sym (field-run (length s - n) n s Blank (omega arith)) ∙ rw (zero-add, ← e) at (spaces-skip s 0 (length s))

-- ---- how wide a number is
blank-wide : (w : ℕ) → Wide w Blank
unfolding Wide
blank-wide zero = refl
blank-wide (suc w) = blank-wide w

ten-pos : (w : ℕ) → 0 < 10 ^ w
ten-pos zero = omega arith
ten-pos (suc w) = let p = ten-pos w in let q = pow-succ' 10 w in omega arith

ten-more : (w x : ℕ) → 10 ≤ x → x < 10 ^ suc w → (x / 10 < 10 ^ w) × (0 < w)
ten-more zero x l h = absurd (omega arith)
ten-more (suc w) x l h = let q = pow-succ' 10 (suc w) in (omega arith, omega arith)

unsigned-wide : (w x : ℕ) → 0 < w → x < 10 ^ w → Wide w (Number false x)
unfolding Wide
unsigned-wide zero x p h = absurd (omega arith)
unsigned-wide (suc w) x p h = go (ltb x 10) refl (λ p h. unsigned-wide w (x / 10) p h)
  where
    go : (t : Bool) → ltb x 10 ≡ t → (0 < w → x / 10 < 10 ^ w → Wide w (Number false (x / 10))) → Wide w (cond t (cond false Minus Blank) (Number false (x / 10)))
    go true e again = blank-wide w
    go false e again = let m = ten-more w x (ltb-false x 10 e) h in again m.1 m.0

minus-wide : (w x : ℕ) → 0 < w → x < 10 ^ w → Wide (suc w) (Number true x)
unfolding Wide
minus-wide zero x p h = absurd (omega arith)
minus-wide (suc w) x p h = go (ltb x 10) refl (λ p h. minus-wide w (x / 10) p h)
  where
    go : (t : Bool) → ltb x 10 ≡ t → (0 < w → x / 10 < 10 ^ w → Wide (suc w) (Number true (x / 10))) → Wide (suc w) (cond t (cond true Minus Blank) (Number true (x / 10)))
    go true e again = blank-wide w
    go false e again = let m = ten-more w x (ltb-false x 10 e) h in again m.1 m.0

wide-small : (w : ℕ) (n : Bool) (x : ℕ) → Wide w (Number n x) → x < 10 ^ w
unfolding Wide
wide-small zero n x h = cc
wide-small (suc w) n x h = go (ltb x 10) refl (λ h. wide-small w n (x / 10) h) h
  where
    go : (t : Bool) → ltb x 10 ≡ t → (Wide w (Number n (x / 10)) → x / 10 < 10 ^ w) → Wide w (cond t (cond n Minus Blank) (Number n (x / 10))) → x < 10 ^ suc w
    go true e again h = let l = ltb-true x 10 e in let p = ten-pos w in let q = pow-succ' 10 w in omega arith
    go false e again h = let i = again h in let q = pow-succ' 10 w in omega arith

-- ---- what was read is in range
abbrev Fine : Field → Type 0
Fine f = T (good f) → Ok f

fine-digit : (f : Field) (d : ℕ) → d ≤ 9 → Fine f → Fine (digit_step f d)
fine-digit Blank d k g = λ _. (omega arith, λ e. cc)
fine-digit Minus d k g = go (eqb d 0) refl
  where
    go : (t : Bool) → eqb d 0 ≡ t → Fine (cond t Bad (Number true d))
    go true e bad = absurd bad
    go false e _ = (omega arith, λ _. eqb-false d 0 e)
fine-digit (Number n m) d k g = go (eqb m 0) refl (leb (10 * m + d) (2 ^ 63)) refl
  where
    go : (t : Bool) → eqb m 0 ≡ t → (u : Bool) → leb (10 * m + d) (2 ^ 63) ≡ u → Fine (cond t Bad (cond u (Number n (10 * m + d)) Bad))
    go true e u i bad = absurd bad
    go false e true i _ = (leb-true (10 * m + d) (2 ^ 63) i, λ _. (let z = eqb-false m 0 e in omega arith))
    go false e false i bad = absurd bad
fine-digit Bad d k g = g

fine-other : (f : Field) (b : ℕ) → Fine (other_step f b)
fine-other Blank b = go (eqb b 32) (eqb b 45)
  where
    go : (t u : Bool) → Fine (cond t Blank (cond u Minus Bad))
    go true u _ = tt
    go false true _ = tt
    go false false bad = absurd bad
fine-other Minus b = λ bad. absurd bad
fine-other (Number n m) b = λ bad. absurd bad
fine-other Bad b = λ bad. absurd bad

fine-step : (f : Field) (b : ℕ) → Fine f → Fine (step f b)
fine-step f b g = go (leb 48 b) refl (leb b 57) refl
  where
    go : (t : Bool) → leb 48 b ≡ t → (u : Bool) → leb b 57 ≡ u → Fine (cond (t && u) (digit_step f (b - 48)) (other_step f b))
    go true e true i = let hi = leb-true b 57 i in fine-digit f (b - 48) (omega arith) g
    go true e false i = fine-other f b
    go false e u i = fine-other f b

fine-run : (l : List ℕ) (f : Field) → Fine f → Fine (run f l)
fine-run [] f g = g
fine-run (b ∷ l) f g = fine-run l (step f b) (fine-step f b g)

-- ---- what `Texts` uses
pub field-only : (w : ℕ) (l : List ℕ) (n : Bool) (x : ℕ) → length l ≡ w → run Blank l ≡ Number n x → l ≡ field_text w (Number n x)
field-only w l n x h e = only w l h (rw e tt) ∙ ap (field_text w) e

pub field-reads : (w x : ℕ) → 0 < w → x < 10 ^ w → x ≤ 2 ^ 63 → run Blank (field_text w (Number false x)) ≡ Number false x
field-reads w x p h k = reads w (Number false x) (k, λ e. cc) (unsigned-wide w x p h)

pub minus-reads : (w x : ℕ) → 0 < w → x < 10 ^ w → 0 < x → x ≤ 2 ^ 63 → run Blank (field_text (suc w) (Number true x)) ≡ Number true x
minus-reads w x p h l k = reads (suc w) (Number true x) (k, λ e z. omega arith) (minus-wide w x p h)

module _ (w at : ℕ) (s : List ℕ) (n : Bool) (x : ℕ) (h : at + w ≤ length s) (e : field_from s at w Blank ≡ Number n x) where
  cut : run Blank (take w (drop at s)) ≡ Number n x
  cut = sym (field-run w at s Blank h) ∙ e

  pub narrow : x < 10 ^ w
  narrow = wide-small w n x (rw cut at (only-wide w (take w (drop at s)) (length-take-le w (drop at s) (simp length-drop (omega arith))) (rw cut tt)))

  pub in-range : (x ≤ 2 ^ 63) × (n ≡ true → x ≡ 0 → ⊥)
  in-range = let range : Fine (Number n x) = rw cut at (fine-run (take w (drop at s)) Blank (λ _. tt)) in range tt

-- past the end of the list stands no LF
pub inside : (s : List ℕ) (i : ℕ) → get_or s i 0 ≡ 10 → i < length s
inside s i e = go (ltb i (length s)) refl
  where
    go : (b : Bool) → ltb i (length s) ≡ b → i < length s
    go true h = ltb-true i (length s) h
    go false h =
        let z : get_or s i 0 ≡ 0 = get_or-eq_default s 0 (ltb-false i (length s) h) in
        absurd (let y : ◌≡◌ {A = ℕ} 0 10 = sym z ∙ e in omega arith)
