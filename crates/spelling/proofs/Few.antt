-- A line of few digits is spelt, and says what its short fields say.
-- Assumes nothing.
use Rattle.std.proofs.Common.{take, drop, add-zero, add_assoc, Some, None, Option, ◌≡◌, refl, sym, ap, ◌∙◌, Bool, true, false, cond, ◌&&◌, ◌||◌, ◌⊎◌, inl, inr, List, ℕ, ◌+◌, ◌*◌, ◌-◌, ◌^◌, ◌≤◌, ◌<◌, arith, T, leb, eqb, get_or, lt-ltb, ne_eqb, eqb-true}
use mathlib.Core.Bool.{and-eq-true_iff, and-true, false≢true}
use Rattle.sizes.specs.Sizes.{line_length}
use Rattle.spelling.specs.declared.Field.{Field}
use Rattle.spelling.specs.declared.Field.TheVariants.{Blank, Minus, Number, Bad}
use Rattle.spelling.specs.declared.Triple.{Triple}
use Rattle.spelling.specs.Spelling.{digit_step, other_step, step, field_from, spaces_from, blank, line_of, line_at}
use Rattle.spelling.specs.Few.{plain, roomy, short_field, few_of, few_at}
use Rattle.spelling.proofs.Laws.{blank_skip, spaces-skip, cut-byte, cut-field, cut-blank}
use Rattle.spelling.proofs.Fields.{narrow, inside}

-- ---- fields that become no plain number
-- there is none, and none comes
abbrev gone : Field → Bool
gone Blank = false
gone Minus = true
gone (Number n m) = n
gone Bad = true

-- none comes with another byte
abbrev pub lost : Field → Bool
lost Blank = false
lost Minus = true
lost (Number n m) = n || eqb m 0
lost Bad = true

gone-none : (f : Field) → T (gone f) → plain f ≡ None
gone-none Blank g = absurd g
gone-none Minus g = refl
gone-none (Number true m) g = refl
gone-none (Number false m) g = absurd g
gone-none Bad g = refl

gone-lost : (f : Field) → T (gone f) → T (lost f)
gone-lost Blank g = absurd g
gone-lost Minus g = tt
gone-lost (Number true m) g = tt
gone-lost (Number false m) g = absurd g
gone-lost Bad g = tt

gone-digit : (f : Field) (d : ℕ) → T (lost f) → T (gone (digit_step f d))
gone-digit Blank d g = absurd g
gone-digit Minus d g = go (eqb d 0)
  where
    go : (t : Bool) → T (gone (cond t Bad (Number true d)))
    go true = tt
    go false = tt
gone-digit (Number n m) d g = go n (eqb m 0) (leb (10 * m + d) (2 ^ 63)) g
  where
    go : (n t u : Bool) → T (n || t) → T (gone (cond t Bad (cond u (Number n (10 * m + d)) Bad)))
    go n true u g = tt
    go n false false g = tt
    go true false true g = tt
    go false false true g = absurd g
gone-digit Bad d g = tt

gone-other : (f : Field) (b : ℕ) → T (lost f) → T (gone (other_step f b))
gone-other Blank b g = absurd g
gone-other Minus b g = tt
gone-other (Number n m) b g = tt
gone-other Bad b g = tt

gone-step : (f : Field) (b : ℕ) → T (lost f) → T (gone (step f b))
gone-step f b g = go (leb 48 b && leb b 57)
  where
    go : (t : Bool) → T (gone (cond t (digit_step f (b - 48)) (other_step f b)))
    go true = gone-digit f (b - 48) g
    go false = gone-other f b g

pub lost-one : (f : Field) (b : ℕ) → T (lost f) → plain (step f b) ≡ None
lost-one f b g = gone-none (step f b) (gone-step f b g)

lost-two : (f : Field) (a b : ℕ) → T (lost f) → plain (step (step f a) b) ≡ None
lost-two f a b g = lost-one (step f a) b (gone-lost (step f a) (gone-step f a g))

-- ---- four bytes after spaces
is_plain : (f : Field) (n : ℕ) → plain f ≡ Some n → f ≡ Number false n
is_plain Blank n e = cc
is_plain Minus n e = cc
is_plain (Number true m) n e = cc
is_plain (Number false m) n e = cc
is_plain Bad n e = cc

-- no space follows
abbrev started : Field → Bool
started Blank = false
started Minus = true
started (Number n m) = true
started Bad = true

started-digit : (f : Field) (d : ℕ) → T (started (digit_step f d))
started-digit Blank d = tt
started-digit Minus d = go (eqb d 0)
  where
    go : (t : Bool) → T (started (cond t Bad (Number true d)))
    go true = tt
    go false = tt
started-digit (Number n m) d = go (eqb m 0) (leb (10 * m + d) (2 ^ 63))
  where
    go : (t u : Bool) → T (started (cond t Bad (cond u (Number n (10 * m + d)) Bad)))
    go true u = tt
    go false true = tt
    go false false = tt
started-digit Bad d = tt

started-other : (f : Field) (b : ℕ) → (b ≡ 32 → ⊥) → T (started (other_step f b))
started-other Blank b n = rw (ne_eqb b 32 n) (go (eqb b 45))
  where
    go : (t : Bool) → T (started (cond t Minus Bad))
    go true = tt
    go false = tt
started-other Minus b n = tt
started-other (Number m x) b n = tt
started-other Bad b n = tt

started-step : (f : Field) (b : ℕ) → (b ≡ 32 → ⊥) → T (started (step f b))
started-step f b n = go (leb 48 b && leb b 57)
  where
    go : (t : Bool) → T (started (cond t (digit_step f (b - 48)) (other_step f b)))
    go true = started-digit f (b - 48)
    go false = started-other f b n

late-space : (f : Field) → T (started f) → step f 32 ≡ Bad
late-space Blank g = absurd g
late-space Minus g = refl
late-space (Number n m) g = refl
late-space Bad g = refl

lost-by : (f : Field) → T (started f) → ((m : ℕ) → plain f ≡ Some m → m ≡ 0) → T (lost f)
lost-by Blank g k = absurd g
lost-by Minus g k = tt
lost-by (Number true m) g k = tt
lost-by (Number false m) g k = rw (k m refl) tt
lost-by Bad g k = tt

two_bytes : (s : List ℕ) (at q : ℕ) → q ≡ at + 1 → field_from s at 2 Blank ≡ step (step Blank (get_or s at 0)) (get_or s q 0)
unfolding field_from
two_bytes s at q e = rw e

module _ (s : List ℕ) (at : ℕ) where
  four_bytes : field_from s at 4 Blank ≡ step (step (step (step Blank (get_or s at 0)) (get_or s (at + 1) 0)) (get_or s (at + 2) 0)) (get_or s (at + 3) 0)
  unfolding field_from
  four_bytes =
      let p : at + 1 + 1 ≡ at + 2 = omega arith in
      let q : at + 2 + 1 ≡ at + 3 = omega arith in
      rw (p, q)

  abbrev front : Field
  front = step (step Blank (get_or s at 0)) (get_or s (at + 1) 0)

  pub both-spaces : get_or s at 0 ≡ 32 → get_or s (at + 1) 0 ≡ 32 → field_from s at 4 Blank ≡ step (step Blank (get_or s (at + 2) 0)) (get_or s (at + 3) 0)
  both-spaces e i = four_bytes ∙ rw (e, i)

  pub space-between : (get_or s at 0 ≡ 32 → ⊥) → get_or s (at + 1) 0 ≡ 32 → plain (field_from s at 4 Blank) ≡ None
  space-between n i =
      ap plain four_bytes
      ∙ lost-two front (get_or s (at + 2) 0) (get_or s (at + 3) 0) (rw (i, late-space (step Blank (get_or s at 0)) (started-step Blank (get_or s at 0) n)) tt)

  pub after_two : (n : ℕ) → Some n ≡ plain front → plain (field_from s at 4 Blank) ≡ plain (step (step (Number false n) (get_or s (at + 2) 0)) (get_or s (at + 3) 0))
  after_two n e = ap plain four_bytes ∙ ap (λ (f : Field). plain (step (step f (get_or s (at + 2) 0)) (get_or s (at + 3) 0))) (is_plain front n (sym e))

  lost-four : (get_or s (at + 1) 0 ≡ 32 → ⊥) → ((m : ℕ) → plain front ≡ Some m → m ≡ 0) → None ≡ plain (field_from s at 4 Blank)
  lost-four n k =
      sym (ap plain four_bytes
      ∙ lost-two front (get_or s (at + 2) 0) (get_or s (at + 3) 0) (lost-by front (started-step (step Blank (get_or s at 0)) (get_or s (at + 1) 0) n) k))

  pub lost_none : (get_or s (at + 1) 0 ≡ 32 → ⊥) → None ≡ plain front → None ≡ plain (field_from s at 4 Blank)
  lost_none n e = lost-four n (λ m i. let z : None ≡ Some m = e ∙ i in cc)

  pub lost_zero : (get_or s (at + 1) 0 ≡ 32 → ⊥) → Some 0 ≡ plain front → None ≡ plain (field_from s at 4 Blank)
  lost_zero n e = lost-four n (λ m i. let z : Some 0 ≡ Some m = e ∙ i in cc)

  -- ---- five bytes, the first three of them spaces
  pub short_is : short_field s at
      ≡ cond (eqb (get_or s at 0) 32 && (eqb (get_or s (at + 1) 0) 32 && eqb (get_or s (at + 2) 0) 32))
      (plain (step (step Blank (get_or s (at + 3) 0)) (get_or s (at + 4) 0))) None
  unfolding short_field blank
  short_is =
      let p : at + 1 + 1 ≡ at + 2 = omega arith in
      rw (p, two_bytes s (at + 3) (at + 4) (omega arith), and-true (eqb (get_or s (at + 2) 0) 32))

  -- four spaces in front
  pub five-spaces : (eqb (get_or s at 0) 32 && (eqb (get_or s (at + 1) 0) 32 && (eqb (get_or s (at + 2) 0) 32 && eqb (get_or s (at + 3) 0) 32))) ≡ true
      → plain (step (step Blank 32) (get_or s (at + 4) 0)) ≡ short_field s at
  five-spaces e =
      let x = (and-eq-true_iff (eqb (get_or s at 0) 32) _).0 e in
      let y = (and-eq-true_iff (eqb (get_or s (at + 1) 0) 32) _).0 x.1 in
      let z = (and-eq-true_iff (eqb (get_or s (at + 2) 0) 32) _).0 y.1 in
      let f : get_or s (at + 3) 0 ≡ 32 = eqb-true (get_or s (at + 3) 0) 32 z.1 in
      sym (short_is ∙ rw (x.0, y.0, z.0, f))

  -- ---- a line of few digits
  pub roomy_is : roomy s at ≡ (eqb (get_or s (at + 28) 0) 10 && (eqb (get_or s at 0) 32 && blank s (at + 3) 16))
  unfolding roomy blank
  roomy_is = rw (and-true (eqb (get_or s at 0) 32))

  abbrev kind : Option ℕ
  kind = plain (field_from s (at + 1) 2 Blank)

  abbrev value : Option ℕ
  value = plain (field_from s (at + 19) 4 Blank)

  abbrev count : Option ℕ
  count = short_field s (at + 23)

-- ---- the line cut out, and its parts
module _ (s : List ℕ) (at : ℕ) where
  abbrev cut : List ℕ
  cut = take 29 (drop at s)

  roomy-cut : roomy cut 0 ≡ roomy s at
  roomy-cut = roomy_is cut 0 ∙ rw (cut-byte s at 29 28 (omega arith), cut-byte s at 29 0 (omega arith), cut-blank s at 29 16 3 (omega arith), add-zero) (sym (roomy_is s at))

  four-cut : field_from (take 4 (drop 19 cut)) 0 4 Blank ≡ field_from s (at + 19) 4 Blank
  four-cut = cut-field cut 19 4 4 0 Blank (omega arith) ∙ cut-field s at 29 4 19 Blank (omega arith)

  byte-of-five : (i : ℕ) → i < 5 → get_or (take 5 (drop 23 cut)) i 0 ≡ get_or s (at + 23 + i) 0
  byte-of-five i h = cut-byte cut 23 5 i h ∙ cut-byte s at 29 (23 + i) (omega arith) ∙ rw (add_assoc at 23 i)

  five-cut : short_field (take 5 (drop 23 cut)) 0 ≡ short_field s (at + 23)
  five-cut =
      short_is (take 5 (drop 23 cut)) 0
      ∙ rw (
        byte-of-five 0 (omega arith),
        byte-of-five 1 (omega arith),
        byte-of-five 2 (omega arith),
        byte-of-five 3 (omega arith),
        byte-of-five 4 (omega arith),
        add-zero,
      ) (sym (short_is s (at + 23)))

  pub few-not : (l : List ℕ) → l ≡ cut → false ≡ roomy l 0 → None ≡ few_at s at
  unfolding few_at
  few-not l e r = let z : false ≡ roomy s at = rw e at r ∙ roomy-cut in rw (← z)

  kind-cut : plain (step (step Blank (get_or cut 1 0)) (get_or cut 2 0)) ≡ kind s at
  kind-cut = rw (cut-byte s at 29 1 (omega arith), cut-byte s at 29 2 (omega arith)) (sym (ap plain (two_bytes s (at + 1) (at + 2) (omega arith))))

  pub few-by : {k v c : Option ℕ} (l : List ℕ) → l ≡ cut → true ≡ roomy l 0 → k ≡ plain (step (step Blank (get_or l 1 0)) (get_or l 2 0))
      → v ≡ plain (field_from (take 4 (drop 19 l)) 0 4 Blank) → c ≡ short_field (take 5 (drop 23 l)) 0 → few_of k v c ≡ few_at s at
  unfolding few_at
  few-by l e r k v c =
      let z : true ≡ roomy s at = rw e at r ∙ roomy-cut in
      rw (← z, ← (rw e at k ∙ kind-cut), ← (rw e at v ∙ ap plain four-cut), ← (rw e at c ∙ five-cut))

-- ---- and it is spelt
-- a field starts after n spaces
blank-field : (s : List ℕ) (n at w : ℕ) → n ≤ w → blank s at n ≡ true → field_from s at w Blank ≡ field_from s (at + n) (w - n) Blank
blank-field s n at w h e =
    let m = spaces_from s (at + n) (w - n) in
    let p : at + (n + m) ≡ at + n + m = omega arith in
    let q : w - (n + m) ≡ w - n - m = omega arith in
    let skip : field_from s (at + (n + m)) (w - (n + m)) Blank ≡ field_from s at w Blank = rw (blank_skip s n at w h e) (spaces-skip s at w) in
    sym skip ∙ rw (p, q) (spaces-skip s (at + n) (w - n))

-- the line of three plain numbers
three : (k v c : Field) (e x y z : ℕ) → k ≡ Number false x → v ≡ Number false y → c ≡ Number false z → e ≡ 10 → y < 2 ^ 63
    → line_of k v c e ≡ Some (record { kind = x; negative = false; value = y; count = z })
unfolding line_of
three k v c e x y z p q r i h = rw (p, q, r, i, lt-ltb y (2 ^ 63) h)

of_fields : (k v c : Field) (e : ℕ) (t : Triple) → e ≡ 10 → ((y : ℕ) → v ≡ Number false y → y < 2 ^ 63) → few_of (plain k) (plain v) (plain c) ≡ Some t
    → line_of k v c e ≡ Some t
of_fields k v c e t i small = go (plain k) refl (plain v) refl (plain c) refl
  where
    go : (x : Option ℕ) → plain k ≡ x → (y : Option ℕ) → plain v ≡ y → (z : Option ℕ) → plain c ≡ z → few_of x y z ≡ Some t → line_of k v c e ≡ Some t
    go (Some x) p (Some y) q (Some z) r h =
        let j = is_plain v y q in three k v c e x y z (is_plain k x p) j (is_plain c z r) i (small y j) ∙ h
    go (Some x) p (Some y) q None r h = cc
    go (Some x) p None q z r h = cc
    go None p y q z r h = cc

record Room (s : List ℕ) (at : ℕ) : Type 0 where
  kind : blank s at 1 ≡ true
  value : blank s (at + 3) 16 ≡ true
  ends : get_or s (at + 28) 0 ≡ 10

room : (s : List ℕ) (at : ℕ) → roomy s at ≡ true → Room s at
unfolding roomy
room s at = go (eqb (get_or s (at + 28) 0) 10) refl (blank s at 1) refl (blank s (at + 3) 16) refl
  where
    go : (p : Bool) → eqb (get_or s (at + 28) 0) 10 ≡ p → (q : Bool) → blank s at 1 ≡ q → (r : Bool) → blank s (at + 3) 16 ≡ r
        → (p && (q && r)) ≡ true → Room s at
    go true p true q true r z = record { kind = q; value = r; ends = eqb-true (get_or s (at + 28) 0) 10 p }
    go true p true q false r z = absurd (false≢true z)
    go true p false q r' r z = absurd (false≢true z)
    go false p q' q r' r z = absurd (false≢true z)

-- a short field is that of all five bytes, or there is no number
short-field : (s : List ℕ) (at : ℕ) → (short_field s at ≡ None) ⊎ (short_field s at ≡ plain (field_from s at 5 Blank))
unfolding short_field
short-field s at = go (blank s at 3) refl
  where
    go : (b : Bool) → blank s at 3 ≡ b → (cond b (plain (field_from s (at + 3) 2 Blank)) None ≡ None) ⊎ (cond b (plain (field_from s (at + 3) 2 Blank)) None ≡ plain (field_from s at 5 Blank))
    go true e = inr (ap plain (sym (blank-field s 3 at 5 (omega arith) e)))
    go false e = inl refl

few_none : (k v : Option ℕ) → few_of k v None ≡ None
few_none (Some k) (Some v) = refl
few_none (Some k) None = refl
few_none None v = refl

spelt : (s : List ℕ) (i : ℕ) (t : Triple) → Room s (line_length * i)
    → few_of (kind s (line_length * i)) (value s (line_length * i)) (count s (line_length * i)) ≡ Some t → line_at s i ≡ Some t
unfolding line_at
spelt s i t r z = go (short-field s (line_length * i + 23))
  where
    go : (short_field s (line_length * i + 23) ≡ None) ⊎ (short_field s (line_length * i + 23) ≡ plain (field_from s (line_length * i + 23) 5 Blank)) → line_at s i ≡ Some t
    go (inl n) = let e = few_none (kind s (line_length * i)) (value s (line_length * i)) in let y : None ≡ Some t = sym e ∙ rw n at z in cc
    go (inr c) =
        let p = line_length * i in
        let e : p + 3 + 16 ≡ p + 19 = omega arith in
        let k : field_from s p 3 Blank ≡ field_from s (p + 1) 2 Blank = blank-field s 1 p 3 (omega arith) r.kind in
        let v : field_from s (p + 3) 20 Blank ≡ field_from s (p + 19) 4 Blank = rw e at (blank-field s 16 (p + 3) 20 (omega arith) r.value) in
        let h = inside s (p + 28) r.ends in
        let small : (y : ℕ) → field_from s (p + 19) 4 Blank ≡ Number false y → y < 2 ^ 63 = λ y j. let l = narrow 4 (p + 19) s false y (omega arith) j in omega arith in
        rw (k, v) (of_fields (field_from s (p + 1) 2 Blank) (field_from s (p + 19) 4 Blank) (field_from s (p + 23) 5 Blank) (get_or s (p + 28) 0) t r.ends small (rw c at z))

-- WHERE IT GIVES A TRIPLE, the line is spelt and says that triple
pub few-spelt : (s : List ℕ) (i : ℕ) (t : Triple) → few_at s (line_length * i) ≡ Some t → line_at s i ≡ Some t
unfolding few_at
few-spelt s i t = go (roomy s (line_length * i)) refl
  where
    go : (r : Bool) → roomy s (line_length * i) ≡ r → cond r (few_of (kind s (line_length * i)) (value s (line_length * i)) (count s (line_length * i))) None ≡ Some t → line_at s i ≡ Some t
    go true e z = spelt s i t (room s (line_length * i) e) z
    go false e z = cc
