-- A line reads as a triple exactly if the triple is fair and the line's 29 bytes are its text: `reads-back`, `only` and
-- `fair`. Assumes nothing.
use Rattle.std.proofs.Common.{Some, None, ◌≡◌, refl, sym, ap, ◌∙◌, Bool, true, false, not, cond, ◌&&◌, List, [], ◌∷◌, ◌++◌, ℕ, zero, suc, ◌+◌, ◌*◌, ◌^◌, ◌≤◌, ◌<◌, arith, add-one, length, get_or, take, drop, length-drop, length-take, length-append, eqb, take-add, drop-drop, length-take-le, drop-cons, take_at, drop_at, lt-ltb, ltb-true, eq-eqb, eqb-true}
use Rattle.sizes.specs.Sizes.{line_length}
use Rattle.spelling.specs.declared.Field.{Field}
use Rattle.spelling.specs.declared.Field.TheVariants.{Blank, Minus, Number, Bad}
use Rattle.spelling.specs.declared.Triple.{Triple}
use Rattle.spelling.specs.Spelling.{field_from, unsigned, magnitude, minus, sign_ok, line_of, line_at}
use Rattle.spelling.specs.Text.{front, field_text, line_text, line_bytes, Fair}
use Rattle.spelling.proofs.Fields.{run, field-run, field-only, field-reads, minus-reads, narrow, in-range, inside}

-- ---- the fields of a line that is spelt
is-unsigned : (f : Field) → unsigned f ≡ true → f ≡ Number false (magnitude f)
is-unsigned Blank e = cc
is-unsigned Minus e = cc
is-unsigned (Number n m) e = go n e
  where
    go : (n : Bool) → not n ≡ true → Number n m ≡ Number false m
    go true e = cc
    go false e = refl
is-unsigned Bad e = cc

is_number : (f : Field) (k : ℕ) → sign_ok f k ≡ true → f ≡ Number (minus f) (magnitude f)
is_number Blank k e = cc
is_number Minus k e = cc
is_number (Number n m) k e = refl
is_number Bad k e = cc

record Fields (k v c : Field) (e : ℕ) (t : Triple) : Type 0 where
  kind : k ≡ Number false t.kind
  value : v ≡ Number t.negative t.value
  count : c ≡ Number false t.count
  sign : sign_ok (Number t.negative t.value) t.kind ≡ true
  ends : e ≡ 10

fields : (k v c : Field) (e : ℕ) (t : Triple) → line_of k v c e ≡ Some t → Fields k v c e t
unfolding line_of
fields k v c e t = go (unsigned k) refl (sign_ok v (magnitude k)) refl (unsigned c) refl (eqb e 10) refl
  where
    u : Triple
    u = record { kind = magnitude k; negative = minus v; value = magnitude v; count = magnitude c }

    go : (p : Bool) → unsigned k ≡ p → (q : Bool) → sign_ok v (magnitude k) ≡ q → (r : Bool) → unsigned c ≡ r → (w : Bool) → eqb e 10 ≡ w
        → cond (p && (q && (r && w))) (Some u) None ≡ Some t → Fields k v c e t
    go true p true q true r true w z =
        let same : u ≡ t = cc in
        let v-is : v ≡ Number (minus v) (magnitude v) = is_number v (magnitude k) q in
        record {
          kind = is-unsigned k p ∙ ap (λ (x : Triple). Number false x.kind) same;
          value = v-is ∙ ap (λ (x : Triple). Number x.negative x.value) same;
          count = is-unsigned c r ∙ ap (λ (x : Triple). Number false x.count) same;
          sign =
              ap (λ (x : Triple). sign_ok (Number x.negative x.value) x.kind) (sym same)
              ∙ ap (λ (f : Field). sign_ok f (magnitude k)) (sym v-is) ∙ q;
          ends = eqb-true e 10 w;
        }
    go true p true q true r false w z = cc
    go true p true q false r w' w z = cc
    go true p false q r' r w' w z = cc
    go false p q' q r' r w' w z = cc

-- ---- a line's bytes are those of its fields
two : (n m p q : ℕ) (s : List ℕ) → p + n ≡ q → take (n + m) (drop p s) ≡ take n (drop p s) ++ take m (drop q s)
two n m p q s e = take-add n m (drop p s) ∙ rw (drop-drop n p s, e)

four : (p : ℕ) (s : List ℕ) → take line_length (drop p s) ≡ take 3 (drop p s) ++ (take 20 (drop (p + 3) s) ++ (take 5 (drop (p + 23) s) ++ take 1 (drop (p + 28) s)))
four p s =
    two 3 26 p (p + 3) s refl
    ∙ ap (λ (x : List ℕ). take 3 (drop p s) ++ x) (two 20 6 (p + 3) (p + 23) s (omega arith)
    ∙ ap (λ (x : List ℕ). take 20 (drop (p + 3) s) ++ x) (two 5 1 (p + 23) (p + 28) s (omega arith)))

module _ (s : List ℕ) (i : ℕ) (t : Triple) (z : line_at s i ≡ Some t) where
  the_fields : Fields (field_from s (line_length * i) 3 Blank) (field_from s (line_length * i + 3) 20 Blank) (field_from s (line_length * i + 23) 5 Blank) (get_or s (line_length * i + 28) 0) t
  unfolding line_at
  the_fields = fields _ _ _ _ t z

  -- a line that is read stands whole in the sheet
  pub whole : line_length * i + line_length ≤ length s
  whole = let h = inside s (line_length * i + 28) the_fields.ends in omega arith

  piece : (at w : ℕ) (n : Bool) (m : ℕ) → at + w ≤ length s → field_from s at w Blank ≡ Number n m → take w (drop at s) ≡ field_text w (Number n m)
  piece at w n m h e = field-only w (take w (drop at s)) n m (length-take-le w (drop at s) (simp length-drop (omega arith))) (sym (field-run w at s Blank h) ∙ e)

  -- ONLY: a line that reads as t is t's text
  pub only : line_bytes s i ≡ line_text t
  unfolding line_text
  only =
      let p = line_length * i in
      let f = the_fields in
      let h = whole in
      let one : take 1 (drop (p + 28) s) ≡ 10 ∷ [] = rw (drop-cons s (p + 28) 0 (omega arith)) (ap (λ (x : ℕ). x ∷ []) f.ends) in
      four p s ∙ rw (piece p 3 false _ (omega arith) f.kind, piece (p + 3) 20 _ _ (omega arith) f.value, piece (p + 23) 5 false _ (omega arith) f.count, one)

  -- FAIR: only fair triples are read
  pub fair : Fair t
  fair =
      let f = the_fields in
      let h = whole in
      let k = narrow 3 (line_length * i) s false t.kind (omega arith) f.kind in
      let c = narrow 5 (line_length * i + 23) s false t.count (omega arith) f.count in
      let p = in-range 20 (line_length * i + 3) s t.negative t.value (omega arith) f.value in
      record { kind = k; count = c; value = sign-value t.negative f.sign; minus = sign-minus t.negative f.sign p }
    where
      sign-value : (n : Bool) → sign_ok (Number n t.value) t.kind ≡ true → n ≡ false → t.value < 2 ^ 63
      sign-value true e q = cc
      sign-value false e q = ltb-true t.value (2 ^ 63) e

      sign-minus : (n : Bool) → sign_ok (Number n t.value) t.kind ≡ true → (t.value ≤ 2 ^ 63) × (n ≡ true → t.value ≡ 0 → ⊥)
          → n ≡ true → (t.kind ≡ 22) × (0 < t.value) × (t.value ≤ 2 ^ 63)
      sign-minus true e p q = let nz = p.1 refl in (eqb-true t.kind 22 e, omega arith, p.0)
      sign-minus false e p q = cc

-- ---- the text of a fair triple
pub length-field : (w : ℕ) (f : Field) → length (field_text w f) ≡ w
unfolding field_text
length-field zero f = refl
length-field (suc w) f = length-append (field_text w (front f)) _ ∙ rw (length-field w (front f)) (add-one w)

pub length-text : (t : Triple) → length (line_text t) ≡ line_length
unfolding line_text
length-text t =
    simp (length-append, length-field 3 (Number false t.kind), length-field 20 (Number t.negative t.value), length-field 5 (Number false t.count))

-- equal lists whose first parts are equally long have equal parts
parts : (n : ℕ) (a b c d : List ℕ) → length a ≡ n → length c ≡ n → a ++ b ≡ c ++ d → (a ≡ c) × (b ≡ d)
parts n a b c d p q e = (sym (take_at a b n p) ∙ ap (take n) e ∙ take_at c d n q, sym (drop_at a b n p) ∙ ap (drop n) e ∙ drop_at c d n q)

sign-ok : (n : Bool) (v k : ℕ) → (n ≡ false → v < 2 ^ 63) → (n ≡ true → k ≡ 22) → sign_ok (Number n v) k ≡ true
sign-ok true v k h g = eq-eqb k 22 (g refl)
sign-ok false v k h g = lt-ltb v (2 ^ 63) (h refl)

-- a value's text fills 20 columns at most, and is in range
value-text : (n : Bool) (v : ℕ) → (n ≡ false → v < 2 ^ 63) → (n ≡ true → (0 < v) × (v ≤ 2 ^ 63)) → run Blank (field_text 20 (Number n v)) ≡ Number n v
value-text true v h g = minus-reads 19 v (omega arith) (let z = g refl in omega arith) (g refl).0 (g refl).1
value-text false v h g = field-reads 20 v (omega arith) (let z = h refl in omega arith) (let z = h refl in omega arith)

-- BACK: the text of a fair triple reads as that triple
pub reads-back : (s : List ℕ) (i : ℕ) (t : Triple) → Fair t → line_bytes s i ≡ line_text t → line_at s i ≡ Some t
unfolding line_at line_of line_text
reads-back s i t y z =
    let p = line_length * i in
    let h : line_length * i + line_length ≤ length s = omega (arith, length-text t, ap length z, length-take line_length (drop p s), length-drop p s) in
    let len : (w at : ℕ) → at + w ≤ length s → length (take w (drop at s)) ≡ w = λ w at l. length-take-le w (drop at s) (simp length-drop (omega arith)) in
    let k : Field = Number false t.kind in
    let v : Field = Number t.negative t.value in
    let c : Field = Number false t.count in
    let x2 = take 20 (drop (p + 3) s) in
    let x3 = take 5 (drop (p + 23) s) in
    let x4 = take 1 (drop (p + 28) s) in
    let e1 = parts 3 (take 3 (drop p s)) (x2 ++ (x3 ++ x4)) (field_text 3 k) (field_text 20 v ++ (field_text 5 c ++ (10 ∷ []))) (len 3 p (omega arith)) (length-field 3 k) (sym (four p s) ∙ z) in
    let e2 = parts 20 x2 (x3 ++ x4) (field_text 20 v) (field_text 5 c ++ (10 ∷ [])) (len 20 (p + 3) (omega arith)) (length-field 20 v) e1.1 in
    let e3 = parts 5 x3 x4 (field_text 5 c) (10 ∷ []) (len 5 (p + 23) (omega arith)) (length-field 5 c) e2.1 in
    let end : take 1 (drop (p + 28) s) ≡ get_or s (p + 28) 0 ∷ [] = rw (drop-cons s (p + 28) 0 (omega arith)) in
    let last : get_or s (p + 28) 0 ≡ 10 = ap (λ (l : List ℕ). get_or l 0 0) (sym end ∙ e3.1) in
    let fk : field_from s p 3 Blank ≡ k = field-run 3 p s Blank (omega arith) ∙ ap (run Blank) e1.0 ∙ field-reads 3 t.kind (omega arith) y.kind (omega (arith, y.kind)) in
    let fv : field_from s (p + 3) 20 Blank ≡ v =
    field-run 20 (p + 3) s Blank (omega arith) ∙ ap (run Blank) e2.0 ∙ value-text t.negative t.value y.value (λ q. ((y.minus q).1, (y.minus q).2)) in
    let fc : field_from s (p + 23) 5 Blank ≡ c = field-run 5 (p + 23) s Blank (omega arith) ∙ ap (run Blank) e3.0 ∙ field-reads 5 t.count (omega arith) y.count (omega (arith, y.count)) in
    rw (fk, fv, fc, last, sign-ok t.negative t.value t.kind y.value (λ q. (y.minus q).0))

-- BACK and ONLY of 29 bytes by themselves
pub text-reads : (t : Triple) → Fair t → line_at (line_text t) 0 ≡ Some t
text-reads t y = reads-back (line_text t) 0 t y (lib.Seq.take_all line_length (line_text t) (omega (arith, length-text t)))

pub text-only : (l : List ℕ) (t : Triple) → length l ≡ line_length → line_at l 0 ≡ Some t → l ≡ line_text t
text-only l t h z = sym (lib.Seq.take_all line_length l (omega arith)) ∙ only l 0 t z
