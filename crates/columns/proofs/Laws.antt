-- Laws of fields and columns as they are written. Assumes nothing.
use Rattle.std.proofs.Common.{◌≡◌, refl, sym, ap, ◌∙◌, false, List, [], ◌∷◌, ◌++◌, max, ℕ, zero, suc, ◌+◌, ◌-◌, ◌*◌, ◌^◌, ◌<◌, ◌≤◌, arith, add-one, length, get_or, set, drop, length-append, drop-cons}
use Rattle.std.proofs.lemmas.Bool.Decides.{nat_tests}
use Rattle.std.proofs.lemmas.List.{drop_all}
use Rattle.std.proofs.lemmas.List.Edits.{sets}
use Rattle.std.proofs.Math.Seq.{set_comm}
use Rattle.nodes.proofs.Laws.{sets-append}
use Rattle.spelling.specs.declared.Field.{Field}
use Rattle.spelling.specs.declared.Field.TheVariants.{Number}
use Rattle.spelling.specs.declared.Triple.{Triple}
use Rattle.spelling.specs.Text.{last, front, field_text, line_text}
use Rattle.spelling.proofs.Texts.{length-field}
use Rattle.columns.specs.Columns.{digits, width, column, Written, columns_text}

-- a byte above a text may be written before it
set-above : (l : List ℕ) (i k a : ℕ) (vs : List ℕ) → i + length vs ≤ k → sets (set l k a) i vs ≡ set (sets l i vs) k a
set-above l i k a [] h = refl
set-above l i k a (v ∷ vs) h = ap (λ (x : List ℕ). sets x (suc i) vs) (set_comm l k i a v (λ e. omega arith)) ∙ set-above (set l i v) (suc i) k a vs (omega arith)

-- one byte less: the last one first, then what stands before it
field-last : (l : List ℕ) (at i : ℕ) (f : Field) → sets (set l (at + i) (last f)) at (field_text i (front f)) ≡ sets l at (field_text (suc i) f)
unfolding field_text
field-last l at i f =
    let t = field_text i (front f) in
    let e : length t ≡ i = length-field i (front f) in
    set-above l at (at + i) (last f) t (omega arith)
    ∙ ap (λ (k : ℕ). set (sets l at t) (at + k) (last f)) (sym e)
    ∙ sym (sets-append l at t (last f ∷ []))

pub field_step : (l : List ℕ) (at i : ℕ) (f : Field) → 0 < i
    → sets (set l (at + (i - 1)) (last f)) at (field_text (i - 1) (front f)) ≡ sets l at (field_text i f)
field_step l at i f h =
    let e : i ≡ suc (i - 1) = omega arith in
    field-last l at (i - 1) f ∙ ap (λ (k : ℕ). sets l at (field_text k f)) (sym e)

-- text after a field
field-then : (l m : List ℕ) (i w : ℕ) (f : Field) (ws : List ℕ) → m ≡ sets l i (field_text w f) → sets m (i + w) ws ≡ sets l i (field_text w f ++ ws)
field-then l m i w f ws p = rw p (ap (λ (k : ℕ). sets (sets l i (field_text w f)) (i + k) ws) (sym (length-field w f)) ∙ sym (sets-append l i (field_text w f) ws))

-- the three fields of a line and LF
pub line-written : (t : Triple) (l₀ l₁ l₂ l₃ : List ℕ) (at : ℕ) → l₁ ≡ sets l₀ at (field_text 3 (Number false t.kind))
    → l₂ ≡ sets l₁ (at + 3) (field_text 20 (Number t.negative t.value)) → l₃ ≡ sets l₂ (at + 23) (field_text 5 (Number false t.count))
    → set l₃ (at + 28) 10 ≡ sets l₀ at (line_text t)
unfolding line_text
line-written t l₀ l₁ l₂ l₃ at p₁ p₂ p₃ =
    let a : at + 23 ≡ at + 3 + 20 = omega arith in
    let b : at + 28 ≡ at + 23 + 5 = omega arith in
    ap (λ (k : ℕ). set l₃ k 10) b
    ∙ field-then l₂ l₃ (at + 23) 5 (Number false t.count) (10 ∷ []) p₃
    ∙ ap (λ (k : ℕ). sets l₂ k (field_text 5 (Number false t.count) ++ (10 ∷ []))) a
    ∙ field-then l₁ l₂ (at + 3) 20 (Number t.negative t.value) _ p₂
    ∙ field-then l₀ l₁ at 3 (Number false t.kind) _ p₁

-- ten digits are enough for 32 bits
pub digits-few : (n : ℕ) → digits n ≤ 10
digits-few n = grind (arith, nat_tests)

pub width_small : (n : ℕ) → width n ≤ 10
width_small n = grind (arith, nat_tests)

-- the power of ten at or below a number tells its digits; 0 has one
pub digits-log : (n m d : ℕ) → m ≡ max n 1 → d < 10 → 10 ^ d ≤ m → m < 10 * 10 ^ d → d + 1 ≡ digits n
digits-log n m zero e h p q = grind (arith, nat_tests)
digits-log n m (suc zero) e h p q = grind (arith, nat_tests)
digits-log n m (suc (suc zero)) e h p q = grind (arith, nat_tests)
digits-log n m (suc (suc (suc zero))) e h p q = grind (arith, nat_tests)
digits-log n m (suc (suc (suc (suc zero)))) e h p q = grind (arith, nat_tests)
digits-log n m (suc (suc (suc (suc (suc zero))))) e h p q = grind (arith, nat_tests)
digits-log n m (suc (suc (suc (suc (suc (suc zero)))))) e h p q = grind (arith, nat_tests)
digits-log n m (suc (suc (suc (suc (suc (suc (suc zero))))))) e h p q = grind (arith, nat_tests)
digits-log n m (suc (suc (suc (suc (suc (suc (suc (suc zero)))))))) e h p q = grind (arith, nat_tests)
digits-log n m (suc (suc (suc (suc (suc (suc (suc (suc (suc zero))))))))) e h p q = grind (arith, nat_tests)
digits-log n m (suc (suc (suc (suc (suc (suc (suc (suc (suc (suc d)))))))))) e h p q = absurd (omega arith)

pub width-digits : (n d w : ℕ) → d ≡ digits n → w ≡ max d 6 → w ≡ width n
width-digits n d w e f = grind (arith, nat_tests)

length-column : (n : ℕ) → length (column n) ≡ width n
unfolding column
length-column n = length-field (width n) (Number false n)

-- text after a column
then : {l m : List ℕ} {i n j : ℕ} → Written l i n m j → (ws : List ℕ) → sets m j ws ≡ sets l i (column n ++ ws)
then {l} {m} {i} {n} {j} w ws = rw (w.text, w.next, sym (length-column n)) (sym (sets-append l i (column n) ws))

-- the columns from number i on: its column and those after it, or LF
columns_more : (ns : List ℕ) (i : ℕ) → i < length ns → columns_text (drop i ns) ≡ column (get_or ns i 0) ++ columns_text (drop (i + 1) ns)
unfolding columns_text
columns_more ns i h = rw (add-one, drop-cons ns i 0 h) refl

pub columns_done : (ns : List ℕ) (i : ℕ) → length ns ≤ i → columns_text (drop i ns) ≡ 10 ∷ []
unfolding columns_text
columns_done ns i h = rw (drop_all i ns h) refl

pub columns-length : (ns : List ℕ) (i : ℕ) → i < length ns
    → length (columns_text (drop i ns)) ≡ width (get_or ns i 0) + length (columns_text (drop (i + 1) ns))
columns-length ns i h = simp (columns_more ns i h, length-append, length-column)

-- one turn of the loop
pub columns-turn : {l m : List ℕ} {i j : ℕ} (ns : List ℕ) (k : ℕ) → k < length ns → Written l i (get_or ns k 0) m j
    → sets m j (columns_text (drop (k + 1) ns)) ≡ sets l i (columns_text (drop k ns))
columns-turn {l} {m} {i} ns k h w = then w _ ∙ ap (sets l i) (sym (columns_more ns k h))
