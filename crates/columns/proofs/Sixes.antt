-- No answer has a number that six columns do not hold: `in-sixes`. Assumes nothing.
use Rattle.std.proofs.Common.{◌≡◌, refl, sym, ap, ◌∙◌, false, List, [], ◌∷◌, ◌++◌, ℕ, zero, suc, ◌+◌, ◌*◌, ◌^◌, ◌<◌, arith, length, get_or, take, drop, length-append, take_at, drop_at, drop-drop, lt-ltb}
use Rattle.nodes.specs.Lists.{All}
use Rattle.spelling.specs.declared.Field.TheVariants.{Blank, Number}
use Rattle.spelling.specs.Spelling.{field_from}
use Rattle.spelling.specs.Text.{field_text}
use Rattle.spelling.proofs.Fields.{run, field-run, field-reads}
use Rattle.spelling.proofs.Texts.{length-field}
use Rattle.judgment.specs.declared.Answer.{Answer}
use Rattle.judgment.proofs.Narrow.{Narrow, narrow}
use Rattle.judgment.specs.Levels.{Mode}
use Rattle.judgment.specs.Result.{numbers, Buffers, call}
use Rattle.columns.specs.Columns.{column, columns_text, answer_text, sixes, InSixes}

abbrev Six : ℕ → Type 0
Six n = n < 10 ^ 6

column-six : (n : ℕ) → Six n → column n ≡ field_text 6 (Number false n)
unfolding column
column-six n h = rw (lt-ltb n (10 ^ 6) h)

columns-six : (ns : List ℕ) → All Six ns → columns_text ns ≡ sixes ns
unfolding columns_text sixes
columns-six [] h = refl
columns-six (n ∷ ns) h = rw (column-six n h.0, columns-six ns h.1)

length-sixes : (ns : List ℕ) → length (sixes ns) ≡ 6 * length ns + 1
unfolding sixes
length-sixes [] = refl
length-sixes (n ∷ ns) = omega (arith, length-append (field_text 6 (Number false n)) (sixes ns), length-field 6 (Number false n), length-sixes ns)

-- the six bytes of number i
sixes-at : (ns : List ℕ) (i : ℕ) → i < length ns → take 6 (drop (6 * i) (sixes ns)) ≡ field_text 6 (Number false (get_or ns i 0))
unfolding sixes
sixes-at [] i h = absurd (omega arith)
sixes-at (n ∷ ns) zero h = take_at (field_text 6 (Number false n)) (sixes ns) 6 (length-field 6 (Number false n))
sixes-at (n ∷ ns) (suc i) h =
    let t = field_text 6 (Number false n) in
    let e : 6 * suc i ≡ 6 + 6 * i = omega arith in
    ap (take 6) (ap (λ (k : ℕ). drop k (t ++ sixes ns)) e ∙ sym (drop-drop (6 * i) 6 (t ++ sixes ns)) ∙ ap (drop (6 * i)) (drop_at t (sixes ns) 6 (length-field 6 (Number false n))))
    ∙ sixes-at ns i (omega arith)

six-at : (ns : List ℕ) (i : ℕ) → i < length ns → All Six ns → Six (get_or ns i 0)
six-at [] i h g = absurd (omega arith)
six-at (n ∷ ns) zero h g = g.0
six-at (n ∷ ns) (suc i) h g = six-at ns i (omega arith) g.1

sixes-read : (ns : List ℕ) (i : ℕ) → i < length ns → All Six ns → field_from (sixes ns) (6 * i) 6 Blank ≡ Number false (get_or ns i 0)
sixes-read ns i h g =
    let s = six-at ns i h g in
    field-run 6 (6 * i) (sixes ns) Blank (omega (arith, length-sixes ns)) ∙ ap (run Blank) (sixes-at ns i h) ∙ field-reads 6 (get_or ns i 0) (omega arith) s (omega arith)

narrow-six : (a : Answer) → Narrow a → InSixes a
unfolding answer_text
narrow-six a h =
    let g : All Six (numbers a) = (omega (arith, h.number), (omega (arith, h.line), (omega (arith, h.taken), (omega (arith, h.fresh), (omega (arith, h.detail1), (omega (arith, h.detail2), (omega (arith, h.plain), tt))))))) in
    let e = columns-six (numbers a) g in
    record {
      text = e;
      bytes = ap length e ∙ length-sixes (numbers a);
      reads = λ i l. ap (λ (t : List ℕ). field_from t (6 * i) 6 Blank) e ∙ sixes-read (numbers a) i l g;
    }

-- SIX COLUMNS: the text of the answer of every call
pub in-sixes : (m : Mode) (s : List ℕ) (c w : ℕ) (b : Buffers) → InSixes (call m s c w b).answer
in-sixes m s c w b = narrow-six (call m s c w b).answer (narrow m s c w b)
