-- Laws of texts written one after another. Assumes nothing.
use Rattle.std.proofs.Common.{min, take_all, length-take-le, take-append-drop, ◌≡◌, refl, sym, ap, ◌∙◌, false, List, [], ◌∷◌, ◌++◌, ℕ, zero, suc, ◌+◌, ◌-◌, ◌≤◌, arith, length, take, drop, length-append, take_at}
use borrow.Rule.Slice.PartMut.{put_mid}
use Rattle.std.proofs.lemmas.Slice.{put_mid-paste}
use Rattle.std.proofs.lemmas.List.{drop_all}
use Rattle.std.proofs.lemmas.List.Edits.{sets, sets-eq}
use Rattle.std.proofs.Math.Seq.{length-sets, set_out}
use Rattle.spelling.specs.declared.Field.TheVariants.{Number}
use Rattle.spelling.specs.Text.{field_text}
use Rattle.spelling.proofs.Texts.{length-field}
use Rattle.nodes.proofs.Laws.{sets-append}
use Rattle.columns.specs.Columns.{digits}
use Rattle.columns.proofs.Laws.{digits-few}
use Rattle.wording.specs.declared.Text.{Text}
use Rattle.wording.specs.Texts.{least, number_text, Wrote, Left}
use Rattle.wording.specs.Put.{Put}

-- nothing is written past the end
pub sets-out : (l : List ℕ) (i : ℕ) (vs : List ℕ) → length l ≤ i → sets l i vs ≡ l
sets-out l i [] h = refl
sets-out l i (v ∷ vs) h = rw (set_out l i v h) (sets-out l (suc i) vs (omega arith))

-- what the cut text leaves out is not written
rest-out : (l t : List ℕ) (i n : ℕ) → n ≡ min (length t) (length l - i) → sets l (i + n) (drop n t) ≡ l
rest-out l t i n e = go (length t - n) refl
  where
    go : (d : ℕ) → length t - n ≡ d → sets l (i + n) (drop n t) ≡ l
    go zero z = let h : length t ≤ n = omega arith in rw (drop_all n t h)
    go (suc d) z = sets-out l (i + n) (drop n t) (omega arith)

-- a copy of as much as there is room for
pub put-cut : (l t m : List ℕ) (i n k : ℕ) → i ≤ length l → n ≡ min (length t) (length l - i) → k ≡ n → m ≡ take n t
    → put_mid i k l m ≡ sets l i t
put-cut l t m i n k h e f g =
    let v = take n t in
    let c : length v ≡ n = length-take-le n t (omega arith) in
    let s : length (sets l i v) ≡ length l = length-sets l i v in
    put_mid-paste i k l m v n g (sym f) (sym c)
    ∙ ap (λ (w : List ℕ). take i l ++ w ++ drop (i + n) l) (take_all n v (omega arith))
    ∙ ap (λ (j : ℕ). take i l ++ v ++ drop (i + j) l) (sym c)
    ∙ sym (sets-eq v l i (omega arith))
    ∙ sym (rest-out (sets l i v) t i n (omega arith))
    ∙ ap (λ (j : ℕ). sets (sets l i v) (i + j) (drop n t)) (sym c)
    ∙ sym (sets-append l i v (drop n t))
    ∙ ap (sets l i) (take-append-drop n t)

-- a text, then another
module _ {l s m : List ℕ} {i j : ℕ} (w : Wrote l i s m j) where
  same : length m ≡ length l
  same = ap length w.text ∙ length-sets l i s

  -- what is written at the end of the cut text is written at the end of the whole text
  on : (t : List ℕ) → sets m (i + length s) t ≡ sets m j t
  on t = go (length l - (i + length s)) refl
    where
      go : (d : ℕ) → length l - (i + length s) ≡ d → sets m (i + length s) t ≡ sets m j t
      go zero e =
          let b : length m ≡ length l = same in
          let n : j ≡ least (length l) (i + length s) = w.next in
          sets-out m (i + length s) t (omega arith) ∙ sym (sets-out m j t (omega arith))
      go (suc d) e =
          let n : j ≡ least (length l) (i + length s) = w.next in
          let k : i + length s ≡ j = omega arith in
          ap (λ (x : ℕ). sets m x t) k

  pub left-put : (t : List ℕ) → Left l i (s ++ t) m j t
  left-put t =
      let b : length m ≡ length l = same in
      let n : j ≡ least (length l) (i + length s) = w.next in
      record {
        text = sets-append l i s t ∙ rw (sym w.text) (on t);
        next = rw (length-append s t) (omega arith);
      }

  pub then : {t n : List ℕ} {k : ℕ} → Wrote m j t n k → Wrote l i (s ++ t) n k
  then {t} v =
      let p = left-put t in
      record { text = v.text ∙ sym p.text; next = v.next ∙ sym p.next }

pub left-none : {l s : List ℕ} {i : ℕ} → Left l i s l i s
left-none = record { text = refl; next = refl }

pub left-then : {l s m t n u : List ℕ} {i j k : ℕ} → Left l i s m j t → Left m j t n k u → Left l i s n k u
left-then p q = record { text = p.text ∙ q.text; next = p.next ∙ q.next }

pub left_end : {l s m : List ℕ} {i j : ℕ} → j ≤ length m → Left l i s m j [] → Wrote l i s m j
left_end {l} {s} {m} {i} {j} h p =
    let n : least (length l) (i + length s) ≡ least (length m) (j + 0) = p.next in
    record { text = sym p.text; next = omega arith }

pub then_put : {a b c : Text} {s t : List ℕ} → Put a s b → Put b t c → Put a (s ++ t) c
then_put p q = record { same = q.same ∙ p.same; wrote = then p.wrote q.wrote }

-- a text written at the front is read back from there
pub front-back : (l t : List ℕ) (n : ℕ) → length t ≡ n → n ≤ length l → take n (sets l 0 t) ≡ t
front-back l t n e h =
    let k : 0 + length t ≤ length l = omega arith in
    ap (take n) (sets-eq t l 0 k) ∙ take_at t _ n e

pub number-back : (l m : List ℕ) (n w : ℕ) → w ≡ digits n → 10 ≤ length l → m ≡ sets l 0 (field_text w (Number false n)) → take w m ≡ number_text n
unfolding number_text
number-back l m n w e h p =
    let k : w ≤ 10 = rw e (digits-few n) in
    ap (take w) p ∙ front-back l (field_text w (Number false n)) w (length-field w (Number false n)) (omega arith) ∙ ap (λ (v : ℕ). field_text v (Number false n)) e
