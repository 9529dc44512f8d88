-- Laws of the lines of a text. Assumes nothing.
use Rattle.std.proofs.Common.{◌≡◌, ℕ, ◌+◌, ◌-◌, ◌<◌, ◌≤◌, Bool, true, false, cond, ltb, ◌==◌, List, length, get_or, drop, Option, Some, None, is_some, not, position, slice_range, refl, sym, ◌∙◌, arith, length-drop, length-take-le, get_or-drop, get_or-take, ltb-true}
use Rattle.std.proofs.lemmas.Bool.{eqb-true, eqb-false, ltb-false}
use Rattle.std.proofs.lemmas.List.Sums.{fails_before_first, passes_at_first}
use Rattle.std.specs.List.{position_or_len}
use Rattle.spelling.proofs.Tests.{tests}
use Rattle.replay.specs.Lines.{LineEnds}

-- ---- what a search found
is-some : (b : Bool) (q n : ℕ) → Some n ≡ cond b (Some q) None → (b ≡ true) × (q ≡ n)
is-some true q n e = (refl, cc)
is-some false q n e = cc

is-none : (b : Bool) (q : ℕ) → ◌≡◌ {A = Option ℕ} None (cond b (Some q) None) → b ≡ false
is-none true q e = cc
is-none false q e = refl

module _ (text : List ℕ) (at end : ℕ) (a : at ≤ end) (h : end ≤ length text) where
  part-length : length (slice_range text at end) ≡ end - at
  part-length = length-take-le (end - at) (drop at text) (omega (arith, length-drop at text))

  part_at : (k : ℕ) → k < end - at → get_or (slice_range text at end) k 0 ≡ get_or text (at + k) 0
  part_at k l = rw (get_or-take, get_or-drop)

  other : (k : ℕ) → k < position_or_len (λ b. b == 10) (slice_range text at end) → k < end - at → get_or text (at + k) 0 ≡ 10 → ⊥
  other k l m e = eqb-false _ _ (fails_before_first (λ b. b == 10) (slice_range text at end) k 0 l) (part_at k m ∙ e)

  pub lf-found : (n : ℕ) → Some n ≡ position (λ b. b == 10) (slice_range text at end) → LineEnds text at end (at + n)
  lf-found n e =
      let s = slice_range text at end in
      let q = position_or_len (λ (b : ℕ). b == 10) s in
      let f = is-some (ltb q (length s)) q n e in
      let k : q < length s = ltb-true q (length s) f.0 in
      let m : n < end - at = omega (arith, part-length) in
      record {
        start = omega arith;
        stop = omega arith;
        none_before = λ j l i w. other (j - at) (omega (arith, f.1)) (omega arith) (let o : at + (j - at) ≡ j = omega arith in rw o w);
        feed = λ l. sym (part_at n m) ∙ rw f.1 at (eqb-true (get_or s q 0) 10 (passes_at_first (λ b. b == 10) s 0 k));
      }

  pub lf-in : (n : ℕ) → Some n ≡ position (λ b. b == 10) (slice_range text at end) → at + n < end
  lf-in n e =
      let q = position_or_len (λ (b : ℕ). b == 10) (slice_range text at end) in
      let f = is-some (ltb q (length (slice_range text at end))) q n e in
      omega (arith, f.1, part-length, ltb-true q (length (slice_range text at end)) f.0)

  pub lf-none : None ≡ position (λ b. b == 10) (slice_range text at end) → LineEnds text at end end
  lf-none e =
      let s = slice_range text at end in
      let q = position_or_len (λ (b : ℕ). b == 10) s in
      let k : length s ≤ q = ltb-false q (length s) (is-none (ltb q (length s)) q e) in
      record {
        start = a;
        stop = omega arith;
        none_before = λ j l i w. other (j - at) (omega (arith, part-length)) (omega arith) (let o : at + (j - at) ≡ j = omega arith in rw o w);
        feed = λ l. absurd (omega arith);
      }

-- ---- what is left after a line
pub next-feed : (b end : ℕ) → b < end → b + 1 ≡ cond (ltb b end) (b + 1) end
next-feed b end h = simp tests

pub next-none : (end : ℕ) → end ≡ cond (ltb end end) (end + 1) end
next-none end = let h : end ≤ end = omega arith in simp tests

-- what `is_none` tells
pub told-none : (o : Option ℕ) (r : Bool) → is_some o ≡ not r → r ≡ true → None ≡ o
told-none None r e h = refl
told-none (Some n) r e h = let k = rw h at e in cc
