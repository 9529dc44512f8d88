-- Laws of the numbers of a text: what stands first in it tells what is read there. Assumes nothing.
use Rattle.std.proofs.Common.{◌≡◌, ℕ, zero, suc, ◌+◌, ◌-◌, ◌*◌, ◌<◌, ◌≤◌, Bool, true, false, List, [], ◌∷◌, length, refl, ap, ◌∙◌, arith}
use Rattle.spelling.proofs.Tests.{tests}
use Rattle.replay.specs.Parsing.{Parse, fails, gives, and_then, number_if, is_digit, digits, times}

-- ---- digits
module _ (s m : Bool) (n b : ℕ) (t : List ℕ) where
  pub at-digit : (b ≡ 32 → ⊥) → is_digit b ≡ true → n ≤ 922337203685477580 → digits s m n (b ∷ t) ≡ digits true m (10 * n + (b - 48)) t
  unfolding digits
  at-digit e h k = simp (tests, h)

  pub at_other : (b ≡ 32 → ⊥) → is_digit b ≡ false → digits s m n (b ∷ t) ≡ fails
  unfolding digits
  at_other e h = simp (tests, h)

  pub at_long : (b ≡ 32 → ⊥) → is_digit b ≡ true → 922337203685477580 < n → digits s m n (b ∷ t) ≡ fails
  unfolding digits
  at_long e h k = simp (tests, h)

  pub at-space : b ≡ 32 → digits s m n (b ∷ t) ≡ number_if s m n t
  unfolding digits
  at-space e = simp tests

pub at-end : (s m : Bool) (n : ℕ) (t : List ℕ) → length t ≡ 0 → digits s m n t ≡ number_if s m n t
unfolding digits
at-end s m n [] h = refl
at-end s m n (b ∷ t) h = absurd (omega arith)

-- ---- n things, of which i were read
module _ {A : Type 0} (n : ℕ) (f : ℕ → A → List ℕ → Parse A) (i : ℕ) (x : A) (s : List ℕ) where
  pub times_next : i < n → times (n - i) f i x s ≡ and_then (f i x s) (times (n - (i + 1)) f (i + 1))
  unfolding times
  times_next h = let k : n - i ≡ suc (n - (i + 1)) = omega arith in rw k

  pub times_done : n ≤ i → times (n - i) f i x s ≡ gives x s
  unfolding times
  times_done h = let k : n - i ≡ zero = omega arith in rw k

  -- of a reading that came so far
  pub times_more : (o : Parse A) (y : A) (t : List ℕ) → o ≡ times (n - i) f i x s → i < n → f i x s ≡ gives y t → o ≡ times (n - (i + 1)) f (i + 1) y t
  times_more o y t h k e = h ∙ times_next k ∙ ap (λ (p : Parse A). and_then p (times (n - (i + 1)) f (i + 1))) e

-- what a loop's start, failure and end need
pub ruleset turns = (times_next, times_done)
