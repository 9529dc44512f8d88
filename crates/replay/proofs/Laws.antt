-- Laws of buffers that `fill` was called on, from what that ensures. Assumes nothing.
use Rattle.std.proofs.Common.{◌≡◌, ℕ, List, length, replicate, ap, ◌∙◌}
use Rattle.nodes.specs.Nodes.{zeros}
use Rattle.replay.specs.Recorded.{dirt}

module _ (w s : List ℕ) (n x : ℕ) (f : ((y : ℕ) → y ≡ x → y ≡ x) → w ≡ replicate (length s) x) (e : length s ≡ n) where
  filled : w ≡ replicate n x
  filled = f (λ y h. h) ∙ ap (λ (m : ℕ). replicate m x) e

pub zeroed : (w s : List ℕ) (n : ℕ) → (((y : ℕ) → y ≡ 0 → y ≡ 0) → w ≡ replicate (length s) 0) → length s ≡ n → w ≡ zeros n
unfolding zeros
zeroed w s n f e = filled w s n 0 f e

pub soiled : (w s : List ℕ) (n : ℕ) → (((y : ℕ) → y ≡ 3735928559 → y ≡ 3735928559) → w ≡ replicate (length s) 3735928559) → length s ≡ n → w ≡ dirt n
unfolding dirt
soiled w s n f e = filled w s n 3735928559 f e
