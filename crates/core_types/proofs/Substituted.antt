-- What stands where a type was substituted in place, and beside it. Assumes nothing.
use Rattle.std.proofs.Common.{◌≡◌, sym, ap, ap₂, ◌∙◌, ◌⊎◌, inl, inr, List, ℕ, ◌+◌, ◌*◌, ◌≤◌, arith, length}
use lib.Seq.{sets}
use Rattle.nodes.specs.Nodes.{Node, Ty, words, nodes_at}
use Rattle.nodes.proofs.Laws.{length-nodes_at, length-words, nodes_at-same, nodes_at-below, nodes_at-above}
use Rattle.judgment.specs.Types.{substitute}
use Rattle.core_types.proofs.Walks.{length_from}

module _ (x : ℕ) (r : Node) (t t' : List ℕ) (at n : ℕ) (e : t' ≡ sets t at (words (substitute x r (nodes_at t at n)))) where
  abbrev s : Ty
  s = substitute x r (nodes_at t at n)

  long : length s ≡ n
  unfolding substitute
  long = length_from x r (nodes_at t at n) 0 ∙ length-nodes_at t at n

  pub substituted-at : at + 2 * n ≤ length t → nodes_at t' at n ≡ s
  substituted-at h =
      let l = long in
      ap₂ (λ (y : List ℕ) (m : ℕ). nodes_at y at m) e (sym long) ∙ nodes_at-same s t at (omega arith)

  pub beside : (p m : ℕ) → (p + 2 * m ≤ at) ⊎ (at + 2 * n ≤ p) → nodes_at t' p m ≡ nodes_at t p m
  beside p m (inl h) = ap (λ (y : List ℕ). nodes_at y p m) e ∙ nodes_at-below t at (words s) p m h
  beside p m (inr h) = ap (λ (y : List ℕ). nodes_at y p m) e ∙ nodes_at-above t at (words s) p m (omega (arith, length-words s, long))
