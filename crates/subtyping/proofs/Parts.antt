-- The two parts of an Arrow or an App, compared. Assumes nothing.
use Rattle.std.proofs.Common.{◌≡◌, ap₂, Bool, true, false, cond, List, ℕ, ◌+◌, ◌*◌, ◌-◌, ◌≤◌, arith, length}
use Rattle.nodes.specs.Nodes.{Ty, nodes_at}
use Rattle.spelling.specs.declared.Triple.{Triple}
use Rattle.judgment.specs.Types.{first}
use Rattle.judgment.specs.Board.{sub, push, done}
use Rattle.judgment.specs.Result.{Way}
use Rattle.core_types.proofs.Walks.{first-within, first-nodes, rest-nodes}
use Rattle.operations.specs.declared.Run.{Run}
use Rattle.operations.specs.State.{WellFormed, Does, PerformsOnBoard}
use Rattle.operations.proofs.Then.{push-then, does-as}
use Rattle.subtyping.specs.Subtyping.{parts_by, PartsAsk}

-- two comparisons, one after the other
two-subs : {w : Way} {ls : List Triple} {b k rep b₁ k₁ rep₁ b₂ k₂ rep₂ : List ℕ} {c c₁ c₂ : Run} {s t u v s' t' u' v' : Ty} → Does w ls b k rep c (push (sub s t) done) b₁ k₁ rep₁ c₁
    → (WellFormed b₁ k₁ c₁ → Does w ls b₁ k₁ rep₁ c₁ (push (sub u v) done) b₂ k₂ rep₂ c₂) → s ≡ s' → t ≡ t' → u ≡ u' → v ≡ v'
    → Does w ls b k rep c (push (sub s' t') (push (sub u' v') done)) b₂ k₂ rep₂ c₂
two-subs d e p q x y =
    push-then (does-as (λ _. ap₂ (λ (m n : Ty). push (sub m n) done) p q) d) (does-as (λ _. ap₂ (λ (m n : Ty). push (sub m n) done) x y) (e d.kept))

-- the comparison of the first parts, of m and n nodes, crossed or not
abbrev pub FirstPushed : List ℕ → Run → List ℕ → ℕ → ℕ → ℕ → ℕ → Bool → List ℕ → Run → Type 0
FirstPushed b c t la ra m n x b' c' = PerformsOnBoard b c (λ _. push (cond x (sub (nodes_at t ra n) (nodes_at t la m)) (sub (nodes_at t la m) (nodes_at t ra n))) done) b' c'

-- the code, by the counts m and n of the first parts
module _ {b : List ℕ} {c : Run} {t : List ℕ} {la ln ra rn m n : ℕ} (p : PartsAsk b c t la ln ra rn) (e : m ≡ length (first (nodes_at t la ln))) (f : n ≡ length (first (nodes_at t ra rn))) where
  pub counts : (m ≤ ln) × (n ≤ rn)
  counts = (first-within t la ln m e, first-within t ra rn n f)

  pub firsts : (la + 2 * m ≤ length t) × (ra + 2 * n ≤ length t)
  firsts = let s = counts in let x = p.left in let y = p.right in (omega arith, omega arith)

  pub rests : (la + 2 * m + 2 * (ln - m) ≤ length t) × (ra + 2 * n + 2 * (rn - n) ≤ length t)
  rests = let s = counts in let x = p.left in let y = p.right in (omega arith, omega arith)

  pub parts-pushed : (x : Bool) {b₁ b₂ : List ℕ} {c₁ c₂ : Run} → FirstPushed b c t la ra m n x b₁ c₁
      → PerformsOnBoard b₁ c₁ (λ _. push (sub (nodes_at t (la + 2 * m) (ln - m)) (nodes_at t (ra + 2 * n) (rn - n))) done) b₂ c₂ → PerformsOnBoard b c (λ _. parts_by x (nodes_at t la ln) (nodes_at t ra rn)) b₂ c₂
  parts-pushed true d g = λ w ls k rep h. two-subs (d w ls k rep h) (g w ls k rep) (first-nodes t ra rn n f) (first-nodes t la ln m e) (rest-nodes t la ln m e) (rest-nodes t ra rn n f)
  parts-pushed false d g = λ w ls k rep h. two-subs (d w ls k rep h) (g w ls k rep) (first-nodes t la ln m e) (first-nodes t ra rn n f) (rest-nodes t la ln m e) (rest-nodes t ra rn n f)
