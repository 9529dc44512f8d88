-- `write_out` is the Rust's `zonk`: the one function on types that goes into the parts and follows every solution.
-- Assumes nothing.
use Rattle.std.specs.Prelude.{Option, None, Some}
use Prim.Native.Nat.{ℕ}
use mathlib.Core.Path.{◌≡◌, refl, sym, ◌∙◌, ap, ap₂, subst, subst⁻¹}
use mathlib.Core.Logic.{◌≢◌}
use mathlib.Core.Bool.{Bool, true, false, true≢false}
use mathlib.Core.List.{[], ◌∷◌, ◌++◌}
use mathlib.Core.WellFounded.{Acc}
use lib.Dec.{eqb}
use Rattle.nodes.specs.Lists.{All, In}
use Rattle.nodes.proofs.ListLaws.{all_of}
use Rattle.nodes.specs.Nodes.{Node, node, Ty}
use Rattle.judgment.specs.Types.{unknown}
use Rattle.judgment.proofs.TypeLaws.{eqb-true}
use Rattle.judgment.specs.Solutions.{◌≔◌, Solutions, find, write_out}
use Rattle.judgment.proofs.SolutionLaws.{find-some, find-none-free, written-free, written-append, written-node, solved, unsolved, ends}
use Rattle.judgment.specs.Promise.{Follows}
use Rattle.judgment.specs.Good.{Fine}

-- what `zonk` does at each kind of type: it goes on into the parts, and into a solution
pub record Zonks (σ : Solutions) (g : Ty → Ty) : Type 0 where
  pub nil : g [] ≡ []
  pub parts : (s t : Ty) → g (s ++ t) ≡ g s ++ g t
  pub other : (k v : ℕ) → k ≢ 17 → g (node k v ∷ []) ≡ node k v ∷ []
  pub solved : (k : ℕ) (s : Ty) → In (◌≔◌ k s) σ → g (unknown k) ≡ g s
  pub unsolved : (k : ℕ) → find k σ ≡ None → g (unknown k) ≡ unknown k

written-nil : (σ : Solutions) → write_out σ [] ≡ []
written-nil σ = written-free σ [] tt

pub write_out-zonks : (σ : Solutions) → Fine σ → Zonks σ (write_out σ)
write_out-zonks σ f = record {
  nil = written-nil σ;
  parts = written-append σ;
  other = written-node σ;
  solved = λ k s m. solved σ f (◌≔◌ k s) m;
  unsolved = λ k e. unsolved σ k (find-none-free σ k e);
}

module _ (σ : Solutions) (f : Fine σ) (g : Ty → Ty) (Z : Zonks σ g) where
  node-by-node : (t : Ty) → All (λ n. g (n ∷ []) ≡ write_out σ (n ∷ [])) t → g t ≡ write_out σ t
  node-by-node [] h = Z.nil ∙ sym (write_out-zonks σ f).nil
  node-by-node (n ∷ t) h =
      Z.parts (n ∷ []) t ∙ ap₂ {C = Ty} (λ x y. x ++ y) h.0 (node-by-node t h.1) ∙ sym (written-append σ (n ∷ []) t)

  at-node : (n : Node) → ((k : ℕ) → n ≡ node 17 k → g (unknown k) ≡ write_out σ (unknown k)) → g (n ∷ []) ≡ write_out σ (n ∷ [])
  at-node (node j v) h = go (eqb j 17) refl
    where
      go : (b : Bool) → eqb j 17 ≡ b → g (node j v ∷ []) ≡ write_out σ (node j v ∷ [])
      go true e =
          let p = eqb-true j 17 e in
          subst⁻¹ (λ i. g (node i v ∷ []) ≡ write_out σ (node i v ∷ [])) p (h v (ap (λ i. node i v) p))
      go false e =
          let p : j ≢ 17 = λ q. true≢false (subst (λ i. eqb i 17 ≡ false) q e) in
          Z.other j v p ∙ sym (written-node σ j v p)

  at-unknown : (k : ℕ) → Acc (Follows σ) k → g (unknown k) ≡ write_out σ (unknown k)
  at-unknown k (Acc.intro x a) = go (find x σ) refl (λ j p. at-unknown j (a j p))
    where
      go : (o : Option Ty) → find x σ ≡ o → ((j : ℕ) → Follows σ j x → g (unknown j) ≡ write_out σ (unknown j)) → g (unknown x) ≡ write_out σ (unknown x)
      go None e ih = Z.unsolved x e ∙ sym ((write_out-zonks σ f).unsolved x e)
      go (Some s) e ih =
          let m = find-some σ x s e in
          Z.solved x s m ∙ node-by-node s (all_of _ s (λ n i. at-node n (λ j p. ih j (s, m, subst (λ y. In y s) p i)))) ∙ sym ((write_out-zonks σ f).solved x s m)

  pub zonk-unique : (t : Ty) → g t ≡ write_out σ t
  zonk-unique t = node-by-node t (all_of _ t (λ n i. at-node n (λ k p. at-unknown k (ends σ f k))))
