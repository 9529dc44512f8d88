-- Writing out in full, as document 01 says it, is what the rules use: `in-full` and `full_is`. Assumes nothing.
use Prim.Native.Nat.{ℕ, zero, suc}
use mathlib.Core.Path.{◌≡◌, refl, sym, ◌∙◌, ap, subst, subst⁻¹}
use mathlib.Core.Logic.{◌≢◌, inl, inr}
use mathlib.Core.Bool.{Bool, true, false}
use mathlib.Core.List.{[], ◌∷◌, ◌++◌}
use lib.ListN.{length}
use Rattle.nodes.specs.Nodes.{Node, node, Ty}
use Rattle.nodes.specs.Lists.{In}
use Rattle.nodes.proofs.ListLaws.{all_map}
use Rattle.judgment.specs.Types.{unknown, is_node}
use Rattle.judgment.specs.Solutions.{Solution, ◌≔◌, Solutions, link, links, write_out, solved_unknowns}
use Rattle.judgment.specs.Promise.{solved_unknowns, Replaced, none, one, Unsolved, InFull}
use Rattle.judgment.specs.Good.{Avoids, Free, Fine}
use Rattle.judgment.proofs.TypeLaws.{is_node-true}
use Rattle.judgment.proofs.SolutionLaws.{in-avoids, find-some, by-solved, link-solved, link-unsolved, times, written-times, written-append, written-free, written-is-free, solved}

module _ {σ : Solutions} where
  chain : {t u v : Ty} → Replaced σ t u → Replaced σ u v → Replaced σ t v
  chain none r = r
  chain (one a b k s m q) r = one a b k s m (chain q r)

  after : (n : Node) {t u : Ty} → Replaced σ t u → Replaced σ (n ∷ t) (n ∷ u)
  after n none = none
  after n (one a b k s m q) = one (n ∷ a) b k s m (after n q)

  afters : (p : Ty) {t u : Ty} → Replaced σ t u → Replaced σ (p ++ t) (p ++ u)
  afters [] r = r
  afters (n ∷ p) r = after n (afters p r)

  -- one link everywhere
  linked : (τ : Solutions) → ((x : Solution) → In x τ → In x σ) → (t : Ty) → Replaced σ t (links τ t)
  unfolding links
  linked τ f [] = none
  linked τ f (n ∷ ns) =
      by-solved τ n
      (λ v s e q. subst⁻¹ (λ (l : Ty). Replaced σ (n ∷ ns) (l ++ links τ ns)) (ap (link τ) e ∙ link-solved τ v s q)
      (subst⁻¹ (λ x. Replaced σ (x ∷ ns) (s ++ links τ ns)) e (one [] ns v s (f (◌≔◌ v s) (find-some τ v s q)) (afters s (linked τ f ns)))))
      (λ e. subst⁻¹ (λ (l : Ty). Replaced σ (n ∷ ns) (l ++ links τ ns)) (link-unsolved τ n e) (after n (linked τ f ns)))

  -- one after the other
  writes : (τ : Solutions) → ((x : Solution) → In x τ → In x σ) → (n : ℕ) (t : Ty) → Replaced σ t (times τ n t)
  unfolding times
  writes τ f zero t = none
  writes τ f (suc n) t = chain (linked τ f t) (writes τ f n (links τ t))

-- ---- unsolved, by nodes and by the unknowns solved
free-unsolved : (σ : Solutions) (n : Node) → Free (solved_unknowns σ) n → Unsolved σ n
free-unsolved σ n f k s m e = in-avoids σ (◌≔◌ k s) m (subst (Free (solved_unknowns σ)) e f)

not-node : (k : ℕ) (n : Node) → n ≢ node 17 k → Avoids k n
not-node k n h = go (is_node 17 k n) refl
  where
    go : (b : Bool) → is_node 17 k n ≡ b → b ≡ false
    go true e = absurd (h (is_node-true 17 k n e))
    go false e = refl

unsolved-free : (σ : Solutions) (n : Node) → Unsolved σ n → Free (solved_unknowns σ) n
unsolved-free [] n h = tt
unsolved-free (◌≔◌ k s ∷ σ) n h = (not-node k n (h k s (inl refl)), unsolved-free σ n (λ j r m. h j r (inr m)))

-- ---- a replacement leaves what is written out
module _ (σ : Solutions) (f : Fine σ) where
  replaced-same : {t u : Ty} → Replaced σ t u → write_out σ t ≡ write_out σ u
  replaced-same none = refl
  replaced-same (one a b k s m r) =
      written-append σ a (unknown k ++ b)
      ∙ ap (λ (x : Ty). write_out σ a ++ x) (written-append σ (unknown k) b ∙ ap (λ (x : Ty). x ++ write_out σ b) (solved σ f (◌≔◌ k s) m) ∙ sym (written-append σ s b))
      ∙ sym (written-append σ a (s ++ b))
      ∙ replaced-same r

  pub in-full : (t : Ty) → InFull σ t (write_out σ t)
  in-full t = record {
    replaced = subst⁻¹ (Replaced σ t) (written-times σ t) (writes σ (λ x m. m) (length σ) t);
    unsolved = all_map (free-unsolved σ) (write_out σ t) (written-is-free σ f t);
  }

  pub full_is : (t u : Ty) → InFull σ t u → u ≡ write_out σ t
  full_is t u h = sym (replaced-same h.replaced ∙ written-free σ u (all_map (unsolved-free σ) u h.unsolved))
