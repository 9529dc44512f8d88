-- How many nodes a write-out goes over that follows each solution where it meets it: `visits`, the number that falls. Assumes nothing.
use mathlib.Core.Path.{◌≡◌, refl, ap, ◌∙◌, subst⁻¹}
use mathlib.Core.Logic.{inl, inr}
use mathlib.Core.List.{List, [], ◌∷◌, ◌++◌}
use Prim.Native.Nat.{ℕ, suc, ◌+◌, ◌<◌}
use native.Mathlib.Omega.{arith}
use lib.ListN.{length, length-append}
use Rattle.nodes.specs.Nodes.{Node, node, Ty, kind}
use Rattle.nodes.specs.Lists.{All, In}
use Rattle.nodes.proofs.ListLaws.{all_map}
use Rattle.judgment.specs.Types.{unknown}
use Rattle.judgment.specs.Solutions.{Solution, ◌≔◌, Solutions, key, value, write_out, solved_unknowns, Distinct}
use Rattle.judgment.specs.Good.{Free, Under, Fine}
use Rattle.judgment.proofs.SolutionLaws.{written-append, written-node, written-free, solved}

-- a node that is no unknown, put before each solution: one more node for each solution that is followed
abbrev mark : Node
mark = node 0 0

abbrev marked : Solutions → Solutions
marked [] = []
marked (◌≔◌ k s ∷ σ) = ◌≔◌ k (mark ∷ s) ∷ marked σ

pub visits : Solutions → Ty → ℕ
visits σ t = length (write_out (marked σ) t)

marked-in : (σ : Solutions) (k : ℕ) (s : Ty) → In (◌≔◌ k s) σ → In (◌≔◌ k (mark ∷ s)) (marked σ)
marked-in [] k s m = absurd m
marked-in (◌≔◌ j r ∷ σ) k s (inl e) = inl (ap (λ (x : Solution). ◌≔◌ (key x) (mark ∷ value x)) e)
marked-in (◌≔◌ j r ∷ σ) k s (inr m) = inr (marked-in σ k s m)

unmarked : (σ : Solutions) (j : ℕ) (u : Ty) → In (◌≔◌ j u) (marked σ) → (s : Ty) × In (◌≔◌ j s) σ
unmarked [] j u m = absurd m
unmarked (◌≔◌ k s ∷ σ) j u (inl e) = (s, inl (ap (λ (x : Solution). ◌≔◌ (key x) s) e))
unmarked (◌≔◌ k s ∷ σ) j u (inr m) = let r = unmarked σ j u m in (r.0, inr r.1)

marked-solved : (σ : Solutions) → solved_unknowns (marked σ) ≡ solved_unknowns σ
marked-solved [] = refl
marked-solved (◌≔◌ k s ∷ σ) = ap {B = List ℕ} (λ l. k ∷ l) (marked-solved σ)

marked-length : (σ : Solutions) → length (marked σ) ≡ length σ
marked-length [] = refl
marked-length (◌≔◌ k s ∷ σ) = ap suc (marked-length σ)

-- what holds of each unknown and its solution, and of the mark
marked_all : (P Q : Solution → Type 0) (σ : Solutions) → ((k : ℕ) (s : Ty) → P (◌≔◌ k s) → Q (◌≔◌ k (mark ∷ s))) → All P σ → All Q (marked σ)
marked_all P Q [] f h = tt
marked_all P Q (◌≔◌ k s ∷ σ) f h = (f k s h.0, marked_all P Q σ f h.1)

marked-fine : (σ : Solutions) → Fine σ → Fine (marked σ)
marked-fine σ f = record {
  rank = f.rank;
  once = subst⁻¹ Distinct (marked-solved σ) f.once;
  low = marked_all (λ x. f.rank (key x) < length σ) (λ x. f.rank (key x) < length (marked σ)) σ (λ k s l. (let z = marked-length σ in omega arith)) f.low;
  falls = marked_all (λ x. All (Under f.rank σ (f.rank (key x))) (value x)) (λ x. All (Under f.rank (marked σ) (f.rank (key x))) (value x)) σ
      (λ k s h. ((λ j u e m. absurd (zero-seventeen (ap kind e))), all_map (λ n g j u e m. (let r = unmarked σ j u m in g j r.0 e r.1)) s h)) f.falls;
}
  where
    zero-seventeen : ◌≡◌ {A = ℕ} 0 17 → ⊥
    zero-seventeen e = omega arith

module _ (σ : Solutions) where
  pub visits-append : (s t : Ty) → visits σ (s ++ t) ≡ visits σ s + visits σ t
  unfolding visits
  visits-append s t = ap length (written-append (marked σ) s t) ∙ length-append (write_out (marked σ) s) (write_out (marked σ) t)

  -- a node that is no solved unknown is one node
  pub visits-free : (n : Node) → Free (solved_unknowns σ) n → visits σ (n ∷ []) ≡ 1
  unfolding visits
  visits-free n f = ap length (written-free (marked σ) (n ∷ []) (rw (marked-solved σ) f, tt))

  -- a solved unknown is one more than its solution
  pub visits-solved : (k : ℕ) (s : Ty) → Fine σ → In (◌≔◌ k s) σ → visits σ (unknown k) ≡ 1 + visits σ s
  unfolding visits
  visits-solved k s f m =
      ap length (solved (marked σ) (marked-fine σ f) (◌≔◌ k (mark ∷ s)) (marked-in σ k s m) ∙ written-append (marked σ) (mark ∷ []) s)
      ∙ length-append (write_out (marked σ) (mark ∷ [])) (write_out (marked σ) s)
      ∙ ap (λ (t : Ty). length t + length (write_out (marked σ) s)) (written-node (marked σ) 0 0 (omega arith))
