-- One whole type each: what the rules make of whole types is whole. Assumes nothing.
use Prim.Native.Nat.{ℕ, zero, suc, ◌+◌}
use native.Mathlib.Omega.{arith}
use mathlib.Core.Path.{◌≡◌, refl, sym, ◌∙◌, ap, subst, subst⁻¹}
use mathlib.Core.Bool.{Bool, true, false, cond, ◌&&◌, and-eq-true_iff}
use mathlib.Core.List.{[], ◌∷◌, ◌++◌}
use lib.Dec.{eqb}
use Rattle.nodes.specs.Nodes.{Node, node, Ty, node_parts}
use Rattle.nodes.specs.Parts.{take_parts, drop_parts, Whole}
use Rattle.nodes.specs.Lists.{All}
use Rattle.nodes.proofs.ListLaws.{cond_ind, all_in}
use Rattle.nodes.proofs.Wholes.{whole_append, whole_split}
use Rattle.judgment.specs.Types.{unknown, con, arrow, app, is_node, null, View, is_arrow, is_app, is_forall, is_unknown, is_other, view, substitute_from, substitute, Renaming, rename_node, rename, after_front}
use Rattle.judgment.specs.Solutions.{◌≔◌, Solutions, value, link, links, write_out}
use Rattle.judgment.specs.Good.{IsTy}
use Rattle.judgment.proofs.SolutionLaws.{find-some, by-solved, link-solved, link-unsolved, times, written-times}
use lib.ListN.{length}
use Rattle.judgment.proofs.TypeLaws.{eqb-true, is_node-true}

pub unknown-whole : (k : ℕ) → IsTy (unknown k)
unknown-whole k = refl

pub con-whole : (c : ℕ) → IsTy (con c)
con-whole c = refl

pub arrow-whole : (a b : Ty) → IsTy a → IsTy b → IsTy (arrow a b)
arrow-whole a b p q = whole_append node_parts a b 1 1 p q

pub app-whole : (a b : Ty) → IsTy a → IsTy b → IsTy (app a b)
app-whole a b p q = whole_append node_parts a b 1 1 p q

-- what a view shows of a whole type is whole
abbrev pub ViewWhole : View → Type 0
ViewWhole (is_arrow a b) = IsTy a × IsTy b
ViewWhole (is_app a b) = IsTy a × IsTy b
ViewWhole (is_forall x b) = IsTy b
ViewWhole (is_unknown k) = Unit {0}
ViewWhole is_other = Unit {0}

pub view-whole : (t : Ty) → IsTy t → ViewWhole (view t)
unfolding view
view-whole [] h = tt
view-whole (node k v ∷ ns) h =
    cond_ind ViewWhole (eqb k 13 && eqb v 0) (λ e. two 13 (eqb-true k 13 ((and-eq-true_iff (eqb k 13) (eqb v 0)).0 e).0) refl)
    (λ _. cond_ind ViewWhole (eqb k 15 && eqb v 0) (λ e. two 15 (eqb-true k 15 ((and-eq-true_iff (eqb k 15) (eqb v 0)).0 e).0) refl)
    (λ _. cond_ind ViewWhole (eqb k 14) (λ e. body (eqb-true k 14 e))
    (λ _. cond_ind ViewWhole (eqb k 17 && null ns) (λ _. tt) (λ _. tt))))
  where
    two : (j : ℕ) → k ≡ j → node_parts (node j v) ≡ 2 → Whole node_parts (take_parts node_parts ns 1) 1 × Whole node_parts (drop_parts node_parts ns 1) 1
    two j e p = whole_split node_parts ns 1 1 (subst (Whole node_parts ns) (ap (λ (i : ℕ). node_parts (node i v) + 0) e ∙ ap (λ (i : ℕ). i + 0) p) h)

    body : k ≡ 14 → Whole node_parts ns 1
    body e = subst (Whole node_parts ns) (ap (λ (i : ℕ). node_parts (node i v) + 0) e) h

-- ---- substitutions put one leaf for another
leaf : (x k : ℕ) (r n : Node) → node_parts r ≡ 0 → node_parts (node k x) ≡ 0 → (b : Bool) → is_node k x n ≡ b → node_parts (cond b r n) ≡ node_parts n
leaf x k r n h g true e = h ∙ sym (ap node_parts (is_node-true k x n e) ∙ g)
leaf x k r n h g false e = refl

substitute-from : (x : ℕ) (r : Node) → node_parts r ≡ 0 → (t : Ty) (skip m : ℕ) → Whole node_parts t m → Whole node_parts (substitute_from x r t skip) m
substitute-from x r p [] skip m h = h
substitute-from x r p (n ∷ ns) skip zero h = absurd h
substitute-from x r p (n ∷ ns) zero (suc m) h =
    subst⁻¹ (λ (i : ℕ). Whole node_parts (substitute_from x r ns (cond (is_node 14 x n) 1 0)) (i + m)) (leaf x 11 r n p refl (is_node 11 x n) refl)
    (substitute-from x r p ns (cond (is_node 14 x n) 1 0) (node_parts n + m) h)
substitute-from x r p (n ∷ ns) (suc skip) (suc m) h = substitute-from x r p ns (node_parts n + skip) (node_parts n + m) h

pub substitute-whole : (x : ℕ) (r : Node) (t : Ty) → node_parts r ≡ 0 → IsTy t → IsTy (substitute x r t)
unfolding substitute
substitute-whole x r t p h = substitute-from x r p t 0 1 h

pub rename_node-parts : (m : Renaming) (n : Node) → node_parts (rename_node m n) ≡ node_parts n
rename_node-parts [] n = refl
rename_node-parts (q ∷ m) n = go (is_node 11 q.0 n) refl (rename_node-parts m n)
  where
    go : (b : Bool) → is_node 11 q.0 n ≡ b → node_parts (rename_node m n) ≡ node_parts n → node_parts (cond b (node 17 q.1) (rename_node m n)) ≡ node_parts n
    go true e r = sym (ap node_parts (is_node-true 11 q.0 n e))
    go false e r = r

rename-from : (m : Renaming) (t : Ty) (k : ℕ) → Whole node_parts t k → Whole node_parts (rename m t) k
unfolding rename
rename-from m [] k h = h
rename-from m (n ∷ ns) zero h = absurd h
rename-from m (n ∷ ns) (suc k) h =
    subst⁻¹ (λ (i : ℕ). Whole node_parts (rename m ns) (i + k)) (rename_node-parts m n) (rename-from m ns (node_parts n + k) h)

pub rename-whole : (m : Renaming) (t : Ty) → IsTy t → IsTy (rename m t)
rename-whole m t h = rename-from m t 1 h

pub after_front-whole : (t : Ty) → IsTy t → IsTy (after_front t)
unfolding after_front
after_front-whole [] h = h
after_front-whole (node k v ∷ ns) h = go (eqb k 14) refl (λ g. after_front-whole ns g)
  where
    go : (b : Bool) → eqb k 14 ≡ b → (IsTy ns → IsTy (after_front ns)) → IsTy (elim b [ true ↦ after_front ns | false ↦ node k v ∷ ns ])
    go true e again = again (subst (Whole node_parts ns) (ap (λ (i : ℕ). node_parts (node i v) + 0) (eqb-true k 14 e)) h)
    go false e again = h

-- ---- writing out puts a whole type for a leaf
links-from : (σ : Solutions) → All (λ x. IsTy (value x)) σ → (t : Ty) (m : ℕ) → Whole node_parts t m → Whole node_parts (links σ t) m
unfolding links
links-from σ hσ [] m h = h
links-from σ hσ (n ∷ ns) zero h = absurd h
links-from σ hσ (n ∷ ns) (suc m) h =
    by-solved σ n
    (λ v s e q.
    let z : node_parts n + m ≡ m = ap (λ (x : Node). node_parts x + m) e ∙ (let y : 0 + m ≡ m = omega arith in y) in
    let f : 1 + m ≡ suc m = omega arith in
    subst⁻¹ (λ (l : Ty). Whole node_parts (l ++ links σ ns) (suc m)) (ap (link σ) e ∙ link-solved σ v s q)
    (subst (Whole node_parts (s ++ links σ ns)) f
    (whole_append node_parts s (links σ ns) 1 m (all_in (λ x. IsTy (value x)) σ (◌≔◌ v s) (find-some σ v s q) hσ) (links-from σ hσ ns m (subst (Whole node_parts ns) z h)))))
    (λ e. subst⁻¹ (λ (l : Ty). Whole node_parts (l ++ links σ ns) (suc m)) (link-unsolved σ n e) (links-from σ hσ ns (node_parts n + m) h))

times-whole : (σ : Solutions) → All (λ x. IsTy (value x)) σ → (n : ℕ) (t : Ty) → IsTy t → IsTy (times σ n t)
unfolding times
times-whole σ hσ zero t h = h
times-whole σ hσ (suc n) t h = times-whole σ hσ n (links σ t) (links-from σ hσ t 1 h)

pub written-whole : (σ : Solutions) (t : Ty) → All (λ x. IsTy (value x)) σ → IsTy t → IsTy (write_out σ t)
written-whole σ t hσ h = subst⁻¹ IsTy (written-times σ t) (times-whole σ hσ (length σ) t h)
