-- Parts of renamed types. Assumes nothing.
use Rattle.std.proofs.Common.{◌≡◌, refl, ap, ◌∙◌, Bool, true, false, cond, ◌&&◌, [], ◌∷◌, ℕ, zero, suc, ◌+◌, eqb, eqb-true, length, take, drop}
use Rattle.nodes.specs.Nodes.{Node, node, Ty, node_parts}
use Rattle.nodes.specs.Parts.{take_parts, drop_parts}
use Rattle.judgment.specs.Types.{first, rest, Renaming, rename, rename_node}
use Rattle.judgment.proofs.WholeTypes.{rename_node-parts}
use Rattle.references.specs.Signatures.{arrow_head, params, result}

module _ (m : Renaming) where
  pub length-rename : (t : Ty) → length (rename m t) ≡ length t
  unfolding rename
  length-rename [] = refl
  length-rename (x ∷ t) = ap suc (length-rename t)

  pub cut-rename : (t : Ty) (i c : ℕ) → take c (drop i (rename m t)) ≡ rename m (take c (drop i t))
  unfolding rename
  cut-rename t zero zero = refl
  cut-rename [] zero (suc c) = refl
  cut-rename (x ∷ t) zero (suc c) = ap (λ (l : Ty). rename_node m x ∷ l) (cut-rename t zero c)
  cut-rename [] (suc i) zero = refl
  cut-rename [] (suc i) (suc c) = refl
  cut-rename (x ∷ t) (suc i) zero = refl
  cut-rename (x ∷ t) (suc i) (suc c) = cut-rename t i (suc c)

  -- a name stands for no parts, and so does an unknown
  pub take-rename : (t : Ty) (n : ℕ) → take_parts node_parts (rename m t) n ≡ rename m (take_parts node_parts t n)
  unfolding rename
  take-rename [] n = refl
  take-rename (x ∷ t) zero = refl
  take-rename (x ∷ t) (suc n) = ap (λ (l : Ty). rename_node m x ∷ l) (ap (λ (k : ℕ). take_parts node_parts (rename m t) (k + n)) (rename_node-parts m x) ∙ take-rename t (node_parts x + n))

  pub drop-rename : (t : Ty) (n : ℕ) → drop_parts node_parts (rename m t) n ≡ rename m (drop_parts node_parts t n)
  unfolding rename
  drop-rename [] n = refl
  drop-rename (x ∷ t) zero = refl
  drop-rename (x ∷ t) (suc n) = ap (λ (k : ℕ). drop_parts node_parts (rename m t) (k + n)) (rename_node-parts m x) ∙ drop-rename t (node_parts x + n)

-- neither is an Arrow
node-arrow : (q : ℕ × ℕ) (m : Renaming) (k v : ℕ) → arrow_head (rename_node m (node k v)) ≡ arrow_head (node k v) → arrow_head (rename_node (q ∷ m) (node k v)) ≡ arrow_head (node k v)
node-arrow q m k v i = by (eqb 11 k) refl (eqb q.0 v)
  where
    by : (b : Bool) → eqb 11 k ≡ b → (c : Bool) → arrow_head (cond (b && c) (node 17 q.1) (rename_node m (node k v))) ≡ arrow_head (node k v)
    by true e true = let z = eqb-true 11 k e in rw (← z)
    by true e false = i
    by false e c = i

pub arrow-rename : (m : Renaming) (x : Node) → arrow_head (rename_node m x) ≡ arrow_head x
arrow-rename [] x = refl
arrow-rename (q ∷ m) (node k v) = node-arrow q m k v (arrow-rename m (node k v))

module _ (m : Renaming) where
  pub params-rename : (n : ℕ) (t : Ty) → length (params n (rename m t)) ≡ length (params n t)
  unfolding params rename
  params-rename zero t = refl
  params-rename (suc n) [] = refl
  params-rename (suc n) (x ∷ t) = rw (arrow-rename m x, drop-rename m t 1) (go (arrow_head x) (params-rename n (rest t)))
    where
      go : (b : Bool) → length (params n (rename m (rest t))) ≡ length (params n (rest t)) → length {A = Ty} (cond b (first (rename m t) ∷ params n (rename m (rest t))) []) ≡ length {A = Ty} (cond b (first t ∷ params n (rest t)) [])
      go true i = ap suc i
      go false i = refl

  pub result-rename : (n : ℕ) (t : Ty) → result n (rename m t) ≡ rename m (result n t)
  unfolding result rename
  result-rename zero t = refl
  result-rename (suc n) [] = refl
  result-rename (suc n) (x ∷ t) = rw (arrow-rename m x, drop-rename m t 1) (go (arrow_head x) (result-rename n (rest t)))
    where
      go : (b : Bool) → result n (rename m (rest t)) ≡ rename m (result n (rest t)) → cond {A = Ty} b (result n (rename m (rest t))) (rename_node m x ∷ rename m t) ≡ rename m (cond b (result n (rest t)) (x ∷ t))
      go true i = i
      go false i = refl
