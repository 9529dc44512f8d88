-- Names bound at the front of a type, by the places that the rows hold. Assumes nothing.
use Rattle.std.proofs.Common.{refl, sym, ap, ap₂, ◌∙◌, add-zero, zero-add, arith, eqb-true, ne_eqb, ◌≡◌, ◌≢◌, Bool, true, false, cond, List, [], ◌∷◌, ℕ, zero, suc, ◌+◌, ◌-◌, ◌≤◌, ◌<◌, eqb, length, get_or, take, drop}
use borrow.Author.Tests.{eqb-false}
use Rattle.nodes.specs.Nodes.{Node, node, Ty}
use Rattle.spelling.specs.declared.Triple.{Triple}
use Rattle.sheet.specs.Plan.{no_triple, line_node, nodes_of}
use Rattle.sheet.specs.Rows.{rows, front_of, place_from, place_in, binder_of, binder_at}
use Rattle.sheet.proofs.Copies.{lines_cons}
use Rattle.judgment.specs.Types.{Renaming, rename, rename_node, front_names}
use Rattle.constructors.specs.Opening.{pairs, open_node, open_lines}

-- ---- the names at the front, of lines and of nodes
pub front-names : (ts : List Triple) → front_names (nodes_of ts) ≡ front_of ts
unfolding front_names front_of
front-names [] = refl
front-names (t ∷ ts) = by (front-names ts) (eqb t.kind 14) refl
  where
    by : front_names (nodes_of ts) ≡ front_of ts → (b : Bool) → eqb t.kind 14 ≡ b → front_names (nodes_of (t ∷ ts)) ≡ front_of (t ∷ ts)
    by f true e =
        let k = eqb-true t.kind 14 e in
        let v : cond (eqb t.kind 16) t.count t.value ≡ t.value = rw k in
        rw (e, front_names) (ap₂ (λ (x : ℕ) (l : List ℕ). x ∷ l) v f)
    by f false e = rw (e, front_names)

-- ---- a name is renamed by its place
-- a name by its place: 0 stays a name
abbrev number_of : ℕ → ℕ → ℕ → Node
number_of i a x = cond (eqb i 0) (node 11 x) (node 17 (a + (i - 1)))

-- what is no variable stays
other-kind : (m : Renaming) (k v : ℕ) → k ≢ 11 → rename_node m (node k v) ≡ node k v
other-kind [] k v h = refl
other-kind (q ∷ m) k v h = rw (ne_eqb 11 k (λ e. h (sym e))) (other-kind m k v h)

found-by : (a i x b y : ℕ) (m : Renaming) → rename_node m (node 11 x) ≡ number_of b a x → rename_node ((y, a + i) ∷ m) (node 11 x) ≡ number_of (cond (eqb y x) (i + 1) b) a x
found-by a i x b y m e = by (eqb y x) refl
  where
    by : (q : Bool) → eqb y x ≡ q → rename_node ((y, a + i) ∷ m) (node 11 x) ≡ number_of (cond q (i + 1) b) a x
    by true q = let z : a + (i + 1 - 1) ≡ a + i = omega arith in rw (q, ne_eqb (i + 1) 0 (omega arith), z)
    by false q = rw q e

place-renames : (xs : List ℕ) (a i x b : ℕ) (m : Renaming) → rename_node m (node 11 x) ≡ number_of b a x → rename_node (pairs xs (a + i) m) (node 11 x) ≡ number_of (place_from xs i x b) a x
unfolding pairs place_from
place-renames [] a i x b m e = e
place-renames (y ∷ xs) a i x b m e =
    let z : a + i + 1 ≡ a + (i + 1) = omega arith in
    rw z (place-renames xs a (i + 1) x (cond (eqb y x) (i + 1) b) ((y, a + i) ∷ m) (found-by a i x b y m e))

pub place-in : (xs : List ℕ) (a x : ℕ) → rename_node (pairs xs a []) (node 11 x) ≡ number_of (place_in xs x) a x
place-in xs a x = let z : a ≡ a + 0 = omega arith in ap (λ (n : ℕ). rename_node (pairs xs n []) (node 11 x)) z ∙ place-renames xs a 0 x 0 [] refl

pub node-opened : (xs : List ℕ) (a : ℕ) (t : Triple) → rename_node (pairs xs a []) (line_node t) ≡ open_node a (binder_of xs t) t
node-opened xs a t = by (eqb t.kind 11) refl
  where
    by : (b : Bool) → eqb t.kind 11 ≡ b → rename_node (pairs xs a []) (line_node t) ≡ open_node a (binder_of xs t) t
    by true e = let k = eqb-true t.kind 11 e in rw k (place-in xs a t.value)
    by false e = rw e (other-kind (pairs xs a []) t.kind _ (eqb-false t.kind 11 e))

-- ---- lines whose binders stand in the rows
pub lines-opened : (xs : List ℕ) (d : List ℕ) (a p m : ℕ) → p + m ≤ length (rows d) → ((i : ℕ) → i < m → binder_at d (p + i) ≡ binder_of xs (get_or (rows d) (p + i) no_triple))
    → open_lines d a p m ≡ rename (pairs xs a []) (nodes_of (take m (drop p (rows d))))
unfolding open_lines rename
lines-opened xs d a p zero h f = refl
lines-opened xs d a p (suc m) h f =
    let z : suc m - 1 ≡ m = omega arith in
    let c : take (suc m) (drop p (rows d)) ≡ get_or (rows d) p no_triple ∷ take m (drop (p + 1) (rows d)) = lines_cons (rows d) p (suc m) (omega arith) (omega arith) ∙ ap (λ (n : ℕ). get_or (rows d) p no_triple ∷ take n (drop (p + 1) (rows d))) z in
    let g : binder_at d p ≡ binder_of xs (get_or (rows d) p no_triple) = rw add-zero at (f 0 (omega arith)) in
    let r = lines-opened xs d a (p + 1) m (omega arith) (λ i k. let q : p + suc i ≡ p + 1 + i = omega arith in rw q at (f (suc i) (omega arith))) in
    ap₂ (λ (x : Node) (t : Ty). x ∷ t) (ap (λ (i : ℕ). open_node a i (get_or (rows d) p no_triple)) g ∙ sym (node-opened xs a (get_or (rows d) p no_triple))) r
    ∙ ap (λ (ts : List Triple). rename (pairs xs a []) (nodes_of ts)) (sym c)

-- ---- the quantifiers at the front, line by line
-- i of those of n lines from line `first` on were counted
abbrev pub Fronting : List Triple → ℕ → ℕ → ℕ → Type 0
Fronting ls first n i = length (front_of (take n (drop first ls))) ≡ i + length (front_of (take (n - i) (drop (first + i) ls)))

module _ (ls : List Triple) (first n : ℕ) (stands : first + n ≤ length ls) where
  pub front-start : Fronting ls first n 0
  front-start = let z : first ≡ first + 0 = omega arith in let y : n ≡ n - 0 = omega arith in ap₂ (λ (j m : ℕ). length (front_of (take m (drop j ls)))) z y ∙ sym (zero-add _)

  module _ (i : ℕ) (h : i < n) (F : Fronting ls first n i) where
    cons : take (n - i) (drop (first + i) ls) ≡ get_or ls (first + i) no_triple ∷ take (n - (i + 1)) (drop (first + (i + 1)) ls)
    cons =
        let z : first + i + 1 ≡ first + (i + 1) = omega arith in
        let y : n - i - 1 ≡ n - (i + 1) = omega arith in
        lines_cons ls (first + i) (n - i) (omega arith) (omega arith) ∙ ap₂ (λ (j m : ℕ). get_or ls (first + i) no_triple ∷ take m (drop j ls)) z y

    pub front-turn : (get_or ls (first + i) no_triple).kind ≡ 14 → Fronting ls first n (i + 1)
    unfolding front_of
    front-turn e = F ∙ ap (λ (ts : List Triple). i + length (front_of ts)) cons ∙ rw e (omega arith)

    pub front-stop : (get_or ls (first + i) no_triple).kind ≢ 14 → i ≡ length (front_names (nodes_of (take n (drop first ls))))
    unfolding front_of
    front-stop e = sym (ap length (front-names (take n (drop first ls))) ∙ F ∙ ap (λ (ts : List Triple). i + length (front_of ts)) cons ∙ rw (ne_eqb _ 14 e) (omega arith))

  pub front-end : (i : ℕ) → n ≤ i → Fronting ls first n i → i ≡ length (front_names (nodes_of (take n (drop first ls))))
  unfolding front_of
  front-end i h F = let z : n - i ≡ 0 = omega arith in sym (ap length (front-names (take n (drop first ls))) ∙ F ∙ rw z (omega arith))
