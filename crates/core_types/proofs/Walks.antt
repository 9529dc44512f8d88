-- One node of a walk over the nodes in a buffer, and the rest. Assumes nothing.
use Rattle.std.proofs.Common.{◌≡◌, refl, sym, ap, ap₂, ◌∙◌, subst, ◌≢◌, Bool, true, false, cond, not, ◌&&◌, ◌||◌, List, [], ◌∷◌, ◌++◌, append_assoc, append-nil, ℕ, zero, suc, ◌+◌, ◌*◌, ◌-◌, ◌≤◌, ◌<◌, not-suc-le-zero, add-one, arith, length, get_or, set, eqb, eq-eqb, ne_eqb}
use native.Mathlib.Decide.{ℕ_discrete}
use native.Mathlib.Numerals.{add-two}
use lib.Seq.{sets, set-get_or}
use Rattle.std.proofs.Math.Bool.{or-true, and-false}
use Rattle.std.specs.List.{list_any}
use Rattle.nodes.specs.Parts.{take_parts, drop_parts}
use Rattle.nodes.specs.Nodes.{Node, node, Ty, kind, node_parts}
use Rattle.judgment.specs.Levels.{is_above, none_above}
use Rattle.judgment.specs.Types.{first, rest, is_node, occurs, is_monotype, substitute_from, substitute}
use Rattle.nodes.specs.Nodes.{words, node_at, nodes_at}
use Rattle.nodes.proofs.Laws.{nodes_at-cons, nodes_at-snoc, nodes_at-above, nodes_at-same, length-nodes_at, take-nodes_at, drop-nodes_at}
use Rattle.nodes.proofs.PartLaws.{length-take, is-take, is-drop}
use Rattle.core_types.specs.Walk.{IsAnyNode, nodes_before, substituting}

not-or : (a b : Bool) → (not a && not b) ≡ not (a || b)
not-or true b = refl
not-or false b = refl

pub nothing : (b : List ℕ) (p n : ℕ) → n ≡ 0 → nodes_at b p n ≡ []
unfolding nodes_at
nothing b p n e = rw e

-- ---- whether a node passes a test
module _ (p : Node → Bool) (t : List ℕ) where
  any-hit : (n at i : ℕ) → i < n → p (node_at t (at + 2 * i)) ≡ true → list_any p (nodes_at t at n) ≡ true
  unfolding nodes_at
  any-hit zero at i h e = absurd (not-suc-le-zero h)
  any-hit (suc n) at zero h e = let f : at + 2 * 0 ≡ at = omega arith in rw (rw f at e)
  any-hit (suc n) at (suc i) h e =
      let f : at + 2 * suc i ≡ at + 2 + 2 * i = omega arith in
      rw (any-hit n (at + 2) i (omega arith) (rw f at e), or-true (p (node_at t at)))

  any-none : (n at : ℕ) → ((i : ℕ) → i < n → p (node_at t (at + 2 * i)) ≡ false) → list_any p (nodes_at t at n) ≡ false
  unfolding nodes_at
  any-none zero at f = refl
  any-none (suc n) at f =
      let e : at + 2 * 0 ≡ at = omega arith in
      rw (rw e at (f 0 (omega arith)))
      (any-none n (at + 2) (λ i h. let e : at + 2 * suc i ≡ at + 2 + 2 * i = omega arith in rw e at (f (suc i) (omega arith))))

  -- by what a function told of each node
  pub any-told : (E : ℕ → ℕ → Bool → Type 0) (at n : ℕ) (r : Bool) → IsAnyNode E t at n r → ((k v : ℕ) (b : Bool) → E k v b → b ≡ p (node k v)) → r ≡ list_any p (nodes_at t at n)
  unfolding IsAnyNode
  any-told E at n true h f = sym (any-hit n at h.0 h.1 (sym (f _ _ true h.2)))
  any-told E at n false h f = sym (any-none n at (λ i l. sym (f _ _ false (h i l))))

pub occurs-any : (k : ℕ) (t : Ty) → occurs k t ≡ list_any (is_node 17 k) t
unfolding occurs
occurs-any k [] = refl
occurs-any k (x ∷ t) = rw (occurs-any k t)

pub mono-any : (t : Ty) → is_monotype t ≡ not (list_any (λ x. eqb (kind x) 14) t)
unfolding is_monotype
mono-any [] = refl
mono-any (x ∷ t) = rw (mono-any t) (not-or (eqb (kind x) 14) _)

pub above-any : (m : ℕ) (t : Ty) → none_above m t ≡ not (list_any (is_above m) t)
unfolding none_above
above-any m [] = refl
above-any m (x ∷ t) = rw (above-any m t) (not-or (is_above m x) _)

-- ---- one node of a walk
module _ (b : List ℕ) (p n : ℕ) (h : 0 < n) where
  pub take-turn : (m : ℕ) → m ≢ 0 → take_parts node_parts (nodes_at b p n) m ≡ node_at b p ∷ take_parts node_parts (nodes_at b (p + 2) (n - 1)) (m - 1 + node_parts (node_at b p))
  take-turn zero f = absurd (f refl)
  take-turn (suc m) f =
      let e : node_parts (node_at b p) + m ≡ suc m - 1 + node_parts (node_at b p) = omega arith in
      rw (nodes_at-cons b p n h) (ap (λ (x : ℕ). node_at b p ∷ take_parts node_parts (nodes_at b (p + 2) (n - 1)) x) e)

  pub drop-turn : (m : ℕ) → m ≢ 0 → drop_parts node_parts (nodes_at b p n) m ≡ drop_parts node_parts (nodes_at b (p + 2) (n - 1)) (m - 1 + node_parts (node_at b p))
  drop-turn zero f = absurd (f refl)
  drop-turn (suc m) f =
      let e : node_parts (node_at b p) + m ≡ suc m - 1 + node_parts (node_at b p) = omega arith in
      rw (nodes_at-cons b p n h) (ap (λ (x : ℕ). drop_parts node_parts (nodes_at b (p + 2) (n - 1)) x) e)

pub take_none : (l : Ty) (m : ℕ) → m ≡ 0 → take_parts node_parts l m ≡ []
take_none [] m e = refl
take_none (x ∷ l) m e = rw e

pub drop-none : (l : Ty) (m : ℕ) → m ≡ 0 → drop_parts node_parts l m ≡ l
drop-none [] m e = refl
drop-none (x ∷ l) m e = rw e

-- ---- the first type: what a round leaves
abbrev pub Parting : List ℕ → ℕ → ℕ → ℕ → ℕ → Type 0
Parting b at n i m =
    (take_parts node_parts (nodes_at b at n) 1 ≡ nodes_at b at i ++ take_parts node_parts (nodes_at b (at + 2 * i) (n - i)) m)
    × (drop_parts node_parts (nodes_at b at n) 1 ≡ drop_parts node_parts (nodes_at b (at + 2 * i) (n - i)) m)

pub part-start : (b : List ℕ) (at n : ℕ) → Parting b at n 0 1
unfolding nodes_at
part-start b at n =
    let e : at ≡ at + 2 * 0 = omega arith in
    let f : n ≡ n - 0 = omega arith in
    (ap₂ (λ (x y : ℕ). take_parts node_parts (nodes_at b x y) 1) e f, ap₂ (λ (x y : ℕ). drop_parts node_parts (nodes_at b x y) 1) e f)

pub part-turn : (b : List ℕ) (at n i m : ℕ) → i < n → m ≢ 0 → Parting b at n i m → Parting b at n (i + 1) (m - 1 + node_parts (node_at b (at + 2 * i)))
part-turn b at n i m l f h =
    let p : ℕ = at + 2 * i in
    let e : p + 2 ≡ at + 2 * (i + 1) = omega arith in
    let g : n - i - 1 ≡ n - (i + 1) = omega arith in
    let k : ℕ = m - 1 + node_parts (node_at b p) in (
      h.0 ∙ ap (λ (x : Ty). nodes_at b at i ++ x) (take-turn b p (n - i) (omega arith) m f)
          ∙ ap₂ (λ (x y : ℕ). nodes_at b at i ++ (node_at b p ∷ take_parts node_parts (nodes_at b x y) k)) e g
          ∙ sym (append_assoc (nodes_at b at i) (node_at b p ∷ []) (take_parts node_parts (nodes_at b (at + 2 * (i + 1)) (n - (i + 1))) k))
          ∙ ap (λ (x : Ty). x ++ take_parts node_parts (nodes_at b (at + 2 * (i + 1)) (n - (i + 1))) k) (sym (nodes_at-snoc b at i)),
      h.1 ∙ drop-turn b p (n - i) (omega arith) m f ∙ ap₂ (λ (x y : ℕ). drop_parts node_parts (nodes_at b x y) k) e g,
    )

-- the round at which no type is pending, or no node is left
pub part-done : (b : List ℕ) (at n i m : ℕ) → m ≡ 0 → Parting b at n i m
    → (nodes_at b at i ≡ take_parts node_parts (nodes_at b at n) 1) × (nodes_at b (at + 2 * i) (n - i) ≡ drop_parts node_parts (nodes_at b at n) 1)
part-done b at n i m e h = (
  sym (h.0 ∙ ap (λ (x : Ty). nodes_at b at i ++ x) (take_none (nodes_at b (at + 2 * i) (n - i)) m e) ∙ append-nil (nodes_at b at i)),
  sym (h.1 ∙ drop-none (nodes_at b (at + 2 * i) (n - i)) m e),
)

pub part_end : (b : List ℕ) (at n i m : ℕ) → n - i ≡ 0 → Parting b at n i m
    → (nodes_at b at i ≡ take_parts node_parts (nodes_at b at n) 1) × (nodes_at b (at + 2 * i) (n - i) ≡ drop_parts node_parts (nodes_at b at n) 1)
part_end b at n i m e h =
    let z = nothing b (at + 2 * i) (n - i) e in (
      sym (h.0 ∙ ap (λ (x : Ty). nodes_at b at i ++ take_parts node_parts x m) z ∙ append-nil (nodes_at b at i)),
      sym (h.1 ∙ ap (λ (x : Ty). drop_parts node_parts x m) z ∙ sym z),
    )

-- ---- the first type by its number of nodes, as `first_part` counts it
pub first-length : (b : List ℕ) (at n i : ℕ) → nodes_at b at i ≡ take_parts node_parts (nodes_at b at n) 1 → i ≡ length (first (nodes_at b at n))
first-length b at n i e = sym (length-nodes_at b at i) ∙ ap length e

module _ (b : List ℕ) (at n r : ℕ) (e : r ≡ length (first (nodes_at b at n))) where
  pub first-within : r ≤ n
  first-within = let h = length-take node_parts (nodes_at b at n) 1 in let l = length-nodes_at b at n in omega arith

  pub first-nodes : nodes_at b at r ≡ first (nodes_at b at n)
  first-nodes = rw e (sym (is-take node_parts (nodes_at b at n) 1 ∙ take-nodes_at b at n (length (first (nodes_at b at n))) (rw e at first-within)))

  pub rest-nodes : nodes_at b (at + 2 * r) (n - r) ≡ rest (nodes_at b at n)
  rest-nodes = rw e (sym (is-drop node_parts (nodes_at b at n) 1 ∙ drop-nodes_at b at n (length (first (nodes_at b at n))) (rw e at first-within)))

-- ---- the nodes before the first of a number
module _ (x : ℕ) (b : List ℕ) (p n : ℕ) (h : 0 < n) where
  pub before-hit : get_or b (p + 1) 0 ≡ x → nodes_before x (nodes_at b p n) ≡ 0
  unfolding nodes_before
  before-hit e = rw (nodes_at-cons b p n h, eq-eqb (get_or b (p + 1) 0) x e)

  pub before-turn : get_or b (p + 1) 0 ≢ x → nodes_before x (nodes_at b p n) ≡ suc (nodes_before x (nodes_at b (p + 2) (n - 1)))
  unfolding nodes_before
  before-turn f = rw (nodes_at-cons b p n h, ne_eqb (get_or b (p + 1) 0) x f)

pub before-end : (x : ℕ) (b : List ℕ) (p n : ℕ) → n ≡ 0 → nodes_before x (nodes_at b p n) ≡ 0
unfolding nodes_before
before-end x b p n e = ap (nodes_before x) (nothing b p n e)

-- what a round of the count leaves
module _ (x : ℕ) (b : List ℕ) (at n : ℕ) where
  abbrev pub Counting : ℕ → Type 0
  Counting i = nodes_before x (nodes_at b at n) ≡ i + nodes_before x (nodes_at b (at + 2 * i) (n - i))

  pub count-start : Counting 0
  count-start =
      let e : at ≡ at + 2 * 0 = omega arith in
      let f : n ≡ n - 0 = omega arith in
      let g : nodes_before x (nodes_at b at n) ≡ nodes_before x (nodes_at b (at + 2 * 0) (n - 0)) = ap₂ (λ (y z : ℕ). nodes_before x (nodes_at b y z)) e f in
      omega arith

  pub count_turn : (i : ℕ) → i < n → get_or b (at + 2 * i + 1) 0 ≢ x → Counting i → Counting (i + 1)
  count_turn i l f h =
      let e : at + 2 * i + 2 ≡ at + 2 * (i + 1) = omega arith in
      let g : n - i - 1 ≡ n - (i + 1) = omega arith in
      let k = before-turn x b (at + 2 * i) (n - i) (omega arith) f in
      let m : nodes_before x (nodes_at b (at + 2 * i + 2) (n - i - 1)) ≡ nodes_before x (nodes_at b (at + 2 * (i + 1)) (n - (i + 1))) = ap₂ (λ (y z : ℕ). nodes_before x (nodes_at b y z)) e g in
      omega arith

  pub count-hit : (i : ℕ) → i < n → get_or b (at + 2 * i + 1) 0 ≡ x → Counting i → i ≡ nodes_before x (nodes_at b at n)
  count-hit i l e h = let k = before-hit x b (at + 2 * i) (n - i) (omega arith) e in omega arith

  pub count-end : (i : ℕ) → n - i ≡ 0 → Counting i → i ≡ nodes_before x (nodes_at b at n)
  count-end i e h = let k = before-end x b (at + 2 * i) (n - i) e in omega arith

-- ---- substitution
module _ (x : ℕ) (r : Node) (t : List ℕ) (p left : ℕ) (h : 0 < left) where
  -- a node and its successors
  sub-turn : (skip k v skip' : ℕ) → substitute_from x r (node_at t p ∷ nodes_at t (p + 2) (left - 1)) skip ≡ node k v ∷ substitute_from x r (nodes_at t (p + 2) (left - 1)) skip'
      → substituting x r t p left skip ≡ substituting x r (set (set t p k) (p + 1) v) (p + 2) (left - 1) skip'
  unfolding substituting words
  sub-turn skip k v skip' e =
      let a : nodes_at (set (set t p k) (p + 1) v) (p + 2) (left - 1) ≡ nodes_at t (p + 2) (left - 1) =
      nodes_at-above (set t p k) (p + 1) (v ∷ []) (p + 2) (left - 1) (omega arith) ∙ nodes_at-above t p (k ∷ []) (p + 2) (left - 1) (omega arith) in
      ap (λ (l : Ty). sets t p (words (substitute_from x r l skip))) (nodes_at-cons t p left h)
      ∙ ap (λ (l : Ty). sets t p (words l)) e
      ∙ ap₂ (λ (y z : ℕ). sets (set (set t p k) y v) z (words (substitute_from x r (nodes_at t (p + 2) (left - 1)) skip'))) (sym (add-one p)) (sym (add-two p))
      ∙ ap (λ (l : Ty). sets (set (set t p k) (p + 1) v) (p + 2) (words (substitute_from x r l skip'))) (sym a)

  kept : set (set t p (get_or t p 0)) (p + 1) (get_or t (p + 1) 0) ≡ t
  kept = ap (λ (l : List ℕ). set l (p + 1) (get_or t (p + 1) 0)) (set-get_or t p 0) ∙ set-get_or t (p + 1) 0

  sub-kept : (skip skip' : ℕ) → substitute_from x r (node_at t p ∷ nodes_at t (p + 2) (left - 1)) skip ≡ node_at t p ∷ substitute_from x r (nodes_at t (p + 2) (left - 1)) skip'
      → substituting x r t p left skip ≡ substituting x r t (p + 2) (left - 1) skip'
  sub-kept skip skip' e = sub-turn skip (get_or t p 0) (get_or t (p + 1) 0) skip' e ∙ ap (λ (l : List ℕ). substituting x r l (p + 2) (left - 1) skip') kept

  pub sub-skip : (skip : ℕ) → skip ≢ 0 → substituting x r t p left skip ≡ substituting x r t (p + 2) (left - 1) (skip - 1 + node_parts (node_at t p))
  sub-skip zero f = absurd (f refl)
  sub-skip (suc m) f =
      let e : node_parts (node_at t p) + m ≡ suc m - 1 + node_parts (node_at t p) = omega arith in
      sub-kept (suc m) (node_parts (node_at t p) + m) refl ∙ ap (λ (y : ℕ). substituting x r t (p + 2) (left - 1) y) e

  -- of the nodes that have the name a variable is replaced, and a quantifier hides its body
  pub sub-bound : get_or t p 0 ≡ 14 → get_or t (p + 1) 0 ≡ x → substituting x r t p left 0 ≡ substituting x r t (p + 2) (left - 1) 1
  sub-bound e f = sub-kept 0 1 (rw (e, eq-eqb x (get_or t (p + 1) 0) (sym f)))

  pub sub-kind : get_or t p 0 ≢ 11 → get_or t p 0 ≢ 14 → substituting x r t p left 0 ≡ substituting x r t (p + 2) (left - 1) 0
  sub-kind e f = sub-kept 0 0 (rw (ne_eqb 11 (get_or t p 0) (λ z. e (sym z)), ne_eqb 14 (get_or t p 0) (λ z. f (sym z))))

  pub sub_number : get_or t (p + 1) 0 ≢ x → substituting x r t p left 0 ≡ substituting x r t (p + 2) (left - 1) 0
  sub_number f = sub-kept 0 0 (rw (ne_eqb x (get_or t (p + 1) 0) (λ z. f (sym z)), and-false (eqb 11 (get_or t p 0)), and-false (eqb 14 (get_or t p 0))))

pub sub-hit : (x k v : ℕ) (t : List ℕ) (p left : ℕ) → 0 < left → get_or t p 0 ≡ 11 → get_or t (p + 1) 0 ≡ x
    → substituting x (node k v) t p left 0 ≡ substituting x (node k v) (set (set t p k) (p + 1) v) (p + 2) (left - 1) 0
sub-hit x k v t p left h e f = sub-turn x (node k v) t p left h 0 k v 0 (rw (e, eq-eqb x (get_or t (p + 1) 0) (sym f)))

pub sub-end : (x : ℕ) (r : Node) (t : List ℕ) (p left skip : ℕ) → left ≡ 0 → substituting x r t p left skip ≡ t
unfolding substituting words nodes_at
sub-end x r t p left skip e = rw e

-- several nodes at once
module _ (x : ℕ) (r : Node) (t : List ℕ) where
  abbrev hidden : ℕ → ℕ → ℕ → ℕ
  hidden p left skip = length (take_parts node_parts (nodes_at t p left) skip)

  -- the types that are left alone
  sub-hidden : (left p skip : ℕ) → substituting x r t p left skip ≡ substituting x r t (p + 2 * hidden p left skip) (left - hidden p left skip) 0
  sub-hidden zero p skip = sub-end x r t p 0 skip refl ∙ sym (sub-end x r t (p + 2 * hidden p 0 skip) (0 - hidden p 0 skip) 0 (omega arith))
  sub-hidden (suc left) p zero =
      let m : ℕ = hidden p (suc left) 0 in
      let e : m ≡ 0 = ap length (take_none (nodes_at t p (suc left)) 0 refl) in
      let f : p ≡ p + 2 * m = omega arith in
      let g : suc left ≡ suc left - m = omega arith in
      ap₂ (λ (y z : ℕ). substituting x r t y z 0) f g
  sub-hidden (suc left) p (suc skip) =
      let h : 0 < suc left = omega arith in
      let k : ℕ = suc skip - 1 + node_parts (node_at t p) in
      let q : suc left - 1 ≡ left = omega arith in
      let z : suc skip ≢ 0 = omega arith in
      let m : ℕ = hidden p (suc left) (suc skip) in
      let m' : ℕ = hidden (p + 2) left k in
      let e : m ≡ suc m' = ap length (take-turn t p (suc left) h (suc skip) z) ∙ ap (λ (y : ℕ). suc (hidden (p + 2) y k)) q in
      let f : p + 2 + 2 * m' ≡ p + 2 * m = omega arith in
      let g : left - m' ≡ suc left - m = omega arith in
      sub-skip x r t p (suc left) h (suc skip) z ∙ ap (λ (y : ℕ). substituting x r t (p + 2) y k) q ∙ sub-hidden left (p + 2) k ∙ ap₂ (λ (a b : ℕ). substituting x r t a b 0) f g

  pub sub-one : (t' : List ℕ) (p left : ℕ) → substituting x r t p left 0 ≡ substituting x r t' (p + 2) (left - 1) 0 → substituting x r t p left 0 ≡ substituting x r t' (p + 2 * 1) (left - 1) 0
  sub-one t' p left e = let f : p + 2 ≡ p + 2 * 1 = omega arith in e ∙ ap (λ (y : ℕ). substituting x r t' y (left - 1) 0) f

  -- a quantifier of the name, and its body
  pub sub-body : (p left m : ℕ) → 0 < left → get_or t p 0 ≡ 14 → get_or t (p + 1) 0 ≡ x → m ≡ length (first (nodes_at t (p + 2) (left - 1)))
      → substituting x r t p left 0 ≡ substituting x r t (p + 2 * (1 + m)) (left - (1 + m)) 0
  sub-body p left m h e f g =
      let a : p + 2 + 2 * m ≡ p + 2 * (1 + m) = omega arith in
      let b : left - 1 - m ≡ left - (1 + m) = omega arith in
      sub-bound x r t p left h e f ∙ sub-hidden (left - 1) (p + 2) 1
      ∙ ap (λ (y : ℕ). substituting x r t (p + 2 + 2 * y) (left - 1 - y) 0) (sym g) ∙ ap₂ (λ (y z : ℕ). substituting x r t y z 0) a b

  -- the nodes before the first that has the name: what is left begins with that one
  abbrev pub Reached : ℕ → ℕ → ℕ → Type 0
  Reached p n b = (b ≤ n) × (b < n → get_or t (p + 2 * b + 1) 0 ≡ x) × (substituting x r t p n 0 ≡ substituting x r t (p + 2 * b) (n - b) 0)

  reach-none : (p n b : ℕ) → b ≡ 0 → (0 < n → get_or t (p + 1) 0 ≡ x) → Reached p n b
  reach-none p n b e f =
      let k : p + 1 ≡ p + 2 * b + 1 = omega arith in
      let l : p ≡ p + 2 * b = omega arith in
      let m : n ≡ n - b = omega arith in
      (omega arith, (λ h. ap (λ (y : ℕ). get_or t y 0) (sym k) ∙ f (omega arith)), ap₂ (λ (y z : ℕ). substituting x r t y z 0) l m)

  reach-turn : (p n b b' : ℕ) → get_or t (p + 1) 0 ≢ x → b ≡ suc b' → Reached (p + 2) n b' → Reached p (suc n) b
  reach-turn p n b b' f e h =
      let k : p + 2 + 2 * b' + 1 ≡ p + 2 * b + 1 = omega arith in
      let l : p + 2 + 2 * b' ≡ p + 2 * b = omega arith in
      let m : n - b' ≡ suc n - b = omega arith in
      let q : suc n - 1 ≡ n = omega arith in
      let w = h.0 in (
        omega arith,
        (λ z. ap (λ (y : ℕ). get_or t y 0) (sym k) ∙ h.1 (omega arith)),
        sub_number x r t p (suc n) (omega arith) f ∙ ap (λ (y : ℕ). substituting x r t (p + 2) y 0) q ∙ h.2 ∙ ap₂ (λ (y z : ℕ). substituting x r t y z 0) l m,
      )

  pub reached : (n p : ℕ) → Reached p n (nodes_before x (nodes_at t p n))
  reached zero p = reach-none p 0 (nodes_before x (nodes_at t p 0)) (before-end x t p 0 refl) (λ h. absurd (not-suc-le-zero h))
  reached (suc n) p =
      let h : 0 < suc n = omega arith in
      let q : suc n - 1 ≡ n = omega arith in
      elim (ℕ_discrete (get_or t (p + 1) 0) x) [
        | yes e ↦ reach-none p (suc n) (nodes_before x (nodes_at t p (suc n))) (before-hit x t p (suc n) h e) (λ _. e)
        | no f ↦ reach-turn p n (nodes_before x (nodes_at t p (suc n))) (nodes_before x (nodes_at t (p + 2) n)) f (before-turn x t p (suc n) h f ∙ ap (λ (y : ℕ). suc (nodes_before x (nodes_at t (p + 2) y))) q) (reached n (p + 2))
      ]

pub length_from : (x : ℕ) (r : Node) (l : Ty) (skip : ℕ) → length (substitute_from x r l skip) ≡ length l
length_from x r [] skip = refl
length_from x r (n ∷ ns) zero = ap suc (length_from x r ns (cond (is_node 14 x n) 1 0))
length_from x r (n ∷ ns) (suc skip) = ap suc (length_from x r ns (node_parts n + skip))

-- ---- a substitution in place: what a round leaves
module _ (x : ℕ) (r : Node) where
  abbrev pub Walked : List ℕ → ℕ → ℕ → List ℕ → ℕ → Type 0
  Walked t₀ at n t i = (i ≤ n) × (i < n → get_or t (at + 2 * i + 1) 0 ≡ x) × (substituting x r t₀ at n 0 ≡ substituting x r t (at + 2 * i) (n - i) 0)

  pub walk_start : (t : List ℕ) (at n i : ℕ) → i ≡ nodes_before x (nodes_at t at n) → Walked t at n t i
  walk_start t at n i e = subst (λ (y : ℕ). Walked t at n t y) (sym e) (reached x r t n at)

  pub before-within : (t : List ℕ) (p n b : ℕ) → b ≡ nodes_before x (nodes_at t p n) → b ≤ n
  before-within t p n b e = (walk_start t p n b e).0

  -- a node that has the name, with m − 1 that it hides, and b before the next
  pub walk_turn : (t₀ : List ℕ) (at n : ℕ) (t t' : List ℕ) (i m b : ℕ) → m ≤ n - i → i < n
      → substituting x r t (at + 2 * i) (n - i) 0 ≡ substituting x r t' (at + 2 * i + 2 * m) (n - i - m) 0
      → b ≡ nodes_before x (nodes_at t' (at + 2 * (i + m)) (n - (i + m))) → Walked t₀ at n t i → Walked t₀ at n t' (i + m + b)
  walk_turn t₀ at n t t' i m b k l s e w =
      let p : ℕ = at + 2 * (i + m) in
      let q : ℕ = n - (i + m) in
      let h : Reached x r t' p q b = subst (λ (y : ℕ). Reached x r t' p q y) (sym e) (reached x r t' q p) in
      let u = h.0 in
      let f : at + 2 * i + 2 * m ≡ p = omega arith in
      let g : n - i - m ≡ q = omega arith in
      let v : p + 2 * b ≡ at + 2 * (i + m + b) = omega arith in
      let y : q - b ≡ n - (i + m + b) = omega arith in
      let z : p + 2 * b + 1 ≡ at + 2 * (i + m + b) + 1 = omega arith in (
        omega arith,
        (λ j. ap (λ (a : ℕ). get_or t' a 0) (sym z) ∙ h.1 (omega arith)),
        w.2 ∙ s ∙ ap₂ (λ (a c : ℕ). substituting x r t' a c 0) f g ∙ h.2 ∙ ap₂ (λ (a c : ℕ). substituting x r t' a c 0) v y,
      )

-- what stands in the buffer after a substitution
pub substituted : (x : ℕ) (r : Node) (t t' : List ℕ) (at n : ℕ) → at + 2 * n ≤ length t → t' ≡ sets t at (words (substitute x r (nodes_at t at n))) → nodes_at t' at n ≡ substitute x r (nodes_at t at n)
unfolding substitute
substituted x r t t' at n h e =
    let s : Ty = substitute_from x r (nodes_at t at n) 0 in
    let l : length s ≡ n = length_from x r (nodes_at t at n) 0 ∙ length-nodes_at t at n in
    ap (λ (y : List ℕ). nodes_at y at n) e ∙ ap (λ (m : ℕ). nodes_at (sets t at (words s)) at m) (sym l) ∙ nodes_at-same s t at (omega arith)
