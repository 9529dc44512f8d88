-- One line of a type that is copied, and the rest. Assumes nothing.
use Rattle.std.proofs.Common.{◌≡◌, sym, ap, ap₂, ◌∙◌, subst, List, ◌∷◌, ℕ, suc, ◌+◌, ◌*◌, ◌-◌, ◌≤◌, ◌<◌, add-one, arith, length, get_or, set, take, drop, drop-cons, eqb}
use lib.Seq.{sets}
use Rattle.nodes.specs.Nodes.{number, words}
use Rattle.nodes.specs.Lists.{All}
use Rattle.nodes.proofs.ListLaws.{cond_ind}
use Rattle.spelling.specs.declared.Triple.{Triple}
use Rattle.sheet.specs.Plan.{no_triple, nodes_of, line_node, Narrow}

module _ (ls : List Triple) (line left : ℕ) (h : line < length ls) (k : 0 < left) where
  pub lines_cons : take left (drop line ls) ≡ get_or ls line no_triple ∷ take (left - 1) (drop (line + 1) ls)
  lines_cons =
      let e : left ≡ suc (left - 1) = omega arith in
      ap₂ (λ (n : ℕ) (ts : List Triple). take n ts) e (drop-cons ls line no_triple h ∙ ap (λ (j : ℕ). get_or ls line no_triple ∷ drop j ls) (sym (add-one line)))

  pub copy-narrow : All Narrow (take left (drop line ls)) → Narrow (get_or ls line no_triple) × All Narrow (take (left - 1) (drop (line + 1) ls))
  copy-narrow a = subst (All Narrow) lines_cons a

-- line i of n
module _ (ls : List Triple) (first n i : ℕ) (h : first + n ≤ length ls) where
  abbrev rest : ℕ → List Triple
  rest j = take (n - j) (drop (first + j) ls)

  abbrev here : Triple
  here = get_or ls (first + i) no_triple

  rest_cons : i < n → rest i ≡ here ∷ rest (i + 1)
  rest_cons k =
      let e : n - i - 1 ≡ n - (i + 1) = omega arith in
      let f : first + i + 1 ≡ first + (i + 1) = omega arith in
      lines_cons ls (first + i) (n - i) (omega arith) (omega arith) ∙ ap₂ (λ (m j : ℕ). here ∷ take m (drop j ls)) e f

  pub rest-narrow : i < n → All Narrow (rest i) → Narrow here × All Narrow (rest (i + 1))
  rest-narrow k a = subst (All Narrow) (rest_cons k) a

  pub copy-turn : i < n → (d : List ℕ) (at : ℕ)
      → sets d (at + 2 * i) (words (nodes_of (rest i)))
      ≡ sets (set (set d (at + 2 * i) here.kind) (at + 2 * i + 1) (number (line_node here))) (at + 2 * (i + 1)) (words (nodes_of (rest (i + 1))))
  unfolding words
  copy-turn k d at =
      let e : suc (at + 2 * i) ≡ at + 2 * i + 1 = omega arith in
      let f : suc (suc (at + 2 * i)) ≡ at + 2 * (i + 1) = omega arith in
      ap (λ (ts : List Triple). sets d (at + 2 * i) (words (nodes_of ts))) (rest_cons k)
      ∙ ap₂ (λ (y z : ℕ). sets (set (set d (at + 2 * i) here.kind) y (number (line_node here))) z (words (nodes_of (rest (i + 1))))) e f

  pub copy-end : n ≤ i → (d : List ℕ) (p : ℕ) → sets d p (words (nodes_of (rest i))) ≡ d
  unfolding words
  copy-end k d p = let e : n - i ≡ 0 = omega arith in rw e

-- a node's number is a word
pub number_small : (t : Triple) → t.count < 131072 → Narrow t → number (line_node t) < 4294967296
number_small t c v = cond_ind (λ (x : ℕ). x < 4294967296) (eqb t.kind 16) (λ _. omega arith) (λ _. v)
