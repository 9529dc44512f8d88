-- What is left of a walk over the nodes in a buffer. Assumes nothing: these are definitions.
use Rattle.std.specs.Prelude.{ℕ, suc, ◌+◌, ◌*◌, ◌<◌, Bool, true, false, cond, List, [], ◌∷◌, eqb, get_or, MatchBool}
use Rattle.std.proofs.lemmas.List.Edits.{sets}
use Rattle.nodes.specs.Nodes.{Node, Ty, number}
use Rattle.judgment.specs.Types.{substitute_from}
use Rattle.nodes.specs.Nodes.{words, nodes_at}

-- the buffer after a substitution of the `left` nodes from word p on
unfoldable pub substituting : ℕ → Node → List ℕ → ℕ → ℕ → ℕ → List ℕ
substituting x r t p left skip = sets t p (words (substitute_from x r (nodes_at t p left) skip))

-- how many nodes stand before the first of number x
unfoldable pub nodes_before : ℕ → Ty → ℕ
nodes_before x [] = 0
nodes_before x (n ∷ ns) = cond (eqb (number n) x) 0 (suc (nodes_before x ns))

-- whether a test, told of kind and number, answered true at one of the n nodes from word p on
unfoldable pub IsAnyNode : (ℕ → ℕ → Bool → Type 0) → List ℕ → ℕ → ℕ → Bool → Type 0
IsAnyNode E t p n r =
    MatchBool r ((i : ℕ) × (i < n) × E (get_or t (p + 2 * i) 0) (get_or t (p + 2 * i + 1) 0) true)
    ((i : ℕ) → i < n → E (get_or t (p + 2 * i) 0) (get_or t (p + 2 * i + 1) 0) false)
