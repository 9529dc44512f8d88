-- The Arrows at the front of a type: the types of the parameters, and the result. Assumes nothing: these are
-- definitions.
use Rattle.std.specs.Prelude.{Bool, cond, ◌&&◌, List, [], ◌∷◌, ℕ, zero, suc, ◌-◌, eqb, length}
use Rattle.nodes.specs.Nodes.{Node, node, Ty}
use Rattle.judgment.specs.Types.{first, rest}
use Rattle.references.specs.declared.Ending.{Ending}

abbrev pub arrow_head : Node → Bool
arrow_head (node k v) = eqb k 13 && eqb v 0

-- at most n of them
unfoldable pub params : ℕ → Ty → List Ty
params zero t = []
params (suc n) [] = []
params (suc n) (x ∷ t) = cond (arrow_head x) (first t ∷ params n (rest t)) []

unfoldable pub result : ℕ → Ty → Ty
result zero t = t
result (suc n) [] = []
result (suc n) (x ∷ t) = cond (arrow_head x) (result n (rest t)) (x ∷ t)

-- how many they are, and at which of n nodes the result starts
abbrev pub ending_of : ℕ → Ty → Ending
ending_of n t = record { arity = length (params n t); start = n - length (result n t) }
