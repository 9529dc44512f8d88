-- The solutions, in the order in which they were given, and writing out.
-- Assumes nothing.
use Rattle.std.specs.Prelude.{ℕ, zero, suc, ◌+◌, Bool, true, false, cond, ◌||◌, List, [], ◌∷◌, ◌++◌, eqb, length, ◌≢◌, Option, None, Some}
use Rattle.nodes.specs.Lists.{All}
use Rattle.nodes.specs.Nodes.{Node, node, Ty}
use Rattle.judgment.specs.Types.{unknown}

pub data Solution : Type 0 where
  ◌≔◌ : ℕ → Ty → Solution

abbrev pub Solutions : Type 0
Solutions = List Solution

abbrev pub key : Solution → ℕ
key (◌≔◌ k s) = k

abbrev pub value : Solution → Ty
value (◌≔◌ k s) = s

unfoldable pub find : ℕ → Solutions → Option Ty
find k [] = None
find k (◌≔◌ j s ∷ σ) = cond (eqb j k) (Some s) (find k σ)

-- ---- writing out
-- one link: a solved unknown is followed into its solution
abbrev pub or_unknown : ℕ → Option Ty → Ty
or_unknown v None = unknown v
or_unknown v (Some s) = s

abbrev pub link : Solutions → Node → Ty
link σ (node k v) = cond (eqb k 17) (or_unknown v (find v σ)) (node k v ∷ [])

unfoldable pub links : Solutions → Ty → Ty
links σ [] = []
links σ (n ∷ ns) = link σ n ++ links σ ns

abbrev pub known : Option Ty → Bool
known None = false
known (Some s) = true

abbrev pub is_solved : Solutions → Node → Bool
is_solved σ (node k v) = cond (eqb k 17) (known (find v σ)) false

unfoldable pub any_solved : Solutions → Ty → Bool
any_solved σ [] = false
any_solved σ (n ∷ ns) = is_solved σ n || any_solved σ ns

-- until only unsolved ones are left; no chain has more links than there are solutions
unfoldable pub write_out_by : ℕ → Solutions → Ty → Ty
write_out_by zero σ t = t
write_out_by (suc n) σ t = elim (any_solved σ t) [ true ↦ write_out_by n σ (links σ t) | false ↦ t ]

unfoldable pub write_out : Solutions → Ty → Ty
write_out σ t = write_out_by (length σ) σ t

unfoldable pub solution_nodes : Solutions → ℕ
solution_nodes [] = 0
solution_nodes (◌≔◌ k s ∷ σ) = length s + solution_nodes σ

-- ---- the unknowns solved
abbrev pub solved_unknowns : Solutions → List ℕ
solved_unknowns [] = []
solved_unknowns (◌≔◌ k s ∷ σ) = k ∷ solved_unknowns σ

-- no element stands twice
abbrev pub Distinct : List ℕ → Type 0
Distinct [] = Unit {0}
Distinct (k ∷ ks) = All (λ j. k ≢ j) ks × Distinct ks
