-- Types: lists of nodes in prefix order, as the board and the book store them.
-- Assumes nothing.
use Rattle.std.specs.Prelude.{ℕ, zero, suc, ◌+◌, Bool, true, false, cond, not, ◌&&◌, ◌||◌, List, [], ◌∷◌, ◌++◌, eqb, length}
use Rattle.nodes.specs.Nodes.{Node, node, Ty, kind, node_parts}
use Rattle.nodes.specs.Parts.{take_parts, drop_parts}

abbrev pub unknown : ℕ → Ty
unknown k = node 17 k ∷ []

abbrev pub con : ℕ → Ty
con n = node 12 n ∷ []

abbrev pub arrow : Ty → Ty → Ty
arrow a b = node 13 0 ∷ (a ++ b)

abbrev pub app : Ty → Ty → Ty
app a b = node 15 0 ∷ (a ++ b)

abbrev pub forall : ℕ → Ty → Ty
forall x a = node 14 x ∷ a

-- names 1 to 4 are Int, Bool, Unit and printInt
abbrev pub Int : Ty
Int = con 1

abbrev pub BoolT : Ty
BoolT = con 2

abbrev pub UnitT : Ty
UnitT = con 3

abbrev pub is_node : ℕ → ℕ → Node → Bool
is_node k v (node k' v') = eqb k k' && eqb v v'

abbrev pub eq_node : Node → Node → Bool
eq_node (node k v) m = is_node k v m

abbrev pub eq_ty : Ty → Ty → Bool
eq_ty [] [] = true
eq_ty [] (y ∷ ys) = false
eq_ty (x ∷ xs) [] = false
eq_ty (x ∷ xs) (y ∷ ys) = eq_node x y && eq_ty xs ys

-- the first whole type of a list of nodes, and what follows it
abbrev pub first : Ty → Ty
first t = take_parts node_parts t 1

abbrev pub rest : Ty → Ty
rest t = drop_parts node_parts t 1

-- What the rules ask of a type.
pub data View : Type 0 where
  is_arrow is_app : Ty → Ty → View
  is_forall : ℕ → Ty → View
  is_unknown : ℕ → View
  is_other : View

abbrev pub null : Ty → Bool
null [] = true
null (x ∷ xs) = false

unfoldable pub view : Ty → View
view [] = is_other
view (node k v ∷ ns) =
    cond (eqb k 13 && eqb v 0) (is_arrow (first ns) (rest ns))
    (cond (eqb k 15 && eqb v 0) (is_app (first ns) (rest ns))
    (cond (eqb k 14) (is_forall v ns)
    (cond (eqb k 17 && null ns) (is_unknown v) is_other)))

-- `occurs_check` and `is_monotype`
unfoldable pub occurs : ℕ → Ty → Bool
occurs k [] = false
occurs k (n ∷ ns) = is_node 17 k n || occurs k ns

unfoldable pub is_monotype : Ty → Bool
is_monotype [] = true
is_monotype (n ∷ ns) = not (eqb (kind n) 14) && is_monotype ns

-- `substitute_type`, of one node for a name; it leaves the body of a Forall of that name alone:
-- `skip` counts the types that are still to be copied.
abbrev pub substitute_from : ℕ → Node → Ty → ℕ → Ty
substitute_from x r [] skip = []
substitute_from x r (n ∷ ns) (suc skip) = n ∷ substitute_from x r ns (node_parts n + skip)
substitute_from x r (n ∷ ns) zero =
    cond (is_node 11 x n) r n ∷ substitute_from x r ns (cond (is_node 14 x n) 1 0)

unfoldable pub substitute : ℕ → Node → Ty → Ty
substitute x r t = substitute_from x r t 0

-- `apply_type_substitutions`: it goes under every Forall. The newest pair comes first.
abbrev pub Renaming : Type 0
Renaming = List (ℕ × ℕ)

abbrev pub rename_node : Renaming → Node → Node
rename_node [] n = n
rename_node (p ∷ ps) n = cond (is_node 11 p.0 n) (node 17 p.1) (rename_node ps n)

unfoldable pub rename : Renaming → Ty → Ty
rename m [] = []
rename m (n ∷ ns) = rename_node m n ∷ rename m ns

-- the quantifiers at the front, and what they stand before
unfoldable pub front_names : Ty → List ℕ
front_names [] = []
front_names (node k v ∷ ns) = elim (eqb k 14) [ true ↦ v ∷ front_names ns | false ↦ [] ]

unfoldable pub after_front : Ty → Ty
after_front [] = []
after_front (node k v ∷ ns) = elim (eqb k 14) [ true ↦ after_front ns | false ↦ node k v ∷ ns ]

-- `can_types_unify`; each round takes a node or more off the first list
abbrev pub can_unify_from : ℕ → Ty → Ty → Bool
can_unify_from zero s t = true
can_unify_from (suc n) [] t = true
can_unify_from (suc n) (x ∷ s) [] = false
can_unify_from (suc n) (x ∷ s) (y ∷ t) =
    elim (eqb (kind x) 17 || eqb (kind y) 17) [
      | true ↦ can_unify_from n (rest (x ∷ s)) (rest (y ∷ t))
      | false ↦ eq_node x y && can_unify_from n s t
    ]

unfoldable pub can_unify : Ty → Ty → Bool
can_unify s t = can_unify_from (length s) s t
