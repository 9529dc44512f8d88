-- Types as text, as in the papers: n10 → Int, ∀n10. n10, a product (A × B), a type application F A, an unknown ^3; a
-- fresh universal is !3, and a product of one part is (A ×), which tells it from parentheses. Assumes nothing: these are
-- definitions.
use Rattle.std.specs.Prelude.{Bool, false, cond, ◌||◌, List, [], ◌∷◌, ◌++◌, ℕ, zero, suc, ◌+◌, ◌-◌, ◌*◌, ◌/◌, eqb, length}
use Prim.Native.String.{String}
use Rattle.nodes.specs.Nodes.{Node, node, Ty, nodes_at}
use Rattle.wording.specs.declared.Place.{Place}
use Rattle.wording.specs.declared.Place.TheVariants.{Alone, Before, Result, Part, Applied, Argument}
use Rattle.wording.specs.Texts.{bytes, number_text, name_text, least}

-- what is still to be written: a text, or the next type with what goes before it at its place
pub data Piece : Type 0 where
  text : List ℕ → Piece
  type : Place → Piece

abbrev pub separator : Place → String
separator Alone = ""
separator Before = ""
separator Result = " → "
separator Part = " × "
separator Applied = ""
separator Argument = " "

-- an arrow or a quantifier
abbrev pub weak : ℕ → Bool
weak k = eqb k 13 || eqb k 14

-- a node of this kind stands in parentheses
abbrev pub in_parentheses : ℕ → Place → Bool
in_parentheses k Alone = false
in_parentheses k Before = weak k
in_parentheses k Result = false
in_parentheses k Part = weak k
in_parentheses k Applied = weak k
in_parentheses k Argument = weak k || eqb k 15

-- n parts of a Product, the first one at a place
abbrev pub parts : Place → ℕ → List Piece
parts p zero = []
parts p (suc n) = type p ∷ parts Part n

abbrev pub product : ℕ → List Piece
product n = text (bytes "(") ∷ (parts Before n ++ (text (cond (eqb n 1) (bytes " ×") []) ∷ text (bytes ")") ∷ []))

unfoldable pub quantifier : ℕ → List ℕ
quantifier x = bytes "∀" ++ (name_text x ++ bytes ". ")

-- a node without parts: a variable, a constructor, an unknown, a fresh universal
unfoldable pub leaf : ℕ → ℕ → List ℕ
leaf k v =
    cond (eqb k 11) (name_text v)
    (cond (eqb k 12) (name_text v)
    (cond (eqb k 17) (bytes "^" ++ number_text v) (cond (eqb k 18) (bytes "!" ++ number_text v) [])))

-- a node without parentheses
unfoldable pub bare : ℕ → ℕ → List Piece
bare k v =
    cond (eqb k 13) (type Before ∷ type Result ∷ [])
    (cond (eqb k 14) (text (quantifier v) ∷ type Alone ∷ [])
    (cond (eqb k 15) (type Applied ∷ type Argument ∷ []) (cond (eqb k 16) (product v) (text (leaf k v) ∷ []))))

abbrev pub enclosed : Bool → List Piece → List Piece
enclosed b qs = text (cond b (bytes "(") []) ∷ (qs ++ (text (cond b (bytes ")") []) ∷ []))

unfoldable pub pieces : Place → Node → List Piece
pieces p (node k v) = text (bytes (separator p)) ∷ enclosed (in_parentheses k p) (bare k v)

-- pieces, the nodes of their types coming one after the other; a type that is lacking is nothing
unfoldable pub spelt : Ty → List Piece → List ℕ
spelt [] [] = []
spelt [] (text b ∷ qs) = b ++ spelt [] qs
spelt [] (type p ∷ qs) = spelt [] qs
spelt (x ∷ ns) [] = []
spelt (x ∷ ns) (text b ∷ qs) = b ++ spelt (x ∷ ns) qs
spelt (x ∷ ns) (type p ∷ qs) = spelt ns (pieces p x ++ qs)

unfoldable pub type_text : Ty → List ℕ
type_text ns = spelt ns (type Alone ∷ [])

-- the nodes from node i on and before node e
abbrev pub between : List ℕ → ℕ → ℕ → Ty
between ws i e = nodes_at ws (2 * i) (e - i)

-- the nodes that words hold, two words each
abbrev pub nodes_in : List ℕ → Ty
nodes_in ws = nodes_at ws 0 (length ws / 2)

-- n nodes of a report, from node `from` on, as far as its words go
abbrev pub reported : List ℕ → ℕ → ℕ → Ty
reported ws from n = between ws from (least (from + n) (length ws / 2))
