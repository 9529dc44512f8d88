-- The plan on a sheet: its data constructors, its context, its expected type and its term. Assumes nothing: these are definitions.
use Rattle.sheet.specs.declared.Extent.{Extent}
use Rattle.std.specs.Prelude.{Bool, true, false, not, cond, ◌&&◌, ◌||◌, List, [], ◌∷◌, map, ℕ, zero, suc, ◌+◌, ◌<◌, length, take, drop, eqb, Option, None, Some}
use Rattle.nodes.specs.Nodes.{Node, node, Ty}
use Rattle.nodes.specs.Parts.{take_parts}
use Rattle.spelling.specs.declared.Triple.{Triple}
use Rattle.spelling.specs.Spelling.{lines_of}
use Rattle.kinds.specs.Kinds.{parts_of}
use Rattle.sheet.specs.declared.Places.{Places}

-- ---- lines
-- what a line says where there is none
abbrev pub no_triple : Triple
no_triple = record { kind = 0; negative = false; value = 0; count = 0 }

abbrev pub triple_of : Option Triple → Triple
triple_of (Some t) = t
triple_of None = no_triple

-- a sheet as its lines
unfoldable pub triples : List ℕ → List Triple
triples s = map triple_of (lines_of s)

-- the line after n whole parts that start at line `at`; so the line at which part n starts, of the parts that start there
unfoldable pub part_line : List Triple → ℕ → ℕ → ℕ
part_line ls at n = at + length (take_parts parts_of (drop at ls) n)

-- ---- types
-- a line of a type as a node: a Product's number is its count
abbrev pub line_node : Triple → Node
line_node t = node t.kind (cond (eqb t.kind 16) t.count t.value)

abbrev pub nodes_of : List Triple → Ty
nodes_of [] = []
nodes_of (t ∷ ts) = line_node t ∷ nodes_of ts

-- a word holds the line's value
abbrev pub Narrow : Triple → Type 0
Narrow t = t.value < 4294967296

-- ---- entries
abbrev pub is_entry : Triple → Bool
is_entry t = eqb t.kind 1 || eqb t.kind 2

-- a line of kind k and name x
abbrev pub named : ℕ → ℕ → Triple → Bool
named k x t = eqb t.kind k && eqb t.value x

-- where an entry stands: its own line, the first line of its type, and how many lines that has
pub record Declaration : Type 0 where
  pub head : Triple
  pub line : ℕ
  pub count : ℕ

-- the entries at the front of the lines, which start at line `at`; d counts the parts of the last one's type that are still to come
unfoldable pub declarations : List Triple → ℕ → ℕ → List Declaration
declarations [] d at = []
declarations (t ∷ ts) (suc d) at = declarations ts (parts_of t + d) (at + 1)
declarations (t ∷ ts) zero at =
    let others = declarations ts 1 (at + 1) in
    cond (is_entry t) (record { head = t; line = at + 1; count = length (take_parts parts_of ts 1) } ∷ others) []

-- where the type of the entry of kind k and name x stands
unfoldable pub find_in : ℕ → ℕ → List Declaration → Option Extent
find_in k x [] = None
find_in k x (e ∷ es) = cond (named k x e.head) (Some (record { line = e.line; count = e.count })) (find_in k x es)

-- the line after the entries, which start at line `at`
unfoldable pub end_from : ℕ → List Declaration → ℕ
end_from at [] = at
end_from at (e ∷ es) = end_from (e.line + e.count) es

unfoldable pub find_entry : ℕ → ℕ → List Triple → Option Extent
find_entry k x ls = find_in k x (declarations ls 0 0)

unfoldable pub entries_end : List Triple → ℕ
entries_end ls = end_from 0 (declarations ls 0 0)

-- ---- the plan
-- a data constructor or a context variable: its name and its type
pub data Binding : Type 0 where
  ◌∶◌ : ℕ → Ty → Binding

abbrev pub Bindings : Type 0
Bindings = List Binding

-- those of kind k, in their order
unfoldable pub bindings_in : ℕ → List Triple → List Declaration → Bindings
bindings_in k ls [] = []
bindings_in k ls (e ∷ es) =
    let others = bindings_in k ls es in
    cond (eqb e.head.kind k) (◌∶◌ e.head.value (nodes_of (take e.count (drop e.line ls))) ∷ others) others

-- the type under a name; and the type that stands at a place
unfoldable pub lookup : ℕ → Bindings → Option Ty
lookup x [] = None
lookup x (◌∶◌ y t ∷ bs) = cond (eqb y x) (Some t) (lookup x bs)

abbrev pub type_at : List Triple → Option Extent → Option Ty
type_at ls (Some e) = Some (nodes_of (take e.count (drop e.line ls)))
type_at ls None = None

-- the lines at which the expected type and the term start: each comes after a line of its own, of kind 3 and of kind 4
unfoldable pub places_of : List Triple → Places
places_of ls =
    let expected = entries_end ls + 1 in
    record { expected = expected; term = part_line ls expected 1 + 1 }

-- no line has kind 14 or 25
unfoldable pub is_plain : List Triple → Bool
is_plain [] = true
is_plain (t ∷ ts) = not (eqb t.kind 14 || eqb t.kind 25) && is_plain ts

-- a line of this kind uses the name on it: a variable, a constructor or a pattern's constructor
abbrev pub is_use : ℕ → Bool
is_use k = eqb k 21 || (eqb k 26 || eqb k 43)

-- x stands on one of the lines as such a name
unfoldable pub names : ℕ → List Triple → Bool
names x [] = false
names x (t ∷ ts) = (eqb t.value x && is_use t.kind) || names x ts

-- of the entries, those whose name stands in the term are plain
unfoldable pub plain_entries : List Triple → List Triple → List Declaration → Bool
plain_entries term ls [] = true
plain_entries term ls (e ∷ es) = (not (names e.head.value term) || is_plain (take e.count (drop e.line ls))) && plain_entries term ls es

-- The plain mark: of the expected type, the term, and the entries that the term names. An entry of either kind is named by a line of any of
-- the three kinds, wherever in the term it stands.
unfoldable pub plain_plan : List Triple → Bool
plain_plan ls =
    let term = drop (places_of ls).term ls in
    is_plain (take_parts parts_of (drop (places_of ls).expected ls) 1) && (is_plain term && plain_entries term ls (declarations ls 0 0))

-- a term as it stands on the sheet: the number of its first line, from 0, and its lines
pub record Term : Type 0 where
  pub line : ℕ
  pub lines : List Triple

pub record Plan : Type 0 where
  pub constructors : Bindings
  pub context : Bindings
  pub expected : Ty
  pub term : Term
  pub plain : Bool

unfoldable pub plan_of : List Triple → Plan
plan_of ls = record {
  constructors = bindings_in 1 ls (declarations ls 0 0);
  context = bindings_in 2 ls (declarations ls 0 0);
  expected = nodes_of (take_parts parts_of (drop (places_of ls).expected ls) 1);
  term = record { line = (places_of ls).term; lines = drop (places_of ls).term ls };
  plain = plain_plan ls;
}
