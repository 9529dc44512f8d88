-- What a reference stands for: a part of an opened type, or the parameters that such a part still has. Assumes nothing:
-- these are definitions.
use Rattle.std.specs.Prelude.{◌≡◌, cond, List, [], ◌∷◌, ℕ, ◌+◌, ◌-◌, ◌≤◌, ◌<◌, eqb, ltb, length, take, drop, Some}
use Rattle.std.proofs.lemmas.List.Edits.{sets}
use Rattle.sizes.specs.Sizes.{most_nodes, most_numbers}
use Rattle.nodes.specs.Nodes.{Ty, node_parts, words}
use Rattle.nodes.specs.Parts.{Whole}
use Rattle.nodes.specs.Lists.{All}
use Rattle.spelling.specs.declared.Triple.{Triple}
use Rattle.kinds.specs.Kinds.{parts_of}
use Rattle.sheet.specs.Plan.{line_node, nodes_of, Narrow, find_entry}
use Rattle.judgment.specs.Types.{first, unknown, Renaming, rename, front_names}
use Rattle.constructors.specs.Opening.{pairs}
use Rattle.references.specs.Signatures.{params}
use Rattle.references.specs.declared.TypeRef.{TypeRef}
use Rattle.references.specs.declared.Split.{Split}

-- the constructor's whole type, and the unknowns for its quantifiers
abbrev pub whole_of : List Triple → TypeRef → Ty
whole_of ls r = nodes_of (take r.lines (drop r.first ls))

abbrev pub opened_at : Ty → ℕ → Renaming
opened_at t a = pairs (front_names t) a []

unfoldable pub type_of : List Triple → TypeRef → Ty
type_of ls r =
    cond (eqb r.lines 0) (unknown r.base) (rename (opened_at (whole_of ls r) r.base) (take r.count (drop r.at (whole_of ls r))))

-- every word of a buffer after the type of a reference is written to its front; o are those before
unfoldable pub instance_out : List Triple → TypeRef → List ℕ → List ℕ
instance_out ls r o = sets o 0 (words (type_of ls r))

-- ---- where references lead
-- a constructor's type stands at these lines
pub record Declared (ls : List Triple) (first n : ℕ) : Type 0 where
  pub name : ℕ
  pub found : find_entry 1 name ls ≡ Some (record { line = first; count = n })

-- as many parts follow a line of a type as follow its node
abbrev pub TypeLine : Triple → Type 0
TypeLine t = node_parts (line_node t) ≡ parts_of t

-- one whole type within a constructor's type on the sheet; or an unknown
pub record Good (ls : List Triple) (r : TypeRef) : Type 0 where
  pub stands : r.first + r.lines ≤ length ls
  pub narrow : All Narrow (take r.lines (drop r.first ls))
  pub types : All TypeLine (take r.lines (drop r.first ls))
  pub few : r.lines ≤ most_nodes
  pub within : 0 < r.lines → r.at + r.count ≤ r.lines
  pub whole : 0 < r.lines → Whole parts_of (take r.count (drop (r.first + r.at) ls)) 1
  pub declared : 0 < r.lines → Declared ls r.first r.lines
  pub low : r.base ≤ most_numbers
  pub alone : r.lines ≡ 0 → (r.at ≡ 0) × (r.count ≡ 1)

-- ---- a frame: a reference that stands for the parameters which its type still has, one or more; an unknown stands for itself
unfoldable pub pending_of : List Triple → TypeRef → List Ty
pending_of ls r = cond (eqb r.lines 0) (type_of ls r ∷ []) (params r.count (type_of ls r))

pub record Frame (ls : List Triple) (r : TypeRef) : Type 0 where
  pub good : Good ls r
  pub some : 0 < length (pending_of ls r)

-- the first parameter, of m nodes, and the type after it
abbrev pub parameter_of : TypeRef → ℕ → TypeRef
parameter_of r m = record { first = r.first; lines = r.lines; at = r.at + 1; count = m; base = r.base }

abbrev pub others_of : TypeRef → ℕ → TypeRef
others_of r m = record { first = r.first; lines = r.lines; at = r.at + 1 + m; count = r.count - 1 - m; base = r.base }

-- how many nodes the first parameter has, and whether others follow it
abbrev pub split_of : List Triple → TypeRef → Split
split_of ls r = record { count = length (first (drop 1 (type_of ls r))); more = ltb 1 (length (pending_of ls r)) }

pub record Halved (ls : List Triple) (r : TypeRef) (h : Split) : Type 0 where
  pub short : 1 + h.count ≤ r.count
  pub first : Good ls (parameter_of r h.count)
  pub others : Good ls (others_of r h.count)
  pub pending : pending_of ls r ≡ type_of ls (parameter_of r h.count) ∷ pending_of ls (others_of r h.count)
  pub more : h.more ≡ ltb 0 (length (pending_of ls (others_of r h.count)))
  pub answer : h ≡ split_of ls r
