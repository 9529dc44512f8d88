-- What lines a sheet that is taken has. Assumes nothing: these are definitions.
use Rattle.std.specs.Prelude.{◌≡◌, true, List, [], ◌∷◌, ◌++◌, take, drop, Some}
use Rattle.nodes.specs.Parts.{take_parts}
use Rattle.spelling.specs.declared.Triple.{Triple}
use Rattle.kinds.specs.declared.Sort.{Sort}
use Rattle.kinds.specs.Kinds.{a_type, a_term, parts_of}
use Rattle.grammar.specs.Grammar.{Item, part, ok, due}
use Rattle.sheet.specs.Plan.{Declaration, declarations, places_of}

-- the lines are what is due, and no others: each may stand where it does, none is lacking, none comes after
abbrev pub Forms : List Triple → List Item → Type 0
Forms [] [] = Unit {0}
Forms [] (x ∷ ahead) = ⊥
Forms (t ∷ ts) [] = ⊥
Forms (t ∷ ts) (x ∷ ahead) = (ok x (Some t) ≡ true) × Forms ts (due x (Some t) ++ ahead)

-- one whole type, term or pattern
abbrev pub IsPart : Sort → List Triple → Type 0
IsPart x ts = Forms ts (part x ∷ [])

-- every entry has a type
abbrev pub Typed : List Triple → List Declaration → Type 0
Typed ls [] = Unit {0}
Typed ls (e ∷ es) = IsPart a_type (take e.count (drop e.line ls)) × Typed ls es

-- a sheet's lines: entries with their types, the expected type, the term
pub record Formed (ls : List Triple) : Type 0 where
  pub entries : Typed ls (declarations ls 0 0)
  pub expected : IsPart a_type (take_parts parts_of (drop (places_of ls).expected ls) 1)
  pub term : IsPart a_term (drop (places_of ls).term ls)
