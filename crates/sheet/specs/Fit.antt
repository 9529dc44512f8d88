-- Whether lines make up a plan, told line by line from the last one up. Assumes nothing: these are definitions.
use Rattle.grammar.specs.declared.SheetError.{SheetError}
use Rattle.std.specs.Prelude.{◌≡◌, Bool, true, false, ◌&&◌, List, [], ◌∷◌, ◌++◌, ℕ, ◌+◌, length, drop, Result, Ok, Err, Some}
use Rattle.nodes.specs.Parts.{drop_parts}
use Rattle.spelling.specs.declared.Triple.{Triple}
use Rattle.kinds.specs.declared.Row.{Row}
use Rattle.kinds.specs.declared.Sort.{Sort}
use Rattle.kinds.specs.Kinds.{nothing, same_sort, row_of, fields_ok, parts_of}
use Rattle.grammar.specs.Grammar.{Item, part, entries, following, ok, due}
use Rattle.sheet.specs.declared.Walked.{Walked}
use Rattle.sheet.specs.Plan.{part_line}
use Rattle.sheet.specs.Rows.{HeldFrom}

abbrev pub is_plan : Result Unit SheetError → Bool
is_plan (Ok _) = true
is_plan (Err e) = false

-- the lines are what is due, and no others: `Forms` as a test
unfoldable pub forms : List Triple → List Item → Bool
forms [] [] = true
forms [] (x ∷ ahead) = false
forms (t ∷ ts) [] = false
forms (t ∷ ts) (x ∷ ahead) = let rest = forms ts (due x (Some t) ++ ahead) in ok x (Some t) && rest

-- ---- what parts follow a line, by their first lines
-- the sort of part that starts with the first of these lines
abbrev pub first_sort : List Triple → Sort
first_sort [] = nothing
first_sort (t ∷ ts) = (row_of t.kind).sort

-- parts one after the other, each of which starts with a line of the sort that is due
unfoldable pub meets : List Triple → List Item → Bool
meets ts [] = true
meets ts (part x ∷ ahead) = let rest = meets (drop_parts parts_of ts 1) ahead in same_sort (first_sort ts) x && rest
meets ts (entries k last ∷ ahead) = false

-- what must follow a line of the row r with the count n
abbrev pub parts_after : Row → ℕ → List Item
parts_after r n = following r.types r.terms r.each n

-- the line fits in front of the lines ts: its fields are in range, and its parts follow
abbrev pub line_fits : Triple → List Triple → Bool
line_fits t ts = let r = row_of t.kind in fields_ok r t && meets ts (parts_after r t.count)

unfoldable pub all_fit : List Triple → Bool
all_fit [] = true
all_fit (t ∷ ts) = let rest = all_fit ts in line_fits t ts && rest

-- what is due walked over from line `at` on: where it ends, and whether all fits, with what came before
abbrev pub walked_over : List Triple → ℕ → Bool → List Item → Walked
walked_over ls at held ahead = record { line = part_line ls at (length ahead); fits = held && meets (drop at ls) ahead }

-- a walk over what is due, from where another one ended, gave `to`: so on any lines that are held from there on
abbrev pub WalksOver : List ℕ → ℕ → Walked → List Item → Walked → Type 0
WalksOver d lines from ahead to = (ls : List Triple) → HeldFrom ls d lines from.line → to ≡ walked_over ls from.line from.fits ahead

-- line i, which says t: where its parts end, and whether it fits
abbrev pub walked : List Triple → ℕ → Triple → Walked
walked ls i t = record { line = part_line ls (i + 1) (parts_of t); fits = line_fits t (drop (i + 1) ls) }
