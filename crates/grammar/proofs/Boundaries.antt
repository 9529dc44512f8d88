-- Sheets at the boundary of every field, length and place, by computation: reference/boundaries.py makes this file from
-- the answers of the reader in reference/src. Assumes nothing.
use Rattle.grammar.specs.declared.SheetError.TheVariants.{Length, Misspelt, Unfit}
use Rattle.grammar.specs.declared.SheetError.{SheetError}
use Rattle.std.proofs.Common.{Result, Ok, Err, Some, ◌≡◌, refl, false, List, [], ◌∷◌, ◌++◌, map, ℕ, zero, suc, ◌-◌, length, replicate}
use Rattle.spelling.specs.declared.Triple.{Triple}
use Rattle.spelling.specs.Spelling.{field_from, line_of, line_at, lines_from, lines_of, first_misspelt}
use Rattle.spelling.specs.Text.{field_text, line_text}
use Rattle.kinds.specs.Kinds.{find, table, row_of, begins, head_of}
use Rattle.grammar.specs.Grammar.{entries, declared_by, arms, following, read, read_at}
use Rattle.grammar.specs.Check.{end_of, fitting, read_sheet, check}

abbrev t : ℕ → ℕ → ℕ → Triple
t k v c = record { kind = k; negative = false; value = v; count = c }

-- a sheet by its lines, all well spelt: `check` without the bytes, which would be most of the work
unfoldable pub check_lines : List Triple → Result Unit SheetError
check_lines ts = fitting (end_of (length ts) (read (map Some ts) (entries 1 0 ∷ []) 0))

-- the text of a line, by its triple, or by what stands in its fields and its last byte
unfoldable pub l : ℕ → ℕ → ℕ → List ℕ
l k v c = line_text (t k v c)

abbrev right : ℕ → List ℕ → List ℕ
right w bs = replicate (w - length bs) 32 ++ bs

unfoldable pub r : List ℕ → List ℕ → List ℕ → ℕ → List ℕ
r k v c e = right 3 k ++ (right 20 v ++ (right 5 c ++ (e ∷ [])))

abbrev text : List (List ℕ) → List ℕ
text [] = []
text (t ∷ ts) = t ++ text ts

abbrev Row : Type 0
Row = List (List ℕ) × Result Unit SheetError

abbrev times : ℕ → List Triple → List Triple
times zero ts = []
times (suc n) ts = ts ++ times n ts

abbrev LinesRow : Type 0
LinesRow = List Triple × Result Unit SheetError

-- so many spaces: 3 for their length, or 4 for their first line
pub lengths : map (λ n. check (replicate n 32)) (0 ∷ 1 ∷ 28 ∷ 29 ∷ 30 ∷ 57 ∷ 58 ∷ 59 ∷ 28999 ∷ 29000 ∷ 29001 ∷ 57970 ∷ 57971 ∷ 57972 ∷ 57999 ∷ 58000 ∷ 58001 ∷ 58028 ∷ 58029 ∷ 58030 ∷ 58028 ∷ 116000 ∷ []) ≡
    Err Length ∷ Err Length ∷ Err Length ∷ Err (Misspelt 1) ∷ Err Length ∷ Err Length ∷ Err (Misspelt 1) ∷ Err Length ∷ Err Length ∷ Err (Misspelt 1) ∷ Err Length ∷ Err Length ∷ Err (Misspelt 1) ∷ Err Length ∷ Err Length ∷ Err (Misspelt 1) ∷ Err Length ∷ Err Length ∷ Err Length ∷ Err Length ∷ Err Length ∷ Err Length ∷ []
unfolding line_text field_text field_from line_of line_at lines_from lines_of first_misspelt find table row_of begins head_of declared_by arms following read read_at read_sheet check
lengths = refl

abbrev rows_first_lines : List Row
rows_first_lines =
    ((r (51 ∷ []) (48 ∷ []) (48 ∷ []) 10 ∷ l 12 1 0 ∷ l 4 0 0 ∷ l 22 7 0 ∷ []), Ok tt) ∷  -- first line: as it is
    ((r (51 ∷ []) (48 ∷ []) ([]) 10 ∷ l 12 1 0 ∷ l 4 0 0 ∷ l 22 7 0 ∷ []), Err (Misspelt 1)) ∷  -- first line: a blank count
    ((r ([]) (48 ∷ []) (48 ∷ []) 10 ∷ l 12 1 0 ∷ l 4 0 0 ∷ l 22 7 0 ∷ []), Err (Misspelt 1)) ∷  -- first line: a blank kind
    ((r (51 ∷ []) ([]) (48 ∷ []) 10 ∷ l 12 1 0 ∷ l 4 0 0 ∷ l 22 7 0 ∷ []), Err (Misspelt 1)) ∷  -- first line: a blank value
    ((r (51 ∷ []) (48 ∷ []) (48 ∷ []) 13 ∷ l 12 1 0 ∷ l 4 0 0 ∷ l 22 7 0 ∷ []), Err (Misspelt 1)) ∷  -- first line: no LF
    ((r (51 ∷ []) (45 ∷ 48 ∷ []) (48 ∷ []) 10 ∷ l 12 1 0 ∷ l 4 0 0 ∷ l 22 7 0 ∷ []), Err (Misspelt 1)) ∷  -- first line: -0
    ((r (51 ∷ []) (45 ∷ 49 ∷ []) (48 ∷ []) 10 ∷ l 12 1 0 ∷ l 4 0 0 ∷ l 22 7 0 ∷ []), Err (Misspelt 1)) ∷  -- first line: a minus sign
    ((r (48 ∷ 48 ∷ 51 ∷ []) (48 ∷ []) (48 ∷ []) 10 ∷ l 12 1 0 ∷ l 4 0 0 ∷ l 22 7 0 ∷ []), Err (Misspelt 1)) ∷  -- first line: kind 003
    ((l 3 0 0 ∷ l 12 1 0 ∷ r (52 ∷ []) (48 ∷ []) (48 ∷ []) 32 ∷ l 22 7 0 ∷ []), Err (Misspelt 3)) ∷  -- the third line: byte 32 in the place of LF
    []

pub first-lines : map (λ q. check (text q.0)) rows_first_lines ≡ map (λ q. q.1) rows_first_lines
unfolding l r line_text field_text field_from line_of line_at lines_from lines_of first_misspelt find table row_of begins head_of declared_by arms following read read_at read_sheet check
first-lines = refl

abbrev rows_spellings : List Row
rows_spellings =
    ((l 3 0 0 ∷ l 12 1 0 ∷ l 4 0 0 ∷ r ([]) (55 ∷ []) (48 ∷ []) 10 ∷ []), Err (Misspelt 4)) ∷  -- the kind: blank
    ((l 3 0 0 ∷ l 12 1 0 ∷ l 4 0 0 ∷ r (50 ∷ 50 ∷ []) ([]) (48 ∷ []) 10 ∷ []), Err (Misspelt 4)) ∷  -- the value: blank
    ((l 3 0 0 ∷ l 12 1 0 ∷ l 4 0 0 ∷ r (50 ∷ 50 ∷ []) (55 ∷ []) ([]) 10 ∷ []), Err (Misspelt 4)) ∷  -- the count: blank
    ((l 3 0 0 ∷ l 12 1 0 ∷ l 4 0 0 ∷ r (43 ∷ 49 ∷ []) (55 ∷ []) (48 ∷ []) 10 ∷ []), Err (Misspelt 4)) ∷  -- the kind: a plus sign
    ((l 3 0 0 ∷ l 12 1 0 ∷ l 4 0 0 ∷ r (50 ∷ 50 ∷ []) (43 ∷ 49 ∷ []) (48 ∷ []) 10 ∷ []), Err (Misspelt 4)) ∷  -- the value: a plus sign
    ((l 3 0 0 ∷ l 12 1 0 ∷ l 4 0 0 ∷ r (50 ∷ 50 ∷ []) (55 ∷ []) (43 ∷ 49 ∷ []) 10 ∷ []), Err (Misspelt 4)) ∷  -- the count: a plus sign
    ((l 3 0 0 ∷ l 12 1 0 ∷ l 4 0 0 ∷ r (48 ∷ 49 ∷ []) (55 ∷ []) (48 ∷ []) 10 ∷ []), Err (Misspelt 4)) ∷  -- the kind: a leading zero
    ((l 3 0 0 ∷ l 12 1 0 ∷ l 4 0 0 ∷ r (50 ∷ 50 ∷ []) (48 ∷ 49 ∷ []) (48 ∷ []) 10 ∷ []), Err (Misspelt 4)) ∷  -- the value: a leading zero
    ((l 3 0 0 ∷ l 12 1 0 ∷ l 4 0 0 ∷ r (50 ∷ 50 ∷ []) (55 ∷ []) (48 ∷ 49 ∷ []) 10 ∷ []), Err (Misspelt 4)) ∷  -- the count: a leading zero
    ((l 3 0 0 ∷ l 12 1 0 ∷ l 4 0 0 ∷ r (48 ∷ 48 ∷ []) (55 ∷ []) (48 ∷ []) 10 ∷ []), Err (Misspelt 4)) ∷  -- the kind: zero twice
    ((l 3 0 0 ∷ l 12 1 0 ∷ l 4 0 0 ∷ r (50 ∷ 50 ∷ []) (48 ∷ 48 ∷ []) (48 ∷ []) 10 ∷ []), Err (Misspelt 4)) ∷  -- the value: zero twice
    ((l 3 0 0 ∷ l 12 1 0 ∷ l 4 0 0 ∷ r (50 ∷ 50 ∷ []) (55 ∷ []) (48 ∷ 48 ∷ []) 10 ∷ []), Err (Misspelt 4)) ∷  -- the count: zero twice
    ((l 3 0 0 ∷ l 12 1 0 ∷ l 4 0 0 ∷ r (45 ∷ 48 ∷ []) (55 ∷ []) (48 ∷ []) 10 ∷ []), Err (Misspelt 4)) ∷  -- the kind: -0
    ((l 3 0 0 ∷ l 12 1 0 ∷ l 4 0 0 ∷ r (50 ∷ 50 ∷ []) (45 ∷ 48 ∷ []) (48 ∷ []) 10 ∷ []), Err (Misspelt 4)) ∷  -- the value: -0
    ((l 3 0 0 ∷ l 12 1 0 ∷ l 4 0 0 ∷ r (50 ∷ 50 ∷ []) (55 ∷ []) (45 ∷ 48 ∷ []) 10 ∷ []), Err (Misspelt 4)) ∷  -- the count: -0
    ((l 3 0 0 ∷ l 12 1 0 ∷ l 4 0 0 ∷ r (45 ∷ []) (55 ∷ []) (48 ∷ []) 10 ∷ []), Err (Misspelt 4)) ∷  -- the kind: a minus sign alone
    ((l 3 0 0 ∷ l 12 1 0 ∷ l 4 0 0 ∷ r (50 ∷ 50 ∷ []) (45 ∷ []) (48 ∷ []) 10 ∷ []), Err (Misspelt 4)) ∷  -- the value: a minus sign alone
    ((l 3 0 0 ∷ l 12 1 0 ∷ l 4 0 0 ∷ r (50 ∷ 50 ∷ []) (55 ∷ []) (45 ∷ []) 10 ∷ []), Err (Misspelt 4)) ∷  -- the count: a minus sign alone
    ((l 3 0 0 ∷ l 12 1 0 ∷ l 4 0 0 ∷ r (45 ∷ 45 ∷ 49 ∷ []) (55 ∷ []) (48 ∷ []) 10 ∷ []), Err (Misspelt 4)) ∷  -- the kind: two of them
    ((l 3 0 0 ∷ l 12 1 0 ∷ l 4 0 0 ∷ r (50 ∷ 50 ∷ []) (45 ∷ 45 ∷ 49 ∷ []) (48 ∷ []) 10 ∷ []), Err (Misspelt 4)) ∷  -- the value: two of them
    ((l 3 0 0 ∷ l 12 1 0 ∷ l 4 0 0 ∷ r (50 ∷ 50 ∷ []) (55 ∷ []) (45 ∷ 45 ∷ 49 ∷ []) 10 ∷ []), Err (Misspelt 4)) ∷  -- the count: two of them
    ((l 3 0 0 ∷ l 12 1 0 ∷ l 4 0 0 ∷ r (49 ∷ 32 ∷ 49 ∷ []) (55 ∷ []) (48 ∷ []) 10 ∷ []), Err (Misspelt 4)) ∷  -- the kind: a space inside
    ((l 3 0 0 ∷ l 12 1 0 ∷ l 4 0 0 ∷ r (50 ∷ 50 ∷ []) (49 ∷ 32 ∷ 49 ∷ []) (48 ∷ []) 10 ∷ []), Err (Misspelt 4)) ∷  -- the value: a space inside
    ((l 3 0 0 ∷ l 12 1 0 ∷ l 4 0 0 ∷ r (50 ∷ 50 ∷ []) (55 ∷ []) (49 ∷ 32 ∷ 49 ∷ []) 10 ∷ []), Err (Misspelt 4)) ∷  -- the count: a space inside
    ((l 3 0 0 ∷ l 12 1 0 ∷ l 4 0 0 ∷ r (49 ∷ 32 ∷ []) (55 ∷ []) (48 ∷ []) 10 ∷ []), Err (Misspelt 4)) ∷  -- the kind: a space after
    ((l 3 0 0 ∷ l 12 1 0 ∷ l 4 0 0 ∷ r (50 ∷ 50 ∷ []) (49 ∷ 32 ∷ []) (48 ∷ []) 10 ∷ []), Err (Misspelt 4)) ∷  -- the value: a space after
    ((l 3 0 0 ∷ l 12 1 0 ∷ l 4 0 0 ∷ r (50 ∷ 50 ∷ []) (55 ∷ []) (49 ∷ 32 ∷ []) 10 ∷ []), Err (Misspelt 4)) ∷  -- the count: a space after
    ((l 3 0 0 ∷ l 12 1 0 ∷ l 4 0 0 ∷ r (9 ∷ 49 ∷ []) (55 ∷ []) (48 ∷ []) 10 ∷ []), Err (Misspelt 4)) ∷  -- the kind: a tab
    ((l 3 0 0 ∷ l 12 1 0 ∷ l 4 0 0 ∷ r (50 ∷ 50 ∷ []) (9 ∷ 49 ∷ []) (48 ∷ []) 10 ∷ []), Err (Misspelt 4)) ∷  -- the value: a tab
    ((l 3 0 0 ∷ l 12 1 0 ∷ l 4 0 0 ∷ r (50 ∷ 50 ∷ []) (55 ∷ []) (9 ∷ 49 ∷ []) 10 ∷ []), Err (Misspelt 4)) ∷  -- the count: a tab
    ((l 3 0 0 ∷ l 12 1 0 ∷ l 4 0 0 ∷ r (120 ∷ []) (55 ∷ []) (48 ∷ []) 10 ∷ []), Err (Misspelt 4)) ∷  -- the kind: a letter
    ((l 3 0 0 ∷ l 12 1 0 ∷ l 4 0 0 ∷ r (50 ∷ 50 ∷ []) (120 ∷ []) (48 ∷ []) 10 ∷ []), Err (Misspelt 4)) ∷  -- the value: a letter
    ((l 3 0 0 ∷ l 12 1 0 ∷ l 4 0 0 ∷ r (50 ∷ 50 ∷ []) (55 ∷ []) (120 ∷ []) 10 ∷ []), Err (Misspelt 4)) ∷  -- the count: a letter
    ((l 3 0 0 ∷ l 12 1 0 ∷ l 4 0 0 ∷ r (49 ∷ 120 ∷ []) (55 ∷ []) (48 ∷ []) 10 ∷ []), Err (Misspelt 4)) ∷  -- the kind: a digit and a letter
    ((l 3 0 0 ∷ l 12 1 0 ∷ l 4 0 0 ∷ r (50 ∷ 50 ∷ []) (49 ∷ 120 ∷ []) (48 ∷ []) 10 ∷ []), Err (Misspelt 4)) ∷  -- the value: a digit and a letter
    ((l 3 0 0 ∷ l 12 1 0 ∷ l 4 0 0 ∷ r (50 ∷ 50 ∷ []) (55 ∷ []) (49 ∷ 120 ∷ []) 10 ∷ []), Err (Misspelt 4)) ∷  -- the count: a digit and a letter
    ((l 3 0 0 ∷ l 12 1 0 ∷ l 4 0 0 ∷ r (49 ∷ 46 ∷ []) (55 ∷ []) (48 ∷ []) 10 ∷ []), Err (Misspelt 4)) ∷  -- the kind: a point
    ((l 3 0 0 ∷ l 12 1 0 ∷ l 4 0 0 ∷ r (50 ∷ 50 ∷ []) (49 ∷ 46 ∷ []) (48 ∷ []) 10 ∷ []), Err (Misspelt 4)) ∷  -- the value: a point
    ((l 3 0 0 ∷ l 12 1 0 ∷ l 4 0 0 ∷ r (50 ∷ 50 ∷ []) (55 ∷ []) (49 ∷ 46 ∷ []) 10 ∷ []), Err (Misspelt 4)) ∷  -- the count: a point
    ((l 3 0 0 ∷ l 12 1 0 ∷ l 4 0 0 ∷ r (47 ∷ []) (55 ∷ []) (48 ∷ []) 10 ∷ []), Err (Misspelt 4)) ∷  -- the kind: the byte before 0
    ((l 3 0 0 ∷ l 12 1 0 ∷ l 4 0 0 ∷ r (50 ∷ 50 ∷ []) (47 ∷ []) (48 ∷ []) 10 ∷ []), Err (Misspelt 4)) ∷  -- the value: the byte before 0
    ((l 3 0 0 ∷ l 12 1 0 ∷ l 4 0 0 ∷ r (50 ∷ 50 ∷ []) (55 ∷ []) (47 ∷ []) 10 ∷ []), Err (Misspelt 4)) ∷  -- the count: the byte before 0
    ((l 3 0 0 ∷ l 12 1 0 ∷ l 4 0 0 ∷ r (58 ∷ []) (55 ∷ []) (48 ∷ []) 10 ∷ []), Err (Misspelt 4)) ∷  -- the kind: the byte after 9
    ((l 3 0 0 ∷ l 12 1 0 ∷ l 4 0 0 ∷ r (50 ∷ 50 ∷ []) (58 ∷ []) (48 ∷ []) 10 ∷ []), Err (Misspelt 4)) ∷  -- the value: the byte after 9
    ((l 3 0 0 ∷ l 12 1 0 ∷ l 4 0 0 ∷ r (50 ∷ 50 ∷ []) (55 ∷ []) (58 ∷ []) 10 ∷ []), Err (Misspelt 4)) ∷  -- the count: the byte after 9
    ((l 3 0 0 ∷ l 12 1 0 ∷ l 4 0 0 ∷ r (0 ∷ []) (55 ∷ []) (48 ∷ []) 10 ∷ []), Err (Misspelt 4)) ∷  -- the kind: a byte 0
    ((l 3 0 0 ∷ l 12 1 0 ∷ l 4 0 0 ∷ r (50 ∷ 50 ∷ []) (0 ∷ []) (48 ∷ []) 10 ∷ []), Err (Misspelt 4)) ∷  -- the value: a byte 0
    ((l 3 0 0 ∷ l 12 1 0 ∷ l 4 0 0 ∷ r (50 ∷ 50 ∷ []) (55 ∷ []) (0 ∷ []) 10 ∷ []), Err (Misspelt 4)) ∷  -- the count: a byte 0
    ((l 3 0 0 ∷ l 12 1 0 ∷ l 4 0 0 ∷ r (255 ∷ []) (55 ∷ []) (48 ∷ []) 10 ∷ []), Err (Misspelt 4)) ∷  -- the kind: a byte 255
    ((l 3 0 0 ∷ l 12 1 0 ∷ l 4 0 0 ∷ r (50 ∷ 50 ∷ []) (255 ∷ []) (48 ∷ []) 10 ∷ []), Err (Misspelt 4)) ∷  -- the value: a byte 255
    ((l 3 0 0 ∷ l 12 1 0 ∷ l 4 0 0 ∷ r (50 ∷ 50 ∷ []) (55 ∷ []) (255 ∷ []) 10 ∷ []), Err (Misspelt 4)) ∷  -- the count: a byte 255
    ((l 3 0 0 ∷ l 12 1 0 ∷ l 4 0 0 ∷ r (49 ∷ 50 ∷ 50 ∷ []) (55 ∷ []) (48 ∷ []) 10 ∷ []), Err (Unfit 4)) ∷  -- the whole width of the kind: 122
    ((l 3 0 0 ∷ l 12 1 0 ∷ l 4 0 0 ∷ r (120 ∷ 50 ∷ 50 ∷ []) (55 ∷ []) (48 ∷ []) 10 ∷ []), Err (Misspelt 4)) ∷  -- the whole width of the kind: x22
    ((l 3 0 0 ∷ l 12 1 0 ∷ l 4 0 0 ∷ r (49 ∷ 32 ∷ 50 ∷ []) (55 ∷ []) (48 ∷ []) 10 ∷ []), Err (Misspelt 4)) ∷  -- the whole width of the kind: 1 2
    ((l 3 0 0 ∷ l 12 1 0 ∷ l 4 0 0 ∷ r (50 ∷ 50 ∷ 50 ∷ []) (55 ∷ []) (48 ∷ []) 10 ∷ []), Err (Unfit 4)) ∷  -- the whole width of the kind: 222
    ((l 3 0 0 ∷ l 12 1 0 ∷ l 4 0 0 ∷ r (50 ∷ 50 ∷ []) (49 ∷ 32 ∷ 32 ∷ 32 ∷ 32 ∷ 32 ∷ 32 ∷ 32 ∷ 32 ∷ 32 ∷ 32 ∷ 32 ∷ 32 ∷ 32 ∷ 32 ∷ 32 ∷ 32 ∷ 32 ∷ 32 ∷ 55 ∷ []) (48 ∷ []) 10 ∷ []), Err (Misspelt 4)) ∷  -- the whole width of the value: 1                  7
    ((l 3 0 0 ∷ l 12 1 0 ∷ l 4 0 0 ∷ r (50 ∷ 50 ∷ []) (120 ∷ 32 ∷ 32 ∷ 32 ∷ 32 ∷ 32 ∷ 32 ∷ 32 ∷ 32 ∷ 32 ∷ 32 ∷ 32 ∷ 32 ∷ 32 ∷ 32 ∷ 32 ∷ 32 ∷ 32 ∷ 32 ∷ 55 ∷ []) (48 ∷ []) 10 ∷ []), Err (Misspelt 4)) ∷  -- the whole width of the value: x                  7
    ((l 3 0 0 ∷ l 12 1 0 ∷ l 4 0 0 ∷ r (50 ∷ 50 ∷ []) (49 ∷ 48 ∷ 48 ∷ 48 ∷ 48 ∷ 48 ∷ 48 ∷ 48 ∷ 48 ∷ 48 ∷ 48 ∷ 48 ∷ 48 ∷ 48 ∷ 48 ∷ 48 ∷ 48 ∷ 48 ∷ 48 ∷ 55 ∷ []) (48 ∷ []) 10 ∷ []), Err (Misspelt 4)) ∷  -- the whole width of the value: 10000000000000000007
    ((l 3 0 0 ∷ l 12 1 0 ∷ l 4 0 0 ∷ r (50 ∷ 50 ∷ []) (55 ∷ []) (49 ∷ 32 ∷ 32 ∷ 32 ∷ 48 ∷ []) 10 ∷ []), Err (Misspelt 4)) ∷  -- the whole width of the count: 1   0
    ((l 3 0 0 ∷ l 12 1 0 ∷ l 4 0 0 ∷ r (50 ∷ 50 ∷ []) (55 ∷ []) (120 ∷ 32 ∷ 32 ∷ 32 ∷ 48 ∷ []) 10 ∷ []), Err (Misspelt 4)) ∷  -- the whole width of the count: x   0
    ((l 3 0 0 ∷ l 12 1 0 ∷ l 4 0 0 ∷ r (50 ∷ 50 ∷ []) (55 ∷ []) (49 ∷ 48 ∷ 48 ∷ 48 ∷ 48 ∷ []) 10 ∷ []), Err (Unfit 4)) ∷  -- the whole width of the count: 10000
    ((l 3 0 0 ∷ l 12 1 0 ∷ l 4 0 0 ∷ r (50 ∷ 50 ∷ []) (55 ∷ []) (48 ∷ 48 ∷ 48 ∷ 48 ∷ 48 ∷ []) 10 ∷ []), Err (Misspelt 4)) ∷  -- the whole width of the count: 00000
    ((l 3 0 0 ∷ l 12 1 0 ∷ l 4 0 0 ∷ r (45 ∷ 50 ∷ 50 ∷ []) (55 ∷ []) (48 ∷ []) 10 ∷ []), Err (Misspelt 4)) ∷  -- a kind that is negative
    ((l 3 0 0 ∷ l 12 1 0 ∷ l 4 0 0 ∷ r (50 ∷ 50 ∷ []) (55 ∷ []) (45 ∷ 49 ∷ []) 10 ∷ []), Err (Misspelt 4)) ∷  -- a count that is negative
    ((l 3 0 0 ∷ l 12 1 0 ∷ l 4 0 0 ∷ r (50 ∷ 50 ∷ []) (55 ∷ []) (57 ∷ 57 ∷ 57 ∷ 57 ∷ 57 ∷ []) 10 ∷ []), Err (Unfit 4)) ∷  -- a count of five digits
    ((l 3 0 0 ∷ l 12 1 0 ∷ l 4 0 0 ∷ r (50 ∷ 54 ∷ []) (55 ∷ []) (57 ∷ 57 ∷ 57 ∷ 57 ∷ 57 ∷ []) 10 ∷ []), Err (Unfit 4)) ∷  -- of a Constructor
    ((l 3 0 0 ∷ l 12 1 0 ∷ l 4 0 0 ∷ r (50 ∷ 50 ∷ []) (55 ∷ []) (48 ∷ []) 13 ∷ []), Err (Misspelt 4)) ∷  -- byte 13 in the place of LF
    ((l 3 0 0 ∷ l 12 1 0 ∷ l 4 0 0 ∷ r (50 ∷ 50 ∷ []) (55 ∷ []) (48 ∷ []) 32 ∷ []), Err (Misspelt 4)) ∷  -- byte 32 in the place of LF
    ((l 3 0 0 ∷ l 12 1 0 ∷ l 4 0 0 ∷ r (50 ∷ 50 ∷ []) (55 ∷ []) (48 ∷ []) 48 ∷ []), Err (Misspelt 4)) ∷  -- byte 48 in the place of LF
    ((l 3 0 0 ∷ l 12 1 0 ∷ l 4 0 0 ∷ r (50 ∷ 50 ∷ []) (55 ∷ []) (48 ∷ []) 0 ∷ []), Err (Misspelt 4)) ∷  -- byte 0 in the place of LF
    ((l 3 0 0 ∷ l 12 1 0 ∷ l 4 0 0 ∷ r (50 ∷ 50 ∷ []) (55 ∷ []) (48 ∷ []) 11 ∷ []), Err (Misspelt 4)) ∷  -- byte 11 in the place of LF
    []

pub spellings : map (λ q. check (text q.0)) rows_spellings ≡ map (λ q. q.1) rows_spellings
unfolding l r line_text field_text field_from line_of line_at lines_from lines_of first_misspelt find table row_of begins head_of declared_by arms following read read_at read_sheet check
spellings = refl

abbrev rows_literals : List Row
rows_literals =
    ((l 3 0 0 ∷ l 12 1 0 ∷ l 4 0 0 ∷ r (50 ∷ 50 ∷ []) (48 ∷ []) (48 ∷ []) 10 ∷ []), Ok tt) ∷  -- 0
    ((l 3 0 0 ∷ l 12 1 0 ∷ l 4 0 0 ∷ r (50 ∷ 50 ∷ []) (49 ∷ []) (48 ∷ []) 10 ∷ []), Ok tt) ∷  -- 1
    ((l 3 0 0 ∷ l 12 1 0 ∷ l 4 0 0 ∷ r (50 ∷ 50 ∷ []) (45 ∷ 49 ∷ []) (48 ∷ []) 10 ∷ []), Ok tt) ∷  -- -1
    ((l 3 0 0 ∷ l 12 1 0 ∷ l 4 0 0 ∷ r (50 ∷ 50 ∷ []) (57 ∷ []) (48 ∷ []) 10 ∷ []), Ok tt) ∷  -- 9
    ((l 3 0 0 ∷ l 12 1 0 ∷ l 4 0 0 ∷ r (50 ∷ 50 ∷ []) (49 ∷ 48 ∷ []) (48 ∷ []) 10 ∷ []), Ok tt) ∷  -- 10
    ((l 3 0 0 ∷ l 12 1 0 ∷ l 4 0 0 ∷ r (50 ∷ 50 ∷ []) (45 ∷ 49 ∷ 48 ∷ []) (48 ∷ []) 10 ∷ []), Ok tt) ∷  -- -10
    ((l 3 0 0 ∷ l 12 1 0 ∷ l 4 0 0 ∷ r (50 ∷ 50 ∷ []) (49 ∷ 48 ∷ 48 ∷ 49 ∷ []) (48 ∷ []) 10 ∷ []), Ok tt) ∷  -- 1001
    ((l 3 0 0 ∷ l 12 1 0 ∷ l 4 0 0 ∷ r (50 ∷ 50 ∷ []) (45 ∷ 49 ∷ 48 ∷ 48 ∷ 49 ∷ []) (48 ∷ []) 10 ∷ []), Ok tt) ∷  -- -1001
    ((l 3 0 0 ∷ l 12 1 0 ∷ l 4 0 0 ∷ r (50 ∷ 50 ∷ []) (50 ∷ 49 ∷ 52 ∷ 55 ∷ 52 ∷ 56 ∷ 51 ∷ 54 ∷ 52 ∷ 56 ∷ []) (48 ∷ []) 10 ∷ []), Ok tt) ∷  -- 2147483648
    ((l 3 0 0 ∷ l 12 1 0 ∷ l 4 0 0 ∷ r (50 ∷ 50 ∷ []) (52 ∷ 50 ∷ 57 ∷ 52 ∷ 57 ∷ 54 ∷ 55 ∷ 50 ∷ 57 ∷ 54 ∷ []) (48 ∷ []) 10 ∷ []), Ok tt) ∷  -- 4294967296
    ((l 3 0 0 ∷ l 12 1 0 ∷ l 4 0 0 ∷ r (50 ∷ 50 ∷ []) (57 ∷ 48 ∷ 48 ∷ 55 ∷ 49 ∷ 57 ∷ 57 ∷ 50 ∷ 53 ∷ 52 ∷ 55 ∷ 52 ∷ 48 ∷ 57 ∷ 57 ∷ 51 ∷ []) (48 ∷ []) 10 ∷ []), Ok tt) ∷  -- 9007199254740993
    ((l 3 0 0 ∷ l 12 1 0 ∷ l 4 0 0 ∷ r (50 ∷ 50 ∷ []) (57 ∷ 50 ∷ 50 ∷ 51 ∷ 51 ∷ 55 ∷ 50 ∷ 48 ∷ 51 ∷ 54 ∷ 56 ∷ 53 ∷ 52 ∷ 55 ∷ 55 ∷ 53 ∷ 56 ∷ 48 ∷ 55 ∷ []) (48 ∷ []) 10 ∷ []), Ok tt) ∷  -- 9223372036854775807
    ((l 3 0 0 ∷ l 12 1 0 ∷ l 4 0 0 ∷ r (50 ∷ 50 ∷ []) (57 ∷ 50 ∷ 50 ∷ 51 ∷ 51 ∷ 55 ∷ 50 ∷ 48 ∷ 51 ∷ 54 ∷ 56 ∷ 53 ∷ 52 ∷ 55 ∷ 55 ∷ 53 ∷ 56 ∷ 48 ∷ 56 ∷ []) (48 ∷ []) 10 ∷ []), Err (Misspelt 4)) ∷  -- 9223372036854775808
    ((l 3 0 0 ∷ l 12 1 0 ∷ l 4 0 0 ∷ r (50 ∷ 50 ∷ []) (57 ∷ 50 ∷ 50 ∷ 51 ∷ 51 ∷ 55 ∷ 50 ∷ 48 ∷ 51 ∷ 54 ∷ 56 ∷ 53 ∷ 52 ∷ 55 ∷ 55 ∷ 53 ∷ 56 ∷ 48 ∷ 57 ∷ []) (48 ∷ []) 10 ∷ []), Err (Misspelt 4)) ∷  -- 9223372036854775809
    ((l 3 0 0 ∷ l 12 1 0 ∷ l 4 0 0 ∷ r (50 ∷ 50 ∷ []) (45 ∷ 57 ∷ 50 ∷ 50 ∷ 51 ∷ 51 ∷ 55 ∷ 50 ∷ 48 ∷ 51 ∷ 54 ∷ 56 ∷ 53 ∷ 52 ∷ 55 ∷ 55 ∷ 53 ∷ 56 ∷ 48 ∷ 55 ∷ []) (48 ∷ []) 10 ∷ []), Ok tt) ∷  -- -9223372036854775807
    ((l 3 0 0 ∷ l 12 1 0 ∷ l 4 0 0 ∷ r (50 ∷ 50 ∷ []) (45 ∷ 57 ∷ 50 ∷ 50 ∷ 51 ∷ 51 ∷ 55 ∷ 50 ∷ 48 ∷ 51 ∷ 54 ∷ 56 ∷ 53 ∷ 52 ∷ 55 ∷ 55 ∷ 53 ∷ 56 ∷ 48 ∷ 56 ∷ []) (48 ∷ []) 10 ∷ []), Ok tt) ∷  -- -9223372036854775808
    ((l 3 0 0 ∷ l 12 1 0 ∷ l 4 0 0 ∷ r (50 ∷ 50 ∷ []) (45 ∷ 57 ∷ 50 ∷ 50 ∷ 51 ∷ 51 ∷ 55 ∷ 50 ∷ 48 ∷ 51 ∷ 54 ∷ 56 ∷ 53 ∷ 52 ∷ 55 ∷ 55 ∷ 53 ∷ 56 ∷ 48 ∷ 57 ∷ []) (48 ∷ []) 10 ∷ []), Err (Misspelt 4)) ∷  -- -9223372036854775809
    ((l 3 0 0 ∷ l 12 1 0 ∷ l 4 0 0 ∷ r (50 ∷ 50 ∷ []) (49 ∷ 56 ∷ 52 ∷ 52 ∷ 54 ∷ 55 ∷ 52 ∷ 52 ∷ 48 ∷ 55 ∷ 51 ∷ 55 ∷ 48 ∷ 57 ∷ 53 ∷ 53 ∷ 49 ∷ 54 ∷ 49 ∷ 53 ∷ []) (48 ∷ []) 10 ∷ []), Err (Misspelt 4)) ∷  -- 18446744073709551615
    ((l 3 0 0 ∷ l 12 1 0 ∷ l 4 0 0 ∷ r (50 ∷ 50 ∷ []) (49 ∷ 56 ∷ 52 ∷ 52 ∷ 54 ∷ 55 ∷ 52 ∷ 52 ∷ 48 ∷ 55 ∷ 51 ∷ 55 ∷ 48 ∷ 57 ∷ 53 ∷ 53 ∷ 49 ∷ 54 ∷ 49 ∷ 54 ∷ []) (48 ∷ []) 10 ∷ []), Err (Misspelt 4)) ∷  -- 18446744073709551616
    ((l 3 0 0 ∷ l 12 1 0 ∷ l 4 0 0 ∷ r (50 ∷ 50 ∷ []) (49 ∷ 48 ∷ 48 ∷ 48 ∷ 48 ∷ 48 ∷ 48 ∷ 48 ∷ 48 ∷ 48 ∷ 48 ∷ 48 ∷ 48 ∷ 48 ∷ 48 ∷ 48 ∷ 48 ∷ 48 ∷ 48 ∷ 48 ∷ []) (48 ∷ []) 10 ∷ []), Err (Misspelt 4)) ∷  -- 10000000000000000000
    ((l 3 0 0 ∷ l 12 1 0 ∷ l 4 0 0 ∷ r (50 ∷ 50 ∷ []) (57 ∷ 57 ∷ 57 ∷ 57 ∷ 57 ∷ 57 ∷ 57 ∷ 57 ∷ 57 ∷ 57 ∷ 57 ∷ 57 ∷ 57 ∷ 57 ∷ 57 ∷ 57 ∷ 57 ∷ 57 ∷ 57 ∷ 57 ∷ []) (48 ∷ []) 10 ∷ []), Err (Misspelt 4)) ∷  -- 99999999999999999999
    ((l 3 0 0 ∷ l 12 1 0 ∷ l 4 0 0 ∷ r (50 ∷ 50 ∷ []) (45 ∷ 48 ∷ 49 ∷ []) (48 ∷ []) 10 ∷ []), Err (Misspelt 4)) ∷  -- -01
    ((l 3 0 0 ∷ l 12 1 0 ∷ l 4 0 0 ∷ r (50 ∷ 50 ∷ []) (43 ∷ 48 ∷ []) (48 ∷ []) 10 ∷ []), Err (Misspelt 4)) ∷  -- +0
    ((l 3 0 0 ∷ l 12 1 0 ∷ l 4 0 0 ∷ r (50 ∷ 50 ∷ []) (45 ∷ 32 ∷ 49 ∷ []) (48 ∷ []) 10 ∷ []), Err (Misspelt 4)) ∷  -- - 1
    ((l 3 0 0 ∷ l 12 1 0 ∷ l 4 0 0 ∷ r (50 ∷ 50 ∷ []) (49 ∷ 45 ∷ []) (48 ∷ []) 10 ∷ []), Err (Misspelt 4)) ∷  -- 1-
    ((l 3 0 0 ∷ l 12 1 0 ∷ l 4 0 0 ∷ r (50 ∷ 50 ∷ []) (48 ∷ 48 ∷ 48 ∷ 48 ∷ 48 ∷ 48 ∷ 48 ∷ 48 ∷ 48 ∷ 48 ∷ 48 ∷ 48 ∷ 48 ∷ 48 ∷ 48 ∷ 48 ∷ 48 ∷ 48 ∷ 48 ∷ 49 ∷ []) (48 ∷ []) 10 ∷ []), Err (Misspelt 4)) ∷  -- 00000000000000000001
    ((l 3 0 0 ∷ l 12 1 0 ∷ l 4 0 0 ∷ r (50 ∷ 50 ∷ []) (45 ∷ 57 ∷ 50 ∷ 50 ∷ 51 ∷ 51 ∷ 55 ∷ 50 ∷ 48 ∷ 51 ∷ 54 ∷ 56 ∷ 53 ∷ 52 ∷ 55 ∷ 55 ∷ 53 ∷ 56 ∷ 48 ∷ 56 ∷ []) (48 ∷ []) 10 ∷ []), Ok tt) ∷  -- -9223372036854775808
    ((l 3 0 0 ∷ l 12 1 0 ∷ l 4 0 0 ∷ r (50 ∷ 50 ∷ []) (45 ∷ 48 ∷ 48 ∷ 48 ∷ 48 ∷ 48 ∷ 48 ∷ 48 ∷ 48 ∷ 48 ∷ 48 ∷ 48 ∷ 48 ∷ 48 ∷ 48 ∷ 48 ∷ 48 ∷ 48 ∷ 48 ∷ 49 ∷ []) (48 ∷ []) 10 ∷ []), Err (Misspelt 4)) ∷  -- -0000000000000000001
    ((l 3 0 0 ∷ l 12 1 0 ∷ l 4 0 0 ∷ r (50 ∷ 50 ∷ []) (49 ∷ 95 ∷ 48 ∷ 48 ∷ 48 ∷ []) (48 ∷ []) 10 ∷ []), Err (Misspelt 4)) ∷  -- 1_000
    ((l 3 0 0 ∷ l 12 1 0 ∷ l 4 0 0 ∷ r (50 ∷ 50 ∷ []) (49 ∷ 44 ∷ 48 ∷ 48 ∷ 48 ∷ []) (48 ∷ []) 10 ∷ []), Err (Misspelt 4)) ∷  -- 1,000
    []

pub literals : map (λ q. check (text q.0)) rows_literals ≡ map (λ q. q.1) rows_literals
unfolding l r line_text field_text field_from line_of line_at lines_from lines_of first_misspelt find table row_of begins head_of declared_by arms following read read_at read_sheet check
literals = refl

abbrev rows_minus_signs : List Row
rows_minus_signs =
    ((r (49 ∷ []) (45 ∷ 49 ∷ []) (48 ∷ []) 10 ∷ l 12 1 0 ∷ l 3 0 0 ∷ l 12 1 0 ∷ l 4 0 0 ∷ l 22 7 0 ∷ []), Err (Misspelt 1)) ∷  -- -1 on kind 1
    ((r (49 ∷ []) (45 ∷ 57 ∷ 50 ∷ 50 ∷ 51 ∷ 51 ∷ 55 ∷ 50 ∷ 48 ∷ 51 ∷ 54 ∷ 56 ∷ 53 ∷ 52 ∷ 55 ∷ 55 ∷ 53 ∷ 56 ∷ 48 ∷ 56 ∷ []) (48 ∷ []) 10 ∷ l 12 1 0 ∷ l 3 0 0 ∷ l 12 1 0 ∷ l 4 0 0 ∷ l 22 7 0 ∷ []), Err (Misspelt 1)) ∷  -- -9223372036854775808 on kind 1
    ((r (50 ∷ []) (45 ∷ 49 ∷ []) (48 ∷ []) 10 ∷ l 12 1 0 ∷ l 3 0 0 ∷ l 12 1 0 ∷ l 4 0 0 ∷ l 22 7 0 ∷ []), Err (Misspelt 1)) ∷  -- -1 on kind 2
    ((r (50 ∷ []) (45 ∷ 57 ∷ 50 ∷ 50 ∷ 51 ∷ 51 ∷ 55 ∷ 50 ∷ 48 ∷ 51 ∷ 54 ∷ 56 ∷ 53 ∷ 52 ∷ 55 ∷ 55 ∷ 53 ∷ 56 ∷ 48 ∷ 56 ∷ []) (48 ∷ []) 10 ∷ l 12 1 0 ∷ l 3 0 0 ∷ l 12 1 0 ∷ l 4 0 0 ∷ l 22 7 0 ∷ []), Err (Misspelt 1)) ∷  -- -9223372036854775808 on kind 2
    ((r (51 ∷ []) (45 ∷ 49 ∷ []) (48 ∷ []) 10 ∷ l 12 1 0 ∷ l 4 0 0 ∷ l 22 7 0 ∷ []), Err (Misspelt 1)) ∷  -- -1 on kind 3
    ((r (51 ∷ []) (45 ∷ 57 ∷ 50 ∷ 50 ∷ 51 ∷ 51 ∷ 55 ∷ 50 ∷ 48 ∷ 51 ∷ 54 ∷ 56 ∷ 53 ∷ 52 ∷ 55 ∷ 55 ∷ 53 ∷ 56 ∷ 48 ∷ 56 ∷ []) (48 ∷ []) 10 ∷ l 12 1 0 ∷ l 4 0 0 ∷ l 22 7 0 ∷ []), Err (Misspelt 1)) ∷  -- -9223372036854775808 on kind 3
    ((l 3 0 0 ∷ l 12 1 0 ∷ r (52 ∷ []) (45 ∷ 49 ∷ []) (48 ∷ []) 10 ∷ l 22 7 0 ∷ []), Err (Misspelt 3)) ∷  -- -1 on kind 4
    ((l 3 0 0 ∷ l 12 1 0 ∷ r (52 ∷ []) (45 ∷ 57 ∷ 50 ∷ 50 ∷ 51 ∷ 51 ∷ 55 ∷ 50 ∷ 48 ∷ 51 ∷ 54 ∷ 56 ∷ 53 ∷ 52 ∷ 55 ∷ 55 ∷ 53 ∷ 56 ∷ 48 ∷ 56 ∷ []) (48 ∷ []) 10 ∷ l 22 7 0 ∷ []), Err (Misspelt 3)) ∷  -- -9223372036854775808 on kind 4
    ((l 3 0 0 ∷ r (49 ∷ 49 ∷ []) (45 ∷ 49 ∷ []) (48 ∷ []) 10 ∷ l 4 0 0 ∷ l 22 7 0 ∷ []), Err (Misspelt 2)) ∷  -- -1 on kind 11
    ((l 3 0 0 ∷ r (49 ∷ 49 ∷ []) (45 ∷ 57 ∷ 50 ∷ 50 ∷ 51 ∷ 51 ∷ 55 ∷ 50 ∷ 48 ∷ 51 ∷ 54 ∷ 56 ∷ 53 ∷ 52 ∷ 55 ∷ 55 ∷ 53 ∷ 56 ∷ 48 ∷ 56 ∷ []) (48 ∷ []) 10 ∷ l 4 0 0 ∷ l 22 7 0 ∷ []), Err (Misspelt 2)) ∷  -- -9223372036854775808 on kind 11
    ((l 3 0 0 ∷ r (49 ∷ 50 ∷ []) (45 ∷ 49 ∷ []) (48 ∷ []) 10 ∷ l 4 0 0 ∷ l 22 7 0 ∷ []), Err (Misspelt 2)) ∷  -- -1 on kind 12
    ((l 3 0 0 ∷ r (49 ∷ 50 ∷ []) (45 ∷ 57 ∷ 50 ∷ 50 ∷ 51 ∷ 51 ∷ 55 ∷ 50 ∷ 48 ∷ 51 ∷ 54 ∷ 56 ∷ 53 ∷ 52 ∷ 55 ∷ 55 ∷ 53 ∷ 56 ∷ 48 ∷ 56 ∷ []) (48 ∷ []) 10 ∷ l 4 0 0 ∷ l 22 7 0 ∷ []), Err (Misspelt 2)) ∷  -- -9223372036854775808 on kind 12
    ((l 3 0 0 ∷ r (49 ∷ 51 ∷ []) (45 ∷ 49 ∷ []) (48 ∷ []) 10 ∷ l 12 1 0 ∷ l 12 1 0 ∷ l 4 0 0 ∷ l 22 7 0 ∷ []), Err (Misspelt 2)) ∷  -- -1 on kind 13
    ((l 3 0 0 ∷ r (49 ∷ 51 ∷ []) (45 ∷ 57 ∷ 50 ∷ 50 ∷ 51 ∷ 51 ∷ 55 ∷ 50 ∷ 48 ∷ 51 ∷ 54 ∷ 56 ∷ 53 ∷ 52 ∷ 55 ∷ 55 ∷ 53 ∷ 56 ∷ 48 ∷ 56 ∷ []) (48 ∷ []) 10 ∷ l 12 1 0 ∷ l 12 1 0 ∷ l 4 0 0 ∷ l 22 7 0 ∷ []), Err (Misspelt 2)) ∷  -- -9223372036854775808 on kind 13
    ((l 3 0 0 ∷ r (49 ∷ 52 ∷ []) (45 ∷ 49 ∷ []) (48 ∷ []) 10 ∷ l 12 1 0 ∷ l 4 0 0 ∷ l 22 7 0 ∷ []), Err (Misspelt 2)) ∷  -- -1 on kind 14
    ((l 3 0 0 ∷ r (49 ∷ 52 ∷ []) (45 ∷ 57 ∷ 50 ∷ 50 ∷ 51 ∷ 51 ∷ 55 ∷ 50 ∷ 48 ∷ 51 ∷ 54 ∷ 56 ∷ 53 ∷ 52 ∷ 55 ∷ 55 ∷ 53 ∷ 56 ∷ 48 ∷ 56 ∷ []) (48 ∷ []) 10 ∷ l 12 1 0 ∷ l 4 0 0 ∷ l 22 7 0 ∷ []), Err (Misspelt 2)) ∷  -- -9223372036854775808 on kind 14
    ((l 3 0 0 ∷ r (49 ∷ 53 ∷ []) (45 ∷ 49 ∷ []) (48 ∷ []) 10 ∷ l 12 1 0 ∷ l 12 1 0 ∷ l 4 0 0 ∷ l 22 7 0 ∷ []), Err (Misspelt 2)) ∷  -- -1 on kind 15
    ((l 3 0 0 ∷ r (49 ∷ 53 ∷ []) (45 ∷ 57 ∷ 50 ∷ 50 ∷ 51 ∷ 51 ∷ 55 ∷ 50 ∷ 48 ∷ 51 ∷ 54 ∷ 56 ∷ 53 ∷ 52 ∷ 55 ∷ 55 ∷ 53 ∷ 56 ∷ 48 ∷ 56 ∷ []) (48 ∷ []) 10 ∷ l 12 1 0 ∷ l 12 1 0 ∷ l 4 0 0 ∷ l 22 7 0 ∷ []), Err (Misspelt 2)) ∷  -- -9223372036854775808 on kind 15
    ((l 3 0 0 ∷ r (49 ∷ 54 ∷ []) (45 ∷ 49 ∷ []) (49 ∷ []) 10 ∷ l 12 1 0 ∷ l 4 0 0 ∷ l 22 7 0 ∷ []), Err (Misspelt 2)) ∷  -- -1 on kind 16
    ((l 3 0 0 ∷ r (49 ∷ 54 ∷ []) (45 ∷ 57 ∷ 50 ∷ 50 ∷ 51 ∷ 51 ∷ 55 ∷ 50 ∷ 48 ∷ 51 ∷ 54 ∷ 56 ∷ 53 ∷ 52 ∷ 55 ∷ 55 ∷ 53 ∷ 56 ∷ 48 ∷ 56 ∷ []) (49 ∷ []) 10 ∷ l 12 1 0 ∷ l 4 0 0 ∷ l 22 7 0 ∷ []), Err (Misspelt 2)) ∷  -- -9223372036854775808 on kind 16
    ((l 3 0 0 ∷ l 12 1 0 ∷ l 4 0 0 ∷ r (50 ∷ 49 ∷ []) (45 ∷ 49 ∷ []) (48 ∷ []) 10 ∷ []), Err (Misspelt 4)) ∷  -- -1 on kind 21
    ((l 3 0 0 ∷ l 12 1 0 ∷ l 4 0 0 ∷ r (50 ∷ 49 ∷ []) (45 ∷ 57 ∷ 50 ∷ 50 ∷ 51 ∷ 51 ∷ 55 ∷ 50 ∷ 48 ∷ 51 ∷ 54 ∷ 56 ∷ 53 ∷ 52 ∷ 55 ∷ 55 ∷ 53 ∷ 56 ∷ 48 ∷ 56 ∷ []) (48 ∷ []) 10 ∷ []), Err (Misspelt 4)) ∷  -- -9223372036854775808 on kind 21
    ((l 3 0 0 ∷ l 12 1 0 ∷ l 4 0 0 ∷ r (50 ∷ 50 ∷ []) (45 ∷ 49 ∷ []) (48 ∷ []) 10 ∷ []), Ok tt) ∷  -- -1 on kind 22
    ((l 3 0 0 ∷ l 12 1 0 ∷ l 4 0 0 ∷ r (50 ∷ 50 ∷ []) (45 ∷ 57 ∷ 50 ∷ 50 ∷ 51 ∷ 51 ∷ 55 ∷ 50 ∷ 48 ∷ 51 ∷ 54 ∷ 56 ∷ 53 ∷ 52 ∷ 55 ∷ 55 ∷ 53 ∷ 56 ∷ 48 ∷ 56 ∷ []) (48 ∷ []) 10 ∷ []), Ok tt) ∷  -- -9223372036854775808 on kind 22
    ((l 3 0 0 ∷ l 12 1 0 ∷ l 4 0 0 ∷ r (50 ∷ 51 ∷ []) (45 ∷ 49 ∷ []) (48 ∷ []) 10 ∷ l 12 1 0 ∷ l 22 7 0 ∷ []), Err (Misspelt 4)) ∷  -- -1 on kind 23
    ((l 3 0 0 ∷ l 12 1 0 ∷ l 4 0 0 ∷ r (50 ∷ 51 ∷ []) (45 ∷ 57 ∷ 50 ∷ 50 ∷ 51 ∷ 51 ∷ 55 ∷ 50 ∷ 48 ∷ 51 ∷ 54 ∷ 56 ∷ 53 ∷ 52 ∷ 55 ∷ 55 ∷ 53 ∷ 56 ∷ 48 ∷ 56 ∷ []) (48 ∷ []) 10 ∷ l 12 1 0 ∷ l 22 7 0 ∷ []), Err (Misspelt 4)) ∷  -- -9223372036854775808 on kind 23
    ((l 3 0 0 ∷ l 12 1 0 ∷ l 4 0 0 ∷ r (50 ∷ 52 ∷ []) (45 ∷ 49 ∷ []) (48 ∷ []) 10 ∷ l 22 7 0 ∷ l 22 7 0 ∷ []), Err (Misspelt 4)) ∷  -- -1 on kind 24
    ((l 3 0 0 ∷ l 12 1 0 ∷ l 4 0 0 ∷ r (50 ∷ 52 ∷ []) (45 ∷ 57 ∷ 50 ∷ 50 ∷ 51 ∷ 51 ∷ 55 ∷ 50 ∷ 48 ∷ 51 ∷ 54 ∷ 56 ∷ 53 ∷ 52 ∷ 55 ∷ 55 ∷ 53 ∷ 56 ∷ 48 ∷ 56 ∷ []) (48 ∷ []) 10 ∷ l 22 7 0 ∷ l 22 7 0 ∷ []), Err (Misspelt 4)) ∷  -- -9223372036854775808 on kind 24
    ((l 3 0 0 ∷ l 12 1 0 ∷ l 4 0 0 ∷ r (50 ∷ 53 ∷ []) (45 ∷ 49 ∷ []) (48 ∷ []) 10 ∷ l 22 7 0 ∷ []), Err (Misspelt 4)) ∷  -- -1 on kind 25
    ((l 3 0 0 ∷ l 12 1 0 ∷ l 4 0 0 ∷ r (50 ∷ 53 ∷ []) (45 ∷ 57 ∷ 50 ∷ 50 ∷ 51 ∷ 51 ∷ 55 ∷ 50 ∷ 48 ∷ 51 ∷ 54 ∷ 56 ∷ 53 ∷ 52 ∷ 55 ∷ 55 ∷ 53 ∷ 56 ∷ 48 ∷ 56 ∷ []) (48 ∷ []) 10 ∷ l 22 7 0 ∷ []), Err (Misspelt 4)) ∷  -- -9223372036854775808 on kind 25
    ((l 3 0 0 ∷ l 12 1 0 ∷ l 4 0 0 ∷ r (50 ∷ 54 ∷ []) (45 ∷ 49 ∷ []) (49 ∷ []) 10 ∷ l 22 7 0 ∷ []), Err (Misspelt 4)) ∷  -- -1 on kind 26
    ((l 3 0 0 ∷ l 12 1 0 ∷ l 4 0 0 ∷ r (50 ∷ 54 ∷ []) (45 ∷ 57 ∷ 50 ∷ 50 ∷ 51 ∷ 51 ∷ 55 ∷ 50 ∷ 48 ∷ 51 ∷ 54 ∷ 56 ∷ 53 ∷ 52 ∷ 55 ∷ 55 ∷ 53 ∷ 56 ∷ 48 ∷ 56 ∷ []) (49 ∷ []) 10 ∷ l 22 7 0 ∷ []), Err (Misspelt 4)) ∷  -- -9223372036854775808 on kind 26
    ((l 3 0 0 ∷ l 12 1 0 ∷ l 4 0 0 ∷ r (50 ∷ 55 ∷ []) (45 ∷ 49 ∷ []) (49 ∷ []) 10 ∷ l 22 7 0 ∷ l 41 0 0 ∷ l 22 7 0 ∷ []), Err (Misspelt 4)) ∷  -- -1 on kind 27
    ((l 3 0 0 ∷ l 12 1 0 ∷ l 4 0 0 ∷ r (50 ∷ 55 ∷ []) (45 ∷ 57 ∷ 50 ∷ 50 ∷ 51 ∷ 51 ∷ 55 ∷ 50 ∷ 48 ∷ 51 ∷ 54 ∷ 56 ∷ 53 ∷ 52 ∷ 55 ∷ 55 ∷ 53 ∷ 56 ∷ 48 ∷ 56 ∷ []) (49 ∷ []) 10 ∷ l 22 7 0 ∷ l 41 0 0 ∷ l 22 7 0 ∷ []), Err (Misspelt 4)) ∷  -- -9223372036854775808 on kind 27
    ((l 3 0 0 ∷ l 12 1 0 ∷ l 4 0 0 ∷ r (50 ∷ 56 ∷ []) (45 ∷ 49 ∷ []) (48 ∷ []) 10 ∷ l 22 7 0 ∷ l 22 7 0 ∷ []), Err (Misspelt 4)) ∷  -- -1 on kind 28
    ((l 3 0 0 ∷ l 12 1 0 ∷ l 4 0 0 ∷ r (50 ∷ 56 ∷ []) (45 ∷ 57 ∷ 50 ∷ 50 ∷ 51 ∷ 51 ∷ 55 ∷ 50 ∷ 48 ∷ 51 ∷ 54 ∷ 56 ∷ 53 ∷ 52 ∷ 55 ∷ 55 ∷ 53 ∷ 56 ∷ 48 ∷ 56 ∷ []) (48 ∷ []) 10 ∷ l 22 7 0 ∷ l 22 7 0 ∷ []), Err (Misspelt 4)) ∷  -- -9223372036854775808 on kind 28
    ((l 3 0 0 ∷ l 12 1 0 ∷ l 4 0 0 ∷ r (50 ∷ 57 ∷ []) (45 ∷ 49 ∷ []) (48 ∷ []) 10 ∷ l 22 7 0 ∷ l 22 7 0 ∷ l 22 7 0 ∷ []), Err (Misspelt 4)) ∷  -- -1 on kind 29
    ((l 3 0 0 ∷ l 12 1 0 ∷ l 4 0 0 ∷ r (50 ∷ 57 ∷ []) (45 ∷ 57 ∷ 50 ∷ 50 ∷ 51 ∷ 51 ∷ 55 ∷ 50 ∷ 48 ∷ 51 ∷ 54 ∷ 56 ∷ 53 ∷ 52 ∷ 55 ∷ 55 ∷ 53 ∷ 56 ∷ 48 ∷ 56 ∷ []) (48 ∷ []) 10 ∷ l 22 7 0 ∷ l 22 7 0 ∷ l 22 7 0 ∷ []), Err (Misspelt 4)) ∷  -- -9223372036854775808 on kind 29
    ((l 3 0 0 ∷ l 12 1 0 ∷ l 4 0 0 ∷ r (51 ∷ 48 ∷ []) (45 ∷ 49 ∷ []) (49 ∷ []) 10 ∷ l 22 7 0 ∷ []), Err (Misspelt 4)) ∷  -- -1 on kind 30
    ((l 3 0 0 ∷ l 12 1 0 ∷ l 4 0 0 ∷ r (51 ∷ 48 ∷ []) (45 ∷ 57 ∷ 50 ∷ 50 ∷ 51 ∷ 51 ∷ 55 ∷ 50 ∷ 48 ∷ 51 ∷ 54 ∷ 56 ∷ 53 ∷ 52 ∷ 55 ∷ 55 ∷ 53 ∷ 56 ∷ 48 ∷ 56 ∷ []) (49 ∷ []) 10 ∷ l 22 7 0 ∷ []), Err (Misspelt 4)) ∷  -- -9223372036854775808 on kind 30
    ((l 3 0 0 ∷ l 12 1 0 ∷ l 4 0 0 ∷ l 27 0 1 ∷ l 22 7 0 ∷ r (52 ∷ 49 ∷ []) (45 ∷ 49 ∷ []) (48 ∷ []) 10 ∷ l 22 7 0 ∷ []), Err (Misspelt 6)) ∷  -- -1 on kind 41
    ((l 3 0 0 ∷ l 12 1 0 ∷ l 4 0 0 ∷ l 27 0 1 ∷ l 22 7 0 ∷ r (52 ∷ 49 ∷ []) (45 ∷ 57 ∷ 50 ∷ 50 ∷ 51 ∷ 51 ∷ 55 ∷ 50 ∷ 48 ∷ 51 ∷ 54 ∷ 56 ∷ 53 ∷ 52 ∷ 55 ∷ 55 ∷ 53 ∷ 56 ∷ 48 ∷ 56 ∷ []) (48 ∷ []) 10 ∷ l 22 7 0 ∷ []), Err (Misspelt 6)) ∷  -- -9223372036854775808 on kind 41
    ((l 3 0 0 ∷ l 12 1 0 ∷ l 4 0 0 ∷ l 27 0 1 ∷ l 22 7 0 ∷ r (52 ∷ 50 ∷ []) (45 ∷ 49 ∷ []) (48 ∷ []) 10 ∷ l 22 7 0 ∷ []), Err (Misspelt 6)) ∷  -- -1 on kind 42
    ((l 3 0 0 ∷ l 12 1 0 ∷ l 4 0 0 ∷ l 27 0 1 ∷ l 22 7 0 ∷ r (52 ∷ 50 ∷ []) (45 ∷ 57 ∷ 50 ∷ 50 ∷ 51 ∷ 51 ∷ 55 ∷ 50 ∷ 48 ∷ 51 ∷ 54 ∷ 56 ∷ 53 ∷ 52 ∷ 55 ∷ 55 ∷ 53 ∷ 56 ∷ 48 ∷ 56 ∷ []) (48 ∷ []) 10 ∷ l 22 7 0 ∷ []), Err (Misspelt 6)) ∷  -- -9223372036854775808 on kind 42
    ((l 3 0 0 ∷ l 12 1 0 ∷ l 4 0 0 ∷ l 27 0 1 ∷ l 22 7 0 ∷ r (52 ∷ 51 ∷ []) (45 ∷ 49 ∷ []) (49 ∷ []) 10 ∷ l 41 0 0 ∷ l 22 7 0 ∷ []), Err (Misspelt 6)) ∷  -- -1 on kind 43
    ((l 3 0 0 ∷ l 12 1 0 ∷ l 4 0 0 ∷ l 27 0 1 ∷ l 22 7 0 ∷ r (52 ∷ 51 ∷ []) (45 ∷ 57 ∷ 50 ∷ 50 ∷ 51 ∷ 51 ∷ 55 ∷ 50 ∷ 48 ∷ 51 ∷ 54 ∷ 56 ∷ 53 ∷ 52 ∷ 55 ∷ 55 ∷ 53 ∷ 56 ∷ 48 ∷ 56 ∷ []) (49 ∷ []) 10 ∷ l 41 0 0 ∷ l 22 7 0 ∷ []), Err (Misspelt 6)) ∷  -- -9223372036854775808 on kind 43
    ((l 3 0 0 ∷ l 12 1 0 ∷ l 4 0 0 ∷ r (48 ∷ []) (45 ∷ 49 ∷ []) (48 ∷ []) 10 ∷ []), Err (Misspelt 4)) ∷  -- -1 on kind 0
    ((l 3 0 0 ∷ l 12 1 0 ∷ l 4 0 0 ∷ r (49 ∷ 55 ∷ []) (45 ∷ 49 ∷ []) (48 ∷ []) 10 ∷ []), Err (Misspelt 4)) ∷  -- -1 on kind 17
    ((l 3 0 0 ∷ l 12 1 0 ∷ l 4 0 0 ∷ r (49 ∷ 56 ∷ []) (45 ∷ 49 ∷ []) (48 ∷ []) 10 ∷ []), Err (Misspelt 4)) ∷  -- -1 on kind 18
    ((l 3 0 0 ∷ l 12 1 0 ∷ l 4 0 0 ∷ r (49 ∷ 57 ∷ []) (45 ∷ 49 ∷ []) (48 ∷ []) 10 ∷ []), Err (Misspelt 4)) ∷  -- -1 on kind 19
    ((l 3 0 0 ∷ l 12 1 0 ∷ l 4 0 0 ∷ r (50 ∷ 48 ∷ []) (45 ∷ 49 ∷ []) (48 ∷ []) 10 ∷ []), Err (Misspelt 4)) ∷  -- -1 on kind 20
    ((l 3 0 0 ∷ l 12 1 0 ∷ l 4 0 0 ∷ r (51 ∷ 49 ∷ []) (45 ∷ 49 ∷ []) (48 ∷ []) 10 ∷ []), Err (Misspelt 4)) ∷  -- -1 on kind 31
    ((l 3 0 0 ∷ l 12 1 0 ∷ l 4 0 0 ∷ r (52 ∷ 48 ∷ []) (45 ∷ 49 ∷ []) (48 ∷ []) 10 ∷ []), Err (Misspelt 4)) ∷  -- -1 on kind 40
    ((l 3 0 0 ∷ l 12 1 0 ∷ l 4 0 0 ∷ r (52 ∷ 52 ∷ []) (45 ∷ 49 ∷ []) (48 ∷ []) 10 ∷ []), Err (Misspelt 4)) ∷  -- -1 on kind 44
    ((l 3 0 0 ∷ l 12 1 0 ∷ l 4 0 0 ∷ r (57 ∷ 57 ∷ 57 ∷ []) (45 ∷ 49 ∷ []) (48 ∷ []) 10 ∷ []), Err (Misspelt 4)) ∷  -- -1 on kind 999
    ((r (49 ∷ []) (57 ∷ 50 ∷ 50 ∷ 51 ∷ 51 ∷ 55 ∷ 50 ∷ 48 ∷ 51 ∷ 54 ∷ 56 ∷ 53 ∷ 52 ∷ 55 ∷ 55 ∷ 53 ∷ 56 ∷ 48 ∷ 56 ∷ []) (48 ∷ []) 10 ∷ l 12 1 0 ∷ l 3 0 0 ∷ l 12 1 0 ∷ l 4 0 0 ∷ l 22 7 0 ∷ []), Err (Misspelt 1)) ∷  -- 9223372036854775808 on kind 1
    ((r (50 ∷ []) (57 ∷ 50 ∷ 50 ∷ 51 ∷ 51 ∷ 55 ∷ 50 ∷ 48 ∷ 51 ∷ 54 ∷ 56 ∷ 53 ∷ 52 ∷ 55 ∷ 55 ∷ 53 ∷ 56 ∷ 48 ∷ 56 ∷ []) (48 ∷ []) 10 ∷ l 12 1 0 ∷ l 3 0 0 ∷ l 12 1 0 ∷ l 4 0 0 ∷ l 22 7 0 ∷ []), Err (Misspelt 1)) ∷  -- 9223372036854775808 on kind 2
    ((l 3 0 0 ∷ r (49 ∷ 49 ∷ []) (57 ∷ 50 ∷ 50 ∷ 51 ∷ 51 ∷ 55 ∷ 50 ∷ 48 ∷ 51 ∷ 54 ∷ 56 ∷ 53 ∷ 52 ∷ 55 ∷ 55 ∷ 53 ∷ 56 ∷ 48 ∷ 56 ∷ []) (48 ∷ []) 10 ∷ l 4 0 0 ∷ l 22 7 0 ∷ []), Err (Misspelt 2)) ∷  -- 9223372036854775808 on kind 11
    ((l 3 0 0 ∷ r (49 ∷ 50 ∷ []) (57 ∷ 50 ∷ 50 ∷ 51 ∷ 51 ∷ 55 ∷ 50 ∷ 48 ∷ 51 ∷ 54 ∷ 56 ∷ 53 ∷ 52 ∷ 55 ∷ 55 ∷ 53 ∷ 56 ∷ 48 ∷ 56 ∷ []) (48 ∷ []) 10 ∷ l 4 0 0 ∷ l 22 7 0 ∷ []), Err (Misspelt 2)) ∷  -- 9223372036854775808 on kind 12
    ((l 3 0 0 ∷ l 12 1 0 ∷ l 4 0 0 ∷ r (50 ∷ 49 ∷ []) (57 ∷ 50 ∷ 50 ∷ 51 ∷ 51 ∷ 55 ∷ 50 ∷ 48 ∷ 51 ∷ 54 ∷ 56 ∷ 53 ∷ 52 ∷ 55 ∷ 55 ∷ 53 ∷ 56 ∷ 48 ∷ 56 ∷ []) (48 ∷ []) 10 ∷ []), Err (Misspelt 4)) ∷  -- 9223372036854775808 on kind 21
    ((l 3 0 0 ∷ l 12 1 0 ∷ l 4 0 0 ∷ r (50 ∷ 51 ∷ []) (57 ∷ 50 ∷ 50 ∷ 51 ∷ 51 ∷ 55 ∷ 50 ∷ 48 ∷ 51 ∷ 54 ∷ 56 ∷ 53 ∷ 52 ∷ 55 ∷ 55 ∷ 53 ∷ 56 ∷ 48 ∷ 56 ∷ []) (48 ∷ []) 10 ∷ l 12 1 0 ∷ l 22 7 0 ∷ []), Err (Misspelt 4)) ∷  -- 9223372036854775808 on kind 23
    ((l 3 0 0 ∷ l 12 1 0 ∷ l 4 0 0 ∷ r (50 ∷ 54 ∷ []) (57 ∷ 50 ∷ 50 ∷ 51 ∷ 51 ∷ 55 ∷ 50 ∷ 48 ∷ 51 ∷ 54 ∷ 56 ∷ 53 ∷ 52 ∷ 55 ∷ 55 ∷ 53 ∷ 56 ∷ 48 ∷ 56 ∷ []) (49 ∷ []) 10 ∷ l 22 7 0 ∷ []), Err (Misspelt 4)) ∷  -- 9223372036854775808 on kind 26
    ((l 3 0 0 ∷ l 12 1 0 ∷ l 4 0 0 ∷ l 27 0 1 ∷ l 22 7 0 ∷ r (52 ∷ 50 ∷ []) (57 ∷ 50 ∷ 50 ∷ 51 ∷ 51 ∷ 55 ∷ 50 ∷ 48 ∷ 51 ∷ 54 ∷ 56 ∷ 53 ∷ 52 ∷ 55 ∷ 55 ∷ 53 ∷ 56 ∷ 48 ∷ 56 ∷ []) (48 ∷ []) 10 ∷ l 22 7 0 ∷ []), Err (Misspelt 6)) ∷  -- 9223372036854775808 on kind 42
    []

pub minus-signs : map (λ q. check (text q.0)) rows_minus_signs ≡ map (λ q. q.1) rows_minus_signs
unfolding l r line_text field_text field_from line_of line_at lines_from lines_of first_misspelt find table row_of begins head_of declared_by arms following read read_at read_sheet check
minus-signs = refl

abbrev rows_values : List LinesRow
rows_values =
    ((t 3 0 0 ∷ t 12 1 0 ∷ t 4 0 0 ∷ t 28 0 0 ∷ t 22 7 0 ∷ t 22 7 0 ∷ []), Err (Unfit 4)) ∷  -- operator 0
    ((t 3 0 0 ∷ t 12 1 0 ∷ t 4 0 0 ∷ t 28 1 0 ∷ t 22 7 0 ∷ t 22 7 0 ∷ []), Ok tt) ∷  -- operator 1
    ((t 3 0 0 ∷ t 12 1 0 ∷ t 4 0 0 ∷ t 28 2 0 ∷ t 22 7 0 ∷ t 22 7 0 ∷ []), Ok tt) ∷  -- operator 2
    ((t 3 0 0 ∷ t 12 1 0 ∷ t 4 0 0 ∷ t 28 3 0 ∷ t 22 7 0 ∷ t 22 7 0 ∷ []), Ok tt) ∷  -- operator 3
    ((t 3 0 0 ∷ t 12 1 0 ∷ t 4 0 0 ∷ t 28 4 0 ∷ t 22 7 0 ∷ t 22 7 0 ∷ []), Ok tt) ∷  -- operator 4
    ((t 3 0 0 ∷ t 12 1 0 ∷ t 4 0 0 ∷ t 28 5 0 ∷ t 22 7 0 ∷ t 22 7 0 ∷ []), Ok tt) ∷  -- operator 5
    ((t 3 0 0 ∷ t 12 1 0 ∷ t 4 0 0 ∷ t 28 6 0 ∷ t 22 7 0 ∷ t 22 7 0 ∷ []), Ok tt) ∷  -- operator 6
    ((t 3 0 0 ∷ t 12 1 0 ∷ t 4 0 0 ∷ t 28 7 0 ∷ t 22 7 0 ∷ t 22 7 0 ∷ []), Err (Unfit 4)) ∷  -- operator 7
    ((t 3 0 0 ∷ t 12 1 0 ∷ t 4 0 0 ∷ t 28 8 0 ∷ t 22 7 0 ∷ t 22 7 0 ∷ []), Err (Unfit 4)) ∷  -- operator 8
    ((t 3 0 0 ∷ t 12 1 0 ∷ t 4 0 0 ∷ t 28 10000 0 ∷ t 22 7 0 ∷ t 22 7 0 ∷ []), Err (Unfit 4)) ∷  -- operator 10000
    ((t 3 1 0 ∷ t 12 1 0 ∷ t 4 0 0 ∷ t 22 7 0 ∷ []), Err (Unfit 1)) ∷  -- kind 3, value 1
    ((t 3 9223372036854775807 0 ∷ t 12 1 0 ∷ t 4 0 0 ∷ t 22 7 0 ∷ []), Err (Unfit 1)) ∷  -- kind 3, value 9223372036854775807
    ((t 3 0 0 ∷ t 12 1 0 ∷ t 4 1 0 ∷ t 22 7 0 ∷ []), Err (Unfit 3)) ∷  -- kind 4, value 1
    ((t 3 0 0 ∷ t 12 1 0 ∷ t 4 9223372036854775807 0 ∷ t 22 7 0 ∷ []), Err (Unfit 3)) ∷  -- kind 4, value 9223372036854775807
    ((t 3 0 0 ∷ t 13 1 0 ∷ t 12 1 0 ∷ t 12 1 0 ∷ t 4 0 0 ∷ t 22 7 0 ∷ []), Err (Unfit 2)) ∷  -- kind 13, value 1
    ((t 3 0 0 ∷ t 13 9223372036854775807 0 ∷ t 12 1 0 ∷ t 12 1 0 ∷ t 4 0 0 ∷ t 22 7 0 ∷ []), Err (Unfit 2)) ∷  -- kind 13, value 9223372036854775807
    ((t 3 0 0 ∷ t 15 1 0 ∷ t 12 1 0 ∷ t 12 1 0 ∷ t 4 0 0 ∷ t 22 7 0 ∷ []), Err (Unfit 2)) ∷  -- kind 15, value 1
    ((t 3 0 0 ∷ t 15 9223372036854775807 0 ∷ t 12 1 0 ∷ t 12 1 0 ∷ t 4 0 0 ∷ t 22 7 0 ∷ []), Err (Unfit 2)) ∷  -- kind 15, value 9223372036854775807
    ((t 3 0 0 ∷ t 16 1 1 ∷ t 12 1 0 ∷ t 4 0 0 ∷ t 22 7 0 ∷ []), Err (Unfit 2)) ∷  -- kind 16, value 1
    ((t 3 0 0 ∷ t 16 9223372036854775807 1 ∷ t 12 1 0 ∷ t 4 0 0 ∷ t 22 7 0 ∷ []), Err (Unfit 2)) ∷  -- kind 16, value 9223372036854775807
    ((t 3 0 0 ∷ t 12 1 0 ∷ t 4 0 0 ∷ t 24 1 0 ∷ t 22 7 0 ∷ t 22 7 0 ∷ []), Err (Unfit 4)) ∷  -- kind 24, value 1
    ((t 3 0 0 ∷ t 12 1 0 ∷ t 4 0 0 ∷ t 24 9223372036854775807 0 ∷ t 22 7 0 ∷ t 22 7 0 ∷ []), Err (Unfit 4)) ∷  -- kind 24, value 9223372036854775807
    ((t 3 0 0 ∷ t 12 1 0 ∷ t 4 0 0 ∷ t 27 1 1 ∷ t 22 7 0 ∷ t 41 0 0 ∷ t 22 7 0 ∷ []), Err (Unfit 4)) ∷  -- kind 27, value 1
    ((t 3 0 0 ∷ t 12 1 0 ∷ t 4 0 0 ∷ t 27 9223372036854775807 1 ∷ t 22 7 0 ∷ t 41 0 0 ∷ t 22 7 0 ∷ []), Err (Unfit 4)) ∷  -- kind 27, value 9223372036854775807
    ((t 3 0 0 ∷ t 12 1 0 ∷ t 4 0 0 ∷ t 29 1 0 ∷ t 22 7 0 ∷ t 22 7 0 ∷ t 22 7 0 ∷ []), Err (Unfit 4)) ∷  -- kind 29, value 1
    ((t 3 0 0 ∷ t 12 1 0 ∷ t 4 0 0 ∷ t 29 9223372036854775807 0 ∷ t 22 7 0 ∷ t 22 7 0 ∷ t 22 7 0 ∷ []), Err (Unfit 4)) ∷  -- kind 29, value 9223372036854775807
    ((t 3 0 0 ∷ t 12 1 0 ∷ t 4 0 0 ∷ t 27 0 1 ∷ t 22 7 0 ∷ t 41 1 0 ∷ t 22 7 0 ∷ []), Err (Unfit 6)) ∷  -- kind 41, value 1
    ((t 3 0 0 ∷ t 12 1 0 ∷ t 4 0 0 ∷ t 27 0 1 ∷ t 22 7 0 ∷ t 41 9223372036854775807 0 ∷ t 22 7 0 ∷ []), Err (Unfit 6)) ∷  -- kind 41, value 9223372036854775807
    []

pub values : map (λ q. check_lines q.0) rows_values ≡ map (λ q. q.1) rows_values
unfolding check_lines find table row_of begins head_of declared_by arms following read
values = refl

abbrev rows_no_counts : List LinesRow
rows_no_counts =
    ((t 1 10 0 ∷ t 12 1 0 ∷ t 3 0 0 ∷ t 12 1 0 ∷ t 4 0 0 ∷ t 22 7 0 ∷ []), Ok tt) ∷  -- kind 1, count 0
    ((t 1 10 1 ∷ t 12 1 0 ∷ t 3 0 0 ∷ t 12 1 0 ∷ t 4 0 0 ∷ t 22 7 0 ∷ []), Err (Unfit 1)) ∷  -- kind 1, count 1
    ((t 1 10 99 ∷ t 12 1 0 ∷ t 3 0 0 ∷ t 12 1 0 ∷ t 4 0 0 ∷ t 22 7 0 ∷ []), Err (Unfit 1)) ∷  -- kind 1, count 99
    ((t 2 10 0 ∷ t 12 1 0 ∷ t 3 0 0 ∷ t 12 1 0 ∷ t 4 0 0 ∷ t 22 7 0 ∷ []), Ok tt) ∷  -- kind 2, count 0
    ((t 2 10 1 ∷ t 12 1 0 ∷ t 3 0 0 ∷ t 12 1 0 ∷ t 4 0 0 ∷ t 22 7 0 ∷ []), Err (Unfit 1)) ∷  -- kind 2, count 1
    ((t 2 10 99 ∷ t 12 1 0 ∷ t 3 0 0 ∷ t 12 1 0 ∷ t 4 0 0 ∷ t 22 7 0 ∷ []), Err (Unfit 1)) ∷  -- kind 2, count 99
    ((t 3 0 0 ∷ t 12 1 0 ∷ t 4 0 0 ∷ t 22 7 0 ∷ []), Ok tt) ∷  -- kind 3, count 0
    ((t 3 0 1 ∷ t 12 1 0 ∷ t 4 0 0 ∷ t 22 7 0 ∷ []), Err (Unfit 1)) ∷  -- kind 3, count 1
    ((t 3 0 99 ∷ t 12 1 0 ∷ t 4 0 0 ∷ t 22 7 0 ∷ []), Err (Unfit 1)) ∷  -- kind 3, count 99
    ((t 3 0 0 ∷ t 12 1 0 ∷ t 4 0 0 ∷ t 22 7 0 ∷ []), Ok tt) ∷  -- kind 4, count 0
    ((t 3 0 0 ∷ t 12 1 0 ∷ t 4 0 1 ∷ t 22 7 0 ∷ []), Err (Unfit 3)) ∷  -- kind 4, count 1
    ((t 3 0 0 ∷ t 12 1 0 ∷ t 4 0 99 ∷ t 22 7 0 ∷ []), Err (Unfit 3)) ∷  -- kind 4, count 99
    ((t 3 0 0 ∷ t 11 10 0 ∷ t 4 0 0 ∷ t 22 7 0 ∷ []), Ok tt) ∷  -- kind 11, count 0
    ((t 3 0 0 ∷ t 11 10 1 ∷ t 4 0 0 ∷ t 22 7 0 ∷ []), Err (Unfit 2)) ∷  -- kind 11, count 1
    ((t 3 0 0 ∷ t 11 10 99 ∷ t 4 0 0 ∷ t 22 7 0 ∷ []), Err (Unfit 2)) ∷  -- kind 11, count 99
    ((t 3 0 0 ∷ t 12 1 0 ∷ t 4 0 0 ∷ t 22 7 0 ∷ []), Ok tt) ∷  -- kind 12, count 0
    ((t 3 0 0 ∷ t 12 1 1 ∷ t 4 0 0 ∷ t 22 7 0 ∷ []), Err (Unfit 2)) ∷  -- kind 12, count 1
    ((t 3 0 0 ∷ t 12 1 99 ∷ t 4 0 0 ∷ t 22 7 0 ∷ []), Err (Unfit 2)) ∷  -- kind 12, count 99
    ((t 3 0 0 ∷ t 13 0 0 ∷ t 12 1 0 ∷ t 12 1 0 ∷ t 4 0 0 ∷ t 22 7 0 ∷ []), Ok tt) ∷  -- kind 13, count 0
    ((t 3 0 0 ∷ t 13 0 1 ∷ t 12 1 0 ∷ t 12 1 0 ∷ t 4 0 0 ∷ t 22 7 0 ∷ []), Err (Unfit 2)) ∷  -- kind 13, count 1
    ((t 3 0 0 ∷ t 13 0 99 ∷ t 12 1 0 ∷ t 12 1 0 ∷ t 4 0 0 ∷ t 22 7 0 ∷ []), Err (Unfit 2)) ∷  -- kind 13, count 99
    ((t 3 0 0 ∷ t 14 10 0 ∷ t 12 1 0 ∷ t 4 0 0 ∷ t 22 7 0 ∷ []), Ok tt) ∷  -- kind 14, count 0
    ((t 3 0 0 ∷ t 14 10 1 ∷ t 12 1 0 ∷ t 4 0 0 ∷ t 22 7 0 ∷ []), Err (Unfit 2)) ∷  -- kind 14, count 1
    ((t 3 0 0 ∷ t 14 10 99 ∷ t 12 1 0 ∷ t 4 0 0 ∷ t 22 7 0 ∷ []), Err (Unfit 2)) ∷  -- kind 14, count 99
    ((t 3 0 0 ∷ t 15 0 0 ∷ t 12 1 0 ∷ t 12 1 0 ∷ t 4 0 0 ∷ t 22 7 0 ∷ []), Ok tt) ∷  -- kind 15, count 0
    ((t 3 0 0 ∷ t 15 0 1 ∷ t 12 1 0 ∷ t 12 1 0 ∷ t 4 0 0 ∷ t 22 7 0 ∷ []), Err (Unfit 2)) ∷  -- kind 15, count 1
    ((t 3 0 0 ∷ t 15 0 99 ∷ t 12 1 0 ∷ t 12 1 0 ∷ t 4 0 0 ∷ t 22 7 0 ∷ []), Err (Unfit 2)) ∷  -- kind 15, count 99
    ((t 3 0 0 ∷ t 12 1 0 ∷ t 4 0 0 ∷ t 21 10 0 ∷ []), Ok tt) ∷  -- kind 21, count 0
    ((t 3 0 0 ∷ t 12 1 0 ∷ t 4 0 0 ∷ t 21 10 1 ∷ []), Err (Unfit 4)) ∷  -- kind 21, count 1
    ((t 3 0 0 ∷ t 12 1 0 ∷ t 4 0 0 ∷ t 21 10 99 ∷ []), Err (Unfit 4)) ∷  -- kind 21, count 99
    ((t 3 0 0 ∷ t 12 1 0 ∷ t 4 0 0 ∷ t 22 7 0 ∷ []), Ok tt) ∷  -- kind 22, count 0
    ((t 3 0 0 ∷ t 12 1 0 ∷ t 4 0 0 ∷ t 22 7 1 ∷ []), Err (Unfit 4)) ∷  -- kind 22, count 1
    ((t 3 0 0 ∷ t 12 1 0 ∷ t 4 0 0 ∷ t 22 7 99 ∷ []), Err (Unfit 4)) ∷  -- kind 22, count 99
    ((t 3 0 0 ∷ t 12 1 0 ∷ t 4 0 0 ∷ t 23 10 0 ∷ t 12 1 0 ∷ t 22 7 0 ∷ []), Ok tt) ∷  -- kind 23, count 0
    ((t 3 0 0 ∷ t 12 1 0 ∷ t 4 0 0 ∷ t 23 10 1 ∷ t 12 1 0 ∷ t 22 7 0 ∷ []), Err (Unfit 4)) ∷  -- kind 23, count 1
    ((t 3 0 0 ∷ t 12 1 0 ∷ t 4 0 0 ∷ t 23 10 99 ∷ t 12 1 0 ∷ t 22 7 0 ∷ []), Err (Unfit 4)) ∷  -- kind 23, count 99
    ((t 3 0 0 ∷ t 12 1 0 ∷ t 4 0 0 ∷ t 24 0 0 ∷ t 22 7 0 ∷ t 22 7 0 ∷ []), Ok tt) ∷  -- kind 24, count 0
    ((t 3 0 0 ∷ t 12 1 0 ∷ t 4 0 0 ∷ t 24 0 1 ∷ t 22 7 0 ∷ t 22 7 0 ∷ []), Err (Unfit 4)) ∷  -- kind 24, count 1
    ((t 3 0 0 ∷ t 12 1 0 ∷ t 4 0 0 ∷ t 24 0 99 ∷ t 22 7 0 ∷ t 22 7 0 ∷ []), Err (Unfit 4)) ∷  -- kind 24, count 99
    ((t 3 0 0 ∷ t 12 1 0 ∷ t 4 0 0 ∷ t 25 10 0 ∷ t 22 7 0 ∷ []), Ok tt) ∷  -- kind 25, count 0
    ((t 3 0 0 ∷ t 12 1 0 ∷ t 4 0 0 ∷ t 25 10 1 ∷ t 22 7 0 ∷ []), Err (Unfit 4)) ∷  -- kind 25, count 1
    ((t 3 0 0 ∷ t 12 1 0 ∷ t 4 0 0 ∷ t 25 10 99 ∷ t 22 7 0 ∷ []), Err (Unfit 4)) ∷  -- kind 25, count 99
    ((t 3 0 0 ∷ t 12 1 0 ∷ t 4 0 0 ∷ t 28 1 0 ∷ t 22 7 0 ∷ t 22 7 0 ∷ []), Ok tt) ∷  -- kind 28, count 0
    ((t 3 0 0 ∷ t 12 1 0 ∷ t 4 0 0 ∷ t 28 1 1 ∷ t 22 7 0 ∷ t 22 7 0 ∷ []), Err (Unfit 4)) ∷  -- kind 28, count 1
    ((t 3 0 0 ∷ t 12 1 0 ∷ t 4 0 0 ∷ t 28 1 99 ∷ t 22 7 0 ∷ t 22 7 0 ∷ []), Err (Unfit 4)) ∷  -- kind 28, count 99
    ((t 3 0 0 ∷ t 12 1 0 ∷ t 4 0 0 ∷ t 29 0 0 ∷ t 22 7 0 ∷ t 22 7 0 ∷ t 22 7 0 ∷ []), Ok tt) ∷  -- kind 29, count 0
    ((t 3 0 0 ∷ t 12 1 0 ∷ t 4 0 0 ∷ t 29 0 1 ∷ t 22 7 0 ∷ t 22 7 0 ∷ t 22 7 0 ∷ []), Err (Unfit 4)) ∷  -- kind 29, count 1
    ((t 3 0 0 ∷ t 12 1 0 ∷ t 4 0 0 ∷ t 29 0 99 ∷ t 22 7 0 ∷ t 22 7 0 ∷ t 22 7 0 ∷ []), Err (Unfit 4)) ∷  -- kind 29, count 99
    ((t 3 0 0 ∷ t 12 1 0 ∷ t 4 0 0 ∷ t 27 0 1 ∷ t 22 7 0 ∷ t 41 0 0 ∷ t 22 7 0 ∷ []), Ok tt) ∷  -- kind 41, count 0
    ((t 3 0 0 ∷ t 12 1 0 ∷ t 4 0 0 ∷ t 27 0 1 ∷ t 22 7 0 ∷ t 41 0 1 ∷ t 22 7 0 ∷ []), Err (Unfit 6)) ∷  -- kind 41, count 1
    ((t 3 0 0 ∷ t 12 1 0 ∷ t 4 0 0 ∷ t 27 0 1 ∷ t 22 7 0 ∷ t 41 0 99 ∷ t 22 7 0 ∷ []), Err (Unfit 6)) ∷  -- kind 41, count 99
    ((t 3 0 0 ∷ t 12 1 0 ∷ t 4 0 0 ∷ t 27 0 1 ∷ t 22 7 0 ∷ t 42 10 0 ∷ t 22 7 0 ∷ []), Ok tt) ∷  -- kind 42, count 0
    ((t 3 0 0 ∷ t 12 1 0 ∷ t 4 0 0 ∷ t 27 0 1 ∷ t 22 7 0 ∷ t 42 10 1 ∷ t 22 7 0 ∷ []), Err (Unfit 6)) ∷  -- kind 42, count 1
    ((t 3 0 0 ∷ t 12 1 0 ∷ t 4 0 0 ∷ t 27 0 1 ∷ t 22 7 0 ∷ t 42 10 99 ∷ t 22 7 0 ∷ []), Err (Unfit 6)) ∷  -- kind 42, count 99
    []

pub no-counts : map (λ q. check_lines q.0) rows_no_counts ≡ map (λ q. q.1) rows_no_counts
unfolding check_lines find table row_of begins head_of declared_by arms following read
no-counts = refl

abbrev rows_counts : List LinesRow
rows_counts =
    ((t 3 0 0 ∷ t 16 0 0 ∷ t 4 0 0 ∷ t 22 7 0 ∷ []), Ok tt) ∷  -- kind 16, count 0 and as many parts
    ((t 3 0 0 ∷ t 16 0 1 ∷ t 12 1 0 ∷ t 4 0 0 ∷ t 22 7 0 ∷ []), Ok tt) ∷  -- kind 16, count 1 and as many parts
    ((t 3 0 0 ∷ t 16 0 2 ∷ t 12 1 0 ∷ t 12 1 0 ∷ t 4 0 0 ∷ t 22 7 0 ∷ []), Ok tt) ∷  -- kind 16, count 2 and as many parts
    ((t 3 0 0 ∷ t 16 0 99 ∷ (times 99 (t 12 1 0 ∷ []) ++ (t 4 0 0 ∷ t 22 7 0 ∷ []))), Ok tt) ∷  -- kind 16, count 99 and as many parts
    ((t 3 0 0 ∷ t 16 0 100 ∷ (times 100 (t 12 1 0 ∷ []) ++ (t 4 0 0 ∷ t 22 7 0 ∷ []))), Err (Unfit 2)) ∷  -- kind 16, count 100 and as many parts
    ((t 3 0 0 ∷ t 16 0 101 ∷ (times 101 (t 12 1 0 ∷ []) ++ (t 4 0 0 ∷ t 22 7 0 ∷ []))), Err (Unfit 2)) ∷  -- kind 16, count 101 and as many parts
    ((t 3 0 0 ∷ t 16 0 1 ∷ t 4 0 0 ∷ t 22 7 0 ∷ []), Err (Unfit 3)) ∷  -- kind 16, count 1 and one part less
    ((t 3 0 0 ∷ t 16 0 2 ∷ t 12 1 0 ∷ t 4 0 0 ∷ t 22 7 0 ∷ []), Err (Unfit 4)) ∷  -- kind 16, count 2 and one part less
    ((t 3 0 0 ∷ t 16 0 1 ∷ t 12 1 0 ∷ t 12 1 0 ∷ t 4 0 0 ∷ t 22 7 0 ∷ []), Err (Unfit 4)) ∷  -- kind 16, count 1 and one part more
    ((t 3 0 0 ∷ t 12 1 0 ∷ t 4 0 0 ∷ t 26 10 0 ∷ []), Ok tt) ∷  -- kind 26, count 0 and as many parts
    ((t 3 0 0 ∷ t 12 1 0 ∷ t 4 0 0 ∷ t 26 10 1 ∷ t 22 7 0 ∷ []), Ok tt) ∷  -- kind 26, count 1 and as many parts
    ((t 3 0 0 ∷ t 12 1 0 ∷ t 4 0 0 ∷ t 26 10 2 ∷ t 22 7 0 ∷ t 22 7 0 ∷ []), Ok tt) ∷  -- kind 26, count 2 and as many parts
    ((t 3 0 0 ∷ t 12 1 0 ∷ t 4 0 0 ∷ t 26 10 99 ∷ (times 99 (t 22 7 0 ∷ []) ++ ([]))), Ok tt) ∷  -- kind 26, count 99 and as many parts
    ((t 3 0 0 ∷ t 12 1 0 ∷ t 4 0 0 ∷ t 26 10 100 ∷ (times 100 (t 22 7 0 ∷ []) ++ ([]))), Err (Unfit 4)) ∷  -- kind 26, count 100 and as many parts
    ((t 3 0 0 ∷ t 12 1 0 ∷ t 4 0 0 ∷ t 26 10 101 ∷ (times 101 (t 22 7 0 ∷ []) ++ ([]))), Err (Unfit 4)) ∷  -- kind 26, count 101 and as many parts
    ((t 3 0 0 ∷ t 12 1 0 ∷ t 4 0 0 ∷ t 26 10 1 ∷ []), Err (Unfit 5)) ∷  -- kind 26, count 1 and one part less
    ((t 3 0 0 ∷ t 12 1 0 ∷ t 4 0 0 ∷ t 26 10 2 ∷ t 22 7 0 ∷ []), Err (Unfit 6)) ∷  -- kind 26, count 2 and one part less
    ((t 3 0 0 ∷ t 12 1 0 ∷ t 4 0 0 ∷ t 26 10 1 ∷ t 22 7 0 ∷ t 22 7 0 ∷ []), Err (Unfit 6)) ∷  -- kind 26, count 1 and one part more
    ((t 3 0 0 ∷ t 12 1 0 ∷ t 4 0 0 ∷ t 27 0 0 ∷ t 22 7 0 ∷ []), Ok tt) ∷  -- kind 27, count 0 and as many parts
    ((t 3 0 0 ∷ t 12 1 0 ∷ t 4 0 0 ∷ t 27 0 1 ∷ t 22 7 0 ∷ t 41 0 0 ∷ t 22 7 0 ∷ []), Ok tt) ∷  -- kind 27, count 1 and as many parts
    ((t 3 0 0 ∷ t 12 1 0 ∷ t 4 0 0 ∷ t 27 0 2 ∷ t 22 7 0 ∷ t 41 0 0 ∷ t 22 7 0 ∷ t 41 0 0 ∷ t 22 7 0 ∷ []), Ok tt) ∷  -- kind 27, count 2 and as many parts
    ((t 3 0 0 ∷ t 12 1 0 ∷ t 4 0 0 ∷ t 27 0 99 ∷ (times 99 (t 22 7 0 ∷ t 41 0 0 ∷ []) ++ (t 22 7 0 ∷ []))), Ok tt) ∷  -- kind 27, count 99 and as many parts
    ((t 3 0 0 ∷ t 12 1 0 ∷ t 4 0 0 ∷ t 27 0 100 ∷ (times 100 (t 22 7 0 ∷ t 41 0 0 ∷ []) ++ (t 22 7 0 ∷ []))), Err (Unfit 4)) ∷  -- kind 27, count 100 and as many parts
    ((t 3 0 0 ∷ t 12 1 0 ∷ t 4 0 0 ∷ t 27 0 101 ∷ (times 101 (t 22 7 0 ∷ t 41 0 0 ∷ []) ++ (t 22 7 0 ∷ []))), Err (Unfit 4)) ∷  -- kind 27, count 101 and as many parts
    ((t 3 0 0 ∷ t 12 1 0 ∷ t 4 0 0 ∷ t 27 0 1 ∷ t 22 7 0 ∷ []), Err (Unfit 6)) ∷  -- kind 27, count 1 and one part less
    ((t 3 0 0 ∷ t 12 1 0 ∷ t 4 0 0 ∷ t 27 0 2 ∷ t 22 7 0 ∷ t 41 0 0 ∷ t 22 7 0 ∷ []), Err (Unfit 8)) ∷  -- kind 27, count 2 and one part less
    ((t 3 0 0 ∷ t 12 1 0 ∷ t 4 0 0 ∷ t 27 0 1 ∷ t 22 7 0 ∷ t 41 0 0 ∷ t 22 7 0 ∷ t 41 0 0 ∷ t 22 7 0 ∷ []), Err (Unfit 8)) ∷  -- kind 27, count 1 and one part more
    ((t 3 0 0 ∷ t 12 1 0 ∷ t 4 0 0 ∷ t 30 10 0 ∷ []), Ok tt) ∷  -- kind 30, count 0 and as many parts
    ((t 3 0 0 ∷ t 12 1 0 ∷ t 4 0 0 ∷ t 30 10 1 ∷ t 22 7 0 ∷ []), Ok tt) ∷  -- kind 30, count 1 and as many parts
    ((t 3 0 0 ∷ t 12 1 0 ∷ t 4 0 0 ∷ t 30 10 2 ∷ t 22 7 0 ∷ t 22 7 0 ∷ []), Ok tt) ∷  -- kind 30, count 2 and as many parts
    ((t 3 0 0 ∷ t 12 1 0 ∷ t 4 0 0 ∷ t 30 10 99 ∷ (times 99 (t 22 7 0 ∷ []) ++ ([]))), Ok tt) ∷  -- kind 30, count 99 and as many parts
    ((t 3 0 0 ∷ t 12 1 0 ∷ t 4 0 0 ∷ t 30 10 100 ∷ (times 100 (t 22 7 0 ∷ []) ++ ([]))), Err (Unfit 4)) ∷  -- kind 30, count 100 and as many parts
    ((t 3 0 0 ∷ t 12 1 0 ∷ t 4 0 0 ∷ t 30 10 101 ∷ (times 101 (t 22 7 0 ∷ []) ++ ([]))), Err (Unfit 4)) ∷  -- kind 30, count 101 and as many parts
    ((t 3 0 0 ∷ t 12 1 0 ∷ t 4 0 0 ∷ t 30 10 1 ∷ []), Err (Unfit 5)) ∷  -- kind 30, count 1 and one part less
    ((t 3 0 0 ∷ t 12 1 0 ∷ t 4 0 0 ∷ t 30 10 2 ∷ t 22 7 0 ∷ []), Err (Unfit 6)) ∷  -- kind 30, count 2 and one part less
    ((t 3 0 0 ∷ t 12 1 0 ∷ t 4 0 0 ∷ t 30 10 1 ∷ t 22 7 0 ∷ t 22 7 0 ∷ []), Err (Unfit 6)) ∷  -- kind 30, count 1 and one part more
    ((t 3 0 0 ∷ t 12 1 0 ∷ t 4 0 0 ∷ t 27 0 1 ∷ t 22 7 0 ∷ t 43 10 0 ∷ t 22 7 0 ∷ []), Ok tt) ∷  -- kind 43, count 0 and as many parts
    ((t 3 0 0 ∷ t 12 1 0 ∷ t 4 0 0 ∷ t 27 0 1 ∷ t 22 7 0 ∷ t 43 10 1 ∷ t 41 0 0 ∷ t 22 7 0 ∷ []), Ok tt) ∷  -- kind 43, count 1 and as many parts
    ((t 3 0 0 ∷ t 12 1 0 ∷ t 4 0 0 ∷ t 27 0 1 ∷ t 22 7 0 ∷ t 43 10 2 ∷ t 41 0 0 ∷ t 41 0 0 ∷ t 22 7 0 ∷ []), Ok tt) ∷  -- kind 43, count 2 and as many parts
    ((t 3 0 0 ∷ t 12 1 0 ∷ t 4 0 0 ∷ t 27 0 1 ∷ t 22 7 0 ∷ t 43 10 99 ∷ (times 99 (t 41 0 0 ∷ []) ++ (t 22 7 0 ∷ []))), Ok tt) ∷  -- kind 43, count 99 and as many parts
    ((t 3 0 0 ∷ t 12 1 0 ∷ t 4 0 0 ∷ t 27 0 1 ∷ t 22 7 0 ∷ t 43 10 100 ∷ (times 100 (t 41 0 0 ∷ []) ++ (t 22 7 0 ∷ []))), Err (Unfit 6)) ∷  -- kind 43, count 100 and as many parts
    ((t 3 0 0 ∷ t 12 1 0 ∷ t 4 0 0 ∷ t 27 0 1 ∷ t 22 7 0 ∷ t 43 10 101 ∷ (times 101 (t 41 0 0 ∷ []) ++ (t 22 7 0 ∷ []))), Err (Unfit 6)) ∷  -- kind 43, count 101 and as many parts
    ((t 3 0 0 ∷ t 12 1 0 ∷ t 4 0 0 ∷ t 27 0 1 ∷ t 22 7 0 ∷ t 43 10 1 ∷ t 22 7 0 ∷ []), Err (Unfit 7)) ∷  -- kind 43, count 1 and one part less
    ((t 3 0 0 ∷ t 12 1 0 ∷ t 4 0 0 ∷ t 27 0 1 ∷ t 22 7 0 ∷ t 43 10 2 ∷ t 41 0 0 ∷ t 22 7 0 ∷ []), Err (Unfit 8)) ∷  -- kind 43, count 2 and one part less
    ((t 3 0 0 ∷ t 12 1 0 ∷ t 4 0 0 ∷ t 27 0 1 ∷ t 22 7 0 ∷ t 43 10 1 ∷ t 41 0 0 ∷ t 41 0 0 ∷ t 22 7 0 ∷ []), Err (Unfit 8)) ∷  -- kind 43, count 1 and one part more
    []

pub counts : map (λ q. check_lines q.0) rows_counts ≡ map (λ q. q.1) rows_counts
unfolding check_lines find table row_of begins head_of declared_by arms following read
counts = refl

abbrev rows_entry_names : List LinesRow
rows_entry_names =
    ((t 1 5 0 ∷ t 12 1 0 ∷ t 1 6 0 ∷ t 12 1 0 ∷ t 3 0 0 ∷ t 12 1 0 ∷ t 4 0 0 ∷ t 22 7 0 ∷ []), Ok tt) ∷  -- names (5, 6) of kind 1
    ((t 1 5 0 ∷ t 12 1 0 ∷ t 1 5 0 ∷ t 12 1 0 ∷ t 3 0 0 ∷ t 12 1 0 ∷ t 4 0 0 ∷ t 22 7 0 ∷ []), Err (Unfit 3)) ∷  -- names (5, 5) of kind 1
    ((t 1 6 0 ∷ t 12 1 0 ∷ t 1 5 0 ∷ t 12 1 0 ∷ t 3 0 0 ∷ t 12 1 0 ∷ t 4 0 0 ∷ t 22 7 0 ∷ []), Err (Unfit 3)) ∷  -- names (6, 5) of kind 1
    ((t 1 1 0 ∷ t 12 1 0 ∷ t 1 2 0 ∷ t 12 1 0 ∷ t 1 3 0 ∷ t 12 1 0 ∷ t 3 0 0 ∷ t 12 1 0 ∷ t 4 0 0 ∷ t 22 7 0 ∷ []), Ok tt) ∷  -- names (1, 2, 3) of kind 1
    ((t 1 1 0 ∷ t 12 1 0 ∷ t 1 3 0 ∷ t 12 1 0 ∷ t 1 2 0 ∷ t 12 1 0 ∷ t 3 0 0 ∷ t 12 1 0 ∷ t 4 0 0 ∷ t 22 7 0 ∷ []), Err (Unfit 5)) ∷  -- names (1, 3, 2) of kind 1
    ((t 1 9998 0 ∷ t 12 1 0 ∷ t 1 9999 0 ∷ t 12 1 0 ∷ t 3 0 0 ∷ t 12 1 0 ∷ t 4 0 0 ∷ t 22 7 0 ∷ []), Ok tt) ∷  -- names (9998, 9999) of kind 1
    ((t 2 5 0 ∷ t 12 1 0 ∷ t 2 6 0 ∷ t 12 1 0 ∷ t 3 0 0 ∷ t 12 1 0 ∷ t 4 0 0 ∷ t 22 7 0 ∷ []), Ok tt) ∷  -- names (5, 6) of kind 2
    ((t 2 5 0 ∷ t 12 1 0 ∷ t 2 5 0 ∷ t 12 1 0 ∷ t 3 0 0 ∷ t 12 1 0 ∷ t 4 0 0 ∷ t 22 7 0 ∷ []), Err (Unfit 3)) ∷  -- names (5, 5) of kind 2
    ((t 2 6 0 ∷ t 12 1 0 ∷ t 2 5 0 ∷ t 12 1 0 ∷ t 3 0 0 ∷ t 12 1 0 ∷ t 4 0 0 ∷ t 22 7 0 ∷ []), Err (Unfit 3)) ∷  -- names (6, 5) of kind 2
    ((t 2 1 0 ∷ t 12 1 0 ∷ t 2 2 0 ∷ t 12 1 0 ∷ t 2 3 0 ∷ t 12 1 0 ∷ t 3 0 0 ∷ t 12 1 0 ∷ t 4 0 0 ∷ t 22 7 0 ∷ []), Ok tt) ∷  -- names (1, 2, 3) of kind 2
    ((t 2 1 0 ∷ t 12 1 0 ∷ t 2 3 0 ∷ t 12 1 0 ∷ t 2 2 0 ∷ t 12 1 0 ∷ t 3 0 0 ∷ t 12 1 0 ∷ t 4 0 0 ∷ t 22 7 0 ∷ []), Err (Unfit 5)) ∷  -- names (1, 3, 2) of kind 2
    ((t 2 9998 0 ∷ t 12 1 0 ∷ t 2 9999 0 ∷ t 12 1 0 ∷ t 3 0 0 ∷ t 12 1 0 ∷ t 4 0 0 ∷ t 22 7 0 ∷ []), Ok tt) ∷  -- names (9998, 9999) of kind 2
    ((t 1 6 0 ∷ t 12 1 0 ∷ t 2 5 0 ∷ t 12 1 0 ∷ t 3 0 0 ∷ t 12 1 0 ∷ t 4 0 0 ∷ t 22 7 0 ∷ []), Ok tt) ∷  -- a variable of a lower name than the constructor before it
    ((t 1 5 0 ∷ t 12 1 0 ∷ t 2 5 0 ∷ t 12 1 0 ∷ t 3 0 0 ∷ t 12 1 0 ∷ t 4 0 0 ∷ t 22 7 0 ∷ []), Ok tt) ∷  -- of the same name
    ((t 2 5 0 ∷ t 12 1 0 ∷ t 1 6 0 ∷ t 12 1 0 ∷ t 3 0 0 ∷ t 12 1 0 ∷ t 4 0 0 ∷ t 22 7 0 ∷ []), Err (Unfit 3)) ∷  -- a constructor after a variable
    ((t 1 5 0 ∷ t 12 1 0 ∷ t 2 5 0 ∷ t 12 1 0 ∷ t 1 6 0 ∷ t 12 1 0 ∷ t 3 0 0 ∷ t 12 1 0 ∷ t 4 0 0 ∷ t 22 7 0 ∷ []), Err (Unfit 5)) ∷  -- after both
    []

pub entry-names : map (λ q. check_lines q.0) rows_entry_names ≡ map (λ q. q.1) rows_entry_names
unfolding check_lines find table row_of begins head_of declared_by arms following read
entry-names = refl

abbrev rows_lacking : List LinesRow
rows_lacking =
    ((t 1 20 0 ∷ []), Err (Unfit 2)) ∷  -- 1 of 21 lines
    ((t 1 20 0 ∷ t 16 0 1 ∷ []), Err (Unfit 3)) ∷  -- 2 of 21 lines
    ((t 1 20 0 ∷ t 16 0 1 ∷ t 12 1 0 ∷ []), Err (Unfit 4)) ∷  -- 3 of 21 lines
    ((t 1 20 0 ∷ t 16 0 1 ∷ t 12 1 0 ∷ t 2 30 0 ∷ []), Err (Unfit 5)) ∷  -- 4 of 21 lines
    ((t 1 20 0 ∷ t 16 0 1 ∷ t 12 1 0 ∷ t 2 30 0 ∷ t 14 11 0 ∷ []), Err (Unfit 6)) ∷  -- 5 of 21 lines
    ((t 1 20 0 ∷ t 16 0 1 ∷ t 12 1 0 ∷ t 2 30 0 ∷ t 14 11 0 ∷ t 11 11 0 ∷ []), Err (Unfit 7)) ∷  -- 6 of 21 lines
    ((t 1 20 0 ∷ t 16 0 1 ∷ t 12 1 0 ∷ t 2 30 0 ∷ t 14 11 0 ∷ t 11 11 0 ∷ t 3 0 0 ∷ []), Err (Unfit 8)) ∷  -- 7 of 21 lines
    ((t 1 20 0 ∷ t 16 0 1 ∷ t 12 1 0 ∷ t 2 30 0 ∷ t 14 11 0 ∷ t 11 11 0 ∷ t 3 0 0 ∷ t 13 0 0 ∷ []), Err (Unfit 9)) ∷  -- 8 of 21 lines
    ((t 1 20 0 ∷ t 16 0 1 ∷ t 12 1 0 ∷ t 2 30 0 ∷ t 14 11 0 ∷ t 11 11 0 ∷ t 3 0 0 ∷ t 13 0 0 ∷ t 12 1 0 ∷ []), Err (Unfit 10)) ∷  -- 9 of 21 lines
    ((t 1 20 0 ∷ t 16 0 1 ∷ t 12 1 0 ∷ t 2 30 0 ∷ t 14 11 0 ∷ t 11 11 0 ∷ t 3 0 0 ∷ t 13 0 0 ∷ t 12 1 0 ∷ t 12 1 0 ∷ []), Err (Unfit 11)) ∷  -- 10 of 21 lines
    ((t 1 20 0 ∷ t 16 0 1 ∷ t 12 1 0 ∷ t 2 30 0 ∷ t 14 11 0 ∷ t 11 11 0 ∷ t 3 0 0 ∷ t 13 0 0 ∷ t 12 1 0 ∷ t 12 1 0 ∷ t 4 0 0 ∷ []), Err (Unfit 12)) ∷  -- 11 of 21 lines
    ((t 1 20 0 ∷ t 16 0 1 ∷ t 12 1 0 ∷ t 2 30 0 ∷ t 14 11 0 ∷ t 11 11 0 ∷ t 3 0 0 ∷ t 13 0 0 ∷ t 12 1 0 ∷ t 12 1 0 ∷ t 4 0 0 ∷ t 23 10 0 ∷ []), Err (Unfit 13)) ∷  -- 12 of 21 lines
    ((t 1 20 0 ∷ t 16 0 1 ∷ t 12 1 0 ∷ t 2 30 0 ∷ t 14 11 0 ∷ t 11 11 0 ∷ t 3 0 0 ∷ t 13 0 0 ∷ t 12 1 0 ∷ t 12 1 0 ∷ t 4 0 0 ∷ t 23 10 0 ∷ t 12 1 0 ∷ []), Err (Unfit 14)) ∷  -- 13 of 21 lines
    ((t 1 20 0 ∷ t 16 0 1 ∷ t 12 1 0 ∷ t 2 30 0 ∷ t 14 11 0 ∷ t 11 11 0 ∷ t 3 0 0 ∷ t 13 0 0 ∷ t 12 1 0 ∷ t 12 1 0 ∷ t 4 0 0 ∷ t 23 10 0 ∷ t 12 1 0 ∷ t 27 0 1 ∷ []), Err (Unfit 15)) ∷  -- 14 of 21 lines
    ((t 1 20 0 ∷ t 16 0 1 ∷ t 12 1 0 ∷ t 2 30 0 ∷ t 14 11 0 ∷ t 11 11 0 ∷ t 3 0 0 ∷ t 13 0 0 ∷ t 12 1 0 ∷ t 12 1 0 ∷ t 4 0 0 ∷ t 23 10 0 ∷ t 12 1 0 ∷ t 27 0 1 ∷ t 21 10 0 ∷ []), Err (Unfit 16)) ∷  -- 15 of 21 lines
    ((t 1 20 0 ∷ t 16 0 1 ∷ t 12 1 0 ∷ t 2 30 0 ∷ t 14 11 0 ∷ t 11 11 0 ∷ t 3 0 0 ∷ t 13 0 0 ∷ t 12 1 0 ∷ t 12 1 0 ∷ t 4 0 0 ∷ t 23 10 0 ∷ t 12 1 0 ∷ t 27 0 1 ∷ t 21 10 0 ∷ t 43 20 1 ∷ []), Err (Unfit 17)) ∷  -- 16 of 21 lines
    ((t 1 20 0 ∷ t 16 0 1 ∷ t 12 1 0 ∷ t 2 30 0 ∷ t 14 11 0 ∷ t 11 11 0 ∷ t 3 0 0 ∷ t 13 0 0 ∷ t 12 1 0 ∷ t 12 1 0 ∷ t 4 0 0 ∷ t 23 10 0 ∷ t 12 1 0 ∷ t 27 0 1 ∷ t 21 10 0 ∷ t 43 20 1 ∷ t 41 0 0 ∷ []), Err (Unfit 18)) ∷  -- 17 of 21 lines
    ((t 1 20 0 ∷ t 16 0 1 ∷ t 12 1 0 ∷ t 2 30 0 ∷ t 14 11 0 ∷ t 11 11 0 ∷ t 3 0 0 ∷ t 13 0 0 ∷ t 12 1 0 ∷ t 12 1 0 ∷ t 4 0 0 ∷ t 23 10 0 ∷ t 12 1 0 ∷ t 27 0 1 ∷ t 21 10 0 ∷ t 43 20 1 ∷ t 41 0 0 ∷ t 29 0 0 ∷ []), Err (Unfit 19)) ∷  -- 18 of 21 lines
    ((t 1 20 0 ∷ t 16 0 1 ∷ t 12 1 0 ∷ t 2 30 0 ∷ t 14 11 0 ∷ t 11 11 0 ∷ t 3 0 0 ∷ t 13 0 0 ∷ t 12 1 0 ∷ t 12 1 0 ∷ t 4 0 0 ∷ t 23 10 0 ∷ t 12 1 0 ∷ t 27 0 1 ∷ t 21 10 0 ∷ t 43 20 1 ∷ t 41 0 0 ∷ t 29 0 0 ∷ t 22 7 0 ∷ []), Err (Unfit 20)) ∷  -- 19 of 21 lines
    ((t 1 20 0 ∷ t 16 0 1 ∷ t 12 1 0 ∷ t 2 30 0 ∷ t 14 11 0 ∷ t 11 11 0 ∷ t 3 0 0 ∷ t 13 0 0 ∷ t 12 1 0 ∷ t 12 1 0 ∷ t 4 0 0 ∷ t 23 10 0 ∷ t 12 1 0 ∷ t 27 0 1 ∷ t 21 10 0 ∷ t 43 20 1 ∷ t 41 0 0 ∷ t 29 0 0 ∷ t 22 7 0 ∷ t 22 7 0 ∷ []), Err (Unfit 21)) ∷  -- 20 of 21 lines
    ((t 1 20 0 ∷ t 16 0 1 ∷ t 12 1 0 ∷ t 2 30 0 ∷ t 14 11 0 ∷ t 11 11 0 ∷ t 3 0 0 ∷ t 13 0 0 ∷ t 12 1 0 ∷ t 12 1 0 ∷ t 4 0 0 ∷ t 23 10 0 ∷ t 12 1 0 ∷ t 27 0 1 ∷ t 21 10 0 ∷ t 43 20 1 ∷ t 41 0 0 ∷ t 29 0 0 ∷ t 22 7 0 ∷ t 22 7 0 ∷ t 22 7 0 ∷ []), Ok tt) ∷  -- 21 of 21 lines
    ((t 1 20 0 ∷ t 16 0 1 ∷ t 12 1 0 ∷ t 2 30 0 ∷ t 14 11 0 ∷ t 11 11 0 ∷ t 3 0 0 ∷ t 13 0 0 ∷ t 12 1 0 ∷ t 12 1 0 ∷ t 4 0 0 ∷ t 23 10 0 ∷ t 12 1 0 ∷ t 27 0 1 ∷ t 21 10 0 ∷ t 43 20 1 ∷ t 41 0 0 ∷ t 29 0 0 ∷ (times 4 (t 22 7 0 ∷ []) ++ ([]))), Err (Unfit 22)) ∷  -- and one more
    []

pub lacking : map (λ q. check_lines q.0) rows_lacking ≡ map (λ q. q.1) rows_lacking
unfolding check_lines find table row_of begins head_of declared_by arms following read
lacking = refl

abbrev rows_places : List LinesRow
rows_places =
    ((t 1 10 0 ∷ t 12 1 0 ∷ t 3 0 0 ∷ t 12 1 0 ∷ t 4 0 0 ∷ t 22 7 0 ∷ []), Ok tt) ∷  -- kind 1 first
    ((t 2 10 0 ∷ t 12 1 0 ∷ t 3 0 0 ∷ t 12 1 0 ∷ t 4 0 0 ∷ t 22 7 0 ∷ []), Ok tt) ∷  -- kind 2 first
    ((t 3 0 0 ∷ t 3 0 0 ∷ t 12 1 0 ∷ t 4 0 0 ∷ t 22 7 0 ∷ []), Err (Unfit 2)) ∷  -- kind 3 first
    ((t 4 0 0 ∷ t 3 0 0 ∷ t 12 1 0 ∷ t 4 0 0 ∷ t 22 7 0 ∷ []), Err (Unfit 1)) ∷  -- kind 4 first
    ((t 11 10 0 ∷ t 3 0 0 ∷ t 12 1 0 ∷ t 4 0 0 ∷ t 22 7 0 ∷ []), Err (Unfit 1)) ∷  -- kind 11 first
    ((t 12 1 0 ∷ t 3 0 0 ∷ t 12 1 0 ∷ t 4 0 0 ∷ t 22 7 0 ∷ []), Err (Unfit 1)) ∷  -- kind 12 first
    ((t 13 0 0 ∷ t 12 1 0 ∷ t 12 1 0 ∷ t 3 0 0 ∷ t 12 1 0 ∷ t 4 0 0 ∷ t 22 7 0 ∷ []), Err (Unfit 1)) ∷  -- kind 13 first
    ((t 14 10 0 ∷ t 12 1 0 ∷ t 3 0 0 ∷ t 12 1 0 ∷ t 4 0 0 ∷ t 22 7 0 ∷ []), Err (Unfit 1)) ∷  -- kind 14 first
    ((t 15 0 0 ∷ t 12 1 0 ∷ t 12 1 0 ∷ t 3 0 0 ∷ t 12 1 0 ∷ t 4 0 0 ∷ t 22 7 0 ∷ []), Err (Unfit 1)) ∷  -- kind 15 first
    ((t 16 0 1 ∷ t 12 1 0 ∷ t 3 0 0 ∷ t 12 1 0 ∷ t 4 0 0 ∷ t 22 7 0 ∷ []), Err (Unfit 1)) ∷  -- kind 16 first
    ((t 21 10 0 ∷ t 3 0 0 ∷ t 12 1 0 ∷ t 4 0 0 ∷ t 22 7 0 ∷ []), Err (Unfit 1)) ∷  -- kind 21 first
    ((t 22 7 0 ∷ t 3 0 0 ∷ t 12 1 0 ∷ t 4 0 0 ∷ t 22 7 0 ∷ []), Err (Unfit 1)) ∷  -- kind 22 first
    ((t 23 10 0 ∷ t 12 1 0 ∷ t 22 7 0 ∷ t 3 0 0 ∷ t 12 1 0 ∷ t 4 0 0 ∷ t 22 7 0 ∷ []), Err (Unfit 1)) ∷  -- kind 23 first
    ((t 24 0 0 ∷ t 22 7 0 ∷ t 22 7 0 ∷ t 3 0 0 ∷ t 12 1 0 ∷ t 4 0 0 ∷ t 22 7 0 ∷ []), Err (Unfit 1)) ∷  -- kind 24 first
    ((t 25 10 0 ∷ t 22 7 0 ∷ t 3 0 0 ∷ t 12 1 0 ∷ t 4 0 0 ∷ t 22 7 0 ∷ []), Err (Unfit 1)) ∷  -- kind 25 first
    ((t 26 10 1 ∷ t 22 7 0 ∷ t 3 0 0 ∷ t 12 1 0 ∷ t 4 0 0 ∷ t 22 7 0 ∷ []), Err (Unfit 1)) ∷  -- kind 26 first
    ((t 27 0 1 ∷ t 22 7 0 ∷ t 41 0 0 ∷ t 22 7 0 ∷ t 3 0 0 ∷ t 12 1 0 ∷ t 4 0 0 ∷ t 22 7 0 ∷ []), Err (Unfit 1)) ∷  -- kind 27 first
    ((t 28 1 0 ∷ t 22 7 0 ∷ t 22 7 0 ∷ t 3 0 0 ∷ t 12 1 0 ∷ t 4 0 0 ∷ t 22 7 0 ∷ []), Err (Unfit 1)) ∷  -- kind 28 first
    ((t 29 0 0 ∷ t 22 7 0 ∷ t 22 7 0 ∷ t 22 7 0 ∷ t 3 0 0 ∷ t 12 1 0 ∷ t 4 0 0 ∷ t 22 7 0 ∷ []), Err (Unfit 1)) ∷  -- kind 29 first
    ((t 30 10 1 ∷ t 22 7 0 ∷ t 3 0 0 ∷ t 12 1 0 ∷ t 4 0 0 ∷ t 22 7 0 ∷ []), Err (Unfit 1)) ∷  -- kind 30 first
    ((t 41 0 0 ∷ t 3 0 0 ∷ t 12 1 0 ∷ t 4 0 0 ∷ t 22 7 0 ∷ []), Err (Unfit 1)) ∷  -- kind 41 first
    ((t 42 10 0 ∷ t 3 0 0 ∷ t 12 1 0 ∷ t 4 0 0 ∷ t 22 7 0 ∷ []), Err (Unfit 1)) ∷  -- kind 42 first
    ((t 43 10 1 ∷ t 41 0 0 ∷ t 3 0 0 ∷ t 12 1 0 ∷ t 4 0 0 ∷ t 22 7 0 ∷ []), Err (Unfit 1)) ∷  -- kind 43 first
    ((t 0 1 0 ∷ t 3 0 0 ∷ t 12 1 0 ∷ t 4 0 0 ∷ t 22 7 0 ∷ []), Err (Unfit 1)) ∷  -- kind 0 first
    ((t 5 1 0 ∷ t 3 0 0 ∷ t 12 1 0 ∷ t 4 0 0 ∷ t 22 7 0 ∷ []), Err (Unfit 1)) ∷  -- kind 5 first
    ((t 6 1 0 ∷ t 3 0 0 ∷ t 12 1 0 ∷ t 4 0 0 ∷ t 22 7 0 ∷ []), Err (Unfit 1)) ∷  -- kind 6 first
    ((t 7 1 0 ∷ t 3 0 0 ∷ t 12 1 0 ∷ t 4 0 0 ∷ t 22 7 0 ∷ []), Err (Unfit 1)) ∷  -- kind 7 first
    ((t 8 1 0 ∷ t 3 0 0 ∷ t 12 1 0 ∷ t 4 0 0 ∷ t 22 7 0 ∷ []), Err (Unfit 1)) ∷  -- kind 8 first
    ((t 9 1 0 ∷ t 3 0 0 ∷ t 12 1 0 ∷ t 4 0 0 ∷ t 22 7 0 ∷ []), Err (Unfit 1)) ∷  -- kind 9 first
    ((t 10 1 0 ∷ t 3 0 0 ∷ t 12 1 0 ∷ t 4 0 0 ∷ t 22 7 0 ∷ []), Err (Unfit 1)) ∷  -- kind 10 first
    ((t 17 1 0 ∷ t 3 0 0 ∷ t 12 1 0 ∷ t 4 0 0 ∷ t 22 7 0 ∷ []), Err (Unfit 1)) ∷  -- kind 17 first
    ((t 18 1 0 ∷ t 3 0 0 ∷ t 12 1 0 ∷ t 4 0 0 ∷ t 22 7 0 ∷ []), Err (Unfit 1)) ∷  -- kind 18 first
    ((t 19 1 0 ∷ t 3 0 0 ∷ t 12 1 0 ∷ t 4 0 0 ∷ t 22 7 0 ∷ []), Err (Unfit 1)) ∷  -- kind 19 first
    ((t 20 1 0 ∷ t 3 0 0 ∷ t 12 1 0 ∷ t 4 0 0 ∷ t 22 7 0 ∷ []), Err (Unfit 1)) ∷  -- kind 20 first
    ((t 31 1 0 ∷ t 3 0 0 ∷ t 12 1 0 ∷ t 4 0 0 ∷ t 22 7 0 ∷ []), Err (Unfit 1)) ∷  -- kind 31 first
    ((t 32 1 0 ∷ t 3 0 0 ∷ t 12 1 0 ∷ t 4 0 0 ∷ t 22 7 0 ∷ []), Err (Unfit 1)) ∷  -- kind 32 first
    ((t 35 1 0 ∷ t 3 0 0 ∷ t 12 1 0 ∷ t 4 0 0 ∷ t 22 7 0 ∷ []), Err (Unfit 1)) ∷  -- kind 35 first
    ((t 39 1 0 ∷ t 3 0 0 ∷ t 12 1 0 ∷ t 4 0 0 ∷ t 22 7 0 ∷ []), Err (Unfit 1)) ∷  -- kind 39 first
    ((t 40 1 0 ∷ t 3 0 0 ∷ t 12 1 0 ∷ t 4 0 0 ∷ t 22 7 0 ∷ []), Err (Unfit 1)) ∷  -- kind 40 first
    ((t 44 1 0 ∷ t 3 0 0 ∷ t 12 1 0 ∷ t 4 0 0 ∷ t 22 7 0 ∷ []), Err (Unfit 1)) ∷  -- kind 44 first
    ((t 45 1 0 ∷ t 3 0 0 ∷ t 12 1 0 ∷ t 4 0 0 ∷ t 22 7 0 ∷ []), Err (Unfit 1)) ∷  -- kind 45 first
    ((t 51 1 0 ∷ t 3 0 0 ∷ t 12 1 0 ∷ t 4 0 0 ∷ t 22 7 0 ∷ []), Err (Unfit 1)) ∷  -- kind 51 first
    ((t 99 1 0 ∷ t 3 0 0 ∷ t 12 1 0 ∷ t 4 0 0 ∷ t 22 7 0 ∷ []), Err (Unfit 1)) ∷  -- kind 99 first
    ((t 100 1 0 ∷ t 3 0 0 ∷ t 12 1 0 ∷ t 4 0 0 ∷ t 22 7 0 ∷ []), Err (Unfit 1)) ∷  -- kind 100 first
    ((t 101 1 0 ∷ t 3 0 0 ∷ t 12 1 0 ∷ t 4 0 0 ∷ t 22 7 0 ∷ []), Err (Unfit 1)) ∷  -- kind 101 first
    ((t 104 1 0 ∷ t 3 0 0 ∷ t 12 1 0 ∷ t 4 0 0 ∷ t 22 7 0 ∷ []), Err (Unfit 1)) ∷  -- kind 104 first
    ((t 111 1 0 ∷ t 3 0 0 ∷ t 12 1 0 ∷ t 4 0 0 ∷ t 22 7 0 ∷ []), Err (Unfit 1)) ∷  -- kind 111 first
    ((t 112 1 0 ∷ t 3 0 0 ∷ t 12 1 0 ∷ t 4 0 0 ∷ t 22 7 0 ∷ []), Err (Unfit 1)) ∷  -- kind 112 first
    ((t 122 1 0 ∷ t 3 0 0 ∷ t 12 1 0 ∷ t 4 0 0 ∷ t 22 7 0 ∷ []), Err (Unfit 1)) ∷  -- kind 122 first
    ((t 143 1 0 ∷ t 3 0 0 ∷ t 12 1 0 ∷ t 4 0 0 ∷ t 22 7 0 ∷ []), Err (Unfit 1)) ∷  -- kind 143 first
    ((t 999 1 0 ∷ t 3 0 0 ∷ t 12 1 0 ∷ t 4 0 0 ∷ t 22 7 0 ∷ []), Err (Unfit 1)) ∷  -- kind 999 first
    ((t 1 5 0 ∷ t 12 1 0 ∷ t 1 10 0 ∷ t 12 1 0 ∷ t 3 0 0 ∷ t 12 1 0 ∷ t 4 0 0 ∷ t 22 7 0 ∷ []), Ok tt) ∷  -- kind 1 after a constructor
    ((t 1 5 0 ∷ t 12 1 0 ∷ t 2 10 0 ∷ t 12 1 0 ∷ t 3 0 0 ∷ t 12 1 0 ∷ t 4 0 0 ∷ t 22 7 0 ∷ []), Ok tt) ∷  -- kind 2 after a constructor
    ((t 1 5 0 ∷ t 12 1 0 ∷ t 3 0 0 ∷ t 3 0 0 ∷ t 12 1 0 ∷ t 4 0 0 ∷ t 22 7 0 ∷ []), Err (Unfit 4)) ∷  -- kind 3 after a constructor
    ((t 1 5 0 ∷ t 12 1 0 ∷ t 4 0 0 ∷ t 3 0 0 ∷ t 12 1 0 ∷ t 4 0 0 ∷ t 22 7 0 ∷ []), Err (Unfit 3)) ∷  -- kind 4 after a constructor
    ((t 1 5 0 ∷ t 12 1 0 ∷ t 11 10 0 ∷ t 3 0 0 ∷ t 12 1 0 ∷ t 4 0 0 ∷ t 22 7 0 ∷ []), Err (Unfit 3)) ∷  -- kind 11 after a constructor
    ((t 1 5 0 ∷ t 12 1 0 ∷ t 12 1 0 ∷ t 3 0 0 ∷ t 12 1 0 ∷ t 4 0 0 ∷ t 22 7 0 ∷ []), Err (Unfit 3)) ∷  -- kind 12 after a constructor
    ((t 1 5 0 ∷ t 12 1 0 ∷ t 13 0 0 ∷ t 12 1 0 ∷ t 12 1 0 ∷ t 3 0 0 ∷ t 12 1 0 ∷ t 4 0 0 ∷ t 22 7 0 ∷ []), Err (Unfit 3)) ∷  -- kind 13 after a constructor
    ((t 1 5 0 ∷ t 12 1 0 ∷ t 14 10 0 ∷ t 12 1 0 ∷ t 3 0 0 ∷ t 12 1 0 ∷ t 4 0 0 ∷ t 22 7 0 ∷ []), Err (Unfit 3)) ∷  -- kind 14 after a constructor
    ((t 1 5 0 ∷ t 12 1 0 ∷ t 15 0 0 ∷ t 12 1 0 ∷ t 12 1 0 ∷ t 3 0 0 ∷ t 12 1 0 ∷ t 4 0 0 ∷ t 22 7 0 ∷ []), Err (Unfit 3)) ∷  -- kind 15 after a constructor
    ((t 1 5 0 ∷ t 12 1 0 ∷ t 16 0 1 ∷ t 12 1 0 ∷ t 3 0 0 ∷ t 12 1 0 ∷ t 4 0 0 ∷ t 22 7 0 ∷ []), Err (Unfit 3)) ∷  -- kind 16 after a constructor
    ((t 1 5 0 ∷ t 12 1 0 ∷ t 21 10 0 ∷ t 3 0 0 ∷ t 12 1 0 ∷ t 4 0 0 ∷ t 22 7 0 ∷ []), Err (Unfit 3)) ∷  -- kind 21 after a constructor
    ((t 1 5 0 ∷ t 12 1 0 ∷ t 22 7 0 ∷ t 3 0 0 ∷ t 12 1 0 ∷ t 4 0 0 ∷ t 22 7 0 ∷ []), Err (Unfit 3)) ∷  -- kind 22 after a constructor
    ((t 1 5 0 ∷ t 12 1 0 ∷ t 23 10 0 ∷ t 12 1 0 ∷ t 22 7 0 ∷ t 3 0 0 ∷ t 12 1 0 ∷ t 4 0 0 ∷ t 22 7 0 ∷ []), Err (Unfit 3)) ∷  -- kind 23 after a constructor
    ((t 1 5 0 ∷ t 12 1 0 ∷ t 24 0 0 ∷ t 22 7 0 ∷ t 22 7 0 ∷ t 3 0 0 ∷ t 12 1 0 ∷ t 4 0 0 ∷ t 22 7 0 ∷ []), Err (Unfit 3)) ∷  -- kind 24 after a constructor
    ((t 1 5 0 ∷ t 12 1 0 ∷ t 25 10 0 ∷ t 22 7 0 ∷ t 3 0 0 ∷ t 12 1 0 ∷ t 4 0 0 ∷ t 22 7 0 ∷ []), Err (Unfit 3)) ∷  -- kind 25 after a constructor
    ((t 1 5 0 ∷ t 12 1 0 ∷ t 26 10 1 ∷ t 22 7 0 ∷ t 3 0 0 ∷ t 12 1 0 ∷ t 4 0 0 ∷ t 22 7 0 ∷ []), Err (Unfit 3)) ∷  -- kind 26 after a constructor
    ((t 1 5 0 ∷ t 12 1 0 ∷ t 27 0 1 ∷ t 22 7 0 ∷ t 41 0 0 ∷ t 22 7 0 ∷ t 3 0 0 ∷ t 12 1 0 ∷ t 4 0 0 ∷ t 22 7 0 ∷ []), Err (Unfit 3)) ∷  -- kind 27 after a constructor
    ((t 1 5 0 ∷ t 12 1 0 ∷ t 28 1 0 ∷ t 22 7 0 ∷ t 22 7 0 ∷ t 3 0 0 ∷ t 12 1 0 ∷ t 4 0 0 ∷ t 22 7 0 ∷ []), Err (Unfit 3)) ∷  -- kind 28 after a constructor
    ((t 1 5 0 ∷ t 12 1 0 ∷ t 29 0 0 ∷ t 22 7 0 ∷ t 22 7 0 ∷ t 22 7 0 ∷ t 3 0 0 ∷ t 12 1 0 ∷ t 4 0 0 ∷ t 22 7 0 ∷ []), Err (Unfit 3)) ∷  -- kind 29 after a constructor
    ((t 1 5 0 ∷ t 12 1 0 ∷ t 30 10 1 ∷ t 22 7 0 ∷ t 3 0 0 ∷ t 12 1 0 ∷ t 4 0 0 ∷ t 22 7 0 ∷ []), Err (Unfit 3)) ∷  -- kind 30 after a constructor
    ((t 1 5 0 ∷ t 12 1 0 ∷ t 41 0 0 ∷ t 3 0 0 ∷ t 12 1 0 ∷ t 4 0 0 ∷ t 22 7 0 ∷ []), Err (Unfit 3)) ∷  -- kind 41 after a constructor
    ((t 1 5 0 ∷ t 12 1 0 ∷ t 42 10 0 ∷ t 3 0 0 ∷ t 12 1 0 ∷ t 4 0 0 ∷ t 22 7 0 ∷ []), Err (Unfit 3)) ∷  -- kind 42 after a constructor
    ((t 1 5 0 ∷ t 12 1 0 ∷ t 43 10 1 ∷ t 41 0 0 ∷ t 3 0 0 ∷ t 12 1 0 ∷ t 4 0 0 ∷ t 22 7 0 ∷ []), Err (Unfit 3)) ∷  -- kind 43 after a constructor
    ((t 1 5 0 ∷ t 12 1 0 ∷ t 0 1 0 ∷ t 3 0 0 ∷ t 12 1 0 ∷ t 4 0 0 ∷ t 22 7 0 ∷ []), Err (Unfit 3)) ∷  -- kind 0 after a constructor
    ((t 1 5 0 ∷ t 12 1 0 ∷ t 5 1 0 ∷ t 3 0 0 ∷ t 12 1 0 ∷ t 4 0 0 ∷ t 22 7 0 ∷ []), Err (Unfit 3)) ∷  -- kind 5 after a constructor
    ((t 1 5 0 ∷ t 12 1 0 ∷ t 6 1 0 ∷ t 3 0 0 ∷ t 12 1 0 ∷ t 4 0 0 ∷ t 22 7 0 ∷ []), Err (Unfit 3)) ∷  -- kind 6 after a constructor
    ((t 1 5 0 ∷ t 12 1 0 ∷ t 7 1 0 ∷ t 3 0 0 ∷ t 12 1 0 ∷ t 4 0 0 ∷ t 22 7 0 ∷ []), Err (Unfit 3)) ∷  -- kind 7 after a constructor
    ((t 1 5 0 ∷ t 12 1 0 ∷ t 8 1 0 ∷ t 3 0 0 ∷ t 12 1 0 ∷ t 4 0 0 ∷ t 22 7 0 ∷ []), Err (Unfit 3)) ∷  -- kind 8 after a constructor
    ((t 1 5 0 ∷ t 12 1 0 ∷ t 9 1 0 ∷ t 3 0 0 ∷ t 12 1 0 ∷ t 4 0 0 ∷ t 22 7 0 ∷ []), Err (Unfit 3)) ∷  -- kind 9 after a constructor
    ((t 1 5 0 ∷ t 12 1 0 ∷ t 10 1 0 ∷ t 3 0 0 ∷ t 12 1 0 ∷ t 4 0 0 ∷ t 22 7 0 ∷ []), Err (Unfit 3)) ∷  -- kind 10 after a constructor
    ((t 1 5 0 ∷ t 12 1 0 ∷ t 17 1 0 ∷ t 3 0 0 ∷ t 12 1 0 ∷ t 4 0 0 ∷ t 22 7 0 ∷ []), Err (Unfit 3)) ∷  -- kind 17 after a constructor
    ((t 1 5 0 ∷ t 12 1 0 ∷ t 18 1 0 ∷ t 3 0 0 ∷ t 12 1 0 ∷ t 4 0 0 ∷ t 22 7 0 ∷ []), Err (Unfit 3)) ∷  -- kind 18 after a constructor
    ((t 1 5 0 ∷ t 12 1 0 ∷ t 19 1 0 ∷ t 3 0 0 ∷ t 12 1 0 ∷ t 4 0 0 ∷ t 22 7 0 ∷ []), Err (Unfit 3)) ∷  -- kind 19 after a constructor
    ((t 1 5 0 ∷ t 12 1 0 ∷ t 20 1 0 ∷ t 3 0 0 ∷ t 12 1 0 ∷ t 4 0 0 ∷ t 22 7 0 ∷ []), Err (Unfit 3)) ∷  -- kind 20 after a constructor
    ((t 1 5 0 ∷ t 12 1 0 ∷ t 31 1 0 ∷ t 3 0 0 ∷ t 12 1 0 ∷ t 4 0 0 ∷ t 22 7 0 ∷ []), Err (Unfit 3)) ∷  -- kind 31 after a constructor
    ((t 1 5 0 ∷ t 12 1 0 ∷ t 32 1 0 ∷ t 3 0 0 ∷ t 12 1 0 ∷ t 4 0 0 ∷ t 22 7 0 ∷ []), Err (Unfit 3)) ∷  -- kind 32 after a constructor
    ((t 1 5 0 ∷ t 12 1 0 ∷ t 35 1 0 ∷ t 3 0 0 ∷ t 12 1 0 ∷ t 4 0 0 ∷ t 22 7 0 ∷ []), Err (Unfit 3)) ∷  -- kind 35 after a constructor
    ((t 1 5 0 ∷ t 12 1 0 ∷ t 39 1 0 ∷ t 3 0 0 ∷ t 12 1 0 ∷ t 4 0 0 ∷ t 22 7 0 ∷ []), Err (Unfit 3)) ∷  -- kind 39 after a constructor
    ((t 1 5 0 ∷ t 12 1 0 ∷ t 40 1 0 ∷ t 3 0 0 ∷ t 12 1 0 ∷ t 4 0 0 ∷ t 22 7 0 ∷ []), Err (Unfit 3)) ∷  -- kind 40 after a constructor
    ((t 1 5 0 ∷ t 12 1 0 ∷ t 44 1 0 ∷ t 3 0 0 ∷ t 12 1 0 ∷ t 4 0 0 ∷ t 22 7 0 ∷ []), Err (Unfit 3)) ∷  -- kind 44 after a constructor
    ((t 1 5 0 ∷ t 12 1 0 ∷ t 45 1 0 ∷ t 3 0 0 ∷ t 12 1 0 ∷ t 4 0 0 ∷ t 22 7 0 ∷ []), Err (Unfit 3)) ∷  -- kind 45 after a constructor
    ((t 1 5 0 ∷ t 12 1 0 ∷ t 51 1 0 ∷ t 3 0 0 ∷ t 12 1 0 ∷ t 4 0 0 ∷ t 22 7 0 ∷ []), Err (Unfit 3)) ∷  -- kind 51 after a constructor
    ((t 1 5 0 ∷ t 12 1 0 ∷ t 99 1 0 ∷ t 3 0 0 ∷ t 12 1 0 ∷ t 4 0 0 ∷ t 22 7 0 ∷ []), Err (Unfit 3)) ∷  -- kind 99 after a constructor
    ((t 1 5 0 ∷ t 12 1 0 ∷ t 100 1 0 ∷ t 3 0 0 ∷ t 12 1 0 ∷ t 4 0 0 ∷ t 22 7 0 ∷ []), Err (Unfit 3)) ∷  -- kind 100 after a constructor
    ((t 1 5 0 ∷ t 12 1 0 ∷ t 101 1 0 ∷ t 3 0 0 ∷ t 12 1 0 ∷ t 4 0 0 ∷ t 22 7 0 ∷ []), Err (Unfit 3)) ∷  -- kind 101 after a constructor
    ((t 1 5 0 ∷ t 12 1 0 ∷ t 104 1 0 ∷ t 3 0 0 ∷ t 12 1 0 ∷ t 4 0 0 ∷ t 22 7 0 ∷ []), Err (Unfit 3)) ∷  -- kind 104 after a constructor
    ((t 1 5 0 ∷ t 12 1 0 ∷ t 111 1 0 ∷ t 3 0 0 ∷ t 12 1 0 ∷ t 4 0 0 ∷ t 22 7 0 ∷ []), Err (Unfit 3)) ∷  -- kind 111 after a constructor
    ((t 1 5 0 ∷ t 12 1 0 ∷ t 112 1 0 ∷ t 3 0 0 ∷ t 12 1 0 ∷ t 4 0 0 ∷ t 22 7 0 ∷ []), Err (Unfit 3)) ∷  -- kind 112 after a constructor
    ((t 1 5 0 ∷ t 12 1 0 ∷ t 122 1 0 ∷ t 3 0 0 ∷ t 12 1 0 ∷ t 4 0 0 ∷ t 22 7 0 ∷ []), Err (Unfit 3)) ∷  -- kind 122 after a constructor
    ((t 1 5 0 ∷ t 12 1 0 ∷ t 143 1 0 ∷ t 3 0 0 ∷ t 12 1 0 ∷ t 4 0 0 ∷ t 22 7 0 ∷ []), Err (Unfit 3)) ∷  -- kind 143 after a constructor
    ((t 1 5 0 ∷ t 12 1 0 ∷ t 999 1 0 ∷ t 3 0 0 ∷ t 12 1 0 ∷ t 4 0 0 ∷ t 22 7 0 ∷ []), Err (Unfit 3)) ∷  -- kind 999 after a constructor
    ((t 2 5 0 ∷ t 12 1 0 ∷ t 1 10 0 ∷ t 12 1 0 ∷ t 3 0 0 ∷ t 12 1 0 ∷ t 4 0 0 ∷ t 22 7 0 ∷ []), Err (Unfit 3)) ∷  -- kind 1 after a variable
    ((t 2 5 0 ∷ t 12 1 0 ∷ t 2 10 0 ∷ t 12 1 0 ∷ t 3 0 0 ∷ t 12 1 0 ∷ t 4 0 0 ∷ t 22 7 0 ∷ []), Ok tt) ∷  -- kind 2 after a variable
    ((t 2 5 0 ∷ t 12 1 0 ∷ t 3 0 0 ∷ t 3 0 0 ∷ t 12 1 0 ∷ t 4 0 0 ∷ t 22 7 0 ∷ []), Err (Unfit 4)) ∷  -- kind 3 after a variable
    ((t 2 5 0 ∷ t 12 1 0 ∷ t 4 0 0 ∷ t 3 0 0 ∷ t 12 1 0 ∷ t 4 0 0 ∷ t 22 7 0 ∷ []), Err (Unfit 3)) ∷  -- kind 4 after a variable
    ((t 2 5 0 ∷ t 12 1 0 ∷ t 11 10 0 ∷ t 3 0 0 ∷ t 12 1 0 ∷ t 4 0 0 ∷ t 22 7 0 ∷ []), Err (Unfit 3)) ∷  -- kind 11 after a variable
    ((t 2 5 0 ∷ t 12 1 0 ∷ t 12 1 0 ∷ t 3 0 0 ∷ t 12 1 0 ∷ t 4 0 0 ∷ t 22 7 0 ∷ []), Err (Unfit 3)) ∷  -- kind 12 after a variable
    ((t 2 5 0 ∷ t 12 1 0 ∷ t 13 0 0 ∷ t 12 1 0 ∷ t 12 1 0 ∷ t 3 0 0 ∷ t 12 1 0 ∷ t 4 0 0 ∷ t 22 7 0 ∷ []), Err (Unfit 3)) ∷  -- kind 13 after a variable
    ((t 2 5 0 ∷ t 12 1 0 ∷ t 14 10 0 ∷ t 12 1 0 ∷ t 3 0 0 ∷ t 12 1 0 ∷ t 4 0 0 ∷ t 22 7 0 ∷ []), Err (Unfit 3)) ∷  -- kind 14 after a variable
    ((t 2 5 0 ∷ t 12 1 0 ∷ t 15 0 0 ∷ t 12 1 0 ∷ t 12 1 0 ∷ t 3 0 0 ∷ t 12 1 0 ∷ t 4 0 0 ∷ t 22 7 0 ∷ []), Err (Unfit 3)) ∷  -- kind 15 after a variable
    ((t 2 5 0 ∷ t 12 1 0 ∷ t 16 0 1 ∷ t 12 1 0 ∷ t 3 0 0 ∷ t 12 1 0 ∷ t 4 0 0 ∷ t 22 7 0 ∷ []), Err (Unfit 3)) ∷  -- kind 16 after a variable
    ((t 2 5 0 ∷ t 12 1 0 ∷ t 21 10 0 ∷ t 3 0 0 ∷ t 12 1 0 ∷ t 4 0 0 ∷ t 22 7 0 ∷ []), Err (Unfit 3)) ∷  -- kind 21 after a variable
    ((t 2 5 0 ∷ t 12 1 0 ∷ t 22 7 0 ∷ t 3 0 0 ∷ t 12 1 0 ∷ t 4 0 0 ∷ t 22 7 0 ∷ []), Err (Unfit 3)) ∷  -- kind 22 after a variable
    ((t 2 5 0 ∷ t 12 1 0 ∷ t 23 10 0 ∷ t 12 1 0 ∷ t 22 7 0 ∷ t 3 0 0 ∷ t 12 1 0 ∷ t 4 0 0 ∷ t 22 7 0 ∷ []), Err (Unfit 3)) ∷  -- kind 23 after a variable
    ((t 2 5 0 ∷ t 12 1 0 ∷ t 24 0 0 ∷ t 22 7 0 ∷ t 22 7 0 ∷ t 3 0 0 ∷ t 12 1 0 ∷ t 4 0 0 ∷ t 22 7 0 ∷ []), Err (Unfit 3)) ∷  -- kind 24 after a variable
    ((t 2 5 0 ∷ t 12 1 0 ∷ t 25 10 0 ∷ t 22 7 0 ∷ t 3 0 0 ∷ t 12 1 0 ∷ t 4 0 0 ∷ t 22 7 0 ∷ []), Err (Unfit 3)) ∷  -- kind 25 after a variable
    ((t 2 5 0 ∷ t 12 1 0 ∷ t 26 10 1 ∷ t 22 7 0 ∷ t 3 0 0 ∷ t 12 1 0 ∷ t 4 0 0 ∷ t 22 7 0 ∷ []), Err (Unfit 3)) ∷  -- kind 26 after a variable
    ((t 2 5 0 ∷ t 12 1 0 ∷ t 27 0 1 ∷ t 22 7 0 ∷ t 41 0 0 ∷ t 22 7 0 ∷ t 3 0 0 ∷ t 12 1 0 ∷ t 4 0 0 ∷ t 22 7 0 ∷ []), Err (Unfit 3)) ∷  -- kind 27 after a variable
    ((t 2 5 0 ∷ t 12 1 0 ∷ t 28 1 0 ∷ t 22 7 0 ∷ t 22 7 0 ∷ t 3 0 0 ∷ t 12 1 0 ∷ t 4 0 0 ∷ t 22 7 0 ∷ []), Err (Unfit 3)) ∷  -- kind 28 after a variable
    ((t 2 5 0 ∷ t 12 1 0 ∷ t 29 0 0 ∷ t 22 7 0 ∷ t 22 7 0 ∷ t 22 7 0 ∷ t 3 0 0 ∷ t 12 1 0 ∷ t 4 0 0 ∷ t 22 7 0 ∷ []), Err (Unfit 3)) ∷  -- kind 29 after a variable
    ((t 2 5 0 ∷ t 12 1 0 ∷ t 30 10 1 ∷ t 22 7 0 ∷ t 3 0 0 ∷ t 12 1 0 ∷ t 4 0 0 ∷ t 22 7 0 ∷ []), Err (Unfit 3)) ∷  -- kind 30 after a variable
    ((t 2 5 0 ∷ t 12 1 0 ∷ t 41 0 0 ∷ t 3 0 0 ∷ t 12 1 0 ∷ t 4 0 0 ∷ t 22 7 0 ∷ []), Err (Unfit 3)) ∷  -- kind 41 after a variable
    ((t 2 5 0 ∷ t 12 1 0 ∷ t 42 10 0 ∷ t 3 0 0 ∷ t 12 1 0 ∷ t 4 0 0 ∷ t 22 7 0 ∷ []), Err (Unfit 3)) ∷  -- kind 42 after a variable
    ((t 2 5 0 ∷ t 12 1 0 ∷ t 43 10 1 ∷ t 41 0 0 ∷ t 3 0 0 ∷ t 12 1 0 ∷ t 4 0 0 ∷ t 22 7 0 ∷ []), Err (Unfit 3)) ∷  -- kind 43 after a variable
    ((t 2 5 0 ∷ t 12 1 0 ∷ t 0 1 0 ∷ t 3 0 0 ∷ t 12 1 0 ∷ t 4 0 0 ∷ t 22 7 0 ∷ []), Err (Unfit 3)) ∷  -- kind 0 after a variable
    ((t 2 5 0 ∷ t 12 1 0 ∷ t 5 1 0 ∷ t 3 0 0 ∷ t 12 1 0 ∷ t 4 0 0 ∷ t 22 7 0 ∷ []), Err (Unfit 3)) ∷  -- kind 5 after a variable
    ((t 2 5 0 ∷ t 12 1 0 ∷ t 6 1 0 ∷ t 3 0 0 ∷ t 12 1 0 ∷ t 4 0 0 ∷ t 22 7 0 ∷ []), Err (Unfit 3)) ∷  -- kind 6 after a variable
    ((t 2 5 0 ∷ t 12 1 0 ∷ t 7 1 0 ∷ t 3 0 0 ∷ t 12 1 0 ∷ t 4 0 0 ∷ t 22 7 0 ∷ []), Err (Unfit 3)) ∷  -- kind 7 after a variable
    ((t 2 5 0 ∷ t 12 1 0 ∷ t 8 1 0 ∷ t 3 0 0 ∷ t 12 1 0 ∷ t 4 0 0 ∷ t 22 7 0 ∷ []), Err (Unfit 3)) ∷  -- kind 8 after a variable
    ((t 2 5 0 ∷ t 12 1 0 ∷ t 9 1 0 ∷ t 3 0 0 ∷ t 12 1 0 ∷ t 4 0 0 ∷ t 22 7 0 ∷ []), Err (Unfit 3)) ∷  -- kind 9 after a variable
    ((t 2 5 0 ∷ t 12 1 0 ∷ t 10 1 0 ∷ t 3 0 0 ∷ t 12 1 0 ∷ t 4 0 0 ∷ t 22 7 0 ∷ []), Err (Unfit 3)) ∷  -- kind 10 after a variable
    ((t 2 5 0 ∷ t 12 1 0 ∷ t 17 1 0 ∷ t 3 0 0 ∷ t 12 1 0 ∷ t 4 0 0 ∷ t 22 7 0 ∷ []), Err (Unfit 3)) ∷  -- kind 17 after a variable
    ((t 2 5 0 ∷ t 12 1 0 ∷ t 18 1 0 ∷ t 3 0 0 ∷ t 12 1 0 ∷ t 4 0 0 ∷ t 22 7 0 ∷ []), Err (Unfit 3)) ∷  -- kind 18 after a variable
    ((t 2 5 0 ∷ t 12 1 0 ∷ t 19 1 0 ∷ t 3 0 0 ∷ t 12 1 0 ∷ t 4 0 0 ∷ t 22 7 0 ∷ []), Err (Unfit 3)) ∷  -- kind 19 after a variable
    ((t 2 5 0 ∷ t 12 1 0 ∷ t 20 1 0 ∷ t 3 0 0 ∷ t 12 1 0 ∷ t 4 0 0 ∷ t 22 7 0 ∷ []), Err (Unfit 3)) ∷  -- kind 20 after a variable
    ((t 2 5 0 ∷ t 12 1 0 ∷ t 31 1 0 ∷ t 3 0 0 ∷ t 12 1 0 ∷ t 4 0 0 ∷ t 22 7 0 ∷ []), Err (Unfit 3)) ∷  -- kind 31 after a variable
    ((t 2 5 0 ∷ t 12 1 0 ∷ t 32 1 0 ∷ t 3 0 0 ∷ t 12 1 0 ∷ t 4 0 0 ∷ t 22 7 0 ∷ []), Err (Unfit 3)) ∷  -- kind 32 after a variable
    ((t 2 5 0 ∷ t 12 1 0 ∷ t 35 1 0 ∷ t 3 0 0 ∷ t 12 1 0 ∷ t 4 0 0 ∷ t 22 7 0 ∷ []), Err (Unfit 3)) ∷  -- kind 35 after a variable
    ((t 2 5 0 ∷ t 12 1 0 ∷ t 39 1 0 ∷ t 3 0 0 ∷ t 12 1 0 ∷ t 4 0 0 ∷ t 22 7 0 ∷ []), Err (Unfit 3)) ∷  -- kind 39 after a variable
    ((t 2 5 0 ∷ t 12 1 0 ∷ t 40 1 0 ∷ t 3 0 0 ∷ t 12 1 0 ∷ t 4 0 0 ∷ t 22 7 0 ∷ []), Err (Unfit 3)) ∷  -- kind 40 after a variable
    ((t 2 5 0 ∷ t 12 1 0 ∷ t 44 1 0 ∷ t 3 0 0 ∷ t 12 1 0 ∷ t 4 0 0 ∷ t 22 7 0 ∷ []), Err (Unfit 3)) ∷  -- kind 44 after a variable
    ((t 2 5 0 ∷ t 12 1 0 ∷ t 45 1 0 ∷ t 3 0 0 ∷ t 12 1 0 ∷ t 4 0 0 ∷ t 22 7 0 ∷ []), Err (Unfit 3)) ∷  -- kind 45 after a variable
    ((t 2 5 0 ∷ t 12 1 0 ∷ t 51 1 0 ∷ t 3 0 0 ∷ t 12 1 0 ∷ t 4 0 0 ∷ t 22 7 0 ∷ []), Err (Unfit 3)) ∷  -- kind 51 after a variable
    ((t 2 5 0 ∷ t 12 1 0 ∷ t 99 1 0 ∷ t 3 0 0 ∷ t 12 1 0 ∷ t 4 0 0 ∷ t 22 7 0 ∷ []), Err (Unfit 3)) ∷  -- kind 99 after a variable
    ((t 2 5 0 ∷ t 12 1 0 ∷ t 100 1 0 ∷ t 3 0 0 ∷ t 12 1 0 ∷ t 4 0 0 ∷ t 22 7 0 ∷ []), Err (Unfit 3)) ∷  -- kind 100 after a variable
    ((t 2 5 0 ∷ t 12 1 0 ∷ t 101 1 0 ∷ t 3 0 0 ∷ t 12 1 0 ∷ t 4 0 0 ∷ t 22 7 0 ∷ []), Err (Unfit 3)) ∷  -- kind 101 after a variable
    ((t 2 5 0 ∷ t 12 1 0 ∷ t 104 1 0 ∷ t 3 0 0 ∷ t 12 1 0 ∷ t 4 0 0 ∷ t 22 7 0 ∷ []), Err (Unfit 3)) ∷  -- kind 104 after a variable
    ((t 2 5 0 ∷ t 12 1 0 ∷ t 111 1 0 ∷ t 3 0 0 ∷ t 12 1 0 ∷ t 4 0 0 ∷ t 22 7 0 ∷ []), Err (Unfit 3)) ∷  -- kind 111 after a variable
    ((t 2 5 0 ∷ t 12 1 0 ∷ t 112 1 0 ∷ t 3 0 0 ∷ t 12 1 0 ∷ t 4 0 0 ∷ t 22 7 0 ∷ []), Err (Unfit 3)) ∷  -- kind 112 after a variable
    ((t 2 5 0 ∷ t 12 1 0 ∷ t 122 1 0 ∷ t 3 0 0 ∷ t 12 1 0 ∷ t 4 0 0 ∷ t 22 7 0 ∷ []), Err (Unfit 3)) ∷  -- kind 122 after a variable
    ((t 2 5 0 ∷ t 12 1 0 ∷ t 143 1 0 ∷ t 3 0 0 ∷ t 12 1 0 ∷ t 4 0 0 ∷ t 22 7 0 ∷ []), Err (Unfit 3)) ∷  -- kind 143 after a variable
    ((t 2 5 0 ∷ t 12 1 0 ∷ t 999 1 0 ∷ t 3 0 0 ∷ t 12 1 0 ∷ t 4 0 0 ∷ t 22 7 0 ∷ []), Err (Unfit 3)) ∷  -- kind 999 after a variable
    ((t 1 5 0 ∷ t 1 10 0 ∷ t 12 1 0 ∷ t 3 0 0 ∷ t 12 1 0 ∷ t 4 0 0 ∷ t 22 7 0 ∷ []), Err (Unfit 2)) ∷  -- kind 1 as an entry's type
    ((t 1 5 0 ∷ t 2 10 0 ∷ t 12 1 0 ∷ t 3 0 0 ∷ t 12 1 0 ∷ t 4 0 0 ∷ t 22 7 0 ∷ []), Err (Unfit 2)) ∷  -- kind 2 as an entry's type
    ((t 1 5 0 ∷ t 3 0 0 ∷ t 3 0 0 ∷ t 12 1 0 ∷ t 4 0 0 ∷ t 22 7 0 ∷ []), Err (Unfit 2)) ∷  -- kind 3 as an entry's type
    ((t 1 5 0 ∷ t 4 0 0 ∷ t 3 0 0 ∷ t 12 1 0 ∷ t 4 0 0 ∷ t 22 7 0 ∷ []), Err (Unfit 2)) ∷  -- kind 4 as an entry's type
    ((t 1 5 0 ∷ t 11 10 0 ∷ t 3 0 0 ∷ t 12 1 0 ∷ t 4 0 0 ∷ t 22 7 0 ∷ []), Ok tt) ∷  -- kind 11 as an entry's type
    ((t 1 5 0 ∷ t 12 1 0 ∷ t 3 0 0 ∷ t 12 1 0 ∷ t 4 0 0 ∷ t 22 7 0 ∷ []), Ok tt) ∷  -- kind 12 as an entry's type
    ((t 1 5 0 ∷ t 13 0 0 ∷ t 12 1 0 ∷ t 12 1 0 ∷ t 3 0 0 ∷ t 12 1 0 ∷ t 4 0 0 ∷ t 22 7 0 ∷ []), Ok tt) ∷  -- kind 13 as an entry's type
    ((t 1 5 0 ∷ t 14 10 0 ∷ t 12 1 0 ∷ t 3 0 0 ∷ t 12 1 0 ∷ t 4 0 0 ∷ t 22 7 0 ∷ []), Ok tt) ∷  -- kind 14 as an entry's type
    ((t 1 5 0 ∷ t 15 0 0 ∷ t 12 1 0 ∷ t 12 1 0 ∷ t 3 0 0 ∷ t 12 1 0 ∷ t 4 0 0 ∷ t 22 7 0 ∷ []), Ok tt) ∷  -- kind 15 as an entry's type
    ((t 1 5 0 ∷ t 16 0 1 ∷ t 12 1 0 ∷ t 3 0 0 ∷ t 12 1 0 ∷ t 4 0 0 ∷ t 22 7 0 ∷ []), Ok tt) ∷  -- kind 16 as an entry's type
    ((t 1 5 0 ∷ t 21 10 0 ∷ t 3 0 0 ∷ t 12 1 0 ∷ t 4 0 0 ∷ t 22 7 0 ∷ []), Err (Unfit 2)) ∷  -- kind 21 as an entry's type
    ((t 1 5 0 ∷ t 22 7 0 ∷ t 3 0 0 ∷ t 12 1 0 ∷ t 4 0 0 ∷ t 22 7 0 ∷ []), Err (Unfit 2)) ∷  -- kind 22 as an entry's type
    ((t 1 5 0 ∷ t 23 10 0 ∷ t 12 1 0 ∷ t 22 7 0 ∷ t 3 0 0 ∷ t 12 1 0 ∷ t 4 0 0 ∷ t 22 7 0 ∷ []), Err (Unfit 2)) ∷  -- kind 23 as an entry's type
    ((t 1 5 0 ∷ t 24 0 0 ∷ t 22 7 0 ∷ t 22 7 0 ∷ t 3 0 0 ∷ t 12 1 0 ∷ t 4 0 0 ∷ t 22 7 0 ∷ []), Err (Unfit 2)) ∷  -- kind 24 as an entry's type
    ((t 1 5 0 ∷ t 25 10 0 ∷ t 22 7 0 ∷ t 3 0 0 ∷ t 12 1 0 ∷ t 4 0 0 ∷ t 22 7 0 ∷ []), Err (Unfit 2)) ∷  -- kind 25 as an entry's type
    ((t 1 5 0 ∷ t 26 10 1 ∷ t 22 7 0 ∷ t 3 0 0 ∷ t 12 1 0 ∷ t 4 0 0 ∷ t 22 7 0 ∷ []), Err (Unfit 2)) ∷  -- kind 26 as an entry's type
    ((t 1 5 0 ∷ t 27 0 1 ∷ t 22 7 0 ∷ t 41 0 0 ∷ t 22 7 0 ∷ t 3 0 0 ∷ t 12 1 0 ∷ t 4 0 0 ∷ t 22 7 0 ∷ []), Err (Unfit 2)) ∷  -- kind 27 as an entry's type
    ((t 1 5 0 ∷ t 28 1 0 ∷ t 22 7 0 ∷ t 22 7 0 ∷ t 3 0 0 ∷ t 12 1 0 ∷ t 4 0 0 ∷ t 22 7 0 ∷ []), Err (Unfit 2)) ∷  -- kind 28 as an entry's type
    ((t 1 5 0 ∷ t 29 0 0 ∷ t 22 7 0 ∷ t 22 7 0 ∷ t 22 7 0 ∷ t 3 0 0 ∷ t 12 1 0 ∷ t 4 0 0 ∷ t 22 7 0 ∷ []), Err (Unfit 2)) ∷  -- kind 29 as an entry's type
    ((t 1 5 0 ∷ t 30 10 1 ∷ t 22 7 0 ∷ t 3 0 0 ∷ t 12 1 0 ∷ t 4 0 0 ∷ t 22 7 0 ∷ []), Err (Unfit 2)) ∷  -- kind 30 as an entry's type
    ((t 1 5 0 ∷ t 41 0 0 ∷ t 3 0 0 ∷ t 12 1 0 ∷ t 4 0 0 ∷ t 22 7 0 ∷ []), Err (Unfit 2)) ∷  -- kind 41 as an entry's type
    ((t 1 5 0 ∷ t 42 10 0 ∷ t 3 0 0 ∷ t 12 1 0 ∷ t 4 0 0 ∷ t 22 7 0 ∷ []), Err (Unfit 2)) ∷  -- kind 42 as an entry's type
    ((t 1 5 0 ∷ t 43 10 1 ∷ t 41 0 0 ∷ t 3 0 0 ∷ t 12 1 0 ∷ t 4 0 0 ∷ t 22 7 0 ∷ []), Err (Unfit 2)) ∷  -- kind 43 as an entry's type
    ((t 1 5 0 ∷ t 0 1 0 ∷ t 3 0 0 ∷ t 12 1 0 ∷ t 4 0 0 ∷ t 22 7 0 ∷ []), Err (Unfit 2)) ∷  -- kind 0 as an entry's type
    ((t 1 5 0 ∷ t 5 1 0 ∷ t 3 0 0 ∷ t 12 1 0 ∷ t 4 0 0 ∷ t 22 7 0 ∷ []), Err (Unfit 2)) ∷  -- kind 5 as an entry's type
    ((t 1 5 0 ∷ t 6 1 0 ∷ t 3 0 0 ∷ t 12 1 0 ∷ t 4 0 0 ∷ t 22 7 0 ∷ []), Err (Unfit 2)) ∷  -- kind 6 as an entry's type
    ((t 1 5 0 ∷ t 7 1 0 ∷ t 3 0 0 ∷ t 12 1 0 ∷ t 4 0 0 ∷ t 22 7 0 ∷ []), Err (Unfit 2)) ∷  -- kind 7 as an entry's type
    ((t 1 5 0 ∷ t 8 1 0 ∷ t 3 0 0 ∷ t 12 1 0 ∷ t 4 0 0 ∷ t 22 7 0 ∷ []), Err (Unfit 2)) ∷  -- kind 8 as an entry's type
    ((t 1 5 0 ∷ t 9 1 0 ∷ t 3 0 0 ∷ t 12 1 0 ∷ t 4 0 0 ∷ t 22 7 0 ∷ []), Err (Unfit 2)) ∷  -- kind 9 as an entry's type
    ((t 1 5 0 ∷ t 10 1 0 ∷ t 3 0 0 ∷ t 12 1 0 ∷ t 4 0 0 ∷ t 22 7 0 ∷ []), Err (Unfit 2)) ∷  -- kind 10 as an entry's type
    ((t 1 5 0 ∷ t 17 1 0 ∷ t 3 0 0 ∷ t 12 1 0 ∷ t 4 0 0 ∷ t 22 7 0 ∷ []), Err (Unfit 2)) ∷  -- kind 17 as an entry's type
    ((t 1 5 0 ∷ t 18 1 0 ∷ t 3 0 0 ∷ t 12 1 0 ∷ t 4 0 0 ∷ t 22 7 0 ∷ []), Err (Unfit 2)) ∷  -- kind 18 as an entry's type
    ((t 1 5 0 ∷ t 19 1 0 ∷ t 3 0 0 ∷ t 12 1 0 ∷ t 4 0 0 ∷ t 22 7 0 ∷ []), Err (Unfit 2)) ∷  -- kind 19 as an entry's type
    ((t 1 5 0 ∷ t 20 1 0 ∷ t 3 0 0 ∷ t 12 1 0 ∷ t 4 0 0 ∷ t 22 7 0 ∷ []), Err (Unfit 2)) ∷  -- kind 20 as an entry's type
    ((t 1 5 0 ∷ t 31 1 0 ∷ t 3 0 0 ∷ t 12 1 0 ∷ t 4 0 0 ∷ t 22 7 0 ∷ []), Err (Unfit 2)) ∷  -- kind 31 as an entry's type
    ((t 1 5 0 ∷ t 32 1 0 ∷ t 3 0 0 ∷ t 12 1 0 ∷ t 4 0 0 ∷ t 22 7 0 ∷ []), Err (Unfit 2)) ∷  -- kind 32 as an entry's type
    ((t 1 5 0 ∷ t 35 1 0 ∷ t 3 0 0 ∷ t 12 1 0 ∷ t 4 0 0 ∷ t 22 7 0 ∷ []), Err (Unfit 2)) ∷  -- kind 35 as an entry's type
    ((t 1 5 0 ∷ t 39 1 0 ∷ t 3 0 0 ∷ t 12 1 0 ∷ t 4 0 0 ∷ t 22 7 0 ∷ []), Err (Unfit 2)) ∷  -- kind 39 as an entry's type
    ((t 1 5 0 ∷ t 40 1 0 ∷ t 3 0 0 ∷ t 12 1 0 ∷ t 4 0 0 ∷ t 22 7 0 ∷ []), Err (Unfit 2)) ∷  -- kind 40 as an entry's type
    ((t 1 5 0 ∷ t 44 1 0 ∷ t 3 0 0 ∷ t 12 1 0 ∷ t 4 0 0 ∷ t 22 7 0 ∷ []), Err (Unfit 2)) ∷  -- kind 44 as an entry's type
    ((t 1 5 0 ∷ t 45 1 0 ∷ t 3 0 0 ∷ t 12 1 0 ∷ t 4 0 0 ∷ t 22 7 0 ∷ []), Err (Unfit 2)) ∷  -- kind 45 as an entry's type
    ((t 1 5 0 ∷ t 51 1 0 ∷ t 3 0 0 ∷ t 12 1 0 ∷ t 4 0 0 ∷ t 22 7 0 ∷ []), Err (Unfit 2)) ∷  -- kind 51 as an entry's type
    ((t 1 5 0 ∷ t 99 1 0 ∷ t 3 0 0 ∷ t 12 1 0 ∷ t 4 0 0 ∷ t 22 7 0 ∷ []), Err (Unfit 2)) ∷  -- kind 99 as an entry's type
    ((t 1 5 0 ∷ t 100 1 0 ∷ t 3 0 0 ∷ t 12 1 0 ∷ t 4 0 0 ∷ t 22 7 0 ∷ []), Err (Unfit 2)) ∷  -- kind 100 as an entry's type
    ((t 1 5 0 ∷ t 101 1 0 ∷ t 3 0 0 ∷ t 12 1 0 ∷ t 4 0 0 ∷ t 22 7 0 ∷ []), Err (Unfit 2)) ∷  -- kind 101 as an entry's type
    ((t 1 5 0 ∷ t 104 1 0 ∷ t 3 0 0 ∷ t 12 1 0 ∷ t 4 0 0 ∷ t 22 7 0 ∷ []), Err (Unfit 2)) ∷  -- kind 104 as an entry's type
    ((t 1 5 0 ∷ t 111 1 0 ∷ t 3 0 0 ∷ t 12 1 0 ∷ t 4 0 0 ∷ t 22 7 0 ∷ []), Err (Unfit 2)) ∷  -- kind 111 as an entry's type
    ((t 1 5 0 ∷ t 112 1 0 ∷ t 3 0 0 ∷ t 12 1 0 ∷ t 4 0 0 ∷ t 22 7 0 ∷ []), Err (Unfit 2)) ∷  -- kind 112 as an entry's type
    ((t 1 5 0 ∷ t 122 1 0 ∷ t 3 0 0 ∷ t 12 1 0 ∷ t 4 0 0 ∷ t 22 7 0 ∷ []), Err (Unfit 2)) ∷  -- kind 122 as an entry's type
    ((t 1 5 0 ∷ t 143 1 0 ∷ t 3 0 0 ∷ t 12 1 0 ∷ t 4 0 0 ∷ t 22 7 0 ∷ []), Err (Unfit 2)) ∷  -- kind 143 as an entry's type
    ((t 1 5 0 ∷ t 999 1 0 ∷ t 3 0 0 ∷ t 12 1 0 ∷ t 4 0 0 ∷ t 22 7 0 ∷ []), Err (Unfit 2)) ∷  -- kind 999 as an entry's type
    ((t 3 0 0 ∷ t 1 10 0 ∷ t 12 1 0 ∷ t 4 0 0 ∷ t 22 7 0 ∷ []), Err (Unfit 2)) ∷  -- kind 1 as the expected type
    ((t 3 0 0 ∷ t 2 10 0 ∷ t 12 1 0 ∷ t 4 0 0 ∷ t 22 7 0 ∷ []), Err (Unfit 2)) ∷  -- kind 2 as the expected type
    ((t 3 0 0 ∷ t 3 0 0 ∷ t 4 0 0 ∷ t 22 7 0 ∷ []), Err (Unfit 2)) ∷  -- kind 3 as the expected type
    ((t 3 0 0 ∷ t 4 0 0 ∷ t 4 0 0 ∷ t 22 7 0 ∷ []), Err (Unfit 2)) ∷  -- kind 4 as the expected type
    ((t 3 0 0 ∷ t 11 10 0 ∷ t 4 0 0 ∷ t 22 7 0 ∷ []), Ok tt) ∷  -- kind 11 as the expected type
    ((t 3 0 0 ∷ t 12 1 0 ∷ t 4 0 0 ∷ t 22 7 0 ∷ []), Ok tt) ∷  -- kind 12 as the expected type
    ((t 3 0 0 ∷ t 13 0 0 ∷ t 12 1 0 ∷ t 12 1 0 ∷ t 4 0 0 ∷ t 22 7 0 ∷ []), Ok tt) ∷  -- kind 13 as the expected type
    ((t 3 0 0 ∷ t 14 10 0 ∷ t 12 1 0 ∷ t 4 0 0 ∷ t 22 7 0 ∷ []), Ok tt) ∷  -- kind 14 as the expected type
    ((t 3 0 0 ∷ t 15 0 0 ∷ t 12 1 0 ∷ t 12 1 0 ∷ t 4 0 0 ∷ t 22 7 0 ∷ []), Ok tt) ∷  -- kind 15 as the expected type
    ((t 3 0 0 ∷ t 16 0 1 ∷ t 12 1 0 ∷ t 4 0 0 ∷ t 22 7 0 ∷ []), Ok tt) ∷  -- kind 16 as the expected type
    ((t 3 0 0 ∷ t 21 10 0 ∷ t 4 0 0 ∷ t 22 7 0 ∷ []), Err (Unfit 2)) ∷  -- kind 21 as the expected type
    ((t 3 0 0 ∷ t 22 7 0 ∷ t 4 0 0 ∷ t 22 7 0 ∷ []), Err (Unfit 2)) ∷  -- kind 22 as the expected type
    ((t 3 0 0 ∷ t 23 10 0 ∷ t 12 1 0 ∷ t 22 7 0 ∷ t 4 0 0 ∷ t 22 7 0 ∷ []), Err (Unfit 2)) ∷  -- kind 23 as the expected type
    ((t 3 0 0 ∷ t 24 0 0 ∷ t 22 7 0 ∷ t 22 7 0 ∷ t 4 0 0 ∷ t 22 7 0 ∷ []), Err (Unfit 2)) ∷  -- kind 24 as the expected type
    ((t 3 0 0 ∷ t 25 10 0 ∷ t 22 7 0 ∷ t 4 0 0 ∷ t 22 7 0 ∷ []), Err (Unfit 2)) ∷  -- kind 25 as the expected type
    ((t 3 0 0 ∷ t 26 10 1 ∷ t 22 7 0 ∷ t 4 0 0 ∷ t 22 7 0 ∷ []), Err (Unfit 2)) ∷  -- kind 26 as the expected type
    ((t 3 0 0 ∷ t 27 0 1 ∷ t 22 7 0 ∷ t 41 0 0 ∷ t 22 7 0 ∷ t 4 0 0 ∷ t 22 7 0 ∷ []), Err (Unfit 2)) ∷  -- kind 27 as the expected type
    ((t 3 0 0 ∷ t 28 1 0 ∷ t 22 7 0 ∷ t 22 7 0 ∷ t 4 0 0 ∷ t 22 7 0 ∷ []), Err (Unfit 2)) ∷  -- kind 28 as the expected type
    ((t 3 0 0 ∷ t 29 0 0 ∷ t 22 7 0 ∷ t 22 7 0 ∷ t 22 7 0 ∷ t 4 0 0 ∷ t 22 7 0 ∷ []), Err (Unfit 2)) ∷  -- kind 29 as the expected type
    ((t 3 0 0 ∷ t 30 10 1 ∷ t 22 7 0 ∷ t 4 0 0 ∷ t 22 7 0 ∷ []), Err (Unfit 2)) ∷  -- kind 30 as the expected type
    ((t 3 0 0 ∷ t 41 0 0 ∷ t 4 0 0 ∷ t 22 7 0 ∷ []), Err (Unfit 2)) ∷  -- kind 41 as the expected type
    ((t 3 0 0 ∷ t 42 10 0 ∷ t 4 0 0 ∷ t 22 7 0 ∷ []), Err (Unfit 2)) ∷  -- kind 42 as the expected type
    ((t 3 0 0 ∷ t 43 10 1 ∷ t 41 0 0 ∷ t 4 0 0 ∷ t 22 7 0 ∷ []), Err (Unfit 2)) ∷  -- kind 43 as the expected type
    ((t 3 0 0 ∷ t 0 1 0 ∷ t 4 0 0 ∷ t 22 7 0 ∷ []), Err (Unfit 2)) ∷  -- kind 0 as the expected type
    ((t 3 0 0 ∷ t 5 1 0 ∷ t 4 0 0 ∷ t 22 7 0 ∷ []), Err (Unfit 2)) ∷  -- kind 5 as the expected type
    ((t 3 0 0 ∷ t 6 1 0 ∷ t 4 0 0 ∷ t 22 7 0 ∷ []), Err (Unfit 2)) ∷  -- kind 6 as the expected type
    ((t 3 0 0 ∷ t 7 1 0 ∷ t 4 0 0 ∷ t 22 7 0 ∷ []), Err (Unfit 2)) ∷  -- kind 7 as the expected type
    ((t 3 0 0 ∷ t 8 1 0 ∷ t 4 0 0 ∷ t 22 7 0 ∷ []), Err (Unfit 2)) ∷  -- kind 8 as the expected type
    ((t 3 0 0 ∷ t 9 1 0 ∷ t 4 0 0 ∷ t 22 7 0 ∷ []), Err (Unfit 2)) ∷  -- kind 9 as the expected type
    ((t 3 0 0 ∷ t 10 1 0 ∷ t 4 0 0 ∷ t 22 7 0 ∷ []), Err (Unfit 2)) ∷  -- kind 10 as the expected type
    ((t 3 0 0 ∷ t 17 1 0 ∷ t 4 0 0 ∷ t 22 7 0 ∷ []), Err (Unfit 2)) ∷  -- kind 17 as the expected type
    ((t 3 0 0 ∷ t 18 1 0 ∷ t 4 0 0 ∷ t 22 7 0 ∷ []), Err (Unfit 2)) ∷  -- kind 18 as the expected type
    ((t 3 0 0 ∷ t 19 1 0 ∷ t 4 0 0 ∷ t 22 7 0 ∷ []), Err (Unfit 2)) ∷  -- kind 19 as the expected type
    ((t 3 0 0 ∷ t 20 1 0 ∷ t 4 0 0 ∷ t 22 7 0 ∷ []), Err (Unfit 2)) ∷  -- kind 20 as the expected type
    ((t 3 0 0 ∷ t 31 1 0 ∷ t 4 0 0 ∷ t 22 7 0 ∷ []), Err (Unfit 2)) ∷  -- kind 31 as the expected type
    ((t 3 0 0 ∷ t 32 1 0 ∷ t 4 0 0 ∷ t 22 7 0 ∷ []), Err (Unfit 2)) ∷  -- kind 32 as the expected type
    ((t 3 0 0 ∷ t 35 1 0 ∷ t 4 0 0 ∷ t 22 7 0 ∷ []), Err (Unfit 2)) ∷  -- kind 35 as the expected type
    ((t 3 0 0 ∷ t 39 1 0 ∷ t 4 0 0 ∷ t 22 7 0 ∷ []), Err (Unfit 2)) ∷  -- kind 39 as the expected type
    ((t 3 0 0 ∷ t 40 1 0 ∷ t 4 0 0 ∷ t 22 7 0 ∷ []), Err (Unfit 2)) ∷  -- kind 40 as the expected type
    ((t 3 0 0 ∷ t 44 1 0 ∷ t 4 0 0 ∷ t 22 7 0 ∷ []), Err (Unfit 2)) ∷  -- kind 44 as the expected type
    ((t 3 0 0 ∷ t 45 1 0 ∷ t 4 0 0 ∷ t 22 7 0 ∷ []), Err (Unfit 2)) ∷  -- kind 45 as the expected type
    ((t 3 0 0 ∷ t 51 1 0 ∷ t 4 0 0 ∷ t 22 7 0 ∷ []), Err (Unfit 2)) ∷  -- kind 51 as the expected type
    ((t 3 0 0 ∷ t 99 1 0 ∷ t 4 0 0 ∷ t 22 7 0 ∷ []), Err (Unfit 2)) ∷  -- kind 99 as the expected type
    ((t 3 0 0 ∷ t 100 1 0 ∷ t 4 0 0 ∷ t 22 7 0 ∷ []), Err (Unfit 2)) ∷  -- kind 100 as the expected type
    ((t 3 0 0 ∷ t 101 1 0 ∷ t 4 0 0 ∷ t 22 7 0 ∷ []), Err (Unfit 2)) ∷  -- kind 101 as the expected type
    ((t 3 0 0 ∷ t 104 1 0 ∷ t 4 0 0 ∷ t 22 7 0 ∷ []), Err (Unfit 2)) ∷  -- kind 104 as the expected type
    ((t 3 0 0 ∷ t 111 1 0 ∷ t 4 0 0 ∷ t 22 7 0 ∷ []), Err (Unfit 2)) ∷  -- kind 111 as the expected type
    ((t 3 0 0 ∷ t 112 1 0 ∷ t 4 0 0 ∷ t 22 7 0 ∷ []), Err (Unfit 2)) ∷  -- kind 112 as the expected type
    ((t 3 0 0 ∷ t 122 1 0 ∷ t 4 0 0 ∷ t 22 7 0 ∷ []), Err (Unfit 2)) ∷  -- kind 122 as the expected type
    ((t 3 0 0 ∷ t 143 1 0 ∷ t 4 0 0 ∷ t 22 7 0 ∷ []), Err (Unfit 2)) ∷  -- kind 143 as the expected type
    ((t 3 0 0 ∷ t 999 1 0 ∷ t 4 0 0 ∷ t 22 7 0 ∷ []), Err (Unfit 2)) ∷  -- kind 999 as the expected type
    ((t 3 0 0 ∷ t 12 1 0 ∷ t 1 10 0 ∷ t 12 1 0 ∷ t 22 7 0 ∷ []), Err (Unfit 3)) ∷  -- kind 1 after the expected type
    ((t 3 0 0 ∷ t 12 1 0 ∷ t 2 10 0 ∷ t 12 1 0 ∷ t 22 7 0 ∷ []), Err (Unfit 3)) ∷  -- kind 2 after the expected type
    ((t 3 0 0 ∷ t 12 1 0 ∷ t 3 0 0 ∷ t 22 7 0 ∷ []), Err (Unfit 3)) ∷  -- kind 3 after the expected type
    ((t 3 0 0 ∷ t 12 1 0 ∷ t 4 0 0 ∷ t 22 7 0 ∷ []), Ok tt) ∷  -- kind 4 after the expected type
    ((t 3 0 0 ∷ t 12 1 0 ∷ t 11 10 0 ∷ t 22 7 0 ∷ []), Err (Unfit 3)) ∷  -- kind 11 after the expected type
    ((t 3 0 0 ∷ t 12 1 0 ∷ t 12 1 0 ∷ t 22 7 0 ∷ []), Err (Unfit 3)) ∷  -- kind 12 after the expected type
    ((t 3 0 0 ∷ t 12 1 0 ∷ t 13 0 0 ∷ t 12 1 0 ∷ t 12 1 0 ∷ t 22 7 0 ∷ []), Err (Unfit 3)) ∷  -- kind 13 after the expected type
    ((t 3 0 0 ∷ t 12 1 0 ∷ t 14 10 0 ∷ t 12 1 0 ∷ t 22 7 0 ∷ []), Err (Unfit 3)) ∷  -- kind 14 after the expected type
    ((t 3 0 0 ∷ t 12 1 0 ∷ t 15 0 0 ∷ t 12 1 0 ∷ t 12 1 0 ∷ t 22 7 0 ∷ []), Err (Unfit 3)) ∷  -- kind 15 after the expected type
    ((t 3 0 0 ∷ t 12 1 0 ∷ t 16 0 1 ∷ t 12 1 0 ∷ t 22 7 0 ∷ []), Err (Unfit 3)) ∷  -- kind 16 after the expected type
    ((t 3 0 0 ∷ t 12 1 0 ∷ t 21 10 0 ∷ t 22 7 0 ∷ []), Err (Unfit 3)) ∷  -- kind 21 after the expected type
    ((t 3 0 0 ∷ t 12 1 0 ∷ t 22 7 0 ∷ t 22 7 0 ∷ []), Err (Unfit 3)) ∷  -- kind 22 after the expected type
    ((t 3 0 0 ∷ t 12 1 0 ∷ t 23 10 0 ∷ t 12 1 0 ∷ t 22 7 0 ∷ t 22 7 0 ∷ []), Err (Unfit 3)) ∷  -- kind 23 after the expected type
    ((t 3 0 0 ∷ t 12 1 0 ∷ t 24 0 0 ∷ t 22 7 0 ∷ t 22 7 0 ∷ t 22 7 0 ∷ []), Err (Unfit 3)) ∷  -- kind 24 after the expected type
    ((t 3 0 0 ∷ t 12 1 0 ∷ t 25 10 0 ∷ t 22 7 0 ∷ t 22 7 0 ∷ []), Err (Unfit 3)) ∷  -- kind 25 after the expected type
    ((t 3 0 0 ∷ t 12 1 0 ∷ t 26 10 1 ∷ t 22 7 0 ∷ t 22 7 0 ∷ []), Err (Unfit 3)) ∷  -- kind 26 after the expected type
    ((t 3 0 0 ∷ t 12 1 0 ∷ t 27 0 1 ∷ t 22 7 0 ∷ t 41 0 0 ∷ t 22 7 0 ∷ t 22 7 0 ∷ []), Err (Unfit 3)) ∷  -- kind 27 after the expected type
    ((t 3 0 0 ∷ t 12 1 0 ∷ t 28 1 0 ∷ t 22 7 0 ∷ t 22 7 0 ∷ t 22 7 0 ∷ []), Err (Unfit 3)) ∷  -- kind 28 after the expected type
    ((t 3 0 0 ∷ t 12 1 0 ∷ t 29 0 0 ∷ (times 4 (t 22 7 0 ∷ []) ++ ([]))), Err (Unfit 3)) ∷  -- kind 29 after the expected type
    ((t 3 0 0 ∷ t 12 1 0 ∷ t 30 10 1 ∷ t 22 7 0 ∷ t 22 7 0 ∷ []), Err (Unfit 3)) ∷  -- kind 30 after the expected type
    ((t 3 0 0 ∷ t 12 1 0 ∷ t 41 0 0 ∷ t 22 7 0 ∷ []), Err (Unfit 3)) ∷  -- kind 41 after the expected type
    ((t 3 0 0 ∷ t 12 1 0 ∷ t 42 10 0 ∷ t 22 7 0 ∷ []), Err (Unfit 3)) ∷  -- kind 42 after the expected type
    ((t 3 0 0 ∷ t 12 1 0 ∷ t 43 10 1 ∷ t 41 0 0 ∷ t 22 7 0 ∷ []), Err (Unfit 3)) ∷  -- kind 43 after the expected type
    ((t 3 0 0 ∷ t 12 1 0 ∷ t 0 1 0 ∷ t 22 7 0 ∷ []), Err (Unfit 3)) ∷  -- kind 0 after the expected type
    ((t 3 0 0 ∷ t 12 1 0 ∷ t 5 1 0 ∷ t 22 7 0 ∷ []), Err (Unfit 3)) ∷  -- kind 5 after the expected type
    ((t 3 0 0 ∷ t 12 1 0 ∷ t 6 1 0 ∷ t 22 7 0 ∷ []), Err (Unfit 3)) ∷  -- kind 6 after the expected type
    ((t 3 0 0 ∷ t 12 1 0 ∷ t 7 1 0 ∷ t 22 7 0 ∷ []), Err (Unfit 3)) ∷  -- kind 7 after the expected type
    ((t 3 0 0 ∷ t 12 1 0 ∷ t 8 1 0 ∷ t 22 7 0 ∷ []), Err (Unfit 3)) ∷  -- kind 8 after the expected type
    ((t 3 0 0 ∷ t 12 1 0 ∷ t 9 1 0 ∷ t 22 7 0 ∷ []), Err (Unfit 3)) ∷  -- kind 9 after the expected type
    ((t 3 0 0 ∷ t 12 1 0 ∷ t 10 1 0 ∷ t 22 7 0 ∷ []), Err (Unfit 3)) ∷  -- kind 10 after the expected type
    ((t 3 0 0 ∷ t 12 1 0 ∷ t 17 1 0 ∷ t 22 7 0 ∷ []), Err (Unfit 3)) ∷  -- kind 17 after the expected type
    ((t 3 0 0 ∷ t 12 1 0 ∷ t 18 1 0 ∷ t 22 7 0 ∷ []), Err (Unfit 3)) ∷  -- kind 18 after the expected type
    ((t 3 0 0 ∷ t 12 1 0 ∷ t 19 1 0 ∷ t 22 7 0 ∷ []), Err (Unfit 3)) ∷  -- kind 19 after the expected type
    ((t 3 0 0 ∷ t 12 1 0 ∷ t 20 1 0 ∷ t 22 7 0 ∷ []), Err (Unfit 3)) ∷  -- kind 20 after the expected type
    ((t 3 0 0 ∷ t 12 1 0 ∷ t 31 1 0 ∷ t 22 7 0 ∷ []), Err (Unfit 3)) ∷  -- kind 31 after the expected type
    ((t 3 0 0 ∷ t 12 1 0 ∷ t 32 1 0 ∷ t 22 7 0 ∷ []), Err (Unfit 3)) ∷  -- kind 32 after the expected type
    ((t 3 0 0 ∷ t 12 1 0 ∷ t 35 1 0 ∷ t 22 7 0 ∷ []), Err (Unfit 3)) ∷  -- kind 35 after the expected type
    ((t 3 0 0 ∷ t 12 1 0 ∷ t 39 1 0 ∷ t 22 7 0 ∷ []), Err (Unfit 3)) ∷  -- kind 39 after the expected type
    ((t 3 0 0 ∷ t 12 1 0 ∷ t 40 1 0 ∷ t 22 7 0 ∷ []), Err (Unfit 3)) ∷  -- kind 40 after the expected type
    ((t 3 0 0 ∷ t 12 1 0 ∷ t 44 1 0 ∷ t 22 7 0 ∷ []), Err (Unfit 3)) ∷  -- kind 44 after the expected type
    ((t 3 0 0 ∷ t 12 1 0 ∷ t 45 1 0 ∷ t 22 7 0 ∷ []), Err (Unfit 3)) ∷  -- kind 45 after the expected type
    ((t 3 0 0 ∷ t 12 1 0 ∷ t 51 1 0 ∷ t 22 7 0 ∷ []), Err (Unfit 3)) ∷  -- kind 51 after the expected type
    ((t 3 0 0 ∷ t 12 1 0 ∷ t 99 1 0 ∷ t 22 7 0 ∷ []), Err (Unfit 3)) ∷  -- kind 99 after the expected type
    ((t 3 0 0 ∷ t 12 1 0 ∷ t 100 1 0 ∷ t 22 7 0 ∷ []), Err (Unfit 3)) ∷  -- kind 100 after the expected type
    ((t 3 0 0 ∷ t 12 1 0 ∷ t 101 1 0 ∷ t 22 7 0 ∷ []), Err (Unfit 3)) ∷  -- kind 101 after the expected type
    ((t 3 0 0 ∷ t 12 1 0 ∷ t 104 1 0 ∷ t 22 7 0 ∷ []), Err (Unfit 3)) ∷  -- kind 104 after the expected type
    ((t 3 0 0 ∷ t 12 1 0 ∷ t 111 1 0 ∷ t 22 7 0 ∷ []), Err (Unfit 3)) ∷  -- kind 111 after the expected type
    ((t 3 0 0 ∷ t 12 1 0 ∷ t 112 1 0 ∷ t 22 7 0 ∷ []), Err (Unfit 3)) ∷  -- kind 112 after the expected type
    ((t 3 0 0 ∷ t 12 1 0 ∷ t 122 1 0 ∷ t 22 7 0 ∷ []), Err (Unfit 3)) ∷  -- kind 122 after the expected type
    ((t 3 0 0 ∷ t 12 1 0 ∷ t 143 1 0 ∷ t 22 7 0 ∷ []), Err (Unfit 3)) ∷  -- kind 143 after the expected type
    ((t 3 0 0 ∷ t 12 1 0 ∷ t 999 1 0 ∷ t 22 7 0 ∷ []), Err (Unfit 3)) ∷  -- kind 999 after the expected type
    ((t 3 0 0 ∷ t 12 1 0 ∷ t 4 0 0 ∷ t 1 10 0 ∷ t 12 1 0 ∷ []), Err (Unfit 4)) ∷  -- kind 1 as the term
    ((t 3 0 0 ∷ t 12 1 0 ∷ t 4 0 0 ∷ t 2 10 0 ∷ t 12 1 0 ∷ []), Err (Unfit 4)) ∷  -- kind 2 as the term
    ((t 3 0 0 ∷ t 12 1 0 ∷ t 4 0 0 ∷ t 3 0 0 ∷ []), Err (Unfit 4)) ∷  -- kind 3 as the term
    ((t 3 0 0 ∷ t 12 1 0 ∷ t 4 0 0 ∷ t 4 0 0 ∷ []), Err (Unfit 4)) ∷  -- kind 4 as the term
    ((t 3 0 0 ∷ t 12 1 0 ∷ t 4 0 0 ∷ t 11 10 0 ∷ []), Err (Unfit 4)) ∷  -- kind 11 as the term
    ((t 3 0 0 ∷ t 12 1 0 ∷ t 4 0 0 ∷ t 12 1 0 ∷ []), Err (Unfit 4)) ∷  -- kind 12 as the term
    ((t 3 0 0 ∷ t 12 1 0 ∷ t 4 0 0 ∷ t 13 0 0 ∷ t 12 1 0 ∷ t 12 1 0 ∷ []), Err (Unfit 4)) ∷  -- kind 13 as the term
    ((t 3 0 0 ∷ t 12 1 0 ∷ t 4 0 0 ∷ t 14 10 0 ∷ t 12 1 0 ∷ []), Err (Unfit 4)) ∷  -- kind 14 as the term
    ((t 3 0 0 ∷ t 12 1 0 ∷ t 4 0 0 ∷ t 15 0 0 ∷ t 12 1 0 ∷ t 12 1 0 ∷ []), Err (Unfit 4)) ∷  -- kind 15 as the term
    ((t 3 0 0 ∷ t 12 1 0 ∷ t 4 0 0 ∷ t 16 0 1 ∷ t 12 1 0 ∷ []), Err (Unfit 4)) ∷  -- kind 16 as the term
    ((t 3 0 0 ∷ t 12 1 0 ∷ t 4 0 0 ∷ t 21 10 0 ∷ []), Ok tt) ∷  -- kind 21 as the term
    ((t 3 0 0 ∷ t 12 1 0 ∷ t 4 0 0 ∷ t 22 7 0 ∷ []), Ok tt) ∷  -- kind 22 as the term
    ((t 3 0 0 ∷ t 12 1 0 ∷ t 4 0 0 ∷ t 23 10 0 ∷ t 12 1 0 ∷ t 22 7 0 ∷ []), Ok tt) ∷  -- kind 23 as the term
    ((t 3 0 0 ∷ t 12 1 0 ∷ t 4 0 0 ∷ t 24 0 0 ∷ t 22 7 0 ∷ t 22 7 0 ∷ []), Ok tt) ∷  -- kind 24 as the term
    ((t 3 0 0 ∷ t 12 1 0 ∷ t 4 0 0 ∷ t 25 10 0 ∷ t 22 7 0 ∷ []), Ok tt) ∷  -- kind 25 as the term
    ((t 3 0 0 ∷ t 12 1 0 ∷ t 4 0 0 ∷ t 26 10 1 ∷ t 22 7 0 ∷ []), Ok tt) ∷  -- kind 26 as the term
    ((t 3 0 0 ∷ t 12 1 0 ∷ t 4 0 0 ∷ t 27 0 1 ∷ t 22 7 0 ∷ t 41 0 0 ∷ t 22 7 0 ∷ []), Ok tt) ∷  -- kind 27 as the term
    ((t 3 0 0 ∷ t 12 1 0 ∷ t 4 0 0 ∷ t 28 1 0 ∷ t 22 7 0 ∷ t 22 7 0 ∷ []), Ok tt) ∷  -- kind 28 as the term
    ((t 3 0 0 ∷ t 12 1 0 ∷ t 4 0 0 ∷ t 29 0 0 ∷ t 22 7 0 ∷ t 22 7 0 ∷ t 22 7 0 ∷ []), Ok tt) ∷  -- kind 29 as the term
    ((t 3 0 0 ∷ t 12 1 0 ∷ t 4 0 0 ∷ t 30 10 1 ∷ t 22 7 0 ∷ []), Ok tt) ∷  -- kind 30 as the term
    ((t 3 0 0 ∷ t 12 1 0 ∷ t 4 0 0 ∷ t 41 0 0 ∷ []), Err (Unfit 4)) ∷  -- kind 41 as the term
    ((t 3 0 0 ∷ t 12 1 0 ∷ t 4 0 0 ∷ t 42 10 0 ∷ []), Err (Unfit 4)) ∷  -- kind 42 as the term
    ((t 3 0 0 ∷ t 12 1 0 ∷ t 4 0 0 ∷ t 43 10 1 ∷ t 41 0 0 ∷ []), Err (Unfit 4)) ∷  -- kind 43 as the term
    ((t 3 0 0 ∷ t 12 1 0 ∷ t 4 0 0 ∷ t 0 1 0 ∷ []), Err (Unfit 4)) ∷  -- kind 0 as the term
    ((t 3 0 0 ∷ t 12 1 0 ∷ t 4 0 0 ∷ t 5 1 0 ∷ []), Err (Unfit 4)) ∷  -- kind 5 as the term
    ((t 3 0 0 ∷ t 12 1 0 ∷ t 4 0 0 ∷ t 6 1 0 ∷ []), Err (Unfit 4)) ∷  -- kind 6 as the term
    ((t 3 0 0 ∷ t 12 1 0 ∷ t 4 0 0 ∷ t 7 1 0 ∷ []), Err (Unfit 4)) ∷  -- kind 7 as the term
    ((t 3 0 0 ∷ t 12 1 0 ∷ t 4 0 0 ∷ t 8 1 0 ∷ []), Err (Unfit 4)) ∷  -- kind 8 as the term
    ((t 3 0 0 ∷ t 12 1 0 ∷ t 4 0 0 ∷ t 9 1 0 ∷ []), Err (Unfit 4)) ∷  -- kind 9 as the term
    ((t 3 0 0 ∷ t 12 1 0 ∷ t 4 0 0 ∷ t 10 1 0 ∷ []), Err (Unfit 4)) ∷  -- kind 10 as the term
    ((t 3 0 0 ∷ t 12 1 0 ∷ t 4 0 0 ∷ t 17 1 0 ∷ []), Err (Unfit 4)) ∷  -- kind 17 as the term
    ((t 3 0 0 ∷ t 12 1 0 ∷ t 4 0 0 ∷ t 18 1 0 ∷ []), Err (Unfit 4)) ∷  -- kind 18 as the term
    ((t 3 0 0 ∷ t 12 1 0 ∷ t 4 0 0 ∷ t 19 1 0 ∷ []), Err (Unfit 4)) ∷  -- kind 19 as the term
    ((t 3 0 0 ∷ t 12 1 0 ∷ t 4 0 0 ∷ t 20 1 0 ∷ []), Err (Unfit 4)) ∷  -- kind 20 as the term
    ((t 3 0 0 ∷ t 12 1 0 ∷ t 4 0 0 ∷ t 31 1 0 ∷ []), Err (Unfit 4)) ∷  -- kind 31 as the term
    ((t 3 0 0 ∷ t 12 1 0 ∷ t 4 0 0 ∷ t 32 1 0 ∷ []), Err (Unfit 4)) ∷  -- kind 32 as the term
    ((t 3 0 0 ∷ t 12 1 0 ∷ t 4 0 0 ∷ t 35 1 0 ∷ []), Err (Unfit 4)) ∷  -- kind 35 as the term
    ((t 3 0 0 ∷ t 12 1 0 ∷ t 4 0 0 ∷ t 39 1 0 ∷ []), Err (Unfit 4)) ∷  -- kind 39 as the term
    ((t 3 0 0 ∷ t 12 1 0 ∷ t 4 0 0 ∷ t 40 1 0 ∷ []), Err (Unfit 4)) ∷  -- kind 40 as the term
    ((t 3 0 0 ∷ t 12 1 0 ∷ t 4 0 0 ∷ t 44 1 0 ∷ []), Err (Unfit 4)) ∷  -- kind 44 as the term
    ((t 3 0 0 ∷ t 12 1 0 ∷ t 4 0 0 ∷ t 45 1 0 ∷ []), Err (Unfit 4)) ∷  -- kind 45 as the term
    ((t 3 0 0 ∷ t 12 1 0 ∷ t 4 0 0 ∷ t 51 1 0 ∷ []), Err (Unfit 4)) ∷  -- kind 51 as the term
    ((t 3 0 0 ∷ t 12 1 0 ∷ t 4 0 0 ∷ t 99 1 0 ∷ []), Err (Unfit 4)) ∷  -- kind 99 as the term
    ((t 3 0 0 ∷ t 12 1 0 ∷ t 4 0 0 ∷ t 100 1 0 ∷ []), Err (Unfit 4)) ∷  -- kind 100 as the term
    ((t 3 0 0 ∷ t 12 1 0 ∷ t 4 0 0 ∷ t 101 1 0 ∷ []), Err (Unfit 4)) ∷  -- kind 101 as the term
    ((t 3 0 0 ∷ t 12 1 0 ∷ t 4 0 0 ∷ t 104 1 0 ∷ []), Err (Unfit 4)) ∷  -- kind 104 as the term
    ((t 3 0 0 ∷ t 12 1 0 ∷ t 4 0 0 ∷ t 111 1 0 ∷ []), Err (Unfit 4)) ∷  -- kind 111 as the term
    ((t 3 0 0 ∷ t 12 1 0 ∷ t 4 0 0 ∷ t 112 1 0 ∷ []), Err (Unfit 4)) ∷  -- kind 112 as the term
    ((t 3 0 0 ∷ t 12 1 0 ∷ t 4 0 0 ∷ t 122 1 0 ∷ []), Err (Unfit 4)) ∷  -- kind 122 as the term
    ((t 3 0 0 ∷ t 12 1 0 ∷ t 4 0 0 ∷ t 143 1 0 ∷ []), Err (Unfit 4)) ∷  -- kind 143 as the term
    ((t 3 0 0 ∷ t 12 1 0 ∷ t 4 0 0 ∷ t 999 1 0 ∷ []), Err (Unfit 4)) ∷  -- kind 999 as the term
    ((t 3 0 0 ∷ t 12 1 0 ∷ t 4 0 0 ∷ t 23 10 0 ∷ t 1 10 0 ∷ t 12 1 0 ∷ t 22 7 0 ∷ []), Err (Unfit 5)) ∷  -- kind 1 as a Lambda's type
    ((t 3 0 0 ∷ t 12 1 0 ∷ t 4 0 0 ∷ t 23 10 0 ∷ t 2 10 0 ∷ t 12 1 0 ∷ t 22 7 0 ∷ []), Err (Unfit 5)) ∷  -- kind 2 as a Lambda's type
    ((t 3 0 0 ∷ t 12 1 0 ∷ t 4 0 0 ∷ t 23 10 0 ∷ t 3 0 0 ∷ t 22 7 0 ∷ []), Err (Unfit 5)) ∷  -- kind 3 as a Lambda's type
    ((t 3 0 0 ∷ t 12 1 0 ∷ t 4 0 0 ∷ t 23 10 0 ∷ t 4 0 0 ∷ t 22 7 0 ∷ []), Err (Unfit 5)) ∷  -- kind 4 as a Lambda's type
    ((t 3 0 0 ∷ t 12 1 0 ∷ t 4 0 0 ∷ t 23 10 0 ∷ t 11 10 0 ∷ t 22 7 0 ∷ []), Ok tt) ∷  -- kind 11 as a Lambda's type
    ((t 3 0 0 ∷ t 12 1 0 ∷ t 4 0 0 ∷ t 23 10 0 ∷ t 12 1 0 ∷ t 22 7 0 ∷ []), Ok tt) ∷  -- kind 12 as a Lambda's type
    ((t 3 0 0 ∷ t 12 1 0 ∷ t 4 0 0 ∷ t 23 10 0 ∷ t 13 0 0 ∷ t 12 1 0 ∷ t 12 1 0 ∷ t 22 7 0 ∷ []), Ok tt) ∷  -- kind 13 as a Lambda's type
    ((t 3 0 0 ∷ t 12 1 0 ∷ t 4 0 0 ∷ t 23 10 0 ∷ t 14 10 0 ∷ t 12 1 0 ∷ t 22 7 0 ∷ []), Ok tt) ∷  -- kind 14 as a Lambda's type
    ((t 3 0 0 ∷ t 12 1 0 ∷ t 4 0 0 ∷ t 23 10 0 ∷ t 15 0 0 ∷ t 12 1 0 ∷ t 12 1 0 ∷ t 22 7 0 ∷ []), Ok tt) ∷  -- kind 15 as a Lambda's type
    ((t 3 0 0 ∷ t 12 1 0 ∷ t 4 0 0 ∷ t 23 10 0 ∷ t 16 0 1 ∷ t 12 1 0 ∷ t 22 7 0 ∷ []), Ok tt) ∷  -- kind 16 as a Lambda's type
    ((t 3 0 0 ∷ t 12 1 0 ∷ t 4 0 0 ∷ t 23 10 0 ∷ t 21 10 0 ∷ t 22 7 0 ∷ []), Err (Unfit 5)) ∷  -- kind 21 as a Lambda's type
    ((t 3 0 0 ∷ t 12 1 0 ∷ t 4 0 0 ∷ t 23 10 0 ∷ t 22 7 0 ∷ t 22 7 0 ∷ []), Err (Unfit 5)) ∷  -- kind 22 as a Lambda's type
    ((t 3 0 0 ∷ t 12 1 0 ∷ t 4 0 0 ∷ t 23 10 0 ∷ t 23 10 0 ∷ t 12 1 0 ∷ t 22 7 0 ∷ t 22 7 0 ∷ []), Err (Unfit 5)) ∷  -- kind 23 as a Lambda's type
    ((t 3 0 0 ∷ t 12 1 0 ∷ t 4 0 0 ∷ t 23 10 0 ∷ t 24 0 0 ∷ t 22 7 0 ∷ t 22 7 0 ∷ t 22 7 0 ∷ []), Err (Unfit 5)) ∷  -- kind 24 as a Lambda's type
    ((t 3 0 0 ∷ t 12 1 0 ∷ t 4 0 0 ∷ t 23 10 0 ∷ t 25 10 0 ∷ t 22 7 0 ∷ t 22 7 0 ∷ []), Err (Unfit 5)) ∷  -- kind 25 as a Lambda's type
    ((t 3 0 0 ∷ t 12 1 0 ∷ t 4 0 0 ∷ t 23 10 0 ∷ t 26 10 1 ∷ t 22 7 0 ∷ t 22 7 0 ∷ []), Err (Unfit 5)) ∷  -- kind 26 as a Lambda's type
    ((t 3 0 0 ∷ t 12 1 0 ∷ t 4 0 0 ∷ t 23 10 0 ∷ t 27 0 1 ∷ t 22 7 0 ∷ t 41 0 0 ∷ t 22 7 0 ∷ t 22 7 0 ∷ []), Err (Unfit 5)) ∷  -- kind 27 as a Lambda's type
    ((t 3 0 0 ∷ t 12 1 0 ∷ t 4 0 0 ∷ t 23 10 0 ∷ t 28 1 0 ∷ t 22 7 0 ∷ t 22 7 0 ∷ t 22 7 0 ∷ []), Err (Unfit 5)) ∷  -- kind 28 as a Lambda's type
    ((t 3 0 0 ∷ t 12 1 0 ∷ t 4 0 0 ∷ t 23 10 0 ∷ t 29 0 0 ∷ (times 4 (t 22 7 0 ∷ []) ++ ([]))), Err (Unfit 5)) ∷  -- kind 29 as a Lambda's type
    ((t 3 0 0 ∷ t 12 1 0 ∷ t 4 0 0 ∷ t 23 10 0 ∷ t 30 10 1 ∷ t 22 7 0 ∷ t 22 7 0 ∷ []), Err (Unfit 5)) ∷  -- kind 30 as a Lambda's type
    ((t 3 0 0 ∷ t 12 1 0 ∷ t 4 0 0 ∷ t 23 10 0 ∷ t 41 0 0 ∷ t 22 7 0 ∷ []), Err (Unfit 5)) ∷  -- kind 41 as a Lambda's type
    ((t 3 0 0 ∷ t 12 1 0 ∷ t 4 0 0 ∷ t 23 10 0 ∷ t 42 10 0 ∷ t 22 7 0 ∷ []), Err (Unfit 5)) ∷  -- kind 42 as a Lambda's type
    ((t 3 0 0 ∷ t 12 1 0 ∷ t 4 0 0 ∷ t 23 10 0 ∷ t 43 10 1 ∷ t 41 0 0 ∷ t 22 7 0 ∷ []), Err (Unfit 5)) ∷  -- kind 43 as a Lambda's type
    ((t 3 0 0 ∷ t 12 1 0 ∷ t 4 0 0 ∷ t 23 10 0 ∷ t 0 1 0 ∷ t 22 7 0 ∷ []), Err (Unfit 5)) ∷  -- kind 0 as a Lambda's type
    ((t 3 0 0 ∷ t 12 1 0 ∷ t 4 0 0 ∷ t 23 10 0 ∷ t 5 1 0 ∷ t 22 7 0 ∷ []), Err (Unfit 5)) ∷  -- kind 5 as a Lambda's type
    ((t 3 0 0 ∷ t 12 1 0 ∷ t 4 0 0 ∷ t 23 10 0 ∷ t 6 1 0 ∷ t 22 7 0 ∷ []), Err (Unfit 5)) ∷  -- kind 6 as a Lambda's type
    ((t 3 0 0 ∷ t 12 1 0 ∷ t 4 0 0 ∷ t 23 10 0 ∷ t 7 1 0 ∷ t 22 7 0 ∷ []), Err (Unfit 5)) ∷  -- kind 7 as a Lambda's type
    ((t 3 0 0 ∷ t 12 1 0 ∷ t 4 0 0 ∷ t 23 10 0 ∷ t 8 1 0 ∷ t 22 7 0 ∷ []), Err (Unfit 5)) ∷  -- kind 8 as a Lambda's type
    ((t 3 0 0 ∷ t 12 1 0 ∷ t 4 0 0 ∷ t 23 10 0 ∷ t 9 1 0 ∷ t 22 7 0 ∷ []), Err (Unfit 5)) ∷  -- kind 9 as a Lambda's type
    ((t 3 0 0 ∷ t 12 1 0 ∷ t 4 0 0 ∷ t 23 10 0 ∷ t 10 1 0 ∷ t 22 7 0 ∷ []), Err (Unfit 5)) ∷  -- kind 10 as a Lambda's type
    ((t 3 0 0 ∷ t 12 1 0 ∷ t 4 0 0 ∷ t 23 10 0 ∷ t 17 1 0 ∷ t 22 7 0 ∷ []), Err (Unfit 5)) ∷  -- kind 17 as a Lambda's type
    ((t 3 0 0 ∷ t 12 1 0 ∷ t 4 0 0 ∷ t 23 10 0 ∷ t 18 1 0 ∷ t 22 7 0 ∷ []), Err (Unfit 5)) ∷  -- kind 18 as a Lambda's type
    ((t 3 0 0 ∷ t 12 1 0 ∷ t 4 0 0 ∷ t 23 10 0 ∷ t 19 1 0 ∷ t 22 7 0 ∷ []), Err (Unfit 5)) ∷  -- kind 19 as a Lambda's type
    ((t 3 0 0 ∷ t 12 1 0 ∷ t 4 0 0 ∷ t 23 10 0 ∷ t 20 1 0 ∷ t 22 7 0 ∷ []), Err (Unfit 5)) ∷  -- kind 20 as a Lambda's type
    ((t 3 0 0 ∷ t 12 1 0 ∷ t 4 0 0 ∷ t 23 10 0 ∷ t 31 1 0 ∷ t 22 7 0 ∷ []), Err (Unfit 5)) ∷  -- kind 31 as a Lambda's type
    ((t 3 0 0 ∷ t 12 1 0 ∷ t 4 0 0 ∷ t 23 10 0 ∷ t 32 1 0 ∷ t 22 7 0 ∷ []), Err (Unfit 5)) ∷  -- kind 32 as a Lambda's type
    ((t 3 0 0 ∷ t 12 1 0 ∷ t 4 0 0 ∷ t 23 10 0 ∷ t 35 1 0 ∷ t 22 7 0 ∷ []), Err (Unfit 5)) ∷  -- kind 35 as a Lambda's type
    ((t 3 0 0 ∷ t 12 1 0 ∷ t 4 0 0 ∷ t 23 10 0 ∷ t 39 1 0 ∷ t 22 7 0 ∷ []), Err (Unfit 5)) ∷  -- kind 39 as a Lambda's type
    ((t 3 0 0 ∷ t 12 1 0 ∷ t 4 0 0 ∷ t 23 10 0 ∷ t 40 1 0 ∷ t 22 7 0 ∷ []), Err (Unfit 5)) ∷  -- kind 40 as a Lambda's type
    ((t 3 0 0 ∷ t 12 1 0 ∷ t 4 0 0 ∷ t 23 10 0 ∷ t 44 1 0 ∷ t 22 7 0 ∷ []), Err (Unfit 5)) ∷  -- kind 44 as a Lambda's type
    ((t 3 0 0 ∷ t 12 1 0 ∷ t 4 0 0 ∷ t 23 10 0 ∷ t 45 1 0 ∷ t 22 7 0 ∷ []), Err (Unfit 5)) ∷  -- kind 45 as a Lambda's type
    ((t 3 0 0 ∷ t 12 1 0 ∷ t 4 0 0 ∷ t 23 10 0 ∷ t 51 1 0 ∷ t 22 7 0 ∷ []), Err (Unfit 5)) ∷  -- kind 51 as a Lambda's type
    ((t 3 0 0 ∷ t 12 1 0 ∷ t 4 0 0 ∷ t 23 10 0 ∷ t 99 1 0 ∷ t 22 7 0 ∷ []), Err (Unfit 5)) ∷  -- kind 99 as a Lambda's type
    ((t 3 0 0 ∷ t 12 1 0 ∷ t 4 0 0 ∷ t 23 10 0 ∷ t 100 1 0 ∷ t 22 7 0 ∷ []), Err (Unfit 5)) ∷  -- kind 100 as a Lambda's type
    ((t 3 0 0 ∷ t 12 1 0 ∷ t 4 0 0 ∷ t 23 10 0 ∷ t 101 1 0 ∷ t 22 7 0 ∷ []), Err (Unfit 5)) ∷  -- kind 101 as a Lambda's type
    ((t 3 0 0 ∷ t 12 1 0 ∷ t 4 0 0 ∷ t 23 10 0 ∷ t 104 1 0 ∷ t 22 7 0 ∷ []), Err (Unfit 5)) ∷  -- kind 104 as a Lambda's type
    ((t 3 0 0 ∷ t 12 1 0 ∷ t 4 0 0 ∷ t 23 10 0 ∷ t 111 1 0 ∷ t 22 7 0 ∷ []), Err (Unfit 5)) ∷  -- kind 111 as a Lambda's type
    ((t 3 0 0 ∷ t 12 1 0 ∷ t 4 0 0 ∷ t 23 10 0 ∷ t 112 1 0 ∷ t 22 7 0 ∷ []), Err (Unfit 5)) ∷  -- kind 112 as a Lambda's type
    ((t 3 0 0 ∷ t 12 1 0 ∷ t 4 0 0 ∷ t 23 10 0 ∷ t 122 1 0 ∷ t 22 7 0 ∷ []), Err (Unfit 5)) ∷  -- kind 122 as a Lambda's type
    ((t 3 0 0 ∷ t 12 1 0 ∷ t 4 0 0 ∷ t 23 10 0 ∷ t 143 1 0 ∷ t 22 7 0 ∷ []), Err (Unfit 5)) ∷  -- kind 143 as a Lambda's type
    ((t 3 0 0 ∷ t 12 1 0 ∷ t 4 0 0 ∷ t 23 10 0 ∷ t 999 1 0 ∷ t 22 7 0 ∷ []), Err (Unfit 5)) ∷  -- kind 999 as a Lambda's type
    ((t 3 0 0 ∷ t 12 1 0 ∷ t 4 0 0 ∷ t 27 0 1 ∷ t 22 7 0 ∷ t 1 10 0 ∷ t 12 1 0 ∷ t 22 7 0 ∷ []), Err (Unfit 6)) ∷  -- kind 1 as a pattern
    ((t 3 0 0 ∷ t 12 1 0 ∷ t 4 0 0 ∷ t 27 0 1 ∷ t 22 7 0 ∷ t 2 10 0 ∷ t 12 1 0 ∷ t 22 7 0 ∷ []), Err (Unfit 6)) ∷  -- kind 2 as a pattern
    ((t 3 0 0 ∷ t 12 1 0 ∷ t 4 0 0 ∷ t 27 0 1 ∷ t 22 7 0 ∷ t 3 0 0 ∷ t 22 7 0 ∷ []), Err (Unfit 6)) ∷  -- kind 3 as a pattern
    ((t 3 0 0 ∷ t 12 1 0 ∷ t 4 0 0 ∷ t 27 0 1 ∷ t 22 7 0 ∷ t 4 0 0 ∷ t 22 7 0 ∷ []), Err (Unfit 6)) ∷  -- kind 4 as a pattern
    ((t 3 0 0 ∷ t 12 1 0 ∷ t 4 0 0 ∷ t 27 0 1 ∷ t 22 7 0 ∷ t 11 10 0 ∷ t 22 7 0 ∷ []), Err (Unfit 6)) ∷  -- kind 11 as a pattern
    ((t 3 0 0 ∷ t 12 1 0 ∷ t 4 0 0 ∷ t 27 0 1 ∷ t 22 7 0 ∷ t 12 1 0 ∷ t 22 7 0 ∷ []), Err (Unfit 6)) ∷  -- kind 12 as a pattern
    ((t 3 0 0 ∷ t 12 1 0 ∷ t 4 0 0 ∷ t 27 0 1 ∷ t 22 7 0 ∷ t 13 0 0 ∷ t 12 1 0 ∷ t 12 1 0 ∷ t 22 7 0 ∷ []), Err (Unfit 6)) ∷  -- kind 13 as a pattern
    ((t 3 0 0 ∷ t 12 1 0 ∷ t 4 0 0 ∷ t 27 0 1 ∷ t 22 7 0 ∷ t 14 10 0 ∷ t 12 1 0 ∷ t 22 7 0 ∷ []), Err (Unfit 6)) ∷  -- kind 14 as a pattern
    ((t 3 0 0 ∷ t 12 1 0 ∷ t 4 0 0 ∷ t 27 0 1 ∷ t 22 7 0 ∷ t 15 0 0 ∷ t 12 1 0 ∷ t 12 1 0 ∷ t 22 7 0 ∷ []), Err (Unfit 6)) ∷  -- kind 15 as a pattern
    ((t 3 0 0 ∷ t 12 1 0 ∷ t 4 0 0 ∷ t 27 0 1 ∷ t 22 7 0 ∷ t 16 0 1 ∷ t 12 1 0 ∷ t 22 7 0 ∷ []), Err (Unfit 6)) ∷  -- kind 16 as a pattern
    ((t 3 0 0 ∷ t 12 1 0 ∷ t 4 0 0 ∷ t 27 0 1 ∷ t 22 7 0 ∷ t 21 10 0 ∷ t 22 7 0 ∷ []), Err (Unfit 6)) ∷  -- kind 21 as a pattern
    ((t 3 0 0 ∷ t 12 1 0 ∷ t 4 0 0 ∷ t 27 0 1 ∷ t 22 7 0 ∷ t 22 7 0 ∷ t 22 7 0 ∷ []), Err (Unfit 6)) ∷  -- kind 22 as a pattern
    ((t 3 0 0 ∷ t 12 1 0 ∷ t 4 0 0 ∷ t 27 0 1 ∷ t 22 7 0 ∷ t 23 10 0 ∷ t 12 1 0 ∷ t 22 7 0 ∷ t 22 7 0 ∷ []), Err (Unfit 6)) ∷  -- kind 23 as a pattern
    ((t 3 0 0 ∷ t 12 1 0 ∷ t 4 0 0 ∷ t 27 0 1 ∷ t 22 7 0 ∷ t 24 0 0 ∷ t 22 7 0 ∷ t 22 7 0 ∷ t 22 7 0 ∷ []), Err (Unfit 6)) ∷  -- kind 24 as a pattern
    ((t 3 0 0 ∷ t 12 1 0 ∷ t 4 0 0 ∷ t 27 0 1 ∷ t 22 7 0 ∷ t 25 10 0 ∷ t 22 7 0 ∷ t 22 7 0 ∷ []), Err (Unfit 6)) ∷  -- kind 25 as a pattern
    ((t 3 0 0 ∷ t 12 1 0 ∷ t 4 0 0 ∷ t 27 0 1 ∷ t 22 7 0 ∷ t 26 10 1 ∷ t 22 7 0 ∷ t 22 7 0 ∷ []), Err (Unfit 6)) ∷  -- kind 26 as a pattern
    ((t 3 0 0 ∷ t 12 1 0 ∷ t 4 0 0 ∷ t 27 0 1 ∷ t 22 7 0 ∷ t 27 0 1 ∷ t 22 7 0 ∷ t 41 0 0 ∷ t 22 7 0 ∷ t 22 7 0 ∷ []), Err (Unfit 6)) ∷  -- kind 27 as a pattern
    ((t 3 0 0 ∷ t 12 1 0 ∷ t 4 0 0 ∷ t 27 0 1 ∷ t 22 7 0 ∷ t 28 1 0 ∷ t 22 7 0 ∷ t 22 7 0 ∷ t 22 7 0 ∷ []), Err (Unfit 6)) ∷  -- kind 28 as a pattern
    ((t 3 0 0 ∷ t 12 1 0 ∷ t 4 0 0 ∷ t 27 0 1 ∷ t 22 7 0 ∷ t 29 0 0 ∷ (times 4 (t 22 7 0 ∷ []) ++ ([]))), Err (Unfit 6)) ∷  -- kind 29 as a pattern
    ((t 3 0 0 ∷ t 12 1 0 ∷ t 4 0 0 ∷ t 27 0 1 ∷ t 22 7 0 ∷ t 30 10 1 ∷ t 22 7 0 ∷ t 22 7 0 ∷ []), Err (Unfit 6)) ∷  -- kind 30 as a pattern
    ((t 3 0 0 ∷ t 12 1 0 ∷ t 4 0 0 ∷ t 27 0 1 ∷ t 22 7 0 ∷ t 41 0 0 ∷ t 22 7 0 ∷ []), Ok tt) ∷  -- kind 41 as a pattern
    ((t 3 0 0 ∷ t 12 1 0 ∷ t 4 0 0 ∷ t 27 0 1 ∷ t 22 7 0 ∷ t 42 10 0 ∷ t 22 7 0 ∷ []), Ok tt) ∷  -- kind 42 as a pattern
    ((t 3 0 0 ∷ t 12 1 0 ∷ t 4 0 0 ∷ t 27 0 1 ∷ t 22 7 0 ∷ t 43 10 1 ∷ t 41 0 0 ∷ t 22 7 0 ∷ []), Ok tt) ∷  -- kind 43 as a pattern
    ((t 3 0 0 ∷ t 12 1 0 ∷ t 4 0 0 ∷ t 27 0 1 ∷ t 22 7 0 ∷ t 0 1 0 ∷ t 22 7 0 ∷ []), Err (Unfit 6)) ∷  -- kind 0 as a pattern
    ((t 3 0 0 ∷ t 12 1 0 ∷ t 4 0 0 ∷ t 27 0 1 ∷ t 22 7 0 ∷ t 5 1 0 ∷ t 22 7 0 ∷ []), Err (Unfit 6)) ∷  -- kind 5 as a pattern
    ((t 3 0 0 ∷ t 12 1 0 ∷ t 4 0 0 ∷ t 27 0 1 ∷ t 22 7 0 ∷ t 6 1 0 ∷ t 22 7 0 ∷ []), Err (Unfit 6)) ∷  -- kind 6 as a pattern
    ((t 3 0 0 ∷ t 12 1 0 ∷ t 4 0 0 ∷ t 27 0 1 ∷ t 22 7 0 ∷ t 7 1 0 ∷ t 22 7 0 ∷ []), Err (Unfit 6)) ∷  -- kind 7 as a pattern
    ((t 3 0 0 ∷ t 12 1 0 ∷ t 4 0 0 ∷ t 27 0 1 ∷ t 22 7 0 ∷ t 8 1 0 ∷ t 22 7 0 ∷ []), Err (Unfit 6)) ∷  -- kind 8 as a pattern
    ((t 3 0 0 ∷ t 12 1 0 ∷ t 4 0 0 ∷ t 27 0 1 ∷ t 22 7 0 ∷ t 9 1 0 ∷ t 22 7 0 ∷ []), Err (Unfit 6)) ∷  -- kind 9 as a pattern
    ((t 3 0 0 ∷ t 12 1 0 ∷ t 4 0 0 ∷ t 27 0 1 ∷ t 22 7 0 ∷ t 10 1 0 ∷ t 22 7 0 ∷ []), Err (Unfit 6)) ∷  -- kind 10 as a pattern
    ((t 3 0 0 ∷ t 12 1 0 ∷ t 4 0 0 ∷ t 27 0 1 ∷ t 22 7 0 ∷ t 17 1 0 ∷ t 22 7 0 ∷ []), Err (Unfit 6)) ∷  -- kind 17 as a pattern
    ((t 3 0 0 ∷ t 12 1 0 ∷ t 4 0 0 ∷ t 27 0 1 ∷ t 22 7 0 ∷ t 18 1 0 ∷ t 22 7 0 ∷ []), Err (Unfit 6)) ∷  -- kind 18 as a pattern
    ((t 3 0 0 ∷ t 12 1 0 ∷ t 4 0 0 ∷ t 27 0 1 ∷ t 22 7 0 ∷ t 19 1 0 ∷ t 22 7 0 ∷ []), Err (Unfit 6)) ∷  -- kind 19 as a pattern
    ((t 3 0 0 ∷ t 12 1 0 ∷ t 4 0 0 ∷ t 27 0 1 ∷ t 22 7 0 ∷ t 20 1 0 ∷ t 22 7 0 ∷ []), Err (Unfit 6)) ∷  -- kind 20 as a pattern
    ((t 3 0 0 ∷ t 12 1 0 ∷ t 4 0 0 ∷ t 27 0 1 ∷ t 22 7 0 ∷ t 31 1 0 ∷ t 22 7 0 ∷ []), Err (Unfit 6)) ∷  -- kind 31 as a pattern
    ((t 3 0 0 ∷ t 12 1 0 ∷ t 4 0 0 ∷ t 27 0 1 ∷ t 22 7 0 ∷ t 32 1 0 ∷ t 22 7 0 ∷ []), Err (Unfit 6)) ∷  -- kind 32 as a pattern
    ((t 3 0 0 ∷ t 12 1 0 ∷ t 4 0 0 ∷ t 27 0 1 ∷ t 22 7 0 ∷ t 35 1 0 ∷ t 22 7 0 ∷ []), Err (Unfit 6)) ∷  -- kind 35 as a pattern
    ((t 3 0 0 ∷ t 12 1 0 ∷ t 4 0 0 ∷ t 27 0 1 ∷ t 22 7 0 ∷ t 39 1 0 ∷ t 22 7 0 ∷ []), Err (Unfit 6)) ∷  -- kind 39 as a pattern
    ((t 3 0 0 ∷ t 12 1 0 ∷ t 4 0 0 ∷ t 27 0 1 ∷ t 22 7 0 ∷ t 40 1 0 ∷ t 22 7 0 ∷ []), Err (Unfit 6)) ∷  -- kind 40 as a pattern
    ((t 3 0 0 ∷ t 12 1 0 ∷ t 4 0 0 ∷ t 27 0 1 ∷ t 22 7 0 ∷ t 44 1 0 ∷ t 22 7 0 ∷ []), Err (Unfit 6)) ∷  -- kind 44 as a pattern
    ((t 3 0 0 ∷ t 12 1 0 ∷ t 4 0 0 ∷ t 27 0 1 ∷ t 22 7 0 ∷ t 45 1 0 ∷ t 22 7 0 ∷ []), Err (Unfit 6)) ∷  -- kind 45 as a pattern
    ((t 3 0 0 ∷ t 12 1 0 ∷ t 4 0 0 ∷ t 27 0 1 ∷ t 22 7 0 ∷ t 51 1 0 ∷ t 22 7 0 ∷ []), Err (Unfit 6)) ∷  -- kind 51 as a pattern
    ((t 3 0 0 ∷ t 12 1 0 ∷ t 4 0 0 ∷ t 27 0 1 ∷ t 22 7 0 ∷ t 99 1 0 ∷ t 22 7 0 ∷ []), Err (Unfit 6)) ∷  -- kind 99 as a pattern
    ((t 3 0 0 ∷ t 12 1 0 ∷ t 4 0 0 ∷ t 27 0 1 ∷ t 22 7 0 ∷ t 100 1 0 ∷ t 22 7 0 ∷ []), Err (Unfit 6)) ∷  -- kind 100 as a pattern
    ((t 3 0 0 ∷ t 12 1 0 ∷ t 4 0 0 ∷ t 27 0 1 ∷ t 22 7 0 ∷ t 101 1 0 ∷ t 22 7 0 ∷ []), Err (Unfit 6)) ∷  -- kind 101 as a pattern
    ((t 3 0 0 ∷ t 12 1 0 ∷ t 4 0 0 ∷ t 27 0 1 ∷ t 22 7 0 ∷ t 104 1 0 ∷ t 22 7 0 ∷ []), Err (Unfit 6)) ∷  -- kind 104 as a pattern
    ((t 3 0 0 ∷ t 12 1 0 ∷ t 4 0 0 ∷ t 27 0 1 ∷ t 22 7 0 ∷ t 111 1 0 ∷ t 22 7 0 ∷ []), Err (Unfit 6)) ∷  -- kind 111 as a pattern
    ((t 3 0 0 ∷ t 12 1 0 ∷ t 4 0 0 ∷ t 27 0 1 ∷ t 22 7 0 ∷ t 112 1 0 ∷ t 22 7 0 ∷ []), Err (Unfit 6)) ∷  -- kind 112 as a pattern
    ((t 3 0 0 ∷ t 12 1 0 ∷ t 4 0 0 ∷ t 27 0 1 ∷ t 22 7 0 ∷ t 122 1 0 ∷ t 22 7 0 ∷ []), Err (Unfit 6)) ∷  -- kind 122 as a pattern
    ((t 3 0 0 ∷ t 12 1 0 ∷ t 4 0 0 ∷ t 27 0 1 ∷ t 22 7 0 ∷ t 143 1 0 ∷ t 22 7 0 ∷ []), Err (Unfit 6)) ∷  -- kind 143 as a pattern
    ((t 3 0 0 ∷ t 12 1 0 ∷ t 4 0 0 ∷ t 27 0 1 ∷ t 22 7 0 ∷ t 999 1 0 ∷ t 22 7 0 ∷ []), Err (Unfit 6)) ∷  -- kind 999 as a pattern
    ((t 3 0 0 ∷ t 12 1 0 ∷ t 4 0 0 ∷ t 22 7 0 ∷ t 1 10 0 ∷ t 12 1 0 ∷ []), Err (Unfit 5)) ∷  -- kind 1 after the term
    ((t 3 0 0 ∷ t 12 1 0 ∷ t 4 0 0 ∷ t 22 7 0 ∷ t 2 10 0 ∷ t 12 1 0 ∷ []), Err (Unfit 5)) ∷  -- kind 2 after the term
    ((t 3 0 0 ∷ t 12 1 0 ∷ t 4 0 0 ∷ t 22 7 0 ∷ t 3 0 0 ∷ []), Err (Unfit 5)) ∷  -- kind 3 after the term
    ((t 3 0 0 ∷ t 12 1 0 ∷ t 4 0 0 ∷ t 22 7 0 ∷ t 4 0 0 ∷ []), Err (Unfit 5)) ∷  -- kind 4 after the term
    ((t 3 0 0 ∷ t 12 1 0 ∷ t 4 0 0 ∷ t 22 7 0 ∷ t 11 10 0 ∷ []), Err (Unfit 5)) ∷  -- kind 11 after the term
    ((t 3 0 0 ∷ t 12 1 0 ∷ t 4 0 0 ∷ t 22 7 0 ∷ t 12 1 0 ∷ []), Err (Unfit 5)) ∷  -- kind 12 after the term
    ((t 3 0 0 ∷ t 12 1 0 ∷ t 4 0 0 ∷ t 22 7 0 ∷ t 13 0 0 ∷ t 12 1 0 ∷ t 12 1 0 ∷ []), Err (Unfit 5)) ∷  -- kind 13 after the term
    ((t 3 0 0 ∷ t 12 1 0 ∷ t 4 0 0 ∷ t 22 7 0 ∷ t 14 10 0 ∷ t 12 1 0 ∷ []), Err (Unfit 5)) ∷  -- kind 14 after the term
    ((t 3 0 0 ∷ t 12 1 0 ∷ t 4 0 0 ∷ t 22 7 0 ∷ t 15 0 0 ∷ t 12 1 0 ∷ t 12 1 0 ∷ []), Err (Unfit 5)) ∷  -- kind 15 after the term
    ((t 3 0 0 ∷ t 12 1 0 ∷ t 4 0 0 ∷ t 22 7 0 ∷ t 16 0 1 ∷ t 12 1 0 ∷ []), Err (Unfit 5)) ∷  -- kind 16 after the term
    ((t 3 0 0 ∷ t 12 1 0 ∷ t 4 0 0 ∷ t 22 7 0 ∷ t 21 10 0 ∷ []), Err (Unfit 5)) ∷  -- kind 21 after the term
    ((t 3 0 0 ∷ t 12 1 0 ∷ t 4 0 0 ∷ t 22 7 0 ∷ t 22 7 0 ∷ []), Err (Unfit 5)) ∷  -- kind 22 after the term
    ((t 3 0 0 ∷ t 12 1 0 ∷ t 4 0 0 ∷ t 22 7 0 ∷ t 23 10 0 ∷ t 12 1 0 ∷ t 22 7 0 ∷ []), Err (Unfit 5)) ∷  -- kind 23 after the term
    ((t 3 0 0 ∷ t 12 1 0 ∷ t 4 0 0 ∷ t 22 7 0 ∷ t 24 0 0 ∷ t 22 7 0 ∷ t 22 7 0 ∷ []), Err (Unfit 5)) ∷  -- kind 24 after the term
    ((t 3 0 0 ∷ t 12 1 0 ∷ t 4 0 0 ∷ t 22 7 0 ∷ t 25 10 0 ∷ t 22 7 0 ∷ []), Err (Unfit 5)) ∷  -- kind 25 after the term
    ((t 3 0 0 ∷ t 12 1 0 ∷ t 4 0 0 ∷ t 22 7 0 ∷ t 26 10 1 ∷ t 22 7 0 ∷ []), Err (Unfit 5)) ∷  -- kind 26 after the term
    ((t 3 0 0 ∷ t 12 1 0 ∷ t 4 0 0 ∷ t 22 7 0 ∷ t 27 0 1 ∷ t 22 7 0 ∷ t 41 0 0 ∷ t 22 7 0 ∷ []), Err (Unfit 5)) ∷  -- kind 27 after the term
    ((t 3 0 0 ∷ t 12 1 0 ∷ t 4 0 0 ∷ t 22 7 0 ∷ t 28 1 0 ∷ t 22 7 0 ∷ t 22 7 0 ∷ []), Err (Unfit 5)) ∷  -- kind 28 after the term
    ((t 3 0 0 ∷ t 12 1 0 ∷ t 4 0 0 ∷ t 22 7 0 ∷ t 29 0 0 ∷ t 22 7 0 ∷ t 22 7 0 ∷ t 22 7 0 ∷ []), Err (Unfit 5)) ∷  -- kind 29 after the term
    ((t 3 0 0 ∷ t 12 1 0 ∷ t 4 0 0 ∷ t 22 7 0 ∷ t 30 10 1 ∷ t 22 7 0 ∷ []), Err (Unfit 5)) ∷  -- kind 30 after the term
    ((t 3 0 0 ∷ t 12 1 0 ∷ t 4 0 0 ∷ t 22 7 0 ∷ t 41 0 0 ∷ []), Err (Unfit 5)) ∷  -- kind 41 after the term
    ((t 3 0 0 ∷ t 12 1 0 ∷ t 4 0 0 ∷ t 22 7 0 ∷ t 42 10 0 ∷ []), Err (Unfit 5)) ∷  -- kind 42 after the term
    ((t 3 0 0 ∷ t 12 1 0 ∷ t 4 0 0 ∷ t 22 7 0 ∷ t 43 10 1 ∷ t 41 0 0 ∷ []), Err (Unfit 5)) ∷  -- kind 43 after the term
    ((t 3 0 0 ∷ t 12 1 0 ∷ t 4 0 0 ∷ t 22 7 0 ∷ t 0 1 0 ∷ []), Err (Unfit 5)) ∷  -- kind 0 after the term
    ((t 3 0 0 ∷ t 12 1 0 ∷ t 4 0 0 ∷ t 22 7 0 ∷ t 5 1 0 ∷ []), Err (Unfit 5)) ∷  -- kind 5 after the term
    ((t 3 0 0 ∷ t 12 1 0 ∷ t 4 0 0 ∷ t 22 7 0 ∷ t 6 1 0 ∷ []), Err (Unfit 5)) ∷  -- kind 6 after the term
    ((t 3 0 0 ∷ t 12 1 0 ∷ t 4 0 0 ∷ t 22 7 0 ∷ t 7 1 0 ∷ []), Err (Unfit 5)) ∷  -- kind 7 after the term
    ((t 3 0 0 ∷ t 12 1 0 ∷ t 4 0 0 ∷ t 22 7 0 ∷ t 8 1 0 ∷ []), Err (Unfit 5)) ∷  -- kind 8 after the term
    ((t 3 0 0 ∷ t 12 1 0 ∷ t 4 0 0 ∷ t 22 7 0 ∷ t 9 1 0 ∷ []), Err (Unfit 5)) ∷  -- kind 9 after the term
    ((t 3 0 0 ∷ t 12 1 0 ∷ t 4 0 0 ∷ t 22 7 0 ∷ t 10 1 0 ∷ []), Err (Unfit 5)) ∷  -- kind 10 after the term
    ((t 3 0 0 ∷ t 12 1 0 ∷ t 4 0 0 ∷ t 22 7 0 ∷ t 17 1 0 ∷ []), Err (Unfit 5)) ∷  -- kind 17 after the term
    ((t 3 0 0 ∷ t 12 1 0 ∷ t 4 0 0 ∷ t 22 7 0 ∷ t 18 1 0 ∷ []), Err (Unfit 5)) ∷  -- kind 18 after the term
    ((t 3 0 0 ∷ t 12 1 0 ∷ t 4 0 0 ∷ t 22 7 0 ∷ t 19 1 0 ∷ []), Err (Unfit 5)) ∷  -- kind 19 after the term
    ((t 3 0 0 ∷ t 12 1 0 ∷ t 4 0 0 ∷ t 22 7 0 ∷ t 20 1 0 ∷ []), Err (Unfit 5)) ∷  -- kind 20 after the term
    ((t 3 0 0 ∷ t 12 1 0 ∷ t 4 0 0 ∷ t 22 7 0 ∷ t 31 1 0 ∷ []), Err (Unfit 5)) ∷  -- kind 31 after the term
    ((t 3 0 0 ∷ t 12 1 0 ∷ t 4 0 0 ∷ t 22 7 0 ∷ t 32 1 0 ∷ []), Err (Unfit 5)) ∷  -- kind 32 after the term
    ((t 3 0 0 ∷ t 12 1 0 ∷ t 4 0 0 ∷ t 22 7 0 ∷ t 35 1 0 ∷ []), Err (Unfit 5)) ∷  -- kind 35 after the term
    ((t 3 0 0 ∷ t 12 1 0 ∷ t 4 0 0 ∷ t 22 7 0 ∷ t 39 1 0 ∷ []), Err (Unfit 5)) ∷  -- kind 39 after the term
    ((t 3 0 0 ∷ t 12 1 0 ∷ t 4 0 0 ∷ t 22 7 0 ∷ t 40 1 0 ∷ []), Err (Unfit 5)) ∷  -- kind 40 after the term
    ((t 3 0 0 ∷ t 12 1 0 ∷ t 4 0 0 ∷ t 22 7 0 ∷ t 44 1 0 ∷ []), Err (Unfit 5)) ∷  -- kind 44 after the term
    ((t 3 0 0 ∷ t 12 1 0 ∷ t 4 0 0 ∷ t 22 7 0 ∷ t 45 1 0 ∷ []), Err (Unfit 5)) ∷  -- kind 45 after the term
    ((t 3 0 0 ∷ t 12 1 0 ∷ t 4 0 0 ∷ t 22 7 0 ∷ t 51 1 0 ∷ []), Err (Unfit 5)) ∷  -- kind 51 after the term
    ((t 3 0 0 ∷ t 12 1 0 ∷ t 4 0 0 ∷ t 22 7 0 ∷ t 99 1 0 ∷ []), Err (Unfit 5)) ∷  -- kind 99 after the term
    ((t 3 0 0 ∷ t 12 1 0 ∷ t 4 0 0 ∷ t 22 7 0 ∷ t 100 1 0 ∷ []), Err (Unfit 5)) ∷  -- kind 100 after the term
    ((t 3 0 0 ∷ t 12 1 0 ∷ t 4 0 0 ∷ t 22 7 0 ∷ t 101 1 0 ∷ []), Err (Unfit 5)) ∷  -- kind 101 after the term
    ((t 3 0 0 ∷ t 12 1 0 ∷ t 4 0 0 ∷ t 22 7 0 ∷ t 104 1 0 ∷ []), Err (Unfit 5)) ∷  -- kind 104 after the term
    ((t 3 0 0 ∷ t 12 1 0 ∷ t 4 0 0 ∷ t 22 7 0 ∷ t 111 1 0 ∷ []), Err (Unfit 5)) ∷  -- kind 111 after the term
    ((t 3 0 0 ∷ t 12 1 0 ∷ t 4 0 0 ∷ t 22 7 0 ∷ t 112 1 0 ∷ []), Err (Unfit 5)) ∷  -- kind 112 after the term
    ((t 3 0 0 ∷ t 12 1 0 ∷ t 4 0 0 ∷ t 22 7 0 ∷ t 122 1 0 ∷ []), Err (Unfit 5)) ∷  -- kind 122 after the term
    ((t 3 0 0 ∷ t 12 1 0 ∷ t 4 0 0 ∷ t 22 7 0 ∷ t 143 1 0 ∷ []), Err (Unfit 5)) ∷  -- kind 143 after the term
    ((t 3 0 0 ∷ t 12 1 0 ∷ t 4 0 0 ∷ t 22 7 0 ∷ t 999 1 0 ∷ []), Err (Unfit 5)) ∷  -- kind 999 after the term
    []

pub places : map (λ q. check_lines q.0) rows_places ≡ map (λ q. q.1) rows_places
unfolding check_lines find table row_of begins head_of declared_by arms following read
places = refl
