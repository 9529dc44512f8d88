-- Refusals 3, 4 and 5 of a sheet. Assumes nothing: these are definitions.
use Rattle.grammar.specs.declared.SheetError.TheVariants.{Length, Misspelt, Unfit}
use Rattle.grammar.specs.declared.SheetError.{SheetError}
use Rattle.std.specs.Prelude.{Bool, cond, ◌&&◌, List, [], ◌∷◌, ℕ, ◌+◌, ◌/◌, ◌%◌, length, ltb, leb, eqb, Result, Ok, Err}
use Rattle.sizes.specs.Sizes.{line_length, sheet_bytes}
use Rattle.spelling.specs.Spelling.{lines_of, first_misspelt}
use Rattle.grammar.specs.Grammar.{entries, read_at}

-- 3: length 0, over 58,000 or no multiple of 29
abbrev pub length_ok : ℕ → Bool
length_ok n = ltb 0 n && (leb n sheet_bytes && eqb (n % line_length) 0)

-- no line comes after the term
abbrev pub end_of : ℕ → Result ℕ SheetError → Result ℕ SheetError
end_of n (Ok k) = cond (eqb k n) (Ok k) (Err (Unfit (k + 1)))
end_of n (Err e) = Err e

-- entries of kind 1, entries of kind 2, the expected type, the term, and nothing after it
unfoldable pub read_sheet : List ℕ → Result ℕ SheetError
read_sheet s = end_of (length s / line_length) (read_at s (entries 1 0 ∷ []) 0)

abbrev pub fitting : Result ℕ SheetError → Result Unit SheetError
fitting (Ok k) = Ok tt
fitting (Err e) = Err e

-- 4 over all lines, and then x
abbrev pub misspelt_first : List ℕ → Result Unit SheetError → Result Unit SheetError
misspelt_first s x = cond (ltb (first_misspelt (lines_of s)) (length s / line_length)) (Err (Misspelt (first_misspelt (lines_of s) + 1))) x

-- what a sheet that has a length, and that the grammar refuses for e, is refused for
abbrev pub refusal : List ℕ → SheetError → Result Unit SheetError
refusal s e = misspelt_first s (Err e)

-- 3 to 5 are tried in order, 4 over all lines before 5
unfoldable pub check : List ℕ → Result Unit SheetError
check s = cond (length_ok (length s)) (misspelt_first s (fitting (read_sheet s))) (Err Length)

-- document 01's number, and its line
abbrev pub refusal_number : SheetError → ℕ
refusal_number Length = 3
refusal_number (Misspelt l) = 4
refusal_number (Unfit l) = 5

abbrev pub refusal_line : SheetError → ℕ
refusal_line Length = 0
refusal_line (Misspelt l) = l
refusal_line (Unfit l) = l

abbrev pub check_number : Result Unit SheetError → ℕ
check_number (Ok _) = 0
check_number (Err e) = refusal_number e

abbrev pub check_line : Result Unit SheetError → ℕ
check_line (Ok _) = 0
check_line (Err e) = refusal_line e
