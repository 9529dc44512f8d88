-- Which names a line may have, in document 01's digits, by computation, on sheets with the name on a line of each kind
-- that has one. The answers are those of `reference answer`. Assumes nothing.
use Rattle.grammar.specs.declared.SheetError.TheVariants.{Unfit}
use Rattle.grammar.specs.declared.SheetError.{SheetError}
use Rattle.std.proofs.Common.{Result, Ok, Err, ◌≡◌, refl, false, List, [], ◌∷◌, ◌++◌, map, ℕ, replicate}
use Rattle.spelling.specs.declared.Triple.{Triple}
use Rattle.spelling.specs.Spelling.{field_from, line_of, line_at, lines_from, lines_of, first_misspelt}
use Rattle.spelling.specs.Text.{field_text, line_text}
use Rattle.kinds.specs.Kinds.{find, table, row_of, begins, head_of}
use Rattle.grammar.specs.Grammar.{declared_by, arms, following, read, read_at}
use Rattle.grammar.specs.Check.{read_sheet, check}

abbrev l : ℕ → ℕ → ℕ → Triple
l k v c = record { kind = k; negative = false; value = v; count = c }

abbrev text : List Triple → List ℕ
text [] = []
text (t ∷ ts) = line_text t ++ text ts

-- a term as Int, 7 as a type, 7 as Int after an entry of that kind
abbrev term : List Triple → List Triple
term e = l 3 0 0 ∷ l 12 1 0 ∷ l 4 0 0 ∷ e

abbrev type : List Triple → List Triple
type t = l 3 0 0 ∷ (t ++ (l 4 0 0 ∷ l 22 7 0 ∷ []))

abbrev entry : ℕ → ℕ → List Triple
entry k n = l k n 0 ∷ l 12 1 0 ∷ term (l 22 7 0 ∷ [])

abbrev pattern : ℕ → ℕ → List Triple
pattern k n = term (l 27 0 1 ∷ l 22 7 0 ∷ l k n 0 ∷ l 22 7 0 ∷ [])

-- the name n on a line of kind 1, 2, 11, 12, 14, 21, 23, 25, 26, 30, 42, 43
abbrev sheets : ℕ → List (List Triple)
sheets n =
    entry 1 n ∷ entry 2 n ∷
    type (l 11 n 0 ∷ []) ∷ type (l 12 n 0 ∷ []) ∷ type (l 14 n 0 ∷ l 12 1 0 ∷ []) ∷
    term (l 21 n 0 ∷ []) ∷ term (l 23 n 0 ∷ l 12 1 0 ∷ l 22 7 0 ∷ []) ∷ term (l 25 n 0 ∷ l 22 7 0 ∷ []) ∷ term (l 26 n 0 ∷ []) ∷ term (l 30 n 0 ∷ []) ∷
    pattern 42 n ∷ pattern 43 n ∷
    []

-- the line that has it
abbrev unfit : List (Result Unit SheetError)
unfit = map (λ l. Err (Unfit l)) (1 ∷ 1 ∷ 2 ∷ 2 ∷ 2 ∷ 4 ∷ 4 ∷ 4 ∷ 4 ∷ 4 ∷ 6 ∷ 6 ∷ [])

pub bounds : map (λ n. map (λ ls. check (text ls)) (sheets n)) (0 ∷ 1 ∷ 9999 ∷ 10000 ∷ []) ≡ unfit ∷ replicate 12 (Ok tt) ∷ replicate 12 (Ok tt) ∷ unfit ∷ []
unfolding line_text field_text field_from line_of line_at lines_from lines_of first_misspelt find table row_of begins head_of declared_by arms following read read_at read_sheet check
bounds = refl
