-- The plans on the wall (document 01, those with a star), by computation: one sentence about the judgment rules. Assumes nothing.
use Rattle.std.specs.Prelude.{Ok}
use mathlib.Core.Path.{◌≡◌, refl}
use mathlib.Core.Bool.{false}
use mathlib.Core.List.{List, [], ◌∷◌, ◌++◌, map}
use Prim.Native.Nat.{ℕ}
use lib.ListN.{take, drop}
use Rattle.nodes.specs.Nodes.{node, Ty, words}
use Rattle.spelling.specs.declared.Triple.{Triple}
use Rattle.spelling.specs.Spelling.{field_from, line_of, line_at, lines_from, lines_of, first_misspelt}
use Rattle.spelling.specs.Text.{field_text, line_text}
use Rattle.kinds.specs.Kinds.{parts_of, row_of, find as find_row, table, begins, head_of}
use Rattle.grammar.specs.Grammar.{declared_by, arms, following, read, read_at}
use Rattle.grammar.specs.Check.{read_sheet, check}
use Rattle.sheet.specs.Plan.{triples, plan_of, declarations, bindings_in, end_from, entries_end, places_of, part_line, is_plain, names, plain_entries, plain_plan, lookup}
use Rattle.judgment.specs.Types.{view, occurs, is_monotype, substitute, rename, front_names, after_front, can_unify}
use Rattle.judgment.specs.Terms.{term_view, lambda_of}
use Rattle.judgment.specs.Solutions.{◌≔◌, Solutions, find, links, any_solved, write_out_by, write_out, solution_nodes}
use Rattle.judgment.specs.Board.{board_nodes, find_var, before, perform, operations}
use Rattle.judgment.specs.Levels.{own_levels}
use Rattle.judgment.specs.Rules.{instantiate_from, subtype, open_names, signature_from, insert, push_vars, check_patterns, check_arms, infer_app}
use Rattle.judgment.specs.Run.{run_from, check_type}
use Rattle.judgment.specs.Result.{numbers, result_of, run_of, judge, limits, padded, place_from, threes_from, node_words, book_words}

abbrev pub l : ℕ → ℕ → ℕ → Triple
l k v c = record { kind = k; negative = false; value = v; count = c }

-- the seven numbers, the types reported, the solutions in order of solving
abbrev pub Row : Type 0
Row = List ℕ × Ty × Solutions

unfoldable pub row : ℕ → List Triple → Row
row c ls = let r = judge limits c ls in (numbers r.answer, r.report, r.solutions)

-- ceiling and lines
abbrev pub asked : List (ℕ × List Triple)
asked =
    (10000, (l 3 0 0 ∷ l 12 1 0 ∷ l 4 0 0 ∷ l 22 7 0 ∷ [])) ∷  -- 7 as Int
    (4, (l 3 0 0 ∷ l 12 1 0 ∷ l 4 0 0 ∷ l 22 7 0 ∷ [])) ∷  -- ceiling 4: the same book
    (5, (l 3 0 0 ∷ l 12 1 0 ∷ l 4 0 0 ∷ l 22 7 0 ∷ [])) ∷  -- ceiling 5
    (0, (l 3 0 0 ∷ l 12 1 0 ∷ l 4 0 0 ∷ l 22 7 0 ∷ [])) ∷  -- ceiling 0
    (10000, (l 3 0 0 ∷ l 12 2 0 ∷ l 4 0 0 ∷ l 22 7 0 ∷ [])) ∷  -- 7 as Bool: Int, Bool
    (10000, (l 3 0 0 ∷ l 12 1 0 ∷ l 4 0 0 ∷ l 21 10 0 ∷ [])) ∷  -- n10, bound nowhere, as Int
    (10000, (l 3 0 0 ∷ l 13 0 0 ∷ l 12 1 0 ∷ l 12 1 0 ∷ l 4 0 0 ∷ l 23 10 0 ∷ l 12 1 0 ∷ l 21 10 0 ∷ [])) ∷  -- Lambda n10 of type Int with body n10, as Arrow Int Int
    (10000, (l 3 0 0 ∷ l 12 3 0 ∷ l 4 0 0 ∷ l 30 4 0 ∷ [])) ∷  -- printInt with no argument as Unit
    (10000, (l 3 0 0 ∷ l 14 10 0 ∷ l 11 10 0 ∷ l 4 0 0 ∷ l 22 7 0 ∷ [])) ∷  -- 7 as Forall n10 over n10: Int, fresh universal 0
    (10000, (l 3 0 0 ∷ l 12 1 0 ∷ l 4 0 0 ∷ l 24 0 0 ∷ l 22 7 0 ∷ l 22 7 0 ∷ [])) ∷  -- 7 applied to 7 as Int
    (10000, (l 1 20 0 ∷ l 12 30 0 ∷ l 3 0 0 ∷ l 12 30 0 ∷ l 4 0 0 ∷ l 26 20 1 ∷ l 21 99 0 ∷ [])) ∷  -- Constructor n20, of type n30, with unbound argument n99, as n30
    (10000, (l 2 10 0 ∷ l 16 0 1 ∷ l 14 11 0 ∷ l 11 11 0 ∷ l 3 0 0 ∷ l 12 1 0 ∷ l 4 0 0 ∷ l 21 10 0 ∷ [])) ∷  -- n10 of a Product type of the one part Forall n11 over n11, as Int
    (10000, (l 3 0 0 ∷ l 12 1 0 ∷ l 4 0 0 ∷ l 27 0 2 ∷ l 22 7 0 ∷ l 42 10 0 ∷ l 22 1 0 ∷ l 41 0 0 ∷ l 21 10 0 ∷ [])) ∷  -- Case 7 with arms n10 to 1 and Wildcard to n10, as Int
    []

abbrev pub answered : List Row
answered =
    (0 ∷ 0 ∷ 5 ∷ 1 ∷ 0 ∷ 0 ∷ 1 ∷ [], [], (◌≔◌ 0 (node 12 1 ∷ []) ∷ [])) ∷
    (21 ∷ 0 ∷ 4 ∷ 1 ∷ 0 ∷ 0 ∷ 1 ∷ [], [], (◌≔◌ 0 (node 12 1 ∷ []) ∷ [])) ∷
    (0 ∷ 0 ∷ 5 ∷ 1 ∷ 0 ∷ 0 ∷ 1 ∷ [], [], (◌≔◌ 0 (node 12 1 ∷ []) ∷ [])) ∷
    (21 ∷ 0 ∷ 0 ∷ 0 ∷ 0 ∷ 0 ∷ 1 ∷ [], [], []) ∷
    (15 ∷ 0 ∷ 4 ∷ 1 ∷ 1 ∷ 1 ∷ 1 ∷ [], (node 12 1 ∷ node 12 2 ∷ []), (◌≔◌ 0 (node 12 1 ∷ []) ∷ [])) ∷
    (11 ∷ 0 ∷ 2 ∷ 1 ∷ 10 ∷ 0 ∷ 1 ∷ [], [], []) ∷
    (0 ∷ 0 ∷ 8 ∷ 1 ∷ 0 ∷ 0 ∷ 1 ∷ [], [], (◌≔◌ 0 (node 12 1 ∷ []) ∷ [])) ∷
    (18 ∷ 0 ∷ 2 ∷ 1 ∷ 1 ∷ 0 ∷ 1 ∷ [], [], []) ∷
    (15 ∷ 0 ∷ 5 ∷ 2 ∷ 1 ∷ 1 ∷ 0 ∷ [], (node 12 1 ∷ node 18 0 ∷ []), (◌≔◌ 1 (node 12 1 ∷ []) ∷ [])) ∷
    (13 ∷ 0 ∷ 5 ∷ 2 ∷ 1 ∷ 0 ∷ 1 ∷ [], (node 12 1 ∷ []), (◌≔◌ 1 (node 12 1 ∷ []) ∷ [])) ∷
    (0 ∷ 0 ∷ 5 ∷ 1 ∷ 0 ∷ 0 ∷ 1 ∷ [], [], (◌≔◌ 0 (node 12 30 ∷ []) ∷ [])) ∷
    (17 ∷ 0 ∷ 3 ∷ 1 ∷ 0 ∷ 3 ∷ 0 ∷ [], (node 16 1 ∷ node 14 11 ∷ node 11 11 ∷ []), []) ∷
    (0 ∷ 0 ∷ 21 ∷ 5 ∷ 0 ∷ 0 ∷ 1 ∷ [], [], (◌≔◌ 2 (node 17 1 ∷ []) ∷ ◌≔◌ 1 (node 17 0 ∷ []) ∷ ◌≔◌ 3 (node 12 1 ∷ []) ∷ ◌≔◌ 0 (node 12 1 ∷ []) ∷ ◌≔◌ 4 (node 12 1 ∷ []) ∷ [])) ∷
    []

pub on-the-wall : map (λ q. row q.0 q.1) asked ≡ answered
unfolding row judge result_of run_of check_type run_from perform operations board_nodes find_var before lookup instantiate_from subtype open_names signature_from insert push_vars check_patterns check_arms infer_app find links any_solved write_out_by write_out solution_nodes view term_view lambda_of occurs is_monotype substitute rename front_names after_front can_unify plan_of declarations bindings_in end_from entries_end places_of part_line is_plain names plain_entries plain_plan parts_of row_of find_row table
on-the-wall = refl

-- the book of the first plan: unknown 0's solution has one node, at word 3,000, and is Int; its level is 0
abbrev pub first_book : List ℕ
first_book = book_words (◌≔◌ 0 (node 12 1 ∷ []) ∷ []) own_levels 1

pub first-book : take 3 first_book ++ take 2 (drop 3000 first_book) ≡ 3000 ∷ 1 ∷ 0 ∷ 12 ∷ 1 ∷ []
unfolding book_words padded threes_from place_from node_words words
first-book = refl

-- the first plan from its bytes: the sheet that document 01 shows is taken, and has these lines
abbrev pub first_sheet : List ℕ
first_sheet = line_text (l 3 0 0) ++ (line_text (l 12 1 0) ++ (line_text (l 4 0 0) ++ line_text (l 22 7 0)))

pub first_taken : check first_sheet ≡ Ok tt
unfolding line_text field_text field_from line_of line_at lines_from lines_of first_misspelt find_row table row_of begins head_of declared_by arms following read read_at read_sheet check
first_taken = refl

pub first-lines : triples first_sheet ≡ l 3 0 0 ∷ l 12 1 0 ∷ l 4 0 0 ∷ l 22 7 0 ∷ []
unfolding line_text field_text field_from line_of line_at lines_from lines_of triples
first-lines = refl
