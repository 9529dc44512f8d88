-- More plans that tell the rules from a wrong turn, by computation. reference/telling.py makes this file from the answers of the Rust.
-- Assumes nothing.
use mathlib.Core.Path.{◌≡◌, refl}
use mathlib.Core.List.{List, [], ◌∷◌, ◌++◌, map}
use Prim.Native.Nat.{ℕ, zero, suc}
use Rattle.kinds.specs.Kinds.{parts_of, row_of, find as find_row, table}
use Rattle.sheet.specs.Plan.{plan_of, declarations, bindings_in, end_from, entries_end, places_of, part_line, is_plain, names, plain_entries, plain_plan, lookup}
use Rattle.judgment.specs.Types.{view, occurs, is_monotype, substitute, rename, front_names, after_front, can_unify}
use Rattle.judgment.specs.Terms.{term_view, lambda_of}
use Rattle.judgment.specs.Solutions.{◌≔◌, find, links, any_solved, write_out_by, write_out, solution_nodes}
use Rattle.judgment.specs.Board.{board_nodes, find_var, before, perform, operations}
use Rattle.judgment.specs.Rules.{instantiate_from, subtype, open_names, signature_from, insert, push_vars, check_patterns, check_arms, infer_app}
use Rattle.judgment.specs.Run.{run_from, check_type}
use Rattle.judgment.specs.Result.{limits, padded, report_words, result_of, run_of, judge}
use Rattle.nodes.specs.Nodes.{node, words}
use Rattle.spelling.specs.declared.Triple.{Triple}
use Rattle.judgment.proofs.Wall.{l, Row, row}
use Rattle.judgment.proofs.AtLimits.{short_under}

-- the plan's lines and the answer to them at ceiling 10,000
abbrev Asked : Type 0
Asked = List Triple × Row

abbrev rows_lookups : List Asked
rows_lookups =
    ((l 3 0 0 ∷ l 13 0 0 ∷ l 12 2 0 ∷ l 12 1 0 ∷ l 4 0 0 ∷ l 23 11 0 ∷ l 12 2 0 ∷ l 21 10 0 ∷ []), (11 ∷ 0 ∷ 3 ∷ 1 ∷ 10 ∷ 0 ∷ 1 ∷ [], ([]), [])) ∷  -- n10 bound by nowhere, as Int
    ((l 3 0 0 ∷ l 13 0 0 ∷ l 12 2 0 ∷ l 12 2 0 ∷ l 4 0 0 ∷ l 23 11 0 ∷ l 12 2 0 ∷ l 21 10 0 ∷ []), (11 ∷ 0 ∷ 3 ∷ 1 ∷ 10 ∷ 0 ∷ 1 ∷ [], ([]), [])) ∷  -- n10 bound by nowhere, as Bool
    ((l 3 0 0 ∷ l 13 0 0 ∷ l 12 2 0 ∷ l 12 3 0 ∷ l 4 0 0 ∷ l 23 11 0 ∷ l 12 2 0 ∷ l 21 10 0 ∷ []), (11 ∷ 0 ∷ 3 ∷ 1 ∷ 10 ∷ 0 ∷ 1 ∷ [], ([]), [])) ∷  -- n10 bound by nowhere, as Unit
    ((l 1 10 0 ∷ l 12 3 0 ∷ l 3 0 0 ∷ l 13 0 0 ∷ l 12 2 0 ∷ l 12 1 0 ∷ l 4 0 0 ∷ l 23 11 0 ∷ l 12 2 0 ∷ l 21 10 0 ∷ []), (15 ∷ 0 ∷ 5 ∷ 1 ∷ 1 ∷ 1 ∷ 1 ∷ [], (node 12 3 ∷ node 12 1 ∷ []), ◌≔◌ 0 (node 12 3 ∷ []) ∷ [])) ∷  -- n10 bound by constructor, as Int
    ((l 1 10 0 ∷ l 12 3 0 ∷ l 3 0 0 ∷ l 13 0 0 ∷ l 12 2 0 ∷ l 12 2 0 ∷ l 4 0 0 ∷ l 23 11 0 ∷ l 12 2 0 ∷ l 21 10 0 ∷ []), (15 ∷ 0 ∷ 5 ∷ 1 ∷ 1 ∷ 1 ∷ 1 ∷ [], (node 12 3 ∷ node 12 2 ∷ []), ◌≔◌ 0 (node 12 3 ∷ []) ∷ [])) ∷  -- n10 bound by constructor, as Bool
    ((l 1 10 0 ∷ l 12 3 0 ∷ l 3 0 0 ∷ l 13 0 0 ∷ l 12 2 0 ∷ l 12 3 0 ∷ l 4 0 0 ∷ l 23 11 0 ∷ l 12 2 0 ∷ l 21 10 0 ∷ []), (0 ∷ 0 ∷ 8 ∷ 1 ∷ 0 ∷ 0 ∷ 1 ∷ [], ([]), ◌≔◌ 0 (node 12 3 ∷ []) ∷ [])) ∷  -- n10 bound by constructor, as Unit
    ((l 3 0 0 ∷ l 13 0 0 ∷ l 12 2 0 ∷ l 12 1 0 ∷ l 4 0 0 ∷ l 23 10 0 ∷ l 12 2 0 ∷ l 21 10 0 ∷ []), (15 ∷ 0 ∷ 5 ∷ 1 ∷ 1 ∷ 1 ∷ 1 ∷ [], (node 12 2 ∷ node 12 1 ∷ []), ◌≔◌ 0 (node 12 2 ∷ []) ∷ [])) ∷  -- n10 bound by board, as Int
    ((l 3 0 0 ∷ l 13 0 0 ∷ l 12 2 0 ∷ l 12 2 0 ∷ l 4 0 0 ∷ l 23 10 0 ∷ l 12 2 0 ∷ l 21 10 0 ∷ []), (0 ∷ 0 ∷ 8 ∷ 1 ∷ 0 ∷ 0 ∷ 1 ∷ [], ([]), ◌≔◌ 0 (node 12 2 ∷ []) ∷ [])) ∷  -- n10 bound by board, as Bool
    ((l 3 0 0 ∷ l 13 0 0 ∷ l 12 2 0 ∷ l 12 3 0 ∷ l 4 0 0 ∷ l 23 10 0 ∷ l 12 2 0 ∷ l 21 10 0 ∷ []), (15 ∷ 0 ∷ 5 ∷ 1 ∷ 1 ∷ 1 ∷ 1 ∷ [], (node 12 2 ∷ node 12 3 ∷ []), ◌≔◌ 0 (node 12 2 ∷ []) ∷ [])) ∷  -- n10 bound by board, as Unit
    ((l 1 10 0 ∷ l 12 3 0 ∷ l 3 0 0 ∷ l 13 0 0 ∷ l 12 2 0 ∷ l 12 1 0 ∷ l 4 0 0 ∷ l 23 10 0 ∷ l 12 2 0 ∷ l 21 10 0 ∷ []), (15 ∷ 0 ∷ 5 ∷ 1 ∷ 1 ∷ 1 ∷ 1 ∷ [], (node 12 2 ∷ node 12 1 ∷ []), ◌≔◌ 0 (node 12 2 ∷ []) ∷ [])) ∷  -- n10 bound by board, constructor, as Int
    ((l 1 10 0 ∷ l 12 3 0 ∷ l 3 0 0 ∷ l 13 0 0 ∷ l 12 2 0 ∷ l 12 2 0 ∷ l 4 0 0 ∷ l 23 10 0 ∷ l 12 2 0 ∷ l 21 10 0 ∷ []), (0 ∷ 0 ∷ 8 ∷ 1 ∷ 0 ∷ 0 ∷ 1 ∷ [], ([]), ◌≔◌ 0 (node 12 2 ∷ []) ∷ [])) ∷  -- n10 bound by board, constructor, as Bool
    ((l 1 10 0 ∷ l 12 3 0 ∷ l 3 0 0 ∷ l 13 0 0 ∷ l 12 2 0 ∷ l 12 3 0 ∷ l 4 0 0 ∷ l 23 10 0 ∷ l 12 2 0 ∷ l 21 10 0 ∷ []), (15 ∷ 0 ∷ 5 ∷ 1 ∷ 1 ∷ 1 ∷ 1 ∷ [], (node 12 2 ∷ node 12 3 ∷ []), ◌≔◌ 0 (node 12 2 ∷ []) ∷ [])) ∷  -- n10 bound by board, constructor, as Unit
    ((l 2 10 0 ∷ l 12 1 0 ∷ l 3 0 0 ∷ l 13 0 0 ∷ l 12 2 0 ∷ l 12 1 0 ∷ l 4 0 0 ∷ l 23 11 0 ∷ l 12 2 0 ∷ l 21 10 0 ∷ []), (0 ∷ 0 ∷ 8 ∷ 1 ∷ 0 ∷ 0 ∷ 1 ∷ [], ([]), ◌≔◌ 0 (node 12 1 ∷ []) ∷ [])) ∷  -- n10 bound by context, as Int
    ((l 2 10 0 ∷ l 12 1 0 ∷ l 3 0 0 ∷ l 13 0 0 ∷ l 12 2 0 ∷ l 12 2 0 ∷ l 4 0 0 ∷ l 23 11 0 ∷ l 12 2 0 ∷ l 21 10 0 ∷ []), (15 ∷ 0 ∷ 5 ∷ 1 ∷ 1 ∷ 1 ∷ 1 ∷ [], (node 12 1 ∷ node 12 2 ∷ []), ◌≔◌ 0 (node 12 1 ∷ []) ∷ [])) ∷  -- n10 bound by context, as Bool
    ((l 2 10 0 ∷ l 12 1 0 ∷ l 3 0 0 ∷ l 13 0 0 ∷ l 12 2 0 ∷ l 12 3 0 ∷ l 4 0 0 ∷ l 23 11 0 ∷ l 12 2 0 ∷ l 21 10 0 ∷ []), (15 ∷ 0 ∷ 5 ∷ 1 ∷ 1 ∷ 1 ∷ 1 ∷ [], (node 12 1 ∷ node 12 3 ∷ []), ◌≔◌ 0 (node 12 1 ∷ []) ∷ [])) ∷  -- n10 bound by context, as Unit
    ((l 1 10 0 ∷ l 12 3 0 ∷ l 2 10 0 ∷ l 12 1 0 ∷ l 3 0 0 ∷ l 13 0 0 ∷ l 12 2 0 ∷ l 12 1 0 ∷ l 4 0 0 ∷ l 23 11 0 ∷ l 12 2 0 ∷ l 21 10 0 ∷ []), (0 ∷ 0 ∷ 8 ∷ 1 ∷ 0 ∷ 0 ∷ 1 ∷ [], ([]), ◌≔◌ 0 (node 12 1 ∷ []) ∷ [])) ∷  -- n10 bound by context, constructor, as Int
    ((l 1 10 0 ∷ l 12 3 0 ∷ l 2 10 0 ∷ l 12 1 0 ∷ l 3 0 0 ∷ l 13 0 0 ∷ l 12 2 0 ∷ l 12 2 0 ∷ l 4 0 0 ∷ l 23 11 0 ∷ l 12 2 0 ∷ l 21 10 0 ∷ []), (15 ∷ 0 ∷ 5 ∷ 1 ∷ 1 ∷ 1 ∷ 1 ∷ [], (node 12 1 ∷ node 12 2 ∷ []), ◌≔◌ 0 (node 12 1 ∷ []) ∷ [])) ∷  -- n10 bound by context, constructor, as Bool
    ((l 1 10 0 ∷ l 12 3 0 ∷ l 2 10 0 ∷ l 12 1 0 ∷ l 3 0 0 ∷ l 13 0 0 ∷ l 12 2 0 ∷ l 12 3 0 ∷ l 4 0 0 ∷ l 23 11 0 ∷ l 12 2 0 ∷ l 21 10 0 ∷ []), (15 ∷ 0 ∷ 5 ∷ 1 ∷ 1 ∷ 1 ∷ 1 ∷ [], (node 12 1 ∷ node 12 3 ∷ []), ◌≔◌ 0 (node 12 1 ∷ []) ∷ [])) ∷  -- n10 bound by context, constructor, as Unit
    ((l 2 10 0 ∷ l 12 1 0 ∷ l 3 0 0 ∷ l 13 0 0 ∷ l 12 2 0 ∷ l 12 1 0 ∷ l 4 0 0 ∷ l 23 10 0 ∷ l 12 2 0 ∷ l 21 10 0 ∷ []), (0 ∷ 0 ∷ 8 ∷ 1 ∷ 0 ∷ 0 ∷ 1 ∷ [], ([]), ◌≔◌ 0 (node 12 1 ∷ []) ∷ [])) ∷  -- n10 bound by context, board, as Int
    ((l 2 10 0 ∷ l 12 1 0 ∷ l 3 0 0 ∷ l 13 0 0 ∷ l 12 2 0 ∷ l 12 2 0 ∷ l 4 0 0 ∷ l 23 10 0 ∷ l 12 2 0 ∷ l 21 10 0 ∷ []), (15 ∷ 0 ∷ 5 ∷ 1 ∷ 1 ∷ 1 ∷ 1 ∷ [], (node 12 1 ∷ node 12 2 ∷ []), ◌≔◌ 0 (node 12 1 ∷ []) ∷ [])) ∷  -- n10 bound by context, board, as Bool
    ((l 2 10 0 ∷ l 12 1 0 ∷ l 3 0 0 ∷ l 13 0 0 ∷ l 12 2 0 ∷ l 12 3 0 ∷ l 4 0 0 ∷ l 23 10 0 ∷ l 12 2 0 ∷ l 21 10 0 ∷ []), (15 ∷ 0 ∷ 5 ∷ 1 ∷ 1 ∷ 1 ∷ 1 ∷ [], (node 12 1 ∷ node 12 3 ∷ []), ◌≔◌ 0 (node 12 1 ∷ []) ∷ [])) ∷  -- n10 bound by context, board, as Unit
    ((l 1 10 0 ∷ l 12 3 0 ∷ l 2 10 0 ∷ l 12 1 0 ∷ l 3 0 0 ∷ l 13 0 0 ∷ l 12 2 0 ∷ l 12 1 0 ∷ l 4 0 0 ∷ l 23 10 0 ∷ l 12 2 0 ∷ l 21 10 0 ∷ []), (0 ∷ 0 ∷ 8 ∷ 1 ∷ 0 ∷ 0 ∷ 1 ∷ [], ([]), ◌≔◌ 0 (node 12 1 ∷ []) ∷ [])) ∷  -- n10 bound by context, board, constructor, as Int
    ((l 1 10 0 ∷ l 12 3 0 ∷ l 2 10 0 ∷ l 12 1 0 ∷ l 3 0 0 ∷ l 13 0 0 ∷ l 12 2 0 ∷ l 12 2 0 ∷ l 4 0 0 ∷ l 23 10 0 ∷ l 12 2 0 ∷ l 21 10 0 ∷ []), (15 ∷ 0 ∷ 5 ∷ 1 ∷ 1 ∷ 1 ∷ 1 ∷ [], (node 12 1 ∷ node 12 2 ∷ []), ◌≔◌ 0 (node 12 1 ∷ []) ∷ [])) ∷  -- n10 bound by context, board, constructor, as Bool
    ((l 1 10 0 ∷ l 12 3 0 ∷ l 2 10 0 ∷ l 12 1 0 ∷ l 3 0 0 ∷ l 13 0 0 ∷ l 12 2 0 ∷ l 12 3 0 ∷ l 4 0 0 ∷ l 23 10 0 ∷ l 12 2 0 ∷ l 21 10 0 ∷ []), (15 ∷ 0 ∷ 5 ∷ 1 ∷ 1 ∷ 1 ∷ 1 ∷ [], (node 12 1 ∷ node 12 3 ∷ []), ◌≔◌ 0 (node 12 1 ∷ []) ∷ [])) ∷  -- n10 bound by context, board, constructor, as Unit
    ((l 1 10 0 ∷ l 12 3 0 ∷ l 3 0 0 ∷ l 12 1 0 ∷ l 4 0 0 ∷ l 27 0 1 ∷ l 22 7 0 ∷ l 42 10 0 ∷ l 21 10 0 ∷ []), (0 ∷ 0 ∷ 16 ∷ 4 ∷ 0 ∷ 0 ∷ 1 ∷ [], ([]), ◌≔◌ 2 (node 17 1 ∷ []) ∷ ◌≔◌ 1 (node 17 0 ∷ []) ∷ ◌≔◌ 3 (node 12 1 ∷ []) ∷ ◌≔◌ 0 (node 12 1 ∷ []) ∷ [])) ∷  -- n10 bound by a pattern and a constructor
    ((l 3 0 0 ∷ l 12 1 0 ∷ l 4 0 0 ∷ l 27 0 1 ∷ l 22 7 0 ∷ l 42 10 0 ∷ l 21 10 0 ∷ []), (0 ∷ 0 ∷ 16 ∷ 4 ∷ 0 ∷ 0 ∷ 1 ∷ [], ([]), ◌≔◌ 2 (node 17 1 ∷ []) ∷ ◌≔◌ 1 (node 17 0 ∷ []) ∷ ◌≔◌ 3 (node 12 1 ∷ []) ∷ ◌≔◌ 0 (node 12 1 ∷ []) ∷ [])) ∷  -- n10 bound by a pattern alone
    ((l 3 0 0 ∷ l 13 0 0 ∷ l 12 1 0 ∷ l 13 0 0 ∷ l 12 2 0 ∷ l 13 0 0 ∷ l 12 3 0 ∷ l 12 3 0 ∷ l 4 0 0 ∷ l 23 10 0 ∷ l 12 1 0 ∷ l 23 11 0 ∷ l 12 2 0 ∷ l 23 10 0 ∷ l 12 3 0 ∷ l 21 10 0 ∷ []), (0 ∷ 0 ∷ 14 ∷ 1 ∷ 0 ∷ 0 ∷ 1 ∷ [], ([]), ◌≔◌ 0 (node 12 3 ∷ []) ∷ [])) ∷  -- the newest of three variables, one of another name between, n10
    ((l 3 0 0 ∷ l 13 0 0 ∷ l 12 1 0 ∷ l 13 0 0 ∷ l 12 2 0 ∷ l 13 0 0 ∷ l 12 3 0 ∷ l 12 3 0 ∷ l 4 0 0 ∷ l 23 10 0 ∷ l 12 1 0 ∷ l 23 11 0 ∷ l 12 2 0 ∷ l 23 10 0 ∷ l 12 3 0 ∷ l 21 11 0 ∷ []), (15 ∷ 0 ∷ 7 ∷ 1 ∷ 1 ∷ 1 ∷ 1 ∷ [], (node 12 2 ∷ node 12 3 ∷ []), ◌≔◌ 0 (node 12 2 ∷ []) ∷ [])) ∷  -- the newest of three variables, one of another name between, n11
    ((l 2 10 0 ∷ l 12 1 0 ∷ l 3 0 0 ∷ l 12 1 0 ∷ l 4 0 0 ∷ l 26 10 0 ∷ []), (12 ∷ 0 ∷ 2 ∷ 1 ∷ 10 ∷ 0 ∷ 1 ∷ [], ([]), [])) ∷  -- a constructor is not looked for in the context
    ((l 3 0 0 ∷ l 13 0 0 ∷ l 12 1 0 ∷ l 12 1 0 ∷ l 4 0 0 ∷ l 23 10 0 ∷ l 12 1 0 ∷ l 26 10 0 ∷ []), (12 ∷ 0 ∷ 3 ∷ 1 ∷ 10 ∷ 0 ∷ 1 ∷ [], ([]), [])) ∷  -- nor on the board
    []

pub lookups : map (λ q. row 10000 q.0) rows_lookups ≡ map (λ q. q.1) rows_lookups
unfolding row parts_of row_of find_row table plan_of declarations bindings_in end_from entries_end places_of part_line is_plain names plain_entries plain_plan lookup view occurs is_monotype substitute rename front_names after_front can_unify term_view lambda_of find links any_solved write_out_by write_out solution_nodes board_nodes find_var before perform operations instantiate_from subtype open_names signature_from insert push_vars check_patterns check_arms infer_app run_from check_type result_of run_of judge
lookups = refl

abbrev rows_operators : List Asked
rows_operators =
    ((l 3 0 0 ∷ l 12 1 0 ∷ l 4 0 0 ∷ l 28 1 0 ∷ l 22 1 0 ∷ l 22 2 0 ∷ []), (0 ∷ 0 ∷ 15 ∷ 3 ∷ 0 ∷ 0 ∷ 1 ∷ [], ([]), ◌≔◌ 0 (node 12 1 ∷ []) ∷ ◌≔◌ 1 (node 12 1 ∷ []) ∷ ◌≔◌ 2 (node 12 1 ∷ []) ∷ [])) ∷  -- operator 1 as Int
    ((l 3 0 0 ∷ l 12 2 0 ∷ l 4 0 0 ∷ l 28 1 0 ∷ l 22 1 0 ∷ l 22 2 0 ∷ []), (15 ∷ 0 ∷ 14 ∷ 3 ∷ 1 ∷ 1 ∷ 1 ∷ [], (node 12 1 ∷ node 12 2 ∷ []), ◌≔◌ 0 (node 12 1 ∷ []) ∷ ◌≔◌ 1 (node 12 1 ∷ []) ∷ ◌≔◌ 2 (node 12 1 ∷ []) ∷ [])) ∷  -- operator 1 as Bool
    ((l 3 0 0 ∷ l 12 1 0 ∷ l 4 0 0 ∷ l 28 1 0 ∷ l 28 5 0 ∷ l 22 1 0 ∷ l 22 2 0 ∷ l 22 1 0 ∷ []), (15 ∷ 0 ∷ 22 ∷ 5 ∷ 1 ∷ 1 ∷ 1 ∷ [], (node 12 2 ∷ node 12 1 ∷ []), ◌≔◌ 0 (node 12 1 ∷ []) ∷ ◌≔◌ 1 (node 12 1 ∷ []) ∷ ◌≔◌ 2 (node 12 2 ∷ []) ∷ ◌≔◌ 3 (node 12 1 ∷ []) ∷ ◌≔◌ 4 (node 12 1 ∷ []) ∷ [])) ∷  -- operator 1, a Bool on the left
    ((l 3 0 0 ∷ l 12 1 0 ∷ l 4 0 0 ∷ l 28 1 0 ∷ l 22 1 0 ∷ l 28 5 0 ∷ l 22 1 0 ∷ l 22 2 0 ∷ []), (15 ∷ 0 ∷ 17 ∷ 4 ∷ 1 ∷ 1 ∷ 1 ∷ [], (node 12 2 ∷ node 12 1 ∷ []), ◌≔◌ 0 (node 12 1 ∷ []) ∷ ◌≔◌ 1 (node 12 2 ∷ []) ∷ ◌≔◌ 2 (node 12 1 ∷ []) ∷ ◌≔◌ 3 (node 12 1 ∷ []) ∷ [])) ∷  -- operator 1, a Bool on the right
    ((l 3 0 0 ∷ l 12 1 0 ∷ l 4 0 0 ∷ l 28 2 0 ∷ l 22 1 0 ∷ l 22 2 0 ∷ []), (0 ∷ 0 ∷ 15 ∷ 3 ∷ 0 ∷ 0 ∷ 1 ∷ [], ([]), ◌≔◌ 0 (node 12 1 ∷ []) ∷ ◌≔◌ 1 (node 12 1 ∷ []) ∷ ◌≔◌ 2 (node 12 1 ∷ []) ∷ [])) ∷  -- operator 2 as Int
    ((l 3 0 0 ∷ l 12 2 0 ∷ l 4 0 0 ∷ l 28 2 0 ∷ l 22 1 0 ∷ l 22 2 0 ∷ []), (15 ∷ 0 ∷ 14 ∷ 3 ∷ 1 ∷ 1 ∷ 1 ∷ [], (node 12 1 ∷ node 12 2 ∷ []), ◌≔◌ 0 (node 12 1 ∷ []) ∷ ◌≔◌ 1 (node 12 1 ∷ []) ∷ ◌≔◌ 2 (node 12 1 ∷ []) ∷ [])) ∷  -- operator 2 as Bool
    ((l 3 0 0 ∷ l 12 1 0 ∷ l 4 0 0 ∷ l 28 2 0 ∷ l 28 5 0 ∷ l 22 1 0 ∷ l 22 2 0 ∷ l 22 1 0 ∷ []), (15 ∷ 0 ∷ 22 ∷ 5 ∷ 1 ∷ 1 ∷ 1 ∷ [], (node 12 2 ∷ node 12 1 ∷ []), ◌≔◌ 0 (node 12 1 ∷ []) ∷ ◌≔◌ 1 (node 12 1 ∷ []) ∷ ◌≔◌ 2 (node 12 2 ∷ []) ∷ ◌≔◌ 3 (node 12 1 ∷ []) ∷ ◌≔◌ 4 (node 12 1 ∷ []) ∷ [])) ∷  -- operator 2, a Bool on the left
    ((l 3 0 0 ∷ l 12 1 0 ∷ l 4 0 0 ∷ l 28 2 0 ∷ l 22 1 0 ∷ l 28 5 0 ∷ l 22 1 0 ∷ l 22 2 0 ∷ []), (15 ∷ 0 ∷ 17 ∷ 4 ∷ 1 ∷ 1 ∷ 1 ∷ [], (node 12 2 ∷ node 12 1 ∷ []), ◌≔◌ 0 (node 12 1 ∷ []) ∷ ◌≔◌ 1 (node 12 2 ∷ []) ∷ ◌≔◌ 2 (node 12 1 ∷ []) ∷ ◌≔◌ 3 (node 12 1 ∷ []) ∷ [])) ∷  -- operator 2, a Bool on the right
    ((l 3 0 0 ∷ l 12 1 0 ∷ l 4 0 0 ∷ l 28 3 0 ∷ l 22 1 0 ∷ l 22 2 0 ∷ []), (0 ∷ 0 ∷ 15 ∷ 3 ∷ 0 ∷ 0 ∷ 1 ∷ [], ([]), ◌≔◌ 0 (node 12 1 ∷ []) ∷ ◌≔◌ 1 (node 12 1 ∷ []) ∷ ◌≔◌ 2 (node 12 1 ∷ []) ∷ [])) ∷  -- operator 3 as Int
    ((l 3 0 0 ∷ l 12 2 0 ∷ l 4 0 0 ∷ l 28 3 0 ∷ l 22 1 0 ∷ l 22 2 0 ∷ []), (15 ∷ 0 ∷ 14 ∷ 3 ∷ 1 ∷ 1 ∷ 1 ∷ [], (node 12 1 ∷ node 12 2 ∷ []), ◌≔◌ 0 (node 12 1 ∷ []) ∷ ◌≔◌ 1 (node 12 1 ∷ []) ∷ ◌≔◌ 2 (node 12 1 ∷ []) ∷ [])) ∷  -- operator 3 as Bool
    ((l 3 0 0 ∷ l 12 1 0 ∷ l 4 0 0 ∷ l 28 3 0 ∷ l 28 5 0 ∷ l 22 1 0 ∷ l 22 2 0 ∷ l 22 1 0 ∷ []), (15 ∷ 0 ∷ 22 ∷ 5 ∷ 1 ∷ 1 ∷ 1 ∷ [], (node 12 2 ∷ node 12 1 ∷ []), ◌≔◌ 0 (node 12 1 ∷ []) ∷ ◌≔◌ 1 (node 12 1 ∷ []) ∷ ◌≔◌ 2 (node 12 2 ∷ []) ∷ ◌≔◌ 3 (node 12 1 ∷ []) ∷ ◌≔◌ 4 (node 12 1 ∷ []) ∷ [])) ∷  -- operator 3, a Bool on the left
    ((l 3 0 0 ∷ l 12 1 0 ∷ l 4 0 0 ∷ l 28 3 0 ∷ l 22 1 0 ∷ l 28 5 0 ∷ l 22 1 0 ∷ l 22 2 0 ∷ []), (15 ∷ 0 ∷ 17 ∷ 4 ∷ 1 ∷ 1 ∷ 1 ∷ [], (node 12 2 ∷ node 12 1 ∷ []), ◌≔◌ 0 (node 12 1 ∷ []) ∷ ◌≔◌ 1 (node 12 2 ∷ []) ∷ ◌≔◌ 2 (node 12 1 ∷ []) ∷ ◌≔◌ 3 (node 12 1 ∷ []) ∷ [])) ∷  -- operator 3, a Bool on the right
    ((l 3 0 0 ∷ l 12 1 0 ∷ l 4 0 0 ∷ l 28 4 0 ∷ l 22 1 0 ∷ l 22 2 0 ∷ []), (0 ∷ 0 ∷ 15 ∷ 3 ∷ 0 ∷ 0 ∷ 1 ∷ [], ([]), ◌≔◌ 0 (node 12 1 ∷ []) ∷ ◌≔◌ 1 (node 12 1 ∷ []) ∷ ◌≔◌ 2 (node 12 1 ∷ []) ∷ [])) ∷  -- operator 4 as Int
    ((l 3 0 0 ∷ l 12 2 0 ∷ l 4 0 0 ∷ l 28 4 0 ∷ l 22 1 0 ∷ l 22 2 0 ∷ []), (15 ∷ 0 ∷ 14 ∷ 3 ∷ 1 ∷ 1 ∷ 1 ∷ [], (node 12 1 ∷ node 12 2 ∷ []), ◌≔◌ 0 (node 12 1 ∷ []) ∷ ◌≔◌ 1 (node 12 1 ∷ []) ∷ ◌≔◌ 2 (node 12 1 ∷ []) ∷ [])) ∷  -- operator 4 as Bool
    ((l 3 0 0 ∷ l 12 1 0 ∷ l 4 0 0 ∷ l 28 4 0 ∷ l 28 5 0 ∷ l 22 1 0 ∷ l 22 2 0 ∷ l 22 1 0 ∷ []), (15 ∷ 0 ∷ 22 ∷ 5 ∷ 1 ∷ 1 ∷ 1 ∷ [], (node 12 2 ∷ node 12 1 ∷ []), ◌≔◌ 0 (node 12 1 ∷ []) ∷ ◌≔◌ 1 (node 12 1 ∷ []) ∷ ◌≔◌ 2 (node 12 2 ∷ []) ∷ ◌≔◌ 3 (node 12 1 ∷ []) ∷ ◌≔◌ 4 (node 12 1 ∷ []) ∷ [])) ∷  -- operator 4, a Bool on the left
    ((l 3 0 0 ∷ l 12 1 0 ∷ l 4 0 0 ∷ l 28 4 0 ∷ l 22 1 0 ∷ l 28 5 0 ∷ l 22 1 0 ∷ l 22 2 0 ∷ []), (15 ∷ 0 ∷ 17 ∷ 4 ∷ 1 ∷ 1 ∷ 1 ∷ [], (node 12 2 ∷ node 12 1 ∷ []), ◌≔◌ 0 (node 12 1 ∷ []) ∷ ◌≔◌ 1 (node 12 2 ∷ []) ∷ ◌≔◌ 2 (node 12 1 ∷ []) ∷ ◌≔◌ 3 (node 12 1 ∷ []) ∷ [])) ∷  -- operator 4, a Bool on the right
    ((l 3 0 0 ∷ l 12 1 0 ∷ l 4 0 0 ∷ l 28 5 0 ∷ l 22 1 0 ∷ l 22 2 0 ∷ []), (15 ∷ 0 ∷ 14 ∷ 3 ∷ 1 ∷ 1 ∷ 1 ∷ [], (node 12 2 ∷ node 12 1 ∷ []), ◌≔◌ 0 (node 12 2 ∷ []) ∷ ◌≔◌ 1 (node 12 1 ∷ []) ∷ ◌≔◌ 2 (node 12 1 ∷ []) ∷ [])) ∷  -- operator 5 as Int
    ((l 3 0 0 ∷ l 12 2 0 ∷ l 4 0 0 ∷ l 28 5 0 ∷ l 22 1 0 ∷ l 22 2 0 ∷ []), (0 ∷ 0 ∷ 15 ∷ 3 ∷ 0 ∷ 0 ∷ 1 ∷ [], ([]), ◌≔◌ 0 (node 12 2 ∷ []) ∷ ◌≔◌ 1 (node 12 1 ∷ []) ∷ ◌≔◌ 2 (node 12 1 ∷ []) ∷ [])) ∷  -- operator 5 as Bool
    ((l 3 0 0 ∷ l 12 2 0 ∷ l 4 0 0 ∷ l 28 5 0 ∷ l 28 5 0 ∷ l 22 1 0 ∷ l 22 2 0 ∷ l 22 1 0 ∷ []), (15 ∷ 0 ∷ 22 ∷ 5 ∷ 1 ∷ 1 ∷ 1 ∷ [], (node 12 2 ∷ node 12 1 ∷ []), ◌≔◌ 0 (node 12 2 ∷ []) ∷ ◌≔◌ 1 (node 12 1 ∷ []) ∷ ◌≔◌ 2 (node 12 2 ∷ []) ∷ ◌≔◌ 3 (node 12 1 ∷ []) ∷ ◌≔◌ 4 (node 12 1 ∷ []) ∷ [])) ∷  -- operator 5, a Bool on the left
    ((l 3 0 0 ∷ l 12 2 0 ∷ l 4 0 0 ∷ l 28 5 0 ∷ l 22 1 0 ∷ l 28 5 0 ∷ l 22 1 0 ∷ l 22 2 0 ∷ []), (15 ∷ 0 ∷ 17 ∷ 4 ∷ 1 ∷ 1 ∷ 1 ∷ [], (node 12 2 ∷ node 12 1 ∷ []), ◌≔◌ 0 (node 12 2 ∷ []) ∷ ◌≔◌ 1 (node 12 2 ∷ []) ∷ ◌≔◌ 2 (node 12 1 ∷ []) ∷ ◌≔◌ 3 (node 12 1 ∷ []) ∷ [])) ∷  -- operator 5, a Bool on the right
    ((l 3 0 0 ∷ l 12 1 0 ∷ l 4 0 0 ∷ l 28 6 0 ∷ l 22 1 0 ∷ l 22 2 0 ∷ []), (15 ∷ 0 ∷ 14 ∷ 3 ∷ 1 ∷ 1 ∷ 1 ∷ [], (node 12 2 ∷ node 12 1 ∷ []), ◌≔◌ 0 (node 12 2 ∷ []) ∷ ◌≔◌ 1 (node 12 1 ∷ []) ∷ ◌≔◌ 2 (node 12 1 ∷ []) ∷ [])) ∷  -- operator 6 as Int
    ((l 3 0 0 ∷ l 12 2 0 ∷ l 4 0 0 ∷ l 28 6 0 ∷ l 22 1 0 ∷ l 22 2 0 ∷ []), (0 ∷ 0 ∷ 15 ∷ 3 ∷ 0 ∷ 0 ∷ 1 ∷ [], ([]), ◌≔◌ 0 (node 12 2 ∷ []) ∷ ◌≔◌ 1 (node 12 1 ∷ []) ∷ ◌≔◌ 2 (node 12 1 ∷ []) ∷ [])) ∷  -- operator 6 as Bool
    ((l 3 0 0 ∷ l 12 2 0 ∷ l 4 0 0 ∷ l 28 6 0 ∷ l 28 5 0 ∷ l 22 1 0 ∷ l 22 2 0 ∷ l 22 1 0 ∷ []), (15 ∷ 0 ∷ 22 ∷ 5 ∷ 1 ∷ 1 ∷ 1 ∷ [], (node 12 2 ∷ node 12 1 ∷ []), ◌≔◌ 0 (node 12 2 ∷ []) ∷ ◌≔◌ 1 (node 12 1 ∷ []) ∷ ◌≔◌ 2 (node 12 2 ∷ []) ∷ ◌≔◌ 3 (node 12 1 ∷ []) ∷ ◌≔◌ 4 (node 12 1 ∷ []) ∷ [])) ∷  -- operator 6, a Bool on the left
    ((l 3 0 0 ∷ l 12 2 0 ∷ l 4 0 0 ∷ l 28 6 0 ∷ l 22 1 0 ∷ l 28 5 0 ∷ l 22 1 0 ∷ l 22 2 0 ∷ []), (15 ∷ 0 ∷ 17 ∷ 4 ∷ 1 ∷ 1 ∷ 1 ∷ [], (node 12 2 ∷ node 12 1 ∷ []), ◌≔◌ 0 (node 12 2 ∷ []) ∷ ◌≔◌ 1 (node 12 2 ∷ []) ∷ ◌≔◌ 2 (node 12 1 ∷ []) ∷ ◌≔◌ 3 (node 12 1 ∷ []) ∷ [])) ∷  -- operator 6, a Bool on the right
    ((l 3 0 0 ∷ l 12 1 0 ∷ l 4 0 0 ∷ l 28 1 0 ∷ l 28 6 0 ∷ l 22 1 0 ∷ l 22 2 0 ∷ l 28 5 0 ∷ l 22 1 0 ∷ l 22 2 0 ∷ []), (15 ∷ 0 ∷ 17 ∷ 4 ∷ 1 ∷ 1 ∷ 1 ∷ [], (node 12 2 ∷ node 12 1 ∷ []), ◌≔◌ 0 (node 12 1 ∷ []) ∷ ◌≔◌ 1 (node 12 2 ∷ []) ∷ ◌≔◌ 2 (node 12 1 ∷ []) ∷ ◌≔◌ 3 (node 12 1 ∷ []) ∷ [])) ∷  -- a Bool on both sides
    ((l 3 0 0 ∷ l 12 1 0 ∷ l 4 0 0 ∷ l 29 0 0 ∷ l 28 5 0 ∷ l 22 1 0 ∷ l 22 2 0 ∷ l 28 5 0 ∷ l 22 1 0 ∷ l 22 2 0 ∷ l 22 7 0 ∷ []), (15 ∷ 0 ∷ 21 ∷ 5 ∷ 1 ∷ 1 ∷ 1 ∷ [], (node 12 2 ∷ node 12 1 ∷ []), ◌≔◌ 1 (node 12 1 ∷ []) ∷ ◌≔◌ 0 (node 12 1 ∷ []) ∷ ◌≔◌ 2 (node 12 2 ∷ []) ∷ ◌≔◌ 3 (node 12 1 ∷ []) ∷ ◌≔◌ 4 (node 12 1 ∷ []) ∷ [])) ∷  -- an If with a Bool for the second part
    ((l 3 0 0 ∷ l 12 1 0 ∷ l 4 0 0 ∷ l 29 0 0 ∷ l 28 5 0 ∷ l 22 1 0 ∷ l 22 2 0 ∷ l 22 7 0 ∷ l 28 5 0 ∷ l 22 1 0 ∷ l 22 2 0 ∷ []), (15 ∷ 0 ∷ 21 ∷ 5 ∷ 1 ∷ 1 ∷ 1 ∷ [], (node 12 1 ∷ node 12 2 ∷ []), ◌≔◌ 1 (node 12 2 ∷ []) ∷ ◌≔◌ 2 (node 12 1 ∷ []) ∷ ◌≔◌ 3 (node 12 1 ∷ []) ∷ ◌≔◌ 0 (node 12 2 ∷ []) ∷ ◌≔◌ 4 (node 12 1 ∷ []) ∷ [])) ∷  -- an If with for the third
    ((l 3 0 0 ∷ l 12 1 0 ∷ l 4 0 0 ∷ l 29 0 0 ∷ l 22 7 0 ∷ l 22 7 0 ∷ l 22 7 0 ∷ []), (15 ∷ 0 ∷ 16 ∷ 4 ∷ 1 ∷ 1 ∷ 1 ∷ [], (node 12 1 ∷ node 12 2 ∷ []), ◌≔◌ 1 (node 12 1 ∷ []) ∷ ◌≔◌ 0 (node 12 1 ∷ []) ∷ ◌≔◌ 2 (node 12 1 ∷ []) ∷ ◌≔◌ 3 (node 12 1 ∷ []) ∷ [])) ∷  -- an If with an Int for the first
    ((l 3 0 0 ∷ l 12 1 0 ∷ l 4 0 0 ∷ l 30 4 0 ∷ []), (18 ∷ 0 ∷ 2 ∷ 1 ∷ 1 ∷ 0 ∷ 1 ∷ [], ([]), [])) ∷  -- printInt with none, as Int
    ((l 3 0 0 ∷ l 12 3 0 ∷ l 4 0 0 ∷ l 30 4 0 ∷ []), (18 ∷ 0 ∷ 2 ∷ 1 ∷ 1 ∷ 0 ∷ 1 ∷ [], ([]), [])) ∷  -- printInt with none, as Unit
    ((l 3 0 0 ∷ l 12 1 0 ∷ l 4 0 0 ∷ l 30 4 1 ∷ l 22 7 0 ∷ []), (15 ∷ 0 ∷ 9 ∷ 2 ∷ 1 ∷ 1 ∷ 1 ∷ [], (node 12 3 ∷ node 12 1 ∷ []), ◌≔◌ 0 (node 12 3 ∷ []) ∷ ◌≔◌ 1 (node 12 1 ∷ []) ∷ [])) ∷  -- printInt with one, as Int
    ((l 3 0 0 ∷ l 12 3 0 ∷ l 4 0 0 ∷ l 30 4 1 ∷ l 22 7 0 ∷ []), (0 ∷ 0 ∷ 10 ∷ 2 ∷ 0 ∷ 0 ∷ 1 ∷ [], ([]), ◌≔◌ 0 (node 12 3 ∷ []) ∷ ◌≔◌ 1 (node 12 1 ∷ []) ∷ [])) ∷  -- printInt with one, as Unit
    ((l 3 0 0 ∷ l 12 1 0 ∷ l 4 0 0 ∷ l 30 4 1 ∷ l 28 5 0 ∷ l 22 1 0 ∷ l 22 2 0 ∷ []), (15 ∷ 0 ∷ 17 ∷ 4 ∷ 1 ∷ 1 ∷ 1 ∷ [], (node 12 2 ∷ node 12 1 ∷ []), ◌≔◌ 0 (node 12 3 ∷ []) ∷ ◌≔◌ 1 (node 12 2 ∷ []) ∷ ◌≔◌ 2 (node 12 1 ∷ []) ∷ ◌≔◌ 3 (node 12 1 ∷ []) ∷ [])) ∷  -- printInt with a Bool, as Int
    ((l 3 0 0 ∷ l 12 3 0 ∷ l 4 0 0 ∷ l 30 4 1 ∷ l 28 5 0 ∷ l 22 1 0 ∷ l 22 2 0 ∷ []), (15 ∷ 0 ∷ 17 ∷ 4 ∷ 1 ∷ 1 ∷ 1 ∷ [], (node 12 2 ∷ node 12 1 ∷ []), ◌≔◌ 0 (node 12 3 ∷ []) ∷ ◌≔◌ 1 (node 12 2 ∷ []) ∷ ◌≔◌ 2 (node 12 1 ∷ []) ∷ ◌≔◌ 3 (node 12 1 ∷ []) ∷ [])) ∷  -- printInt with a Bool, as Unit
    ((l 3 0 0 ∷ l 12 1 0 ∷ l 4 0 0 ∷ l 30 4 2 ∷ l 22 7 0 ∷ l 22 7 0 ∷ []), (18 ∷ 0 ∷ 2 ∷ 1 ∷ 1 ∷ 2 ∷ 1 ∷ [], ([]), [])) ∷  -- printInt with two, as Int
    ((l 3 0 0 ∷ l 12 3 0 ∷ l 4 0 0 ∷ l 30 4 2 ∷ l 22 7 0 ∷ l 22 7 0 ∷ []), (18 ∷ 0 ∷ 2 ∷ 1 ∷ 1 ∷ 2 ∷ 1 ∷ [], ([]), [])) ∷  -- printInt with two, as Unit
    ((l 3 0 0 ∷ l 12 3 0 ∷ l 4 0 0 ∷ l 30 1 1 ∷ l 22 7 0 ∷ []), (19 ∷ 0 ∷ 2 ∷ 1 ∷ 1 ∷ 0 ∷ 1 ∷ [], ([]), [])) ∷  -- no intrinsic n1
    ((l 3 0 0 ∷ l 12 3 0 ∷ l 4 0 0 ∷ l 30 2 1 ∷ l 22 7 0 ∷ []), (19 ∷ 0 ∷ 2 ∷ 1 ∷ 2 ∷ 0 ∷ 1 ∷ [], ([]), [])) ∷  -- no intrinsic n2
    ((l 3 0 0 ∷ l 12 3 0 ∷ l 4 0 0 ∷ l 30 3 1 ∷ l 22 7 0 ∷ []), (19 ∷ 0 ∷ 2 ∷ 1 ∷ 3 ∷ 0 ∷ 1 ∷ [], ([]), [])) ∷  -- no intrinsic n3
    ((l 3 0 0 ∷ l 12 3 0 ∷ l 4 0 0 ∷ l 30 5 1 ∷ l 22 7 0 ∷ []), (19 ∷ 0 ∷ 2 ∷ 1 ∷ 5 ∷ 0 ∷ 1 ∷ [], ([]), [])) ∷  -- no intrinsic n5
    ((l 3 0 0 ∷ l 12 1 0 ∷ l 4 0 0 ∷ l 22 0 0 ∷ []), (0 ∷ 0 ∷ 5 ∷ 1 ∷ 0 ∷ 0 ∷ 1 ∷ [], ([]), ◌≔◌ 0 (node 12 1 ∷ []) ∷ [])) ∷  -- the literal 0
    ((l 3 0 0 ∷ l 12 1 0 ∷ l 4 0 0 ∷ l 22 1000 0 ∷ []), (0 ∷ 0 ∷ 5 ∷ 1 ∷ 0 ∷ 0 ∷ 1 ∷ [], ([]), ◌≔◌ 0 (node 12 1 ∷ []) ∷ [])) ∷  -- the literal 1000
    ((l 3 0 0 ∷ l 12 1 0 ∷ l 4 0 0 ∷ l 22 1001 0 ∷ []), (0 ∷ 0 ∷ 5 ∷ 1 ∷ 0 ∷ 0 ∷ 1 ∷ [], ([]), ◌≔◌ 0 (node 12 1 ∷ []) ∷ [])) ∷  -- the literal 1001
    ((l 3 0 0 ∷ l 12 1 0 ∷ l 4 0 0 ∷ l 22 4294967295 0 ∷ []), (0 ∷ 0 ∷ 5 ∷ 1 ∷ 0 ∷ 0 ∷ 1 ∷ [], ([]), ◌≔◌ 0 (node 12 1 ∷ []) ∷ [])) ∷  -- the literal 4294967295
    ((l 3 0 0 ∷ l 12 1 0 ∷ l 4 0 0 ∷ l 22 4294967296 0 ∷ []), (0 ∷ 0 ∷ 5 ∷ 1 ∷ 0 ∷ 0 ∷ 1 ∷ [], ([]), ◌≔◌ 0 (node 12 1 ∷ []) ∷ [])) ∷  -- the literal 4294967296
    ((l 3 0 0 ∷ l 12 1 0 ∷ l 4 0 0 ∷ l 22 9223372036854775807 0 ∷ []), (0 ∷ 0 ∷ 5 ∷ 1 ∷ 0 ∷ 0 ∷ 1 ∷ [], ([]), ◌≔◌ 0 (node 12 1 ∷ []) ∷ [])) ∷  -- the literal 9223372036854775807
    []

pub operators : map (λ q. row 10000 q.0) rows_operators ≡ map (λ q. q.1) rows_operators
unfolding row parts_of row_of find_row table plan_of declarations bindings_in end_from entries_end places_of part_line is_plain names plain_entries plain_plan lookup view occurs is_monotype substitute rename front_names after_front can_unify term_view lambda_of find links any_solved write_out_by write_out solution_nodes board_nodes find_var before perform operations instantiate_from subtype open_names signature_from insert push_vars check_patterns check_arms infer_app run_from check_type result_of run_of judge
operators = refl

abbrev rows_under_binders : List Asked
rows_under_binders =
    ((l 2 41 0 ∷ l 16 0 1 ∷ l 14 11 0 ∷ l 11 11 0 ∷ l 3 0 0 ∷ l 13 0 0 ∷ l 12 1 0 ∷ l 12 2 0 ∷ l 4 0 0 ∷ l 23 10 0 ∷ l 12 1 0 ∷ l 22 7 0 ∷ []), (15 ∷ 0 ∷ 5 ∷ 1 ∷ 1 ∷ 1 ∷ 1 ∷ [], (node 12 1 ∷ node 12 2 ∷ []), ◌≔◌ 0 (node 12 1 ∷ []) ∷ [])) ∷  -- 15 under a Lambda, checked
    ((l 2 41 0 ∷ l 16 0 1 ∷ l 14 11 0 ∷ l 11 11 0 ∷ l 3 0 0 ∷ l 12 2 0 ∷ l 4 0 0 ∷ l 24 0 0 ∷ l 23 10 0 ∷ l 12 1 0 ∷ l 22 7 0 ∷ l 22 7 0 ∷ []), (15 ∷ 0 ∷ 21 ∷ 6 ∷ 1 ∷ 1 ∷ 1 ∷ [], (node 12 1 ∷ node 12 2 ∷ []), ◌≔◌ 2 (node 12 1 ∷ []) ∷ ◌≔◌ 1 (node 13 0 ∷ node 17 3 ∷ node 17 4 ∷ []) ∷ ◌≔◌ 4 (node 12 1 ∷ []) ∷ ◌≔◌ 3 (node 12 1 ∷ []) ∷ ◌≔◌ 5 (node 12 1 ∷ []) ∷ ◌≔◌ 0 (node 12 1 ∷ []) ∷ [])) ∷  -- 15 under a Lambda, inferred
    ((l 2 41 0 ∷ l 16 0 1 ∷ l 14 11 0 ∷ l 11 11 0 ∷ l 3 0 0 ∷ l 12 2 0 ∷ l 4 0 0 ∷ l 25 11 0 ∷ l 22 7 0 ∷ []), (15 ∷ 0 ∷ 11 ∷ 3 ∷ 1 ∷ 1 ∷ 0 ∷ [], (node 12 1 ∷ node 12 2 ∷ []), ◌≔◌ 1 (node 12 1 ∷ []) ∷ ◌≔◌ 0 (node 12 1 ∷ []) ∷ [])) ∷  -- 15 under a TypeLambda
    ((l 2 41 0 ∷ l 16 0 1 ∷ l 14 11 0 ∷ l 11 11 0 ∷ l 3 0 0 ∷ l 14 11 0 ∷ l 12 2 0 ∷ l 4 0 0 ∷ l 25 11 0 ∷ l 22 7 0 ∷ []), (15 ∷ 0 ∷ 12 ∷ 4 ∷ 1 ∷ 1 ∷ 0 ∷ [], (node 12 1 ∷ node 12 2 ∷ []), ◌≔◌ 2 (node 12 1 ∷ []) ∷ ◌≔◌ 1 (node 12 1 ∷ []) ∷ [])) ∷  -- 15 under a TypeLambda, as a quantified type
    ((l 2 41 0 ∷ l 16 0 1 ∷ l 14 11 0 ∷ l 11 11 0 ∷ l 3 0 0 ∷ l 13 0 0 ∷ l 12 1 0 ∷ l 12 2 0 ∷ l 4 0 0 ∷ l 25 11 0 ∷ l 23 10 0 ∷ l 12 1 0 ∷ l 22 7 0 ∷ []), (15 ∷ 0 ∷ 24 ∷ 8 ∷ 1 ∷ 1 ∷ 0 ∷ [], (node 12 1 ∷ node 12 2 ∷ []), ◌≔◌ 2 (node 12 1 ∷ []) ∷ ◌≔◌ 1 (node 13 0 ∷ node 17 3 ∷ node 17 4 ∷ []) ∷ ◌≔◌ 4 (node 12 1 ∷ []) ∷ ◌≔◌ 3 (node 12 1 ∷ []) ∷ ◌≔◌ 0 (node 13 0 ∷ node 17 6 ∷ node 17 7 ∷ []) ∷ ◌≔◌ 7 (node 12 1 ∷ []) ∷ ◌≔◌ 6 (node 12 1 ∷ []) ∷ [])) ∷  -- 15 under a Lambda under a TypeLambda
    ((l 2 41 0 ∷ l 16 0 1 ∷ l 14 11 0 ∷ l 11 11 0 ∷ l 3 0 0 ∷ l 13 0 0 ∷ l 12 1 0 ∷ l 12 2 0 ∷ l 4 0 0 ∷ l 23 10 0 ∷ l 12 1 0 ∷ l 25 11 0 ∷ l 22 7 0 ∷ []), (15 ∷ 0 ∷ 12 ∷ 3 ∷ 1 ∷ 1 ∷ 0 ∷ [], (node 12 1 ∷ node 12 2 ∷ []), ◌≔◌ 1 (node 12 1 ∷ []) ∷ ◌≔◌ 0 (node 12 1 ∷ []) ∷ [])) ∷  -- 15 under a TypeLambda under a Lambda
    ((l 2 41 0 ∷ l 16 0 1 ∷ l 14 11 0 ∷ l 11 11 0 ∷ l 3 0 0 ∷ l 12 2 0 ∷ l 4 0 0 ∷ l 27 0 1 ∷ l 22 7 0 ∷ l 42 10 0 ∷ l 22 7 0 ∷ []), (15 ∷ 0 ∷ 15 ∷ 4 ∷ 1 ∷ 1 ∷ 1 ∷ [], (node 12 1 ∷ node 12 2 ∷ []), ◌≔◌ 2 (node 12 1 ∷ []) ∷ ◌≔◌ 0 (node 12 1 ∷ []) ∷ ◌≔◌ 3 (node 12 1 ∷ []) ∷ ◌≔◌ 1 (node 12 1 ∷ []) ∷ [])) ∷  -- 15 in an arm
    ((l 2 41 0 ∷ l 16 0 1 ∷ l 14 11 0 ∷ l 11 11 0 ∷ l 3 0 0 ∷ l 12 2 0 ∷ l 4 0 0 ∷ l 27 0 2 ∷ l 22 7 0 ∷ l 42 10 0 ∷ l 22 7 0 ∷ l 41 0 0 ∷ l 27 0 0 ∷ l 22 7 0 ∷ []), (15 ∷ 0 ∷ 25 ∷ 7 ∷ 1 ∷ 1 ∷ 1 ∷ [], (node 12 1 ∷ node 12 2 ∷ []), ◌≔◌ 4 (node 12 1 ∷ []) ∷ ◌≔◌ 3 (node 12 1 ∷ []) ∷ ◌≔◌ 2 (node 17 0 ∷ []) ∷ ◌≔◌ 5 (node 12 1 ∷ []) ∷ ◌≔◌ 0 (node 12 1 ∷ []) ∷ ◌≔◌ 6 (node 12 1 ∷ []) ∷ ◌≔◌ 1 (node 12 1 ∷ []) ∷ [])) ∷  -- 15 in the first of two arms
    ((l 2 41 0 ∷ l 16 0 1 ∷ l 14 11 0 ∷ l 11 11 0 ∷ l 3 0 0 ∷ l 13 0 0 ∷ l 12 1 0 ∷ l 12 1 0 ∷ l 4 0 0 ∷ l 23 10 0 ∷ l 12 1 0 ∷ l 21 99 0 ∷ []), (11 ∷ 0 ∷ 3 ∷ 1 ∷ 99 ∷ 0 ∷ 1 ∷ [], ([]), [])) ∷  -- 11 under a Lambda, checked
    ((l 2 41 0 ∷ l 16 0 1 ∷ l 14 11 0 ∷ l 11 11 0 ∷ l 3 0 0 ∷ l 12 1 0 ∷ l 4 0 0 ∷ l 24 0 0 ∷ l 23 10 0 ∷ l 12 1 0 ∷ l 21 99 0 ∷ l 22 7 0 ∷ []), (11 ∷ 0 ∷ 4 ∷ 3 ∷ 99 ∷ 0 ∷ 1 ∷ [], ([]), [])) ∷  -- 11 under a Lambda, inferred
    ((l 2 41 0 ∷ l 16 0 1 ∷ l 14 11 0 ∷ l 11 11 0 ∷ l 3 0 0 ∷ l 12 1 0 ∷ l 4 0 0 ∷ l 25 11 0 ∷ l 21 99 0 ∷ []), (11 ∷ 0 ∷ 3 ∷ 2 ∷ 99 ∷ 0 ∷ 0 ∷ [], ([]), [])) ∷  -- 11 under a TypeLambda
    ((l 2 41 0 ∷ l 16 0 1 ∷ l 14 11 0 ∷ l 11 11 0 ∷ l 3 0 0 ∷ l 14 11 0 ∷ l 12 1 0 ∷ l 4 0 0 ∷ l 25 11 0 ∷ l 21 99 0 ∷ []), (11 ∷ 0 ∷ 4 ∷ 3 ∷ 99 ∷ 0 ∷ 0 ∷ [], ([]), [])) ∷  -- 11 under a TypeLambda, as a quantified type
    ((l 2 41 0 ∷ l 16 0 1 ∷ l 14 11 0 ∷ l 11 11 0 ∷ l 3 0 0 ∷ l 13 0 0 ∷ l 12 1 0 ∷ l 12 1 0 ∷ l 4 0 0 ∷ l 25 11 0 ∷ l 23 10 0 ∷ l 12 1 0 ∷ l 21 99 0 ∷ []), (11 ∷ 0 ∷ 4 ∷ 3 ∷ 99 ∷ 0 ∷ 0 ∷ [], ([]), [])) ∷  -- 11 under a Lambda under a TypeLambda
    ((l 2 41 0 ∷ l 16 0 1 ∷ l 14 11 0 ∷ l 11 11 0 ∷ l 3 0 0 ∷ l 13 0 0 ∷ l 12 1 0 ∷ l 12 1 0 ∷ l 4 0 0 ∷ l 23 10 0 ∷ l 12 1 0 ∷ l 25 11 0 ∷ l 21 99 0 ∷ []), (11 ∷ 0 ∷ 4 ∷ 2 ∷ 99 ∷ 0 ∷ 0 ∷ [], ([]), [])) ∷  -- 11 under a TypeLambda under a Lambda
    ((l 2 41 0 ∷ l 16 0 1 ∷ l 14 11 0 ∷ l 11 11 0 ∷ l 3 0 0 ∷ l 12 1 0 ∷ l 4 0 0 ∷ l 27 0 1 ∷ l 22 7 0 ∷ l 42 10 0 ∷ l 21 99 0 ∷ []), (11 ∷ 0 ∷ 4 ∷ 3 ∷ 99 ∷ 0 ∷ 1 ∷ [], ([]), [])) ∷  -- 11 in an arm
    ((l 2 41 0 ∷ l 16 0 1 ∷ l 14 11 0 ∷ l 11 11 0 ∷ l 3 0 0 ∷ l 12 1 0 ∷ l 4 0 0 ∷ l 27 0 2 ∷ l 22 7 0 ∷ l 42 10 0 ∷ l 21 99 0 ∷ l 41 0 0 ∷ l 27 0 0 ∷ l 22 7 0 ∷ []), (11 ∷ 0 ∷ 14 ∷ 6 ∷ 99 ∷ 0 ∷ 1 ∷ [], ([]), ◌≔◌ 4 (node 12 1 ∷ []) ∷ ◌≔◌ 3 (node 12 1 ∷ []) ∷ ◌≔◌ 2 (node 17 0 ∷ []) ∷ [])) ∷  -- 11 in the first of two arms
    ((l 2 41 0 ∷ l 16 0 1 ∷ l 14 11 0 ∷ l 11 11 0 ∷ l 3 0 0 ∷ l 13 0 0 ∷ l 12 1 0 ∷ l 12 1 0 ∷ l 4 0 0 ∷ l 23 10 0 ∷ l 12 1 0 ∷ l 26 99 0 ∷ []), (12 ∷ 0 ∷ 3 ∷ 1 ∷ 99 ∷ 0 ∷ 1 ∷ [], ([]), [])) ∷  -- 12 under a Lambda, checked
    ((l 2 41 0 ∷ l 16 0 1 ∷ l 14 11 0 ∷ l 11 11 0 ∷ l 3 0 0 ∷ l 12 1 0 ∷ l 4 0 0 ∷ l 24 0 0 ∷ l 23 10 0 ∷ l 12 1 0 ∷ l 26 99 0 ∷ l 22 7 0 ∷ []), (12 ∷ 0 ∷ 4 ∷ 3 ∷ 99 ∷ 0 ∷ 1 ∷ [], ([]), [])) ∷  -- 12 under a Lambda, inferred
    ((l 2 41 0 ∷ l 16 0 1 ∷ l 14 11 0 ∷ l 11 11 0 ∷ l 3 0 0 ∷ l 12 1 0 ∷ l 4 0 0 ∷ l 25 11 0 ∷ l 26 99 0 ∷ []), (12 ∷ 0 ∷ 3 ∷ 2 ∷ 99 ∷ 0 ∷ 0 ∷ [], ([]), [])) ∷  -- 12 under a TypeLambda
    ((l 2 41 0 ∷ l 16 0 1 ∷ l 14 11 0 ∷ l 11 11 0 ∷ l 3 0 0 ∷ l 14 11 0 ∷ l 12 1 0 ∷ l 4 0 0 ∷ l 25 11 0 ∷ l 26 99 0 ∷ []), (12 ∷ 0 ∷ 4 ∷ 3 ∷ 99 ∷ 0 ∷ 0 ∷ [], ([]), [])) ∷  -- 12 under a TypeLambda, as a quantified type
    ((l 2 41 0 ∷ l 16 0 1 ∷ l 14 11 0 ∷ l 11 11 0 ∷ l 3 0 0 ∷ l 13 0 0 ∷ l 12 1 0 ∷ l 12 1 0 ∷ l 4 0 0 ∷ l 25 11 0 ∷ l 23 10 0 ∷ l 12 1 0 ∷ l 26 99 0 ∷ []), (12 ∷ 0 ∷ 4 ∷ 3 ∷ 99 ∷ 0 ∷ 0 ∷ [], ([]), [])) ∷  -- 12 under a Lambda under a TypeLambda
    ((l 2 41 0 ∷ l 16 0 1 ∷ l 14 11 0 ∷ l 11 11 0 ∷ l 3 0 0 ∷ l 13 0 0 ∷ l 12 1 0 ∷ l 12 1 0 ∷ l 4 0 0 ∷ l 23 10 0 ∷ l 12 1 0 ∷ l 25 11 0 ∷ l 26 99 0 ∷ []), (12 ∷ 0 ∷ 4 ∷ 2 ∷ 99 ∷ 0 ∷ 0 ∷ [], ([]), [])) ∷  -- 12 under a TypeLambda under a Lambda
    ((l 2 41 0 ∷ l 16 0 1 ∷ l 14 11 0 ∷ l 11 11 0 ∷ l 3 0 0 ∷ l 12 1 0 ∷ l 4 0 0 ∷ l 27 0 1 ∷ l 22 7 0 ∷ l 42 10 0 ∷ l 26 99 0 ∷ []), (12 ∷ 0 ∷ 4 ∷ 3 ∷ 99 ∷ 0 ∷ 1 ∷ [], ([]), [])) ∷  -- 12 in an arm
    ((l 2 41 0 ∷ l 16 0 1 ∷ l 14 11 0 ∷ l 11 11 0 ∷ l 3 0 0 ∷ l 12 1 0 ∷ l 4 0 0 ∷ l 27 0 2 ∷ l 22 7 0 ∷ l 42 10 0 ∷ l 26 99 0 ∷ l 41 0 0 ∷ l 27 0 0 ∷ l 22 7 0 ∷ []), (12 ∷ 0 ∷ 14 ∷ 6 ∷ 99 ∷ 0 ∷ 1 ∷ [], ([]), ◌≔◌ 4 (node 12 1 ∷ []) ∷ ◌≔◌ 3 (node 12 1 ∷ []) ∷ ◌≔◌ 2 (node 17 0 ∷ []) ∷ [])) ∷  -- 12 in the first of two arms
    ((l 2 41 0 ∷ l 16 0 1 ∷ l 14 11 0 ∷ l 11 11 0 ∷ l 3 0 0 ∷ l 13 0 0 ∷ l 12 1 0 ∷ l 12 1 0 ∷ l 4 0 0 ∷ l 23 10 0 ∷ l 12 1 0 ∷ l 24 0 0 ∷ l 22 7 0 ∷ l 22 7 0 ∷ []), (13 ∷ 0 ∷ 6 ∷ 2 ∷ 1 ∷ 0 ∷ 1 ∷ [], (node 12 1 ∷ []), ◌≔◌ 1 (node 12 1 ∷ []) ∷ [])) ∷  -- 13 under a Lambda, checked
    ((l 2 41 0 ∷ l 16 0 1 ∷ l 14 11 0 ∷ l 11 11 0 ∷ l 3 0 0 ∷ l 12 1 0 ∷ l 4 0 0 ∷ l 24 0 0 ∷ l 23 10 0 ∷ l 12 1 0 ∷ l 24 0 0 ∷ l 22 7 0 ∷ l 22 7 0 ∷ l 22 7 0 ∷ []), (13 ∷ 0 ∷ 7 ∷ 4 ∷ 1 ∷ 0 ∷ 1 ∷ [], (node 12 1 ∷ []), ◌≔◌ 3 (node 12 1 ∷ []) ∷ [])) ∷  -- 13 under a Lambda, inferred
    ((l 2 41 0 ∷ l 16 0 1 ∷ l 14 11 0 ∷ l 11 11 0 ∷ l 3 0 0 ∷ l 12 1 0 ∷ l 4 0 0 ∷ l 25 11 0 ∷ l 24 0 0 ∷ l 22 7 0 ∷ l 22 7 0 ∷ []), (13 ∷ 0 ∷ 6 ∷ 3 ∷ 1 ∷ 0 ∷ 0 ∷ [], (node 12 1 ∷ []), ◌≔◌ 2 (node 12 1 ∷ []) ∷ [])) ∷  -- 13 under a TypeLambda
    ((l 2 41 0 ∷ l 16 0 1 ∷ l 14 11 0 ∷ l 11 11 0 ∷ l 3 0 0 ∷ l 14 11 0 ∷ l 12 1 0 ∷ l 4 0 0 ∷ l 25 11 0 ∷ l 24 0 0 ∷ l 22 7 0 ∷ l 22 7 0 ∷ []), (13 ∷ 0 ∷ 7 ∷ 4 ∷ 1 ∷ 0 ∷ 0 ∷ [], (node 12 1 ∷ []), ◌≔◌ 3 (node 12 1 ∷ []) ∷ [])) ∷  -- 13 under a TypeLambda, as a quantified type
    ((l 2 41 0 ∷ l 16 0 1 ∷ l 14 11 0 ∷ l 11 11 0 ∷ l 3 0 0 ∷ l 13 0 0 ∷ l 12 1 0 ∷ l 12 1 0 ∷ l 4 0 0 ∷ l 25 11 0 ∷ l 23 10 0 ∷ l 12 1 0 ∷ l 24 0 0 ∷ l 22 7 0 ∷ l 22 7 0 ∷ []), (13 ∷ 0 ∷ 7 ∷ 4 ∷ 1 ∷ 0 ∷ 0 ∷ [], (node 12 1 ∷ []), ◌≔◌ 3 (node 12 1 ∷ []) ∷ [])) ∷  -- 13 under a Lambda under a TypeLambda
    ((l 2 41 0 ∷ l 16 0 1 ∷ l 14 11 0 ∷ l 11 11 0 ∷ l 3 0 0 ∷ l 13 0 0 ∷ l 12 1 0 ∷ l 12 1 0 ∷ l 4 0 0 ∷ l 23 10 0 ∷ l 12 1 0 ∷ l 25 11 0 ∷ l 24 0 0 ∷ l 22 7 0 ∷ l 22 7 0 ∷ []), (13 ∷ 0 ∷ 7 ∷ 3 ∷ 1 ∷ 0 ∷ 0 ∷ [], (node 12 1 ∷ []), ◌≔◌ 2 (node 12 1 ∷ []) ∷ [])) ∷  -- 13 under a TypeLambda under a Lambda
    ((l 2 41 0 ∷ l 16 0 1 ∷ l 14 11 0 ∷ l 11 11 0 ∷ l 3 0 0 ∷ l 12 1 0 ∷ l 4 0 0 ∷ l 27 0 1 ∷ l 22 7 0 ∷ l 42 10 0 ∷ l 24 0 0 ∷ l 22 7 0 ∷ l 22 7 0 ∷ []), (13 ∷ 0 ∷ 7 ∷ 4 ∷ 1 ∷ 0 ∷ 1 ∷ [], (node 12 1 ∷ []), ◌≔◌ 3 (node 12 1 ∷ []) ∷ [])) ∷  -- 13 in an arm
    ((l 2 41 0 ∷ l 16 0 1 ∷ l 14 11 0 ∷ l 11 11 0 ∷ l 3 0 0 ∷ l 12 1 0 ∷ l 4 0 0 ∷ l 27 0 2 ∷ l 22 7 0 ∷ l 42 10 0 ∷ l 24 0 0 ∷ l 22 7 0 ∷ l 22 7 0 ∷ l 41 0 0 ∷ l 27 0 0 ∷ l 22 7 0 ∷ []), (13 ∷ 0 ∷ 17 ∷ 7 ∷ 1 ∷ 0 ∷ 1 ∷ [], (node 12 1 ∷ []), ◌≔◌ 4 (node 12 1 ∷ []) ∷ ◌≔◌ 3 (node 12 1 ∷ []) ∷ ◌≔◌ 2 (node 17 0 ∷ []) ∷ ◌≔◌ 6 (node 12 1 ∷ []) ∷ [])) ∷  -- 13 in the first of two arms
    ((l 2 41 0 ∷ l 16 0 1 ∷ l 14 11 0 ∷ l 11 11 0 ∷ l 3 0 0 ∷ l 13 0 0 ∷ l 12 1 0 ∷ l 12 1 0 ∷ l 4 0 0 ∷ l 23 10 0 ∷ l 12 1 0 ∷ l 21 41 0 ∷ []), (17 ∷ 0 ∷ 4 ∷ 1 ∷ 0 ∷ 3 ∷ 0 ∷ [], (node 16 1 ∷ node 14 11 ∷ node 11 11 ∷ []), [])) ∷  -- 17 under a Lambda, checked
    ((l 2 41 0 ∷ l 16 0 1 ∷ l 14 11 0 ∷ l 11 11 0 ∷ l 3 0 0 ∷ l 12 1 0 ∷ l 4 0 0 ∷ l 24 0 0 ∷ l 23 10 0 ∷ l 12 1 0 ∷ l 21 41 0 ∷ l 22 7 0 ∷ []), (17 ∷ 0 ∷ 5 ∷ 3 ∷ 2 ∷ 3 ∷ 0 ∷ [], (node 16 1 ∷ node 14 11 ∷ node 11 11 ∷ []), [])) ∷  -- 17 under a Lambda, inferred
    ((l 2 41 0 ∷ l 16 0 1 ∷ l 14 11 0 ∷ l 11 11 0 ∷ l 3 0 0 ∷ l 12 1 0 ∷ l 4 0 0 ∷ l 25 11 0 ∷ l 21 41 0 ∷ []), (17 ∷ 0 ∷ 4 ∷ 2 ∷ 1 ∷ 3 ∷ 0 ∷ [], (node 16 1 ∷ node 14 11 ∷ node 11 11 ∷ []), [])) ∷  -- 17 under a TypeLambda
    ((l 2 41 0 ∷ l 16 0 1 ∷ l 14 11 0 ∷ l 11 11 0 ∷ l 3 0 0 ∷ l 14 11 0 ∷ l 12 1 0 ∷ l 4 0 0 ∷ l 25 11 0 ∷ l 21 41 0 ∷ []), (17 ∷ 0 ∷ 5 ∷ 3 ∷ 2 ∷ 3 ∷ 0 ∷ [], (node 16 1 ∷ node 14 11 ∷ node 11 11 ∷ []), [])) ∷  -- 17 under a TypeLambda, as a quantified type
    ((l 2 41 0 ∷ l 16 0 1 ∷ l 14 11 0 ∷ l 11 11 0 ∷ l 3 0 0 ∷ l 13 0 0 ∷ l 12 1 0 ∷ l 12 1 0 ∷ l 4 0 0 ∷ l 25 11 0 ∷ l 23 10 0 ∷ l 12 1 0 ∷ l 21 41 0 ∷ []), (17 ∷ 0 ∷ 5 ∷ 3 ∷ 2 ∷ 3 ∷ 0 ∷ [], (node 16 1 ∷ node 14 11 ∷ node 11 11 ∷ []), [])) ∷  -- 17 under a Lambda under a TypeLambda
    ((l 2 41 0 ∷ l 16 0 1 ∷ l 14 11 0 ∷ l 11 11 0 ∷ l 3 0 0 ∷ l 13 0 0 ∷ l 12 1 0 ∷ l 12 1 0 ∷ l 4 0 0 ∷ l 23 10 0 ∷ l 12 1 0 ∷ l 25 11 0 ∷ l 21 41 0 ∷ []), (17 ∷ 0 ∷ 5 ∷ 2 ∷ 1 ∷ 3 ∷ 0 ∷ [], (node 16 1 ∷ node 14 11 ∷ node 11 11 ∷ []), [])) ∷  -- 17 under a TypeLambda under a Lambda
    ((l 2 41 0 ∷ l 16 0 1 ∷ l 14 11 0 ∷ l 11 11 0 ∷ l 3 0 0 ∷ l 12 1 0 ∷ l 4 0 0 ∷ l 27 0 1 ∷ l 22 7 0 ∷ l 42 10 0 ∷ l 21 41 0 ∷ []), (17 ∷ 0 ∷ 5 ∷ 3 ∷ 2 ∷ 3 ∷ 0 ∷ [], (node 16 1 ∷ node 14 11 ∷ node 11 11 ∷ []), [])) ∷  -- 17 in an arm
    ((l 2 41 0 ∷ l 16 0 1 ∷ l 14 11 0 ∷ l 11 11 0 ∷ l 3 0 0 ∷ l 12 1 0 ∷ l 4 0 0 ∷ l 27 0 2 ∷ l 22 7 0 ∷ l 42 10 0 ∷ l 21 41 0 ∷ l 41 0 0 ∷ l 27 0 0 ∷ l 22 7 0 ∷ []), (17 ∷ 0 ∷ 15 ∷ 6 ∷ 5 ∷ 3 ∷ 0 ∷ [], (node 16 1 ∷ node 14 11 ∷ node 11 11 ∷ []), ◌≔◌ 4 (node 12 1 ∷ []) ∷ ◌≔◌ 3 (node 12 1 ∷ []) ∷ ◌≔◌ 2 (node 17 0 ∷ []) ∷ [])) ∷  -- 17 in the first of two arms
    ((l 2 41 0 ∷ l 16 0 1 ∷ l 14 11 0 ∷ l 11 11 0 ∷ l 3 0 0 ∷ l 13 0 0 ∷ l 12 1 0 ∷ l 12 3 0 ∷ l 4 0 0 ∷ l 23 10 0 ∷ l 12 1 0 ∷ l 30 4 0 ∷ []), (18 ∷ 0 ∷ 3 ∷ 1 ∷ 1 ∷ 0 ∷ 1 ∷ [], ([]), [])) ∷  -- 18 under a Lambda, checked
    ((l 2 41 0 ∷ l 16 0 1 ∷ l 14 11 0 ∷ l 11 11 0 ∷ l 3 0 0 ∷ l 12 3 0 ∷ l 4 0 0 ∷ l 24 0 0 ∷ l 23 10 0 ∷ l 12 1 0 ∷ l 30 4 0 ∷ l 22 7 0 ∷ []), (18 ∷ 0 ∷ 4 ∷ 3 ∷ 1 ∷ 0 ∷ 1 ∷ [], ([]), [])) ∷  -- 18 under a Lambda, inferred
    ((l 2 41 0 ∷ l 16 0 1 ∷ l 14 11 0 ∷ l 11 11 0 ∷ l 3 0 0 ∷ l 12 3 0 ∷ l 4 0 0 ∷ l 25 11 0 ∷ l 30 4 0 ∷ []), (18 ∷ 0 ∷ 3 ∷ 2 ∷ 1 ∷ 0 ∷ 0 ∷ [], ([]), [])) ∷  -- 18 under a TypeLambda
    ((l 2 41 0 ∷ l 16 0 1 ∷ l 14 11 0 ∷ l 11 11 0 ∷ l 3 0 0 ∷ l 14 11 0 ∷ l 12 3 0 ∷ l 4 0 0 ∷ l 25 11 0 ∷ l 30 4 0 ∷ []), (18 ∷ 0 ∷ 4 ∷ 3 ∷ 1 ∷ 0 ∷ 0 ∷ [], ([]), [])) ∷  -- 18 under a TypeLambda, as a quantified type
    ((l 2 41 0 ∷ l 16 0 1 ∷ l 14 11 0 ∷ l 11 11 0 ∷ l 3 0 0 ∷ l 13 0 0 ∷ l 12 1 0 ∷ l 12 3 0 ∷ l 4 0 0 ∷ l 25 11 0 ∷ l 23 10 0 ∷ l 12 1 0 ∷ l 30 4 0 ∷ []), (18 ∷ 0 ∷ 4 ∷ 3 ∷ 1 ∷ 0 ∷ 0 ∷ [], ([]), [])) ∷  -- 18 under a Lambda under a TypeLambda
    ((l 2 41 0 ∷ l 16 0 1 ∷ l 14 11 0 ∷ l 11 11 0 ∷ l 3 0 0 ∷ l 13 0 0 ∷ l 12 1 0 ∷ l 12 3 0 ∷ l 4 0 0 ∷ l 23 10 0 ∷ l 12 1 0 ∷ l 25 11 0 ∷ l 30 4 0 ∷ []), (18 ∷ 0 ∷ 4 ∷ 2 ∷ 1 ∷ 0 ∷ 0 ∷ [], ([]), [])) ∷  -- 18 under a TypeLambda under a Lambda
    ((l 2 41 0 ∷ l 16 0 1 ∷ l 14 11 0 ∷ l 11 11 0 ∷ l 3 0 0 ∷ l 12 3 0 ∷ l 4 0 0 ∷ l 27 0 1 ∷ l 22 7 0 ∷ l 42 10 0 ∷ l 30 4 0 ∷ []), (18 ∷ 0 ∷ 4 ∷ 3 ∷ 1 ∷ 0 ∷ 1 ∷ [], ([]), [])) ∷  -- 18 in an arm
    ((l 2 41 0 ∷ l 16 0 1 ∷ l 14 11 0 ∷ l 11 11 0 ∷ l 3 0 0 ∷ l 12 3 0 ∷ l 4 0 0 ∷ l 27 0 2 ∷ l 22 7 0 ∷ l 42 10 0 ∷ l 30 4 0 ∷ l 41 0 0 ∷ l 27 0 0 ∷ l 22 7 0 ∷ []), (18 ∷ 0 ∷ 14 ∷ 6 ∷ 1 ∷ 0 ∷ 1 ∷ [], ([]), ◌≔◌ 4 (node 12 1 ∷ []) ∷ ◌≔◌ 3 (node 12 1 ∷ []) ∷ ◌≔◌ 2 (node 17 0 ∷ []) ∷ [])) ∷  -- 18 in the first of two arms
    ((l 2 41 0 ∷ l 16 0 1 ∷ l 14 11 0 ∷ l 11 11 0 ∷ l 3 0 0 ∷ l 13 0 0 ∷ l 12 1 0 ∷ l 12 3 0 ∷ l 4 0 0 ∷ l 23 10 0 ∷ l 12 1 0 ∷ l 30 9 0 ∷ []), (19 ∷ 0 ∷ 3 ∷ 1 ∷ 9 ∷ 0 ∷ 1 ∷ [], ([]), [])) ∷  -- 19 under a Lambda, checked
    ((l 2 41 0 ∷ l 16 0 1 ∷ l 14 11 0 ∷ l 11 11 0 ∷ l 3 0 0 ∷ l 12 3 0 ∷ l 4 0 0 ∷ l 24 0 0 ∷ l 23 10 0 ∷ l 12 1 0 ∷ l 30 9 0 ∷ l 22 7 0 ∷ []), (19 ∷ 0 ∷ 4 ∷ 3 ∷ 9 ∷ 0 ∷ 1 ∷ [], ([]), [])) ∷  -- 19 under a Lambda, inferred
    ((l 2 41 0 ∷ l 16 0 1 ∷ l 14 11 0 ∷ l 11 11 0 ∷ l 3 0 0 ∷ l 12 3 0 ∷ l 4 0 0 ∷ l 25 11 0 ∷ l 30 9 0 ∷ []), (19 ∷ 0 ∷ 3 ∷ 2 ∷ 9 ∷ 0 ∷ 0 ∷ [], ([]), [])) ∷  -- 19 under a TypeLambda
    ((l 2 41 0 ∷ l 16 0 1 ∷ l 14 11 0 ∷ l 11 11 0 ∷ l 3 0 0 ∷ l 14 11 0 ∷ l 12 3 0 ∷ l 4 0 0 ∷ l 25 11 0 ∷ l 30 9 0 ∷ []), (19 ∷ 0 ∷ 4 ∷ 3 ∷ 9 ∷ 0 ∷ 0 ∷ [], ([]), [])) ∷  -- 19 under a TypeLambda, as a quantified type
    ((l 2 41 0 ∷ l 16 0 1 ∷ l 14 11 0 ∷ l 11 11 0 ∷ l 3 0 0 ∷ l 13 0 0 ∷ l 12 1 0 ∷ l 12 3 0 ∷ l 4 0 0 ∷ l 25 11 0 ∷ l 23 10 0 ∷ l 12 1 0 ∷ l 30 9 0 ∷ []), (19 ∷ 0 ∷ 4 ∷ 3 ∷ 9 ∷ 0 ∷ 0 ∷ [], ([]), [])) ∷  -- 19 under a Lambda under a TypeLambda
    ((l 2 41 0 ∷ l 16 0 1 ∷ l 14 11 0 ∷ l 11 11 0 ∷ l 3 0 0 ∷ l 13 0 0 ∷ l 12 1 0 ∷ l 12 3 0 ∷ l 4 0 0 ∷ l 23 10 0 ∷ l 12 1 0 ∷ l 25 11 0 ∷ l 30 9 0 ∷ []), (19 ∷ 0 ∷ 4 ∷ 2 ∷ 9 ∷ 0 ∷ 0 ∷ [], ([]), [])) ∷  -- 19 under a TypeLambda under a Lambda
    ((l 2 41 0 ∷ l 16 0 1 ∷ l 14 11 0 ∷ l 11 11 0 ∷ l 3 0 0 ∷ l 12 3 0 ∷ l 4 0 0 ∷ l 27 0 1 ∷ l 22 7 0 ∷ l 42 10 0 ∷ l 30 9 0 ∷ []), (19 ∷ 0 ∷ 4 ∷ 3 ∷ 9 ∷ 0 ∷ 1 ∷ [], ([]), [])) ∷  -- 19 in an arm
    ((l 2 41 0 ∷ l 16 0 1 ∷ l 14 11 0 ∷ l 11 11 0 ∷ l 3 0 0 ∷ l 12 3 0 ∷ l 4 0 0 ∷ l 27 0 2 ∷ l 22 7 0 ∷ l 42 10 0 ∷ l 30 9 0 ∷ l 41 0 0 ∷ l 27 0 0 ∷ l 22 7 0 ∷ []), (19 ∷ 0 ∷ 14 ∷ 6 ∷ 9 ∷ 0 ∷ 1 ∷ [], ([]), ◌≔◌ 4 (node 12 1 ∷ []) ∷ ◌≔◌ 3 (node 12 1 ∷ []) ∷ ◌≔◌ 2 (node 17 0 ∷ []) ∷ [])) ∷  -- 19 in the first of two arms
    []

pub under-binders : map (λ q. row 10000 q.0) rows_under_binders ≡ map (λ q. q.1) rows_under_binders
unfolding row parts_of row_of find_row table plan_of declarations bindings_in end_from entries_end places_of part_line is_plain names plain_entries plain_plan lookup view occurs is_monotype substitute rename front_names after_front can_unify term_view lambda_of find links any_solved write_out_by write_out solution_nodes board_nodes find_var before perform operations instantiate_from subtype open_names signature_from insert push_vars check_patterns check_arms infer_app run_from check_type result_of run_of judge
under-binders = refl

abbrev rows_type_lambda_names : List Asked
rows_type_lambda_names =
    ((l 3 0 0 ∷ l 12 1 0 ∷ l 4 0 0 ∷ l 27 0 1 ∷ l 22 7 0 ∷ l 42 10 0 ∷ l 25 1 0 ∷ l 21 10 0 ∷ []), (0 ∷ 0 ∷ 23 ∷ 6 ∷ 0 ∷ 0 ∷ 0 ∷ [], ([]), ◌≔◌ 3 (node 17 1 ∷ []) ∷ ◌≔◌ 2 (node 17 1 ∷ []) ∷ ◌≔◌ 1 (node 17 0 ∷ []) ∷ ◌≔◌ 5 (node 12 1 ∷ []) ∷ ◌≔◌ 0 (node 12 1 ∷ []) ∷ [])) ∷  -- a TypeLambda of the name n1 beside the unknown 1
    ((l 3 0 0 ∷ l 12 1 0 ∷ l 4 0 0 ∷ l 28 1 0 ∷ l 22 7 0 ∷ l 27 0 1 ∷ l 22 7 0 ∷ l 42 10 0 ∷ l 25 2 0 ∷ l 21 10 0 ∷ []), (0 ∷ 0 ∷ 33 ∷ 8 ∷ 0 ∷ 0 ∷ 0 ∷ [], ([]), ◌≔◌ 0 (node 12 1 ∷ []) ∷ ◌≔◌ 4 (node 17 2 ∷ []) ∷ ◌≔◌ 3 (node 17 2 ∷ []) ∷ ◌≔◌ 2 (node 17 1 ∷ []) ∷ ◌≔◌ 6 (node 12 1 ∷ []) ∷ ◌≔◌ 1 (node 12 1 ∷ []) ∷ ◌≔◌ 7 (node 12 1 ∷ []) ∷ [])) ∷  -- a TypeLambda of the name n2 beside the unknown 2
    ((l 3 0 0 ∷ l 12 1 0 ∷ l 4 0 0 ∷ l 28 1 0 ∷ l 22 7 0 ∷ l 28 1 0 ∷ l 22 7 0 ∷ l 27 0 1 ∷ l 22 7 0 ∷ l 42 10 0 ∷ l 25 3 0 ∷ l 21 10 0 ∷ []), (0 ∷ 0 ∷ 43 ∷ 10 ∷ 0 ∷ 0 ∷ 0 ∷ [], ([]), ◌≔◌ 0 (node 12 1 ∷ []) ∷ ◌≔◌ 1 (node 12 1 ∷ []) ∷ ◌≔◌ 5 (node 17 3 ∷ []) ∷ ◌≔◌ 4 (node 17 3 ∷ []) ∷ ◌≔◌ 3 (node 17 2 ∷ []) ∷ ◌≔◌ 7 (node 12 1 ∷ []) ∷ ◌≔◌ 2 (node 12 1 ∷ []) ∷ ◌≔◌ 8 (node 12 1 ∷ []) ∷ ◌≔◌ 9 (node 12 1 ∷ []) ∷ [])) ∷  -- a TypeLambda of the name n3 beside the unknown 3
    ((l 3 0 0 ∷ l 12 1 0 ∷ l 4 0 0 ∷ l 28 1 0 ∷ l 22 7 0 ∷ l 28 1 0 ∷ l 22 7 0 ∷ l 28 1 0 ∷ l 22 7 0 ∷ l 27 0 1 ∷ l 22 7 0 ∷ l 42 10 0 ∷ l 25 4 0 ∷ l 21 10 0 ∷ []), (0 ∷ 0 ∷ 53 ∷ 12 ∷ 0 ∷ 0 ∷ 0 ∷ [], ([]), ◌≔◌ 0 (node 12 1 ∷ []) ∷ ◌≔◌ 1 (node 12 1 ∷ []) ∷ ◌≔◌ 2 (node 12 1 ∷ []) ∷ ◌≔◌ 6 (node 17 4 ∷ []) ∷ ◌≔◌ 5 (node 17 4 ∷ []) ∷ ◌≔◌ 4 (node 17 3 ∷ []) ∷ ◌≔◌ 8 (node 12 1 ∷ []) ∷ ◌≔◌ 3 (node 12 1 ∷ []) ∷ ◌≔◌ 9 (node 12 1 ∷ []) ∷ ◌≔◌ 10 (node 12 1 ∷ []) ∷ ◌≔◌ 11 (node 12 1 ∷ []) ∷ [])) ∷  -- a TypeLambda of the name n4 beside the unknown 4
    ((l 3 0 0 ∷ l 12 1 0 ∷ l 4 0 0 ∷ l 28 1 0 ∷ l 22 7 0 ∷ l 28 1 0 ∷ l 22 7 0 ∷ l 28 1 0 ∷ l 22 7 0 ∷ l 28 1 0 ∷ l 22 7 0 ∷ l 27 0 1 ∷ l 22 7 0 ∷ l 42 10 0 ∷ l 25 5 0 ∷ l 21 10 0 ∷ []), (0 ∷ 0 ∷ 63 ∷ 14 ∷ 0 ∷ 0 ∷ 0 ∷ [], ([]), ◌≔◌ 0 (node 12 1 ∷ []) ∷ ◌≔◌ 1 (node 12 1 ∷ []) ∷ ◌≔◌ 2 (node 12 1 ∷ []) ∷ ◌≔◌ 3 (node 12 1 ∷ []) ∷ ◌≔◌ 7 (node 17 5 ∷ []) ∷ ◌≔◌ 6 (node 17 5 ∷ []) ∷ ◌≔◌ 5 (node 17 4 ∷ []) ∷ ◌≔◌ 9 (node 12 1 ∷ []) ∷ ◌≔◌ 4 (node 12 1 ∷ []) ∷ ◌≔◌ 10 (node 12 1 ∷ []) ∷ ◌≔◌ 11 (node 12 1 ∷ []) ∷ ◌≔◌ 12 (node 12 1 ∷ []) ∷ ◌≔◌ 13 (node 12 1 ∷ []) ∷ [])) ∷  -- a TypeLambda of the name n5 beside the unknown 5
    ((l 3 0 0 ∷ l 12 1 0 ∷ l 4 0 0 ∷ l 28 1 0 ∷ l 22 7 0 ∷ l 28 1 0 ∷ l 22 7 0 ∷ l 28 1 0 ∷ l 22 7 0 ∷ l 28 1 0 ∷ l 22 7 0 ∷ l 28 1 0 ∷ l 22 7 0 ∷ l 27 0 1 ∷ l 22 7 0 ∷ l 42 10 0 ∷ l 25 6 0 ∷ l 21 10 0 ∷ []), (0 ∷ 0 ∷ 73 ∷ 16 ∷ 0 ∷ 0 ∷ 0 ∷ [], ([]), ◌≔◌ 0 (node 12 1 ∷ []) ∷ ◌≔◌ 1 (node 12 1 ∷ []) ∷ ◌≔◌ 2 (node 12 1 ∷ []) ∷ ◌≔◌ 3 (node 12 1 ∷ []) ∷ ◌≔◌ 4 (node 12 1 ∷ []) ∷ ◌≔◌ 8 (node 17 6 ∷ []) ∷ ◌≔◌ 7 (node 17 6 ∷ []) ∷ ◌≔◌ 6 (node 17 5 ∷ []) ∷ ◌≔◌ 10 (node 12 1 ∷ []) ∷ ◌≔◌ 5 (node 12 1 ∷ []) ∷ ◌≔◌ 11 (node 12 1 ∷ []) ∷ ◌≔◌ 12 (node 12 1 ∷ []) ∷ ◌≔◌ 13 (node 12 1 ∷ []) ∷ ◌≔◌ 14 (node 12 1 ∷ []) ∷ ◌≔◌ 15 (node 12 1 ∷ []) ∷ [])) ∷  -- a TypeLambda of the name n6 beside the unknown 6
    ((l 3 0 0 ∷ l 12 1 0 ∷ l 4 0 0 ∷ l 28 1 0 ∷ l 22 7 0 ∷ l 28 1 0 ∷ l 22 7 0 ∷ l 28 1 0 ∷ l 22 7 0 ∷ l 28 1 0 ∷ l 22 7 0 ∷ l 28 1 0 ∷ l 22 7 0 ∷ l 28 1 0 ∷ l 22 7 0 ∷ l 27 0 1 ∷ l 22 7 0 ∷ l 42 10 0 ∷ l 25 7 0 ∷ l 21 10 0 ∷ []), (0 ∷ 0 ∷ 83 ∷ 18 ∷ 0 ∷ 0 ∷ 0 ∷ [], ([]), ◌≔◌ 0 (node 12 1 ∷ []) ∷ ◌≔◌ 1 (node 12 1 ∷ []) ∷ ◌≔◌ 2 (node 12 1 ∷ []) ∷ ◌≔◌ 3 (node 12 1 ∷ []) ∷ ◌≔◌ 4 (node 12 1 ∷ []) ∷ ◌≔◌ 5 (node 12 1 ∷ []) ∷ ◌≔◌ 9 (node 17 7 ∷ []) ∷ ◌≔◌ 8 (node 17 7 ∷ []) ∷ ◌≔◌ 7 (node 17 6 ∷ []) ∷ ◌≔◌ 11 (node 12 1 ∷ []) ∷ ◌≔◌ 6 (node 12 1 ∷ []) ∷ ◌≔◌ 12 (node 12 1 ∷ []) ∷ ◌≔◌ 13 (node 12 1 ∷ []) ∷ ◌≔◌ 14 (node 12 1 ∷ []) ∷ ◌≔◌ 15 (node 12 1 ∷ []) ∷ ◌≔◌ 16 (node 12 1 ∷ []) ∷ ◌≔◌ 17 (node 12 1 ∷ []) ∷ [])) ∷  -- a TypeLambda of the name n7 beside the unknown 7
    ((l 3 0 0 ∷ l 12 1 0 ∷ l 4 0 0 ∷ l 28 1 0 ∷ l 22 7 0 ∷ l 28 1 0 ∷ l 22 7 0 ∷ l 28 1 0 ∷ l 22 7 0 ∷ l 28 1 0 ∷ l 22 7 0 ∷ l 28 1 0 ∷ l 22 7 0 ∷ l 28 1 0 ∷ l 22 7 0 ∷ l 28 1 0 ∷ l 22 7 0 ∷ l 27 0 1 ∷ l 22 7 0 ∷ l 42 10 0 ∷ l 25 8 0 ∷ l 21 10 0 ∷ []), (0 ∷ 0 ∷ 93 ∷ 20 ∷ 0 ∷ 0 ∷ 0 ∷ [], ([]), ◌≔◌ 0 (node 12 1 ∷ []) ∷ ◌≔◌ 1 (node 12 1 ∷ []) ∷ ◌≔◌ 2 (node 12 1 ∷ []) ∷ ◌≔◌ 3 (node 12 1 ∷ []) ∷ ◌≔◌ 4 (node 12 1 ∷ []) ∷ ◌≔◌ 5 (node 12 1 ∷ []) ∷ ◌≔◌ 6 (node 12 1 ∷ []) ∷ ◌≔◌ 10 (node 17 8 ∷ []) ∷ ◌≔◌ 9 (node 17 8 ∷ []) ∷ ◌≔◌ 8 (node 17 7 ∷ []) ∷ ◌≔◌ 12 (node 12 1 ∷ []) ∷ ◌≔◌ 7 (node 12 1 ∷ []) ∷ ◌≔◌ 13 (node 12 1 ∷ []) ∷ ◌≔◌ 14 (node 12 1 ∷ []) ∷ ◌≔◌ 15 (node 12 1 ∷ []) ∷ ◌≔◌ 16 (node 12 1 ∷ []) ∷ ◌≔◌ 17 (node 12 1 ∷ []) ∷ ◌≔◌ 18 (node 12 1 ∷ []) ∷ ◌≔◌ 19 (node 12 1 ∷ []) ∷ [])) ∷  -- a TypeLambda of the name n8 beside the unknown 8
    ((l 3 0 0 ∷ l 12 1 0 ∷ l 4 0 0 ∷ l 28 1 0 ∷ l 22 7 0 ∷ l 28 1 0 ∷ l 22 7 0 ∷ l 28 1 0 ∷ l 22 7 0 ∷ l 28 1 0 ∷ l 22 7 0 ∷ l 28 1 0 ∷ l 22 7 0 ∷ l 28 1 0 ∷ l 22 7 0 ∷ l 28 1 0 ∷ l 22 7 0 ∷ l 28 1 0 ∷ l 22 7 0 ∷ l 27 0 1 ∷ l 22 7 0 ∷ l 42 10 0 ∷ l 25 9 0 ∷ l 21 10 0 ∷ []), (0 ∷ 0 ∷ 103 ∷ 22 ∷ 0 ∷ 0 ∷ 0 ∷ [], ([]), ◌≔◌ 0 (node 12 1 ∷ []) ∷ ◌≔◌ 1 (node 12 1 ∷ []) ∷ ◌≔◌ 2 (node 12 1 ∷ []) ∷ ◌≔◌ 3 (node 12 1 ∷ []) ∷ ◌≔◌ 4 (node 12 1 ∷ []) ∷ ◌≔◌ 5 (node 12 1 ∷ []) ∷ ◌≔◌ 6 (node 12 1 ∷ []) ∷ ◌≔◌ 7 (node 12 1 ∷ []) ∷ ◌≔◌ 11 (node 17 9 ∷ []) ∷ ◌≔◌ 10 (node 17 9 ∷ []) ∷ ◌≔◌ 9 (node 17 8 ∷ []) ∷ ◌≔◌ 13 (node 12 1 ∷ []) ∷ ◌≔◌ 8 (node 12 1 ∷ []) ∷ ◌≔◌ 14 (node 12 1 ∷ []) ∷ ◌≔◌ 15 (node 12 1 ∷ []) ∷ ◌≔◌ 16 (node 12 1 ∷ []) ∷ ◌≔◌ 17 (node 12 1 ∷ []) ∷ ◌≔◌ 18 (node 12 1 ∷ []) ∷ ◌≔◌ 19 (node 12 1 ∷ []) ∷ ◌≔◌ 20 (node 12 1 ∷ []) ∷ ◌≔◌ 21 (node 12 1 ∷ []) ∷ [])) ∷  -- a TypeLambda of the name n9 beside the unknown 9
    []

pub type-lambda-names : map (λ q. row 10000 q.0) rows_type_lambda_names ≡ map (λ q. q.1) rows_type_lambda_names
unfolding row parts_of row_of find_row table plan_of declarations bindings_in end_from entries_end places_of part_line is_plain names plain_entries plain_plan lookup view occurs is_monotype substitute rename front_names after_front can_unify term_view lambda_of find links any_solved write_out_by write_out solution_nodes board_nodes find_var before perform operations instantiate_from subtype open_names signature_from insert push_vars check_patterns check_arms infer_app run_from check_type result_of run_of judge
type-lambda-names = refl

abbrev rows_constructors : List Asked
rows_constructors =
    ((l 1 20 0 ∷ l 13 0 0 ∷ l 12 1 0 ∷ l 14 11 0 ∷ l 13 0 0 ∷ l 11 11 0 ∷ l 12 30 0 ∷ l 3 0 0 ∷ l 12 1 0 ∷ l 4 0 0 ∷ l 26 20 0 ∷ []), (15 ∷ 0 ∷ 15 ∷ 6 ∷ 5 ∷ 1 ∷ 0 ∷ [], (node 13 0 ∷ node 12 1 ∷ node 13 0 ∷ node 17 3 ∷ node 12 30 ∷ node 12 1 ∷ []), ◌≔◌ 0 (node 13 0 ∷ node 17 1 ∷ node 17 2 ∷ []) ∷ ◌≔◌ 2 (node 13 0 ∷ node 17 4 ∷ node 17 5 ∷ []) ∷ ◌≔◌ 5 (node 12 30 ∷ []) ∷ ◌≔◌ 4 (node 17 3 ∷ []) ∷ ◌≔◌ 1 (node 12 1 ∷ []) ∷ [])) ∷  -- a quantifier after an Arrow: a constructor as Int
    ((l 1 20 0 ∷ l 13 0 0 ∷ l 12 1 0 ∷ l 14 11 0 ∷ l 13 0 0 ∷ l 11 11 0 ∷ l 12 30 0 ∷ l 3 0 0 ∷ l 13 0 0 ∷ l 12 1 0 ∷ l 14 11 0 ∷ l 13 0 0 ∷ l 11 11 0 ∷ l 12 30 0 ∷ l 4 0 0 ∷ l 26 20 0 ∷ []), (0 ∷ 0 ∷ 22 ∷ 7 ∷ 0 ∷ 0 ∷ 0 ∷ [], ([]), ◌≔◌ 0 (node 13 0 ∷ node 17 1 ∷ node 17 2 ∷ []) ∷ ◌≔◌ 2 (node 13 0 ∷ node 17 4 ∷ node 17 5 ∷ []) ∷ ◌≔◌ 5 (node 12 30 ∷ []) ∷ ◌≔◌ 4 (node 17 3 ∷ []) ∷ ◌≔◌ 1 (node 12 1 ∷ []) ∷ ◌≔◌ 3 (node 18 6 ∷ []) ∷ [])) ∷  -- a quantifier after an Arrow: as its own type
    ((l 1 20 0 ∷ l 13 0 0 ∷ l 12 1 0 ∷ l 14 11 0 ∷ l 13 0 0 ∷ l 11 11 0 ∷ l 12 30 0 ∷ l 3 0 0 ∷ l 13 0 0 ∷ l 12 1 0 ∷ l 13 0 0 ∷ l 12 1 0 ∷ l 12 30 0 ∷ l 4 0 0 ∷ l 26 20 0 ∷ []), (0 ∷ 0 ∷ 20 ∷ 6 ∷ 0 ∷ 0 ∷ 0 ∷ [], ([]), ◌≔◌ 0 (node 13 0 ∷ node 17 1 ∷ node 17 2 ∷ []) ∷ ◌≔◌ 2 (node 13 0 ∷ node 17 4 ∷ node 17 5 ∷ []) ∷ ◌≔◌ 5 (node 12 30 ∷ []) ∷ ◌≔◌ 4 (node 17 3 ∷ []) ∷ ◌≔◌ 1 (node 12 1 ∷ []) ∷ ◌≔◌ 3 (node 12 1 ∷ []) ∷ [])) ∷  -- a quantifier after an Arrow: as Int → Int → n30
    ((l 1 20 0 ∷ l 13 0 0 ∷ l 12 1 0 ∷ l 14 11 0 ∷ l 13 0 0 ∷ l 11 11 0 ∷ l 12 30 0 ∷ l 3 0 0 ∷ l 13 0 0 ∷ l 12 1 0 ∷ l 13 0 0 ∷ l 12 1 0 ∷ l 12 30 0 ∷ l 4 0 0 ∷ l 21 20 0 ∷ []), (0 ∷ 0 ∷ 20 ∷ 6 ∷ 0 ∷ 0 ∷ 0 ∷ [], ([]), ◌≔◌ 0 (node 13 0 ∷ node 17 1 ∷ node 17 2 ∷ []) ∷ ◌≔◌ 2 (node 13 0 ∷ node 17 4 ∷ node 17 5 ∷ []) ∷ ◌≔◌ 5 (node 12 30 ∷ []) ∷ ◌≔◌ 4 (node 17 3 ∷ []) ∷ ◌≔◌ 1 (node 12 1 ∷ []) ∷ ◌≔◌ 3 (node 12 1 ∷ []) ∷ [])) ∷  -- a quantifier after an Arrow: a variable
    ((l 1 20 0 ∷ l 13 0 0 ∷ l 12 1 0 ∷ l 14 11 0 ∷ l 13 0 0 ∷ l 11 11 0 ∷ l 12 30 0 ∷ l 2 40 0 ∷ l 12 30 0 ∷ l 3 0 0 ∷ l 12 1 0 ∷ l 4 0 0 ∷ l 27 0 1 ∷ l 21 40 0 ∷ l 43 20 0 ∷ l 22 7 0 ∷ []), (14 ∷ 0 ∷ 2 ∷ 2 ∷ 1 ∷ 0 ∷ 0 ∷ [], ([]), [])) ∷  -- a quantifier after an Arrow: a pattern with 0 parts
    ((l 1 20 0 ∷ l 13 0 0 ∷ l 12 1 0 ∷ l 14 11 0 ∷ l 13 0 0 ∷ l 11 11 0 ∷ l 12 30 0 ∷ l 2 40 0 ∷ l 12 30 0 ∷ l 3 0 0 ∷ l 12 1 0 ∷ l 4 0 0 ∷ l 27 0 1 ∷ l 21 40 0 ∷ l 43 20 1 ∷ l 42 12 0 ∷ l 22 7 0 ∷ []), (15 ∷ 0 ∷ 20 ∷ 7 ∷ 1 ∷ 3 ∷ 0 ∷ [], (node 12 30 ∷ node 13 0 ∷ node 17 3 ∷ node 12 30 ∷ []), ◌≔◌ 2 (node 12 1 ∷ []) ∷ ◌≔◌ 0 (node 12 1 ∷ []) ∷ ◌≔◌ 1 (node 13 0 ∷ node 17 4 ∷ node 17 5 ∷ []) ∷ ◌≔◌ 5 (node 12 30 ∷ []) ∷ ◌≔◌ 4 (node 17 3 ∷ []) ∷ ◌≔◌ 6 (node 12 30 ∷ []) ∷ [])) ∷  -- a quantifier after an Arrow: a pattern with 1 parts
    ((l 1 20 0 ∷ l 13 0 0 ∷ l 12 1 0 ∷ l 14 11 0 ∷ l 13 0 0 ∷ l 11 11 0 ∷ l 12 30 0 ∷ l 2 40 0 ∷ l 12 30 0 ∷ l 3 0 0 ∷ l 12 1 0 ∷ l 4 0 0 ∷ l 27 0 1 ∷ l 21 40 0 ∷ l 43 20 2 ∷ l 42 12 0 ∷ l 42 11 0 ∷ l 22 7 0 ∷ []), (14 ∷ 0 ∷ 2 ∷ 2 ∷ 1 ∷ 2 ∷ 0 ∷ [], ([]), [])) ∷  -- a quantifier after an Arrow: a pattern with 2 parts
    ((l 1 20 0 ∷ l 13 0 0 ∷ l 12 1 0 ∷ l 14 11 0 ∷ l 13 0 0 ∷ l 11 11 0 ∷ l 12 30 0 ∷ l 2 40 0 ∷ l 12 30 0 ∷ l 3 0 0 ∷ l 12 1 0 ∷ l 4 0 0 ∷ l 27 0 1 ∷ l 21 40 0 ∷ l 43 20 3 ∷ l 42 12 0 ∷ l 42 11 0 ∷ l 42 10 0 ∷ l 22 7 0 ∷ []), (14 ∷ 0 ∷ 2 ∷ 2 ∷ 1 ∷ 3 ∷ 0 ∷ [], ([]), [])) ∷  -- a quantifier after an Arrow: a pattern with 3 parts
    ((l 1 20 0 ∷ l 14 10 0 ∷ l 13 0 0 ∷ l 11 10 0 ∷ l 14 10 0 ∷ l 13 0 0 ∷ l 11 10 0 ∷ l 11 10 0 ∷ l 3 0 0 ∷ l 12 1 0 ∷ l 4 0 0 ∷ l 26 20 0 ∷ []), (15 ∷ 0 ∷ 16 ∷ 7 ∷ 5 ∷ 1 ∷ 0 ∷ [], (node 13 0 ∷ node 17 1 ∷ node 13 0 ∷ node 17 1 ∷ node 17 1 ∷ node 12 1 ∷ []), ◌≔◌ 0 (node 13 0 ∷ node 17 2 ∷ node 17 3 ∷ []) ∷ ◌≔◌ 3 (node 13 0 ∷ node 17 5 ∷ node 17 6 ∷ []) ∷ ◌≔◌ 6 (node 17 1 ∷ []) ∷ ◌≔◌ 5 (node 17 1 ∷ []) ∷ ◌≔◌ 2 (node 17 1 ∷ []) ∷ [])) ∷  -- one of a name again after an Arrow: a constructor as Int
    ((l 1 20 0 ∷ l 14 10 0 ∷ l 13 0 0 ∷ l 11 10 0 ∷ l 14 10 0 ∷ l 13 0 0 ∷ l 11 10 0 ∷ l 11 10 0 ∷ l 3 0 0 ∷ l 14 10 0 ∷ l 13 0 0 ∷ l 11 10 0 ∷ l 14 10 0 ∷ l 13 0 0 ∷ l 11 10 0 ∷ l 11 10 0 ∷ l 4 0 0 ∷ l 26 20 0 ∷ []), (15 ∷ 0 ∷ 23 ∷ 9 ∷ 1 ∷ 1 ∷ 0 ∷ [], (node 18 0 ∷ node 18 8 ∷ []), ◌≔◌ 1 (node 13 0 ∷ node 17 3 ∷ node 17 4 ∷ []) ∷ ◌≔◌ 4 (node 13 0 ∷ node 17 6 ∷ node 17 7 ∷ []) ∷ ◌≔◌ 7 (node 17 2 ∷ []) ∷ ◌≔◌ 6 (node 17 2 ∷ []) ∷ ◌≔◌ 3 (node 17 2 ∷ []) ∷ ◌≔◌ 2 (node 18 8 ∷ []) ∷ [])) ∷  -- one of a name again after an Arrow: as its own type
    ((l 1 20 0 ∷ l 14 10 0 ∷ l 13 0 0 ∷ l 11 10 0 ∷ l 14 10 0 ∷ l 13 0 0 ∷ l 11 10 0 ∷ l 11 10 0 ∷ l 3 0 0 ∷ l 13 0 0 ∷ l 12 1 0 ∷ l 13 0 0 ∷ l 12 1 0 ∷ l 12 30 0 ∷ l 4 0 0 ∷ l 26 20 0 ∷ []), (15 ∷ 0 ∷ 19 ∷ 7 ∷ 1 ∷ 1 ∷ 0 ∷ [], (node 12 1 ∷ node 12 30 ∷ []), ◌≔◌ 0 (node 13 0 ∷ node 17 2 ∷ node 17 3 ∷ []) ∷ ◌≔◌ 3 (node 13 0 ∷ node 17 5 ∷ node 17 6 ∷ []) ∷ ◌≔◌ 6 (node 17 1 ∷ []) ∷ ◌≔◌ 5 (node 17 1 ∷ []) ∷ ◌≔◌ 2 (node 17 1 ∷ []) ∷ ◌≔◌ 1 (node 12 30 ∷ []) ∷ [])) ∷  -- one of a name again after an Arrow: as Int → Int → n30
    ((l 1 20 0 ∷ l 14 10 0 ∷ l 13 0 0 ∷ l 11 10 0 ∷ l 14 10 0 ∷ l 13 0 0 ∷ l 11 10 0 ∷ l 11 10 0 ∷ l 3 0 0 ∷ l 13 0 0 ∷ l 12 1 0 ∷ l 13 0 0 ∷ l 12 1 0 ∷ l 12 30 0 ∷ l 4 0 0 ∷ l 21 20 0 ∷ []), (15 ∷ 0 ∷ 21 ∷ 7 ∷ 1 ∷ 1 ∷ 0 ∷ [], (node 12 1 ∷ node 12 30 ∷ []), ◌≔◌ 0 (node 13 0 ∷ node 17 2 ∷ node 17 3 ∷ []) ∷ ◌≔◌ 3 (node 13 0 ∷ node 17 5 ∷ node 17 6 ∷ []) ∷ ◌≔◌ 6 (node 17 4 ∷ []) ∷ ◌≔◌ 5 (node 17 4 ∷ []) ∷ ◌≔◌ 2 (node 17 1 ∷ []) ∷ ◌≔◌ 4 (node 12 30 ∷ []) ∷ [])) ∷  -- one of a name again after an Arrow: a variable
    ((l 1 20 0 ∷ l 14 10 0 ∷ l 13 0 0 ∷ l 11 10 0 ∷ l 14 10 0 ∷ l 13 0 0 ∷ l 11 10 0 ∷ l 11 10 0 ∷ l 2 40 0 ∷ l 12 30 0 ∷ l 3 0 0 ∷ l 12 1 0 ∷ l 4 0 0 ∷ l 27 0 1 ∷ l 21 40 0 ∷ l 43 20 0 ∷ l 22 7 0 ∷ []), (14 ∷ 0 ∷ 2 ∷ 3 ∷ 1 ∷ 0 ∷ 0 ∷ [], ([]), [])) ∷  -- one of a name again after an Arrow: a pattern with 0 parts
    ((l 1 20 0 ∷ l 14 10 0 ∷ l 13 0 0 ∷ l 11 10 0 ∷ l 14 10 0 ∷ l 13 0 0 ∷ l 11 10 0 ∷ l 11 10 0 ∷ l 2 40 0 ∷ l 12 30 0 ∷ l 3 0 0 ∷ l 12 1 0 ∷ l 4 0 0 ∷ l 27 0 1 ∷ l 21 40 0 ∷ l 43 20 1 ∷ l 42 12 0 ∷ l 22 7 0 ∷ []), (15 ∷ 0 ∷ 21 ∷ 8 ∷ 1 ∷ 3 ∷ 0 ∷ [], (node 12 30 ∷ node 13 0 ∷ node 17 2 ∷ node 17 2 ∷ []), ◌≔◌ 3 (node 12 1 ∷ []) ∷ ◌≔◌ 0 (node 12 1 ∷ []) ∷ ◌≔◌ 1 (node 13 0 ∷ node 17 5 ∷ node 17 6 ∷ []) ∷ ◌≔◌ 6 (node 17 2 ∷ []) ∷ ◌≔◌ 5 (node 17 2 ∷ []) ∷ ◌≔◌ 7 (node 12 30 ∷ []) ∷ [])) ∷  -- one of a name again after an Arrow: a pattern with 1 parts
    ((l 1 20 0 ∷ l 14 10 0 ∷ l 13 0 0 ∷ l 11 10 0 ∷ l 14 10 0 ∷ l 13 0 0 ∷ l 11 10 0 ∷ l 11 10 0 ∷ l 2 40 0 ∷ l 12 30 0 ∷ l 3 0 0 ∷ l 12 1 0 ∷ l 4 0 0 ∷ l 27 0 1 ∷ l 21 40 0 ∷ l 43 20 2 ∷ l 42 12 0 ∷ l 42 11 0 ∷ l 22 7 0 ∷ []), (14 ∷ 0 ∷ 2 ∷ 3 ∷ 1 ∷ 2 ∷ 0 ∷ [], ([]), [])) ∷  -- one of a name again after an Arrow: a pattern with 2 parts
    ((l 1 20 0 ∷ l 14 10 0 ∷ l 13 0 0 ∷ l 11 10 0 ∷ l 14 10 0 ∷ l 13 0 0 ∷ l 11 10 0 ∷ l 11 10 0 ∷ l 2 40 0 ∷ l 12 30 0 ∷ l 3 0 0 ∷ l 12 1 0 ∷ l 4 0 0 ∷ l 27 0 1 ∷ l 21 40 0 ∷ l 43 20 3 ∷ l 42 12 0 ∷ l 42 11 0 ∷ l 42 10 0 ∷ l 22 7 0 ∷ []), (14 ∷ 0 ∷ 2 ∷ 3 ∷ 1 ∷ 3 ∷ 0 ∷ [], ([]), [])) ∷  -- one of a name again after an Arrow: a pattern with 3 parts
    ((l 1 20 0 ∷ l 14 10 0 ∷ l 14 11 0 ∷ l 13 0 0 ∷ l 11 10 0 ∷ l 13 0 0 ∷ l 11 11 0 ∷ l 12 30 0 ∷ l 3 0 0 ∷ l 12 1 0 ∷ l 4 0 0 ∷ l 26 20 0 ∷ []), (15 ∷ 0 ∷ 14 ∷ 7 ∷ 5 ∷ 1 ∷ 0 ∷ [], (node 13 0 ∷ node 17 1 ∷ node 13 0 ∷ node 17 2 ∷ node 12 30 ∷ node 12 1 ∷ []), ◌≔◌ 0 (node 13 0 ∷ node 17 3 ∷ node 17 4 ∷ []) ∷ ◌≔◌ 4 (node 13 0 ∷ node 17 5 ∷ node 17 6 ∷ []) ∷ ◌≔◌ 6 (node 12 30 ∷ []) ∷ ◌≔◌ 5 (node 17 2 ∷ []) ∷ ◌≔◌ 3 (node 17 1 ∷ []) ∷ [])) ∷  -- two quantifiers: a constructor as Int
    ((l 1 20 0 ∷ l 14 10 0 ∷ l 14 11 0 ∷ l 13 0 0 ∷ l 11 10 0 ∷ l 13 0 0 ∷ l 11 11 0 ∷ l 12 30 0 ∷ l 3 0 0 ∷ l 14 10 0 ∷ l 14 11 0 ∷ l 13 0 0 ∷ l 11 10 0 ∷ l 13 0 0 ∷ l 11 11 0 ∷ l 12 30 0 ∷ l 4 0 0 ∷ l 26 20 0 ∷ []), (0 ∷ 0 ∷ 23 ∷ 9 ∷ 0 ∷ 0 ∷ 0 ∷ [], ([]), ◌≔◌ 2 (node 13 0 ∷ node 17 5 ∷ node 17 6 ∷ []) ∷ ◌≔◌ 6 (node 13 0 ∷ node 17 7 ∷ node 17 8 ∷ []) ∷ ◌≔◌ 8 (node 12 30 ∷ []) ∷ ◌≔◌ 7 (node 17 4 ∷ []) ∷ ◌≔◌ 5 (node 17 3 ∷ []) ∷ ◌≔◌ 4 (node 18 1 ∷ []) ∷ ◌≔◌ 3 (node 18 0 ∷ []) ∷ [])) ∷  -- two quantifiers: as its own type
    ((l 1 20 0 ∷ l 14 10 0 ∷ l 14 11 0 ∷ l 13 0 0 ∷ l 11 10 0 ∷ l 13 0 0 ∷ l 11 11 0 ∷ l 12 30 0 ∷ l 3 0 0 ∷ l 13 0 0 ∷ l 12 1 0 ∷ l 13 0 0 ∷ l 12 1 0 ∷ l 12 30 0 ∷ l 4 0 0 ∷ l 26 20 0 ∷ []), (0 ∷ 0 ∷ 19 ∷ 7 ∷ 0 ∷ 0 ∷ 0 ∷ [], ([]), ◌≔◌ 0 (node 13 0 ∷ node 17 3 ∷ node 17 4 ∷ []) ∷ ◌≔◌ 4 (node 13 0 ∷ node 17 5 ∷ node 17 6 ∷ []) ∷ ◌≔◌ 6 (node 12 30 ∷ []) ∷ ◌≔◌ 5 (node 17 2 ∷ []) ∷ ◌≔◌ 3 (node 17 1 ∷ []) ∷ ◌≔◌ 2 (node 12 1 ∷ []) ∷ ◌≔◌ 1 (node 12 1 ∷ []) ∷ [])) ∷  -- two quantifiers: as Int → Int → n30
    ((l 1 20 0 ∷ l 14 10 0 ∷ l 14 11 0 ∷ l 13 0 0 ∷ l 11 10 0 ∷ l 13 0 0 ∷ l 11 11 0 ∷ l 12 30 0 ∷ l 3 0 0 ∷ l 13 0 0 ∷ l 12 1 0 ∷ l 13 0 0 ∷ l 12 1 0 ∷ l 12 30 0 ∷ l 4 0 0 ∷ l 21 20 0 ∷ []), (0 ∷ 0 ∷ 23 ∷ 7 ∷ 0 ∷ 0 ∷ 0 ∷ [], ([]), ◌≔◌ 0 (node 13 0 ∷ node 17 3 ∷ node 17 4 ∷ []) ∷ ◌≔◌ 4 (node 13 0 ∷ node 17 5 ∷ node 17 6 ∷ []) ∷ ◌≔◌ 6 (node 12 30 ∷ []) ∷ ◌≔◌ 5 (node 17 2 ∷ []) ∷ ◌≔◌ 3 (node 17 1 ∷ []) ∷ ◌≔◌ 2 (node 12 1 ∷ []) ∷ ◌≔◌ 1 (node 12 1 ∷ []) ∷ [])) ∷  -- two quantifiers: a variable
    ((l 1 20 0 ∷ l 14 10 0 ∷ l 14 11 0 ∷ l 13 0 0 ∷ l 11 10 0 ∷ l 13 0 0 ∷ l 11 11 0 ∷ l 12 30 0 ∷ l 2 40 0 ∷ l 12 30 0 ∷ l 3 0 0 ∷ l 12 1 0 ∷ l 4 0 0 ∷ l 27 0 1 ∷ l 21 40 0 ∷ l 43 20 0 ∷ l 22 7 0 ∷ []), (14 ∷ 0 ∷ 2 ∷ 4 ∷ 2 ∷ 0 ∷ 0 ∷ [], ([]), [])) ∷  -- two quantifiers: a pattern with 0 parts
    ((l 1 20 0 ∷ l 14 10 0 ∷ l 14 11 0 ∷ l 13 0 0 ∷ l 11 10 0 ∷ l 13 0 0 ∷ l 11 11 0 ∷ l 12 30 0 ∷ l 2 40 0 ∷ l 12 30 0 ∷ l 3 0 0 ∷ l 12 1 0 ∷ l 4 0 0 ∷ l 27 0 1 ∷ l 21 40 0 ∷ l 43 20 1 ∷ l 42 12 0 ∷ l 22 7 0 ∷ []), (14 ∷ 0 ∷ 2 ∷ 4 ∷ 2 ∷ 1 ∷ 0 ∷ [], ([]), [])) ∷  -- two quantifiers: a pattern with 1 parts
    ((l 1 20 0 ∷ l 14 10 0 ∷ l 14 11 0 ∷ l 13 0 0 ∷ l 11 10 0 ∷ l 13 0 0 ∷ l 11 11 0 ∷ l 12 30 0 ∷ l 2 40 0 ∷ l 12 30 0 ∷ l 3 0 0 ∷ l 12 1 0 ∷ l 4 0 0 ∷ l 27 0 1 ∷ l 21 40 0 ∷ l 43 20 2 ∷ l 42 12 0 ∷ l 42 11 0 ∷ l 22 7 0 ∷ []), (0 ∷ 0 ∷ 20 ∷ 6 ∷ 0 ∷ 0 ∷ 0 ∷ [], ([]), ◌≔◌ 4 (node 12 1 ∷ []) ∷ ◌≔◌ 0 (node 12 1 ∷ []) ∷ ◌≔◌ 1 (node 12 30 ∷ []) ∷ ◌≔◌ 5 (node 12 30 ∷ []) ∷ [])) ∷  -- two quantifiers: a pattern with 2 parts
    ((l 1 20 0 ∷ l 14 10 0 ∷ l 14 11 0 ∷ l 13 0 0 ∷ l 11 10 0 ∷ l 13 0 0 ∷ l 11 11 0 ∷ l 12 30 0 ∷ l 2 40 0 ∷ l 12 30 0 ∷ l 3 0 0 ∷ l 12 1 0 ∷ l 4 0 0 ∷ l 27 0 1 ∷ l 21 40 0 ∷ l 43 20 3 ∷ l 42 12 0 ∷ l 42 11 0 ∷ l 42 10 0 ∷ l 22 7 0 ∷ []), (14 ∷ 0 ∷ 2 ∷ 4 ∷ 2 ∷ 3 ∷ 0 ∷ [], ([]), [])) ∷  -- two quantifiers: a pattern with 3 parts
    ((l 1 20 0 ∷ l 15 0 0 ∷ l 12 31 0 ∷ l 12 1 0 ∷ l 2 40 0 ∷ l 15 0 0 ∷ l 12 31 0 ∷ l 12 1 0 ∷ l 3 0 0 ∷ l 12 1 0 ∷ l 4 0 0 ∷ l 27 0 1 ∷ l 21 40 0 ∷ l 43 20 0 ∷ l 22 7 0 ∷ []), (0 ∷ 0 ∷ 24 ∷ 8 ∷ 0 ∷ 0 ∷ 1 ∷ [], ([]), ◌≔◌ 2 (node 12 1 ∷ []) ∷ ◌≔◌ 0 (node 12 1 ∷ []) ∷ ◌≔◌ 1 (node 15 0 ∷ node 17 3 ∷ node 17 4 ∷ []) ∷ ◌≔◌ 4 (node 12 1 ∷ []) ∷ ◌≔◌ 3 (node 12 31 ∷ []) ∷ ◌≔◌ 5 (node 15 0 ∷ node 17 6 ∷ node 17 7 ∷ []) ∷ ◌≔◌ 7 (node 12 1 ∷ []) ∷ ◌≔◌ 6 (node 12 31 ∷ []) ∷ [])) ∷  -- an App is no signature
    ((l 1 20 0 ∷ l 16 0 1 ∷ l 12 1 0 ∷ l 2 40 0 ∷ l 16 0 1 ∷ l 12 1 0 ∷ l 3 0 0 ∷ l 12 1 0 ∷ l 4 0 0 ∷ l 27 0 1 ∷ l 21 40 0 ∷ l 43 20 0 ∷ l 22 7 0 ∷ []), (0 ∷ 0 ∷ 16 ∷ 4 ∷ 0 ∷ 0 ∷ 1 ∷ [], ([]), ◌≔◌ 2 (node 12 1 ∷ []) ∷ ◌≔◌ 0 (node 12 1 ∷ []) ∷ ◌≔◌ 1 (node 16 1 ∷ node 12 1 ∷ []) ∷ ◌≔◌ 3 (node 16 1 ∷ node 12 1 ∷ []) ∷ [])) ∷  -- nor a Product
    ((l 1 20 0 ∷ l 13 0 0 ∷ l 12 2 0 ∷ l 13 0 0 ∷ l 12 1 0 ∷ l 12 30 0 ∷ l 2 40 0 ∷ l 12 30 0 ∷ l 3 0 0 ∷ l 12 1 0 ∷ l 4 0 0 ∷ l 27 0 1 ∷ l 21 40 0 ∷ l 43 20 2 ∷ l 42 11 0 ∷ l 42 12 0 ∷ l 21 12 0 ∷ []), (0 ∷ 0 ∷ 18 ∷ 4 ∷ 0 ∷ 0 ∷ 1 ∷ [], ([]), ◌≔◌ 2 (node 12 1 ∷ []) ∷ ◌≔◌ 0 (node 12 1 ∷ []) ∷ ◌≔◌ 1 (node 12 30 ∷ []) ∷ ◌≔◌ 3 (node 12 30 ∷ []) ∷ [])) ∷  -- parts of a pattern are of the arguments' types in order
    ((l 1 20 0 ∷ l 13 0 0 ∷ l 12 31 0 ∷ l 13 0 0 ∷ l 12 1 0 ∷ l 12 30 0 ∷ l 1 21 0 ∷ l 13 0 0 ∷ l 12 2 0 ∷ l 12 31 0 ∷ l 2 40 0 ∷ l 12 30 0 ∷ l 3 0 0 ∷ l 12 1 0 ∷ l 4 0 0 ∷ l 27 0 1 ∷ l 21 40 0 ∷ l 43 20 2 ∷ l 43 21 1 ∷ l 42 11 0 ∷ l 42 11 0 ∷ l 21 11 0 ∷ []), (0 ∷ 0 ∷ 18 ∷ 4 ∷ 0 ∷ 0 ∷ 1 ∷ [], ([]), ◌≔◌ 2 (node 12 1 ∷ []) ∷ ◌≔◌ 0 (node 12 1 ∷ []) ∷ ◌≔◌ 1 (node 12 30 ∷ []) ∷ ◌≔◌ 3 (node 12 30 ∷ []) ∷ [])) ∷  -- a variable in two parts of nested patterns
    ((l 3 0 0 ∷ l 12 1 0 ∷ l 4 0 0 ∷ l 27 0 3 ∷ l 22 7 0 ∷ l 42 11 0 ∷ l 22 7 0 ∷ l 42 12 0 ∷ l 21 11 0 ∷ l 41 0 0 ∷ l 21 12 0 ∷ []), (0 ∷ 0 ∷ 27 ∷ 6 ∷ 0 ∷ 0 ∷ 1 ∷ [], ([]), ◌≔◌ 2 (node 17 1 ∷ []) ∷ ◌≔◌ 1 (node 17 0 ∷ []) ∷ ◌≔◌ 3 (node 17 0 ∷ []) ∷ ◌≔◌ 4 (node 12 1 ∷ []) ∷ ◌≔◌ 0 (node 12 1 ∷ []) ∷ ◌≔◌ 5 (node 12 1 ∷ []) ∷ [])) ∷  -- an earlier arm's variable
    ((l 3 0 0 ∷ l 12 1 0 ∷ l 4 0 0 ∷ l 27 0 2 ∷ l 22 7 0 ∷ l 41 0 0 ∷ l 21 12 0 ∷ l 42 12 0 ∷ l 22 7 0 ∷ []), (11 ∷ 0 ∷ 10 ∷ 4 ∷ 12 ∷ 0 ∷ 1 ∷ [], ([]), ◌≔◌ 2 (node 12 1 ∷ []) ∷ ◌≔◌ 0 (node 12 1 ∷ []) ∷ [])) ∷  -- a later arm's variable is not seen
    ((l 1 20 0 ∷ l 14 10 0 ∷ l 14 11 0 ∷ l 15 0 0 ∷ l 12 30 0 ∷ l 13 0 0 ∷ l 11 10 0 ∷ l 13 0 0 ∷ l 11 11 0 ∷ l 12 1 0 ∷ l 1 21 0 ∷ l 14 10 0 ∷ l 15 0 0 ∷ l 12 30 0 ∷ l 13 0 0 ∷ l 11 10 0 ∷ l 13 0 0 ∷ l 11 10 0 ∷ l 12 1 0 ∷ l 3 0 0 ∷ l 12 1 0 ∷ l 4 0 0 ∷ l 27 0 2 ∷ l 22 7 0 ∷ l 43 20 0 ∷ l 22 1 0 ∷ l 43 21 0 ∷ l 22 1 0 ∷ []), (15 ∷ 0 ∷ 39 ∷ 14 ∷ 1 ∷ 7 ∷ 0 ∷ [], (node 12 1 ∷ node 15 0 ∷ node 12 30 ∷ node 13 0 ∷ node 17 2 ∷ node 13 0 ∷ node 17 2 ∷ node 12 1 ∷ []), ◌≔◌ 5 (node 12 1 ∷ []) ∷ ◌≔◌ 0 (node 12 1 ∷ []) ∷ ◌≔◌ 1 (node 15 0 ∷ node 17 6 ∷ node 17 7 ∷ []) ∷ ◌≔◌ 7 (node 13 0 ∷ node 17 8 ∷ node 17 9 ∷ []) ∷ ◌≔◌ 9 (node 13 0 ∷ node 17 10 ∷ node 17 11 ∷ []) ∷ ◌≔◌ 11 (node 12 1 ∷ []) ∷ ◌≔◌ 10 (node 17 4 ∷ []) ∷ ◌≔◌ 8 (node 17 4 ∷ []) ∷ ◌≔◌ 6 (node 12 30 ∷ []) ∷ ◌≔◌ 12 (node 12 1 ∷ []) ∷ ◌≔◌ 4 (node 17 3 ∷ []) ∷ ◌≔◌ 3 (node 17 2 ∷ []) ∷ ◌≔◌ 13 (node 12 1 ∷ []) ∷ [])) ∷  -- the older of two quantifiers' unknowns is kept
    []

pub constructors : map (λ q. row 10000 q.0) rows_constructors ≡ map (λ q. q.1) rows_constructors
unfolding row parts_of row_of find_row table plan_of declarations bindings_in end_from entries_end places_of part_line is_plain names plain_entries plain_plan lookup view occurs is_monotype substitute rename front_names after_front can_unify term_view lambda_of find links any_solved write_out_by write_out solution_nodes board_nodes find_var before perform operations instantiate_from subtype open_names signature_from insert push_vars check_patterns check_arms infer_app run_from check_type result_of run_of judge
constructors = refl

abbrev rows_directions : List Asked
rows_directions =
    ((l 2 40 0 ∷ l 14 10 0 ∷ l 13 0 0 ∷ l 12 1 0 ∷ l 11 10 0 ∷ l 3 0 0 ∷ l 12 30 0 ∷ l 4 0 0 ∷ l 24 0 0 ∷ l 21 40 0 ∷ l 22 7 0 ∷ []), (0 ∷ 0 ∷ 21 ∷ 6 ∷ 0 ∷ 0 ∷ 0 ∷ [], ([]), ◌≔◌ 1 (node 13 0 ∷ node 17 3 ∷ node 17 4 ∷ []) ∷ ◌≔◌ 4 (node 17 2 ∷ []) ∷ ◌≔◌ 3 (node 12 1 ∷ []) ∷ ◌≔◌ 5 (node 12 1 ∷ []) ∷ ◌≔◌ 2 (node 17 0 ∷ []) ∷ ◌≔◌ 0 (node 12 30 ∷ []) ∷ [])) ∷  -- an applied function's result is below the type asked for
    ((l 2 40 0 ∷ l 14 11 0 ∷ l 14 10 0 ∷ l 13 0 0 ∷ l 15 0 0 ∷ l 11 10 0 ∷ l 11 10 0 ∷ l 15 0 0 ∷ l 11 10 0 ∷ l 12 1 0 ∷ l 2 51 0 ∷ l 14 10 0 ∷ l 11 10 0 ∷ l 3 0 0 ∷ l 15 0 0 ∷ l 12 31 0 ∷ l 12 1 0 ∷ l 4 0 0 ∷ l 24 0 0 ∷ l 21 40 0 ∷ l 21 51 0 ∷ []), (0 ∷ 0 ∷ 45 ∷ 16 ∷ 0 ∷ 0 ∷ 0 ∷ [], ([]), ◌≔◌ 1 (node 13 0 ∷ node 17 4 ∷ node 17 5 ∷ []) ∷ ◌≔◌ 5 (node 15 0 ∷ node 17 6 ∷ node 17 7 ∷ []) ∷ ◌≔◌ 7 (node 12 1 ∷ []) ∷ ◌≔◌ 6 (node 17 3 ∷ []) ∷ ◌≔◌ 4 (node 15 0 ∷ node 17 8 ∷ node 17 9 ∷ []) ∷ ◌≔◌ 9 (node 17 3 ∷ []) ∷ ◌≔◌ 8 (node 17 3 ∷ []) ∷ ◌≔◌ 11 (node 17 10 ∷ []) ∷ ◌≔◌ 10 (node 15 0 ∷ node 17 12 ∷ node 17 13 ∷ []) ∷ ◌≔◌ 13 (node 17 3 ∷ []) ∷ ◌≔◌ 12 (node 17 3 ∷ []) ∷ ◌≔◌ 0 (node 15 0 ∷ node 17 14 ∷ node 17 15 ∷ []) ∷ ◌≔◌ 15 (node 12 1 ∷ []) ∷ ◌≔◌ 3 (node 17 14 ∷ []) ∷ ◌≔◌ 14 (node 12 31 ∷ []) ∷ [])) ∷  -- the first part of an App on the right
    ((l 3 0 0 ∷ l 15 0 0 ∷ l 12 31 0 ∷ l 14 11 0 ∷ l 11 11 0 ∷ l 4 0 0 ∷ l 27 0 0 ∷ l 22 7 0 ∷ []), (0 ∷ 0 ∷ 16 ∷ 6 ∷ 0 ∷ 0 ∷ 0 ∷ [], ([]), ◌≔◌ 2 (node 12 1 ∷ []) ∷ ◌≔◌ 1 (node 12 1 ∷ []) ∷ ◌≔◌ 0 (node 15 0 ∷ node 17 3 ∷ node 17 4 ∷ []) ∷ ◌≔◌ 4 (node 18 5 ∷ []) ∷ ◌≔◌ 3 (node 12 31 ∷ []) ∷ [])) ∷  -- its second part
    ((l 1 20 0 ∷ l 14 10 0 ∷ l 14 10 0 ∷ l 15 0 0 ∷ l 11 10 0 ∷ l 12 3 0 ∷ l 3 0 0 ∷ l 15 0 0 ∷ l 12 31 0 ∷ l 12 3 0 ∷ l 4 0 0 ∷ l 25 12 0 ∷ l 26 20 0 ∷ []), (0 ∷ 0 ∷ 24 ∷ 9 ∷ 0 ∷ 0 ∷ 0 ∷ [], ([]), ◌≔◌ 1 (node 15 0 ∷ node 17 4 ∷ node 17 5 ∷ []) ∷ ◌≔◌ 5 (node 12 3 ∷ []) ∷ ◌≔◌ 4 (node 17 3 ∷ []) ∷ ◌≔◌ 0 (node 15 0 ∷ node 17 7 ∷ node 17 8 ∷ []) ∷ ◌≔◌ 8 (node 12 3 ∷ []) ∷ ◌≔◌ 3 (node 17 7 ∷ []) ∷ ◌≔◌ 7 (node 12 31 ∷ []) ∷ [])) ∷  -- the first part of an App on the left
    ((l 3 0 0 ∷ l 12 1 0 ∷ l 4 0 0 ∷ l 27 0 1 ∷ l 22 7 0 ∷ l 42 52 0 ∷ l 24 0 0 ∷ l 21 52 0 ∷ l 21 52 0 ∷ []), (15 ∷ 0 ∷ 15 ∷ 9 ∷ 3 ∷ 1 ∷ 1 ∷ [], (node 13 0 ∷ node 17 4 ∷ node 17 5 ∷ node 17 4 ∷ []), ◌≔◌ 3 (node 17 1 ∷ []) ∷ ◌≔◌ 1 (node 13 0 ∷ node 17 4 ∷ node 17 5 ∷ []) ∷ ◌≔◌ 6 (node 13 0 ∷ node 17 7 ∷ node 17 8 ∷ []) ∷ ◌≔◌ 8 (node 17 5 ∷ []) ∷ ◌≔◌ 7 (node 17 4 ∷ []) ∷ [])) ∷  -- an unknown occurs in an Arrow
    ((l 2 62 0 ∷ l 16 0 1 ∷ l 13 0 0 ∷ l 12 3 0 ∷ l 14 11 0 ∷ l 11 11 0 ∷ l 3 0 0 ∷ l 12 3 0 ∷ l 4 0 0 ∷ l 21 62 0 ∷ []), (17 ∷ 0 ∷ 3 ∷ 1 ∷ 0 ∷ 5 ∷ 0 ∷ [], (node 16 1 ∷ node 13 0 ∷ node 12 3 ∷ node 14 11 ∷ node 11 11 ∷ []), [])) ∷  -- a quantifier in an Arrow in a Product
    ((l 2 62 0 ∷ l 16 0 1 ∷ l 15 0 0 ∷ l 14 11 0 ∷ l 11 11 0 ∷ l 12 3 0 ∷ l 3 0 0 ∷ l 12 3 0 ∷ l 4 0 0 ∷ l 21 62 0 ∷ []), (17 ∷ 0 ∷ 3 ∷ 1 ∷ 0 ∷ 5 ∷ 0 ∷ [], (node 16 1 ∷ node 15 0 ∷ node 14 11 ∷ node 11 11 ∷ node 12 3 ∷ []), [])) ∷  -- in an App in a Product
    ((l 2 40 0 ∷ l 14 11 0 ∷ l 14 10 0 ∷ l 13 0 0 ∷ l 11 10 0 ∷ l 12 1 0 ∷ l 3 0 0 ∷ l 13 0 0 ∷ l 12 32 0 ∷ l 12 1 0 ∷ l 4 0 0 ∷ l 25 11 0 ∷ l 21 40 0 ∷ []), (0 ∷ 0 ∷ 28 ∷ 9 ∷ 0 ∷ 0 ∷ 0 ∷ [], ([]), ◌≔◌ 1 (node 13 0 ∷ node 17 4 ∷ node 17 5 ∷ []) ∷ ◌≔◌ 5 (node 12 1 ∷ []) ∷ ◌≔◌ 4 (node 17 3 ∷ []) ∷ ◌≔◌ 0 (node 13 0 ∷ node 17 7 ∷ node 17 8 ∷ []) ∷ ◌≔◌ 8 (node 12 1 ∷ []) ∷ ◌≔◌ 7 (node 17 3 ∷ []) ∷ ◌≔◌ 3 (node 12 32 ∷ []) ∷ [])) ∷  -- of two unknowns the older is on the board alone
    ((l 2 40 0 ∷ l 14 10 0 ∷ l 11 10 0 ∷ l 3 0 0 ∷ l 12 1 0 ∷ l 4 0 0 ∷ l 27 0 0 ∷ l 23 55 0 ∷ l 12 1 0 ∷ l 21 40 0 ∷ []), (0 ∷ 0 ∷ 25 ∷ 9 ∷ 0 ∷ 0 ∷ 0 ∷ [], ([]), ◌≔◌ 4 (node 17 3 ∷ []) ∷ ◌≔◌ 2 (node 13 0 ∷ node 17 5 ∷ node 17 6 ∷ []) ∷ ◌≔◌ 6 (node 17 3 ∷ []) ∷ ◌≔◌ 5 (node 12 1 ∷ []) ∷ ◌≔◌ 1 (node 13 0 ∷ node 17 7 ∷ node 17 8 ∷ []) ∷ ◌≔◌ 3 (node 17 8 ∷ []) ∷ ◌≔◌ 7 (node 12 1 ∷ []) ∷ ◌≔◌ 0 (node 12 1 ∷ []) ∷ [])) ∷  -- the newer is
    ((l 2 40 0 ∷ l 14 12 0 ∷ l 13 0 0 ∷ l 11 12 0 ∷ l 12 3 0 ∷ l 3 0 0 ∷ l 14 12 0 ∷ l 13 0 0 ∷ l 11 12 0 ∷ l 12 3 0 ∷ l 4 0 0 ∷ l 29 0 0 ∷ l 30 4 0 ∷ l 21 40 0 ∷ l 21 40 0 ∷ []), (18 ∷ 0 ∷ 35 ∷ 13 ∷ 1 ∷ 0 ∷ 0 ∷ [], ([]), ◌≔◌ 2 (node 13 0 ∷ node 17 4 ∷ node 17 5 ∷ []) ∷ ◌≔◌ 5 (node 12 3 ∷ []) ∷ ◌≔◌ 4 (node 17 3 ∷ []) ∷ ◌≔◌ 1 (node 13 0 ∷ node 17 6 ∷ node 17 7 ∷ []) ∷ ◌≔◌ 7 (node 12 3 ∷ []) ∷ ◌≔◌ 6 (node 17 3 ∷ []) ∷ ◌≔◌ 8 (node 13 0 ∷ node 17 10 ∷ node 17 11 ∷ []) ∷ ◌≔◌ 11 (node 12 3 ∷ []) ∷ ◌≔◌ 10 (node 17 9 ∷ []) ∷ ◌≔◌ 3 (node 17 9 ∷ []) ∷ [])) ∷  -- neither is
    []

pub directions : map (λ q. row 10000 q.0) rows_directions ≡ map (λ q. q.1) rows_directions
unfolding row parts_of row_of find_row table plan_of declarations bindings_in end_from entries_end places_of part_line is_plain names plain_entries plain_plan lookup view occurs is_monotype substitute rename front_names after_front can_unify term_view lambda_of find links any_solved write_out_by write_out solution_nodes board_nodes find_var before perform operations instantiate_from subtype open_names signature_from insert push_vars check_patterns check_arms infer_app run_from check_type result_of run_of judge
directions = refl

abbrev rows_differences : List Asked
rows_differences =
    ((l 3 0 0 ∷ l 13 0 0 ∷ l 12 11 0 ∷ l 12 11 0 ∷ l 4 0 0 ∷ l 23 10 0 ∷ l 12 11 0 ∷ l 21 10 0 ∷ []), (0 ∷ 0 ∷ 8 ∷ 1 ∷ 0 ∷ 0 ∷ 1 ∷ [], ([]), ◌≔◌ 0 (node 12 11 ∷ []) ∷ [])) ∷  -- types are not checked for being well formed: a Lambda's
    ((l 3 0 0 ∷ l 13 0 0 ∷ l 11 11 0 ∷ l 11 11 0 ∷ l 4 0 0 ∷ l 23 10 0 ∷ l 11 11 0 ∷ l 21 10 0 ∷ []), (0 ∷ 0 ∷ 8 ∷ 1 ∷ 0 ∷ 0 ∷ 1 ∷ [], ([]), ◌≔◌ 0 (node 11 11 ∷ []) ∷ [])) ∷  -- the same of a type variable
    ((l 2 10 0 ∷ l 11 11 0 ∷ l 3 0 0 ∷ l 11 11 0 ∷ l 4 0 0 ∷ l 21 10 0 ∷ []), (0 ∷ 0 ∷ 5 ∷ 1 ∷ 0 ∷ 0 ∷ 1 ∷ [], ([]), ◌≔◌ 0 (node 11 11 ∷ []) ∷ [])) ∷  -- a context variable's
    ((l 1 20 0 ∷ l 14 10 0 ∷ l 13 0 0 ∷ l 11 10 0 ∷ l 12 30 0 ∷ l 2 40 0 ∷ l 14 10 0 ∷ l 13 0 0 ∷ l 11 10 0 ∷ l 11 10 0 ∷ l 3 0 0 ∷ l 12 30 0 ∷ l 4 0 0 ∷ l 24 0 0 ∷ l 21 20 0 ∷ l 21 40 0 ∷ []), (0 ∷ 0 ∷ 32 ∷ 11 ∷ 0 ∷ 0 ∷ 0 ∷ [], ([]), ◌≔◌ 1 (node 13 0 ∷ node 17 3 ∷ node 17 4 ∷ []) ∷ ◌≔◌ 4 (node 12 30 ∷ []) ∷ ◌≔◌ 3 (node 17 2 ∷ []) ∷ ◌≔◌ 5 (node 13 0 ∷ node 17 7 ∷ node 17 8 ∷ []) ∷ ◌≔◌ 8 (node 17 6 ∷ []) ∷ ◌≔◌ 7 (node 17 6 ∷ []) ∷ ◌≔◌ 2 (node 13 0 ∷ node 17 9 ∷ node 17 10 ∷ []) ∷ ◌≔◌ 6 (node 17 10 ∷ []) ∷ ◌≔◌ 10 (node 17 9 ∷ []) ∷ ◌≔◌ 0 (node 12 30 ∷ []) ∷ [])) ∷  -- reach looks at TVars on the board alone
    ((l 1 20 0 ∷ l 14 10 0 ∷ l 13 0 0 ∷ l 11 10 0 ∷ l 12 30 0 ∷ l 2 40 0 ∷ l 14 10 0 ∷ l 13 0 0 ∷ l 11 10 0 ∷ l 11 10 0 ∷ l 3 0 0 ∷ l 12 30 0 ∷ l 4 0 0 ∷ l 24 0 0 ∷ l 26 20 0 ∷ l 21 40 0 ∷ []), (0 ∷ 0 ∷ 30 ∷ 11 ∷ 0 ∷ 0 ∷ 0 ∷ [], ([]), ◌≔◌ 1 (node 13 0 ∷ node 17 3 ∷ node 17 4 ∷ []) ∷ ◌≔◌ 4 (node 12 30 ∷ []) ∷ ◌≔◌ 3 (node 17 2 ∷ []) ∷ ◌≔◌ 5 (node 13 0 ∷ node 17 7 ∷ node 17 8 ∷ []) ∷ ◌≔◌ 8 (node 17 6 ∷ []) ∷ ◌≔◌ 7 (node 17 6 ∷ []) ∷ ◌≔◌ 2 (node 13 0 ∷ node 17 9 ∷ node 17 10 ∷ []) ∷ ◌≔◌ 6 (node 17 10 ∷ []) ∷ ◌≔◌ 10 (node 17 9 ∷ []) ∷ ◌≔◌ 0 (node 12 30 ∷ []) ∷ [])) ∷  -- the same of a constructor
    ((l 2 40 0 ∷ l 11 11 0 ∷ l 3 0 0 ∷ l 14 12 0 ∷ l 11 12 0 ∷ l 4 0 0 ∷ l 25 11 0 ∷ l 21 40 0 ∷ []), (0 ∷ 0 ∷ 14 ∷ 4 ∷ 0 ∷ 0 ∷ 0 ∷ [], ([]), ◌≔◌ 2 (node 11 11 ∷ []) ∷ ◌≔◌ 3 (node 17 1 ∷ []) ∷ ◌≔◌ 1 (node 18 0 ∷ []) ∷ [])) ∷  -- a name is captured by a TypeLambda
    ((l 3 0 0 ∷ l 14 11 0 ∷ l 13 0 0 ∷ l 11 11 0 ∷ l 11 11 0 ∷ l 4 0 0 ∷ l 23 10 0 ∷ l 11 11 0 ∷ l 21 10 0 ∷ []), (15 ∷ 0 ∷ 6 ∷ 2 ∷ 1 ∷ 1 ∷ 0 ∷ [], (node 11 11 ∷ node 18 0 ∷ []), ◌≔◌ 1 (node 11 11 ∷ []) ∷ [])) ∷  -- and not by a quantifier, which a fresh universal takes the place of
    ((l 3 0 0 ∷ l 13 0 0 ∷ l 16 0 1 ∷ l 14 12 0 ∷ l 11 12 0 ∷ l 12 1 0 ∷ l 4 0 0 ∷ l 23 10 0 ∷ l 16 0 1 ∷ l 14 11 0 ∷ l 11 11 0 ∷ l 22 1 0 ∷ []), (15 ∷ 0 ∷ 8 ∷ 1 ∷ 3 ∷ 3 ∷ 0 ∷ [], (node 16 1 ∷ node 14 11 ∷ node 11 11 ∷ node 16 1 ∷ node 14 12 ∷ node 11 12 ∷ []), ◌≔◌ 0 (node 12 1 ∷ []) ∷ [])) ∷  -- bound names are compared literally inside a Product
    ((l 3 0 0 ∷ l 13 0 0 ∷ l 16 0 1 ∷ l 14 12 0 ∷ l 11 12 0 ∷ l 12 1 0 ∷ l 4 0 0 ∷ l 23 10 0 ∷ l 16 0 1 ∷ l 14 12 0 ∷ l 11 12 0 ∷ l 22 1 0 ∷ []), (0 ∷ 0 ∷ 8 ∷ 1 ∷ 0 ∷ 0 ∷ 0 ∷ [], ([]), ◌≔◌ 0 (node 12 1 ∷ []) ∷ [])) ∷  -- the same names
    ((l 3 0 0 ∷ l 13 0 0 ∷ l 14 12 0 ∷ l 11 12 0 ∷ l 12 1 0 ∷ l 4 0 0 ∷ l 23 10 0 ∷ l 14 11 0 ∷ l 11 11 0 ∷ l 22 1 0 ∷ []), (0 ∷ 0 ∷ 13 ∷ 3 ∷ 0 ∷ 0 ∷ 0 ∷ [], ([]), ◌≔◌ 0 (node 12 1 ∷ []) ∷ ◌≔◌ 2 (node 18 1 ∷ []) ∷ [])) ∷  -- and outside one they are not
    ((l 2 40 0 ∷ l 13 0 0 ∷ l 14 10 0 ∷ l 13 0 0 ∷ l 11 10 0 ∷ l 11 10 0 ∷ l 12 1 0 ∷ l 3 0 0 ∷ l 12 3 0 ∷ l 4 0 0 ∷ l 21 40 0 ∷ []), (15 ∷ 0 ∷ 14 ∷ 6 ∷ 5 ∷ 1 ∷ 0 ∷ [], (node 13 0 ∷ node 13 0 ∷ node 18 3 ∷ node 18 3 ∷ node 12 1 ∷ node 12 3 ∷ []), ◌≔◌ 0 (node 13 0 ∷ node 17 1 ∷ node 17 2 ∷ []) ∷ ◌≔◌ 2 (node 12 1 ∷ []) ∷ ◌≔◌ 1 (node 13 0 ∷ node 17 4 ∷ node 17 5 ∷ []) ∷ ◌≔◌ 5 (node 18 3 ∷ []) ∷ ◌≔◌ 4 (node 18 3 ∷ []) ∷ [])) ∷  -- an Arrow's argument is compared the Rust's way
    []

pub differences : map (λ q. row 10000 q.0) rows_differences ≡ map (λ q. q.1) rows_differences
unfolding row parts_of row_of find_row table plan_of declarations bindings_in end_from entries_end places_of part_line is_plain names plain_entries plain_plan lookup view occurs is_monotype substitute rename front_names after_front can_unify term_view lambda_of find links any_solved write_out_by write_out solution_nodes board_nodes find_var before perform operations instantiate_from subtype open_names signature_from insert push_vars check_patterns check_arms infer_app run_from check_type result_of run_of judge
differences = refl

-- long plans: the seven numbers, the nodes of the report and those of the solutions
abbrev times : {A : Type 0} → ℕ → List A → List A
times zero ls = []
times (suc n) ls = ls ++ times n ls

abbrev Long : Type 0
Long = List Triple × (List ℕ × ℕ × ℕ)

abbrev rows_long : List Long
rows_long =
    ((l 3 0 0 ∷ l 12 1 0 ∷ l 4 0 0 ∷ l 27 0 99 ∷ l 22 7 0 ∷ (times 98 (l 41 0 0 ∷ l 22 1 0 ∷ []) ++ (l 41 0 0 ∷ l 21 50 0 ∷ []))), (11 ∷ 0 ∷ 4 ∷ 3 ∷ 50 ∷ 0 ∷ 1 ∷ [], 0, 0)) ∷  -- 99 arms, the last of which fails
    ((l 3 0 0 ∷ l 12 1 0 ∷ l 4 0 0 ∷ l 27 0 99 ∷ l 22 7 0 ∷ l 41 0 0 ∷ l 21 50 0 ∷ (times 98 (l 41 0 0 ∷ l 22 1 0 ∷ []) ++ ([]))), (11 ∷ 0 ∷ 494 ∷ 101 ∷ 50 ∷ 0 ∷ 1 ∷ [], 0, 99)) ∷  -- 99 arms, the first of which fails
    ((l 1 20 0 ∷ (times 61 (l 13 0 0 ∷ l 12 1 0 ∷ []) ++ (l 12 30 0 ∷ l 1 21 0 ∷ l 12 30 0 ∷ l 3 0 0 ∷ l 12 1 0 ∷ l 4 0 0 ∷ l 27 0 1 ∷ l 26 21 0 ∷ l 43 20 61 ∷ (times 61 (l 41 0 0 ∷ []) ++ (l 22 7 0 ∷ []))))), (0 ∷ 0 ∷ 16 ∷ 4 ∷ 0 ∷ 0 ∷ 1 ∷ [], 0, 4)) ∷  -- a pattern of 61 parts
    ((l 1 20 0 ∷ (times 99 (l 13 0 0 ∷ l 12 1 0 ∷ []) ++ (l 12 30 0 ∷ l 1 21 0 ∷ l 12 30 0 ∷ l 3 0 0 ∷ l 12 1 0 ∷ l 4 0 0 ∷ l 27 0 1 ∷ l 26 21 0 ∷ l 43 20 99 ∷ (times 99 (l 41 0 0 ∷ []) ++ (l 22 7 0 ∷ []))))), (0 ∷ 0 ∷ 16 ∷ 4 ∷ 0 ∷ 0 ∷ 1 ∷ [], 0, 4)) ∷  -- a pattern of 99 parts
    ((l 2 40 0 ∷ l 16 0 9 ∷ (times 9 (l 16 0 99 ∷ (times 99 (l 12 1 0 ∷ []) ++ ([]))) ++ (l 3 0 0 ∷ l 16 0 9 ∷ (times 8 (l 16 0 99 ∷ (times 99 (l 12 1 0 ∷ []) ++ ([]))) ++ (l 16 0 99 ∷ (times 98 (l 12 1 0 ∷ []) ++ (l 12 2 0 ∷ l 4 0 0 ∷ l 21 40 0 ∷ []))))))), (15 ∷ 0 ∷ 4 ∷ 1 ∷ 901 ∷ 901 ∷ 1 ∷ [], 1802, 901)) ∷  -- two types of 901 nodes, which differ in the last node
    ((l 2 40 0 ∷ l 16 0 9 ∷ (times 9 (l 16 0 99 ∷ (times 99 (l 12 1 0 ∷ []) ++ ([]))) ++ (l 3 0 0 ∷ l 16 0 9 ∷ (times 9 (l 16 0 99 ∷ (times 99 (l 12 1 0 ∷ []) ++ ([]))) ++ (l 4 0 0 ∷ l 21 40 0 ∷ []))))), (0 ∷ 0 ∷ 5 ∷ 1 ∷ 0 ∷ 0 ∷ 1 ∷ [], 0, 901)) ∷  -- two types of 901 nodes, which are the same
    []

pub long : map (λ q. short_under limits q.0) rows_long ≡ map (λ q. q.1) rows_long
unfolding short_under parts_of row_of find_row table plan_of declarations bindings_in end_from entries_end places_of part_line is_plain names plain_entries plain_plan lookup view occurs is_monotype substitute rename front_names after_front can_unify term_view lambda_of find links any_solved write_out_by write_out solution_nodes board_nodes find_var before perform operations instantiate_from subtype open_names signature_from insert push_vars check_patterns check_arms infer_app run_from check_type result_of run_of judge
long = refl

-- the words of a report of more than 1,024 nodes, that of the fifth of them
pub long-report : report_words 1024 (judge limits 10000 (l 2 40 0 ∷ l 16 0 9 ∷ (times 9 (l 16 0 99 ∷ (times 99 (l 12 1 0 ∷ []) ++ ([]))) ++ (l 3 0 0 ∷ l 16 0 9 ∷ (times 8 (l 16 0 99 ∷ (times 99 (l 12 1 0 ∷ []) ++ ([]))) ++ (l 16 0 99 ∷ (times 98 (l 12 1 0 ∷ []) ++ (l 12 2 0 ∷ l 4 0 0 ∷ l 21 40 0 ∷ [])))))))).report ≡
    16 ∷ 9 ∷ (times 9 (16 ∷ 99 ∷ (times 99 (12 ∷ 1 ∷ []) ++ ([]))) ++ (16 ∷ 9 ∷ (times 8 (16 ∷ 99 ∷ (times 99 (12 ∷ 1 ∷ []) ++ ([]))) ++ (16 ∷ 99 ∷ (times 98 (12 ∷ 1 ∷ []) ++ (12 ∷ 2 ∷ (times 492 (0 ∷ []) ++ ([]))))))))
unfolding report_words padded words parts_of row_of find_row table plan_of declarations bindings_in end_from entries_end places_of part_line is_plain names plain_entries plain_plan lookup view occurs is_monotype substitute rename front_names after_front can_unify term_view lambda_of find links any_solved write_out_by write_out solution_nodes board_nodes find_var before perform operations instantiate_from subtype open_names signature_from insert push_vars check_patterns check_arms infer_app run_from check_type result_of run_of judge
long-report = refl
