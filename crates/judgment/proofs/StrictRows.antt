-- Plans under the first and the strict call (document 02, W12) with the levels that they leave, by computation. reference/strict.py makes this file from
-- the answers of reference/limited. Assumes nothing.
use mathlib.Core.Path.{◌≡◌, refl}
use mathlib.Core.Bool.{true, false}
use mathlib.Core.List.{List, [], ◌∷◌, ◌++◌, map}
use Prim.Native.Nat.{ℕ, zero, suc, ◌+◌}
use lib.ListN.{take, drop}
use Rattle.nodes.specs.Nodes.{node, words}
use Rattle.spelling.specs.declared.Triple.{Triple}
use Rattle.kinds.specs.Kinds.{parts_of, row_of, find as find_row, table}
use Rattle.sheet.specs.Plan.{plan_of, declarations, bindings_in, end_from, entries_end, places_of, part_line, is_plain, names, plain_entries, plain_plan, lookup}
use Rattle.judgment.specs.Types.{view, occurs, is_monotype, substitute, rename, front_names, after_front, can_unify}
use Rattle.judgment.specs.Terms.{term_view, lambda_of}
use Rattle.judgment.specs.Solutions.{◌≔◌, find, links, any_solved, write_out_by, write_out, solution_nodes}
use Rattle.judgment.specs.Board.{up_to, Limits, board_nodes, find_var, before, perform, operations}
use Rattle.judgment.specs.Rules.{instantiate_from, subtype, open_names, signature_from, insert, push_vars, check_patterns, check_arms, infer_app}
use Rattle.judgment.specs.Run.{run_from, check_type}
use Rattle.judgment.specs.Result.{numbers, Judged, limits_for, padded, place_from, threes_from, node_words, book_words, result_of, run_of, judge}
use Rattle.judgment.specs.Levels.{Levels, Mode, first_call, strict_call, scope_of, put, lower, level_made, level_after, levels_after, none_above}
use Rattle.judgment.proofs.Wall.{l, Row}

-- a row, and the levels of the numbers made
abbrev LevelRow : Type 0
LevelRow = Row × List ℕ

abbrev levels_from : Levels → ℕ → ℕ → List ℕ
levels_from v k zero = []
levels_from v k (suc n) = v k ∷ levels_from v (k + 1) n

abbrev row_of_result : Judged → LevelRow
row_of_result r = ((numbers r.answer, r.report, r.solutions), levels_from r.levels 0 r.answer.fresh)

unfoldable pub level_row : Mode → ℕ → List Triple → LevelRow
level_row m c ls = row_of_result (judge (limits_for m 1024) c ls)

-- so many fresh numbers and nodes of solutions
abbrev limited : ℕ → ℕ → Mode → Levels → Limits
limited n s m v = record { entries = up_to 512; nodes = up_to 4096; written = up_to 1024; numbers = up_to n; solved = up_to s; scope = scope_of m v }

unfoldable pub limited_row : Mode → ℕ → ℕ → List Triple → LevelRow
limited_row m n s ls = row_of_result (judge (limited n s m) 10000 ls)

abbrev plans : List (ℕ × List Triple)
plans =
    (10000, (l 3 0 0 ∷ l 13 0 0 ∷ l 12 1 0 ∷ l 14 11 0 ∷ l 11 11 0 ∷ l 4 0 0 ∷ l 27 0 0 ∷ l 22 7 0 ∷ [])) ∷  -- a Case with no arm as Int → ∀n11. n11
    (10000, (l 2 46 0 ∷ l 14 12 0 ∷ l 11 12 0 ∷ l 3 0 0 ∷ l 13 0 0 ∷ l 12 1 0 ∷ l 14 11 0 ∷ l 11 11 0 ∷ l 4 0 0 ∷ l 21 46 0 ∷ [])) ∷  -- n46 : ∀n12. n12 as the same
    (10000, (l 3 0 0 ∷ l 13 0 0 ∷ l 12 1 0 ∷ l 14 11 0 ∷ l 16 0 2 ∷ l 11 11 0 ∷ l 14 12 0 ∷ l 11 12 0 ∷ l 4 0 0 ∷ l 27 0 0 ∷ l 22 7 0 ∷ [])) ∷  -- a quantifier in the solution comes first
    (11, (l 3 0 0 ∷ l 13 0 0 ∷ l 12 1 0 ∷ l 14 11 0 ∷ l 11 11 0 ∷ l 4 0 0 ∷ l 27 0 0 ∷ l 22 7 0 ∷ [])) ∷  -- the ceiling after the refused step
    (10, (l 3 0 0 ∷ l 13 0 0 ∷ l 12 1 0 ∷ l 14 11 0 ∷ l 11 11 0 ∷ l 4 0 0 ∷ l 27 0 0 ∷ l 22 7 0 ∷ [])) ∷  -- before it
    (9, (l 3 0 0 ∷ l 13 0 0 ∷ l 12 1 0 ∷ l 14 11 0 ∷ l 11 11 0 ∷ l 4 0 0 ∷ l 27 0 0 ∷ l 22 7 0 ∷ [])) ∷  -- after the split
    (10000, (l 3 0 0 ∷ l 14 10 0 ∷ l 11 10 0 ∷ l 4 0 0 ∷ l 27 0 0 ∷ l 22 7 0 ∷ [])) ∷  -- an older universal
    (10000, (l 3 0 0 ∷ l 14 10 0 ∷ l 13 0 0 ∷ l 12 1 0 ∷ l 11 10 0 ∷ l 4 0 0 ∷ l 27 0 0 ∷ l 22 7 0 ∷ [])) ∷  -- for a part of the unknown
    (10000, (l 3 0 0 ∷ l 14 10 0 ∷ l 13 0 0 ∷ l 12 1 0 ∷ l 16 0 2 ∷ l 11 10 0 ∷ l 11 10 0 ∷ l 4 0 0 ∷ l 27 0 0 ∷ l 22 7 0 ∷ [])) ∷  -- twice
    (10000, (l 3 0 0 ∷ l 14 10 0 ∷ l 13 0 0 ∷ l 12 1 0 ∷ l 14 11 0 ∷ l 16 0 2 ∷ l 11 10 0 ∷ l 11 11 0 ∷ l 4 0 0 ∷ l 27 0 0 ∷ l 22 7 0 ∷ [])) ∷  -- before a newer one
    (10000, (l 3 0 0 ∷ l 14 10 0 ∷ l 13 0 0 ∷ l 12 1 0 ∷ l 14 11 0 ∷ l 16 0 2 ∷ l 11 11 0 ∷ l 11 10 0 ∷ l 4 0 0 ∷ l 27 0 0 ∷ l 22 7 0 ∷ [])) ∷  -- after a newer one
    (10000, (l 3 0 0 ∷ l 13 0 0 ∷ l 12 1 0 ∷ l 14 11 0 ∷ l 13 0 0 ∷ l 11 11 0 ∷ l 11 11 0 ∷ l 4 0 0 ∷ l 27 0 0 ∷ l 22 7 0 ∷ [])) ∷  -- a part of a part, of an Arrow
    (10000, (l 3 0 0 ∷ l 13 0 0 ∷ l 12 1 0 ∷ l 14 11 0 ∷ l 15 0 0 ∷ l 12 31 0 ∷ l 11 11 0 ∷ l 4 0 0 ∷ l 27 0 0 ∷ l 22 7 0 ∷ [])) ∷  -- of a type App
    (10000, (l 2 47 0 ∷ l 13 0 0 ∷ l 14 11 0 ∷ l 11 11 0 ∷ l 12 1 0 ∷ l 3 0 0 ∷ l 12 1 0 ∷ l 4 0 0 ∷ l 24 0 0 ∷ l 21 47 0 ∷ l 27 0 0 ∷ l 22 7 0 ∷ [])) ∷  -- a function that takes ∀n11. n11, applied
    (10000, (l 2 47 0 ∷ l 13 0 0 ∷ l 14 11 0 ∷ l 13 0 0 ∷ l 11 11 0 ∷ l 11 11 0 ∷ l 12 1 0 ∷ l 3 0 0 ∷ l 12 1 0 ∷ l 4 0 0 ∷ l 24 0 0 ∷ l 21 47 0 ∷ l 27 0 0 ∷ l 22 7 0 ∷ [])) ∷  -- one that takes ∀n11. n11 → n11
    (10000, (l 3 0 0 ∷ l 13 0 0 ∷ l 12 1 0 ∷ l 14 11 0 ∷ l 11 11 0 ∷ l 4 0 0 ∷ l 24 0 0 ∷ l 27 0 0 ∷ l 22 7 0 ∷ l 27 0 0 ∷ l 22 7 0 ∷ [])) ∷  -- a result of what was applied
    (10000, (l 3 0 0 ∷ l 13 0 0 ∷ l 13 0 0 ∷ l 14 12 0 ∷ l 14 13 0 ∷ l 15 0 0 ∷ l 15 0 0 ∷ l 12 32 0 ∷ l 11 12 0 ∷ l 15 0 0 ∷ l 12 31 0 ∷ l 11 12 0 ∷ l 12 1 0 ∷ l 12 1 0 ∷ l 4 0 0 ∷ l 23 70 0 ∷ l 14 10 0 ∷ l 13 0 0 ∷ l 14 11 0 ∷ l 15 0 0 ∷ l 15 0 0 ∷ l 12 32 0 ∷ l 11 11 0 ∷ l 11 10 0 ∷ l 12 1 0 ∷ l 22 7 0 ∷ [])) ∷  -- lowered by a part
    (10000, (l 3 0 0 ∷ l 13 0 0 ∷ l 13 0 0 ∷ l 14 12 0 ∷ l 14 13 0 ∷ l 15 0 0 ∷ l 15 0 0 ∷ l 12 32 0 ∷ l 11 12 0 ∷ l 13 0 0 ∷ l 11 12 0 ∷ l 11 12 0 ∷ l 12 1 0 ∷ l 12 1 0 ∷ l 4 0 0 ∷ l 23 70 0 ∷ l 14 10 0 ∷ l 13 0 0 ∷ l 14 11 0 ∷ l 15 0 0 ∷ l 15 0 0 ∷ l 12 32 0 ∷ l 11 11 0 ∷ l 11 10 0 ∷ l 12 1 0 ∷ l 22 7 0 ∷ [])) ∷  -- by parts of an Arrow
    (10000, (l 3 0 0 ∷ l 13 0 0 ∷ l 13 0 0 ∷ l 14 12 0 ∷ l 14 13 0 ∷ l 15 0 0 ∷ l 15 0 0 ∷ l 12 32 0 ∷ l 11 12 0 ∷ l 16 0 2 ∷ l 12 1 0 ∷ l 11 12 0 ∷ l 12 1 0 ∷ l 12 1 0 ∷ l 4 0 0 ∷ l 23 70 0 ∷ l 14 10 0 ∷ l 13 0 0 ∷ l 14 11 0 ∷ l 15 0 0 ∷ l 15 0 0 ∷ l 12 32 0 ∷ l 11 11 0 ∷ l 11 10 0 ∷ l 12 1 0 ∷ l 22 7 0 ∷ [])) ∷  -- in a Product
    (10000, (l 3 0 0 ∷ l 13 0 0 ∷ l 13 0 0 ∷ l 14 12 0 ∷ l 14 13 0 ∷ l 15 0 0 ∷ l 15 0 0 ∷ l 12 32 0 ∷ l 11 12 0 ∷ l 15 0 0 ∷ l 12 31 0 ∷ l 11 13 0 ∷ l 12 1 0 ∷ l 12 1 0 ∷ l 4 0 0 ∷ l 23 70 0 ∷ l 14 10 0 ∷ l 13 0 0 ∷ l 14 11 0 ∷ l 15 0 0 ∷ l 15 0 0 ∷ l 12 32 0 ∷ l 11 11 0 ∷ l 11 10 0 ∷ l 12 1 0 ∷ l 22 7 0 ∷ [])) ∷  -- another one is lowered
    (10000, (l 3 0 0 ∷ l 13 0 0 ∷ l 13 0 0 ∷ l 14 12 0 ∷ l 14 13 0 ∷ l 15 0 0 ∷ l 15 0 0 ∷ l 15 0 0 ∷ l 12 32 0 ∷ l 12 33 0 ∷ l 11 13 0 ∷ l 15 0 0 ∷ l 15 0 0 ∷ l 12 32 0 ∷ l 15 0 0 ∷ l 12 31 0 ∷ l 11 13 0 ∷ l 15 0 0 ∷ l 12 31 0 ∷ l 11 12 0 ∷ l 12 1 0 ∷ l 12 1 0 ∷ l 4 0 0 ∷ l 23 70 0 ∷ l 14 10 0 ∷ l 13 0 0 ∷ l 14 11 0 ∷ l 15 0 0 ∷ l 15 0 0 ∷ l 15 0 0 ∷ l 12 32 0 ∷ l 12 33 0 ∷ l 11 11 0 ∷ l 15 0 0 ∷ l 15 0 0 ∷ l 12 32 0 ∷ l 11 10 0 ∷ l 11 10 0 ∷ l 12 1 0 ∷ l 22 7 0 ∷ [])) ∷  -- by way of another one
    (10000, (l 3 0 0 ∷ l 13 0 0 ∷ l 13 0 0 ∷ l 14 12 0 ∷ l 14 13 0 ∷ l 15 0 0 ∷ l 15 0 0 ∷ l 12 32 0 ∷ l 15 0 0 ∷ l 12 31 0 ∷ l 11 12 0 ∷ l 11 12 0 ∷ l 12 1 0 ∷ l 12 1 0 ∷ l 4 0 0 ∷ l 23 70 0 ∷ l 14 10 0 ∷ l 13 0 0 ∷ l 14 11 0 ∷ l 15 0 0 ∷ l 15 0 0 ∷ l 12 32 0 ∷ l 11 10 0 ∷ l 11 11 0 ∷ l 12 1 0 ∷ l 22 7 0 ∷ [])) ∷  -- too late: a part of the older one meets it
    (10000, (l 3 0 0 ∷ l 13 0 0 ∷ l 13 0 0 ∷ l 14 12 0 ∷ l 14 13 0 ∷ l 15 0 0 ∷ l 15 0 0 ∷ l 12 32 0 ∷ l 16 0 2 ∷ l 11 12 0 ∷ l 11 13 0 ∷ l 11 12 0 ∷ l 12 1 0 ∷ l 12 1 0 ∷ l 4 0 0 ∷ l 23 70 0 ∷ l 14 10 0 ∷ l 13 0 0 ∷ l 14 11 0 ∷ l 15 0 0 ∷ l 15 0 0 ∷ l 12 32 0 ∷ l 11 10 0 ∷ l 11 11 0 ∷ l 12 1 0 ∷ l 22 7 0 ∷ [])) ∷  -- another one beside it in what is refused
    (10000, (l 3 0 0 ∷ l 13 0 0 ∷ l 13 0 0 ∷ l 14 12 0 ∷ l 14 13 0 ∷ l 15 0 0 ∷ l 15 0 0 ∷ l 12 32 0 ∷ l 11 12 0 ∷ l 11 12 0 ∷ l 12 1 0 ∷ l 12 1 0 ∷ l 4 0 0 ∷ l 23 70 0 ∷ l 14 10 0 ∷ l 13 0 0 ∷ l 14 11 0 ∷ l 15 0 0 ∷ l 15 0 0 ∷ l 12 32 0 ∷ l 16 0 2 ∷ l 11 10 0 ∷ l 11 11 0 ∷ l 11 10 0 ∷ l 12 1 0 ∷ l 22 7 0 ∷ [])) ∷  -- the unknown occurs
    (10000, (l 3 0 0 ∷ l 13 0 0 ∷ l 13 0 0 ∷ l 14 12 0 ∷ l 14 13 0 ∷ l 15 0 0 ∷ l 15 0 0 ∷ l 12 32 0 ∷ l 11 12 0 ∷ l 11 12 0 ∷ l 12 1 0 ∷ l 12 1 0 ∷ l 4 0 0 ∷ l 23 70 0 ∷ l 14 10 0 ∷ l 13 0 0 ∷ l 14 11 0 ∷ l 15 0 0 ∷ l 15 0 0 ∷ l 12 32 0 ∷ l 16 0 2 ∷ l 12 1 0 ∷ l 11 11 0 ∷ l 11 10 0 ∷ l 12 1 0 ∷ l 22 7 0 ∷ [])) ∷  -- it does not
    (10000, (l 3 0 0 ∷ l 14 11 0 ∷ l 14 12 0 ∷ l 12 1 0 ∷ l 4 0 0 ∷ l 22 7 0 ∷ [])) ∷  -- a universal of a Chk that is not the first number
    (10000, (l 1 20 0 ∷ l 14 11 0 ∷ l 12 30 0 ∷ l 3 0 0 ∷ l 12 1 0 ∷ l 4 0 0 ∷ l 27 0 1 ∷ l 22 7 0 ∷ l 43 20 0 ∷ l 22 5 0 ∷ [])) ∷  -- a constructor's quantifier opened by a pattern
    (10000, (l 3 0 0 ∷ l 12 1 0 ∷ l 4 0 0 ∷ l 24 0 0 ∷ l 23 63 0 ∷ l 14 11 0 ∷ l 11 11 0 ∷ l 22 5 0 ∷ l 22 5 0 ∷ [])) ∷  -- a Lambda for a quantified type, applied
    (10000, (l 1 35 0 ∷ l 15 0 0 ∷ l 12 30 0 ∷ l 11 13 0 ∷ l 3 0 0 ∷ l 12 32 0 ∷ l 4 0 0 ∷ l 25 13 0 ∷ l 26 35 0 ∷ [])) ∷  -- an unknown that stands in a solution of an older one
    (10000, (l 2 28 0 ∷ l 16 0 2 ∷ l 11 11 0 ∷ l 11 11 0 ∷ l 3 0 0 ∷ l 14 11 0 ∷ l 16 0 2 ∷ l 11 11 0 ∷ l 11 11 0 ∷ l 4 0 0 ∷ l 25 11 0 ∷ l 21 28 0 ∷ [])) ∷  -- in a Product
    (10000, (l 3 0 0 ∷ l 12 1 0 ∷ l 4 0 0 ∷ l 24 0 0 ∷ l 27 0 0 ∷ l 22 7 0 ∷ l 22 7 0 ∷ [])) ∷  -- an unknown applied
    []

pub by_first : map (λ q. level_row first_call q.0 q.1) plans ≡
    ((0 ∷ 0 ∷ 16 ∷ 6 ∷ 0 ∷ 0 ∷ 0 ∷ [], ([]), (◌≔◌ 2 (node 12 1 ∷ []) ∷ ◌≔◌ 1 (node 12 1 ∷ []) ∷ ◌≔◌ 0 (node 13 0 ∷ node 17 3 ∷ node 17 4 ∷ []) ∷ ◌≔◌ 4 (node 18 5 ∷ []) ∷ ◌≔◌ 3 (node 12 1 ∷ []) ∷ [])), 0 ∷ 1 ∷ 2 ∷ 0 ∷ 0 ∷ 0 ∷ []) ∷
    ((0 ∷ 0 ∷ 14 ∷ 5 ∷ 0 ∷ 0 ∷ 0 ∷ [], ([]), (◌≔◌ 1 (node 17 0 ∷ []) ∷ ◌≔◌ 0 (node 13 0 ∷ node 17 2 ∷ node 17 3 ∷ []) ∷ ◌≔◌ 3 (node 18 4 ∷ []) ∷ ◌≔◌ 2 (node 12 1 ∷ []) ∷ [])), 0 ∷ 1 ∷ 0 ∷ 0 ∷ 0 ∷ []) ∷
    ((17 ∷ 0 ∷ 11 ∷ 6 ∷ 4 ∷ 4 ∷ 0 ∷ [], (node 16 2 ∷ node 18 5 ∷ node 14 12 ∷ node 11 12 ∷ []), (◌≔◌ 2 (node 12 1 ∷ []) ∷ ◌≔◌ 1 (node 12 1 ∷ []) ∷ ◌≔◌ 0 (node 13 0 ∷ node 17 3 ∷ node 17 4 ∷ []) ∷ [])), 0 ∷ 1 ∷ 2 ∷ 0 ∷ 0 ∷ 0 ∷ []) ∷
    ((21 ∷ 0 ∷ 11 ∷ 6 ∷ 0 ∷ 0 ∷ 0 ∷ [], ([]), (◌≔◌ 2 (node 12 1 ∷ []) ∷ ◌≔◌ 1 (node 12 1 ∷ []) ∷ ◌≔◌ 0 (node 13 0 ∷ node 17 3 ∷ node 17 4 ∷ []) ∷ ◌≔◌ 4 (node 18 5 ∷ []) ∷ [])), 0 ∷ 1 ∷ 2 ∷ 0 ∷ 0 ∷ 0 ∷ []) ∷
    ((21 ∷ 0 ∷ 10 ∷ 6 ∷ 0 ∷ 0 ∷ 0 ∷ [], ([]), (◌≔◌ 2 (node 12 1 ∷ []) ∷ ◌≔◌ 1 (node 12 1 ∷ []) ∷ ◌≔◌ 0 (node 13 0 ∷ node 17 3 ∷ node 17 4 ∷ []) ∷ [])), 0 ∷ 1 ∷ 2 ∷ 0 ∷ 0 ∷ 0 ∷ []) ∷
    ((21 ∷ 0 ∷ 9 ∷ 5 ∷ 0 ∷ 0 ∷ 0 ∷ [], ([]), (◌≔◌ 2 (node 12 1 ∷ []) ∷ ◌≔◌ 1 (node 12 1 ∷ []) ∷ ◌≔◌ 0 (node 13 0 ∷ node 17 3 ∷ node 17 4 ∷ []) ∷ [])), 0 ∷ 1 ∷ 2 ∷ 0 ∷ 0 ∷ []) ∷
    ((0 ∷ 0 ∷ 12 ∷ 4 ∷ 0 ∷ 0 ∷ 0 ∷ [], ([]), (◌≔◌ 3 (node 12 1 ∷ []) ∷ ◌≔◌ 2 (node 12 1 ∷ []) ∷ ◌≔◌ 1 (node 18 0 ∷ []) ∷ [])), 0 ∷ 1 ∷ 2 ∷ 3 ∷ []) ∷
    ((0 ∷ 0 ∷ 16 ∷ 6 ∷ 0 ∷ 0 ∷ 0 ∷ [], ([]), (◌≔◌ 3 (node 12 1 ∷ []) ∷ ◌≔◌ 2 (node 12 1 ∷ []) ∷ ◌≔◌ 1 (node 13 0 ∷ node 17 4 ∷ node 17 5 ∷ []) ∷ ◌≔◌ 5 (node 18 0 ∷ []) ∷ ◌≔◌ 4 (node 12 1 ∷ []) ∷ [])), 0 ∷ 1 ∷ 2 ∷ 3 ∷ 1 ∷ 1 ∷ []) ∷
    ((0 ∷ 0 ∷ 16 ∷ 6 ∷ 0 ∷ 0 ∷ 0 ∷ [], ([]), (◌≔◌ 3 (node 12 1 ∷ []) ∷ ◌≔◌ 2 (node 12 1 ∷ []) ∷ ◌≔◌ 1 (node 13 0 ∷ node 17 4 ∷ node 17 5 ∷ []) ∷ ◌≔◌ 5 (node 16 2 ∷ node 18 0 ∷ node 18 0 ∷ []) ∷ ◌≔◌ 4 (node 12 1 ∷ []) ∷ [])), 0 ∷ 1 ∷ 2 ∷ 3 ∷ 1 ∷ 1 ∷ []) ∷
    ((0 ∷ 0 ∷ 18 ∷ 7 ∷ 0 ∷ 0 ∷ 0 ∷ [], ([]), (◌≔◌ 3 (node 12 1 ∷ []) ∷ ◌≔◌ 2 (node 12 1 ∷ []) ∷ ◌≔◌ 1 (node 13 0 ∷ node 17 4 ∷ node 17 5 ∷ []) ∷ ◌≔◌ 5 (node 16 2 ∷ node 18 0 ∷ node 18 6 ∷ []) ∷ ◌≔◌ 4 (node 12 1 ∷ []) ∷ [])), 0 ∷ 1 ∷ 2 ∷ 3 ∷ 1 ∷ 1 ∷ 0 ∷ []) ∷
    ((0 ∷ 0 ∷ 18 ∷ 7 ∷ 0 ∷ 0 ∷ 0 ∷ [], ([]), (◌≔◌ 3 (node 12 1 ∷ []) ∷ ◌≔◌ 2 (node 12 1 ∷ []) ∷ ◌≔◌ 1 (node 13 0 ∷ node 17 4 ∷ node 17 5 ∷ []) ∷ ◌≔◌ 5 (node 16 2 ∷ node 18 6 ∷ node 18 0 ∷ []) ∷ ◌≔◌ 4 (node 12 1 ∷ []) ∷ [])), 0 ∷ 1 ∷ 2 ∷ 3 ∷ 1 ∷ 1 ∷ 0 ∷ []) ∷
    ((0 ∷ 0 ∷ 20 ∷ 8 ∷ 0 ∷ 0 ∷ 0 ∷ [], ([]), (◌≔◌ 2 (node 12 1 ∷ []) ∷ ◌≔◌ 1 (node 12 1 ∷ []) ∷ ◌≔◌ 0 (node 13 0 ∷ node 17 3 ∷ node 17 4 ∷ []) ∷ ◌≔◌ 4 (node 13 0 ∷ node 17 6 ∷ node 17 7 ∷ []) ∷ ◌≔◌ 7 (node 18 5 ∷ []) ∷ ◌≔◌ 6 (node 18 5 ∷ []) ∷ ◌≔◌ 3 (node 12 1 ∷ []) ∷ [])), 0 ∷ 1 ∷ 2 ∷ 0 ∷ 0 ∷ 0 ∷ 0 ∷ 0 ∷ []) ∷
    ((0 ∷ 0 ∷ 20 ∷ 8 ∷ 0 ∷ 0 ∷ 0 ∷ [], ([]), (◌≔◌ 2 (node 12 1 ∷ []) ∷ ◌≔◌ 1 (node 12 1 ∷ []) ∷ ◌≔◌ 0 (node 13 0 ∷ node 17 3 ∷ node 17 4 ∷ []) ∷ ◌≔◌ 4 (node 15 0 ∷ node 17 6 ∷ node 17 7 ∷ []) ∷ ◌≔◌ 7 (node 18 5 ∷ []) ∷ ◌≔◌ 6 (node 12 31 ∷ []) ∷ ◌≔◌ 3 (node 12 1 ∷ []) ∷ [])), 0 ∷ 1 ∷ 2 ∷ 0 ∷ 0 ∷ 0 ∷ 0 ∷ 0 ∷ []) ∷
    ((0 ∷ 0 ∷ 25 ∷ 8 ∷ 0 ∷ 0 ∷ 0 ∷ [], ([]), (◌≔◌ 1 (node 13 0 ∷ node 17 2 ∷ node 17 3 ∷ []) ∷ ◌≔◌ 3 (node 12 1 ∷ []) ∷ ◌≔◌ 2 (node 18 4 ∷ []) ∷ ◌≔◌ 7 (node 12 1 ∷ []) ∷ ◌≔◌ 6 (node 12 1 ∷ []) ∷ ◌≔◌ 5 (node 18 4 ∷ []) ∷ ◌≔◌ 0 (node 12 1 ∷ []) ∷ [])), 0 ∷ 1 ∷ 1 ∷ 1 ∷ 0 ∷ 5 ∷ 6 ∷ 7 ∷ []) ∷
    ((0 ∷ 0 ∷ 33 ∷ 12 ∷ 0 ∷ 0 ∷ 0 ∷ [], ([]), (◌≔◌ 1 (node 13 0 ∷ node 17 2 ∷ node 17 3 ∷ []) ∷ ◌≔◌ 3 (node 12 1 ∷ []) ∷ ◌≔◌ 2 (node 13 0 ∷ node 17 5 ∷ node 17 6 ∷ []) ∷ ◌≔◌ 6 (node 18 4 ∷ []) ∷ ◌≔◌ 5 (node 18 4 ∷ []) ∷ ◌≔◌ 9 (node 12 1 ∷ []) ∷ ◌≔◌ 8 (node 12 1 ∷ []) ∷ ◌≔◌ 7 (node 13 0 ∷ node 17 10 ∷ node 17 11 ∷ []) ∷ ◌≔◌ 11 (node 18 4 ∷ []) ∷ ◌≔◌ 10 (node 18 4 ∷ []) ∷ ◌≔◌ 0 (node 12 1 ∷ []) ∷ [])), 0 ∷ 1 ∷ 1 ∷ 1 ∷ 0 ∷ 1 ∷ 1 ∷ 7 ∷ 8 ∷ 9 ∷ 7 ∷ 7 ∷ []) ∷
    ((0 ∷ 0 ∷ 32 ∷ 12 ∷ 0 ∷ 0 ∷ 0 ∷ [], ([]), (◌≔◌ 3 (node 12 1 ∷ []) ∷ ◌≔◌ 2 (node 12 1 ∷ []) ∷ ◌≔◌ 1 (node 13 0 ∷ node 17 4 ∷ node 17 5 ∷ []) ∷ ◌≔◌ 8 (node 12 1 ∷ []) ∷ ◌≔◌ 7 (node 12 1 ∷ []) ∷ ◌≔◌ 6 (node 17 4 ∷ []) ∷ ◌≔◌ 5 (node 17 0 ∷ []) ∷ ◌≔◌ 0 (node 13 0 ∷ node 17 9 ∷ node 17 10 ∷ []) ∷ ◌≔◌ 10 (node 18 11 ∷ []) ∷ ◌≔◌ 9 (node 12 1 ∷ []) ∷ [])), 0 ∷ 1 ∷ 2 ∷ 3 ∷ 1 ∷ 1 ∷ 6 ∷ 7 ∷ 8 ∷ 0 ∷ 0 ∷ 0 ∷ []) ∷
    ((0 ∷ 0 ∷ 29 ∷ 7 ∷ 0 ∷ 0 ∷ 0 ∷ [], ([]), (◌≔◌ 0 (node 12 1 ∷ []) ∷ ◌≔◌ 1 (node 15 0 ∷ node 17 5 ∷ node 17 6 ∷ []) ∷ ◌≔◌ 6 (node 17 3 ∷ []) ∷ ◌≔◌ 5 (node 12 31 ∷ []) ∷ ◌≔◌ 3 (node 18 2 ∷ []) ∷ [])), 0 ∷ 1 ∷ 0 ∷ 1 ∷ 4 ∷ 1 ∷ 1 ∷ []) ∷
    ((0 ∷ 0 ∷ 29 ∷ 7 ∷ 0 ∷ 0 ∷ 0 ∷ [], ([]), (◌≔◌ 0 (node 12 1 ∷ []) ∷ ◌≔◌ 1 (node 13 0 ∷ node 17 5 ∷ node 17 6 ∷ []) ∷ ◌≔◌ 6 (node 17 3 ∷ []) ∷ ◌≔◌ 5 (node 17 3 ∷ []) ∷ ◌≔◌ 3 (node 18 2 ∷ []) ∷ [])), 0 ∷ 1 ∷ 0 ∷ 1 ∷ 4 ∷ 1 ∷ 1 ∷ []) ∷
    ((0 ∷ 0 ∷ 25 ∷ 5 ∷ 0 ∷ 0 ∷ 0 ∷ [], ([]), (◌≔◌ 0 (node 12 1 ∷ []) ∷ ◌≔◌ 1 (node 16 2 ∷ node 12 1 ∷ node 17 3 ∷ []) ∷ ◌≔◌ 3 (node 18 2 ∷ []) ∷ [])), 0 ∷ 1 ∷ 0 ∷ 1 ∷ 4 ∷ []) ∷
    ((0 ∷ 0 ∷ 29 ∷ 7 ∷ 0 ∷ 0 ∷ 0 ∷ [], ([]), (◌≔◌ 0 (node 12 1 ∷ []) ∷ ◌≔◌ 1 (node 15 0 ∷ node 17 5 ∷ node 17 6 ∷ []) ∷ ◌≔◌ 6 (node 17 4 ∷ []) ∷ ◌≔◌ 5 (node 12 31 ∷ []) ∷ ◌≔◌ 3 (node 18 2 ∷ []) ∷ [])), 0 ∷ 1 ∷ 0 ∷ 3 ∷ 1 ∷ 1 ∷ 1 ∷ []) ∷
    ((0 ∷ 0 ∷ 35 ∷ 7 ∷ 0 ∷ 0 ∷ 0 ∷ [], ([]), (◌≔◌ 0 (node 12 1 ∷ []) ∷ ◌≔◌ 1 (node 15 0 ∷ node 17 5 ∷ node 17 6 ∷ []) ∷ ◌≔◌ 6 (node 17 3 ∷ []) ∷ ◌≔◌ 5 (node 12 31 ∷ []) ∷ ◌≔◌ 4 (node 17 3 ∷ []) ∷ ◌≔◌ 3 (node 18 2 ∷ []) ∷ [])), 0 ∷ 1 ∷ 0 ∷ 1 ∷ 4 ∷ 1 ∷ 1 ∷ []) ∷
    ((0 ∷ 0 ∷ 29 ∷ 7 ∷ 0 ∷ 0 ∷ 0 ∷ [], ([]), (◌≔◌ 0 (node 12 1 ∷ []) ∷ ◌≔◌ 3 (node 18 2 ∷ []) ∷ ◌≔◌ 1 (node 15 0 ∷ node 17 5 ∷ node 17 6 ∷ []) ∷ ◌≔◌ 6 (node 18 2 ∷ []) ∷ ◌≔◌ 5 (node 12 31 ∷ []) ∷ [])), 0 ∷ 1 ∷ 0 ∷ 3 ∷ 4 ∷ 1 ∷ 1 ∷ []) ∷
    ((0 ∷ 0 ∷ 25 ∷ 5 ∷ 0 ∷ 0 ∷ 0 ∷ [], ([]), (◌≔◌ 0 (node 12 1 ∷ []) ∷ ◌≔◌ 3 (node 18 2 ∷ []) ∷ ◌≔◌ 1 (node 16 2 ∷ node 18 2 ∷ node 17 4 ∷ []) ∷ [])), 0 ∷ 1 ∷ 0 ∷ 3 ∷ 1 ∷ []) ∷
    ((15 ∷ 0 ∷ 17 ∷ 5 ∷ 1 ∷ 3 ∷ 0 ∷ [], (node 17 1 ∷ node 16 2 ∷ node 17 1 ∷ node 18 2 ∷ []), (◌≔◌ 0 (node 12 1 ∷ []) ∷ ◌≔◌ 3 (node 17 1 ∷ []) ∷ [])), 0 ∷ 1 ∷ 0 ∷ 3 ∷ 4 ∷ []) ∷
    ((0 ∷ 0 ∷ 25 ∷ 5 ∷ 0 ∷ 0 ∷ 0 ∷ [], ([]), (◌≔◌ 0 (node 12 1 ∷ []) ∷ ◌≔◌ 3 (node 17 1 ∷ []) ∷ ◌≔◌ 1 (node 16 2 ∷ node 12 1 ∷ node 18 2 ∷ []) ∷ [])), 0 ∷ 1 ∷ 0 ∷ 3 ∷ 4 ∷ []) ∷
    ((0 ∷ 0 ∷ 9 ∷ 3 ∷ 0 ∷ 0 ∷ 0 ∷ [], ([]), (◌≔◌ 2 (node 12 1 ∷ []) ∷ [])), 0 ∷ 0 ∷ 2 ∷ []) ∷
    ((15 ∷ 0 ∷ 13 ∷ 5 ∷ 1 ∷ 1 ∷ 0 ∷ [], (node 12 1 ∷ node 12 30 ∷ []), (◌≔◌ 3 (node 12 1 ∷ []) ∷ ◌≔◌ 0 (node 12 1 ∷ []) ∷ ◌≔◌ 1 (node 12 30 ∷ []) ∷ ◌≔◌ 4 (node 12 1 ∷ []) ∷ [])), 0 ∷ 1 ∷ 2 ∷ 3 ∷ 4 ∷ []) ∷
    ((15 ∷ 0 ∷ 19 ∷ 7 ∷ 1 ∷ 1 ∷ 0 ∷ [], (node 12 1 ∷ node 18 5 ∷ []), (◌≔◌ 2 (node 12 1 ∷ []) ∷ ◌≔◌ 1 (node 13 0 ∷ node 17 3 ∷ node 17 4 ∷ []) ∷ ◌≔◌ 4 (node 12 1 ∷ []) ∷ ◌≔◌ 3 (node 18 5 ∷ []) ∷ ◌≔◌ 6 (node 12 1 ∷ []) ∷ [])), 0 ∷ 1 ∷ 2 ∷ 1 ∷ 1 ∷ 0 ∷ 6 ∷ []) ∷
    ((15 ∷ 0 ∷ 19 ∷ 7 ∷ 3 ∷ 1 ∷ 0 ∷ [], (node 15 0 ∷ node 12 30 ∷ node 17 4 ∷ node 12 32 ∷ []), (◌≔◌ 1 (node 15 0 ∷ node 17 2 ∷ node 17 3 ∷ []) ∷ ◌≔◌ 3 (node 11 13 ∷ []) ∷ ◌≔◌ 2 (node 12 30 ∷ []) ∷ ◌≔◌ 0 (node 15 0 ∷ node 17 5 ∷ node 17 6 ∷ []) ∷ ◌≔◌ 6 (node 17 4 ∷ []) ∷ ◌≔◌ 5 (node 12 30 ∷ []) ∷ [])), 0 ∷ 1 ∷ 1 ∷ 1 ∷ 0 ∷ 0 ∷ 0 ∷ []) ∷
    ((15 ∷ 0 ∷ 12 ∷ 4 ∷ 3 ∷ 3 ∷ 0 ∷ [], (node 16 2 ∷ node 17 3 ∷ node 17 3 ∷ node 16 2 ∷ node 18 0 ∷ node 18 0 ∷ []), (◌≔◌ 2 (node 16 2 ∷ node 11 11 ∷ node 11 11 ∷ []) ∷ ◌≔◌ 1 (node 16 2 ∷ node 17 3 ∷ node 17 3 ∷ []) ∷ [])), 0 ∷ 1 ∷ 2 ∷ 1 ∷ []) ∷
    ((0 ∷ 0 ∷ 21 ∷ 7 ∷ 0 ∷ 0 ∷ 1 ∷ [], ([]), (◌≔◌ 3 (node 12 1 ∷ []) ∷ ◌≔◌ 2 (node 12 1 ∷ []) ∷ ◌≔◌ 1 (node 13 0 ∷ node 17 4 ∷ node 17 5 ∷ []) ∷ ◌≔◌ 6 (node 12 1 ∷ []) ∷ ◌≔◌ 4 (node 12 1 ∷ []) ∷ ◌≔◌ 5 (node 17 0 ∷ []) ∷ ◌≔◌ 0 (node 12 1 ∷ []) ∷ [])), 0 ∷ 1 ∷ 2 ∷ 3 ∷ 1 ∷ 1 ∷ 6 ∷ []) ∷
    []
unfolding level_row parts_of row_of find_row table plan_of declarations bindings_in end_from entries_end places_of part_line is_plain names plain_entries plain_plan lookup view occurs is_monotype substitute rename front_names after_front can_unify term_view lambda_of find links any_solved write_out_by write_out solution_nodes board_nodes find_var before perform operations instantiate_from subtype open_names signature_from insert push_vars check_patterns check_arms infer_app run_from check_type result_of run_of judge put lower level_made level_after levels_after none_above
by_first = refl

pub by-strict : map (λ q. level_row strict_call q.0 q.1) plans ≡
    ((39 ∷ 0 ∷ 11 ∷ 6 ∷ 0 ∷ 0 ∷ 0 ∷ [], ([]), (◌≔◌ 2 (node 12 1 ∷ []) ∷ ◌≔◌ 1 (node 12 1 ∷ []) ∷ ◌≔◌ 0 (node 13 0 ∷ node 17 3 ∷ node 17 4 ∷ []) ∷ [])), 0 ∷ 1 ∷ 2 ∷ 0 ∷ 0 ∷ 0 ∷ []) ∷
    ((39 ∷ 0 ∷ 9 ∷ 5 ∷ 0 ∷ 0 ∷ 0 ∷ [], ([]), (◌≔◌ 1 (node 17 0 ∷ []) ∷ ◌≔◌ 0 (node 13 0 ∷ node 17 2 ∷ node 17 3 ∷ []) ∷ [])), 0 ∷ 1 ∷ 0 ∷ 0 ∷ 0 ∷ []) ∷
    ((17 ∷ 0 ∷ 11 ∷ 6 ∷ 4 ∷ 4 ∷ 0 ∷ [], (node 16 2 ∷ node 18 5 ∷ node 14 12 ∷ node 11 12 ∷ []), (◌≔◌ 2 (node 12 1 ∷ []) ∷ ◌≔◌ 1 (node 12 1 ∷ []) ∷ ◌≔◌ 0 (node 13 0 ∷ node 17 3 ∷ node 17 4 ∷ []) ∷ [])), 0 ∷ 1 ∷ 2 ∷ 0 ∷ 0 ∷ 0 ∷ []) ∷
    ((39 ∷ 0 ∷ 11 ∷ 6 ∷ 0 ∷ 0 ∷ 0 ∷ [], ([]), (◌≔◌ 2 (node 12 1 ∷ []) ∷ ◌≔◌ 1 (node 12 1 ∷ []) ∷ ◌≔◌ 0 (node 13 0 ∷ node 17 3 ∷ node 17 4 ∷ []) ∷ [])), 0 ∷ 1 ∷ 2 ∷ 0 ∷ 0 ∷ 0 ∷ []) ∷
    ((21 ∷ 0 ∷ 10 ∷ 6 ∷ 0 ∷ 0 ∷ 0 ∷ [], ([]), (◌≔◌ 2 (node 12 1 ∷ []) ∷ ◌≔◌ 1 (node 12 1 ∷ []) ∷ ◌≔◌ 0 (node 13 0 ∷ node 17 3 ∷ node 17 4 ∷ []) ∷ [])), 0 ∷ 1 ∷ 2 ∷ 0 ∷ 0 ∷ 0 ∷ []) ∷
    ((21 ∷ 0 ∷ 9 ∷ 5 ∷ 0 ∷ 0 ∷ 0 ∷ [], ([]), (◌≔◌ 2 (node 12 1 ∷ []) ∷ ◌≔◌ 1 (node 12 1 ∷ []) ∷ ◌≔◌ 0 (node 13 0 ∷ node 17 3 ∷ node 17 4 ∷ []) ∷ [])), 0 ∷ 1 ∷ 2 ∷ 0 ∷ 0 ∷ []) ∷
    ((0 ∷ 0 ∷ 12 ∷ 4 ∷ 0 ∷ 0 ∷ 0 ∷ [], ([]), (◌≔◌ 3 (node 12 1 ∷ []) ∷ ◌≔◌ 2 (node 12 1 ∷ []) ∷ ◌≔◌ 1 (node 18 0 ∷ []) ∷ [])), 0 ∷ 1 ∷ 2 ∷ 3 ∷ []) ∷
    ((0 ∷ 0 ∷ 16 ∷ 6 ∷ 0 ∷ 0 ∷ 0 ∷ [], ([]), (◌≔◌ 3 (node 12 1 ∷ []) ∷ ◌≔◌ 2 (node 12 1 ∷ []) ∷ ◌≔◌ 1 (node 13 0 ∷ node 17 4 ∷ node 17 5 ∷ []) ∷ ◌≔◌ 5 (node 18 0 ∷ []) ∷ ◌≔◌ 4 (node 12 1 ∷ []) ∷ [])), 0 ∷ 1 ∷ 2 ∷ 3 ∷ 1 ∷ 1 ∷ []) ∷
    ((0 ∷ 0 ∷ 16 ∷ 6 ∷ 0 ∷ 0 ∷ 0 ∷ [], ([]), (◌≔◌ 3 (node 12 1 ∷ []) ∷ ◌≔◌ 2 (node 12 1 ∷ []) ∷ ◌≔◌ 1 (node 13 0 ∷ node 17 4 ∷ node 17 5 ∷ []) ∷ ◌≔◌ 5 (node 16 2 ∷ node 18 0 ∷ node 18 0 ∷ []) ∷ ◌≔◌ 4 (node 12 1 ∷ []) ∷ [])), 0 ∷ 1 ∷ 2 ∷ 3 ∷ 1 ∷ 1 ∷ []) ∷
    ((39 ∷ 0 ∷ 12 ∷ 7 ∷ 0 ∷ 0 ∷ 0 ∷ [], ([]), (◌≔◌ 3 (node 12 1 ∷ []) ∷ ◌≔◌ 2 (node 12 1 ∷ []) ∷ ◌≔◌ 1 (node 13 0 ∷ node 17 4 ∷ node 17 5 ∷ []) ∷ [])), 0 ∷ 1 ∷ 2 ∷ 3 ∷ 1 ∷ 1 ∷ 0 ∷ []) ∷
    ((39 ∷ 0 ∷ 12 ∷ 7 ∷ 0 ∷ 0 ∷ 0 ∷ [], ([]), (◌≔◌ 3 (node 12 1 ∷ []) ∷ ◌≔◌ 2 (node 12 1 ∷ []) ∷ ◌≔◌ 1 (node 13 0 ∷ node 17 4 ∷ node 17 5 ∷ []) ∷ [])), 0 ∷ 1 ∷ 2 ∷ 3 ∷ 1 ∷ 1 ∷ 0 ∷ []) ∷
    ((39 ∷ 0 ∷ 12 ∷ 8 ∷ 0 ∷ 0 ∷ 0 ∷ [], ([]), (◌≔◌ 2 (node 12 1 ∷ []) ∷ ◌≔◌ 1 (node 12 1 ∷ []) ∷ ◌≔◌ 0 (node 13 0 ∷ node 17 3 ∷ node 17 4 ∷ []) ∷ ◌≔◌ 4 (node 13 0 ∷ node 17 6 ∷ node 17 7 ∷ []) ∷ [])), 0 ∷ 1 ∷ 2 ∷ 0 ∷ 0 ∷ 0 ∷ 0 ∷ 0 ∷ []) ∷
    ((39 ∷ 0 ∷ 12 ∷ 8 ∷ 0 ∷ 0 ∷ 0 ∷ [], ([]), (◌≔◌ 2 (node 12 1 ∷ []) ∷ ◌≔◌ 1 (node 12 1 ∷ []) ∷ ◌≔◌ 0 (node 13 0 ∷ node 17 3 ∷ node 17 4 ∷ []) ∷ ◌≔◌ 4 (node 15 0 ∷ node 17 6 ∷ node 17 7 ∷ []) ∷ [])), 0 ∷ 1 ∷ 2 ∷ 0 ∷ 0 ∷ 0 ∷ 0 ∷ 0 ∷ []) ∷
    ((39 ∷ 0 ∷ 7 ∷ 5 ∷ 0 ∷ 0 ∷ 0 ∷ [], ([]), (◌≔◌ 1 (node 13 0 ∷ node 17 2 ∷ node 17 3 ∷ []) ∷ ◌≔◌ 3 (node 12 1 ∷ []) ∷ [])), 0 ∷ 1 ∷ 1 ∷ 1 ∷ 0 ∷ []) ∷
    ((39 ∷ 0 ∷ 8 ∷ 7 ∷ 0 ∷ 0 ∷ 0 ∷ [], ([]), (◌≔◌ 1 (node 13 0 ∷ node 17 2 ∷ node 17 3 ∷ []) ∷ ◌≔◌ 3 (node 12 1 ∷ []) ∷ ◌≔◌ 2 (node 13 0 ∷ node 17 5 ∷ node 17 6 ∷ []) ∷ [])), 0 ∷ 1 ∷ 1 ∷ 1 ∷ 0 ∷ 1 ∷ 1 ∷ []) ∷
    ((39 ∷ 0 ∷ 27 ∷ 12 ∷ 0 ∷ 0 ∷ 0 ∷ [], ([]), (◌≔◌ 3 (node 12 1 ∷ []) ∷ ◌≔◌ 2 (node 12 1 ∷ []) ∷ ◌≔◌ 1 (node 13 0 ∷ node 17 4 ∷ node 17 5 ∷ []) ∷ ◌≔◌ 8 (node 12 1 ∷ []) ∷ ◌≔◌ 7 (node 12 1 ∷ []) ∷ ◌≔◌ 6 (node 17 4 ∷ []) ∷ ◌≔◌ 5 (node 17 0 ∷ []) ∷ ◌≔◌ 0 (node 13 0 ∷ node 17 9 ∷ node 17 10 ∷ []) ∷ [])), 0 ∷ 1 ∷ 2 ∷ 3 ∷ 1 ∷ 1 ∷ 6 ∷ 7 ∷ 8 ∷ 0 ∷ 0 ∷ 0 ∷ []) ∷
    ((39 ∷ 0 ∷ 21 ∷ 7 ∷ 0 ∷ 0 ∷ 0 ∷ [], ([]), (◌≔◌ 0 (node 12 1 ∷ []) ∷ ◌≔◌ 1 (node 15 0 ∷ node 17 5 ∷ node 17 6 ∷ []) ∷ ◌≔◌ 6 (node 17 3 ∷ []) ∷ ◌≔◌ 5 (node 12 31 ∷ []) ∷ [])), 0 ∷ 1 ∷ 0 ∷ 1 ∷ 4 ∷ 1 ∷ 1 ∷ []) ∷
    ((39 ∷ 0 ∷ 21 ∷ 7 ∷ 0 ∷ 0 ∷ 0 ∷ [], ([]), (◌≔◌ 0 (node 12 1 ∷ []) ∷ ◌≔◌ 1 (node 13 0 ∷ node 17 5 ∷ node 17 6 ∷ []) ∷ ◌≔◌ 6 (node 17 3 ∷ []) ∷ ◌≔◌ 5 (node 17 3 ∷ []) ∷ [])), 0 ∷ 1 ∷ 0 ∷ 1 ∷ 4 ∷ 1 ∷ 1 ∷ []) ∷
    ((39 ∷ 0 ∷ 17 ∷ 5 ∷ 0 ∷ 0 ∷ 0 ∷ [], ([]), (◌≔◌ 0 (node 12 1 ∷ []) ∷ ◌≔◌ 1 (node 16 2 ∷ node 12 1 ∷ node 17 3 ∷ []) ∷ [])), 0 ∷ 1 ∷ 0 ∷ 1 ∷ 4 ∷ []) ∷
    ((0 ∷ 0 ∷ 29 ∷ 7 ∷ 0 ∷ 0 ∷ 0 ∷ [], ([]), (◌≔◌ 0 (node 12 1 ∷ []) ∷ ◌≔◌ 1 (node 15 0 ∷ node 17 5 ∷ node 17 6 ∷ []) ∷ ◌≔◌ 6 (node 17 4 ∷ []) ∷ ◌≔◌ 5 (node 12 31 ∷ []) ∷ ◌≔◌ 3 (node 18 2 ∷ []) ∷ [])), 0 ∷ 1 ∷ 0 ∷ 3 ∷ 1 ∷ 1 ∷ 1 ∷ []) ∷
    ((39 ∷ 0 ∷ 27 ∷ 7 ∷ 0 ∷ 0 ∷ 0 ∷ [], ([]), (◌≔◌ 0 (node 12 1 ∷ []) ∷ ◌≔◌ 1 (node 15 0 ∷ node 17 5 ∷ node 17 6 ∷ []) ∷ ◌≔◌ 6 (node 17 3 ∷ []) ∷ ◌≔◌ 5 (node 12 31 ∷ []) ∷ ◌≔◌ 4 (node 17 3 ∷ []) ∷ [])), 0 ∷ 1 ∷ 0 ∷ 1 ∷ 4 ∷ 1 ∷ 1 ∷ []) ∷
    ((39 ∷ 0 ∷ 18 ∷ 7 ∷ 0 ∷ 0 ∷ 0 ∷ [], ([]), (◌≔◌ 0 (node 12 1 ∷ []) ∷ ◌≔◌ 3 (node 18 2 ∷ []) ∷ ◌≔◌ 1 (node 15 0 ∷ node 17 5 ∷ node 17 6 ∷ []) ∷ [])), 0 ∷ 1 ∷ 0 ∷ 3 ∷ 4 ∷ 1 ∷ 1 ∷ []) ∷
    ((39 ∷ 0 ∷ 17 ∷ 5 ∷ 0 ∷ 0 ∷ 0 ∷ [], ([]), (◌≔◌ 0 (node 12 1 ∷ []) ∷ ◌≔◌ 3 (node 18 2 ∷ []) ∷ [])), 0 ∷ 1 ∷ 0 ∷ 3 ∷ 4 ∷ []) ∷
    ((15 ∷ 0 ∷ 17 ∷ 5 ∷ 1 ∷ 3 ∷ 0 ∷ [], (node 17 1 ∷ node 16 2 ∷ node 17 1 ∷ node 18 2 ∷ []), (◌≔◌ 0 (node 12 1 ∷ []) ∷ ◌≔◌ 3 (node 17 1 ∷ []) ∷ [])), 0 ∷ 1 ∷ 0 ∷ 3 ∷ 4 ∷ []) ∷
    ((39 ∷ 0 ∷ 17 ∷ 5 ∷ 0 ∷ 0 ∷ 0 ∷ [], ([]), (◌≔◌ 0 (node 12 1 ∷ []) ∷ ◌≔◌ 3 (node 17 1 ∷ []) ∷ [])), 0 ∷ 1 ∷ 0 ∷ 3 ∷ 4 ∷ []) ∷
    ((0 ∷ 0 ∷ 9 ∷ 3 ∷ 0 ∷ 0 ∷ 0 ∷ [], ([]), (◌≔◌ 2 (node 12 1 ∷ []) ∷ [])), 0 ∷ 0 ∷ 2 ∷ []) ∷
    ((15 ∷ 0 ∷ 13 ∷ 5 ∷ 1 ∷ 1 ∷ 0 ∷ [], (node 12 1 ∷ node 12 30 ∷ []), (◌≔◌ 3 (node 12 1 ∷ []) ∷ ◌≔◌ 0 (node 12 1 ∷ []) ∷ ◌≔◌ 1 (node 12 30 ∷ []) ∷ ◌≔◌ 4 (node 12 1 ∷ []) ∷ [])), 0 ∷ 1 ∷ 2 ∷ 3 ∷ 4 ∷ []) ∷
    ((39 ∷ 0 ∷ 10 ∷ 6 ∷ 0 ∷ 0 ∷ 0 ∷ [], ([]), (◌≔◌ 2 (node 12 1 ∷ []) ∷ ◌≔◌ 1 (node 13 0 ∷ node 17 3 ∷ node 17 4 ∷ []) ∷ ◌≔◌ 4 (node 12 1 ∷ []) ∷ [])), 0 ∷ 1 ∷ 2 ∷ 1 ∷ 1 ∷ 0 ∷ []) ∷
    ((15 ∷ 0 ∷ 19 ∷ 7 ∷ 3 ∷ 1 ∷ 0 ∷ [], (node 15 0 ∷ node 12 30 ∷ node 17 4 ∷ node 12 32 ∷ []), (◌≔◌ 1 (node 15 0 ∷ node 17 2 ∷ node 17 3 ∷ []) ∷ ◌≔◌ 3 (node 11 13 ∷ []) ∷ ◌≔◌ 2 (node 12 30 ∷ []) ∷ ◌≔◌ 0 (node 15 0 ∷ node 17 5 ∷ node 17 6 ∷ []) ∷ ◌≔◌ 6 (node 17 4 ∷ []) ∷ ◌≔◌ 5 (node 12 30 ∷ []) ∷ [])), 0 ∷ 1 ∷ 1 ∷ 1 ∷ 0 ∷ 0 ∷ 0 ∷ []) ∷
    ((15 ∷ 0 ∷ 12 ∷ 4 ∷ 3 ∷ 3 ∷ 0 ∷ [], (node 16 2 ∷ node 17 3 ∷ node 17 3 ∷ node 16 2 ∷ node 18 0 ∷ node 18 0 ∷ []), (◌≔◌ 2 (node 16 2 ∷ node 11 11 ∷ node 11 11 ∷ []) ∷ ◌≔◌ 1 (node 16 2 ∷ node 17 3 ∷ node 17 3 ∷ []) ∷ [])), 0 ∷ 1 ∷ 2 ∷ 1 ∷ []) ∷
    ((0 ∷ 0 ∷ 21 ∷ 7 ∷ 0 ∷ 0 ∷ 1 ∷ [], ([]), (◌≔◌ 3 (node 12 1 ∷ []) ∷ ◌≔◌ 2 (node 12 1 ∷ []) ∷ ◌≔◌ 1 (node 13 0 ∷ node 17 4 ∷ node 17 5 ∷ []) ∷ ◌≔◌ 6 (node 12 1 ∷ []) ∷ ◌≔◌ 4 (node 12 1 ∷ []) ∷ ◌≔◌ 5 (node 17 0 ∷ []) ∷ ◌≔◌ 0 (node 12 1 ∷ []) ∷ [])), 0 ∷ 1 ∷ 2 ∷ 3 ∷ 1 ∷ 1 ∷ 6 ∷ []) ∷
    []
unfolding level_row parts_of row_of find_row table plan_of declarations bindings_in end_from entries_end places_of part_line is_plain names plain_entries plain_plan lookup view occurs is_monotype substitute rename front_names after_front can_unify term_view lambda_of find links any_solved write_out_by write_out solution_nodes board_nodes find_var before perform operations instantiate_from subtype open_names signature_from insert push_vars check_patterns check_arms infer_app run_from check_type result_of run_of judge put lower level_made level_after levels_after none_above
by-strict = refl

-- refused in the midst of a rule: call, fresh numbers, nodes of solutions
abbrev cut : List (Mode × ℕ × ℕ × List Triple)
cut =
    (first_call, 4, 4096, (l 3 0 0 ∷ l 13 0 0 ∷ l 12 1 0 ∷ l 14 11 0 ∷ l 11 11 0 ∷ l 4 0 0 ∷ l 27 0 0 ∷ l 22 7 0 ∷ [])) ∷  -- a Case with no arm as Int → ∀n11. n11
    (strict_call, 4, 4096, (l 3 0 0 ∷ l 13 0 0 ∷ l 12 1 0 ∷ l 14 11 0 ∷ l 11 11 0 ∷ l 4 0 0 ∷ l 27 0 0 ∷ l 22 7 0 ∷ [])) ∷  -- a Case with no arm as Int → ∀n11. n11
    (first_call, 5, 4096, (l 3 0 0 ∷ l 13 0 0 ∷ l 12 1 0 ∷ l 14 11 0 ∷ l 11 11 0 ∷ l 4 0 0 ∷ l 27 0 0 ∷ l 22 7 0 ∷ [])) ∷  -- a Case with no arm as Int → ∀n11. n11
    (strict_call, 5, 4096, (l 3 0 0 ∷ l 13 0 0 ∷ l 12 1 0 ∷ l 14 11 0 ∷ l 11 11 0 ∷ l 4 0 0 ∷ l 27 0 0 ∷ l 22 7 0 ∷ [])) ∷  -- a Case with no arm as Int → ∀n11. n11
    (first_call, 1000, 2, (l 3 0 0 ∷ l 13 0 0 ∷ l 12 1 0 ∷ l 14 11 0 ∷ l 11 11 0 ∷ l 4 0 0 ∷ l 27 0 0 ∷ l 22 7 0 ∷ [])) ∷  -- a Case with no arm as Int → ∀n11. n11
    (strict_call, 1000, 2, (l 3 0 0 ∷ l 13 0 0 ∷ l 12 1 0 ∷ l 14 11 0 ∷ l 11 11 0 ∷ l 4 0 0 ∷ l 27 0 0 ∷ l 22 7 0 ∷ [])) ∷  -- a Case with no arm as Int → ∀n11. n11
    (first_call, 1000, 5, (l 3 0 0 ∷ l 13 0 0 ∷ l 12 1 0 ∷ l 14 11 0 ∷ l 11 11 0 ∷ l 4 0 0 ∷ l 27 0 0 ∷ l 22 7 0 ∷ [])) ∷  -- a Case with no arm as Int → ∀n11. n11
    (strict_call, 1000, 5, (l 3 0 0 ∷ l 13 0 0 ∷ l 12 1 0 ∷ l 14 11 0 ∷ l 11 11 0 ∷ l 4 0 0 ∷ l 27 0 0 ∷ l 22 7 0 ∷ [])) ∷  -- a Case with no arm as Int → ∀n11. n11
    (first_call, 1000, 6, (l 3 0 0 ∷ l 13 0 0 ∷ l 12 1 0 ∷ l 14 11 0 ∷ l 11 11 0 ∷ l 4 0 0 ∷ l 27 0 0 ∷ l 22 7 0 ∷ [])) ∷  -- a Case with no arm as Int → ∀n11. n11
    (strict_call, 1000, 6, (l 3 0 0 ∷ l 13 0 0 ∷ l 12 1 0 ∷ l 14 11 0 ∷ l 11 11 0 ∷ l 4 0 0 ∷ l 27 0 0 ∷ l 22 7 0 ∷ [])) ∷  -- a Case with no arm as Int → ∀n11. n11
    (first_call, 5, 4096, (l 3 0 0 ∷ l 14 10 0 ∷ l 13 0 0 ∷ l 12 1 0 ∷ l 11 10 0 ∷ l 4 0 0 ∷ l 27 0 0 ∷ l 22 7 0 ∷ [])) ∷  -- for a part of the unknown
    (strict_call, 5, 4096, (l 3 0 0 ∷ l 14 10 0 ∷ l 13 0 0 ∷ l 12 1 0 ∷ l 11 10 0 ∷ l 4 0 0 ∷ l 27 0 0 ∷ l 22 7 0 ∷ [])) ∷  -- for a part of the unknown
    (first_call, 1000, 2, (l 3 0 0 ∷ l 14 10 0 ∷ l 13 0 0 ∷ l 12 1 0 ∷ l 11 10 0 ∷ l 4 0 0 ∷ l 27 0 0 ∷ l 22 7 0 ∷ [])) ∷  -- for a part of the unknown
    (strict_call, 1000, 2, (l 3 0 0 ∷ l 14 10 0 ∷ l 13 0 0 ∷ l 12 1 0 ∷ l 11 10 0 ∷ l 4 0 0 ∷ l 27 0 0 ∷ l 22 7 0 ∷ [])) ∷  -- for a part of the unknown
    (first_call, 1000, 5, (l 3 0 0 ∷ l 14 10 0 ∷ l 13 0 0 ∷ l 12 1 0 ∷ l 11 10 0 ∷ l 4 0 0 ∷ l 27 0 0 ∷ l 22 7 0 ∷ [])) ∷  -- for a part of the unknown
    (strict_call, 1000, 5, (l 3 0 0 ∷ l 14 10 0 ∷ l 13 0 0 ∷ l 12 1 0 ∷ l 11 10 0 ∷ l 4 0 0 ∷ l 27 0 0 ∷ l 22 7 0 ∷ [])) ∷  -- for a part of the unknown
    (first_call, 1000, 6, (l 3 0 0 ∷ l 14 10 0 ∷ l 13 0 0 ∷ l 12 1 0 ∷ l 11 10 0 ∷ l 4 0 0 ∷ l 27 0 0 ∷ l 22 7 0 ∷ [])) ∷  -- for a part of the unknown
    (strict_call, 1000, 6, (l 3 0 0 ∷ l 14 10 0 ∷ l 13 0 0 ∷ l 12 1 0 ∷ l 11 10 0 ∷ l 4 0 0 ∷ l 27 0 0 ∷ l 22 7 0 ∷ [])) ∷  -- for a part of the unknown
    (first_call, 6, 4096, (l 3 0 0 ∷ l 13 0 0 ∷ l 12 1 0 ∷ l 14 11 0 ∷ l 13 0 0 ∷ l 11 11 0 ∷ l 11 11 0 ∷ l 4 0 0 ∷ l 27 0 0 ∷ l 22 7 0 ∷ [])) ∷  -- a part of a part, of an Arrow
    (strict_call, 6, 4096, (l 3 0 0 ∷ l 13 0 0 ∷ l 12 1 0 ∷ l 14 11 0 ∷ l 13 0 0 ∷ l 11 11 0 ∷ l 11 11 0 ∷ l 4 0 0 ∷ l 27 0 0 ∷ l 22 7 0 ∷ [])) ∷  -- a part of a part, of an Arrow
    (first_call, 7, 4096, (l 3 0 0 ∷ l 13 0 0 ∷ l 12 1 0 ∷ l 14 11 0 ∷ l 13 0 0 ∷ l 11 11 0 ∷ l 11 11 0 ∷ l 4 0 0 ∷ l 27 0 0 ∷ l 22 7 0 ∷ [])) ∷  -- a part of a part, of an Arrow
    (strict_call, 7, 4096, (l 3 0 0 ∷ l 13 0 0 ∷ l 12 1 0 ∷ l 14 11 0 ∷ l 13 0 0 ∷ l 11 11 0 ∷ l 11 11 0 ∷ l 4 0 0 ∷ l 27 0 0 ∷ l 22 7 0 ∷ [])) ∷  -- a part of a part, of an Arrow
    (first_call, 1000, 5, (l 3 0 0 ∷ l 13 0 0 ∷ l 12 1 0 ∷ l 14 11 0 ∷ l 13 0 0 ∷ l 11 11 0 ∷ l 11 11 0 ∷ l 4 0 0 ∷ l 27 0 0 ∷ l 22 7 0 ∷ [])) ∷  -- a part of a part, of an Arrow
    (strict_call, 1000, 5, (l 3 0 0 ∷ l 13 0 0 ∷ l 12 1 0 ∷ l 14 11 0 ∷ l 13 0 0 ∷ l 11 11 0 ∷ l 11 11 0 ∷ l 4 0 0 ∷ l 27 0 0 ∷ l 22 7 0 ∷ [])) ∷  -- a part of a part, of an Arrow
    (first_call, 1000, 8, (l 3 0 0 ∷ l 13 0 0 ∷ l 12 1 0 ∷ l 14 11 0 ∷ l 13 0 0 ∷ l 11 11 0 ∷ l 11 11 0 ∷ l 4 0 0 ∷ l 27 0 0 ∷ l 22 7 0 ∷ [])) ∷  -- a part of a part, of an Arrow
    (strict_call, 1000, 8, (l 3 0 0 ∷ l 13 0 0 ∷ l 12 1 0 ∷ l 14 11 0 ∷ l 13 0 0 ∷ l 11 11 0 ∷ l 11 11 0 ∷ l 4 0 0 ∷ l 27 0 0 ∷ l 22 7 0 ∷ [])) ∷  -- a part of a part, of an Arrow
    (first_call, 1000, 9, (l 3 0 0 ∷ l 13 0 0 ∷ l 12 1 0 ∷ l 14 11 0 ∷ l 13 0 0 ∷ l 11 11 0 ∷ l 11 11 0 ∷ l 4 0 0 ∷ l 27 0 0 ∷ l 22 7 0 ∷ [])) ∷  -- a part of a part, of an Arrow
    (strict_call, 1000, 9, (l 3 0 0 ∷ l 13 0 0 ∷ l 12 1 0 ∷ l 14 11 0 ∷ l 13 0 0 ∷ l 11 11 0 ∷ l 11 11 0 ∷ l 4 0 0 ∷ l 27 0 0 ∷ l 22 7 0 ∷ [])) ∷  -- a part of a part, of an Arrow
    (first_call, 1000, 10, (l 3 0 0 ∷ l 13 0 0 ∷ l 12 1 0 ∷ l 14 11 0 ∷ l 13 0 0 ∷ l 11 11 0 ∷ l 11 11 0 ∷ l 4 0 0 ∷ l 27 0 0 ∷ l 22 7 0 ∷ [])) ∷  -- a part of a part, of an Arrow
    (strict_call, 1000, 10, (l 3 0 0 ∷ l 13 0 0 ∷ l 12 1 0 ∷ l 14 11 0 ∷ l 13 0 0 ∷ l 11 11 0 ∷ l 11 11 0 ∷ l 4 0 0 ∷ l 27 0 0 ∷ l 22 7 0 ∷ [])) ∷  -- a part of a part, of an Arrow
    (first_call, 1000, 8, (l 3 0 0 ∷ l 13 0 0 ∷ l 12 1 0 ∷ l 14 11 0 ∷ l 15 0 0 ∷ l 12 31 0 ∷ l 11 11 0 ∷ l 4 0 0 ∷ l 27 0 0 ∷ l 22 7 0 ∷ [])) ∷  -- of a type App
    (strict_call, 1000, 8, (l 3 0 0 ∷ l 13 0 0 ∷ l 12 1 0 ∷ l 14 11 0 ∷ l 15 0 0 ∷ l 12 31 0 ∷ l 11 11 0 ∷ l 4 0 0 ∷ l 27 0 0 ∷ l 22 7 0 ∷ [])) ∷  -- of a type App
    (first_call, 1000, 9, (l 3 0 0 ∷ l 13 0 0 ∷ l 12 1 0 ∷ l 14 11 0 ∷ l 15 0 0 ∷ l 12 31 0 ∷ l 11 11 0 ∷ l 4 0 0 ∷ l 27 0 0 ∷ l 22 7 0 ∷ [])) ∷  -- of a type App
    (strict_call, 1000, 9, (l 3 0 0 ∷ l 13 0 0 ∷ l 12 1 0 ∷ l 14 11 0 ∷ l 15 0 0 ∷ l 12 31 0 ∷ l 11 11 0 ∷ l 4 0 0 ∷ l 27 0 0 ∷ l 22 7 0 ∷ [])) ∷  -- of a type App
    (first_call, 1000, 10, (l 3 0 0 ∷ l 13 0 0 ∷ l 12 1 0 ∷ l 14 11 0 ∷ l 15 0 0 ∷ l 12 31 0 ∷ l 11 11 0 ∷ l 4 0 0 ∷ l 27 0 0 ∷ l 22 7 0 ∷ [])) ∷  -- of a type App
    (strict_call, 1000, 10, (l 3 0 0 ∷ l 13 0 0 ∷ l 12 1 0 ∷ l 14 11 0 ∷ l 15 0 0 ∷ l 12 31 0 ∷ l 11 11 0 ∷ l 4 0 0 ∷ l 27 0 0 ∷ l 22 7 0 ∷ [])) ∷  -- of a type App
    (first_call, 6, 4096, (l 3 0 0 ∷ l 13 0 0 ∷ l 12 1 0 ∷ l 14 11 0 ∷ l 11 11 0 ∷ l 4 0 0 ∷ l 24 0 0 ∷ l 27 0 0 ∷ l 22 7 0 ∷ l 27 0 0 ∷ l 22 7 0 ∷ [])) ∷  -- a result of what was applied
    (strict_call, 6, 4096, (l 3 0 0 ∷ l 13 0 0 ∷ l 12 1 0 ∷ l 14 11 0 ∷ l 11 11 0 ∷ l 4 0 0 ∷ l 24 0 0 ∷ l 27 0 0 ∷ l 22 7 0 ∷ l 27 0 0 ∷ l 22 7 0 ∷ [])) ∷  -- a result of what was applied
    (first_call, 10, 4096, (l 3 0 0 ∷ l 13 0 0 ∷ l 12 1 0 ∷ l 14 11 0 ∷ l 11 11 0 ∷ l 4 0 0 ∷ l 24 0 0 ∷ l 27 0 0 ∷ l 22 7 0 ∷ l 27 0 0 ∷ l 22 7 0 ∷ [])) ∷  -- a result of what was applied
    (strict_call, 10, 4096, (l 3 0 0 ∷ l 13 0 0 ∷ l 12 1 0 ∷ l 14 11 0 ∷ l 11 11 0 ∷ l 4 0 0 ∷ l 24 0 0 ∷ l 27 0 0 ∷ l 22 7 0 ∷ l 27 0 0 ∷ l 22 7 0 ∷ [])) ∷  -- a result of what was applied
    (first_call, 11, 4096, (l 3 0 0 ∷ l 13 0 0 ∷ l 12 1 0 ∷ l 14 11 0 ∷ l 11 11 0 ∷ l 4 0 0 ∷ l 24 0 0 ∷ l 27 0 0 ∷ l 22 7 0 ∷ l 27 0 0 ∷ l 22 7 0 ∷ [])) ∷  -- a result of what was applied
    (strict_call, 11, 4096, (l 3 0 0 ∷ l 13 0 0 ∷ l 12 1 0 ∷ l 14 11 0 ∷ l 11 11 0 ∷ l 4 0 0 ∷ l 24 0 0 ∷ l 27 0 0 ∷ l 22 7 0 ∷ l 27 0 0 ∷ l 22 7 0 ∷ [])) ∷  -- a result of what was applied
    (first_call, 1000, 9, (l 3 0 0 ∷ l 13 0 0 ∷ l 12 1 0 ∷ l 14 11 0 ∷ l 11 11 0 ∷ l 4 0 0 ∷ l 24 0 0 ∷ l 27 0 0 ∷ l 22 7 0 ∷ l 27 0 0 ∷ l 22 7 0 ∷ [])) ∷  -- a result of what was applied
    (strict_call, 1000, 9, (l 3 0 0 ∷ l 13 0 0 ∷ l 12 1 0 ∷ l 14 11 0 ∷ l 11 11 0 ∷ l 4 0 0 ∷ l 24 0 0 ∷ l 27 0 0 ∷ l 22 7 0 ∷ l 27 0 0 ∷ l 22 7 0 ∷ [])) ∷  -- a result of what was applied
    (first_call, 1000, 12, (l 3 0 0 ∷ l 13 0 0 ∷ l 12 1 0 ∷ l 14 11 0 ∷ l 11 11 0 ∷ l 4 0 0 ∷ l 24 0 0 ∷ l 27 0 0 ∷ l 22 7 0 ∷ l 27 0 0 ∷ l 22 7 0 ∷ [])) ∷  -- a result of what was applied
    (strict_call, 1000, 12, (l 3 0 0 ∷ l 13 0 0 ∷ l 12 1 0 ∷ l 14 11 0 ∷ l 11 11 0 ∷ l 4 0 0 ∷ l 24 0 0 ∷ l 27 0 0 ∷ l 22 7 0 ∷ l 27 0 0 ∷ l 22 7 0 ∷ [])) ∷  -- a result of what was applied
    (first_call, 1000, 13, (l 3 0 0 ∷ l 13 0 0 ∷ l 12 1 0 ∷ l 14 11 0 ∷ l 11 11 0 ∷ l 4 0 0 ∷ l 24 0 0 ∷ l 27 0 0 ∷ l 22 7 0 ∷ l 27 0 0 ∷ l 22 7 0 ∷ [])) ∷  -- a result of what was applied
    (strict_call, 1000, 13, (l 3 0 0 ∷ l 13 0 0 ∷ l 12 1 0 ∷ l 14 11 0 ∷ l 11 11 0 ∷ l 4 0 0 ∷ l 24 0 0 ∷ l 27 0 0 ∷ l 22 7 0 ∷ l 27 0 0 ∷ l 22 7 0 ∷ [])) ∷  -- a result of what was applied
    (first_call, 5, 4096, (l 3 0 0 ∷ l 12 1 0 ∷ l 4 0 0 ∷ l 24 0 0 ∷ l 27 0 0 ∷ l 22 7 0 ∷ l 22 7 0 ∷ [])) ∷  -- an unknown applied
    (strict_call, 5, 4096, (l 3 0 0 ∷ l 12 1 0 ∷ l 4 0 0 ∷ l 24 0 0 ∷ l 27 0 0 ∷ l 22 7 0 ∷ l 22 7 0 ∷ [])) ∷  -- an unknown applied
    (first_call, 6, 4096, (l 3 0 0 ∷ l 12 1 0 ∷ l 4 0 0 ∷ l 24 0 0 ∷ l 27 0 0 ∷ l 22 7 0 ∷ l 22 7 0 ∷ [])) ∷  -- an unknown applied
    (strict_call, 6, 4096, (l 3 0 0 ∷ l 12 1 0 ∷ l 4 0 0 ∷ l 24 0 0 ∷ l 27 0 0 ∷ l 22 7 0 ∷ l 22 7 0 ∷ [])) ∷  -- an unknown applied
    (first_call, 1000, 2, (l 3 0 0 ∷ l 12 1 0 ∷ l 4 0 0 ∷ l 24 0 0 ∷ l 27 0 0 ∷ l 22 7 0 ∷ l 22 7 0 ∷ [])) ∷  -- an unknown applied
    (strict_call, 1000, 2, (l 3 0 0 ∷ l 12 1 0 ∷ l 4 0 0 ∷ l 24 0 0 ∷ l 27 0 0 ∷ l 22 7 0 ∷ l 22 7 0 ∷ [])) ∷  -- an unknown applied
    []

pub in-the-midst : map (λ q. limited_row q.0 q.1 q.2 q.3) cut ≡
    ((24 ∷ 0 ∷ 9 ∷ 4 ∷ 0 ∷ 0 ∷ 0 ∷ [], ([]), (◌≔◌ 2 (node 12 1 ∷ []) ∷ ◌≔◌ 1 (node 12 1 ∷ []) ∷ [])), 0 ∷ 1 ∷ 2 ∷ 0 ∷ []) ∷
    ((24 ∷ 0 ∷ 9 ∷ 4 ∷ 0 ∷ 0 ∷ 0 ∷ [], ([]), (◌≔◌ 2 (node 12 1 ∷ []) ∷ ◌≔◌ 1 (node 12 1 ∷ []) ∷ [])), 0 ∷ 1 ∷ 2 ∷ 0 ∷ []) ∷
    ((24 ∷ 0 ∷ 10 ∷ 5 ∷ 0 ∷ 0 ∷ 0 ∷ [], ([]), (◌≔◌ 2 (node 12 1 ∷ []) ∷ ◌≔◌ 1 (node 12 1 ∷ []) ∷ ◌≔◌ 0 (node 13 0 ∷ node 17 3 ∷ node 17 4 ∷ []) ∷ [])), 0 ∷ 1 ∷ 2 ∷ 0 ∷ 0 ∷ []) ∷
    ((24 ∷ 0 ∷ 10 ∷ 5 ∷ 0 ∷ 0 ∷ 0 ∷ [], ([]), (◌≔◌ 2 (node 12 1 ∷ []) ∷ ◌≔◌ 1 (node 12 1 ∷ []) ∷ ◌≔◌ 0 (node 13 0 ∷ node 17 3 ∷ node 17 4 ∷ []) ∷ [])), 0 ∷ 1 ∷ 2 ∷ 0 ∷ 0 ∷ []) ∷
    ((25 ∷ 0 ∷ 9 ∷ 5 ∷ 0 ∷ 0 ∷ 0 ∷ [], ([]), (◌≔◌ 2 (node 12 1 ∷ []) ∷ ◌≔◌ 1 (node 12 1 ∷ []) ∷ [])), 0 ∷ 1 ∷ 2 ∷ 0 ∷ 0 ∷ []) ∷
    ((25 ∷ 0 ∷ 9 ∷ 5 ∷ 0 ∷ 0 ∷ 0 ∷ [], ([]), (◌≔◌ 2 (node 12 1 ∷ []) ∷ ◌≔◌ 1 (node 12 1 ∷ []) ∷ [])), 0 ∷ 1 ∷ 2 ∷ 0 ∷ 0 ∷ []) ∷
    ((25 ∷ 0 ∷ 11 ∷ 6 ∷ 0 ∷ 0 ∷ 0 ∷ [], ([]), (◌≔◌ 2 (node 12 1 ∷ []) ∷ ◌≔◌ 1 (node 12 1 ∷ []) ∷ ◌≔◌ 0 (node 13 0 ∷ node 17 3 ∷ node 17 4 ∷ []) ∷ [])), 0 ∷ 1 ∷ 2 ∷ 0 ∷ 0 ∷ 0 ∷ []) ∷
    ((39 ∷ 0 ∷ 11 ∷ 6 ∷ 0 ∷ 0 ∷ 0 ∷ [], ([]), (◌≔◌ 2 (node 12 1 ∷ []) ∷ ◌≔◌ 1 (node 12 1 ∷ []) ∷ ◌≔◌ 0 (node 13 0 ∷ node 17 3 ∷ node 17 4 ∷ []) ∷ [])), 0 ∷ 1 ∷ 2 ∷ 0 ∷ 0 ∷ 0 ∷ []) ∷
    ((25 ∷ 0 ∷ 13 ∷ 6 ∷ 0 ∷ 0 ∷ 0 ∷ [], ([]), (◌≔◌ 2 (node 12 1 ∷ []) ∷ ◌≔◌ 1 (node 12 1 ∷ []) ∷ ◌≔◌ 0 (node 13 0 ∷ node 17 3 ∷ node 17 4 ∷ []) ∷ ◌≔◌ 4 (node 18 5 ∷ []) ∷ [])), 0 ∷ 1 ∷ 2 ∷ 0 ∷ 0 ∷ 0 ∷ []) ∷
    ((39 ∷ 0 ∷ 11 ∷ 6 ∷ 0 ∷ 0 ∷ 0 ∷ [], ([]), (◌≔◌ 2 (node 12 1 ∷ []) ∷ ◌≔◌ 1 (node 12 1 ∷ []) ∷ ◌≔◌ 0 (node 13 0 ∷ node 17 3 ∷ node 17 4 ∷ []) ∷ [])), 0 ∷ 1 ∷ 2 ∷ 0 ∷ 0 ∷ 0 ∷ []) ∷
    ((24 ∷ 0 ∷ 10 ∷ 5 ∷ 0 ∷ 0 ∷ 0 ∷ [], ([]), (◌≔◌ 3 (node 12 1 ∷ []) ∷ ◌≔◌ 2 (node 12 1 ∷ []) ∷ [])), 0 ∷ 1 ∷ 2 ∷ 3 ∷ 1 ∷ []) ∷
    ((24 ∷ 0 ∷ 10 ∷ 5 ∷ 0 ∷ 0 ∷ 0 ∷ [], ([]), (◌≔◌ 3 (node 12 1 ∷ []) ∷ ◌≔◌ 2 (node 12 1 ∷ []) ∷ [])), 0 ∷ 1 ∷ 2 ∷ 3 ∷ 1 ∷ []) ∷
    ((25 ∷ 0 ∷ 10 ∷ 6 ∷ 0 ∷ 0 ∷ 0 ∷ [], ([]), (◌≔◌ 3 (node 12 1 ∷ []) ∷ ◌≔◌ 2 (node 12 1 ∷ []) ∷ [])), 0 ∷ 1 ∷ 2 ∷ 3 ∷ 1 ∷ 1 ∷ []) ∷
    ((25 ∷ 0 ∷ 10 ∷ 6 ∷ 0 ∷ 0 ∷ 0 ∷ [], ([]), (◌≔◌ 3 (node 12 1 ∷ []) ∷ ◌≔◌ 2 (node 12 1 ∷ []) ∷ [])), 0 ∷ 1 ∷ 2 ∷ 3 ∷ 1 ∷ 1 ∷ []) ∷
    ((25 ∷ 0 ∷ 11 ∷ 6 ∷ 0 ∷ 0 ∷ 0 ∷ [], ([]), (◌≔◌ 3 (node 12 1 ∷ []) ∷ ◌≔◌ 2 (node 12 1 ∷ []) ∷ ◌≔◌ 1 (node 13 0 ∷ node 17 4 ∷ node 17 5 ∷ []) ∷ [])), 0 ∷ 1 ∷ 2 ∷ 3 ∷ 1 ∷ 1 ∷ []) ∷
    ((25 ∷ 0 ∷ 11 ∷ 6 ∷ 0 ∷ 0 ∷ 0 ∷ [], ([]), (◌≔◌ 3 (node 12 1 ∷ []) ∷ ◌≔◌ 2 (node 12 1 ∷ []) ∷ ◌≔◌ 1 (node 13 0 ∷ node 17 4 ∷ node 17 5 ∷ []) ∷ [])), 0 ∷ 1 ∷ 2 ∷ 3 ∷ 1 ∷ 1 ∷ []) ∷
    ((25 ∷ 0 ∷ 12 ∷ 6 ∷ 0 ∷ 0 ∷ 0 ∷ [], ([]), (◌≔◌ 3 (node 12 1 ∷ []) ∷ ◌≔◌ 2 (node 12 1 ∷ []) ∷ ◌≔◌ 1 (node 13 0 ∷ node 17 4 ∷ node 17 5 ∷ []) ∷ ◌≔◌ 5 (node 18 0 ∷ []) ∷ [])), 0 ∷ 1 ∷ 2 ∷ 3 ∷ 1 ∷ 1 ∷ []) ∷
    ((25 ∷ 0 ∷ 12 ∷ 6 ∷ 0 ∷ 0 ∷ 0 ∷ [], ([]), (◌≔◌ 3 (node 12 1 ∷ []) ∷ ◌≔◌ 2 (node 12 1 ∷ []) ∷ ◌≔◌ 1 (node 13 0 ∷ node 17 4 ∷ node 17 5 ∷ []) ∷ ◌≔◌ 5 (node 18 0 ∷ []) ∷ [])), 0 ∷ 1 ∷ 2 ∷ 3 ∷ 1 ∷ 1 ∷ []) ∷
    ((24 ∷ 0 ∷ 11 ∷ 6 ∷ 0 ∷ 0 ∷ 0 ∷ [], ([]), (◌≔◌ 2 (node 12 1 ∷ []) ∷ ◌≔◌ 1 (node 12 1 ∷ []) ∷ ◌≔◌ 0 (node 13 0 ∷ node 17 3 ∷ node 17 4 ∷ []) ∷ [])), 0 ∷ 1 ∷ 2 ∷ 0 ∷ 0 ∷ 0 ∷ []) ∷
    ((24 ∷ 0 ∷ 11 ∷ 6 ∷ 0 ∷ 0 ∷ 0 ∷ [], ([]), (◌≔◌ 2 (node 12 1 ∷ []) ∷ ◌≔◌ 1 (node 12 1 ∷ []) ∷ ◌≔◌ 0 (node 13 0 ∷ node 17 3 ∷ node 17 4 ∷ []) ∷ [])), 0 ∷ 1 ∷ 2 ∷ 0 ∷ 0 ∷ 0 ∷ []) ∷
    ((24 ∷ 0 ∷ 11 ∷ 7 ∷ 0 ∷ 0 ∷ 0 ∷ [], ([]), (◌≔◌ 2 (node 12 1 ∷ []) ∷ ◌≔◌ 1 (node 12 1 ∷ []) ∷ ◌≔◌ 0 (node 13 0 ∷ node 17 3 ∷ node 17 4 ∷ []) ∷ [])), 0 ∷ 1 ∷ 2 ∷ 0 ∷ 0 ∷ 0 ∷ 0 ∷ []) ∷
    ((24 ∷ 0 ∷ 11 ∷ 7 ∷ 0 ∷ 0 ∷ 0 ∷ [], ([]), (◌≔◌ 2 (node 12 1 ∷ []) ∷ ◌≔◌ 1 (node 12 1 ∷ []) ∷ ◌≔◌ 0 (node 13 0 ∷ node 17 3 ∷ node 17 4 ∷ []) ∷ [])), 0 ∷ 1 ∷ 2 ∷ 0 ∷ 0 ∷ 0 ∷ 0 ∷ []) ∷
    ((25 ∷ 0 ∷ 11 ∷ 8 ∷ 0 ∷ 0 ∷ 0 ∷ [], ([]), (◌≔◌ 2 (node 12 1 ∷ []) ∷ ◌≔◌ 1 (node 12 1 ∷ []) ∷ ◌≔◌ 0 (node 13 0 ∷ node 17 3 ∷ node 17 4 ∷ []) ∷ [])), 0 ∷ 1 ∷ 2 ∷ 0 ∷ 0 ∷ 0 ∷ 0 ∷ 0 ∷ []) ∷
    ((25 ∷ 0 ∷ 11 ∷ 8 ∷ 0 ∷ 0 ∷ 0 ∷ [], ([]), (◌≔◌ 2 (node 12 1 ∷ []) ∷ ◌≔◌ 1 (node 12 1 ∷ []) ∷ ◌≔◌ 0 (node 13 0 ∷ node 17 3 ∷ node 17 4 ∷ []) ∷ [])), 0 ∷ 1 ∷ 2 ∷ 0 ∷ 0 ∷ 0 ∷ 0 ∷ 0 ∷ []) ∷
    ((25 ∷ 0 ∷ 12 ∷ 8 ∷ 0 ∷ 0 ∷ 0 ∷ [], ([]), (◌≔◌ 2 (node 12 1 ∷ []) ∷ ◌≔◌ 1 (node 12 1 ∷ []) ∷ ◌≔◌ 0 (node 13 0 ∷ node 17 3 ∷ node 17 4 ∷ []) ∷ ◌≔◌ 4 (node 13 0 ∷ node 17 6 ∷ node 17 7 ∷ []) ∷ [])), 0 ∷ 1 ∷ 2 ∷ 0 ∷ 0 ∷ 0 ∷ 0 ∷ 0 ∷ []) ∷
    ((39 ∷ 0 ∷ 12 ∷ 8 ∷ 0 ∷ 0 ∷ 0 ∷ [], ([]), (◌≔◌ 2 (node 12 1 ∷ []) ∷ ◌≔◌ 1 (node 12 1 ∷ []) ∷ ◌≔◌ 0 (node 13 0 ∷ node 17 3 ∷ node 17 4 ∷ []) ∷ ◌≔◌ 4 (node 13 0 ∷ node 17 6 ∷ node 17 7 ∷ []) ∷ [])), 0 ∷ 1 ∷ 2 ∷ 0 ∷ 0 ∷ 0 ∷ 0 ∷ 0 ∷ []) ∷
    ((25 ∷ 0 ∷ 13 ∷ 8 ∷ 0 ∷ 0 ∷ 0 ∷ [], ([]), (◌≔◌ 2 (node 12 1 ∷ []) ∷ ◌≔◌ 1 (node 12 1 ∷ []) ∷ ◌≔◌ 0 (node 13 0 ∷ node 17 3 ∷ node 17 4 ∷ []) ∷ ◌≔◌ 4 (node 13 0 ∷ node 17 6 ∷ node 17 7 ∷ []) ∷ ◌≔◌ 7 (node 18 5 ∷ []) ∷ [])), 0 ∷ 1 ∷ 2 ∷ 0 ∷ 0 ∷ 0 ∷ 0 ∷ 0 ∷ []) ∷
    ((39 ∷ 0 ∷ 12 ∷ 8 ∷ 0 ∷ 0 ∷ 0 ∷ [], ([]), (◌≔◌ 2 (node 12 1 ∷ []) ∷ ◌≔◌ 1 (node 12 1 ∷ []) ∷ ◌≔◌ 0 (node 13 0 ∷ node 17 3 ∷ node 17 4 ∷ []) ∷ ◌≔◌ 4 (node 13 0 ∷ node 17 6 ∷ node 17 7 ∷ []) ∷ [])), 0 ∷ 1 ∷ 2 ∷ 0 ∷ 0 ∷ 0 ∷ 0 ∷ 0 ∷ []) ∷
    ((25 ∷ 0 ∷ 17 ∷ 8 ∷ 0 ∷ 0 ∷ 0 ∷ [], ([]), (◌≔◌ 2 (node 12 1 ∷ []) ∷ ◌≔◌ 1 (node 12 1 ∷ []) ∷ ◌≔◌ 0 (node 13 0 ∷ node 17 3 ∷ node 17 4 ∷ []) ∷ ◌≔◌ 4 (node 13 0 ∷ node 17 6 ∷ node 17 7 ∷ []) ∷ ◌≔◌ 7 (node 18 5 ∷ []) ∷ ◌≔◌ 6 (node 18 5 ∷ []) ∷ [])), 0 ∷ 1 ∷ 2 ∷ 0 ∷ 0 ∷ 0 ∷ 0 ∷ 0 ∷ []) ∷
    ((39 ∷ 0 ∷ 12 ∷ 8 ∷ 0 ∷ 0 ∷ 0 ∷ [], ([]), (◌≔◌ 2 (node 12 1 ∷ []) ∷ ◌≔◌ 1 (node 12 1 ∷ []) ∷ ◌≔◌ 0 (node 13 0 ∷ node 17 3 ∷ node 17 4 ∷ []) ∷ ◌≔◌ 4 (node 13 0 ∷ node 17 6 ∷ node 17 7 ∷ []) ∷ [])), 0 ∷ 1 ∷ 2 ∷ 0 ∷ 0 ∷ 0 ∷ 0 ∷ 0 ∷ []) ∷
    ((25 ∷ 0 ∷ 12 ∷ 8 ∷ 0 ∷ 0 ∷ 0 ∷ [], ([]), (◌≔◌ 2 (node 12 1 ∷ []) ∷ ◌≔◌ 1 (node 12 1 ∷ []) ∷ ◌≔◌ 0 (node 13 0 ∷ node 17 3 ∷ node 17 4 ∷ []) ∷ ◌≔◌ 4 (node 15 0 ∷ node 17 6 ∷ node 17 7 ∷ []) ∷ [])), 0 ∷ 1 ∷ 2 ∷ 0 ∷ 0 ∷ 0 ∷ 0 ∷ 0 ∷ []) ∷
    ((39 ∷ 0 ∷ 12 ∷ 8 ∷ 0 ∷ 0 ∷ 0 ∷ [], ([]), (◌≔◌ 2 (node 12 1 ∷ []) ∷ ◌≔◌ 1 (node 12 1 ∷ []) ∷ ◌≔◌ 0 (node 13 0 ∷ node 17 3 ∷ node 17 4 ∷ []) ∷ ◌≔◌ 4 (node 15 0 ∷ node 17 6 ∷ node 17 7 ∷ []) ∷ [])), 0 ∷ 1 ∷ 2 ∷ 0 ∷ 0 ∷ 0 ∷ 0 ∷ 0 ∷ []) ∷
    ((25 ∷ 0 ∷ 13 ∷ 8 ∷ 0 ∷ 0 ∷ 0 ∷ [], ([]), (◌≔◌ 2 (node 12 1 ∷ []) ∷ ◌≔◌ 1 (node 12 1 ∷ []) ∷ ◌≔◌ 0 (node 13 0 ∷ node 17 3 ∷ node 17 4 ∷ []) ∷ ◌≔◌ 4 (node 15 0 ∷ node 17 6 ∷ node 17 7 ∷ []) ∷ ◌≔◌ 7 (node 18 5 ∷ []) ∷ [])), 0 ∷ 1 ∷ 2 ∷ 0 ∷ 0 ∷ 0 ∷ 0 ∷ 0 ∷ []) ∷
    ((39 ∷ 0 ∷ 12 ∷ 8 ∷ 0 ∷ 0 ∷ 0 ∷ [], ([]), (◌≔◌ 2 (node 12 1 ∷ []) ∷ ◌≔◌ 1 (node 12 1 ∷ []) ∷ ◌≔◌ 0 (node 13 0 ∷ node 17 3 ∷ node 17 4 ∷ []) ∷ ◌≔◌ 4 (node 15 0 ∷ node 17 6 ∷ node 17 7 ∷ []) ∷ [])), 0 ∷ 1 ∷ 2 ∷ 0 ∷ 0 ∷ 0 ∷ 0 ∷ 0 ∷ []) ∷
    ((25 ∷ 0 ∷ 17 ∷ 8 ∷ 0 ∷ 0 ∷ 0 ∷ [], ([]), (◌≔◌ 2 (node 12 1 ∷ []) ∷ ◌≔◌ 1 (node 12 1 ∷ []) ∷ ◌≔◌ 0 (node 13 0 ∷ node 17 3 ∷ node 17 4 ∷ []) ∷ ◌≔◌ 4 (node 15 0 ∷ node 17 6 ∷ node 17 7 ∷ []) ∷ ◌≔◌ 7 (node 18 5 ∷ []) ∷ ◌≔◌ 6 (node 12 31 ∷ []) ∷ [])), 0 ∷ 1 ∷ 2 ∷ 0 ∷ 0 ∷ 0 ∷ 0 ∷ 0 ∷ []) ∷
    ((39 ∷ 0 ∷ 12 ∷ 8 ∷ 0 ∷ 0 ∷ 0 ∷ [], ([]), (◌≔◌ 2 (node 12 1 ∷ []) ∷ ◌≔◌ 1 (node 12 1 ∷ []) ∷ ◌≔◌ 0 (node 13 0 ∷ node 17 3 ∷ node 17 4 ∷ []) ∷ ◌≔◌ 4 (node 15 0 ∷ node 17 6 ∷ node 17 7 ∷ []) ∷ [])), 0 ∷ 1 ∷ 2 ∷ 0 ∷ 0 ∷ 0 ∷ 0 ∷ 0 ∷ []) ∷
    ((24 ∷ 0 ∷ 11 ∷ 6 ∷ 0 ∷ 0 ∷ 0 ∷ [], ([]), (◌≔◌ 3 (node 12 1 ∷ []) ∷ ◌≔◌ 2 (node 12 1 ∷ []) ∷ ◌≔◌ 1 (node 13 0 ∷ node 17 4 ∷ node 17 5 ∷ []) ∷ [])), 0 ∷ 1 ∷ 2 ∷ 3 ∷ 1 ∷ 1 ∷ []) ∷
    ((24 ∷ 0 ∷ 11 ∷ 6 ∷ 0 ∷ 0 ∷ 0 ∷ [], ([]), (◌≔◌ 3 (node 12 1 ∷ []) ∷ ◌≔◌ 2 (node 12 1 ∷ []) ∷ ◌≔◌ 1 (node 13 0 ∷ node 17 4 ∷ node 17 5 ∷ []) ∷ [])), 0 ∷ 1 ∷ 2 ∷ 3 ∷ 1 ∷ 1 ∷ []) ∷
    ((24 ∷ 0 ∷ 25 ∷ 10 ∷ 0 ∷ 0 ∷ 0 ∷ [], ([]), (◌≔◌ 3 (node 12 1 ∷ []) ∷ ◌≔◌ 2 (node 12 1 ∷ []) ∷ ◌≔◌ 1 (node 13 0 ∷ node 17 4 ∷ node 17 5 ∷ []) ∷ ◌≔◌ 8 (node 12 1 ∷ []) ∷ ◌≔◌ 7 (node 12 1 ∷ []) ∷ ◌≔◌ 6 (node 17 4 ∷ []) ∷ ◌≔◌ 5 (node 17 0 ∷ []) ∷ [])), 0 ∷ 1 ∷ 2 ∷ 3 ∷ 1 ∷ 1 ∷ 6 ∷ 7 ∷ 8 ∷ 0 ∷ []) ∷
    ((24 ∷ 0 ∷ 25 ∷ 10 ∷ 0 ∷ 0 ∷ 0 ∷ [], ([]), (◌≔◌ 3 (node 12 1 ∷ []) ∷ ◌≔◌ 2 (node 12 1 ∷ []) ∷ ◌≔◌ 1 (node 13 0 ∷ node 17 4 ∷ node 17 5 ∷ []) ∷ ◌≔◌ 8 (node 12 1 ∷ []) ∷ ◌≔◌ 7 (node 12 1 ∷ []) ∷ ◌≔◌ 6 (node 17 4 ∷ []) ∷ ◌≔◌ 5 (node 17 0 ∷ []) ∷ [])), 0 ∷ 1 ∷ 2 ∷ 3 ∷ 1 ∷ 1 ∷ 6 ∷ 7 ∷ 8 ∷ 0 ∷ []) ∷
    ((24 ∷ 0 ∷ 26 ∷ 11 ∷ 0 ∷ 0 ∷ 0 ∷ [], ([]), (◌≔◌ 3 (node 12 1 ∷ []) ∷ ◌≔◌ 2 (node 12 1 ∷ []) ∷ ◌≔◌ 1 (node 13 0 ∷ node 17 4 ∷ node 17 5 ∷ []) ∷ ◌≔◌ 8 (node 12 1 ∷ []) ∷ ◌≔◌ 7 (node 12 1 ∷ []) ∷ ◌≔◌ 6 (node 17 4 ∷ []) ∷ ◌≔◌ 5 (node 17 0 ∷ []) ∷ ◌≔◌ 0 (node 13 0 ∷ node 17 9 ∷ node 17 10 ∷ []) ∷ [])), 0 ∷ 1 ∷ 2 ∷ 3 ∷ 1 ∷ 1 ∷ 6 ∷ 7 ∷ 8 ∷ 0 ∷ 0 ∷ []) ∷
    ((24 ∷ 0 ∷ 26 ∷ 11 ∷ 0 ∷ 0 ∷ 0 ∷ [], ([]), (◌≔◌ 3 (node 12 1 ∷ []) ∷ ◌≔◌ 2 (node 12 1 ∷ []) ∷ ◌≔◌ 1 (node 13 0 ∷ node 17 4 ∷ node 17 5 ∷ []) ∷ ◌≔◌ 8 (node 12 1 ∷ []) ∷ ◌≔◌ 7 (node 12 1 ∷ []) ∷ ◌≔◌ 6 (node 17 4 ∷ []) ∷ ◌≔◌ 5 (node 17 0 ∷ []) ∷ ◌≔◌ 0 (node 13 0 ∷ node 17 9 ∷ node 17 10 ∷ []) ∷ [])), 0 ∷ 1 ∷ 2 ∷ 3 ∷ 1 ∷ 1 ∷ 6 ∷ 7 ∷ 8 ∷ 0 ∷ 0 ∷ []) ∷
    ((25 ∷ 0 ∷ 25 ∷ 11 ∷ 0 ∷ 0 ∷ 0 ∷ [], ([]), (◌≔◌ 3 (node 12 1 ∷ []) ∷ ◌≔◌ 2 (node 12 1 ∷ []) ∷ ◌≔◌ 1 (node 13 0 ∷ node 17 4 ∷ node 17 5 ∷ []) ∷ ◌≔◌ 8 (node 12 1 ∷ []) ∷ ◌≔◌ 7 (node 12 1 ∷ []) ∷ ◌≔◌ 6 (node 17 4 ∷ []) ∷ ◌≔◌ 5 (node 17 0 ∷ []) ∷ [])), 0 ∷ 1 ∷ 2 ∷ 3 ∷ 1 ∷ 1 ∷ 6 ∷ 7 ∷ 8 ∷ 0 ∷ 0 ∷ []) ∷
    ((25 ∷ 0 ∷ 25 ∷ 11 ∷ 0 ∷ 0 ∷ 0 ∷ [], ([]), (◌≔◌ 3 (node 12 1 ∷ []) ∷ ◌≔◌ 2 (node 12 1 ∷ []) ∷ ◌≔◌ 1 (node 13 0 ∷ node 17 4 ∷ node 17 5 ∷ []) ∷ ◌≔◌ 8 (node 12 1 ∷ []) ∷ ◌≔◌ 7 (node 12 1 ∷ []) ∷ ◌≔◌ 6 (node 17 4 ∷ []) ∷ ◌≔◌ 5 (node 17 0 ∷ []) ∷ [])), 0 ∷ 1 ∷ 2 ∷ 3 ∷ 1 ∷ 1 ∷ 6 ∷ 7 ∷ 8 ∷ 0 ∷ 0 ∷ []) ∷
    ((25 ∷ 0 ∷ 27 ∷ 12 ∷ 0 ∷ 0 ∷ 0 ∷ [], ([]), (◌≔◌ 3 (node 12 1 ∷ []) ∷ ◌≔◌ 2 (node 12 1 ∷ []) ∷ ◌≔◌ 1 (node 13 0 ∷ node 17 4 ∷ node 17 5 ∷ []) ∷ ◌≔◌ 8 (node 12 1 ∷ []) ∷ ◌≔◌ 7 (node 12 1 ∷ []) ∷ ◌≔◌ 6 (node 17 4 ∷ []) ∷ ◌≔◌ 5 (node 17 0 ∷ []) ∷ ◌≔◌ 0 (node 13 0 ∷ node 17 9 ∷ node 17 10 ∷ []) ∷ [])), 0 ∷ 1 ∷ 2 ∷ 3 ∷ 1 ∷ 1 ∷ 6 ∷ 7 ∷ 8 ∷ 0 ∷ 0 ∷ 0 ∷ []) ∷
    ((39 ∷ 0 ∷ 27 ∷ 12 ∷ 0 ∷ 0 ∷ 0 ∷ [], ([]), (◌≔◌ 3 (node 12 1 ∷ []) ∷ ◌≔◌ 2 (node 12 1 ∷ []) ∷ ◌≔◌ 1 (node 13 0 ∷ node 17 4 ∷ node 17 5 ∷ []) ∷ ◌≔◌ 8 (node 12 1 ∷ []) ∷ ◌≔◌ 7 (node 12 1 ∷ []) ∷ ◌≔◌ 6 (node 17 4 ∷ []) ∷ ◌≔◌ 5 (node 17 0 ∷ []) ∷ ◌≔◌ 0 (node 13 0 ∷ node 17 9 ∷ node 17 10 ∷ []) ∷ [])), 0 ∷ 1 ∷ 2 ∷ 3 ∷ 1 ∷ 1 ∷ 6 ∷ 7 ∷ 8 ∷ 0 ∷ 0 ∷ 0 ∷ []) ∷
    ((25 ∷ 0 ∷ 29 ∷ 12 ∷ 0 ∷ 0 ∷ 0 ∷ [], ([]), (◌≔◌ 3 (node 12 1 ∷ []) ∷ ◌≔◌ 2 (node 12 1 ∷ []) ∷ ◌≔◌ 1 (node 13 0 ∷ node 17 4 ∷ node 17 5 ∷ []) ∷ ◌≔◌ 8 (node 12 1 ∷ []) ∷ ◌≔◌ 7 (node 12 1 ∷ []) ∷ ◌≔◌ 6 (node 17 4 ∷ []) ∷ ◌≔◌ 5 (node 17 0 ∷ []) ∷ ◌≔◌ 0 (node 13 0 ∷ node 17 9 ∷ node 17 10 ∷ []) ∷ ◌≔◌ 10 (node 18 11 ∷ []) ∷ [])), 0 ∷ 1 ∷ 2 ∷ 3 ∷ 1 ∷ 1 ∷ 6 ∷ 7 ∷ 8 ∷ 0 ∷ 0 ∷ 0 ∷ []) ∷
    ((39 ∷ 0 ∷ 27 ∷ 12 ∷ 0 ∷ 0 ∷ 0 ∷ [], ([]), (◌≔◌ 3 (node 12 1 ∷ []) ∷ ◌≔◌ 2 (node 12 1 ∷ []) ∷ ◌≔◌ 1 (node 13 0 ∷ node 17 4 ∷ node 17 5 ∷ []) ∷ ◌≔◌ 8 (node 12 1 ∷ []) ∷ ◌≔◌ 7 (node 12 1 ∷ []) ∷ ◌≔◌ 6 (node 17 4 ∷ []) ∷ ◌≔◌ 5 (node 17 0 ∷ []) ∷ ◌≔◌ 0 (node 13 0 ∷ node 17 9 ∷ node 17 10 ∷ []) ∷ [])), 0 ∷ 1 ∷ 2 ∷ 3 ∷ 1 ∷ 1 ∷ 6 ∷ 7 ∷ 8 ∷ 0 ∷ 0 ∷ 0 ∷ []) ∷
    ((24 ∷ 0 ∷ 10 ∷ 5 ∷ 0 ∷ 0 ∷ 1 ∷ [], ([]), (◌≔◌ 3 (node 12 1 ∷ []) ∷ ◌≔◌ 2 (node 12 1 ∷ []) ∷ [])), 0 ∷ 1 ∷ 2 ∷ 3 ∷ 1 ∷ []) ∷
    ((24 ∷ 0 ∷ 10 ∷ 5 ∷ 0 ∷ 0 ∷ 1 ∷ [], ([]), (◌≔◌ 3 (node 12 1 ∷ []) ∷ ◌≔◌ 2 (node 12 1 ∷ []) ∷ [])), 0 ∷ 1 ∷ 2 ∷ 3 ∷ 1 ∷ []) ∷
    ((24 ∷ 0 ∷ 11 ∷ 6 ∷ 0 ∷ 0 ∷ 1 ∷ [], ([]), (◌≔◌ 3 (node 12 1 ∷ []) ∷ ◌≔◌ 2 (node 12 1 ∷ []) ∷ ◌≔◌ 1 (node 13 0 ∷ node 17 4 ∷ node 17 5 ∷ []) ∷ [])), 0 ∷ 1 ∷ 2 ∷ 3 ∷ 1 ∷ 1 ∷ []) ∷
    ((24 ∷ 0 ∷ 11 ∷ 6 ∷ 0 ∷ 0 ∷ 1 ∷ [], ([]), (◌≔◌ 3 (node 12 1 ∷ []) ∷ ◌≔◌ 2 (node 12 1 ∷ []) ∷ ◌≔◌ 1 (node 13 0 ∷ node 17 4 ∷ node 17 5 ∷ []) ∷ [])), 0 ∷ 1 ∷ 2 ∷ 3 ∷ 1 ∷ 1 ∷ []) ∷
    ((25 ∷ 0 ∷ 10 ∷ 6 ∷ 0 ∷ 0 ∷ 1 ∷ [], ([]), (◌≔◌ 3 (node 12 1 ∷ []) ∷ ◌≔◌ 2 (node 12 1 ∷ []) ∷ [])), 0 ∷ 1 ∷ 2 ∷ 3 ∷ 1 ∷ 1 ∷ []) ∷
    ((25 ∷ 0 ∷ 10 ∷ 6 ∷ 0 ∷ 0 ∷ 1 ∷ [], ([]), (◌≔◌ 3 (node 12 1 ∷ []) ∷ ◌≔◌ 2 (node 12 1 ∷ []) ∷ [])), 0 ∷ 1 ∷ 2 ∷ 3 ∷ 1 ∷ 1 ∷ []) ∷
    []
unfolding limited_row parts_of row_of find_row table plan_of declarations bindings_in end_from entries_end places_of part_line is_plain names plain_entries plain_plan lookup view occurs is_monotype substitute rename front_names after_front can_unify term_view lambda_of find links any_solved write_out_by write_out solution_nodes board_nodes find_var before perform operations instantiate_from subtype open_names signature_from insert push_vars check_patterns check_arms infer_app run_from check_type result_of run_of judge put lower level_made level_after levels_after none_above
in-the-midst = refl

-- the book of the first plan after the strict call: three words for each number made and the next, and the nodes
unfoldable pub first_scoped : List ℕ
first_scoped =
    let r = judge (limits_for strict_call 1024) 10000 (l 3 0 0 ∷ l 13 0 0 ∷ l 12 1 0 ∷ l 14 11 0 ∷ l 11 11 0 ∷ l 4 0 0 ∷ l 27 0 0 ∷ l 22 7 0 ∷ []) in
    let b = book_words r.solutions r.levels r.answer.fresh in
    take 21 b ++ take 12 (drop 3000 b)

pub first-scoped : first_scoped ≡ (3004 ∷ 3 ∷ 0 ∷ 3002 ∷ 1 ∷ 1 ∷ 3000 ∷ 1 ∷ 2 ∷ 0 ∷ 0 ∷ 0 ∷ 0 ∷ 0 ∷ 0 ∷ 0 ∷ 0 ∷ 0 ∷ 0 ∷ 0 ∷ 0 ∷ []) ++ (12 ∷ 1 ∷ 12 ∷ 1 ∷ 13 ∷ 0 ∷ 17 ∷ 3 ∷ 17 ∷ 4 ∷ 0 ∷ 0 ∷ [])
unfolding first_scoped book_words padded threes_from place_from node_words words parts_of row_of find_row table plan_of declarations bindings_in end_from entries_end places_of part_line is_plain names plain_entries plain_plan lookup view occurs is_monotype substitute rename front_names after_front can_unify term_view lambda_of find links any_solved write_out_by write_out solution_nodes board_nodes find_var before perform operations instantiate_from subtype open_names signature_from insert push_vars check_patterns check_arms infer_app run_from check_type result_of run_of judge put lower level_made level_after levels_after none_above
first-scoped = refl

-- a universal that is numbered as the level is not above it, and one behind another node is
pub above : map (λ m. none_above m (node 16 2 ∷ node 17 9 ∷ node 18 5 ∷ [])) (4 ∷ 5 ∷ 6 ∷ []) ≡ false ∷ true ∷ true ∷ []
unfolding none_above
above = refl
