-- Plans under small limits, each of the five met exactly and passed by one wherever a plan's operations come to it, and each two that one step
-- passes; 99 is a limit that no plan meets. By computation: reference/telling.py makes this file from the answers of reference/limited.
-- Assumes nothing.
use mathlib.Core.Path.{◌≡◌, refl}
use mathlib.Core.List.{List, [], ◌∷◌, map}
use Prim.Native.Nat.{ℕ}
use lib.ListN.{length}
use Rattle.kinds.specs.Kinds.{parts_of, row_of, find as find_row, table}
use Rattle.sheet.specs.Plan.{plan_of, declarations, bindings_in, end_from, entries_end, places_of, part_line, is_plain, names, plain_entries, plain_plan, lookup}
use Rattle.judgment.specs.Types.{view, occurs, is_monotype, substitute, rename, front_names, after_front, can_unify}
use Rattle.judgment.specs.Terms.{term_view, lambda_of}
use Rattle.judgment.specs.Solutions.{find, links, any_solved, write_out_by, write_out, solution_nodes}
use Rattle.judgment.specs.Board.{up_to, Limits, board_nodes, find_var, before, perform, operations}
use Rattle.judgment.specs.Rules.{instantiate_from, subtype, open_names, signature_from, insert, push_vars, check_patterns, check_arms, infer_app}
use Rattle.judgment.specs.Run.{run_from, check_type}
use Rattle.judgment.specs.Result.{result_of, run_of, judge}
use Rattle.judgment.specs.Levels.{Levels, Mode, first_call, strict_call, scope_of, put, lower, level_made, level_after, levels_after, none_above}
use Rattle.spelling.specs.declared.Triple.{Triple}
use Rattle.judgment.proofs.Wall.{l}

-- entries, nodes on the board, nodes of a type written out, fresh numbers, nodes of solutions
abbrev Small : Type 0
Small = ℕ × ℕ × ℕ × ℕ × ℕ

abbrev under : Small → Mode → Levels → Limits
under q m v =
    record { entries = up_to q.0; nodes = up_to q.1; written = up_to q.2; numbers = up_to q.3; solved = up_to q.4; scope = scope_of m v }

-- number, entries taken, fresh numbers, nodes reported, nodes of solutions
unfoldable pub ends : Mode → List Triple → Small → List ℕ
ends m ls q =
    let r = judge (under q m) 10000 ls in
    r.answer.number ∷ r.answer.taken ∷ r.answer.fresh ∷ length r.report ∷ solution_nodes r.solutions ∷ []

abbrev met : ℕ → ℕ → ℕ → ℕ → ℕ → List ℕ → Small × List ℕ
met e n w f s r = ((e, n, w, f, s), r)

-- 7 as Int
abbrev plan0 : List Triple
plan0 = l 3 0 0 ∷ l 12 1 0 ∷ l 4 0 0 ∷ l 22 7 0 ∷ []

abbrev rows0 : List (Small × List ℕ)
rows0 =
    met 1 99 99 99 99 (22 ∷ 1 ∷ 1 ∷ 0 ∷ 0 ∷ []) ∷
    met 2 99 99 99 99 (22 ∷ 1 ∷ 1 ∷ 0 ∷ 0 ∷ []) ∷
    met 3 99 99 99 99 (0 ∷ 5 ∷ 1 ∷ 0 ∷ 1 ∷ []) ∷
    met 99 1 99 99 99 (22 ∷ 1 ∷ 1 ∷ 0 ∷ 0 ∷ []) ∷
    met 99 2 99 99 99 (22 ∷ 1 ∷ 1 ∷ 0 ∷ 0 ∷ []) ∷
    met 99 3 99 99 99 (22 ∷ 2 ∷ 1 ∷ 0 ∷ 0 ∷ []) ∷
    met 99 4 99 99 99 (0 ∷ 5 ∷ 1 ∷ 0 ∷ 1 ∷ []) ∷
    met 99 99 0 99 99 (23 ∷ 3 ∷ 1 ∷ 0 ∷ 0 ∷ []) ∷
    met 99 99 1 99 99 (0 ∷ 5 ∷ 1 ∷ 0 ∷ 1 ∷ []) ∷
    met 99 99 99 0 99 (24 ∷ 1 ∷ 0 ∷ 0 ∷ 0 ∷ []) ∷
    met 99 99 99 1 99 (0 ∷ 5 ∷ 1 ∷ 0 ∷ 1 ∷ []) ∷
    met 99 99 99 99 0 (25 ∷ 3 ∷ 1 ∷ 0 ∷ 0 ∷ []) ∷
    met 99 99 99 99 1 (0 ∷ 5 ∷ 1 ∷ 0 ∷ 1 ∷ []) ∷
    met 1 99 99 0 99 (24 ∷ 1 ∷ 0 ∷ 0 ∷ 0 ∷ []) ∷
    met 2 99 99 0 99 (24 ∷ 1 ∷ 0 ∷ 0 ∷ 0 ∷ []) ∷
    met 99 1 99 0 99 (24 ∷ 1 ∷ 0 ∷ 0 ∷ 0 ∷ []) ∷
    met 99 2 99 0 99 (24 ∷ 1 ∷ 0 ∷ 0 ∷ 0 ∷ []) ∷
    met 99 99 0 99 0 (23 ∷ 3 ∷ 1 ∷ 0 ∷ 0 ∷ []) ∷
    []

pub limited0 : map (λ q. ends first_call plan0 q.0) rows0 ≡ map (λ q. q.1) rows0
unfolding ends parts_of row_of find_row table plan_of declarations bindings_in end_from entries_end places_of part_line is_plain names plain_entries plain_plan lookup view occurs is_monotype substitute rename front_names after_front can_unify term_view lambda_of find links any_solved write_out_by write_out solution_nodes board_nodes find_var before perform operations instantiate_from subtype open_names signature_from insert push_vars check_patterns check_arms infer_app run_from check_type result_of run_of judge put lower level_made level_after levels_after none_above
limited0 = refl

-- 7 as Bool
abbrev plan1 : List Triple
plan1 = l 3 0 0 ∷ l 12 2 0 ∷ l 4 0 0 ∷ l 22 7 0 ∷ []

abbrev rows1 : List (Small × List ℕ)
rows1 =
    met 1 99 99 99 99 (22 ∷ 1 ∷ 1 ∷ 0 ∷ 0 ∷ []) ∷
    met 2 99 99 99 99 (22 ∷ 1 ∷ 1 ∷ 0 ∷ 0 ∷ []) ∷
    met 3 99 99 99 99 (15 ∷ 4 ∷ 1 ∷ 2 ∷ 1 ∷ []) ∷
    met 99 1 99 99 99 (22 ∷ 1 ∷ 1 ∷ 0 ∷ 0 ∷ []) ∷
    met 99 2 99 99 99 (22 ∷ 1 ∷ 1 ∷ 0 ∷ 0 ∷ []) ∷
    met 99 3 99 99 99 (22 ∷ 2 ∷ 1 ∷ 0 ∷ 0 ∷ []) ∷
    met 99 4 99 99 99 (15 ∷ 4 ∷ 1 ∷ 2 ∷ 1 ∷ []) ∷
    met 99 99 0 99 99 (23 ∷ 3 ∷ 1 ∷ 0 ∷ 0 ∷ []) ∷
    met 99 99 1 99 99 (15 ∷ 4 ∷ 1 ∷ 2 ∷ 1 ∷ []) ∷
    met 99 99 99 0 99 (24 ∷ 1 ∷ 0 ∷ 0 ∷ 0 ∷ []) ∷
    met 99 99 99 1 99 (15 ∷ 4 ∷ 1 ∷ 2 ∷ 1 ∷ []) ∷
    met 99 99 99 99 0 (25 ∷ 3 ∷ 1 ∷ 0 ∷ 0 ∷ []) ∷
    met 99 99 99 99 1 (15 ∷ 4 ∷ 1 ∷ 2 ∷ 1 ∷ []) ∷
    met 1 99 99 0 99 (24 ∷ 1 ∷ 0 ∷ 0 ∷ 0 ∷ []) ∷
    met 2 99 99 0 99 (24 ∷ 1 ∷ 0 ∷ 0 ∷ 0 ∷ []) ∷
    met 99 1 99 0 99 (24 ∷ 1 ∷ 0 ∷ 0 ∷ 0 ∷ []) ∷
    met 99 2 99 0 99 (24 ∷ 1 ∷ 0 ∷ 0 ∷ 0 ∷ []) ∷
    met 99 99 0 99 0 (23 ∷ 3 ∷ 1 ∷ 0 ∷ 0 ∷ []) ∷
    []

pub limited1 : map (λ q. ends first_call plan1 q.0) rows1 ≡ map (λ q. q.1) rows1
unfolding ends parts_of row_of find_row table plan_of declarations bindings_in end_from entries_end places_of part_line is_plain names plain_entries plain_plan lookup view occurs is_monotype substitute rename front_names after_front can_unify term_view lambda_of find links any_solved write_out_by write_out solution_nodes board_nodes find_var before perform operations instantiate_from subtype open_names signature_from insert push_vars check_patterns check_arms infer_app run_from check_type result_of run_of judge put lower level_made level_after levels_after none_above
limited1 = refl

-- 7 as a quantified type
abbrev plan2 : List Triple
plan2 = l 3 0 0 ∷ l 14 10 0 ∷ l 14 11 0 ∷ l 11 10 0 ∷ l 4 0 0 ∷ l 22 7 0 ∷ []

abbrev rows2 : List (Small × List ℕ)
rows2 =
    met 1 99 99 99 99 (22 ∷ 1 ∷ 1 ∷ 0 ∷ 0 ∷ []) ∷
    met 2 99 99 99 99 (22 ∷ 2 ∷ 2 ∷ 0 ∷ 0 ∷ []) ∷
    met 3 99 99 99 99 (22 ∷ 3 ∷ 3 ∷ 0 ∷ 0 ∷ []) ∷
    met 4 99 99 99 99 (22 ∷ 3 ∷ 3 ∷ 0 ∷ 0 ∷ []) ∷
    met 5 99 99 99 99 (15 ∷ 6 ∷ 3 ∷ 2 ∷ 1 ∷ []) ∷
    met 99 3 99 99 99 (22 ∷ 4 ∷ 3 ∷ 0 ∷ 0 ∷ []) ∷
    met 99 4 99 99 99 (15 ∷ 6 ∷ 3 ∷ 2 ∷ 1 ∷ []) ∷
    met 99 99 0 99 99 (23 ∷ 5 ∷ 3 ∷ 0 ∷ 0 ∷ []) ∷
    met 99 99 1 99 99 (15 ∷ 6 ∷ 3 ∷ 2 ∷ 1 ∷ []) ∷
    met 99 99 99 0 99 (24 ∷ 1 ∷ 0 ∷ 0 ∷ 0 ∷ []) ∷
    met 99 99 99 1 99 (24 ∷ 2 ∷ 1 ∷ 0 ∷ 0 ∷ []) ∷
    met 99 99 99 2 99 (24 ∷ 3 ∷ 2 ∷ 0 ∷ 0 ∷ []) ∷
    met 99 99 99 3 99 (15 ∷ 6 ∷ 3 ∷ 2 ∷ 1 ∷ []) ∷
    met 99 99 99 99 0 (25 ∷ 5 ∷ 3 ∷ 0 ∷ 0 ∷ []) ∷
    met 99 99 99 99 1 (15 ∷ 6 ∷ 3 ∷ 2 ∷ 1 ∷ []) ∷
    met 1 99 99 0 99 (24 ∷ 1 ∷ 0 ∷ 0 ∷ 0 ∷ []) ∷
    met 2 99 99 1 99 (24 ∷ 2 ∷ 1 ∷ 0 ∷ 0 ∷ []) ∷
    met 3 99 99 2 99 (24 ∷ 3 ∷ 2 ∷ 0 ∷ 0 ∷ []) ∷
    met 4 99 99 2 99 (24 ∷ 3 ∷ 2 ∷ 0 ∷ 0 ∷ []) ∷
    met 99 99 0 99 0 (23 ∷ 5 ∷ 3 ∷ 0 ∷ 0 ∷ []) ∷
    []

pub limited2 : map (λ q. ends first_call plan2 q.0) rows2 ≡ map (λ q. q.1) rows2
unfolding ends parts_of row_of find_row table plan_of declarations bindings_in end_from entries_end places_of part_line is_plain names plain_entries plain_plan lookup view occurs is_monotype substitute rename front_names after_front can_unify term_view lambda_of find links any_solved write_out_by write_out solution_nodes board_nodes find_var before perform operations instantiate_from subtype open_names signature_from insert push_vars check_patterns check_arms infer_app run_from check_type result_of run_of judge put lower level_made level_after levels_after none_above
limited2 = refl

-- a Lambda, checked
abbrev plan3 : List Triple
plan3 = l 3 0 0 ∷ l 13 0 0 ∷ l 12 1 0 ∷ l 12 1 0 ∷ l 4 0 0 ∷ l 23 10 0 ∷ l 12 1 0 ∷ l 21 10 0 ∷ []

abbrev rows3 : List (Small × List ℕ)
rows3 =
    met 1 99 99 99 99 (22 ∷ 1 ∷ 0 ∷ 0 ∷ 0 ∷ []) ∷
    met 2 99 99 99 99 (22 ∷ 1 ∷ 0 ∷ 0 ∷ 0 ∷ []) ∷
    met 3 99 99 99 99 (22 ∷ 2 ∷ 1 ∷ 0 ∷ 0 ∷ []) ∷
    met 4 99 99 99 99 (22 ∷ 2 ∷ 1 ∷ 0 ∷ 0 ∷ []) ∷
    met 5 99 99 99 99 (0 ∷ 8 ∷ 1 ∷ 0 ∷ 1 ∷ []) ∷
    met 99 3 99 99 99 (22 ∷ 1 ∷ 0 ∷ 0 ∷ 0 ∷ []) ∷
    met 99 4 99 99 99 (22 ∷ 2 ∷ 1 ∷ 0 ∷ 0 ∷ []) ∷
    met 99 5 99 99 99 (22 ∷ 2 ∷ 1 ∷ 0 ∷ 0 ∷ []) ∷
    met 99 6 99 99 99 (22 ∷ 3 ∷ 1 ∷ 0 ∷ 0 ∷ []) ∷
    met 99 7 99 99 99 (0 ∷ 8 ∷ 1 ∷ 0 ∷ 1 ∷ []) ∷
    met 99 99 0 99 99 (23 ∷ 4 ∷ 1 ∷ 0 ∷ 0 ∷ []) ∷
    met 99 99 1 99 99 (0 ∷ 8 ∷ 1 ∷ 0 ∷ 1 ∷ []) ∷
    met 99 99 99 0 99 (24 ∷ 2 ∷ 0 ∷ 0 ∷ 0 ∷ []) ∷
    met 99 99 99 1 99 (0 ∷ 8 ∷ 1 ∷ 0 ∷ 1 ∷ []) ∷
    met 99 99 99 99 0 (25 ∷ 4 ∷ 1 ∷ 0 ∷ 0 ∷ []) ∷
    met 99 99 99 99 1 (0 ∷ 8 ∷ 1 ∷ 0 ∷ 1 ∷ []) ∷
    met 3 99 99 0 99 (24 ∷ 2 ∷ 0 ∷ 0 ∷ 0 ∷ []) ∷
    met 4 99 99 0 99 (24 ∷ 2 ∷ 0 ∷ 0 ∷ 0 ∷ []) ∷
    met 99 4 99 0 99 (24 ∷ 2 ∷ 0 ∷ 0 ∷ 0 ∷ []) ∷
    met 99 5 99 0 99 (24 ∷ 2 ∷ 0 ∷ 0 ∷ 0 ∷ []) ∷
    met 99 99 0 99 0 (23 ∷ 4 ∷ 1 ∷ 0 ∷ 0 ∷ []) ∷
    []

pub limited3 : map (λ q. ends first_call plan3 q.0) rows3 ≡ map (λ q. q.1) rows3
unfolding ends parts_of row_of find_row table plan_of declarations bindings_in end_from entries_end places_of part_line is_plain names plain_entries plain_plan lookup view occurs is_monotype substitute rename front_names after_front can_unify term_view lambda_of find links any_solved write_out_by write_out solution_nodes board_nodes find_var before perform operations instantiate_from subtype open_names signature_from insert push_vars check_patterns check_arms infer_app run_from check_type result_of run_of judge put lower level_made level_after levels_after none_above
limited3 = refl

-- a Lambda, applied
abbrev plan4 : List Triple
plan4 = l 3 0 0 ∷ l 12 1 0 ∷ l 4 0 0 ∷ l 24 0 0 ∷ l 23 10 0 ∷ l 12 1 0 ∷ l 21 10 0 ∷ l 22 7 0 ∷ []

abbrev rows4 : List (Small × List ℕ)
rows4 =
    met 1 99 99 99 99 (22 ∷ 1 ∷ 1 ∷ 0 ∷ 0 ∷ []) ∷
    met 2 99 99 99 99 (22 ∷ 1 ∷ 1 ∷ 0 ∷ 0 ∷ []) ∷
    met 3 99 99 99 99 (22 ∷ 2 ∷ 2 ∷ 0 ∷ 0 ∷ []) ∷
    met 4 99 99 99 99 (22 ∷ 2 ∷ 2 ∷ 0 ∷ 0 ∷ []) ∷
    met 5 99 99 99 99 (22 ∷ 3 ∷ 3 ∷ 0 ∷ 0 ∷ []) ∷
    met 7 99 99 99 99 (22 ∷ 3 ∷ 3 ∷ 0 ∷ 0 ∷ []) ∷
    met 8 99 99 99 99 (22 ∷ 7 ∷ 5 ∷ 0 ∷ 4 ∷ []) ∷
    met 9 99 99 99 99 (0 ∷ 22 ∷ 6 ∷ 0 ∷ 8 ∷ []) ∷
    met 99 1 99 99 99 (22 ∷ 1 ∷ 1 ∷ 0 ∷ 0 ∷ []) ∷
    met 99 2 99 99 99 (22 ∷ 1 ∷ 1 ∷ 0 ∷ 0 ∷ []) ∷
    met 99 3 99 99 99 (22 ∷ 2 ∷ 2 ∷ 0 ∷ 0 ∷ []) ∷
    met 99 4 99 99 99 (22 ∷ 2 ∷ 2 ∷ 0 ∷ 0 ∷ []) ∷
    met 99 5 99 99 99 (22 ∷ 3 ∷ 3 ∷ 0 ∷ 0 ∷ []) ∷
    met 99 9 99 99 99 (22 ∷ 3 ∷ 3 ∷ 0 ∷ 0 ∷ []) ∷
    met 99 10 99 99 99 (22 ∷ 4 ∷ 3 ∷ 0 ∷ 0 ∷ []) ∷
    met 99 11 99 99 99 (0 ∷ 22 ∷ 6 ∷ 0 ∷ 8 ∷ []) ∷
    met 99 99 0 99 99 (23 ∷ 5 ∷ 3 ∷ 0 ∷ 0 ∷ []) ∷
    met 99 99 1 99 99 (23 ∷ 7 ∷ 3 ∷ 0 ∷ 1 ∷ []) ∷
    met 99 99 2 99 99 (23 ∷ 7 ∷ 3 ∷ 0 ∷ 1 ∷ []) ∷
    met 99 99 3 99 99 (0 ∷ 22 ∷ 6 ∷ 0 ∷ 8 ∷ []) ∷
    met 99 99 99 0 99 (24 ∷ 1 ∷ 0 ∷ 0 ∷ 0 ∷ []) ∷
    met 99 99 99 1 99 (24 ∷ 2 ∷ 1 ∷ 0 ∷ 0 ∷ []) ∷
    met 99 99 99 2 99 (24 ∷ 3 ∷ 2 ∷ 0 ∷ 0 ∷ []) ∷
    met 99 99 99 3 99 (24 ∷ 7 ∷ 3 ∷ 0 ∷ 1 ∷ []) ∷
    met 99 99 99 4 99 (24 ∷ 7 ∷ 4 ∷ 0 ∷ 1 ∷ []) ∷
    met 99 99 99 5 99 (24 ∷ 14 ∷ 5 ∷ 0 ∷ 6 ∷ []) ∷
    met 99 99 99 6 99 (0 ∷ 22 ∷ 6 ∷ 0 ∷ 8 ∷ []) ∷
    met 99 99 99 99 0 (25 ∷ 5 ∷ 3 ∷ 0 ∷ 0 ∷ []) ∷
    met 99 99 99 99 1 (25 ∷ 7 ∷ 5 ∷ 0 ∷ 1 ∷ []) ∷
    met 99 99 99 99 3 (25 ∷ 7 ∷ 5 ∷ 0 ∷ 1 ∷ []) ∷
    met 99 99 99 99 4 (25 ∷ 8 ∷ 5 ∷ 0 ∷ 4 ∷ []) ∷
    met 99 99 99 99 5 (25 ∷ 9 ∷ 5 ∷ 0 ∷ 5 ∷ []) ∷
    met 99 99 99 99 6 (25 ∷ 16 ∷ 6 ∷ 0 ∷ 6 ∷ []) ∷
    met 99 99 99 99 7 (25 ∷ 19 ∷ 6 ∷ 0 ∷ 7 ∷ []) ∷
    met 99 99 99 99 8 (0 ∷ 22 ∷ 6 ∷ 0 ∷ 8 ∷ []) ∷
    met 8 99 1 99 99 (23 ∷ 7 ∷ 3 ∷ 0 ∷ 1 ∷ []) ∷
    met 8 99 2 99 99 (23 ∷ 7 ∷ 3 ∷ 0 ∷ 1 ∷ []) ∷
    met 1 99 99 0 99 (24 ∷ 1 ∷ 0 ∷ 0 ∷ 0 ∷ []) ∷
    met 2 99 99 0 99 (24 ∷ 1 ∷ 0 ∷ 0 ∷ 0 ∷ []) ∷
    met 3 99 99 1 99 (24 ∷ 2 ∷ 1 ∷ 0 ∷ 0 ∷ []) ∷
    met 4 99 99 1 99 (24 ∷ 2 ∷ 1 ∷ 0 ∷ 0 ∷ []) ∷
    met 5 99 99 2 99 (24 ∷ 3 ∷ 2 ∷ 0 ∷ 0 ∷ []) ∷
    met 7 99 99 2 99 (24 ∷ 3 ∷ 2 ∷ 0 ∷ 0 ∷ []) ∷
    met 8 99 99 3 99 (24 ∷ 7 ∷ 3 ∷ 0 ∷ 1 ∷ []) ∷
    met 8 99 99 4 99 (24 ∷ 7 ∷ 4 ∷ 0 ∷ 1 ∷ []) ∷
    met 8 99 99 99 1 (25 ∷ 7 ∷ 5 ∷ 0 ∷ 1 ∷ []) ∷
    met 8 99 99 99 3 (25 ∷ 7 ∷ 5 ∷ 0 ∷ 1 ∷ []) ∷
    met 99 1 99 0 99 (24 ∷ 1 ∷ 0 ∷ 0 ∷ 0 ∷ []) ∷
    met 99 2 99 0 99 (24 ∷ 1 ∷ 0 ∷ 0 ∷ 0 ∷ []) ∷
    met 99 3 99 1 99 (24 ∷ 2 ∷ 1 ∷ 0 ∷ 0 ∷ []) ∷
    met 99 4 99 1 99 (24 ∷ 2 ∷ 1 ∷ 0 ∷ 0 ∷ []) ∷
    met 99 5 99 2 99 (24 ∷ 3 ∷ 2 ∷ 0 ∷ 0 ∷ []) ∷
    met 99 9 99 2 99 (24 ∷ 3 ∷ 2 ∷ 0 ∷ 0 ∷ []) ∷
    met 99 99 1 3 99 (23 ∷ 7 ∷ 3 ∷ 0 ∷ 1 ∷ []) ∷
    met 99 99 1 4 99 (23 ∷ 7 ∷ 3 ∷ 0 ∷ 1 ∷ []) ∷
    met 99 99 2 3 99 (23 ∷ 7 ∷ 3 ∷ 0 ∷ 1 ∷ []) ∷
    met 99 99 2 4 99 (23 ∷ 7 ∷ 3 ∷ 0 ∷ 1 ∷ []) ∷
    met 99 99 0 99 0 (23 ∷ 5 ∷ 3 ∷ 0 ∷ 0 ∷ []) ∷
    met 99 99 1 99 1 (23 ∷ 7 ∷ 3 ∷ 0 ∷ 1 ∷ []) ∷
    met 99 99 1 99 3 (23 ∷ 7 ∷ 3 ∷ 0 ∷ 1 ∷ []) ∷
    met 99 99 2 99 1 (23 ∷ 7 ∷ 3 ∷ 0 ∷ 1 ∷ []) ∷
    met 99 99 2 99 3 (23 ∷ 7 ∷ 3 ∷ 0 ∷ 1 ∷ []) ∷
    met 99 99 99 3 1 (24 ∷ 7 ∷ 3 ∷ 0 ∷ 1 ∷ []) ∷
    met 99 99 99 3 3 (24 ∷ 7 ∷ 3 ∷ 0 ∷ 1 ∷ []) ∷
    met 99 99 99 4 1 (24 ∷ 7 ∷ 4 ∷ 0 ∷ 1 ∷ []) ∷
    met 99 99 99 4 3 (24 ∷ 7 ∷ 4 ∷ 0 ∷ 1 ∷ []) ∷
    []

pub limited4 : map (λ q. ends first_call plan4 q.0) rows4 ≡ map (λ q. q.1) rows4
unfolding ends parts_of row_of find_row table plan_of declarations bindings_in end_from entries_end places_of part_line is_plain names plain_entries plain_plan lookup view occurs is_monotype substitute rename front_names after_front can_unify term_view lambda_of find links any_solved write_out_by write_out solution_nodes board_nodes find_var before perform operations instantiate_from subtype open_names signature_from insert push_vars check_patterns check_arms infer_app run_from check_type result_of run_of judge put lower level_made level_after levels_after none_above
limited4 = refl

-- a TypeLambda
abbrev plan5 : List Triple
plan5 = l 3 0 0 ∷ l 12 1 0 ∷ l 4 0 0 ∷ l 25 11 0 ∷ l 22 7 0 ∷ []

abbrev rows5 : List (Small × List ℕ)
rows5 =
    met 1 99 99 99 99 (22 ∷ 1 ∷ 1 ∷ 0 ∷ 0 ∷ []) ∷
    met 2 99 99 99 99 (22 ∷ 1 ∷ 1 ∷ 0 ∷ 0 ∷ []) ∷
    met 3 99 99 99 99 (22 ∷ 2 ∷ 2 ∷ 0 ∷ 0 ∷ []) ∷
    met 5 99 99 99 99 (22 ∷ 2 ∷ 2 ∷ 0 ∷ 0 ∷ []) ∷
    met 6 99 99 99 99 (0 ∷ 12 ∷ 3 ∷ 0 ∷ 2 ∷ []) ∷
    met 99 1 99 99 99 (22 ∷ 1 ∷ 1 ∷ 0 ∷ 0 ∷ []) ∷
    met 99 2 99 99 99 (22 ∷ 1 ∷ 1 ∷ 0 ∷ 0 ∷ []) ∷
    met 99 3 99 99 99 (22 ∷ 2 ∷ 2 ∷ 0 ∷ 0 ∷ []) ∷
    met 99 5 99 99 99 (22 ∷ 2 ∷ 2 ∷ 0 ∷ 0 ∷ []) ∷
    met 99 6 99 99 99 (22 ∷ 3 ∷ 2 ∷ 0 ∷ 0 ∷ []) ∷
    met 99 7 99 99 99 (0 ∷ 12 ∷ 3 ∷ 0 ∷ 2 ∷ []) ∷
    met 99 99 0 99 99 (23 ∷ 4 ∷ 2 ∷ 0 ∷ 0 ∷ []) ∷
    met 99 99 1 99 99 (23 ∷ 6 ∷ 2 ∷ 0 ∷ 1 ∷ []) ∷
    met 99 99 2 99 99 (0 ∷ 12 ∷ 3 ∷ 0 ∷ 2 ∷ []) ∷
    met 99 99 99 0 99 (24 ∷ 1 ∷ 0 ∷ 0 ∷ 0 ∷ []) ∷
    met 99 99 99 1 99 (24 ∷ 2 ∷ 1 ∷ 0 ∷ 0 ∷ []) ∷
    met 99 99 99 2 99 (24 ∷ 6 ∷ 2 ∷ 0 ∷ 1 ∷ []) ∷
    met 99 99 99 3 99 (0 ∷ 12 ∷ 3 ∷ 0 ∷ 2 ∷ []) ∷
    met 99 99 99 99 0 (25 ∷ 4 ∷ 2 ∷ 0 ∷ 0 ∷ []) ∷
    met 99 99 99 99 1 (25 ∷ 7 ∷ 3 ∷ 0 ∷ 1 ∷ []) ∷
    met 99 99 99 99 2 (0 ∷ 12 ∷ 3 ∷ 0 ∷ 2 ∷ []) ∷
    met 1 99 99 0 99 (24 ∷ 1 ∷ 0 ∷ 0 ∷ 0 ∷ []) ∷
    met 2 99 99 0 99 (24 ∷ 1 ∷ 0 ∷ 0 ∷ 0 ∷ []) ∷
    met 3 99 99 1 99 (24 ∷ 2 ∷ 1 ∷ 0 ∷ 0 ∷ []) ∷
    met 5 99 99 1 99 (24 ∷ 2 ∷ 1 ∷ 0 ∷ 0 ∷ []) ∷
    met 99 1 99 0 99 (24 ∷ 1 ∷ 0 ∷ 0 ∷ 0 ∷ []) ∷
    met 99 2 99 0 99 (24 ∷ 1 ∷ 0 ∷ 0 ∷ 0 ∷ []) ∷
    met 99 3 99 1 99 (24 ∷ 2 ∷ 1 ∷ 0 ∷ 0 ∷ []) ∷
    met 99 5 99 1 99 (24 ∷ 2 ∷ 1 ∷ 0 ∷ 0 ∷ []) ∷
    met 99 99 1 2 99 (23 ∷ 6 ∷ 2 ∷ 0 ∷ 1 ∷ []) ∷
    met 99 99 0 99 0 (23 ∷ 4 ∷ 2 ∷ 0 ∷ 0 ∷ []) ∷
    []

pub limited5 : map (λ q. ends first_call plan5 q.0) rows5 ≡ map (λ q. q.1) rows5
unfolding ends parts_of row_of find_row table plan_of declarations bindings_in end_from entries_end places_of part_line is_plain names plain_entries plain_plan lookup view occurs is_monotype substitute rename front_names after_front can_unify term_view lambda_of find links any_solved write_out_by write_out solution_nodes board_nodes find_var before perform operations instantiate_from subtype open_names signature_from insert push_vars check_patterns check_arms infer_app run_from check_type result_of run_of judge put lower level_made level_after levels_after none_above
limited5 = refl

-- an unknown applied
abbrev plan6 : List Triple
plan6 = l 3 0 0 ∷ l 12 1 0 ∷ l 4 0 0 ∷ l 24 0 0 ∷ l 27 0 0 ∷ l 22 7 0 ∷ l 22 7 0 ∷ []

abbrev rows6 : List (Small × List ℕ)
rows6 =
    met 1 99 99 99 99 (22 ∷ 1 ∷ 1 ∷ 0 ∷ 0 ∷ []) ∷
    met 2 99 99 99 99 (22 ∷ 1 ∷ 1 ∷ 0 ∷ 0 ∷ []) ∷
    met 3 99 99 99 99 (22 ∷ 2 ∷ 2 ∷ 0 ∷ 0 ∷ []) ∷
    met 4 99 99 99 99 (22 ∷ 2 ∷ 2 ∷ 0 ∷ 0 ∷ []) ∷
    met 5 99 99 99 99 (22 ∷ 3 ∷ 3 ∷ 0 ∷ 0 ∷ []) ∷
    met 6 99 99 99 99 (22 ∷ 4 ∷ 4 ∷ 0 ∷ 0 ∷ []) ∷
    met 7 99 99 99 99 (22 ∷ 4 ∷ 4 ∷ 0 ∷ 0 ∷ []) ∷
    met 8 99 99 99 99 (22 ∷ 11 ∷ 7 ∷ 0 ∷ 5 ∷ []) ∷
    met 9 99 99 99 99 (0 ∷ 21 ∷ 7 ∷ 0 ∷ 9 ∷ []) ∷
    met 99 1 99 99 99 (22 ∷ 1 ∷ 1 ∷ 0 ∷ 0 ∷ []) ∷
    met 99 2 99 99 99 (22 ∷ 1 ∷ 1 ∷ 0 ∷ 0 ∷ []) ∷
    met 99 3 99 99 99 (22 ∷ 2 ∷ 2 ∷ 0 ∷ 0 ∷ []) ∷
    met 99 4 99 99 99 (22 ∷ 2 ∷ 2 ∷ 0 ∷ 0 ∷ []) ∷
    met 99 5 99 99 99 (22 ∷ 4 ∷ 4 ∷ 0 ∷ 0 ∷ []) ∷
    met 99 6 99 99 99 (22 ∷ 4 ∷ 4 ∷ 0 ∷ 0 ∷ []) ∷
    met 99 7 99 99 99 (22 ∷ 5 ∷ 4 ∷ 0 ∷ 0 ∷ []) ∷
    met 99 8 99 99 99 (0 ∷ 21 ∷ 7 ∷ 0 ∷ 9 ∷ []) ∷
    met 99 99 0 99 99 (23 ∷ 6 ∷ 4 ∷ 0 ∷ 0 ∷ []) ∷
    met 99 99 1 99 99 (0 ∷ 21 ∷ 7 ∷ 0 ∷ 9 ∷ []) ∷
    met 99 99 99 0 99 (24 ∷ 1 ∷ 0 ∷ 0 ∷ 0 ∷ []) ∷
    met 99 99 99 1 99 (24 ∷ 2 ∷ 1 ∷ 0 ∷ 0 ∷ []) ∷
    met 99 99 99 2 99 (24 ∷ 3 ∷ 2 ∷ 0 ∷ 0 ∷ []) ∷
    met 99 99 99 3 99 (24 ∷ 4 ∷ 3 ∷ 0 ∷ 0 ∷ []) ∷
    met 99 99 99 4 99 (24 ∷ 10 ∷ 4 ∷ 0 ∷ 2 ∷ []) ∷
    met 99 99 99 5 99 (24 ∷ 10 ∷ 5 ∷ 0 ∷ 2 ∷ []) ∷
    met 99 99 99 6 99 (24 ∷ 11 ∷ 6 ∷ 0 ∷ 5 ∷ []) ∷
    met 99 99 99 7 99 (0 ∷ 21 ∷ 7 ∷ 0 ∷ 9 ∷ []) ∷
    met 99 99 99 99 0 (25 ∷ 6 ∷ 4 ∷ 0 ∷ 0 ∷ []) ∷
    met 99 99 99 99 1 (25 ∷ 7 ∷ 4 ∷ 0 ∷ 1 ∷ []) ∷
    met 99 99 99 99 2 (25 ∷ 10 ∷ 6 ∷ 0 ∷ 2 ∷ []) ∷
    met 99 99 99 99 4 (25 ∷ 10 ∷ 6 ∷ 0 ∷ 2 ∷ []) ∷
    met 99 99 99 99 5 (25 ∷ 13 ∷ 7 ∷ 0 ∷ 5 ∷ []) ∷
    met 99 99 99 99 6 (25 ∷ 14 ∷ 7 ∷ 0 ∷ 6 ∷ []) ∷
    met 99 99 99 99 7 (25 ∷ 16 ∷ 7 ∷ 0 ∷ 7 ∷ []) ∷
    met 99 99 99 99 8 (25 ∷ 20 ∷ 7 ∷ 0 ∷ 8 ∷ []) ∷
    met 99 99 99 99 9 (0 ∷ 21 ∷ 7 ∷ 0 ∷ 9 ∷ []) ∷
    met 1 99 99 0 99 (24 ∷ 1 ∷ 0 ∷ 0 ∷ 0 ∷ []) ∷
    met 2 99 99 0 99 (24 ∷ 1 ∷ 0 ∷ 0 ∷ 0 ∷ []) ∷
    met 3 99 99 1 99 (24 ∷ 2 ∷ 1 ∷ 0 ∷ 0 ∷ []) ∷
    met 4 99 99 1 99 (24 ∷ 2 ∷ 1 ∷ 0 ∷ 0 ∷ []) ∷
    met 5 99 99 2 99 (24 ∷ 3 ∷ 2 ∷ 0 ∷ 0 ∷ []) ∷
    met 6 99 99 3 99 (24 ∷ 4 ∷ 3 ∷ 0 ∷ 0 ∷ []) ∷
    met 7 99 99 3 99 (24 ∷ 4 ∷ 3 ∷ 0 ∷ 0 ∷ []) ∷
    met 8 99 99 6 99 (24 ∷ 11 ∷ 6 ∷ 0 ∷ 5 ∷ []) ∷
    met 99 1 99 0 99 (24 ∷ 1 ∷ 0 ∷ 0 ∷ 0 ∷ []) ∷
    met 99 2 99 0 99 (24 ∷ 1 ∷ 0 ∷ 0 ∷ 0 ∷ []) ∷
    met 99 3 99 1 99 (24 ∷ 2 ∷ 1 ∷ 0 ∷ 0 ∷ []) ∷
    met 99 4 99 1 99 (24 ∷ 2 ∷ 1 ∷ 0 ∷ 0 ∷ []) ∷
    met 99 5 99 3 99 (24 ∷ 4 ∷ 3 ∷ 0 ∷ 0 ∷ []) ∷
    met 99 6 99 3 99 (24 ∷ 4 ∷ 3 ∷ 0 ∷ 0 ∷ []) ∷
    met 99 99 0 99 0 (23 ∷ 6 ∷ 4 ∷ 0 ∷ 0 ∷ []) ∷
    met 99 99 99 4 2 (24 ∷ 10 ∷ 4 ∷ 0 ∷ 2 ∷ []) ∷
    met 99 99 99 4 4 (24 ∷ 10 ∷ 4 ∷ 0 ∷ 2 ∷ []) ∷
    met 99 99 99 5 2 (24 ∷ 10 ∷ 5 ∷ 0 ∷ 2 ∷ []) ∷
    met 99 99 99 5 4 (24 ∷ 10 ∷ 5 ∷ 0 ∷ 2 ∷ []) ∷
    []

pub limited6 : map (λ q. ends first_call plan6 q.0) rows6 ≡ map (λ q. q.1) rows6
unfolding ends parts_of row_of find_row table plan_of declarations bindings_in end_from entries_end places_of part_line is_plain names plain_entries plain_plan lookup view occurs is_monotype substitute rename front_names after_front can_unify term_view lambda_of find links any_solved write_out_by write_out solution_nodes board_nodes find_var before perform operations instantiate_from subtype open_names signature_from insert push_vars check_patterns check_arms infer_app run_from check_type result_of run_of judge put lower level_made level_after levels_after none_above
limited6 = refl

-- an unknown split for an Arrow on the right
abbrev plan7 : List Triple
plan7 = l 3 0 0 ∷ l 13 0 0 ∷ l 12 1 0 ∷ l 12 2 0 ∷ l 4 0 0 ∷ l 27 0 0 ∷ l 22 7 0 ∷ []

abbrev rows7 : List (Small × List ℕ)
rows7 =
    met 1 99 99 99 99 (22 ∷ 1 ∷ 1 ∷ 0 ∷ 0 ∷ []) ∷
    met 2 99 99 99 99 (22 ∷ 1 ∷ 1 ∷ 0 ∷ 0 ∷ []) ∷
    met 3 99 99 99 99 (22 ∷ 2 ∷ 2 ∷ 0 ∷ 0 ∷ []) ∷
    met 4 99 99 99 99 (22 ∷ 3 ∷ 3 ∷ 0 ∷ 0 ∷ []) ∷
    met 5 99 99 99 99 (22 ∷ 3 ∷ 3 ∷ 0 ∷ 0 ∷ []) ∷
    met 6 99 99 99 99 (0 ∷ 14 ∷ 5 ∷ 0 ∷ 7 ∷ []) ∷
    met 99 3 99 99 99 (22 ∷ 1 ∷ 1 ∷ 0 ∷ 0 ∷ []) ∷
    met 99 4 99 99 99 (22 ∷ 1 ∷ 1 ∷ 0 ∷ 0 ∷ []) ∷
    met 99 5 99 99 99 (22 ∷ 3 ∷ 3 ∷ 0 ∷ 0 ∷ []) ∷
    met 99 6 99 99 99 (22 ∷ 3 ∷ 3 ∷ 0 ∷ 0 ∷ []) ∷
    met 99 7 99 99 99 (22 ∷ 4 ∷ 3 ∷ 0 ∷ 0 ∷ []) ∷
    met 99 8 99 99 99 (0 ∷ 14 ∷ 5 ∷ 0 ∷ 7 ∷ []) ∷
    met 99 99 0 99 99 (23 ∷ 5 ∷ 3 ∷ 0 ∷ 0 ∷ []) ∷
    met 99 99 1 99 99 (23 ∷ 9 ∷ 3 ∷ 0 ∷ 2 ∷ []) ∷
    met 99 99 2 99 99 (23 ∷ 9 ∷ 3 ∷ 0 ∷ 2 ∷ []) ∷
    met 99 99 3 99 99 (0 ∷ 14 ∷ 5 ∷ 0 ∷ 7 ∷ []) ∷
    met 99 99 99 0 99 (24 ∷ 1 ∷ 0 ∷ 0 ∷ 0 ∷ []) ∷
    met 99 99 99 1 99 (24 ∷ 2 ∷ 1 ∷ 0 ∷ 0 ∷ []) ∷
    met 99 99 99 2 99 (24 ∷ 3 ∷ 2 ∷ 0 ∷ 0 ∷ []) ∷
    met 99 99 99 3 99 (24 ∷ 9 ∷ 3 ∷ 0 ∷ 2 ∷ []) ∷
    met 99 99 99 4 99 (24 ∷ 9 ∷ 4 ∷ 0 ∷ 2 ∷ []) ∷
    met 99 99 99 5 99 (0 ∷ 14 ∷ 5 ∷ 0 ∷ 7 ∷ []) ∷
    met 99 99 99 99 0 (25 ∷ 5 ∷ 3 ∷ 0 ∷ 0 ∷ []) ∷
    met 99 99 99 99 1 (25 ∷ 6 ∷ 3 ∷ 0 ∷ 1 ∷ []) ∷
    met 99 99 99 99 2 (25 ∷ 9 ∷ 5 ∷ 0 ∷ 2 ∷ []) ∷
    met 99 99 99 99 4 (25 ∷ 9 ∷ 5 ∷ 0 ∷ 2 ∷ []) ∷
    met 99 99 99 99 5 (25 ∷ 10 ∷ 5 ∷ 0 ∷ 5 ∷ []) ∷
    met 99 99 99 99 6 (25 ∷ 11 ∷ 5 ∷ 0 ∷ 6 ∷ []) ∷
    met 99 99 99 99 7 (0 ∷ 14 ∷ 5 ∷ 0 ∷ 7 ∷ []) ∷
    met 1 99 99 0 99 (24 ∷ 1 ∷ 0 ∷ 0 ∷ 0 ∷ []) ∷
    met 2 99 99 0 99 (24 ∷ 1 ∷ 0 ∷ 0 ∷ 0 ∷ []) ∷
    met 3 99 99 1 99 (24 ∷ 2 ∷ 1 ∷ 0 ∷ 0 ∷ []) ∷
    met 4 99 99 2 99 (24 ∷ 3 ∷ 2 ∷ 0 ∷ 0 ∷ []) ∷
    met 5 99 99 2 99 (24 ∷ 3 ∷ 2 ∷ 0 ∷ 0 ∷ []) ∷
    met 99 3 99 0 99 (24 ∷ 1 ∷ 0 ∷ 0 ∷ 0 ∷ []) ∷
    met 99 4 99 0 99 (24 ∷ 1 ∷ 0 ∷ 0 ∷ 0 ∷ []) ∷
    met 99 5 99 2 99 (24 ∷ 3 ∷ 2 ∷ 0 ∷ 0 ∷ []) ∷
    met 99 6 99 2 99 (24 ∷ 3 ∷ 2 ∷ 0 ∷ 0 ∷ []) ∷
    met 99 99 1 3 99 (23 ∷ 9 ∷ 3 ∷ 0 ∷ 2 ∷ []) ∷
    met 99 99 1 4 99 (23 ∷ 9 ∷ 3 ∷ 0 ∷ 2 ∷ []) ∷
    met 99 99 2 3 99 (23 ∷ 9 ∷ 3 ∷ 0 ∷ 2 ∷ []) ∷
    met 99 99 2 4 99 (23 ∷ 9 ∷ 3 ∷ 0 ∷ 2 ∷ []) ∷
    met 99 99 0 99 0 (23 ∷ 5 ∷ 3 ∷ 0 ∷ 0 ∷ []) ∷
    met 99 99 1 99 2 (23 ∷ 9 ∷ 3 ∷ 0 ∷ 2 ∷ []) ∷
    met 99 99 1 99 4 (23 ∷ 9 ∷ 3 ∷ 0 ∷ 2 ∷ []) ∷
    met 99 99 2 99 2 (23 ∷ 9 ∷ 3 ∷ 0 ∷ 2 ∷ []) ∷
    met 99 99 2 99 4 (23 ∷ 9 ∷ 3 ∷ 0 ∷ 2 ∷ []) ∷
    met 99 99 99 3 2 (24 ∷ 9 ∷ 3 ∷ 0 ∷ 2 ∷ []) ∷
    met 99 99 99 3 4 (24 ∷ 9 ∷ 3 ∷ 0 ∷ 2 ∷ []) ∷
    met 99 99 99 4 2 (24 ∷ 9 ∷ 4 ∷ 0 ∷ 2 ∷ []) ∷
    met 99 99 99 4 4 (24 ∷ 9 ∷ 4 ∷ 0 ∷ 2 ∷ []) ∷
    []

pub limited7 : map (λ q. ends first_call plan7 q.0) rows7 ≡ map (λ q. q.1) rows7
unfolding ends parts_of row_of find_row table plan_of declarations bindings_in end_from entries_end places_of part_line is_plain names plain_entries plain_plan lookup view occurs is_monotype substitute rename front_names after_front can_unify term_view lambda_of find links any_solved write_out_by write_out solution_nodes board_nodes find_var before perform operations instantiate_from subtype open_names signature_from insert push_vars check_patterns check_arms infer_app run_from check_type result_of run_of judge put lower level_made level_after levels_after none_above
limited7 = refl

-- on the left
abbrev plan8 : List Triple
plan8 = l 2 40 0 ∷ l 13 0 0 ∷ l 12 1 0 ∷ l 12 2 0 ∷ l 3 0 0 ∷ l 12 3 0 ∷ l 4 0 0 ∷ l 21 40 0 ∷ []

abbrev rows8 : List (Small × List ℕ)
rows8 =
    met 1 99 99 99 99 (22 ∷ 1 ∷ 1 ∷ 0 ∷ 0 ∷ []) ∷
    met 2 99 99 99 99 (22 ∷ 1 ∷ 1 ∷ 0 ∷ 0 ∷ []) ∷
    met 3 99 99 99 99 (22 ∷ 3 ∷ 3 ∷ 0 ∷ 3 ∷ []) ∷
    met 5 99 99 99 99 (22 ∷ 3 ∷ 3 ∷ 0 ∷ 3 ∷ []) ∷
    met 6 99 99 99 99 (15 ∷ 8 ∷ 3 ∷ 4 ∷ 5 ∷ []) ∷
    met 99 1 99 99 99 (22 ∷ 1 ∷ 1 ∷ 0 ∷ 0 ∷ []) ∷
    met 99 2 99 99 99 (22 ∷ 1 ∷ 1 ∷ 0 ∷ 0 ∷ []) ∷
    met 99 3 99 99 99 (22 ∷ 2 ∷ 1 ∷ 0 ∷ 0 ∷ []) ∷
    met 99 5 99 99 99 (22 ∷ 2 ∷ 1 ∷ 0 ∷ 0 ∷ []) ∷
    met 99 6 99 99 99 (15 ∷ 8 ∷ 3 ∷ 4 ∷ 5 ∷ []) ∷
    met 99 99 0 99 99 (23 ∷ 3 ∷ 1 ∷ 0 ∷ 0 ∷ []) ∷
    met 99 99 2 99 99 (23 ∷ 3 ∷ 1 ∷ 0 ∷ 0 ∷ []) ∷
    met 99 99 3 99 99 (15 ∷ 8 ∷ 3 ∷ 4 ∷ 5 ∷ []) ∷
    met 99 99 99 0 99 (24 ∷ 1 ∷ 0 ∷ 0 ∷ 0 ∷ []) ∷
    met 99 99 99 1 99 (24 ∷ 3 ∷ 1 ∷ 0 ∷ 0 ∷ []) ∷
    met 99 99 99 2 99 (24 ∷ 3 ∷ 2 ∷ 0 ∷ 0 ∷ []) ∷
    met 99 99 99 3 99 (15 ∷ 8 ∷ 3 ∷ 4 ∷ 5 ∷ []) ∷
    met 99 99 99 99 0 (25 ∷ 3 ∷ 3 ∷ 0 ∷ 0 ∷ []) ∷
    met 99 99 99 99 2 (25 ∷ 3 ∷ 3 ∷ 0 ∷ 0 ∷ []) ∷
    met 99 99 99 99 3 (25 ∷ 4 ∷ 3 ∷ 0 ∷ 3 ∷ []) ∷
    met 99 99 99 99 4 (25 ∷ 5 ∷ 3 ∷ 0 ∷ 4 ∷ []) ∷
    met 99 99 99 99 5 (15 ∷ 8 ∷ 3 ∷ 4 ∷ 5 ∷ []) ∷
    met 3 99 0 99 99 (23 ∷ 3 ∷ 1 ∷ 0 ∷ 0 ∷ []) ∷
    met 3 99 2 99 99 (23 ∷ 3 ∷ 1 ∷ 0 ∷ 0 ∷ []) ∷
    met 5 99 0 99 99 (23 ∷ 3 ∷ 1 ∷ 0 ∷ 0 ∷ []) ∷
    met 5 99 2 99 99 (23 ∷ 3 ∷ 1 ∷ 0 ∷ 0 ∷ []) ∷
    met 1 99 99 0 99 (24 ∷ 1 ∷ 0 ∷ 0 ∷ 0 ∷ []) ∷
    met 2 99 99 0 99 (24 ∷ 1 ∷ 0 ∷ 0 ∷ 0 ∷ []) ∷
    met 3 99 99 1 99 (24 ∷ 3 ∷ 1 ∷ 0 ∷ 0 ∷ []) ∷
    met 3 99 99 2 99 (24 ∷ 3 ∷ 2 ∷ 0 ∷ 0 ∷ []) ∷
    met 5 99 99 1 99 (24 ∷ 3 ∷ 1 ∷ 0 ∷ 0 ∷ []) ∷
    met 5 99 99 2 99 (24 ∷ 3 ∷ 2 ∷ 0 ∷ 0 ∷ []) ∷
    met 3 99 99 99 0 (25 ∷ 3 ∷ 3 ∷ 0 ∷ 0 ∷ []) ∷
    met 3 99 99 99 2 (25 ∷ 3 ∷ 3 ∷ 0 ∷ 0 ∷ []) ∷
    met 5 99 99 99 0 (25 ∷ 3 ∷ 3 ∷ 0 ∷ 0 ∷ []) ∷
    met 5 99 99 99 2 (25 ∷ 3 ∷ 3 ∷ 0 ∷ 0 ∷ []) ∷
    met 99 1 99 0 99 (24 ∷ 1 ∷ 0 ∷ 0 ∷ 0 ∷ []) ∷
    met 99 2 99 0 99 (24 ∷ 1 ∷ 0 ∷ 0 ∷ 0 ∷ []) ∷
    met 99 99 0 1 99 (23 ∷ 3 ∷ 1 ∷ 0 ∷ 0 ∷ []) ∷
    met 99 99 0 2 99 (23 ∷ 3 ∷ 1 ∷ 0 ∷ 0 ∷ []) ∷
    met 99 99 2 1 99 (23 ∷ 3 ∷ 1 ∷ 0 ∷ 0 ∷ []) ∷
    met 99 99 2 2 99 (23 ∷ 3 ∷ 1 ∷ 0 ∷ 0 ∷ []) ∷
    met 99 99 0 99 0 (23 ∷ 3 ∷ 1 ∷ 0 ∷ 0 ∷ []) ∷
    met 99 99 0 99 2 (23 ∷ 3 ∷ 1 ∷ 0 ∷ 0 ∷ []) ∷
    met 99 99 2 99 0 (23 ∷ 3 ∷ 1 ∷ 0 ∷ 0 ∷ []) ∷
    met 99 99 2 99 2 (23 ∷ 3 ∷ 1 ∷ 0 ∷ 0 ∷ []) ∷
    met 99 99 99 1 0 (24 ∷ 3 ∷ 1 ∷ 0 ∷ 0 ∷ []) ∷
    met 99 99 99 1 2 (24 ∷ 3 ∷ 1 ∷ 0 ∷ 0 ∷ []) ∷
    met 99 99 99 2 0 (24 ∷ 3 ∷ 2 ∷ 0 ∷ 0 ∷ []) ∷
    met 99 99 99 2 2 (24 ∷ 3 ∷ 2 ∷ 0 ∷ 0 ∷ []) ∷
    []

pub limited8 : map (λ q. ends first_call plan8 q.0) rows8 ≡ map (λ q. q.1) rows8
unfolding ends parts_of row_of find_row table plan_of declarations bindings_in end_from entries_end places_of part_line is_plain names plain_entries plain_plan lookup view occurs is_monotype substitute rename front_names after_front can_unify term_view lambda_of find links any_solved write_out_by write_out solution_nodes board_nodes find_var before perform operations instantiate_from subtype open_names signature_from insert push_vars check_patterns check_arms infer_app run_from check_type result_of run_of judge put lower level_made level_after levels_after none_above
limited8 = refl

-- an unknown split for an App on the right
abbrev plan9 : List Triple
plan9 = l 3 0 0 ∷ l 15 0 0 ∷ l 12 1 0 ∷ l 12 2 0 ∷ l 4 0 0 ∷ l 27 0 0 ∷ l 22 7 0 ∷ []

abbrev rows9 : List (Small × List ℕ)
rows9 =
    met 1 99 99 99 99 (22 ∷ 1 ∷ 1 ∷ 0 ∷ 0 ∷ []) ∷
    met 2 99 99 99 99 (22 ∷ 1 ∷ 1 ∷ 0 ∷ 0 ∷ []) ∷
    met 3 99 99 99 99 (22 ∷ 2 ∷ 2 ∷ 0 ∷ 0 ∷ []) ∷
    met 4 99 99 99 99 (22 ∷ 3 ∷ 3 ∷ 0 ∷ 0 ∷ []) ∷
    met 5 99 99 99 99 (22 ∷ 3 ∷ 3 ∷ 0 ∷ 0 ∷ []) ∷
    met 6 99 99 99 99 (0 ∷ 14 ∷ 5 ∷ 0 ∷ 7 ∷ []) ∷
    met 99 3 99 99 99 (22 ∷ 1 ∷ 1 ∷ 0 ∷ 0 ∷ []) ∷
    met 99 4 99 99 99 (22 ∷ 1 ∷ 1 ∷ 0 ∷ 0 ∷ []) ∷
    met 99 5 99 99 99 (22 ∷ 3 ∷ 3 ∷ 0 ∷ 0 ∷ []) ∷
    met 99 6 99 99 99 (22 ∷ 3 ∷ 3 ∷ 0 ∷ 0 ∷ []) ∷
    met 99 7 99 99 99 (22 ∷ 4 ∷ 3 ∷ 0 ∷ 0 ∷ []) ∷
    met 99 8 99 99 99 (0 ∷ 14 ∷ 5 ∷ 0 ∷ 7 ∷ []) ∷
    met 99 99 0 99 99 (23 ∷ 5 ∷ 3 ∷ 0 ∷ 0 ∷ []) ∷
    met 99 99 1 99 99 (23 ∷ 9 ∷ 3 ∷ 0 ∷ 2 ∷ []) ∷
    met 99 99 2 99 99 (23 ∷ 9 ∷ 3 ∷ 0 ∷ 2 ∷ []) ∷
    met 99 99 3 99 99 (0 ∷ 14 ∷ 5 ∷ 0 ∷ 7 ∷ []) ∷
    met 99 99 99 0 99 (24 ∷ 1 ∷ 0 ∷ 0 ∷ 0 ∷ []) ∷
    met 99 99 99 1 99 (24 ∷ 2 ∷ 1 ∷ 0 ∷ 0 ∷ []) ∷
    met 99 99 99 2 99 (24 ∷ 3 ∷ 2 ∷ 0 ∷ 0 ∷ []) ∷
    met 99 99 99 3 99 (24 ∷ 9 ∷ 3 ∷ 0 ∷ 2 ∷ []) ∷
    met 99 99 99 4 99 (24 ∷ 9 ∷ 4 ∷ 0 ∷ 2 ∷ []) ∷
    met 99 99 99 5 99 (0 ∷ 14 ∷ 5 ∷ 0 ∷ 7 ∷ []) ∷
    met 99 99 99 99 0 (25 ∷ 5 ∷ 3 ∷ 0 ∷ 0 ∷ []) ∷
    met 99 99 99 99 1 (25 ∷ 6 ∷ 3 ∷ 0 ∷ 1 ∷ []) ∷
    met 99 99 99 99 2 (25 ∷ 9 ∷ 5 ∷ 0 ∷ 2 ∷ []) ∷
    met 99 99 99 99 4 (25 ∷ 9 ∷ 5 ∷ 0 ∷ 2 ∷ []) ∷
    met 99 99 99 99 5 (25 ∷ 10 ∷ 5 ∷ 0 ∷ 5 ∷ []) ∷
    met 99 99 99 99 6 (25 ∷ 11 ∷ 5 ∷ 0 ∷ 6 ∷ []) ∷
    met 99 99 99 99 7 (0 ∷ 14 ∷ 5 ∷ 0 ∷ 7 ∷ []) ∷
    met 1 99 99 0 99 (24 ∷ 1 ∷ 0 ∷ 0 ∷ 0 ∷ []) ∷
    met 2 99 99 0 99 (24 ∷ 1 ∷ 0 ∷ 0 ∷ 0 ∷ []) ∷
    met 3 99 99 1 99 (24 ∷ 2 ∷ 1 ∷ 0 ∷ 0 ∷ []) ∷
    met 4 99 99 2 99 (24 ∷ 3 ∷ 2 ∷ 0 ∷ 0 ∷ []) ∷
    met 5 99 99 2 99 (24 ∷ 3 ∷ 2 ∷ 0 ∷ 0 ∷ []) ∷
    met 99 3 99 0 99 (24 ∷ 1 ∷ 0 ∷ 0 ∷ 0 ∷ []) ∷
    met 99 4 99 0 99 (24 ∷ 1 ∷ 0 ∷ 0 ∷ 0 ∷ []) ∷
    met 99 5 99 2 99 (24 ∷ 3 ∷ 2 ∷ 0 ∷ 0 ∷ []) ∷
    met 99 6 99 2 99 (24 ∷ 3 ∷ 2 ∷ 0 ∷ 0 ∷ []) ∷
    met 99 99 1 3 99 (23 ∷ 9 ∷ 3 ∷ 0 ∷ 2 ∷ []) ∷
    met 99 99 1 4 99 (23 ∷ 9 ∷ 3 ∷ 0 ∷ 2 ∷ []) ∷
    met 99 99 2 3 99 (23 ∷ 9 ∷ 3 ∷ 0 ∷ 2 ∷ []) ∷
    met 99 99 2 4 99 (23 ∷ 9 ∷ 3 ∷ 0 ∷ 2 ∷ []) ∷
    met 99 99 0 99 0 (23 ∷ 5 ∷ 3 ∷ 0 ∷ 0 ∷ []) ∷
    met 99 99 1 99 2 (23 ∷ 9 ∷ 3 ∷ 0 ∷ 2 ∷ []) ∷
    met 99 99 1 99 4 (23 ∷ 9 ∷ 3 ∷ 0 ∷ 2 ∷ []) ∷
    met 99 99 2 99 2 (23 ∷ 9 ∷ 3 ∷ 0 ∷ 2 ∷ []) ∷
    met 99 99 2 99 4 (23 ∷ 9 ∷ 3 ∷ 0 ∷ 2 ∷ []) ∷
    met 99 99 99 3 2 (24 ∷ 9 ∷ 3 ∷ 0 ∷ 2 ∷ []) ∷
    met 99 99 99 3 4 (24 ∷ 9 ∷ 3 ∷ 0 ∷ 2 ∷ []) ∷
    met 99 99 99 4 2 (24 ∷ 9 ∷ 4 ∷ 0 ∷ 2 ∷ []) ∷
    met 99 99 99 4 4 (24 ∷ 9 ∷ 4 ∷ 0 ∷ 2 ∷ []) ∷
    []

pub limited9 : map (λ q. ends first_call plan9 q.0) rows9 ≡ map (λ q. q.1) rows9
unfolding ends parts_of row_of find_row table plan_of declarations bindings_in end_from entries_end places_of part_line is_plain names plain_entries plain_plan lookup view occurs is_monotype substitute rename front_names after_front can_unify term_view lambda_of find links any_solved write_out_by write_out solution_nodes board_nodes find_var before perform operations instantiate_from subtype open_names signature_from insert push_vars check_patterns check_arms infer_app run_from check_type result_of run_of judge put lower level_made level_after levels_after none_above
limited9 = refl

-- App on the left
abbrev plan10 : List Triple
plan10 = l 2 40 0 ∷ l 15 0 0 ∷ l 12 1 0 ∷ l 12 2 0 ∷ l 3 0 0 ∷ l 12 3 0 ∷ l 4 0 0 ∷ l 21 40 0 ∷ []

abbrev rows10 : List (Small × List ℕ)
rows10 =
    met 1 99 99 99 99 (22 ∷ 1 ∷ 1 ∷ 0 ∷ 0 ∷ []) ∷
    met 2 99 99 99 99 (22 ∷ 1 ∷ 1 ∷ 0 ∷ 0 ∷ []) ∷
    met 3 99 99 99 99 (22 ∷ 3 ∷ 3 ∷ 0 ∷ 3 ∷ []) ∷
    met 5 99 99 99 99 (22 ∷ 3 ∷ 3 ∷ 0 ∷ 3 ∷ []) ∷
    met 6 99 99 99 99 (15 ∷ 8 ∷ 3 ∷ 4 ∷ 5 ∷ []) ∷
    met 99 1 99 99 99 (22 ∷ 1 ∷ 1 ∷ 0 ∷ 0 ∷ []) ∷
    met 99 2 99 99 99 (22 ∷ 1 ∷ 1 ∷ 0 ∷ 0 ∷ []) ∷
    met 99 3 99 99 99 (22 ∷ 2 ∷ 1 ∷ 0 ∷ 0 ∷ []) ∷
    met 99 5 99 99 99 (22 ∷ 2 ∷ 1 ∷ 0 ∷ 0 ∷ []) ∷
    met 99 6 99 99 99 (15 ∷ 8 ∷ 3 ∷ 4 ∷ 5 ∷ []) ∷
    met 99 99 0 99 99 (23 ∷ 3 ∷ 1 ∷ 0 ∷ 0 ∷ []) ∷
    met 99 99 2 99 99 (23 ∷ 3 ∷ 1 ∷ 0 ∷ 0 ∷ []) ∷
    met 99 99 3 99 99 (15 ∷ 8 ∷ 3 ∷ 4 ∷ 5 ∷ []) ∷
    met 99 99 99 0 99 (24 ∷ 1 ∷ 0 ∷ 0 ∷ 0 ∷ []) ∷
    met 99 99 99 1 99 (24 ∷ 3 ∷ 1 ∷ 0 ∷ 0 ∷ []) ∷
    met 99 99 99 2 99 (24 ∷ 3 ∷ 2 ∷ 0 ∷ 0 ∷ []) ∷
    met 99 99 99 3 99 (15 ∷ 8 ∷ 3 ∷ 4 ∷ 5 ∷ []) ∷
    met 99 99 99 99 0 (25 ∷ 3 ∷ 3 ∷ 0 ∷ 0 ∷ []) ∷
    met 99 99 99 99 2 (25 ∷ 3 ∷ 3 ∷ 0 ∷ 0 ∷ []) ∷
    met 99 99 99 99 3 (25 ∷ 4 ∷ 3 ∷ 0 ∷ 3 ∷ []) ∷
    met 99 99 99 99 4 (25 ∷ 5 ∷ 3 ∷ 0 ∷ 4 ∷ []) ∷
    met 99 99 99 99 5 (15 ∷ 8 ∷ 3 ∷ 4 ∷ 5 ∷ []) ∷
    met 3 99 0 99 99 (23 ∷ 3 ∷ 1 ∷ 0 ∷ 0 ∷ []) ∷
    met 3 99 2 99 99 (23 ∷ 3 ∷ 1 ∷ 0 ∷ 0 ∷ []) ∷
    met 5 99 0 99 99 (23 ∷ 3 ∷ 1 ∷ 0 ∷ 0 ∷ []) ∷
    met 5 99 2 99 99 (23 ∷ 3 ∷ 1 ∷ 0 ∷ 0 ∷ []) ∷
    met 1 99 99 0 99 (24 ∷ 1 ∷ 0 ∷ 0 ∷ 0 ∷ []) ∷
    met 2 99 99 0 99 (24 ∷ 1 ∷ 0 ∷ 0 ∷ 0 ∷ []) ∷
    met 3 99 99 1 99 (24 ∷ 3 ∷ 1 ∷ 0 ∷ 0 ∷ []) ∷
    met 3 99 99 2 99 (24 ∷ 3 ∷ 2 ∷ 0 ∷ 0 ∷ []) ∷
    met 5 99 99 1 99 (24 ∷ 3 ∷ 1 ∷ 0 ∷ 0 ∷ []) ∷
    met 5 99 99 2 99 (24 ∷ 3 ∷ 2 ∷ 0 ∷ 0 ∷ []) ∷
    met 3 99 99 99 0 (25 ∷ 3 ∷ 3 ∷ 0 ∷ 0 ∷ []) ∷
    met 3 99 99 99 2 (25 ∷ 3 ∷ 3 ∷ 0 ∷ 0 ∷ []) ∷
    met 5 99 99 99 0 (25 ∷ 3 ∷ 3 ∷ 0 ∷ 0 ∷ []) ∷
    met 5 99 99 99 2 (25 ∷ 3 ∷ 3 ∷ 0 ∷ 0 ∷ []) ∷
    met 99 1 99 0 99 (24 ∷ 1 ∷ 0 ∷ 0 ∷ 0 ∷ []) ∷
    met 99 2 99 0 99 (24 ∷ 1 ∷ 0 ∷ 0 ∷ 0 ∷ []) ∷
    met 99 99 0 1 99 (23 ∷ 3 ∷ 1 ∷ 0 ∷ 0 ∷ []) ∷
    met 99 99 0 2 99 (23 ∷ 3 ∷ 1 ∷ 0 ∷ 0 ∷ []) ∷
    met 99 99 2 1 99 (23 ∷ 3 ∷ 1 ∷ 0 ∷ 0 ∷ []) ∷
    met 99 99 2 2 99 (23 ∷ 3 ∷ 1 ∷ 0 ∷ 0 ∷ []) ∷
    met 99 99 0 99 0 (23 ∷ 3 ∷ 1 ∷ 0 ∷ 0 ∷ []) ∷
    met 99 99 0 99 2 (23 ∷ 3 ∷ 1 ∷ 0 ∷ 0 ∷ []) ∷
    met 99 99 2 99 0 (23 ∷ 3 ∷ 1 ∷ 0 ∷ 0 ∷ []) ∷
    met 99 99 2 99 2 (23 ∷ 3 ∷ 1 ∷ 0 ∷ 0 ∷ []) ∷
    met 99 99 99 1 0 (24 ∷ 3 ∷ 1 ∷ 0 ∷ 0 ∷ []) ∷
    met 99 99 99 1 2 (24 ∷ 3 ∷ 1 ∷ 0 ∷ 0 ∷ []) ∷
    met 99 99 99 2 0 (24 ∷ 3 ∷ 2 ∷ 0 ∷ 0 ∷ []) ∷
    met 99 99 99 2 2 (24 ∷ 3 ∷ 2 ∷ 0 ∷ 0 ∷ []) ∷
    []

pub limited10 : map (λ q. ends first_call plan10 q.0) rows10 ≡ map (λ q. q.1) rows10
unfolding ends parts_of row_of find_row table plan_of declarations bindings_in end_from entries_end places_of part_line is_plain names plain_entries plain_plan lookup view occurs is_monotype substitute rename front_names after_front can_unify term_view lambda_of find links any_solved write_out_by write_out solution_nodes board_nodes find_var before perform operations instantiate_from subtype open_names signature_from insert push_vars check_patterns check_arms infer_app run_from check_type result_of run_of judge put lower level_made level_after levels_after none_above
limited10 = refl

-- a quantifier on the left
abbrev plan11 : List Triple
plan11 = l 2 40 0 ∷ l 14 12 0 ∷ l 11 12 0 ∷ l 3 0 0 ∷ l 12 1 0 ∷ l 4 0 0 ∷ l 21 40 0 ∷ []

abbrev rows11 : List (Small × List ℕ)
rows11 =
    met 1 99 99 99 99 (22 ∷ 1 ∷ 1 ∷ 0 ∷ 0 ∷ []) ∷
    met 2 99 99 99 99 (22 ∷ 1 ∷ 1 ∷ 0 ∷ 0 ∷ []) ∷
    met 3 99 99 99 99 (22 ∷ 3 ∷ 2 ∷ 0 ∷ 0 ∷ []) ∷
    met 4 99 99 99 99 (22 ∷ 3 ∷ 2 ∷ 0 ∷ 0 ∷ []) ∷
    met 5 99 99 99 99 (0 ∷ 8 ∷ 2 ∷ 0 ∷ 2 ∷ []) ∷
    met 99 1 99 99 99 (22 ∷ 1 ∷ 1 ∷ 0 ∷ 0 ∷ []) ∷
    met 99 2 99 99 99 (22 ∷ 1 ∷ 1 ∷ 0 ∷ 0 ∷ []) ∷
    met 99 3 99 99 99 (22 ∷ 2 ∷ 1 ∷ 0 ∷ 0 ∷ []) ∷
    met 99 4 99 99 99 (22 ∷ 2 ∷ 1 ∷ 0 ∷ 0 ∷ []) ∷
    met 99 5 99 99 99 (0 ∷ 8 ∷ 2 ∷ 0 ∷ 2 ∷ []) ∷
    met 99 99 0 99 99 (23 ∷ 3 ∷ 1 ∷ 0 ∷ 0 ∷ []) ∷
    met 99 99 1 99 99 (23 ∷ 3 ∷ 1 ∷ 0 ∷ 0 ∷ []) ∷
    met 99 99 2 99 99 (0 ∷ 8 ∷ 2 ∷ 0 ∷ 2 ∷ []) ∷
    met 99 99 99 0 99 (24 ∷ 1 ∷ 0 ∷ 0 ∷ 0 ∷ []) ∷
    met 99 99 99 1 99 (24 ∷ 3 ∷ 1 ∷ 0 ∷ 0 ∷ []) ∷
    met 99 99 99 2 99 (0 ∷ 8 ∷ 2 ∷ 0 ∷ 2 ∷ []) ∷
    met 99 99 99 99 0 (25 ∷ 4 ∷ 2 ∷ 0 ∷ 0 ∷ []) ∷
    met 99 99 99 99 1 (25 ∷ 7 ∷ 2 ∷ 0 ∷ 1 ∷ []) ∷
    met 99 99 99 99 2 (0 ∷ 8 ∷ 2 ∷ 0 ∷ 2 ∷ []) ∷
    met 3 99 0 99 99 (23 ∷ 3 ∷ 1 ∷ 0 ∷ 0 ∷ []) ∷
    met 3 99 1 99 99 (23 ∷ 3 ∷ 1 ∷ 0 ∷ 0 ∷ []) ∷
    met 4 99 0 99 99 (23 ∷ 3 ∷ 1 ∷ 0 ∷ 0 ∷ []) ∷
    met 4 99 1 99 99 (23 ∷ 3 ∷ 1 ∷ 0 ∷ 0 ∷ []) ∷
    met 1 99 99 0 99 (24 ∷ 1 ∷ 0 ∷ 0 ∷ 0 ∷ []) ∷
    met 2 99 99 0 99 (24 ∷ 1 ∷ 0 ∷ 0 ∷ 0 ∷ []) ∷
    met 3 99 99 1 99 (24 ∷ 3 ∷ 1 ∷ 0 ∷ 0 ∷ []) ∷
    met 4 99 99 1 99 (24 ∷ 3 ∷ 1 ∷ 0 ∷ 0 ∷ []) ∷
    met 99 1 99 0 99 (24 ∷ 1 ∷ 0 ∷ 0 ∷ 0 ∷ []) ∷
    met 99 2 99 0 99 (24 ∷ 1 ∷ 0 ∷ 0 ∷ 0 ∷ []) ∷
    met 99 99 0 1 99 (23 ∷ 3 ∷ 1 ∷ 0 ∷ 0 ∷ []) ∷
    met 99 99 1 1 99 (23 ∷ 3 ∷ 1 ∷ 0 ∷ 0 ∷ []) ∷
    []

pub limited11 : map (λ q. ends first_call plan11 q.0) rows11 ≡ map (λ q. q.1) rows11
unfolding ends parts_of row_of find_row table plan_of declarations bindings_in end_from entries_end places_of part_line is_plain names plain_entries plain_plan lookup view occurs is_monotype substitute rename front_names after_front can_unify term_view lambda_of find links any_solved write_out_by write_out solution_nodes board_nodes find_var before perform operations instantiate_from subtype open_names signature_from insert push_vars check_patterns check_arms infer_app run_from check_type result_of run_of judge put lower level_made level_after levels_after none_above
limited11 = refl

-- a quantifier on the right
abbrev plan12 : List Triple
plan12 = l 3 0 0 ∷ l 13 0 0 ∷ l 12 1 0 ∷ l 14 11 0 ∷ l 13 0 0 ∷ l 12 1 0 ∷ l 12 1 0 ∷ l 4 0 0 ∷ l 27 0 0 ∷ l 22 7 0 ∷ []

abbrev rows12 : List (Small × List ℕ)
rows12 =
    met 1 99 99 99 99 (22 ∷ 1 ∷ 1 ∷ 0 ∷ 0 ∷ []) ∷
    met 2 99 99 99 99 (22 ∷ 1 ∷ 1 ∷ 0 ∷ 0 ∷ []) ∷
    met 3 99 99 99 99 (22 ∷ 2 ∷ 2 ∷ 0 ∷ 0 ∷ []) ∷
    met 4 99 99 99 99 (22 ∷ 3 ∷ 3 ∷ 0 ∷ 0 ∷ []) ∷
    met 5 99 99 99 99 (22 ∷ 3 ∷ 3 ∷ 0 ∷ 0 ∷ []) ∷
    met 6 99 99 99 99 (22 ∷ 11 ∷ 8 ∷ 0 ∷ 8 ∷ []) ∷
    met 8 99 99 99 99 (22 ∷ 11 ∷ 8 ∷ 0 ∷ 8 ∷ []) ∷
    met 9 99 99 99 99 (0 ∷ 20 ∷ 8 ∷ 0 ∷ 11 ∷ []) ∷
    met 99 6 99 99 99 (22 ∷ 1 ∷ 1 ∷ 0 ∷ 0 ∷ []) ∷
    met 99 7 99 99 99 (22 ∷ 1 ∷ 1 ∷ 0 ∷ 0 ∷ []) ∷
    met 99 8 99 99 99 (22 ∷ 3 ∷ 3 ∷ 0 ∷ 0 ∷ []) ∷
    met 99 9 99 99 99 (22 ∷ 3 ∷ 3 ∷ 0 ∷ 0 ∷ []) ∷
    met 99 10 99 99 99 (22 ∷ 4 ∷ 3 ∷ 0 ∷ 0 ∷ []) ∷
    met 99 11 99 99 99 (0 ∷ 20 ∷ 8 ∷ 0 ∷ 11 ∷ []) ∷
    met 99 99 0 99 99 (23 ∷ 5 ∷ 3 ∷ 0 ∷ 0 ∷ []) ∷
    met 99 99 1 99 99 (23 ∷ 9 ∷ 3 ∷ 0 ∷ 2 ∷ []) ∷
    met 99 99 5 99 99 (23 ∷ 9 ∷ 3 ∷ 0 ∷ 2 ∷ []) ∷
    met 99 99 6 99 99 (0 ∷ 20 ∷ 8 ∷ 0 ∷ 11 ∷ []) ∷
    met 99 99 99 0 99 (24 ∷ 1 ∷ 0 ∷ 0 ∷ 0 ∷ []) ∷
    met 99 99 99 1 99 (24 ∷ 2 ∷ 1 ∷ 0 ∷ 0 ∷ []) ∷
    met 99 99 99 2 99 (24 ∷ 3 ∷ 2 ∷ 0 ∷ 0 ∷ []) ∷
    met 99 99 99 3 99 (24 ∷ 9 ∷ 3 ∷ 0 ∷ 2 ∷ []) ∷
    met 99 99 99 4 99 (24 ∷ 9 ∷ 4 ∷ 0 ∷ 2 ∷ []) ∷
    met 99 99 99 5 99 (24 ∷ 10 ∷ 5 ∷ 0 ∷ 5 ∷ []) ∷
    met 99 99 99 6 99 (24 ∷ 11 ∷ 6 ∷ 0 ∷ 5 ∷ []) ∷
    met 99 99 99 7 99 (24 ∷ 11 ∷ 7 ∷ 0 ∷ 5 ∷ []) ∷
    met 99 99 99 8 99 (0 ∷ 20 ∷ 8 ∷ 0 ∷ 11 ∷ []) ∷
    met 99 99 99 99 0 (25 ∷ 5 ∷ 3 ∷ 0 ∷ 0 ∷ []) ∷
    met 99 99 99 99 1 (25 ∷ 6 ∷ 3 ∷ 0 ∷ 1 ∷ []) ∷
    met 99 99 99 99 2 (25 ∷ 9 ∷ 5 ∷ 0 ∷ 2 ∷ []) ∷
    met 99 99 99 99 4 (25 ∷ 9 ∷ 5 ∷ 0 ∷ 2 ∷ []) ∷
    met 99 99 99 99 5 (25 ∷ 11 ∷ 8 ∷ 0 ∷ 5 ∷ []) ∷
    met 99 99 99 99 7 (25 ∷ 11 ∷ 8 ∷ 0 ∷ 5 ∷ []) ∷
    met 99 99 99 99 8 (25 ∷ 12 ∷ 8 ∷ 0 ∷ 8 ∷ []) ∷
    met 99 99 99 99 9 (25 ∷ 13 ∷ 8 ∷ 0 ∷ 9 ∷ []) ∷
    met 99 99 99 99 10 (25 ∷ 17 ∷ 8 ∷ 0 ∷ 10 ∷ []) ∷
    met 99 99 99 99 11 (0 ∷ 20 ∷ 8 ∷ 0 ∷ 11 ∷ []) ∷
    met 1 99 99 0 99 (24 ∷ 1 ∷ 0 ∷ 0 ∷ 0 ∷ []) ∷
    met 2 99 99 0 99 (24 ∷ 1 ∷ 0 ∷ 0 ∷ 0 ∷ []) ∷
    met 3 99 99 1 99 (24 ∷ 2 ∷ 1 ∷ 0 ∷ 0 ∷ []) ∷
    met 4 99 99 2 99 (24 ∷ 3 ∷ 2 ∷ 0 ∷ 0 ∷ []) ∷
    met 5 99 99 2 99 (24 ∷ 3 ∷ 2 ∷ 0 ∷ 0 ∷ []) ∷
    met 6 99 99 6 99 (24 ∷ 11 ∷ 6 ∷ 0 ∷ 5 ∷ []) ∷
    met 6 99 99 7 99 (24 ∷ 11 ∷ 7 ∷ 0 ∷ 5 ∷ []) ∷
    met 8 99 99 6 99 (24 ∷ 11 ∷ 6 ∷ 0 ∷ 5 ∷ []) ∷
    met 8 99 99 7 99 (24 ∷ 11 ∷ 7 ∷ 0 ∷ 5 ∷ []) ∷
    met 6 99 99 99 5 (25 ∷ 11 ∷ 8 ∷ 0 ∷ 5 ∷ []) ∷
    met 6 99 99 99 7 (25 ∷ 11 ∷ 8 ∷ 0 ∷ 5 ∷ []) ∷
    met 8 99 99 99 5 (25 ∷ 11 ∷ 8 ∷ 0 ∷ 5 ∷ []) ∷
    met 8 99 99 99 7 (25 ∷ 11 ∷ 8 ∷ 0 ∷ 5 ∷ []) ∷
    met 99 6 99 0 99 (24 ∷ 1 ∷ 0 ∷ 0 ∷ 0 ∷ []) ∷
    met 99 7 99 0 99 (24 ∷ 1 ∷ 0 ∷ 0 ∷ 0 ∷ []) ∷
    met 99 8 99 2 99 (24 ∷ 3 ∷ 2 ∷ 0 ∷ 0 ∷ []) ∷
    met 99 9 99 2 99 (24 ∷ 3 ∷ 2 ∷ 0 ∷ 0 ∷ []) ∷
    met 99 99 1 3 99 (23 ∷ 9 ∷ 3 ∷ 0 ∷ 2 ∷ []) ∷
    met 99 99 1 4 99 (23 ∷ 9 ∷ 3 ∷ 0 ∷ 2 ∷ []) ∷
    met 99 99 5 3 99 (23 ∷ 9 ∷ 3 ∷ 0 ∷ 2 ∷ []) ∷
    met 99 99 5 4 99 (23 ∷ 9 ∷ 3 ∷ 0 ∷ 2 ∷ []) ∷
    met 99 99 0 99 0 (23 ∷ 5 ∷ 3 ∷ 0 ∷ 0 ∷ []) ∷
    met 99 99 1 99 2 (23 ∷ 9 ∷ 3 ∷ 0 ∷ 2 ∷ []) ∷
    met 99 99 1 99 4 (23 ∷ 9 ∷ 3 ∷ 0 ∷ 2 ∷ []) ∷
    met 99 99 5 99 2 (23 ∷ 9 ∷ 3 ∷ 0 ∷ 2 ∷ []) ∷
    met 99 99 5 99 4 (23 ∷ 9 ∷ 3 ∷ 0 ∷ 2 ∷ []) ∷
    met 99 99 99 3 2 (24 ∷ 9 ∷ 3 ∷ 0 ∷ 2 ∷ []) ∷
    met 99 99 99 3 4 (24 ∷ 9 ∷ 3 ∷ 0 ∷ 2 ∷ []) ∷
    met 99 99 99 4 2 (24 ∷ 9 ∷ 4 ∷ 0 ∷ 2 ∷ []) ∷
    met 99 99 99 4 4 (24 ∷ 9 ∷ 4 ∷ 0 ∷ 2 ∷ []) ∷
    met 99 99 99 6 5 (24 ∷ 11 ∷ 6 ∷ 0 ∷ 5 ∷ []) ∷
    met 99 99 99 6 7 (24 ∷ 11 ∷ 6 ∷ 0 ∷ 5 ∷ []) ∷
    met 99 99 99 7 5 (24 ∷ 11 ∷ 7 ∷ 0 ∷ 5 ∷ []) ∷
    met 99 99 99 7 7 (24 ∷ 11 ∷ 7 ∷ 0 ∷ 5 ∷ []) ∷
    []

pub limited12 : map (λ q. ends first_call plan12 q.0) rows12 ≡ map (λ q. q.1) rows12
unfolding ends parts_of row_of find_row table plan_of declarations bindings_in end_from entries_end places_of part_line is_plain names plain_entries plain_plan lookup view occurs is_monotype substitute rename front_names after_front can_unify term_view lambda_of find links any_solved write_out_by write_out solution_nodes board_nodes find_var before perform operations instantiate_from subtype open_names signature_from insert push_vars check_patterns check_arms infer_app run_from check_type result_of run_of judge put lower level_made level_after levels_after none_above
limited12 = refl

-- two quantifiers at once
abbrev plan13 : List Triple
plan13 = l 3 0 0 ∷ l 13 0 0 ∷ l 14 11 0 ∷ l 14 12 0 ∷ l 12 1 0 ∷ l 12 1 0 ∷ l 4 0 0 ∷ l 27 0 0 ∷ l 22 7 0 ∷ []

abbrev rows13 : List (Small × List ℕ)
rows13 =
    met 1 99 99 99 99 (22 ∷ 1 ∷ 1 ∷ 0 ∷ 0 ∷ []) ∷
    met 2 99 99 99 99 (22 ∷ 1 ∷ 1 ∷ 0 ∷ 0 ∷ []) ∷
    met 3 99 99 99 99 (22 ∷ 2 ∷ 2 ∷ 0 ∷ 0 ∷ []) ∷
    met 4 99 99 99 99 (22 ∷ 3 ∷ 3 ∷ 0 ∷ 0 ∷ []) ∷
    met 5 99 99 99 99 (22 ∷ 3 ∷ 3 ∷ 0 ∷ 0 ∷ []) ∷
    met 6 99 99 99 99 (22 ∷ 12 ∷ 7 ∷ 0 ∷ 6 ∷ []) ∷
    met 7 99 99 99 99 (22 ∷ 12 ∷ 7 ∷ 0 ∷ 6 ∷ []) ∷
    met 8 99 99 99 99 (0 ∷ 20 ∷ 7 ∷ 0 ∷ 7 ∷ []) ∷
    met 99 5 99 99 99 (22 ∷ 1 ∷ 1 ∷ 0 ∷ 0 ∷ []) ∷
    met 99 6 99 99 99 (22 ∷ 1 ∷ 1 ∷ 0 ∷ 0 ∷ []) ∷
    met 99 7 99 99 99 (22 ∷ 3 ∷ 3 ∷ 0 ∷ 0 ∷ []) ∷
    met 99 8 99 99 99 (22 ∷ 3 ∷ 3 ∷ 0 ∷ 0 ∷ []) ∷
    met 99 9 99 99 99 (22 ∷ 4 ∷ 3 ∷ 0 ∷ 0 ∷ []) ∷
    met 99 10 99 99 99 (0 ∷ 20 ∷ 7 ∷ 0 ∷ 7 ∷ []) ∷
    met 99 99 0 99 99 (23 ∷ 5 ∷ 3 ∷ 0 ∷ 0 ∷ []) ∷
    met 99 99 1 99 99 (23 ∷ 9 ∷ 3 ∷ 0 ∷ 2 ∷ []) ∷
    met 99 99 4 99 99 (23 ∷ 9 ∷ 3 ∷ 0 ∷ 2 ∷ []) ∷
    met 99 99 5 99 99 (0 ∷ 20 ∷ 7 ∷ 0 ∷ 7 ∷ []) ∷
    met 99 99 99 0 99 (24 ∷ 1 ∷ 0 ∷ 0 ∷ 0 ∷ []) ∷
    met 99 99 99 1 99 (24 ∷ 2 ∷ 1 ∷ 0 ∷ 0 ∷ []) ∷
    met 99 99 99 2 99 (24 ∷ 3 ∷ 2 ∷ 0 ∷ 0 ∷ []) ∷
    met 99 99 99 3 99 (24 ∷ 9 ∷ 3 ∷ 0 ∷ 2 ∷ []) ∷
    met 99 99 99 4 99 (24 ∷ 9 ∷ 4 ∷ 0 ∷ 2 ∷ []) ∷
    met 99 99 99 5 99 (24 ∷ 11 ∷ 5 ∷ 0 ∷ 6 ∷ []) ∷
    met 99 99 99 6 99 (24 ∷ 12 ∷ 6 ∷ 0 ∷ 6 ∷ []) ∷
    met 99 99 99 7 99 (0 ∷ 20 ∷ 7 ∷ 0 ∷ 7 ∷ []) ∷
    met 99 99 99 99 0 (25 ∷ 5 ∷ 3 ∷ 0 ∷ 0 ∷ []) ∷
    met 99 99 99 99 1 (25 ∷ 6 ∷ 3 ∷ 0 ∷ 1 ∷ []) ∷
    met 99 99 99 99 2 (25 ∷ 9 ∷ 5 ∷ 0 ∷ 2 ∷ []) ∷
    met 99 99 99 99 4 (25 ∷ 9 ∷ 5 ∷ 0 ∷ 2 ∷ []) ∷
    met 99 99 99 99 5 (25 ∷ 10 ∷ 5 ∷ 0 ∷ 5 ∷ []) ∷
    met 99 99 99 99 6 (25 ∷ 13 ∷ 7 ∷ 0 ∷ 6 ∷ []) ∷
    met 99 99 99 99 7 (0 ∷ 20 ∷ 7 ∷ 0 ∷ 7 ∷ []) ∷
    met 1 99 99 0 99 (24 ∷ 1 ∷ 0 ∷ 0 ∷ 0 ∷ []) ∷
    met 2 99 99 0 99 (24 ∷ 1 ∷ 0 ∷ 0 ∷ 0 ∷ []) ∷
    met 3 99 99 1 99 (24 ∷ 2 ∷ 1 ∷ 0 ∷ 0 ∷ []) ∷
    met 4 99 99 2 99 (24 ∷ 3 ∷ 2 ∷ 0 ∷ 0 ∷ []) ∷
    met 5 99 99 2 99 (24 ∷ 3 ∷ 2 ∷ 0 ∷ 0 ∷ []) ∷
    met 6 99 99 6 99 (24 ∷ 12 ∷ 6 ∷ 0 ∷ 6 ∷ []) ∷
    met 7 99 99 6 99 (24 ∷ 12 ∷ 6 ∷ 0 ∷ 6 ∷ []) ∷
    met 99 5 99 0 99 (24 ∷ 1 ∷ 0 ∷ 0 ∷ 0 ∷ []) ∷
    met 99 6 99 0 99 (24 ∷ 1 ∷ 0 ∷ 0 ∷ 0 ∷ []) ∷
    met 99 7 99 2 99 (24 ∷ 3 ∷ 2 ∷ 0 ∷ 0 ∷ []) ∷
    met 99 8 99 2 99 (24 ∷ 3 ∷ 2 ∷ 0 ∷ 0 ∷ []) ∷
    met 99 99 1 3 99 (23 ∷ 9 ∷ 3 ∷ 0 ∷ 2 ∷ []) ∷
    met 99 99 1 4 99 (23 ∷ 9 ∷ 3 ∷ 0 ∷ 2 ∷ []) ∷
    met 99 99 4 3 99 (23 ∷ 9 ∷ 3 ∷ 0 ∷ 2 ∷ []) ∷
    met 99 99 4 4 99 (23 ∷ 9 ∷ 3 ∷ 0 ∷ 2 ∷ []) ∷
    met 99 99 0 99 0 (23 ∷ 5 ∷ 3 ∷ 0 ∷ 0 ∷ []) ∷
    met 99 99 1 99 2 (23 ∷ 9 ∷ 3 ∷ 0 ∷ 2 ∷ []) ∷
    met 99 99 1 99 4 (23 ∷ 9 ∷ 3 ∷ 0 ∷ 2 ∷ []) ∷
    met 99 99 4 99 2 (23 ∷ 9 ∷ 3 ∷ 0 ∷ 2 ∷ []) ∷
    met 99 99 4 99 4 (23 ∷ 9 ∷ 3 ∷ 0 ∷ 2 ∷ []) ∷
    met 99 99 99 3 2 (24 ∷ 9 ∷ 3 ∷ 0 ∷ 2 ∷ []) ∷
    met 99 99 99 3 4 (24 ∷ 9 ∷ 3 ∷ 0 ∷ 2 ∷ []) ∷
    met 99 99 99 4 2 (24 ∷ 9 ∷ 4 ∷ 0 ∷ 2 ∷ []) ∷
    met 99 99 99 4 4 (24 ∷ 9 ∷ 4 ∷ 0 ∷ 2 ∷ []) ∷
    []

pub limited13 : map (λ q. ends first_call plan13 q.0) rows13 ≡ map (λ q. q.1) rows13
unfolding ends parts_of row_of find_row table plan_of declarations bindings_in end_from entries_end places_of part_line is_plain names plain_entries plain_plan lookup view occurs is_monotype substitute rename front_names after_front can_unify term_view lambda_of find links any_solved write_out_by write_out solution_nodes board_nodes find_var before perform operations instantiate_from subtype open_names signature_from insert push_vars check_patterns check_arms infer_app run_from check_type result_of run_of judge put lower level_made level_after levels_after none_above
limited13 = refl

-- Arrow and Arrow
abbrev plan14 : List Triple
plan14 = l 3 0 0 ∷ l 13 0 0 ∷ l 13 0 0 ∷ l 12 1 0 ∷ l 12 1 0 ∷ l 12 1 0 ∷ l 4 0 0 ∷ l 23 10 0 ∷ l 13 0 0 ∷ l 12 1 0 ∷ l 12 1 0 ∷ l 22 7 0 ∷ []

abbrev rows14 : List (Small × List ℕ)
rows14 =
    met 1 99 99 99 99 (22 ∷ 1 ∷ 0 ∷ 0 ∷ 0 ∷ []) ∷
    met 2 99 99 99 99 (22 ∷ 1 ∷ 0 ∷ 0 ∷ 0 ∷ []) ∷
    met 3 99 99 99 99 (22 ∷ 2 ∷ 1 ∷ 0 ∷ 0 ∷ []) ∷
    met 4 99 99 99 99 (22 ∷ 2 ∷ 1 ∷ 0 ∷ 0 ∷ []) ∷
    met 5 99 99 99 99 (0 ∷ 8 ∷ 1 ∷ 0 ∷ 1 ∷ []) ∷
    met 99 5 99 99 99 (22 ∷ 1 ∷ 0 ∷ 0 ∷ 0 ∷ []) ∷
    met 99 9 99 99 99 (22 ∷ 1 ∷ 0 ∷ 0 ∷ 0 ∷ []) ∷
    met 99 10 99 99 99 (22 ∷ 2 ∷ 1 ∷ 0 ∷ 0 ∷ []) ∷
    met 99 11 99 99 99 (22 ∷ 2 ∷ 1 ∷ 0 ∷ 0 ∷ []) ∷
    met 99 12 99 99 99 (22 ∷ 3 ∷ 1 ∷ 0 ∷ 0 ∷ []) ∷
    met 99 13 99 99 99 (0 ∷ 8 ∷ 1 ∷ 0 ∷ 1 ∷ []) ∷
    met 99 99 0 99 99 (23 ∷ 4 ∷ 1 ∷ 0 ∷ 0 ∷ []) ∷
    met 99 99 1 99 99 (23 ∷ 8 ∷ 1 ∷ 0 ∷ 1 ∷ []) ∷
    met 99 99 2 99 99 (23 ∷ 8 ∷ 1 ∷ 0 ∷ 1 ∷ []) ∷
    met 99 99 3 99 99 (0 ∷ 8 ∷ 1 ∷ 0 ∷ 1 ∷ []) ∷
    met 99 99 99 0 99 (24 ∷ 2 ∷ 0 ∷ 0 ∷ 0 ∷ []) ∷
    met 99 99 99 1 99 (0 ∷ 8 ∷ 1 ∷ 0 ∷ 1 ∷ []) ∷
    met 99 99 99 99 0 (25 ∷ 4 ∷ 1 ∷ 0 ∷ 0 ∷ []) ∷
    met 99 99 99 99 1 (0 ∷ 8 ∷ 1 ∷ 0 ∷ 1 ∷ []) ∷
    met 3 99 99 0 99 (24 ∷ 2 ∷ 0 ∷ 0 ∷ 0 ∷ []) ∷
    met 4 99 99 0 99 (24 ∷ 2 ∷ 0 ∷ 0 ∷ 0 ∷ []) ∷
    met 99 10 99 0 99 (24 ∷ 2 ∷ 0 ∷ 0 ∷ 0 ∷ []) ∷
    met 99 11 99 0 99 (24 ∷ 2 ∷ 0 ∷ 0 ∷ 0 ∷ []) ∷
    met 99 99 0 99 0 (23 ∷ 4 ∷ 1 ∷ 0 ∷ 0 ∷ []) ∷
    []

pub limited14 : map (λ q. ends first_call plan14 q.0) rows14 ≡ map (λ q. q.1) rows14
unfolding ends parts_of row_of find_row table plan_of declarations bindings_in end_from entries_end places_of part_line is_plain names plain_entries plain_plan lookup view occurs is_monotype substitute rename front_names after_front can_unify term_view lambda_of find links any_solved write_out_by write_out solution_nodes board_nodes find_var before perform operations instantiate_from subtype open_names signature_from insert push_vars check_patterns check_arms infer_app run_from check_type result_of run_of judge put lower level_made level_after levels_after none_above
limited14 = refl

-- Arrow and Arrow, unequal
abbrev plan15 : List Triple
plan15 = l 3 0 0 ∷ l 13 0 0 ∷ l 13 0 0 ∷ l 12 2 0 ∷ l 12 1 0 ∷ l 12 1 0 ∷ l 4 0 0 ∷ l 23 10 0 ∷ l 13 0 0 ∷ l 12 1 0 ∷ l 12 1 0 ∷ l 22 7 0 ∷ []

abbrev rows15 : List (Small × List ℕ)
rows15 =
    met 1 99 99 99 99 (22 ∷ 1 ∷ 0 ∷ 0 ∷ 0 ∷ []) ∷
    met 2 99 99 99 99 (22 ∷ 1 ∷ 0 ∷ 0 ∷ 0 ∷ []) ∷
    met 3 99 99 99 99 (22 ∷ 2 ∷ 1 ∷ 0 ∷ 0 ∷ []) ∷
    met 4 99 99 99 99 (22 ∷ 2 ∷ 1 ∷ 0 ∷ 0 ∷ []) ∷
    met 5 99 99 99 99 (15 ∷ 10 ∷ 1 ∷ 2 ∷ 1 ∷ []) ∷
    met 99 5 99 99 99 (22 ∷ 1 ∷ 0 ∷ 0 ∷ 0 ∷ []) ∷
    met 99 9 99 99 99 (22 ∷ 1 ∷ 0 ∷ 0 ∷ 0 ∷ []) ∷
    met 99 10 99 99 99 (22 ∷ 2 ∷ 1 ∷ 0 ∷ 0 ∷ []) ∷
    met 99 11 99 99 99 (22 ∷ 2 ∷ 1 ∷ 0 ∷ 0 ∷ []) ∷
    met 99 12 99 99 99 (22 ∷ 3 ∷ 1 ∷ 0 ∷ 0 ∷ []) ∷
    met 99 13 99 99 99 (15 ∷ 10 ∷ 1 ∷ 2 ∷ 1 ∷ []) ∷
    met 99 99 0 99 99 (23 ∷ 4 ∷ 1 ∷ 0 ∷ 0 ∷ []) ∷
    met 99 99 1 99 99 (23 ∷ 8 ∷ 1 ∷ 0 ∷ 1 ∷ []) ∷
    met 99 99 2 99 99 (23 ∷ 8 ∷ 1 ∷ 0 ∷ 1 ∷ []) ∷
    met 99 99 3 99 99 (15 ∷ 10 ∷ 1 ∷ 2 ∷ 1 ∷ []) ∷
    met 99 99 99 0 99 (24 ∷ 2 ∷ 0 ∷ 0 ∷ 0 ∷ []) ∷
    met 99 99 99 1 99 (15 ∷ 10 ∷ 1 ∷ 2 ∷ 1 ∷ []) ∷
    met 99 99 99 99 0 (25 ∷ 4 ∷ 1 ∷ 0 ∷ 0 ∷ []) ∷
    met 99 99 99 99 1 (15 ∷ 10 ∷ 1 ∷ 2 ∷ 1 ∷ []) ∷
    met 3 99 99 0 99 (24 ∷ 2 ∷ 0 ∷ 0 ∷ 0 ∷ []) ∷
    met 4 99 99 0 99 (24 ∷ 2 ∷ 0 ∷ 0 ∷ 0 ∷ []) ∷
    met 99 10 99 0 99 (24 ∷ 2 ∷ 0 ∷ 0 ∷ 0 ∷ []) ∷
    met 99 11 99 0 99 (24 ∷ 2 ∷ 0 ∷ 0 ∷ 0 ∷ []) ∷
    met 99 99 0 99 0 (23 ∷ 4 ∷ 1 ∷ 0 ∷ 0 ∷ []) ∷
    []

pub limited15 : map (λ q. ends first_call plan15 q.0) rows15 ≡ map (λ q. q.1) rows15
unfolding ends parts_of row_of find_row table plan_of declarations bindings_in end_from entries_end places_of part_line is_plain names plain_entries plain_plan lookup view occurs is_monotype substitute rename front_names after_front can_unify term_view lambda_of find links any_solved write_out_by write_out solution_nodes board_nodes find_var before perform operations instantiate_from subtype open_names signature_from insert push_vars check_patterns check_arms infer_app run_from check_type result_of run_of judge put lower level_made level_after levels_after none_above
limited15 = refl

-- App and App
abbrev plan16 : List Triple
plan16 = l 3 0 0 ∷ l 13 0 0 ∷ l 15 0 0 ∷ l 12 2 0 ∷ l 12 1 0 ∷ l 12 1 0 ∷ l 4 0 0 ∷ l 23 10 0 ∷ l 15 0 0 ∷ l 12 1 0 ∷ l 12 1 0 ∷ l 22 7 0 ∷ []

abbrev rows16 : List (Small × List ℕ)
rows16 =
    met 1 99 99 99 99 (22 ∷ 1 ∷ 0 ∷ 0 ∷ 0 ∷ []) ∷
    met 2 99 99 99 99 (22 ∷ 1 ∷ 0 ∷ 0 ∷ 0 ∷ []) ∷
    met 3 99 99 99 99 (22 ∷ 2 ∷ 1 ∷ 0 ∷ 0 ∷ []) ∷
    met 4 99 99 99 99 (22 ∷ 2 ∷ 1 ∷ 0 ∷ 0 ∷ []) ∷
    met 5 99 99 99 99 (15 ∷ 10 ∷ 1 ∷ 2 ∷ 1 ∷ []) ∷
    met 99 5 99 99 99 (22 ∷ 1 ∷ 0 ∷ 0 ∷ 0 ∷ []) ∷
    met 99 9 99 99 99 (22 ∷ 1 ∷ 0 ∷ 0 ∷ 0 ∷ []) ∷
    met 99 10 99 99 99 (22 ∷ 2 ∷ 1 ∷ 0 ∷ 0 ∷ []) ∷
    met 99 11 99 99 99 (22 ∷ 2 ∷ 1 ∷ 0 ∷ 0 ∷ []) ∷
    met 99 12 99 99 99 (22 ∷ 3 ∷ 1 ∷ 0 ∷ 0 ∷ []) ∷
    met 99 13 99 99 99 (15 ∷ 10 ∷ 1 ∷ 2 ∷ 1 ∷ []) ∷
    met 99 99 0 99 99 (23 ∷ 4 ∷ 1 ∷ 0 ∷ 0 ∷ []) ∷
    met 99 99 1 99 99 (23 ∷ 8 ∷ 1 ∷ 0 ∷ 1 ∷ []) ∷
    met 99 99 2 99 99 (23 ∷ 8 ∷ 1 ∷ 0 ∷ 1 ∷ []) ∷
    met 99 99 3 99 99 (15 ∷ 10 ∷ 1 ∷ 2 ∷ 1 ∷ []) ∷
    met 99 99 99 0 99 (24 ∷ 2 ∷ 0 ∷ 0 ∷ 0 ∷ []) ∷
    met 99 99 99 1 99 (15 ∷ 10 ∷ 1 ∷ 2 ∷ 1 ∷ []) ∷
    met 99 99 99 99 0 (25 ∷ 4 ∷ 1 ∷ 0 ∷ 0 ∷ []) ∷
    met 99 99 99 99 1 (15 ∷ 10 ∷ 1 ∷ 2 ∷ 1 ∷ []) ∷
    met 3 99 99 0 99 (24 ∷ 2 ∷ 0 ∷ 0 ∷ 0 ∷ []) ∷
    met 4 99 99 0 99 (24 ∷ 2 ∷ 0 ∷ 0 ∷ 0 ∷ []) ∷
    met 99 10 99 0 99 (24 ∷ 2 ∷ 0 ∷ 0 ∷ 0 ∷ []) ∷
    met 99 11 99 0 99 (24 ∷ 2 ∷ 0 ∷ 0 ∷ 0 ∷ []) ∷
    met 99 99 0 99 0 (23 ∷ 4 ∷ 1 ∷ 0 ∷ 0 ∷ []) ∷
    []

pub limited16 : map (λ q. ends first_call plan16 q.0) rows16 ≡ map (λ q. q.1) rows16
unfolding ends parts_of row_of find_row table plan_of declarations bindings_in end_from entries_end places_of part_line is_plain names plain_entries plain_plan lookup view occurs is_monotype substitute rename front_names after_front can_unify term_view lambda_of find links any_solved write_out_by write_out solution_nodes board_nodes find_var before perform operations instantiate_from subtype open_names signature_from insert push_vars check_patterns check_arms infer_app run_from check_type result_of run_of judge put lower level_made level_after levels_after none_above
limited16 = refl

-- Product and Product
abbrev plan17 : List Triple
plan17 = l 2 40 0 ∷ l 16 0 3 ∷ l 12 1 0 ∷ l 12 2 0 ∷ l 12 1 0 ∷ l 3 0 0 ∷ l 16 0 2 ∷ l 12 1 0 ∷ l 12 1 0 ∷ l 4 0 0 ∷ l 21 40 0 ∷ []

abbrev rows17 : List (Small × List ℕ)
rows17 =
    met 1 99 99 99 99 (22 ∷ 1 ∷ 1 ∷ 0 ∷ 0 ∷ []) ∷
    met 2 99 99 99 99 (22 ∷ 1 ∷ 1 ∷ 0 ∷ 0 ∷ []) ∷
    met 3 99 99 99 99 (15 ∷ 4 ∷ 1 ∷ 7 ∷ 4 ∷ []) ∷
    met 99 3 99 99 99 (22 ∷ 1 ∷ 1 ∷ 0 ∷ 0 ∷ []) ∷
    met 99 4 99 99 99 (22 ∷ 1 ∷ 1 ∷ 0 ∷ 0 ∷ []) ∷
    met 99 5 99 99 99 (22 ∷ 2 ∷ 1 ∷ 0 ∷ 0 ∷ []) ∷
    met 99 8 99 99 99 (22 ∷ 2 ∷ 1 ∷ 0 ∷ 0 ∷ []) ∷
    met 99 9 99 99 99 (15 ∷ 4 ∷ 1 ∷ 7 ∷ 4 ∷ []) ∷
    met 99 99 0 99 99 (23 ∷ 3 ∷ 1 ∷ 0 ∷ 0 ∷ []) ∷
    met 99 99 3 99 99 (23 ∷ 3 ∷ 1 ∷ 0 ∷ 0 ∷ []) ∷
    met 99 99 4 99 99 (15 ∷ 4 ∷ 1 ∷ 7 ∷ 4 ∷ []) ∷
    met 99 99 99 0 99 (24 ∷ 1 ∷ 0 ∷ 0 ∷ 0 ∷ []) ∷
    met 99 99 99 1 99 (15 ∷ 4 ∷ 1 ∷ 7 ∷ 4 ∷ []) ∷
    met 99 99 99 99 0 (25 ∷ 3 ∷ 1 ∷ 0 ∷ 0 ∷ []) ∷
    met 99 99 99 99 3 (25 ∷ 3 ∷ 1 ∷ 0 ∷ 0 ∷ []) ∷
    met 99 99 99 99 4 (15 ∷ 4 ∷ 1 ∷ 7 ∷ 4 ∷ []) ∷
    met 1 99 99 0 99 (24 ∷ 1 ∷ 0 ∷ 0 ∷ 0 ∷ []) ∷
    met 2 99 99 0 99 (24 ∷ 1 ∷ 0 ∷ 0 ∷ 0 ∷ []) ∷
    met 99 3 99 0 99 (24 ∷ 1 ∷ 0 ∷ 0 ∷ 0 ∷ []) ∷
    met 99 4 99 0 99 (24 ∷ 1 ∷ 0 ∷ 0 ∷ 0 ∷ []) ∷
    met 99 99 0 99 0 (23 ∷ 3 ∷ 1 ∷ 0 ∷ 0 ∷ []) ∷
    met 99 99 0 99 3 (23 ∷ 3 ∷ 1 ∷ 0 ∷ 0 ∷ []) ∷
    met 99 99 3 99 0 (23 ∷ 3 ∷ 1 ∷ 0 ∷ 0 ∷ []) ∷
    met 99 99 3 99 3 (23 ∷ 3 ∷ 1 ∷ 0 ∷ 0 ∷ []) ∷
    []

pub limited17 : map (λ q. ends first_call plan17 q.0) rows17 ≡ map (λ q. q.1) rows17
unfolding ends parts_of row_of find_row table plan_of declarations bindings_in end_from entries_end places_of part_line is_plain names plain_entries plain_plan lookup view occurs is_monotype substitute rename front_names after_front can_unify term_view lambda_of find links any_solved write_out_by write_out solution_nodes board_nodes find_var before perform operations instantiate_from subtype open_names signature_from insert push_vars check_patterns check_arms infer_app run_from check_type result_of run_of judge put lower level_made level_after levels_after none_above
limited17 = refl

-- a constructor with two quantifiers
abbrev plan18 : List Triple
plan18 = l 1 20 0 ∷ l 14 10 0 ∷ l 14 11 0 ∷ l 13 0 0 ∷ l 11 10 0 ∷ l 13 0 0 ∷ l 11 11 0 ∷ l 12 30 0 ∷ l 3 0 0 ∷ l 12 1 0 ∷ l 4 0 0 ∷ l 26 20 0 ∷ []

abbrev rows18 : List (Small × List ℕ)
rows18 =
    met 1 99 99 99 99 (22 ∷ 1 ∷ 1 ∷ 0 ∷ 0 ∷ []) ∷
    met 2 99 99 99 99 (22 ∷ 1 ∷ 1 ∷ 0 ∷ 0 ∷ []) ∷
    met 3 99 99 99 99 (22 ∷ 2 ∷ 3 ∷ 0 ∷ 0 ∷ []) ∷
    met 4 99 99 99 99 (22 ∷ 2 ∷ 3 ∷ 0 ∷ 0 ∷ []) ∷
    met 5 99 99 99 99 (22 ∷ 3 ∷ 5 ∷ 0 ∷ 3 ∷ []) ∷
    met 7 99 99 99 99 (22 ∷ 3 ∷ 5 ∷ 0 ∷ 3 ∷ []) ∷
    met 8 99 99 99 99 (22 ∷ 4 ∷ 7 ∷ 0 ∷ 6 ∷ []) ∷
    met 10 99 99 99 99 (22 ∷ 4 ∷ 7 ∷ 0 ∷ 6 ∷ []) ∷
    met 11 99 99 99 99 (15 ∷ 14 ∷ 7 ∷ 6 ∷ 9 ∷ []) ∷
    met 99 1 99 99 99 (22 ∷ 1 ∷ 1 ∷ 0 ∷ 0 ∷ []) ∷
    met 99 2 99 99 99 (22 ∷ 1 ∷ 1 ∷ 0 ∷ 0 ∷ []) ∷
    met 99 3 99 99 99 (22 ∷ 2 ∷ 3 ∷ 0 ∷ 0 ∷ []) ∷
    met 99 7 99 99 99 (22 ∷ 2 ∷ 3 ∷ 0 ∷ 0 ∷ []) ∷
    met 99 8 99 99 99 (15 ∷ 14 ∷ 7 ∷ 6 ∷ 9 ∷ []) ∷
    met 99 99 0 99 99 (23 ∷ 3 ∷ 3 ∷ 0 ∷ 0 ∷ []) ∷
    met 99 99 4 99 99 (23 ∷ 3 ∷ 3 ∷ 0 ∷ 0 ∷ []) ∷
    met 99 99 5 99 99 (15 ∷ 14 ∷ 7 ∷ 6 ∷ 9 ∷ []) ∷
    met 99 99 99 0 99 (24 ∷ 1 ∷ 0 ∷ 0 ∷ 0 ∷ []) ∷
    met 99 99 99 1 99 (24 ∷ 2 ∷ 1 ∷ 0 ∷ 0 ∷ []) ∷
    met 99 99 99 2 99 (24 ∷ 2 ∷ 2 ∷ 0 ∷ 0 ∷ []) ∷
    met 99 99 99 3 99 (24 ∷ 3 ∷ 3 ∷ 0 ∷ 0 ∷ []) ∷
    met 99 99 99 4 99 (24 ∷ 3 ∷ 4 ∷ 0 ∷ 0 ∷ []) ∷
    met 99 99 99 5 99 (24 ∷ 4 ∷ 5 ∷ 0 ∷ 3 ∷ []) ∷
    met 99 99 99 6 99 (24 ∷ 4 ∷ 6 ∷ 0 ∷ 3 ∷ []) ∷
    met 99 99 99 7 99 (15 ∷ 14 ∷ 7 ∷ 6 ∷ 9 ∷ []) ∷
    met 99 99 99 99 0 (25 ∷ 3 ∷ 5 ∷ 0 ∷ 0 ∷ []) ∷
    met 99 99 99 99 2 (25 ∷ 3 ∷ 5 ∷ 0 ∷ 0 ∷ []) ∷
    met 99 99 99 99 3 (25 ∷ 4 ∷ 7 ∷ 0 ∷ 3 ∷ []) ∷
    met 99 99 99 99 5 (25 ∷ 4 ∷ 7 ∷ 0 ∷ 3 ∷ []) ∷
    met 99 99 99 99 6 (25 ∷ 5 ∷ 7 ∷ 0 ∷ 6 ∷ []) ∷
    met 99 99 99 99 7 (25 ∷ 6 ∷ 7 ∷ 0 ∷ 7 ∷ []) ∷
    met 99 99 99 99 8 (25 ∷ 9 ∷ 7 ∷ 0 ∷ 8 ∷ []) ∷
    met 99 99 99 99 9 (15 ∷ 14 ∷ 7 ∷ 6 ∷ 9 ∷ []) ∷
    met 5 99 0 99 99 (23 ∷ 3 ∷ 3 ∷ 0 ∷ 0 ∷ []) ∷
    met 5 99 4 99 99 (23 ∷ 3 ∷ 3 ∷ 0 ∷ 0 ∷ []) ∷
    met 7 99 0 99 99 (23 ∷ 3 ∷ 3 ∷ 0 ∷ 0 ∷ []) ∷
    met 7 99 4 99 99 (23 ∷ 3 ∷ 3 ∷ 0 ∷ 0 ∷ []) ∷
    met 1 99 99 0 99 (24 ∷ 1 ∷ 0 ∷ 0 ∷ 0 ∷ []) ∷
    met 2 99 99 0 99 (24 ∷ 1 ∷ 0 ∷ 0 ∷ 0 ∷ []) ∷
    met 3 99 99 1 99 (24 ∷ 2 ∷ 1 ∷ 0 ∷ 0 ∷ []) ∷
    met 3 99 99 2 99 (24 ∷ 2 ∷ 2 ∷ 0 ∷ 0 ∷ []) ∷
    met 4 99 99 1 99 (24 ∷ 2 ∷ 1 ∷ 0 ∷ 0 ∷ []) ∷
    met 4 99 99 2 99 (24 ∷ 2 ∷ 2 ∷ 0 ∷ 0 ∷ []) ∷
    met 5 99 99 3 99 (24 ∷ 3 ∷ 3 ∷ 0 ∷ 0 ∷ []) ∷
    met 5 99 99 4 99 (24 ∷ 3 ∷ 4 ∷ 0 ∷ 0 ∷ []) ∷
    met 7 99 99 3 99 (24 ∷ 3 ∷ 3 ∷ 0 ∷ 0 ∷ []) ∷
    met 7 99 99 4 99 (24 ∷ 3 ∷ 4 ∷ 0 ∷ 0 ∷ []) ∷
    met 8 99 99 5 99 (24 ∷ 4 ∷ 5 ∷ 0 ∷ 3 ∷ []) ∷
    met 8 99 99 6 99 (24 ∷ 4 ∷ 6 ∷ 0 ∷ 3 ∷ []) ∷
    met 10 99 99 5 99 (24 ∷ 4 ∷ 5 ∷ 0 ∷ 3 ∷ []) ∷
    met 10 99 99 6 99 (24 ∷ 4 ∷ 6 ∷ 0 ∷ 3 ∷ []) ∷
    met 5 99 99 99 0 (25 ∷ 3 ∷ 5 ∷ 0 ∷ 0 ∷ []) ∷
    met 5 99 99 99 2 (25 ∷ 3 ∷ 5 ∷ 0 ∷ 0 ∷ []) ∷
    met 7 99 99 99 0 (25 ∷ 3 ∷ 5 ∷ 0 ∷ 0 ∷ []) ∷
    met 7 99 99 99 2 (25 ∷ 3 ∷ 5 ∷ 0 ∷ 0 ∷ []) ∷
    met 8 99 99 99 3 (25 ∷ 4 ∷ 7 ∷ 0 ∷ 3 ∷ []) ∷
    met 8 99 99 99 5 (25 ∷ 4 ∷ 7 ∷ 0 ∷ 3 ∷ []) ∷
    met 10 99 99 99 3 (25 ∷ 4 ∷ 7 ∷ 0 ∷ 3 ∷ []) ∷
    met 10 99 99 99 5 (25 ∷ 4 ∷ 7 ∷ 0 ∷ 3 ∷ []) ∷
    met 99 1 99 0 99 (24 ∷ 1 ∷ 0 ∷ 0 ∷ 0 ∷ []) ∷
    met 99 2 99 0 99 (24 ∷ 1 ∷ 0 ∷ 0 ∷ 0 ∷ []) ∷
    met 99 3 99 1 99 (24 ∷ 2 ∷ 1 ∷ 0 ∷ 0 ∷ []) ∷
    met 99 3 99 2 99 (24 ∷ 2 ∷ 2 ∷ 0 ∷ 0 ∷ []) ∷
    met 99 7 99 1 99 (24 ∷ 2 ∷ 1 ∷ 0 ∷ 0 ∷ []) ∷
    met 99 7 99 2 99 (24 ∷ 2 ∷ 2 ∷ 0 ∷ 0 ∷ []) ∷
    met 99 99 0 3 99 (23 ∷ 3 ∷ 3 ∷ 0 ∷ 0 ∷ []) ∷
    met 99 99 0 4 99 (23 ∷ 3 ∷ 3 ∷ 0 ∷ 0 ∷ []) ∷
    met 99 99 4 3 99 (23 ∷ 3 ∷ 3 ∷ 0 ∷ 0 ∷ []) ∷
    met 99 99 4 4 99 (23 ∷ 3 ∷ 3 ∷ 0 ∷ 0 ∷ []) ∷
    met 99 99 0 99 0 (23 ∷ 3 ∷ 3 ∷ 0 ∷ 0 ∷ []) ∷
    met 99 99 0 99 2 (23 ∷ 3 ∷ 3 ∷ 0 ∷ 0 ∷ []) ∷
    met 99 99 4 99 0 (23 ∷ 3 ∷ 3 ∷ 0 ∷ 0 ∷ []) ∷
    met 99 99 4 99 2 (23 ∷ 3 ∷ 3 ∷ 0 ∷ 0 ∷ []) ∷
    met 99 99 99 3 0 (24 ∷ 3 ∷ 3 ∷ 0 ∷ 0 ∷ []) ∷
    met 99 99 99 3 2 (24 ∷ 3 ∷ 3 ∷ 0 ∷ 0 ∷ []) ∷
    met 99 99 99 4 0 (24 ∷ 3 ∷ 4 ∷ 0 ∷ 0 ∷ []) ∷
    met 99 99 99 4 2 (24 ∷ 3 ∷ 4 ∷ 0 ∷ 0 ∷ []) ∷
    met 99 99 99 5 3 (24 ∷ 4 ∷ 5 ∷ 0 ∷ 3 ∷ []) ∷
    met 99 99 99 5 5 (24 ∷ 4 ∷ 5 ∷ 0 ∷ 3 ∷ []) ∷
    met 99 99 99 6 3 (24 ∷ 4 ∷ 6 ∷ 0 ∷ 3 ∷ []) ∷
    met 99 99 99 6 5 (24 ∷ 4 ∷ 6 ∷ 0 ∷ 3 ∷ []) ∷
    []

pub limited18 : map (λ q. ends first_call plan18 q.0) rows18 ≡ map (λ q. q.1) rows18
unfolding ends parts_of row_of find_row table plan_of declarations bindings_in end_from entries_end places_of part_line is_plain names plain_entries plain_plan lookup view occurs is_monotype substitute rename front_names after_front can_unify term_view lambda_of find links any_solved write_out_by write_out solution_nodes board_nodes find_var before perform operations instantiate_from subtype open_names signature_from insert push_vars check_patterns check_arms infer_app run_from check_type result_of run_of judge put lower level_made level_after levels_after none_above
limited18 = refl

-- a constructor with three quantifiers
abbrev plan19 : List Triple
plan19 = l 1 20 0 ∷ l 14 10 0 ∷ l 14 11 0 ∷ l 14 12 0 ∷ l 11 11 0 ∷ l 3 0 0 ∷ l 12 1 0 ∷ l 4 0 0 ∷ l 26 20 0 ∷ []

abbrev rows19 : List (Small × List ℕ)
rows19 =
    met 1 99 99 99 99 (22 ∷ 1 ∷ 1 ∷ 0 ∷ 0 ∷ []) ∷
    met 2 99 99 99 99 (22 ∷ 1 ∷ 1 ∷ 0 ∷ 0 ∷ []) ∷
    met 3 99 99 99 99 (22 ∷ 2 ∷ 3 ∷ 0 ∷ 0 ∷ []) ∷
    met 4 99 99 99 99 (22 ∷ 2 ∷ 4 ∷ 0 ∷ 0 ∷ []) ∷
    met 5 99 99 99 99 (22 ∷ 2 ∷ 4 ∷ 0 ∷ 0 ∷ []) ∷
    met 6 99 99 99 99 (0 ∷ 8 ∷ 4 ∷ 0 ∷ 2 ∷ []) ∷
    met 99 1 99 99 99 (22 ∷ 1 ∷ 1 ∷ 0 ∷ 0 ∷ []) ∷
    met 99 2 99 99 99 (22 ∷ 1 ∷ 1 ∷ 0 ∷ 0 ∷ []) ∷
    met 99 3 99 99 99 (22 ∷ 2 ∷ 4 ∷ 0 ∷ 0 ∷ []) ∷
    met 99 4 99 99 99 (0 ∷ 8 ∷ 4 ∷ 0 ∷ 2 ∷ []) ∷
    met 99 99 0 99 99 (23 ∷ 3 ∷ 4 ∷ 0 ∷ 0 ∷ []) ∷
    met 99 99 1 99 99 (0 ∷ 8 ∷ 4 ∷ 0 ∷ 2 ∷ []) ∷
    met 99 99 99 0 99 (24 ∷ 1 ∷ 0 ∷ 0 ∷ 0 ∷ []) ∷
    met 99 99 99 1 99 (24 ∷ 2 ∷ 1 ∷ 0 ∷ 0 ∷ []) ∷
    met 99 99 99 2 99 (24 ∷ 2 ∷ 2 ∷ 0 ∷ 0 ∷ []) ∷
    met 99 99 99 3 99 (24 ∷ 2 ∷ 3 ∷ 0 ∷ 0 ∷ []) ∷
    met 99 99 99 4 99 (0 ∷ 8 ∷ 4 ∷ 0 ∷ 2 ∷ []) ∷
    met 99 99 99 99 0 (25 ∷ 3 ∷ 4 ∷ 0 ∷ 0 ∷ []) ∷
    met 99 99 99 99 1 (25 ∷ 7 ∷ 4 ∷ 0 ∷ 1 ∷ []) ∷
    met 99 99 99 99 2 (0 ∷ 8 ∷ 4 ∷ 0 ∷ 2 ∷ []) ∷
    met 1 99 99 0 99 (24 ∷ 1 ∷ 0 ∷ 0 ∷ 0 ∷ []) ∷
    met 2 99 99 0 99 (24 ∷ 1 ∷ 0 ∷ 0 ∷ 0 ∷ []) ∷
    met 3 99 99 1 99 (24 ∷ 2 ∷ 1 ∷ 0 ∷ 0 ∷ []) ∷
    met 3 99 99 2 99 (24 ∷ 2 ∷ 2 ∷ 0 ∷ 0 ∷ []) ∷
    met 3 99 99 3 99 (22 ∷ 2 ∷ 3 ∷ 0 ∷ 0 ∷ []) ∷
    met 4 99 99 1 99 (24 ∷ 2 ∷ 1 ∷ 0 ∷ 0 ∷ []) ∷
    met 4 99 99 2 99 (24 ∷ 2 ∷ 2 ∷ 0 ∷ 0 ∷ []) ∷
    met 4 99 99 3 99 (24 ∷ 2 ∷ 3 ∷ 0 ∷ 0 ∷ []) ∷
    met 5 99 99 1 99 (24 ∷ 2 ∷ 1 ∷ 0 ∷ 0 ∷ []) ∷
    met 5 99 99 2 99 (24 ∷ 2 ∷ 2 ∷ 0 ∷ 0 ∷ []) ∷
    met 5 99 99 3 99 (24 ∷ 2 ∷ 3 ∷ 0 ∷ 0 ∷ []) ∷
    met 99 1 99 0 99 (24 ∷ 1 ∷ 0 ∷ 0 ∷ 0 ∷ []) ∷
    met 99 2 99 0 99 (24 ∷ 1 ∷ 0 ∷ 0 ∷ 0 ∷ []) ∷
    met 99 3 99 1 99 (24 ∷ 2 ∷ 1 ∷ 0 ∷ 0 ∷ []) ∷
    met 99 3 99 2 99 (24 ∷ 2 ∷ 2 ∷ 0 ∷ 0 ∷ []) ∷
    met 99 3 99 3 99 (24 ∷ 2 ∷ 3 ∷ 0 ∷ 0 ∷ []) ∷
    met 99 99 0 99 0 (23 ∷ 3 ∷ 4 ∷ 0 ∷ 0 ∷ []) ∷
    []

pub limited19 : map (λ q. ends first_call plan19 q.0) rows19 ≡ map (λ q. q.1) rows19
unfolding ends parts_of row_of find_row table plan_of declarations bindings_in end_from entries_end places_of part_line is_plain names plain_entries plain_plan lookup view occurs is_monotype substitute rename front_names after_front can_unify term_view lambda_of find links any_solved write_out_by write_out solution_nodes board_nodes find_var before perform operations instantiate_from subtype open_names signature_from insert push_vars check_patterns check_arms infer_app run_from check_type result_of run_of judge put lower level_made level_after levels_after none_above
limited19 = refl

-- a pattern
abbrev plan20 : List Triple
plan20 = l 1 20 0 ∷ l 14 10 0 ∷ l 14 11 0 ∷ l 13 0 0 ∷ l 11 10 0 ∷ l 13 0 0 ∷ l 11 11 0 ∷ l 12 30 0 ∷ l 3 0 0 ∷ l 12 1 0 ∷ l 4 0 0 ∷ l 27 0 1 ∷ l 27 0 0 ∷ l 22 7 0 ∷ l 43 20 2 ∷ l 42 12 0 ∷ l 42 11 0 ∷ l 21 11 0 ∷ []

abbrev rows20 : List (Small × List ℕ)
rows20 =
    met 1 99 99 99 99 (22 ∷ 1 ∷ 1 ∷ 0 ∷ 0 ∷ []) ∷
    met 2 99 99 99 99 (22 ∷ 1 ∷ 1 ∷ 0 ∷ 0 ∷ []) ∷
    met 3 99 99 99 99 (22 ∷ 2 ∷ 2 ∷ 0 ∷ 0 ∷ []) ∷
    met 4 99 99 99 99 (22 ∷ 2 ∷ 3 ∷ 0 ∷ 0 ∷ []) ∷
    met 5 99 99 99 99 (22 ∷ 2 ∷ 4 ∷ 0 ∷ 0 ∷ []) ∷
    met 9 99 99 99 99 (22 ∷ 2 ∷ 4 ∷ 0 ∷ 0 ∷ []) ∷
    met 10 99 99 99 99 (22 ∷ 3 ∷ 5 ∷ 0 ∷ 0 ∷ []) ∷
    met 11 99 99 99 99 (22 ∷ 3 ∷ 5 ∷ 0 ∷ 0 ∷ []) ∷
    met 12 99 99 99 99 (0 ∷ 25 ∷ 8 ∷ 0 ∷ 7 ∷ []) ∷
    met 99 1 99 99 99 (22 ∷ 1 ∷ 1 ∷ 0 ∷ 0 ∷ []) ∷
    met 99 2 99 99 99 (22 ∷ 1 ∷ 1 ∷ 0 ∷ 0 ∷ []) ∷
    met 99 3 99 99 99 (22 ∷ 2 ∷ 4 ∷ 0 ∷ 0 ∷ []) ∷
    met 99 7 99 99 99 (22 ∷ 2 ∷ 4 ∷ 0 ∷ 0 ∷ []) ∷
    met 99 8 99 99 99 (22 ∷ 3 ∷ 5 ∷ 0 ∷ 0 ∷ []) ∷
    met 99 9 99 99 99 (22 ∷ 3 ∷ 5 ∷ 0 ∷ 0 ∷ []) ∷
    met 99 10 99 99 99 (22 ∷ 4 ∷ 5 ∷ 0 ∷ 0 ∷ []) ∷
    met 99 11 99 99 99 (0 ∷ 25 ∷ 8 ∷ 0 ∷ 7 ∷ []) ∷
    met 99 99 0 99 99 (23 ∷ 5 ∷ 5 ∷ 0 ∷ 0 ∷ []) ∷
    met 99 99 1 99 99 (0 ∷ 25 ∷ 8 ∷ 0 ∷ 7 ∷ []) ∷
    met 99 99 99 0 99 (24 ∷ 1 ∷ 0 ∷ 0 ∷ 0 ∷ []) ∷
    met 99 99 99 1 99 (24 ∷ 2 ∷ 1 ∷ 0 ∷ 0 ∷ []) ∷
    met 99 99 99 2 99 (24 ∷ 2 ∷ 2 ∷ 0 ∷ 0 ∷ []) ∷
    met 99 99 99 3 99 (24 ∷ 2 ∷ 3 ∷ 0 ∷ 0 ∷ []) ∷
    met 99 99 99 4 99 (24 ∷ 3 ∷ 4 ∷ 0 ∷ 0 ∷ []) ∷
    met 99 99 99 5 99 (24 ∷ 13 ∷ 5 ∷ 0 ∷ 3 ∷ []) ∷
    met 99 99 99 6 99 (24 ∷ 14 ∷ 6 ∷ 0 ∷ 3 ∷ []) ∷
    met 99 99 99 7 99 (24 ∷ 15 ∷ 7 ∷ 0 ∷ 3 ∷ []) ∷
    met 99 99 99 8 99 (0 ∷ 25 ∷ 8 ∷ 0 ∷ 7 ∷ []) ∷
    met 99 99 99 99 0 (25 ∷ 5 ∷ 5 ∷ 0 ∷ 0 ∷ []) ∷
    met 99 99 99 99 1 (25 ∷ 6 ∷ 5 ∷ 0 ∷ 1 ∷ []) ∷
    met 99 99 99 99 2 (25 ∷ 10 ∷ 5 ∷ 0 ∷ 2 ∷ []) ∷
    met 99 99 99 99 3 (25 ∷ 17 ∷ 8 ∷ 0 ∷ 3 ∷ []) ∷
    met 99 99 99 99 4 (25 ∷ 18 ∷ 8 ∷ 0 ∷ 4 ∷ []) ∷
    met 99 99 99 99 5 (25 ∷ 21 ∷ 8 ∷ 0 ∷ 5 ∷ []) ∷
    met 99 99 99 99 6 (25 ∷ 24 ∷ 8 ∷ 0 ∷ 6 ∷ []) ∷
    met 99 99 99 99 7 (0 ∷ 25 ∷ 8 ∷ 0 ∷ 7 ∷ []) ∷
    met 1 99 99 0 99 (24 ∷ 1 ∷ 0 ∷ 0 ∷ 0 ∷ []) ∷
    met 2 99 99 0 99 (24 ∷ 1 ∷ 0 ∷ 0 ∷ 0 ∷ []) ∷
    met 3 99 99 1 99 (24 ∷ 2 ∷ 1 ∷ 0 ∷ 0 ∷ []) ∷
    met 3 99 99 2 99 (22 ∷ 2 ∷ 2 ∷ 0 ∷ 0 ∷ []) ∷
    met 3 99 99 3 99 (22 ∷ 2 ∷ 2 ∷ 0 ∷ 0 ∷ []) ∷
    met 4 99 99 1 99 (24 ∷ 2 ∷ 1 ∷ 0 ∷ 0 ∷ []) ∷
    met 4 99 99 2 99 (24 ∷ 2 ∷ 2 ∷ 0 ∷ 0 ∷ []) ∷
    met 4 99 99 3 99 (22 ∷ 2 ∷ 3 ∷ 0 ∷ 0 ∷ []) ∷
    met 5 99 99 1 99 (24 ∷ 2 ∷ 1 ∷ 0 ∷ 0 ∷ []) ∷
    met 5 99 99 2 99 (24 ∷ 2 ∷ 2 ∷ 0 ∷ 0 ∷ []) ∷
    met 5 99 99 3 99 (24 ∷ 2 ∷ 3 ∷ 0 ∷ 0 ∷ []) ∷
    met 9 99 99 1 99 (24 ∷ 2 ∷ 1 ∷ 0 ∷ 0 ∷ []) ∷
    met 9 99 99 2 99 (24 ∷ 2 ∷ 2 ∷ 0 ∷ 0 ∷ []) ∷
    met 9 99 99 3 99 (24 ∷ 2 ∷ 3 ∷ 0 ∷ 0 ∷ []) ∷
    met 10 99 99 4 99 (24 ∷ 3 ∷ 4 ∷ 0 ∷ 0 ∷ []) ∷
    met 11 99 99 4 99 (24 ∷ 3 ∷ 4 ∷ 0 ∷ 0 ∷ []) ∷
    met 99 1 99 0 99 (24 ∷ 1 ∷ 0 ∷ 0 ∷ 0 ∷ []) ∷
    met 99 2 99 0 99 (24 ∷ 1 ∷ 0 ∷ 0 ∷ 0 ∷ []) ∷
    met 99 3 99 1 99 (24 ∷ 2 ∷ 1 ∷ 0 ∷ 0 ∷ []) ∷
    met 99 3 99 2 99 (24 ∷ 2 ∷ 2 ∷ 0 ∷ 0 ∷ []) ∷
    met 99 3 99 3 99 (24 ∷ 2 ∷ 3 ∷ 0 ∷ 0 ∷ []) ∷
    met 99 7 99 1 99 (24 ∷ 2 ∷ 1 ∷ 0 ∷ 0 ∷ []) ∷
    met 99 7 99 2 99 (24 ∷ 2 ∷ 2 ∷ 0 ∷ 0 ∷ []) ∷
    met 99 7 99 3 99 (24 ∷ 2 ∷ 3 ∷ 0 ∷ 0 ∷ []) ∷
    met 99 8 99 4 99 (24 ∷ 3 ∷ 4 ∷ 0 ∷ 0 ∷ []) ∷
    met 99 9 99 4 99 (24 ∷ 3 ∷ 4 ∷ 0 ∷ 0 ∷ []) ∷
    met 99 99 0 99 0 (23 ∷ 5 ∷ 5 ∷ 0 ∷ 0 ∷ []) ∷
    []

pub limited20 : map (λ q. ends first_call plan20 q.0) rows20 ≡ map (λ q. q.1) rows20
unfolding ends parts_of row_of find_row table plan_of declarations bindings_in end_from entries_end places_of part_line is_plain names plain_entries plain_plan lookup view occurs is_monotype substitute rename front_names after_front can_unify term_view lambda_of find links any_solved write_out_by write_out solution_nodes board_nodes find_var before perform operations instantiate_from subtype open_names signature_from insert push_vars check_patterns check_arms infer_app run_from check_type result_of run_of judge put lower level_made level_after levels_after none_above
limited20 = refl

-- a pattern of the wrong arity
abbrev plan21 : List Triple
plan21 = l 1 20 0 ∷ l 14 10 0 ∷ l 14 11 0 ∷ l 13 0 0 ∷ l 11 10 0 ∷ l 13 0 0 ∷ l 11 11 0 ∷ l 12 30 0 ∷ l 3 0 0 ∷ l 12 1 0 ∷ l 4 0 0 ∷ l 27 0 1 ∷ l 27 0 0 ∷ l 22 7 0 ∷ l 43 20 1 ∷ l 42 12 0 ∷ l 22 7 0 ∷ []

abbrev rows21 : List (Small × List ℕ)
rows21 =
    met 1 99 99 99 99 (22 ∷ 1 ∷ 1 ∷ 0 ∷ 0 ∷ []) ∷
    met 2 99 99 99 99 (22 ∷ 1 ∷ 1 ∷ 0 ∷ 0 ∷ []) ∷
    met 3 99 99 99 99 (22 ∷ 2 ∷ 2 ∷ 0 ∷ 0 ∷ []) ∷
    met 4 99 99 99 99 (22 ∷ 2 ∷ 3 ∷ 0 ∷ 0 ∷ []) ∷
    met 5 99 99 99 99 (22 ∷ 2 ∷ 4 ∷ 0 ∷ 0 ∷ []) ∷
    met 6 99 99 99 99 (22 ∷ 2 ∷ 4 ∷ 0 ∷ 0 ∷ []) ∷
    met 7 99 99 99 99 (14 ∷ 2 ∷ 4 ∷ 0 ∷ 0 ∷ []) ∷
    met 99 1 99 99 99 (22 ∷ 1 ∷ 1 ∷ 0 ∷ 0 ∷ []) ∷
    met 99 2 99 99 99 (22 ∷ 1 ∷ 1 ∷ 0 ∷ 0 ∷ []) ∷
    met 99 3 99 99 99 (22 ∷ 2 ∷ 4 ∷ 0 ∷ 0 ∷ []) ∷
    met 99 4 99 99 99 (22 ∷ 2 ∷ 4 ∷ 0 ∷ 0 ∷ []) ∷
    met 99 5 99 99 99 (14 ∷ 2 ∷ 4 ∷ 0 ∷ 0 ∷ []) ∷
    met 99 99 0 99 99 (14 ∷ 2 ∷ 4 ∷ 0 ∷ 0 ∷ []) ∷
    met 99 99 99 0 99 (24 ∷ 1 ∷ 0 ∷ 0 ∷ 0 ∷ []) ∷
    met 99 99 99 1 99 (24 ∷ 2 ∷ 1 ∷ 0 ∷ 0 ∷ []) ∷
    met 99 99 99 2 99 (24 ∷ 2 ∷ 2 ∷ 0 ∷ 0 ∷ []) ∷
    met 99 99 99 3 99 (24 ∷ 2 ∷ 3 ∷ 0 ∷ 0 ∷ []) ∷
    met 99 99 99 4 99 (14 ∷ 2 ∷ 4 ∷ 0 ∷ 0 ∷ []) ∷
    met 99 99 99 99 0 (14 ∷ 2 ∷ 4 ∷ 0 ∷ 0 ∷ []) ∷
    met 1 99 99 0 99 (24 ∷ 1 ∷ 0 ∷ 0 ∷ 0 ∷ []) ∷
    met 2 99 99 0 99 (24 ∷ 1 ∷ 0 ∷ 0 ∷ 0 ∷ []) ∷
    met 3 99 99 1 99 (24 ∷ 2 ∷ 1 ∷ 0 ∷ 0 ∷ []) ∷
    met 3 99 99 2 99 (22 ∷ 2 ∷ 2 ∷ 0 ∷ 0 ∷ []) ∷
    met 3 99 99 3 99 (22 ∷ 2 ∷ 2 ∷ 0 ∷ 0 ∷ []) ∷
    met 4 99 99 1 99 (24 ∷ 2 ∷ 1 ∷ 0 ∷ 0 ∷ []) ∷
    met 4 99 99 2 99 (24 ∷ 2 ∷ 2 ∷ 0 ∷ 0 ∷ []) ∷
    met 4 99 99 3 99 (22 ∷ 2 ∷ 3 ∷ 0 ∷ 0 ∷ []) ∷
    met 5 99 99 1 99 (24 ∷ 2 ∷ 1 ∷ 0 ∷ 0 ∷ []) ∷
    met 5 99 99 2 99 (24 ∷ 2 ∷ 2 ∷ 0 ∷ 0 ∷ []) ∷
    met 5 99 99 3 99 (24 ∷ 2 ∷ 3 ∷ 0 ∷ 0 ∷ []) ∷
    met 6 99 99 1 99 (24 ∷ 2 ∷ 1 ∷ 0 ∷ 0 ∷ []) ∷
    met 6 99 99 2 99 (24 ∷ 2 ∷ 2 ∷ 0 ∷ 0 ∷ []) ∷
    met 6 99 99 3 99 (24 ∷ 2 ∷ 3 ∷ 0 ∷ 0 ∷ []) ∷
    met 99 1 99 0 99 (24 ∷ 1 ∷ 0 ∷ 0 ∷ 0 ∷ []) ∷
    met 99 2 99 0 99 (24 ∷ 1 ∷ 0 ∷ 0 ∷ 0 ∷ []) ∷
    met 99 3 99 1 99 (24 ∷ 2 ∷ 1 ∷ 0 ∷ 0 ∷ []) ∷
    met 99 3 99 2 99 (24 ∷ 2 ∷ 2 ∷ 0 ∷ 0 ∷ []) ∷
    met 99 3 99 3 99 (24 ∷ 2 ∷ 3 ∷ 0 ∷ 0 ∷ []) ∷
    met 99 4 99 1 99 (24 ∷ 2 ∷ 1 ∷ 0 ∷ 0 ∷ []) ∷
    met 99 4 99 2 99 (24 ∷ 2 ∷ 2 ∷ 0 ∷ 0 ∷ []) ∷
    met 99 4 99 3 99 (24 ∷ 2 ∷ 3 ∷ 0 ∷ 0 ∷ []) ∷
    []

pub limited21 : map (λ q. ends first_call plan21 q.0) rows21 ≡ map (λ q. q.1) rows21
unfolding ends parts_of row_of find_row table plan_of declarations bindings_in end_from entries_end places_of part_line is_plain names plain_entries plain_plan lookup view occurs is_monotype substitute rename front_names after_front can_unify term_view lambda_of find links any_solved write_out_by write_out solution_nodes board_nodes find_var before perform operations instantiate_from subtype open_names signature_from insert push_vars check_patterns check_arms infer_app run_from check_type result_of run_of judge put lower level_made level_after levels_after none_above
limited21 = refl

-- a pattern bound nowhere
abbrev plan22 : List Triple
plan22 = l 3 0 0 ∷ l 12 1 0 ∷ l 4 0 0 ∷ l 27 0 2 ∷ l 27 0 0 ∷ l 22 7 0 ∷ l 42 12 0 ∷ l 22 7 0 ∷ l 43 21 0 ∷ l 22 7 0 ∷ []

abbrev rows22 : List (Small × List ℕ)
rows22 =
    met 1 99 99 99 99 (22 ∷ 1 ∷ 1 ∷ 0 ∷ 0 ∷ []) ∷
    met 2 99 99 99 99 (22 ∷ 1 ∷ 1 ∷ 0 ∷ 0 ∷ []) ∷
    met 3 99 99 99 99 (22 ∷ 2 ∷ 2 ∷ 0 ∷ 0 ∷ []) ∷
    met 5 99 99 99 99 (22 ∷ 2 ∷ 2 ∷ 0 ∷ 0 ∷ []) ∷
    met 6 99 99 99 99 (12 ∷ 2 ∷ 2 ∷ 0 ∷ 0 ∷ []) ∷
    met 99 1 99 99 99 (22 ∷ 1 ∷ 1 ∷ 0 ∷ 0 ∷ []) ∷
    met 99 2 99 99 99 (22 ∷ 1 ∷ 1 ∷ 0 ∷ 0 ∷ []) ∷
    met 99 3 99 99 99 (22 ∷ 2 ∷ 2 ∷ 0 ∷ 0 ∷ []) ∷
    met 99 4 99 99 99 (22 ∷ 2 ∷ 2 ∷ 0 ∷ 0 ∷ []) ∷
    met 99 5 99 99 99 (12 ∷ 2 ∷ 2 ∷ 0 ∷ 0 ∷ []) ∷
    met 99 99 0 99 99 (12 ∷ 2 ∷ 2 ∷ 0 ∷ 0 ∷ []) ∷
    met 99 99 99 0 99 (24 ∷ 1 ∷ 0 ∷ 0 ∷ 0 ∷ []) ∷
    met 99 99 99 1 99 (24 ∷ 2 ∷ 1 ∷ 0 ∷ 0 ∷ []) ∷
    met 99 99 99 2 99 (12 ∷ 2 ∷ 2 ∷ 0 ∷ 0 ∷ []) ∷
    met 99 99 99 99 0 (12 ∷ 2 ∷ 2 ∷ 0 ∷ 0 ∷ []) ∷
    met 1 99 99 0 99 (24 ∷ 1 ∷ 0 ∷ 0 ∷ 0 ∷ []) ∷
    met 2 99 99 0 99 (24 ∷ 1 ∷ 0 ∷ 0 ∷ 0 ∷ []) ∷
    met 3 99 99 1 99 (24 ∷ 2 ∷ 1 ∷ 0 ∷ 0 ∷ []) ∷
    met 5 99 99 1 99 (24 ∷ 2 ∷ 1 ∷ 0 ∷ 0 ∷ []) ∷
    met 99 1 99 0 99 (24 ∷ 1 ∷ 0 ∷ 0 ∷ 0 ∷ []) ∷
    met 99 2 99 0 99 (24 ∷ 1 ∷ 0 ∷ 0 ∷ 0 ∷ []) ∷
    met 99 3 99 1 99 (24 ∷ 2 ∷ 1 ∷ 0 ∷ 0 ∷ []) ∷
    met 99 4 99 1 99 (24 ∷ 2 ∷ 1 ∷ 0 ∷ 0 ∷ []) ∷
    []

pub limited22 : map (λ q. ends first_call plan22 q.0) rows22 ≡ map (λ q. q.1) rows22
unfolding ends parts_of row_of find_row table plan_of declarations bindings_in end_from entries_end places_of part_line is_plain names plain_entries plain_plan lookup view occurs is_monotype substitute rename front_names after_front can_unify term_view lambda_of find links any_solved write_out_by write_out solution_nodes board_nodes find_var before perform operations instantiate_from subtype open_names signature_from insert push_vars check_patterns check_arms infer_app run_from check_type result_of run_of judge put lower level_made level_after levels_after none_above
limited22 = refl

-- an operator
abbrev plan23 : List Triple
plan23 = l 3 0 0 ∷ l 12 2 0 ∷ l 4 0 0 ∷ l 28 5 0 ∷ l 22 1 0 ∷ l 22 7 0 ∷ []

abbrev rows23 : List (Small × List ℕ)
rows23 =
    met 1 99 99 99 99 (22 ∷ 1 ∷ 1 ∷ 0 ∷ 0 ∷ []) ∷
    met 2 99 99 99 99 (22 ∷ 1 ∷ 1 ∷ 0 ∷ 0 ∷ []) ∷
    met 3 99 99 99 99 (22 ∷ 2 ∷ 1 ∷ 0 ∷ 0 ∷ []) ∷
    met 4 99 99 99 99 (22 ∷ 2 ∷ 1 ∷ 0 ∷ 0 ∷ []) ∷
    met 5 99 99 99 99 (22 ∷ 4 ∷ 2 ∷ 0 ∷ 1 ∷ []) ∷
    met 6 99 99 99 99 (0 ∷ 15 ∷ 3 ∷ 0 ∷ 3 ∷ []) ∷
    met 99 1 99 99 99 (22 ∷ 1 ∷ 1 ∷ 0 ∷ 0 ∷ []) ∷
    met 99 2 99 99 99 (22 ∷ 1 ∷ 1 ∷ 0 ∷ 0 ∷ []) ∷
    met 99 3 99 99 99 (22 ∷ 2 ∷ 1 ∷ 0 ∷ 0 ∷ []) ∷
    met 99 5 99 99 99 (22 ∷ 2 ∷ 1 ∷ 0 ∷ 0 ∷ []) ∷
    met 99 6 99 99 99 (22 ∷ 5 ∷ 2 ∷ 0 ∷ 1 ∷ []) ∷
    met 99 7 99 99 99 (0 ∷ 15 ∷ 3 ∷ 0 ∷ 3 ∷ []) ∷
    met 99 99 0 99 99 (23 ∷ 3 ∷ 1 ∷ 0 ∷ 0 ∷ []) ∷
    met 99 99 1 99 99 (0 ∷ 15 ∷ 3 ∷ 0 ∷ 3 ∷ []) ∷
    met 99 99 99 0 99 (24 ∷ 1 ∷ 0 ∷ 0 ∷ 0 ∷ []) ∷
    met 99 99 99 1 99 (24 ∷ 4 ∷ 1 ∷ 0 ∷ 1 ∷ []) ∷
    met 99 99 99 2 99 (24 ∷ 9 ∷ 2 ∷ 0 ∷ 2 ∷ []) ∷
    met 99 99 99 3 99 (0 ∷ 15 ∷ 3 ∷ 0 ∷ 3 ∷ []) ∷
    met 99 99 99 99 0 (25 ∷ 3 ∷ 1 ∷ 0 ∷ 0 ∷ []) ∷
    met 99 99 99 99 1 (25 ∷ 6 ∷ 2 ∷ 0 ∷ 1 ∷ []) ∷
    met 99 99 99 99 2 (25 ∷ 11 ∷ 3 ∷ 0 ∷ 2 ∷ []) ∷
    met 99 99 99 99 3 (0 ∷ 15 ∷ 3 ∷ 0 ∷ 3 ∷ []) ∷
    met 1 99 99 0 99 (24 ∷ 1 ∷ 0 ∷ 0 ∷ 0 ∷ []) ∷
    met 2 99 99 0 99 (24 ∷ 1 ∷ 0 ∷ 0 ∷ 0 ∷ []) ∷
    met 5 99 99 1 99 (24 ∷ 4 ∷ 1 ∷ 0 ∷ 1 ∷ []) ∷
    met 99 1 99 0 99 (24 ∷ 1 ∷ 0 ∷ 0 ∷ 0 ∷ []) ∷
    met 99 2 99 0 99 (24 ∷ 1 ∷ 0 ∷ 0 ∷ 0 ∷ []) ∷
    met 99 99 0 99 0 (23 ∷ 3 ∷ 1 ∷ 0 ∷ 0 ∷ []) ∷
    []

pub limited23 : map (λ q. ends first_call plan23 q.0) rows23 ≡ map (λ q. q.1) rows23
unfolding ends parts_of row_of find_row table plan_of declarations bindings_in end_from entries_end places_of part_line is_plain names plain_entries plain_plan lookup view occurs is_monotype substitute rename front_names after_front can_unify term_view lambda_of find links any_solved write_out_by write_out solution_nodes board_nodes find_var before perform operations instantiate_from subtype open_names signature_from insert push_vars check_patterns check_arms infer_app run_from check_type result_of run_of judge put lower level_made level_after levels_after none_above
limited23 = refl

-- an If
abbrev plan24 : List Triple
plan24 = l 3 0 0 ∷ l 12 1 0 ∷ l 4 0 0 ∷ l 29 0 0 ∷ l 27 0 0 ∷ l 22 7 0 ∷ l 22 1 0 ∷ l 22 7 0 ∷ []

abbrev rows24 : List (Small × List ℕ)
rows24 =
    met 1 99 99 99 99 (22 ∷ 1 ∷ 1 ∷ 0 ∷ 0 ∷ []) ∷
    met 2 99 99 99 99 (22 ∷ 1 ∷ 1 ∷ 0 ∷ 0 ∷ []) ∷
    met 3 99 99 99 99 (22 ∷ 2 ∷ 1 ∷ 0 ∷ 0 ∷ []) ∷
    met 4 99 99 99 99 (22 ∷ 2 ∷ 1 ∷ 0 ∷ 0 ∷ []) ∷
    met 5 99 99 99 99 (22 ∷ 3 ∷ 2 ∷ 0 ∷ 0 ∷ []) ∷
    met 6 99 99 99 99 (22 ∷ 3 ∷ 2 ∷ 0 ∷ 0 ∷ []) ∷
    met 7 99 99 99 99 (22 ∷ 15 ∷ 6 ∷ 0 ∷ 3 ∷ []) ∷
    met 8 99 99 99 99 (0 ∷ 24 ∷ 6 ∷ 0 ∷ 6 ∷ []) ∷
    met 99 1 99 99 99 (22 ∷ 1 ∷ 1 ∷ 0 ∷ 0 ∷ []) ∷
    met 99 2 99 99 99 (22 ∷ 1 ∷ 1 ∷ 0 ∷ 0 ∷ []) ∷
    met 99 3 99 99 99 (22 ∷ 2 ∷ 1 ∷ 0 ∷ 0 ∷ []) ∷
    met 99 4 99 99 99 (22 ∷ 2 ∷ 1 ∷ 0 ∷ 0 ∷ []) ∷
    met 99 5 99 99 99 (22 ∷ 3 ∷ 2 ∷ 0 ∷ 0 ∷ []) ∷
    met 99 6 99 99 99 (22 ∷ 3 ∷ 2 ∷ 0 ∷ 0 ∷ []) ∷
    met 99 7 99 99 99 (22 ∷ 4 ∷ 2 ∷ 0 ∷ 0 ∷ []) ∷
    met 99 8 99 99 99 (0 ∷ 24 ∷ 6 ∷ 0 ∷ 6 ∷ []) ∷
    met 99 99 0 99 99 (23 ∷ 5 ∷ 2 ∷ 0 ∷ 0 ∷ []) ∷
    met 99 99 1 99 99 (0 ∷ 24 ∷ 6 ∷ 0 ∷ 6 ∷ []) ∷
    met 99 99 99 0 99 (24 ∷ 1 ∷ 0 ∷ 0 ∷ 0 ∷ []) ∷
    met 99 99 99 1 99 (24 ∷ 3 ∷ 1 ∷ 0 ∷ 0 ∷ []) ∷
    met 99 99 99 2 99 (24 ∷ 8 ∷ 2 ∷ 0 ∷ 2 ∷ []) ∷
    met 99 99 99 3 99 (24 ∷ 13 ∷ 3 ∷ 0 ∷ 3 ∷ []) ∷
    met 99 99 99 4 99 (24 ∷ 14 ∷ 4 ∷ 0 ∷ 3 ∷ []) ∷
    met 99 99 99 5 99 (24 ∷ 15 ∷ 5 ∷ 0 ∷ 3 ∷ []) ∷
    met 99 99 99 6 99 (0 ∷ 24 ∷ 6 ∷ 0 ∷ 6 ∷ []) ∷
    met 99 99 99 99 0 (25 ∷ 5 ∷ 2 ∷ 0 ∷ 0 ∷ []) ∷
    met 99 99 99 99 1 (25 ∷ 6 ∷ 2 ∷ 0 ∷ 1 ∷ []) ∷
    met 99 99 99 99 2 (25 ∷ 10 ∷ 3 ∷ 0 ∷ 2 ∷ []) ∷
    met 99 99 99 99 3 (25 ∷ 17 ∷ 6 ∷ 0 ∷ 3 ∷ []) ∷
    met 99 99 99 99 4 (25 ∷ 18 ∷ 6 ∷ 0 ∷ 4 ∷ []) ∷
    met 99 99 99 99 5 (25 ∷ 21 ∷ 6 ∷ 0 ∷ 5 ∷ []) ∷
    met 99 99 99 99 6 (0 ∷ 24 ∷ 6 ∷ 0 ∷ 6 ∷ []) ∷
    met 1 99 99 0 99 (24 ∷ 1 ∷ 0 ∷ 0 ∷ 0 ∷ []) ∷
    met 2 99 99 0 99 (24 ∷ 1 ∷ 0 ∷ 0 ∷ 0 ∷ []) ∷
    met 5 99 99 1 99 (24 ∷ 3 ∷ 1 ∷ 0 ∷ 0 ∷ []) ∷
    met 6 99 99 1 99 (24 ∷ 3 ∷ 1 ∷ 0 ∷ 0 ∷ []) ∷
    met 7 99 99 5 99 (24 ∷ 15 ∷ 5 ∷ 0 ∷ 3 ∷ []) ∷
    met 99 1 99 0 99 (24 ∷ 1 ∷ 0 ∷ 0 ∷ 0 ∷ []) ∷
    met 99 2 99 0 99 (24 ∷ 1 ∷ 0 ∷ 0 ∷ 0 ∷ []) ∷
    met 99 5 99 1 99 (24 ∷ 3 ∷ 1 ∷ 0 ∷ 0 ∷ []) ∷
    met 99 6 99 1 99 (24 ∷ 3 ∷ 1 ∷ 0 ∷ 0 ∷ []) ∷
    met 99 99 0 99 0 (23 ∷ 5 ∷ 2 ∷ 0 ∷ 0 ∷ []) ∷
    []

pub limited24 : map (λ q. ends first_call plan24 q.0) rows24 ≡ map (λ q. q.1) rows24
unfolding ends parts_of row_of find_row table plan_of declarations bindings_in end_from entries_end places_of part_line is_plain names plain_entries plain_plan lookup view occurs is_monotype substitute rename front_names after_front can_unify term_view lambda_of find links any_solved write_out_by write_out solution_nodes board_nodes find_var before perform operations instantiate_from subtype open_names signature_from insert push_vars check_patterns check_arms infer_app run_from check_type result_of run_of judge put lower level_made level_after levels_after none_above
limited24 = refl

-- printInt
abbrev plan25 : List Triple
plan25 = l 3 0 0 ∷ l 12 3 0 ∷ l 4 0 0 ∷ l 30 4 1 ∷ l 22 7 0 ∷ []

abbrev rows25 : List (Small × List ℕ)
rows25 =
    met 1 99 99 99 99 (22 ∷ 1 ∷ 1 ∷ 0 ∷ 0 ∷ []) ∷
    met 2 99 99 99 99 (22 ∷ 1 ∷ 1 ∷ 0 ∷ 0 ∷ []) ∷
    met 3 99 99 99 99 (22 ∷ 2 ∷ 1 ∷ 0 ∷ 0 ∷ []) ∷
    met 4 99 99 99 99 (22 ∷ 4 ∷ 2 ∷ 0 ∷ 1 ∷ []) ∷
    met 5 99 99 99 99 (0 ∷ 10 ∷ 2 ∷ 0 ∷ 2 ∷ []) ∷
    met 99 1 99 99 99 (22 ∷ 1 ∷ 1 ∷ 0 ∷ 0 ∷ []) ∷
    met 99 2 99 99 99 (22 ∷ 1 ∷ 1 ∷ 0 ∷ 0 ∷ []) ∷
    met 99 3 99 99 99 (22 ∷ 2 ∷ 1 ∷ 0 ∷ 0 ∷ []) ∷
    met 99 4 99 99 99 (22 ∷ 2 ∷ 1 ∷ 0 ∷ 0 ∷ []) ∷
    met 99 5 99 99 99 (22 ∷ 5 ∷ 2 ∷ 0 ∷ 1 ∷ []) ∷
    met 99 6 99 99 99 (0 ∷ 10 ∷ 2 ∷ 0 ∷ 2 ∷ []) ∷
    met 99 99 0 99 99 (23 ∷ 3 ∷ 1 ∷ 0 ∷ 0 ∷ []) ∷
    met 99 99 1 99 99 (0 ∷ 10 ∷ 2 ∷ 0 ∷ 2 ∷ []) ∷
    met 99 99 99 0 99 (24 ∷ 1 ∷ 0 ∷ 0 ∷ 0 ∷ []) ∷
    met 99 99 99 1 99 (24 ∷ 4 ∷ 1 ∷ 0 ∷ 1 ∷ []) ∷
    met 99 99 99 2 99 (0 ∷ 10 ∷ 2 ∷ 0 ∷ 2 ∷ []) ∷
    met 99 99 99 99 0 (25 ∷ 3 ∷ 1 ∷ 0 ∷ 0 ∷ []) ∷
    met 99 99 99 99 1 (25 ∷ 6 ∷ 2 ∷ 0 ∷ 1 ∷ []) ∷
    met 99 99 99 99 2 (0 ∷ 10 ∷ 2 ∷ 0 ∷ 2 ∷ []) ∷
    met 1 99 99 0 99 (24 ∷ 1 ∷ 0 ∷ 0 ∷ 0 ∷ []) ∷
    met 2 99 99 0 99 (24 ∷ 1 ∷ 0 ∷ 0 ∷ 0 ∷ []) ∷
    met 4 99 99 1 99 (24 ∷ 4 ∷ 1 ∷ 0 ∷ 1 ∷ []) ∷
    met 99 1 99 0 99 (24 ∷ 1 ∷ 0 ∷ 0 ∷ 0 ∷ []) ∷
    met 99 2 99 0 99 (24 ∷ 1 ∷ 0 ∷ 0 ∷ 0 ∷ []) ∷
    met 99 99 0 99 0 (23 ∷ 3 ∷ 1 ∷ 0 ∷ 0 ∷ []) ∷
    []

pub limited25 : map (λ q. ends first_call plan25 q.0) rows25 ≡ map (λ q. q.1) rows25
unfolding ends parts_of row_of find_row table plan_of declarations bindings_in end_from entries_end places_of part_line is_plain names plain_entries plain_plan lookup view occurs is_monotype substitute rename front_names after_front can_unify term_view lambda_of find links any_solved write_out_by write_out solution_nodes board_nodes find_var before perform operations instantiate_from subtype open_names signature_from insert push_vars check_patterns check_arms infer_app run_from check_type result_of run_of judge put lower level_made level_after levels_after none_above
limited25 = refl

-- no function
abbrev plan26 : List Triple
plan26 = l 2 40 0 ∷ l 16 0 2 ∷ l 12 1 0 ∷ l 12 2 0 ∷ l 3 0 0 ∷ l 12 1 0 ∷ l 4 0 0 ∷ l 24 0 0 ∷ l 21 40 0 ∷ l 22 7 0 ∷ []

abbrev rows26 : List (Small × List ℕ)
rows26 =
    met 1 99 99 99 99 (22 ∷ 1 ∷ 1 ∷ 0 ∷ 0 ∷ []) ∷
    met 2 99 99 99 99 (22 ∷ 1 ∷ 1 ∷ 0 ∷ 0 ∷ []) ∷
    met 3 99 99 99 99 (22 ∷ 2 ∷ 2 ∷ 0 ∷ 0 ∷ []) ∷
    met 4 99 99 99 99 (22 ∷ 2 ∷ 2 ∷ 0 ∷ 0 ∷ []) ∷
    met 5 99 99 99 99 (13 ∷ 5 ∷ 2 ∷ 3 ∷ 3 ∷ []) ∷
    met 99 1 99 99 99 (22 ∷ 1 ∷ 1 ∷ 0 ∷ 0 ∷ []) ∷
    met 99 2 99 99 99 (22 ∷ 1 ∷ 1 ∷ 0 ∷ 0 ∷ []) ∷
    met 99 3 99 99 99 (22 ∷ 2 ∷ 2 ∷ 0 ∷ 0 ∷ []) ∷
    met 99 4 99 99 99 (22 ∷ 2 ∷ 2 ∷ 0 ∷ 0 ∷ []) ∷
    met 99 5 99 99 99 (22 ∷ 3 ∷ 2 ∷ 0 ∷ 0 ∷ []) ∷
    met 99 7 99 99 99 (22 ∷ 3 ∷ 2 ∷ 0 ∷ 0 ∷ []) ∷
    met 99 8 99 99 99 (13 ∷ 5 ∷ 2 ∷ 3 ∷ 3 ∷ []) ∷
    met 99 99 0 99 99 (23 ∷ 4 ∷ 2 ∷ 0 ∷ 0 ∷ []) ∷
    met 99 99 2 99 99 (23 ∷ 4 ∷ 2 ∷ 0 ∷ 0 ∷ []) ∷
    met 99 99 3 99 99 (13 ∷ 5 ∷ 2 ∷ 3 ∷ 3 ∷ []) ∷
    met 99 99 99 0 99 (24 ∷ 1 ∷ 0 ∷ 0 ∷ 0 ∷ []) ∷
    met 99 99 99 1 99 (24 ∷ 2 ∷ 1 ∷ 0 ∷ 0 ∷ []) ∷
    met 99 99 99 2 99 (13 ∷ 5 ∷ 2 ∷ 3 ∷ 3 ∷ []) ∷
    met 99 99 99 99 0 (25 ∷ 4 ∷ 2 ∷ 0 ∷ 0 ∷ []) ∷
    met 99 99 99 99 2 (25 ∷ 4 ∷ 2 ∷ 0 ∷ 0 ∷ []) ∷
    met 99 99 99 99 3 (13 ∷ 5 ∷ 2 ∷ 3 ∷ 3 ∷ []) ∷
    met 1 99 99 0 99 (24 ∷ 1 ∷ 0 ∷ 0 ∷ 0 ∷ []) ∷
    met 2 99 99 0 99 (24 ∷ 1 ∷ 0 ∷ 0 ∷ 0 ∷ []) ∷
    met 3 99 99 1 99 (24 ∷ 2 ∷ 1 ∷ 0 ∷ 0 ∷ []) ∷
    met 4 99 99 1 99 (24 ∷ 2 ∷ 1 ∷ 0 ∷ 0 ∷ []) ∷
    met 99 1 99 0 99 (24 ∷ 1 ∷ 0 ∷ 0 ∷ 0 ∷ []) ∷
    met 99 2 99 0 99 (24 ∷ 1 ∷ 0 ∷ 0 ∷ 0 ∷ []) ∷
    met 99 3 99 1 99 (24 ∷ 2 ∷ 1 ∷ 0 ∷ 0 ∷ []) ∷
    met 99 4 99 1 99 (24 ∷ 2 ∷ 1 ∷ 0 ∷ 0 ∷ []) ∷
    met 99 99 0 99 0 (23 ∷ 4 ∷ 2 ∷ 0 ∷ 0 ∷ []) ∷
    met 99 99 0 99 2 (23 ∷ 4 ∷ 2 ∷ 0 ∷ 0 ∷ []) ∷
    met 99 99 2 99 0 (23 ∷ 4 ∷ 2 ∷ 0 ∷ 0 ∷ []) ∷
    met 99 99 2 99 2 (23 ∷ 4 ∷ 2 ∷ 0 ∷ 0 ∷ []) ∷
    []

pub limited26 : map (λ q. ends first_call plan26 q.0) rows26 ≡ map (λ q. q.1) rows26
unfolding ends parts_of row_of find_row table plan_of declarations bindings_in end_from entries_end places_of part_line is_plain names plain_entries plain_plan lookup view occurs is_monotype substitute rename front_names after_front can_unify term_view lambda_of find links any_solved write_out_by write_out solution_nodes board_nodes find_var before perform operations instantiate_from subtype open_names signature_from insert push_vars check_patterns check_arms infer_app run_from check_type result_of run_of judge put lower level_made level_after levels_after none_above
limited26 = refl

-- a type that has a quantifier inside
abbrev plan27 : List Triple
plan27 = l 2 40 0 ∷ l 16 0 1 ∷ l 14 11 0 ∷ l 11 11 0 ∷ l 3 0 0 ∷ l 12 1 0 ∷ l 4 0 0 ∷ l 21 40 0 ∷ []

abbrev rows27 : List (Small × List ℕ)
rows27 =
    met 1 99 99 99 99 (22 ∷ 1 ∷ 1 ∷ 0 ∷ 0 ∷ []) ∷
    met 2 99 99 99 99 (22 ∷ 1 ∷ 1 ∷ 0 ∷ 0 ∷ []) ∷
    met 3 99 99 99 99 (17 ∷ 3 ∷ 1 ∷ 3 ∷ 0 ∷ []) ∷
    met 99 1 99 99 99 (22 ∷ 1 ∷ 1 ∷ 0 ∷ 0 ∷ []) ∷
    met 99 2 99 99 99 (22 ∷ 1 ∷ 1 ∷ 0 ∷ 0 ∷ []) ∷
    met 99 3 99 99 99 (22 ∷ 2 ∷ 1 ∷ 0 ∷ 0 ∷ []) ∷
    met 99 5 99 99 99 (22 ∷ 2 ∷ 1 ∷ 0 ∷ 0 ∷ []) ∷
    met 99 6 99 99 99 (17 ∷ 3 ∷ 1 ∷ 3 ∷ 0 ∷ []) ∷
    met 99 99 0 99 99 (23 ∷ 3 ∷ 1 ∷ 0 ∷ 0 ∷ []) ∷
    met 99 99 2 99 99 (23 ∷ 3 ∷ 1 ∷ 0 ∷ 0 ∷ []) ∷
    met 99 99 3 99 99 (17 ∷ 3 ∷ 1 ∷ 3 ∷ 0 ∷ []) ∷
    met 99 99 99 0 99 (24 ∷ 1 ∷ 0 ∷ 0 ∷ 0 ∷ []) ∷
    met 99 99 99 1 99 (17 ∷ 3 ∷ 1 ∷ 3 ∷ 0 ∷ []) ∷
    met 99 99 99 99 0 (17 ∷ 3 ∷ 1 ∷ 3 ∷ 0 ∷ []) ∷
    met 1 99 99 0 99 (24 ∷ 1 ∷ 0 ∷ 0 ∷ 0 ∷ []) ∷
    met 2 99 99 0 99 (24 ∷ 1 ∷ 0 ∷ 0 ∷ 0 ∷ []) ∷
    met 99 1 99 0 99 (24 ∷ 1 ∷ 0 ∷ 0 ∷ 0 ∷ []) ∷
    met 99 2 99 0 99 (24 ∷ 1 ∷ 0 ∷ 0 ∷ 0 ∷ []) ∷
    []

pub limited27 : map (λ q. ends first_call plan27 q.0) rows27 ≡ map (λ q. q.1) rows27
unfolding ends parts_of row_of find_row table plan_of declarations bindings_in end_from entries_end places_of part_line is_plain names plain_entries plain_plan lookup view occurs is_monotype substitute rename front_names after_front can_unify term_view lambda_of find links any_solved write_out_by write_out solution_nodes board_nodes find_var before perform operations instantiate_from subtype open_names signature_from insert push_vars check_patterns check_arms infer_app run_from check_type result_of run_of judge put lower level_made level_after levels_after none_above
limited27 = refl

-- out of scope
abbrev plan28 : List Triple
plan28 = l 3 0 0 ∷ l 13 0 0 ∷ l 12 1 0 ∷ l 14 11 0 ∷ l 11 11 0 ∷ l 4 0 0 ∷ l 27 0 0 ∷ l 22 7 0 ∷ []

abbrev rows28 : List (Small × List ℕ)
rows28 =
    met 1 99 99 99 99 (22 ∷ 1 ∷ 1 ∷ 0 ∷ 0 ∷ []) ∷
    met 2 99 99 99 99 (22 ∷ 1 ∷ 1 ∷ 0 ∷ 0 ∷ []) ∷
    met 3 99 99 99 99 (22 ∷ 2 ∷ 2 ∷ 0 ∷ 0 ∷ []) ∷
    met 4 99 99 99 99 (22 ∷ 3 ∷ 3 ∷ 0 ∷ 0 ∷ []) ∷
    met 5 99 99 99 99 (22 ∷ 3 ∷ 3 ∷ 0 ∷ 0 ∷ []) ∷
    met 6 99 99 99 99 (39 ∷ 11 ∷ 6 ∷ 0 ∷ 5 ∷ []) ∷
    met 99 4 99 99 99 (22 ∷ 1 ∷ 1 ∷ 0 ∷ 0 ∷ []) ∷
    met 99 5 99 99 99 (22 ∷ 1 ∷ 1 ∷ 0 ∷ 0 ∷ []) ∷
    met 99 6 99 99 99 (22 ∷ 3 ∷ 3 ∷ 0 ∷ 0 ∷ []) ∷
    met 99 7 99 99 99 (22 ∷ 3 ∷ 3 ∷ 0 ∷ 0 ∷ []) ∷
    met 99 8 99 99 99 (22 ∷ 4 ∷ 3 ∷ 0 ∷ 0 ∷ []) ∷
    met 99 9 99 99 99 (39 ∷ 11 ∷ 6 ∷ 0 ∷ 5 ∷ []) ∷
    met 99 99 0 99 99 (23 ∷ 5 ∷ 3 ∷ 0 ∷ 0 ∷ []) ∷
    met 99 99 1 99 99 (23 ∷ 9 ∷ 3 ∷ 0 ∷ 2 ∷ []) ∷
    met 99 99 3 99 99 (23 ∷ 9 ∷ 3 ∷ 0 ∷ 2 ∷ []) ∷
    met 99 99 4 99 99 (39 ∷ 11 ∷ 6 ∷ 0 ∷ 5 ∷ []) ∷
    met 99 99 99 0 99 (24 ∷ 1 ∷ 0 ∷ 0 ∷ 0 ∷ []) ∷
    met 99 99 99 1 99 (24 ∷ 2 ∷ 1 ∷ 0 ∷ 0 ∷ []) ∷
    met 99 99 99 2 99 (24 ∷ 3 ∷ 2 ∷ 0 ∷ 0 ∷ []) ∷
    met 99 99 99 3 99 (24 ∷ 9 ∷ 3 ∷ 0 ∷ 2 ∷ []) ∷
    met 99 99 99 4 99 (24 ∷ 9 ∷ 4 ∷ 0 ∷ 2 ∷ []) ∷
    met 99 99 99 5 99 (24 ∷ 10 ∷ 5 ∷ 0 ∷ 5 ∷ []) ∷
    met 99 99 99 6 99 (39 ∷ 11 ∷ 6 ∷ 0 ∷ 5 ∷ []) ∷
    met 99 99 99 99 0 (25 ∷ 5 ∷ 3 ∷ 0 ∷ 0 ∷ []) ∷
    met 99 99 99 99 1 (25 ∷ 6 ∷ 3 ∷ 0 ∷ 1 ∷ []) ∷
    met 99 99 99 99 2 (25 ∷ 9 ∷ 5 ∷ 0 ∷ 2 ∷ []) ∷
    met 99 99 99 99 4 (25 ∷ 9 ∷ 5 ∷ 0 ∷ 2 ∷ []) ∷
    met 99 99 99 99 5 (39 ∷ 11 ∷ 6 ∷ 0 ∷ 5 ∷ []) ∷
    met 1 99 99 0 99 (24 ∷ 1 ∷ 0 ∷ 0 ∷ 0 ∷ []) ∷
    met 2 99 99 0 99 (24 ∷ 1 ∷ 0 ∷ 0 ∷ 0 ∷ []) ∷
    met 3 99 99 1 99 (24 ∷ 2 ∷ 1 ∷ 0 ∷ 0 ∷ []) ∷
    met 4 99 99 2 99 (24 ∷ 3 ∷ 2 ∷ 0 ∷ 0 ∷ []) ∷
    met 5 99 99 2 99 (24 ∷ 3 ∷ 2 ∷ 0 ∷ 0 ∷ []) ∷
    met 99 4 99 0 99 (24 ∷ 1 ∷ 0 ∷ 0 ∷ 0 ∷ []) ∷
    met 99 5 99 0 99 (24 ∷ 1 ∷ 0 ∷ 0 ∷ 0 ∷ []) ∷
    met 99 6 99 2 99 (24 ∷ 3 ∷ 2 ∷ 0 ∷ 0 ∷ []) ∷
    met 99 7 99 2 99 (24 ∷ 3 ∷ 2 ∷ 0 ∷ 0 ∷ []) ∷
    met 99 99 1 3 99 (23 ∷ 9 ∷ 3 ∷ 0 ∷ 2 ∷ []) ∷
    met 99 99 1 4 99 (23 ∷ 9 ∷ 3 ∷ 0 ∷ 2 ∷ []) ∷
    met 99 99 3 3 99 (23 ∷ 9 ∷ 3 ∷ 0 ∷ 2 ∷ []) ∷
    met 99 99 3 4 99 (23 ∷ 9 ∷ 3 ∷ 0 ∷ 2 ∷ []) ∷
    met 99 99 0 99 0 (23 ∷ 5 ∷ 3 ∷ 0 ∷ 0 ∷ []) ∷
    met 99 99 1 99 2 (23 ∷ 9 ∷ 3 ∷ 0 ∷ 2 ∷ []) ∷
    met 99 99 1 99 4 (23 ∷ 9 ∷ 3 ∷ 0 ∷ 2 ∷ []) ∷
    met 99 99 3 99 2 (23 ∷ 9 ∷ 3 ∷ 0 ∷ 2 ∷ []) ∷
    met 99 99 3 99 4 (23 ∷ 9 ∷ 3 ∷ 0 ∷ 2 ∷ []) ∷
    met 99 99 99 3 2 (24 ∷ 9 ∷ 3 ∷ 0 ∷ 2 ∷ []) ∷
    met 99 99 99 3 4 (24 ∷ 9 ∷ 3 ∷ 0 ∷ 2 ∷ []) ∷
    met 99 99 99 4 2 (24 ∷ 9 ∷ 4 ∷ 0 ∷ 2 ∷ []) ∷
    met 99 99 99 4 4 (24 ∷ 9 ∷ 4 ∷ 0 ∷ 2 ∷ []) ∷
    []

pub limited28 : map (λ q. ends strict_call plan28 q.0) rows28 ≡ map (λ q. q.1) rows28
unfolding ends parts_of row_of find_row table plan_of declarations bindings_in end_from entries_end places_of part_line is_plain names plain_entries plain_plan lookup view occurs is_monotype substitute rename front_names after_front can_unify term_view lambda_of find links any_solved write_out_by write_out solution_nodes board_nodes find_var before perform operations instantiate_from subtype open_names signature_from insert push_vars check_patterns check_arms infer_app run_from check_type result_of run_of judge put lower level_made level_after levels_after none_above
limited28 = refl

-- a part out of scope
abbrev plan29 : List Triple
plan29 = l 3 0 0 ∷ l 13 0 0 ∷ l 12 1 0 ∷ l 14 11 0 ∷ l 13 0 0 ∷ l 11 11 0 ∷ l 12 1 0 ∷ l 4 0 0 ∷ l 27 0 0 ∷ l 22 7 0 ∷ []

abbrev rows29 : List (Small × List ℕ)
rows29 =
    met 1 99 99 99 99 (22 ∷ 1 ∷ 1 ∷ 0 ∷ 0 ∷ []) ∷
    met 2 99 99 99 99 (22 ∷ 1 ∷ 1 ∷ 0 ∷ 0 ∷ []) ∷
    met 3 99 99 99 99 (22 ∷ 2 ∷ 2 ∷ 0 ∷ 0 ∷ []) ∷
    met 4 99 99 99 99 (22 ∷ 3 ∷ 3 ∷ 0 ∷ 0 ∷ []) ∷
    met 5 99 99 99 99 (22 ∷ 3 ∷ 3 ∷ 0 ∷ 0 ∷ []) ∷
    met 6 99 99 99 99 (22 ∷ 11 ∷ 8 ∷ 0 ∷ 8 ∷ []) ∷
    met 8 99 99 99 99 (22 ∷ 11 ∷ 8 ∷ 0 ∷ 8 ∷ []) ∷
    met 9 99 99 99 99 (39 ∷ 13 ∷ 8 ∷ 0 ∷ 9 ∷ []) ∷
    met 99 6 99 99 99 (22 ∷ 1 ∷ 1 ∷ 0 ∷ 0 ∷ []) ∷
    met 99 7 99 99 99 (22 ∷ 1 ∷ 1 ∷ 0 ∷ 0 ∷ []) ∷
    met 99 8 99 99 99 (22 ∷ 3 ∷ 3 ∷ 0 ∷ 0 ∷ []) ∷
    met 99 9 99 99 99 (22 ∷ 3 ∷ 3 ∷ 0 ∷ 0 ∷ []) ∷
    met 99 10 99 99 99 (22 ∷ 4 ∷ 3 ∷ 0 ∷ 0 ∷ []) ∷
    met 99 11 99 99 99 (39 ∷ 13 ∷ 8 ∷ 0 ∷ 9 ∷ []) ∷
    met 99 99 0 99 99 (23 ∷ 5 ∷ 3 ∷ 0 ∷ 0 ∷ []) ∷
    met 99 99 1 99 99 (23 ∷ 9 ∷ 3 ∷ 0 ∷ 2 ∷ []) ∷
    met 99 99 5 99 99 (23 ∷ 9 ∷ 3 ∷ 0 ∷ 2 ∷ []) ∷
    met 99 99 6 99 99 (39 ∷ 13 ∷ 8 ∷ 0 ∷ 9 ∷ []) ∷
    met 99 99 99 0 99 (24 ∷ 1 ∷ 0 ∷ 0 ∷ 0 ∷ []) ∷
    met 99 99 99 1 99 (24 ∷ 2 ∷ 1 ∷ 0 ∷ 0 ∷ []) ∷
    met 99 99 99 2 99 (24 ∷ 3 ∷ 2 ∷ 0 ∷ 0 ∷ []) ∷
    met 99 99 99 3 99 (24 ∷ 9 ∷ 3 ∷ 0 ∷ 2 ∷ []) ∷
    met 99 99 99 4 99 (24 ∷ 9 ∷ 4 ∷ 0 ∷ 2 ∷ []) ∷
    met 99 99 99 5 99 (24 ∷ 10 ∷ 5 ∷ 0 ∷ 5 ∷ []) ∷
    met 99 99 99 6 99 (24 ∷ 11 ∷ 6 ∷ 0 ∷ 5 ∷ []) ∷
    met 99 99 99 7 99 (24 ∷ 11 ∷ 7 ∷ 0 ∷ 5 ∷ []) ∷
    met 99 99 99 8 99 (39 ∷ 13 ∷ 8 ∷ 0 ∷ 9 ∷ []) ∷
    met 99 99 99 99 0 (25 ∷ 5 ∷ 3 ∷ 0 ∷ 0 ∷ []) ∷
    met 99 99 99 99 1 (25 ∷ 6 ∷ 3 ∷ 0 ∷ 1 ∷ []) ∷
    met 99 99 99 99 2 (25 ∷ 9 ∷ 5 ∷ 0 ∷ 2 ∷ []) ∷
    met 99 99 99 99 4 (25 ∷ 9 ∷ 5 ∷ 0 ∷ 2 ∷ []) ∷
    met 99 99 99 99 5 (25 ∷ 11 ∷ 8 ∷ 0 ∷ 5 ∷ []) ∷
    met 99 99 99 99 7 (25 ∷ 11 ∷ 8 ∷ 0 ∷ 5 ∷ []) ∷
    met 99 99 99 99 8 (25 ∷ 12 ∷ 8 ∷ 0 ∷ 8 ∷ []) ∷
    met 99 99 99 99 9 (39 ∷ 13 ∷ 8 ∷ 0 ∷ 9 ∷ []) ∷
    met 1 99 99 0 99 (24 ∷ 1 ∷ 0 ∷ 0 ∷ 0 ∷ []) ∷
    met 2 99 99 0 99 (24 ∷ 1 ∷ 0 ∷ 0 ∷ 0 ∷ []) ∷
    met 3 99 99 1 99 (24 ∷ 2 ∷ 1 ∷ 0 ∷ 0 ∷ []) ∷
    met 4 99 99 2 99 (24 ∷ 3 ∷ 2 ∷ 0 ∷ 0 ∷ []) ∷
    met 5 99 99 2 99 (24 ∷ 3 ∷ 2 ∷ 0 ∷ 0 ∷ []) ∷
    met 6 99 99 6 99 (24 ∷ 11 ∷ 6 ∷ 0 ∷ 5 ∷ []) ∷
    met 6 99 99 7 99 (24 ∷ 11 ∷ 7 ∷ 0 ∷ 5 ∷ []) ∷
    met 8 99 99 6 99 (24 ∷ 11 ∷ 6 ∷ 0 ∷ 5 ∷ []) ∷
    met 8 99 99 7 99 (24 ∷ 11 ∷ 7 ∷ 0 ∷ 5 ∷ []) ∷
    met 6 99 99 99 5 (25 ∷ 11 ∷ 8 ∷ 0 ∷ 5 ∷ []) ∷
    met 6 99 99 99 7 (25 ∷ 11 ∷ 8 ∷ 0 ∷ 5 ∷ []) ∷
    met 8 99 99 99 5 (25 ∷ 11 ∷ 8 ∷ 0 ∷ 5 ∷ []) ∷
    met 8 99 99 99 7 (25 ∷ 11 ∷ 8 ∷ 0 ∷ 5 ∷ []) ∷
    met 99 6 99 0 99 (24 ∷ 1 ∷ 0 ∷ 0 ∷ 0 ∷ []) ∷
    met 99 7 99 0 99 (24 ∷ 1 ∷ 0 ∷ 0 ∷ 0 ∷ []) ∷
    met 99 8 99 2 99 (24 ∷ 3 ∷ 2 ∷ 0 ∷ 0 ∷ []) ∷
    met 99 9 99 2 99 (24 ∷ 3 ∷ 2 ∷ 0 ∷ 0 ∷ []) ∷
    met 99 99 1 3 99 (23 ∷ 9 ∷ 3 ∷ 0 ∷ 2 ∷ []) ∷
    met 99 99 1 4 99 (23 ∷ 9 ∷ 3 ∷ 0 ∷ 2 ∷ []) ∷
    met 99 99 5 3 99 (23 ∷ 9 ∷ 3 ∷ 0 ∷ 2 ∷ []) ∷
    met 99 99 5 4 99 (23 ∷ 9 ∷ 3 ∷ 0 ∷ 2 ∷ []) ∷
    met 99 99 0 99 0 (23 ∷ 5 ∷ 3 ∷ 0 ∷ 0 ∷ []) ∷
    met 99 99 1 99 2 (23 ∷ 9 ∷ 3 ∷ 0 ∷ 2 ∷ []) ∷
    met 99 99 1 99 4 (23 ∷ 9 ∷ 3 ∷ 0 ∷ 2 ∷ []) ∷
    met 99 99 5 99 2 (23 ∷ 9 ∷ 3 ∷ 0 ∷ 2 ∷ []) ∷
    met 99 99 5 99 4 (23 ∷ 9 ∷ 3 ∷ 0 ∷ 2 ∷ []) ∷
    met 99 99 99 3 2 (24 ∷ 9 ∷ 3 ∷ 0 ∷ 2 ∷ []) ∷
    met 99 99 99 3 4 (24 ∷ 9 ∷ 3 ∷ 0 ∷ 2 ∷ []) ∷
    met 99 99 99 4 2 (24 ∷ 9 ∷ 4 ∷ 0 ∷ 2 ∷ []) ∷
    met 99 99 99 4 4 (24 ∷ 9 ∷ 4 ∷ 0 ∷ 2 ∷ []) ∷
    met 99 99 99 6 5 (24 ∷ 11 ∷ 6 ∷ 0 ∷ 5 ∷ []) ∷
    met 99 99 99 6 7 (24 ∷ 11 ∷ 6 ∷ 0 ∷ 5 ∷ []) ∷
    met 99 99 99 7 5 (24 ∷ 11 ∷ 7 ∷ 0 ∷ 5 ∷ []) ∷
    met 99 99 99 7 7 (24 ∷ 11 ∷ 7 ∷ 0 ∷ 5 ∷ []) ∷
    []

pub limited29 : map (λ q. ends strict_call plan29 q.0) rows29 ≡ map (λ q. q.1) rows29
unfolding ends parts_of row_of find_row table plan_of declarations bindings_in end_from entries_end places_of part_line is_plain names plain_entries plain_plan lookup view occurs is_monotype substitute rename front_names after_front can_unify term_view lambda_of find links any_solved write_out_by write_out solution_nodes board_nodes find_var before perform operations instantiate_from subtype open_names signature_from insert push_vars check_patterns check_arms infer_app run_from check_type result_of run_of judge put lower level_made level_after levels_after none_above
limited29 = refl
