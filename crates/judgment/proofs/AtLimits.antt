-- For each limit of document 01 but the ceiling a plan that meets it exactly and one that passes it by one, those that pass one without limits, and plans at limits of
-- written-out types that a caller picks, with the Rust's answers as `reference answer` gives them (`--limits` with numbers that no run comes to; `--limit`), by computation.
-- Assumes nothing.
use mathlib.Core.Path.{◌≡◌, refl}
use mathlib.Core.List.{List, [], ◌∷◌, ◌++◌, map}
use Prim.Native.Nat.{ℕ, zero, suc, ◌+◌}
use lib.ListN.{length, replicate}
use Rattle.spelling.specs.declared.Triple.{Triple}
use Rattle.kinds.specs.Kinds.{parts_of, row_of, find as find_row, table}
use Rattle.sheet.specs.Plan.{plan_of, declarations, bindings_in, end_from, entries_end, places_of, part_line, is_plain, names, plain_entries, plain_plan, lookup}
use Rattle.judgment.specs.Types.{view, occurs, is_monotype, substitute, rename, front_names, after_front, can_unify}
use Rattle.judgment.specs.Terms.{term_view, lambda_of}
use Rattle.judgment.specs.Solutions.{find, links, any_solved, write_out_by, write_out, solution_nodes}
use Rattle.judgment.specs.Board.{Limits, board_nodes, find_var, before, perform, operations}
use Rattle.judgment.specs.Levels.{Levels, first_call}
use Rattle.judgment.specs.Rules.{instantiate_from, subtype, open_names, signature_from, insert, push_vars, check_patterns, check_arms, infer_app}
use Rattle.judgment.specs.Run.{run_from, check_type}
use Rattle.judgment.specs.Result.{numbers, result_of, run_of, judge, limits, limits_for, no_limits}
use Rattle.judgment.proofs.Wall.{l}

-- the seven numbers, and how many nodes the report and the solutions have
unfoldable pub short_under : (Levels → Limits) → List Triple → List ℕ × ℕ × ℕ
short_under L ls = let r = judge L 10000 ls in (numbers r.answer, length r.report, solution_nodes r.solutions)

abbrev short : List Triple → List ℕ × ℕ × ℕ
short ls = short_under limits ls

abbrev times : ℕ → List Triple → List Triple
times zero ls = []
times (suc n) ls = ls ++ times n ls

-- a Product of 100 nodes
abbrev product : List Triple
product = l 16 0 99 ∷ replicate 99 (l 12 1 0)

abbrev goal : List Triple → List Triple
goal e = l 3 0 0 ∷ l 12 1 0 ∷ l 4 0 0 ∷ e

abbrev when : List Triple → List Triple
when ls = l 29 0 0 ∷ l 28 5 0 ∷ l 22 1 0 ∷ l 22 2 0 ∷ ls

-- 512 entries on the board: a constructor with k quantifiers
abbrev quantified : ℕ → List Triple
quantified k = l 1 20 0 ∷ (replicate k (l 14 10 0) ++ (l 12 1 0 ∷ goal (l 26 20 0 ∷ [])))

-- 4,096 nodes on the board: ten arms that bind a variable of 401 nodes, w that bind none, and one of a pattern
abbrev wildcard : List Triple
wildcard = l 41 0 0 ∷ []

-- n20 has one parameter
abbrev no_parts : List Triple
no_parts = l 43 20 0 ∷ []

abbrev arms : ℕ → List Triple → List Triple
arms w last =
    l 1 20 0 ∷ l 13 0 0 ∷ l 16 0 4 ∷ (times 4 product ++ (l 12 30 0 ∷ l 2 40 0 ∷ l 12 30 0 ∷ goal (l 27 0 (11 + w) ∷ l 21 40 0 ∷ (
    times 10 (l 43 20 1 ∷ l 42 10 0 ∷ l 22 1 0 ∷ []) ++ (times w (wildcard ++ (l 22 1 0 ∷ [])) ++ (last ++ (l 22 1 0 ∷ [])))))))

-- 1,024 nodes in a type written out: a variable of 1,001 + c nodes
abbrev wide : ℕ → List Triple
wide c =
    l 2 40 0 ∷ l 16 0 (10 + c) ∷ (times 10 product ++ (replicate c (l 12 1 0) ++ goal (l 27 0 1 ∷ l 21 40 0 ∷ l 41 0 0 ∷ l 22 7 0 ∷ [])))

-- 1,000 numbers: a constructor with 230 quantifiers four times, and one with k
abbrev many : ℕ → List Triple
many k =
    l 1 20 0 ∷ (replicate 230 (l 14 10 0) ++ (l 12 1 0 ∷ l 1 21 0 ∷ (replicate k (l 14 10 0) ++ (l 12 1 0 ∷ goal (
    times 4 (when (l 26 20 0 ∷ [])) ++ (l 26 21 0 ∷ []))))))

-- 4,096 nodes of solutions: four of 1,021 nodes, and those of the body
abbrev large : List Triple → List Triple
large body =
    l 2 40 0 ∷ l 16 0 30 ∷ (times 10 product ++ (replicate 20 (l 12 1 0) ++ goal (l 27 0 1 ∷ when (l 21 40 0 ∷ l 21 40 0 ∷ l 41 0 0 ∷ body))))

pub entries : short (quantified 509) ∷ short (quantified 510) ∷ [] ≡ (0 ∷ 0 ∷ 514 ∷ 510 ∷ 0 ∷ 0 ∷ 0 ∷ [], 0, 1) ∷ (22 ∷ 0 ∷ 2 ∷ 511 ∷ 0 ∷ 0 ∷ 0 ∷ [], 0, 0) ∷ []
unfolding short_under judge result_of run_of check_type run_from perform operations board_nodes find_var before lookup instantiate_from subtype open_names signature_from insert push_vars check_patterns check_arms infer_app find links any_solved write_out_by write_out solution_nodes view term_view lambda_of occurs is_monotype substitute rename front_names after_front can_unify plan_of declarations bindings_in end_from entries_end places_of part_line is_plain names plain_entries plain_plan parts_of row_of find_row table
entries = refl

pub board-nodes : short (arms 49 wildcard) ∷ short (arms 50 wildcard) ∷ [] ≡ (0 ∷ 0 ∷ 330 ∷ 63 ∷ 0 ∷ 0 ∷ 1 ∷ [], 0, 63) ∷ (22 ∷ 0 ∷ 4 ∷ 3 ∷ 0 ∷ 0 ∷ 1 ∷ [], 0, 0) ∷ []
unfolding short_under judge result_of run_of check_type run_from perform operations board_nodes find_var before lookup instantiate_from subtype open_names signature_from insert push_vars check_patterns check_arms infer_app find links any_solved write_out_by write_out solution_nodes view term_view lambda_of occurs is_monotype substitute rename front_names after_front can_unify plan_of declarations bindings_in end_from entries_end places_of part_line is_plain names plain_entries plain_plan parts_of row_of find_row table
board-nodes = refl

-- a pattern's arity is tested after its Sub is pushed: 14, and 22 where the Sub does not fit although everything before it does
pub arity-after-sub : short (arms 51 no_parts) ∷ short (arms 52 no_parts) ∷ short (arms 52 wildcard) ∷ [] ≡ (14 ∷ 0 ∷ 2 ∷ 2 ∷ 1 ∷ 0 ∷ 1 ∷ [], 0, 0) ∷ (22 ∷ 0 ∷ 2 ∷ 2 ∷ 0 ∷ 0 ∷ 1 ∷ [], 0, 0) ∷ (22 ∷ 0 ∷ 3 ∷ 3 ∷ 0 ∷ 0 ∷ 1 ∷ [], 0, 0) ∷ []
unfolding short_under judge result_of run_of check_type run_from perform operations board_nodes find_var before lookup instantiate_from subtype open_names signature_from insert push_vars check_patterns check_arms infer_app find links any_solved write_out_by write_out solution_nodes view term_view lambda_of occurs is_monotype substitute rename front_names after_front can_unify plan_of declarations bindings_in end_from entries_end places_of part_line is_plain names plain_entries plain_plan parts_of row_of find_row table
arity-after-sub = refl

pub written-nodes : short (wide 23) ∷ short (wide 24) ∷ [] ≡ (0 ∷ 0 ∷ 15 ∷ 4 ∷ 0 ∷ 0 ∷ 1 ∷ [], 0, 2050) ∷ (23 ∷ 0 ∷ 10 ∷ 4 ∷ 0 ∷ 0 ∷ 1 ∷ [], 0, 2) ∷ []
unfolding short_under judge result_of run_of check_type run_from perform operations board_nodes find_var before lookup instantiate_from subtype open_names signature_from insert push_vars check_patterns check_arms infer_app find links any_solved write_out_by write_out solution_nodes view term_view lambda_of occurs is_monotype substitute rename front_names after_front can_unify plan_of declarations bindings_in end_from entries_end places_of part_line is_plain names plain_entries plain_plan parts_of row_of find_row table
written-nodes = refl

pub fresh-numbers : short (many 59) ∷ short (many 60) ∷ [] ≡ (0 ∷ 0 ∷ 1080 ∷ 1000 ∷ 0 ∷ 0 ∷ 0 ∷ [], 0, 21) ∷ (24 ∷ 0 ∷ 1073 ∷ 1000 ∷ 0 ∷ 0 ∷ 0 ∷ [], 0, 20) ∷ []
unfolding short_under judge result_of run_of check_type run_from perform operations board_nodes find_var before lookup instantiate_from subtype open_names signature_from insert push_vars check_patterns check_arms infer_app find links any_solved write_out_by write_out solution_nodes view term_view lambda_of occurs is_monotype substitute rename front_names after_front can_unify plan_of declarations bindings_in end_from entries_end places_of part_line is_plain names plain_entries plain_plan parts_of row_of find_row table
fresh-numbers = refl

pub solution-nodes : short (large (l 24 0 0 ∷ l 23 10 0 ∷ l 12 1 0 ∷ l 21 10 0 ∷ l 22 7 0 ∷ [])) ∷ short (large (times 4 (l 28 1 0 ∷ l 22 1 0 ∷ []) ++ (l 22 1 0 ∷ []))) ∷ [] ≡ (0 ∷ 0 ∷ 56 ∷ 14 ∷ 0 ∷ 0 ∷ 1 ∷ [], 0, 4096) ∷ (25 ∷ 0 ∷ 75 ∷ 17 ∷ 0 ∷ 0 ∷ 1 ∷ [], 0, 3076) ∷ []
unfolding short_under judge result_of run_of check_type run_from perform operations board_nodes find_var before lookup instantiate_from subtype open_names signature_from insert push_vars check_patterns check_arms infer_app find links any_solved write_out_by write_out solution_nodes view term_view lambda_of occurs is_monotype substitute rename front_names after_front can_unify plan_of declarations bindings_in end_from entries_end places_of part_line is_plain names plain_entries plain_plan parts_of row_of find_row table
solution-nodes = refl

-- without limits each plan that passes one is accepted
pub without : map (short_under no_limits) (quantified 510 ∷ arms 50 wildcard ∷ wide 24 ∷ many 60 ∷ large (times 4 (l 28 1 0 ∷ l 22 1 0 ∷ []) ++ (l 22 1 0 ∷ [])) ∷ []) ≡
    (0 ∷ 0 ∷ 515 ∷ 511 ∷ 0 ∷ 0 ∷ 0 ∷ [], 0, 1) ∷
    (0 ∷ 0 ∷ 335 ∷ 64 ∷ 0 ∷ 0 ∷ 1 ∷ [], 0, 64) ∷
    (0 ∷ 0 ∷ 15 ∷ 4 ∷ 0 ∷ 0 ∷ 1 ∷ [], 0, 2052) ∷
    (0 ∷ 0 ∷ 1081 ∷ 1001 ∷ 0 ∷ 0 ∷ 0 ∷ [], 0, 21) ∷
    (0 ∷ 0 ∷ 79 ∷ 17 ∷ 0 ∷ 0 ∷ 1 ∷ [], 0, 4097) ∷
    []
unfolding short_under judge result_of run_of check_type run_from perform operations board_nodes find_var before lookup instantiate_from subtype open_names signature_from insert push_vars check_patterns check_arms infer_app find links any_solved write_out_by write_out solution_nodes view term_view lambda_of occurs is_monotype substitute rename front_names after_front can_unify plan_of declarations bindings_in end_from entries_end places_of part_line is_plain names plain_entries plain_plan parts_of row_of find_row table
without = refl

-- a variable of the expected type, a Product of 1 + n nodes
abbrev parts : ℕ → List Triple
parts n = l 16 0 n ∷ replicate n (l 12 1 0)

abbrev declared : ℕ → List Triple
declared n = l 2 40 0 ∷ (parts n ++ (l 3 0 0 ∷ (parts n ++ (l 4 0 0 ∷ l 21 40 0 ∷ []))))

abbrev as_arrow : List Triple
as_arrow = l 3 0 0 ∷ l 13 0 0 ∷ l 12 1 0 ∷ l 12 1 0 ∷ l 4 0 0 ∷ l 22 7 0 ∷ []

-- a function whose type grows after it was compared: n40 has k copies of a type and e nodes more, and n41 knows that type, a Product of 1 + m nodes
abbrev late : ℕ → ℕ → ℕ → List Triple
late k m e =
    l 2 40 0 ∷ l 14 10 0 ∷ l 15 0 0 ∷ l 15 0 0 ∷ l 12 30 0 ∷ l 11 10 0 ∷ l 16 0 (k + e) ∷ (replicate k (l 11 10 0) ++ (replicate e (l 12 1 0) ++ (
    l 2 41 0 ∷ l 14 11 0 ∷ l 15 0 0 ∷ l 15 0 0 ∷ l 12 30 0 ∷ (parts m ++ (l 11 11 0 ∷ goal (
    l 24 0 0 ∷ l 29 0 0 ∷ l 28 5 0 ∷ l 22 1 0 ∷ l 22 2 0 ∷ l 21 40 0 ∷ l 21 41 0 ∷ l 22 7 0 ∷ []))))))

-- a pattern in a pattern, whose two types are the same nodes as they stand, a Product of 1 + n
abbrev matched : ℕ → List Triple
matched n =
    l 1 20 0 ∷ (parts n ++ (l 1 21 0 ∷ l 13 0 0 ∷ (parts n ++ (l 12 30 0 ∷ l 1 29 0 ∷ l 12 30 0 ∷ goal (
    l 27 0 1 ∷ l 26 29 0 ∷ l 43 21 1 ∷ l 43 20 0 ∷ l 22 7 0 ∷ [])))))

-- 23 by Sub on the left, on the right and on both sides alike, and by InfApp alone
pub picked : map (λ (q : ℕ × List Triple). short_under (limits_for first_call q.0) q.1)
    ((1, goal (l 22 7 0 ∷ [])) ∷ (1, declared 0) ∷ (1, declared 1) ∷ (2, declared 1) ∷ (2, declared 2) ∷ (1, as_arrow) ∷ (2, as_arrow) ∷ (3, as_arrow)
    ∷ (5, matched 5) ∷ (6, matched 5) ∷ (11, late 1 3 0) ∷ (12, late 1 3 0) ∷ (4096, late 66 60 5) ∷ (4096, late 66 60 6) ∷ []) ≡
    (0 ∷ 0 ∷ 5 ∷ 1 ∷ 0 ∷ 0 ∷ 1 ∷ [], 0, 1) ∷
    (0 ∷ 0 ∷ 5 ∷ 1 ∷ 0 ∷ 0 ∷ 1 ∷ [], 0, 1) ∷
    (23 ∷ 0 ∷ 3 ∷ 1 ∷ 0 ∷ 0 ∷ 1 ∷ [], 0, 0) ∷
    (0 ∷ 0 ∷ 5 ∷ 1 ∷ 0 ∷ 0 ∷ 1 ∷ [], 0, 2) ∷
    (23 ∷ 0 ∷ 3 ∷ 1 ∷ 0 ∷ 0 ∷ 1 ∷ [], 0, 0) ∷
    (23 ∷ 0 ∷ 4 ∷ 1 ∷ 0 ∷ 0 ∷ 1 ∷ [], 0, 1) ∷
    (23 ∷ 0 ∷ 4 ∷ 1 ∷ 0 ∷ 0 ∷ 1 ∷ [], 0, 1) ∷
    (15 ∷ 0 ∷ 4 ∷ 1 ∷ 1 ∷ 3 ∷ 1 ∷ [], 4, 1) ∷
    (23 ∷ 0 ∷ 8 ∷ 3 ∷ 0 ∷ 0 ∷ 1 ∷ [], 0, 2) ∷
    (0 ∷ 0 ∷ 17 ∷ 4 ∷ 0 ∷ 0 ∷ 1 ∷ [], 0, 4) ∷
    (23 ∷ 0 ∷ 63 ∷ 21 ∷ 0 ∷ 0 ∷ 0 ∷ [], 0, 43) ∷
    (13 ∷ 0 ∷ 63 ∷ 21 ∷ 12 ∷ 0 ∷ 0 ∷ [], 12, 43) ∷
    (13 ∷ 0 ∷ 63 ∷ 21 ∷ 4096 ∷ 0 ∷ 0 ∷ [], 4096, 354) ∷
    (23 ∷ 0 ∷ 63 ∷ 21 ∷ 0 ∷ 0 ∷ 0 ∷ [], 0, 356) ∷
    []
unfolding short_under judge result_of run_of check_type run_from perform operations board_nodes find_var before lookup instantiate_from subtype open_names signature_from insert push_vars check_patterns check_arms infer_app find links any_solved write_out_by write_out solution_nodes view term_view lambda_of occurs is_monotype substitute rename front_names after_front can_unify plan_of declarations bindings_in end_from entries_end places_of part_line is_plain names plain_entries plain_plan parts_of row_of find_row table
picked = refl
