-- Plans over a catalogue with the seven numbers of their answers, the plain mark last, by computation. reference/marks.py makes this file
-- from the answers of the Rust and the mark of reference/src/mark.rs. Assumes nothing.
use mathlib.Core.Path.{◌≡◌, refl}
use mathlib.Core.List.{List, [], ◌∷◌, map}
use Prim.Native.Nat.{ℕ}
use Rattle.sizes.specs.Sizes.{highest_ceiling}
use Rattle.spelling.specs.declared.Triple.{Triple}
use Rattle.kinds.specs.Kinds.{parts_of, row_of, find as find_row, table}
use Rattle.sheet.specs.Plan.{plan_of, declarations, bindings_in, end_from, entries_end, places_of, part_line, is_plain, names, plain_entries, plain_plan, lookup}
use Rattle.judgment.specs.Types.{view, occurs, is_monotype, substitute, rename, front_names, after_front, can_unify}
use Rattle.judgment.specs.Terms.{term_view, lambda_of}
use Rattle.judgment.specs.Solutions.{find, links, any_solved, write_out_by, write_out, solution_nodes}
use Rattle.judgment.specs.Board.{board_nodes, find_var, before, perform, operations}
use Rattle.judgment.specs.Rules.{instantiate_from, subtype, open_names, signature_from, insert, push_vars, check_patterns, check_arms, infer_app}
use Rattle.judgment.specs.Run.{run_from, check_type}
use Rattle.judgment.specs.Result.{result_of, run_of, judge, numbers, limits}
use Rattle.judgment.proofs.Wall.{l}

abbrev pub plans : List (List Triple × List ℕ)
plans =
    (l 1 20 0 ∷ l 14 11 0 ∷ l 11 11 0 ∷ l 3 0 0 ∷ l 12 1 0 ∷ l 4 0 0 ∷ l 22 7 0 ∷ [], 0 ∷ 0 ∷ 5 ∷ 1 ∷ 0 ∷ 0 ∷ 1 ∷ []) ∷  -- 7 as Int beside a quantified constructor
    (l 2 20 0 ∷ l 14 11 0 ∷ l 11 11 0 ∷ l 3 0 0 ∷ l 12 1 0 ∷ l 4 0 0 ∷ l 22 7 0 ∷ [], 0 ∷ 0 ∷ 5 ∷ 1 ∷ 0 ∷ 0 ∷ 1 ∷ []) ∷  -- beside a quantified variable
    (l 1 20 0 ∷ l 14 11 0 ∷ l 11 11 0 ∷ l 3 0 0 ∷ l 12 1 0 ∷ l 4 0 0 ∷ l 22 20 0 ∷ [], 0 ∷ 0 ∷ 5 ∷ 1 ∷ 0 ∷ 0 ∷ 1 ∷ []) ∷  -- a literal is no name
    (l 1 20 0 ∷ l 12 1 0 ∷ l 3 0 0 ∷ l 12 1 0 ∷ l 4 0 0 ∷ l 26 20 0 ∷ [], 0 ∷ 0 ∷ 5 ∷ 1 ∷ 0 ∷ 0 ∷ 1 ∷ []) ∷  -- an entry without a quantifier, named
    (l 1 20 0 ∷ l 14 11 0 ∷ l 11 11 0 ∷ l 3 0 0 ∷ l 12 1 0 ∷ l 4 0 0 ∷ l 26 21 0 ∷ [], 12 ∷ 0 ∷ 2 ∷ 1 ∷ 21 ∷ 0 ∷ 1 ∷ []) ∷  -- nothing is refused less: an unbound constructor
    (l 2 20 0 ∷ l 14 11 0 ∷ l 11 11 0 ∷ l 3 0 0 ∷ l 12 2 0 ∷ l 4 0 0 ∷ l 22 7 0 ∷ [], 15 ∷ 0 ∷ 4 ∷ 1 ∷ 1 ∷ 1 ∷ 1 ∷ []) ∷  -- Bool for Int
    (l 1 20 0 ∷ l 14 11 0 ∷ l 11 11 0 ∷ l 3 0 0 ∷ l 12 1 0 ∷ l 4 0 0 ∷ l 26 20 0 ∷ [], 0 ∷ 0 ∷ 6 ∷ 2 ∷ 0 ∷ 0 ∷ 0 ∷ []) ∷  -- on a line of kind 26
    (l 2 20 0 ∷ l 14 11 0 ∷ l 11 11 0 ∷ l 3 0 0 ∷ l 12 1 0 ∷ l 4 0 0 ∷ l 21 20 0 ∷ [], 0 ∷ 0 ∷ 8 ∷ 2 ∷ 0 ∷ 0 ∷ 0 ∷ []) ∷  -- on a line of kind 21, in the context
    (l 1 20 0 ∷ l 14 11 0 ∷ l 11 11 0 ∷ l 3 0 0 ∷ l 12 1 0 ∷ l 4 0 0 ∷ l 21 20 0 ∷ [], 0 ∷ 0 ∷ 8 ∷ 2 ∷ 0 ∷ 0 ∷ 0 ∷ []) ∷  -- on a line of kind 21, a constructor
    (l 1 20 0 ∷ l 14 11 0 ∷ l 11 11 0 ∷ l 3 0 0 ∷ l 12 1 0 ∷ l 4 0 0 ∷ l 27 0 1 ∷ l 22 7 0 ∷ l 43 20 0 ∷ l 22 1 0 ∷ [], 0 ∷ 0 ∷ 17 ∷ 5 ∷ 0 ∷ 0 ∷ 0 ∷ []) ∷  -- on a line of kind 43
    (l 1 20 0 ∷ l 14 11 0 ∷ l 11 11 0 ∷ l 3 0 0 ∷ l 12 1 0 ∷ l 4 0 0 ∷ l 27 0 1 ∷ l 22 7 0 ∷ l 43 30 1 ∷ l 43 20 0 ∷ l 22 1 0 ∷ [], 12 ∷ 0 ∷ 2 ∷ 2 ∷ 30 ∷ 0 ∷ 0 ∷ []) ∷  -- as a pattern's part
    (l 1 20 0 ∷ l 14 11 0 ∷ l 11 11 0 ∷ l 3 0 0 ∷ l 12 1 0 ∷ l 4 0 0 ∷ l 24 0 0 ∷ l 23 40 0 ∷ l 12 1 0 ∷ l 26 20 0 ∷ l 22 7 0 ∷ [], 0 ∷ 0 ∷ 23 ∷ 7 ∷ 0 ∷ 0 ∷ 0 ∷ []) ∷  -- in the body of a function
    (l 1 20 0 ∷ l 14 11 0 ∷ l 11 11 0 ∷ l 3 0 0 ∷ l 12 1 0 ∷ l 4 0 0 ∷ l 30 4 1 ∷ l 26 20 0 ∷ [], 15 ∷ 0 ∷ 10 ∷ 3 ∷ 1 ∷ 1 ∷ 0 ∷ []) ∷  -- of printInt's argument
    (l 2 20 0 ∷ l 14 11 0 ∷ l 11 11 0 ∷ l 3 0 0 ∷ l 12 1 0 ∷ l 4 0 0 ∷ l 29 0 0 ∷ l 22 1 0 ∷ l 22 2 0 ∷ l 21 20 0 ∷ [], 15 ∷ 0 ∷ 19 ∷ 5 ∷ 1 ∷ 1 ∷ 0 ∷ []) ∷  -- in the last part of an If
    (l 2 20 0 ∷ l 14 11 0 ∷ l 11 11 0 ∷ l 3 0 0 ∷ l 12 1 0 ∷ l 4 0 0 ∷ l 28 1 0 ∷ l 22 7 0 ∷ l 21 20 0 ∷ [], 0 ∷ 0 ∷ 18 ∷ 4 ∷ 0 ∷ 0 ∷ 0 ∷ []) ∷  -- on the right of an operator
    (l 2 20 0 ∷ l 14 11 0 ∷ l 11 11 0 ∷ l 3 0 0 ∷ l 12 1 0 ∷ l 4 0 0 ∷ l 24 0 0 ∷ l 22 7 0 ∷ l 21 20 0 ∷ [], 13 ∷ 0 ∷ 5 ∷ 2 ∷ 1 ∷ 0 ∷ 0 ∷ []) ∷  -- as an argument
    (l 2 20 0 ∷ l 14 11 0 ∷ l 11 11 0 ∷ l 3 0 0 ∷ l 12 1 0 ∷ l 4 0 0 ∷ l 27 0 0 ∷ l 21 20 0 ∷ [], 0 ∷ 0 ∷ 13 ∷ 4 ∷ 0 ∷ 0 ∷ 0 ∷ []) ∷  -- as a scrutinee
    (l 2 20 0 ∷ l 14 11 0 ∷ l 11 11 0 ∷ l 3 0 0 ∷ l 12 1 0 ∷ l 4 0 0 ∷ l 26 20 0 ∷ [], 12 ∷ 0 ∷ 2 ∷ 1 ∷ 20 ∷ 0 ∷ 0 ∷ []) ∷  -- a variable's name on a line of kind 26
    (l 2 20 0 ∷ l 14 11 0 ∷ l 11 11 0 ∷ l 3 0 0 ∷ l 12 1 0 ∷ l 4 0 0 ∷ l 27 0 1 ∷ l 22 7 0 ∷ l 43 20 0 ∷ l 22 1 0 ∷ [], 12 ∷ 0 ∷ 2 ∷ 2 ∷ 20 ∷ 0 ∷ 0 ∷ []) ∷  -- and on one of kind 43
    (l 1 20 0 ∷ l 12 1 0 ∷ l 2 20 0 ∷ l 14 11 0 ∷ l 11 11 0 ∷ l 3 0 0 ∷ l 12 1 0 ∷ l 4 0 0 ∷ l 26 20 0 ∷ [], 0 ∷ 0 ∷ 5 ∷ 1 ∷ 0 ∷ 0 ∷ 0 ∷ []) ∷  -- beside a constructor of that name
    (l 1 20 0 ∷ l 14 11 0 ∷ l 11 11 0 ∷ l 2 20 0 ∷ l 12 1 0 ∷ l 3 0 0 ∷ l 12 1 0 ∷ l 4 0 0 ∷ l 21 20 0 ∷ [], 0 ∷ 0 ∷ 5 ∷ 1 ∷ 0 ∷ 0 ∷ 0 ∷ []) ∷  -- a constructor hidden by a variable
    (l 1 20 0 ∷ l 12 1 0 ∷ l 2 20 0 ∷ l 12 1 0 ∷ l 3 0 0 ∷ l 12 1 0 ∷ l 4 0 0 ∷ l 21 20 0 ∷ [], 0 ∷ 0 ∷ 5 ∷ 1 ∷ 0 ∷ 0 ∷ 1 ∷ []) ∷  -- both without a quantifier
    (l 1 20 0 ∷ l 14 11 0 ∷ l 11 11 0 ∷ l 3 0 0 ∷ l 12 1 0 ∷ l 4 0 0 ∷ l 24 0 0 ∷ l 23 20 0 ∷ l 12 1 0 ∷ l 21 20 0 ∷ l 22 7 0 ∷ [], 0 ∷ 0 ∷ 22 ∷ 6 ∷ 0 ∷ 0 ∷ 0 ∷ []) ∷  -- a constructor hidden by a function's parameter
    (l 1 20 0 ∷ l 14 11 0 ∷ l 11 11 0 ∷ l 3 0 0 ∷ l 12 1 0 ∷ l 4 0 0 ∷ l 27 0 1 ∷ l 22 7 0 ∷ l 42 20 0 ∷ l 21 20 0 ∷ [], 0 ∷ 0 ∷ 16 ∷ 4 ∷ 0 ∷ 0 ∷ 0 ∷ []) ∷  -- and by a pattern's variable
    (l 2 20 0 ∷ l 14 11 0 ∷ l 11 11 0 ∷ l 3 0 0 ∷ l 12 1 0 ∷ l 4 0 0 ∷ l 24 0 0 ∷ l 23 20 0 ∷ l 12 1 0 ∷ l 21 20 0 ∷ l 22 7 0 ∷ [], 0 ∷ 0 ∷ 25 ∷ 7 ∷ 0 ∷ 0 ∷ 0 ∷ []) ∷  -- a variable that hides a function's parameter
    (l 1 20 0 ∷ l 12 1 0 ∷ l 1 30 0 ∷ l 14 11 0 ∷ l 11 11 0 ∷ l 3 0 0 ∷ l 12 1 0 ∷ l 4 0 0 ∷ l 26 20 1 ∷ l 22 7 0 ∷ [], 0 ∷ 0 ∷ 5 ∷ 1 ∷ 0 ∷ 0 ∷ 1 ∷ []) ∷  -- a constructor's argument that names nothing
    (l 1 20 0 ∷ l 12 1 0 ∷ l 1 30 0 ∷ l 14 11 0 ∷ l 11 11 0 ∷ l 3 0 0 ∷ l 12 1 0 ∷ l 4 0 0 ∷ l 26 20 1 ∷ l 21 30 0 ∷ [], 0 ∷ 0 ∷ 5 ∷ 1 ∷ 0 ∷ 0 ∷ 0 ∷ []) ∷  -- a variable in it
    (l 1 20 0 ∷ l 12 1 0 ∷ l 1 30 0 ∷ l 14 11 0 ∷ l 11 11 0 ∷ l 3 0 0 ∷ l 12 1 0 ∷ l 4 0 0 ∷ l 26 20 1 ∷ l 26 30 0 ∷ [], 0 ∷ 0 ∷ 5 ∷ 1 ∷ 0 ∷ 0 ∷ 0 ∷ []) ∷  -- a constructor in it
    (l 1 20 0 ∷ l 12 1 0 ∷ l 1 30 0 ∷ l 14 11 0 ∷ l 11 11 0 ∷ l 3 0 0 ∷ l 12 1 0 ∷ l 4 0 0 ∷ l 26 20 1 ∷ l 27 0 1 ∷ l 22 7 0 ∷ l 43 30 0 ∷ l 22 1 0 ∷ [], 0 ∷ 0 ∷ 5 ∷ 1 ∷ 0 ∷ 0 ∷ 0 ∷ []) ∷  -- a pattern in it
    (l 1 20 0 ∷ l 12 1 0 ∷ l 1 30 0 ∷ l 14 11 0 ∷ l 11 11 0 ∷ l 3 0 0 ∷ l 12 1 0 ∷ l 4 0 0 ∷ l 26 20 1 ∷ l 26 20 1 ∷ l 21 30 0 ∷ [], 0 ∷ 0 ∷ 5 ∷ 1 ∷ 0 ∷ 0 ∷ 0 ∷ []) ∷  -- in an argument's argument
    (l 1 20 0 ∷ l 12 1 0 ∷ l 1 30 0 ∷ l 14 11 0 ∷ l 11 11 0 ∷ l 3 0 0 ∷ l 12 1 0 ∷ l 4 0 0 ∷ l 26 20 1 ∷ l 25 12 0 ∷ l 22 7 0 ∷ [], 0 ∷ 0 ∷ 5 ∷ 1 ∷ 0 ∷ 0 ∷ 0 ∷ []) ∷  -- a type abstraction in it
    (l 1 20 0 ∷ l 12 1 0 ∷ l 1 30 0 ∷ l 14 11 0 ∷ l 11 11 0 ∷ l 3 0 0 ∷ l 12 1 0 ∷ l 4 0 0 ∷ l 26 20 1 ∷ l 23 12 0 ∷ l 14 11 0 ∷ l 11 11 0 ∷ l 22 7 0 ∷ [], 0 ∷ 0 ∷ 5 ∷ 1 ∷ 0 ∷ 0 ∷ 0 ∷ []) ∷  -- a quantified parameter in it
    (l 1 20 0 ∷ l 12 1 0 ∷ l 1 30 0 ∷ l 14 11 0 ∷ l 11 11 0 ∷ l 3 0 0 ∷ l 12 1 0 ∷ l 4 0 0 ∷ l 30 9 1 ∷ l 21 30 0 ∷ [], 19 ∷ 0 ∷ 2 ∷ 1 ∷ 9 ∷ 0 ∷ 0 ∷ []) ∷  -- an unknown intrinsic's argument
    (l 2 20 0 ∷ l 14 11 0 ∷ l 11 11 0 ∷ l 3 0 0 ∷ l 12 1 0 ∷ l 4 0 0 ∷ l 24 0 0 ∷ l 23 20 0 ∷ l 12 1 0 ∷ l 22 7 0 ∷ l 22 7 0 ∷ [], 0 ∷ 0 ∷ 22 ∷ 6 ∷ 0 ∷ 0 ∷ 1 ∷ []) ∷  -- a function's parameter
    (l 2 20 0 ∷ l 14 11 0 ∷ l 11 11 0 ∷ l 3 0 0 ∷ l 12 1 0 ∷ l 4 0 0 ∷ l 30 20 0 ∷ [], 19 ∷ 0 ∷ 2 ∷ 1 ∷ 20 ∷ 0 ∷ 1 ∷ []) ∷  -- an intrinsic
    (l 2 20 0 ∷ l 14 11 0 ∷ l 11 11 0 ∷ l 3 0 0 ∷ l 12 1 0 ∷ l 4 0 0 ∷ l 27 0 1 ∷ l 22 7 0 ∷ l 42 20 0 ∷ l 22 1 0 ∷ [], 0 ∷ 0 ∷ 16 ∷ 4 ∷ 0 ∷ 0 ∷ 1 ∷ []) ∷  -- a pattern's variable
    (l 2 3 0 ∷ l 14 11 0 ∷ l 11 11 0 ∷ l 3 0 0 ∷ l 12 1 0 ∷ l 4 0 0 ∷ l 28 3 0 ∷ l 22 7 0 ∷ l 22 7 0 ∷ [], 0 ∷ 0 ∷ 15 ∷ 3 ∷ 0 ∷ 0 ∷ 1 ∷ []) ∷  -- an operator
    (l 1 20 0 ∷ l 14 11 0 ∷ l 11 11 0 ∷ l 3 0 0 ∷ l 12 1 0 ∷ l 4 0 0 ∷ l 23 40 0 ∷ l 12 20 0 ∷ l 22 7 0 ∷ [], 15 ∷ 0 ∷ 12 ∷ 4 ∷ 3 ∷ 1 ∷ 1 ∷ []) ∷  -- a type in the term
    (l 1 20 0 ∷ l 14 11 0 ∷ l 11 11 0 ∷ l 3 0 0 ∷ l 12 1 0 ∷ l 4 0 0 ∷ l 23 40 0 ∷ l 11 20 0 ∷ l 22 7 0 ∷ [], 15 ∷ 0 ∷ 12 ∷ 4 ∷ 3 ∷ 1 ∷ 1 ∷ []) ∷  -- a type variable in the term
    (l 1 20 0 ∷ l 14 11 0 ∷ l 11 11 0 ∷ l 3 0 0 ∷ l 12 20 0 ∷ l 4 0 0 ∷ l 22 7 0 ∷ [], 15 ∷ 0 ∷ 4 ∷ 1 ∷ 1 ∷ 1 ∷ 1 ∷ []) ∷  -- the expected type
    (l 1 20 0 ∷ l 14 11 0 ∷ l 11 11 0 ∷ l 1 21 0 ∷ l 12 20 0 ∷ l 3 0 0 ∷ l 12 1 0 ∷ l 4 0 0 ∷ l 26 21 0 ∷ [], 15 ∷ 0 ∷ 4 ∷ 1 ∷ 1 ∷ 1 ∷ 1 ∷ []) ∷  -- another entry's type
    (l 1 20 0 ∷ l 14 11 0 ∷ l 11 11 0 ∷ l 3 0 0 ∷ l 12 1 0 ∷ l 4 0 0 ∷ l 25 20 0 ∷ l 22 7 0 ∷ [], 0 ∷ 0 ∷ 12 ∷ 3 ∷ 0 ∷ 0 ∷ 0 ∷ []) ∷  -- a type abstraction of that name
    (l 2 20 0 ∷ l 16 0 2 ∷ l 12 1 0 ∷ l 13 0 0 ∷ l 12 1 0 ∷ l 14 11 0 ∷ l 11 11 0 ∷ l 3 0 0 ∷ l 12 1 0 ∷ l 4 0 0 ∷ l 21 20 0 ∷ [], 17 ∷ 0 ∷ 3 ∷ 1 ∷ 0 ∷ 6 ∷ 0 ∷ []) ∷  -- a quantifier in the last part of a type, named
    (l 2 20 0 ∷ l 16 0 2 ∷ l 12 1 0 ∷ l 13 0 0 ∷ l 12 1 0 ∷ l 14 11 0 ∷ l 11 11 0 ∷ l 3 0 0 ∷ l 12 1 0 ∷ l 4 0 0 ∷ l 21 30 0 ∷ [], 11 ∷ 0 ∷ 2 ∷ 1 ∷ 30 ∷ 0 ∷ 1 ∷ []) ∷  -- not named
    (l 1 20 0 ∷ l 14 11 0 ∷ l 11 11 0 ∷ l 1 21 0 ∷ l 12 1 0 ∷ l 3 0 0 ∷ l 12 1 0 ∷ l 4 0 0 ∷ l 26 20 0 ∷ [], 0 ∷ 0 ∷ 6 ∷ 2 ∷ 0 ∷ 0 ∷ 0 ∷ []) ∷  -- of two entries the first is quantified, and named
    (l 1 20 0 ∷ l 14 11 0 ∷ l 11 11 0 ∷ l 1 21 0 ∷ l 12 1 0 ∷ l 3 0 0 ∷ l 12 1 0 ∷ l 4 0 0 ∷ l 26 21 0 ∷ [], 0 ∷ 0 ∷ 5 ∷ 1 ∷ 0 ∷ 0 ∷ 1 ∷ []) ∷  -- the second is named
    (l 1 20 0 ∷ l 12 1 0 ∷ l 1 21 0 ∷ l 14 11 0 ∷ l 11 11 0 ∷ l 3 0 0 ∷ l 12 1 0 ∷ l 4 0 0 ∷ l 26 20 0 ∷ [], 0 ∷ 0 ∷ 5 ∷ 1 ∷ 0 ∷ 0 ∷ 1 ∷ []) ∷  -- the second is quantified, and the first named
    (l 1 20 0 ∷ l 12 1 0 ∷ l 1 21 0 ∷ l 14 11 0 ∷ l 11 11 0 ∷ l 3 0 0 ∷ l 12 1 0 ∷ l 4 0 0 ∷ l 26 21 0 ∷ [], 0 ∷ 0 ∷ 6 ∷ 2 ∷ 0 ∷ 0 ∷ 0 ∷ []) ∷  -- the second is named
    (l 2 1 0 ∷ l 14 11 0 ∷ l 11 11 0 ∷ l 3 0 0 ∷ l 12 1 0 ∷ l 4 0 0 ∷ l 21 1 0 ∷ [], 0 ∷ 0 ∷ 8 ∷ 2 ∷ 0 ∷ 0 ∷ 0 ∷ []) ∷  -- the lowest name
    (l 2 9999 0 ∷ l 14 11 0 ∷ l 11 11 0 ∷ l 3 0 0 ∷ l 12 1 0 ∷ l 4 0 0 ∷ l 21 9999 0 ∷ [], 0 ∷ 0 ∷ 8 ∷ 2 ∷ 0 ∷ 0 ∷ 0 ∷ []) ∷  -- the highest name
    (l 2 9999 0 ∷ l 14 11 0 ∷ l 11 11 0 ∷ l 3 0 0 ∷ l 12 1 0 ∷ l 4 0 0 ∷ l 21 9998 0 ∷ [], 11 ∷ 0 ∷ 2 ∷ 1 ∷ 9998 ∷ 0 ∷ 1 ∷ []) ∷  -- one below it
    (l 2 1 0 ∷ l 14 11 0 ∷ l 11 11 0 ∷ l 3 0 0 ∷ l 12 1 0 ∷ l 4 0 0 ∷ l 21 9999 0 ∷ [], 11 ∷ 0 ∷ 2 ∷ 1 ∷ 9999 ∷ 0 ∷ 1 ∷ []) ∷  -- the lowest, where the highest is named
    (l 3 0 0 ∷ l 14 11 0 ∷ l 11 11 0 ∷ l 4 0 0 ∷ l 22 7 0 ∷ [], 15 ∷ 0 ∷ 5 ∷ 2 ∷ 1 ∷ 1 ∷ 0 ∷ []) ∷  -- the expected type
    (l 3 0 0 ∷ l 16 0 2 ∷ l 12 1 0 ∷ l 13 0 0 ∷ l 12 1 0 ∷ l 14 11 0 ∷ l 11 11 0 ∷ l 4 0 0 ∷ l 22 7 0 ∷ [], 15 ∷ 0 ∷ 4 ∷ 1 ∷ 1 ∷ 6 ∷ 0 ∷ []) ∷  -- its last part
    (l 3 0 0 ∷ l 12 1 0 ∷ l 4 0 0 ∷ l 23 40 0 ∷ l 14 11 0 ∷ l 11 11 0 ∷ l 22 7 0 ∷ [], 15 ∷ 0 ∷ 14 ∷ 5 ∷ 3 ∷ 1 ∷ 0 ∷ []) ∷  -- a function's parameter
    (l 3 0 0 ∷ l 12 1 0 ∷ l 4 0 0 ∷ l 25 40 0 ∷ l 22 7 0 ∷ [], 0 ∷ 0 ∷ 12 ∷ 3 ∷ 0 ∷ 0 ∷ 0 ∷ []) ∷  -- a type abstraction
    (l 3 0 0 ∷ l 12 1 0 ∷ l 4 0 0 ∷ l 27 0 1 ∷ l 22 7 0 ∷ l 41 0 0 ∷ l 25 40 0 ∷ l 22 7 0 ∷ [], 0 ∷ 0 ∷ 22 ∷ 6 ∷ 0 ∷ 0 ∷ 0 ∷ []) ∷  -- in the last arm
    (l 3 0 0 ∷ l 12 1 0 ∷ l 4 0 0 ∷ l 22 7 0 ∷ [], 0 ∷ 0 ∷ 5 ∷ 1 ∷ 0 ∷ 0 ∷ 1 ∷ []) ∷  -- none at all
    []

pub marked : map (λ q. numbers (judge limits highest_ceiling q.0).answer) plans ≡ map (λ q. q.1) plans
unfolding parts_of row_of find_row table plan_of declarations bindings_in end_from entries_end places_of part_line is_plain names plain_entries plain_plan lookup view occurs is_monotype substitute rename front_names after_front can_unify term_view lambda_of find links any_solved write_out_by write_out solution_nodes board_nodes find_var before perform operations instantiate_from subtype open_names signature_from insert push_vars check_patterns check_arms infer_app run_from check_type result_of run_of judge
marked = refl
