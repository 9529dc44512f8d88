-- Plans that tell the rules from a wrong turn: those of docs/DIFFERENCES.md and others, with the Rust's answers as `reference answer`
-- gives them, by computation. Assumes nothing.
use mathlib.Core.Path.{◌≡◌, refl}
use mathlib.Core.List.{List, [], ◌∷◌, map}
use Prim.Native.Nat.{ℕ}
use Rattle.nodes.specs.Nodes.{node}
use Rattle.spelling.specs.declared.Triple.{Triple}
use Rattle.kinds.specs.Kinds.{parts_of, row_of, find as find_row, table}
use Rattle.sheet.specs.Plan.{plan_of, declarations, bindings_in, end_from, entries_end, places_of, part_line, is_plain, names, plain_entries, plain_plan, lookup}
use Rattle.judgment.specs.Types.{view, occurs, is_monotype, substitute, rename, front_names, after_front, can_unify}
use Rattle.judgment.specs.Terms.{term_view, lambda_of}
use Rattle.judgment.specs.Solutions.{◌≔◌, find, links, any_solved, write_out_by, write_out, solution_nodes}
use Rattle.judgment.specs.Board.{board_nodes, find_var, before, perform, operations}
use Rattle.judgment.specs.Rules.{instantiate_from, subtype, open_names, signature_from, insert, push_vars, check_patterns, check_arms, infer_app}
use Rattle.judgment.specs.Run.{run_from, check_type}
use Rattle.judgment.specs.Result.{result_of, run_of, judge}
use Rattle.judgment.proofs.Wall.{l, Row, row}

abbrev pub told : List (ℕ × List Triple)
told =
    (10000, (l 2 40 0 ∷ l 13 0 0 ∷ l 14 10 0 ∷ l 13 0 0 ∷ l 11 10 0 ∷ l 11 10 0 ∷ l 12 1 0 ∷ l 3 0 0 ∷ l 12 3 0 ∷ l 4 0 0 ∷ l 21 40 0 ∷ [])) ∷  -- instantiate_right on an Arrow
    (10000, (l 2 46 0 ∷ l 14 12 0 ∷ l 11 12 0 ∷ l 3 0 0 ∷ l 13 0 0 ∷ l 12 1 0 ∷ l 14 11 0 ∷ l 11 11 0 ∷ l 4 0 0 ∷ l 21 46 0 ∷ [])) ∷  -- no scope check on solving
    (10000, (l 2 40 0 ∷ l 13 0 0 ∷ l 12 1 0 ∷ l 12 1 0 ∷ l 3 0 0 ∷ l 13 0 0 ∷ l 12 1 0 ∷ l 12 1 0 ∷ l 4 0 0 ∷ l 29 0 0 ∷ l 28 5 0 ∷ l 22 1 0 ∷ l 22 2 0 ∷ l 23 10 0 ∷ l 12 1 0 ∷ l 21 10 0 ∷ l 21 40 0 ∷ [])) ∷  -- an If's Lambda is checked at an unknown that has an Arrow for its solution
    (10000, (l 1 20 0 ∷ l 14 10 0 ∷ l 16 0 2 ∷ l 11 10 0 ∷ l 14 10 0 ∷ l 11 10 0 ∷ l 3 0 0 ∷ l 12 1 0 ∷ l 4 0 0 ∷ l 26 20 0 ∷ [])) ∷  -- substitutions under a quantifier of the same name
    (10000, (l 1 20 0 ∷ l 14 10 0 ∷ l 14 10 0 ∷ l 11 10 0 ∷ l 3 0 0 ∷ l 12 1 0 ∷ l 4 0 0 ∷ l 26 20 0 ∷ [])) ∷  -- a name quantified twice takes the later unknown
    (10000, (l 3 0 0 ∷ l 13 0 0 ∷ l 12 1 0 ∷ l 12 2 0 ∷ l 4 0 0 ∷ l 23 10 0 ∷ l 14 11 0 ∷ l 11 11 0 ∷ l 21 10 0 ∷ [])) ∷  -- a Lambda's type is compared the other way round
    (10000, (l 2 10 0 ∷ l 12 2 0 ∷ l 3 0 0 ∷ l 13 0 0 ∷ l 12 1 0 ∷ l 12 1 0 ∷ l 4 0 0 ∷ l 23 10 0 ∷ l 12 1 0 ∷ l 21 10 0 ∷ [])) ∷  -- the context comes before the board
    (10000, (l 1 20 0 ∷ l 13 0 0 ∷ l 12 1 0 ∷ l 12 30 0 ∷ l 3 0 0 ∷ l 12 30 0 ∷ l 4 0 0 ∷ l 26 20 1 ∷ l 22 7 0 ∷ [])) ∷  -- a constructor with its argument is judged at its whole type
    (10000, (l 1 20 0 ∷ l 13 0 0 ∷ l 12 1 0 ∷ l 13 0 0 ∷ l 12 2 0 ∷ l 12 30 0 ∷ l 2 40 0 ∷ l 12 30 0 ∷ l 3 0 0 ∷ l 12 1 0 ∷ l 4 0 0 ∷ l 27 0 1 ∷ l 21 40 0 ∷ l 43 20 2 ∷ l 42 10 0 ∷ l 42 10 0 ∷ l 21 10 0 ∷ [])) ∷  -- a repeated pattern variable takes the last type
    (10000, (l 1 20 0 ∷ l 14 11 0 ∷ l 13 0 0 ∷ l 11 11 0 ∷ l 12 30 0 ∷ l 3 0 0 ∷ l 12 1 0 ∷ l 4 0 0 ∷ l 27 0 1 ∷ l 22 7 0 ∷ l 43 20 0 ∷ l 22 1 0 ∷ [])) ∷  -- a pattern's arity is tested after its Sub is pushed
    (10000, (l 2 10 0 ∷ l 14 12 0 ∷ l 16 0 1 ∷ l 11 12 0 ∷ l 3 0 0 ∷ l 16 0 1 ∷ l 12 1 0 ∷ l 4 0 0 ∷ l 21 10 0 ∷ [])) ∷  -- unequal Products, an unknown inside
    (10000, (l 3 0 0 ∷ l 14 10 0 ∷ l 14 10 0 ∷ l 11 10 0 ∷ l 4 0 0 ∷ l 22 7 0 ∷ [])) ∷  -- a Forall of the same name halts substitute_type
    (10000, (l 3 0 0 ∷ l 12 1 0 ∷ l 4 0 0 ∷ l 27 0 0 ∷ l 22 7 0 ∷ [])) ∷  -- a Case with no arms
    (10000, (l 3 0 0 ∷ l 12 3 0 ∷ l 4 0 0 ∷ l 30 9 2 ∷ l 22 1 0 ∷ l 22 2 0 ∷ [])) ∷  -- an unknown intrinsic with two arguments
    (10000, (l 3 0 0 ∷ l 13 0 0 ∷ l 13 0 0 ∷ l 12 2 0 ∷ l 12 1 0 ∷ l 12 1 0 ∷ l 4 0 0 ∷ l 23 10 0 ∷ l 13 0 0 ∷ l 12 1 0 ∷ l 12 2 0 ∷ l 22 7 0 ∷ [])) ∷  -- Arrow and Arrow compared
    (10000, (l 3 0 0 ∷ l 13 0 0 ∷ l 15 0 0 ∷ l 12 2 0 ∷ l 12 1 0 ∷ l 12 1 0 ∷ l 4 0 0 ∷ l 23 10 0 ∷ l 13 0 0 ∷ l 12 1 0 ∷ l 12 2 0 ∷ l 22 7 0 ∷ [])) ∷  -- Arrow and App compared
    (10000, (l 3 0 0 ∷ l 13 0 0 ∷ l 14 12 0 ∷ l 13 0 0 ∷ l 11 12 0 ∷ l 11 12 0 ∷ l 12 1 0 ∷ l 4 0 0 ∷ l 23 10 0 ∷ l 13 0 0 ∷ l 12 1 0 ∷ l 12 2 0 ∷ l 22 7 0 ∷ [])) ∷  -- Arrow and Forall compared
    (10000, (l 3 0 0 ∷ l 13 0 0 ∷ l 12 2 0 ∷ l 12 1 0 ∷ l 4 0 0 ∷ l 23 10 0 ∷ l 13 0 0 ∷ l 12 1 0 ∷ l 12 2 0 ∷ l 22 7 0 ∷ [])) ∷  -- Arrow and Con compared
    (10000, (l 3 0 0 ∷ l 13 0 0 ∷ l 13 0 0 ∷ l 12 2 0 ∷ l 12 1 0 ∷ l 12 1 0 ∷ l 4 0 0 ∷ l 23 10 0 ∷ l 15 0 0 ∷ l 12 1 0 ∷ l 12 2 0 ∷ l 22 7 0 ∷ [])) ∷  -- App and Arrow compared
    (10000, (l 3 0 0 ∷ l 13 0 0 ∷ l 15 0 0 ∷ l 12 2 0 ∷ l 12 1 0 ∷ l 12 1 0 ∷ l 4 0 0 ∷ l 23 10 0 ∷ l 15 0 0 ∷ l 12 1 0 ∷ l 12 2 0 ∷ l 22 7 0 ∷ [])) ∷  -- App and App compared
    (10000, (l 3 0 0 ∷ l 13 0 0 ∷ l 14 12 0 ∷ l 13 0 0 ∷ l 11 12 0 ∷ l 11 12 0 ∷ l 12 1 0 ∷ l 4 0 0 ∷ l 23 10 0 ∷ l 15 0 0 ∷ l 12 1 0 ∷ l 12 2 0 ∷ l 22 7 0 ∷ [])) ∷  -- App and Forall compared
    (10000, (l 3 0 0 ∷ l 13 0 0 ∷ l 12 2 0 ∷ l 12 1 0 ∷ l 4 0 0 ∷ l 23 10 0 ∷ l 15 0 0 ∷ l 12 1 0 ∷ l 12 2 0 ∷ l 22 7 0 ∷ [])) ∷  -- App and Con compared
    (10000, (l 3 0 0 ∷ l 13 0 0 ∷ l 13 0 0 ∷ l 12 2 0 ∷ l 12 1 0 ∷ l 12 1 0 ∷ l 4 0 0 ∷ l 23 10 0 ∷ l 14 11 0 ∷ l 11 11 0 ∷ l 22 7 0 ∷ [])) ∷  -- Forall and Arrow compared
    (10000, (l 3 0 0 ∷ l 13 0 0 ∷ l 15 0 0 ∷ l 12 2 0 ∷ l 12 1 0 ∷ l 12 1 0 ∷ l 4 0 0 ∷ l 23 10 0 ∷ l 14 11 0 ∷ l 11 11 0 ∷ l 22 7 0 ∷ [])) ∷  -- Forall and App compared
    (10000, (l 3 0 0 ∷ l 13 0 0 ∷ l 14 12 0 ∷ l 13 0 0 ∷ l 11 12 0 ∷ l 11 12 0 ∷ l 12 1 0 ∷ l 4 0 0 ∷ l 23 10 0 ∷ l 14 11 0 ∷ l 11 11 0 ∷ l 22 7 0 ∷ [])) ∷  -- Forall and Forall compared
    (10000, (l 3 0 0 ∷ l 13 0 0 ∷ l 12 2 0 ∷ l 12 1 0 ∷ l 4 0 0 ∷ l 23 10 0 ∷ l 14 11 0 ∷ l 11 11 0 ∷ l 22 7 0 ∷ [])) ∷  -- Forall and Con compared
    (10000, (l 3 0 0 ∷ l 13 0 0 ∷ l 13 0 0 ∷ l 12 2 0 ∷ l 12 1 0 ∷ l 12 1 0 ∷ l 4 0 0 ∷ l 23 10 0 ∷ l 12 1 0 ∷ l 22 7 0 ∷ [])) ∷  -- Con and Arrow compared
    (10000, (l 3 0 0 ∷ l 13 0 0 ∷ l 15 0 0 ∷ l 12 2 0 ∷ l 12 1 0 ∷ l 12 1 0 ∷ l 4 0 0 ∷ l 23 10 0 ∷ l 12 1 0 ∷ l 22 7 0 ∷ [])) ∷  -- Con and App compared
    (10000, (l 3 0 0 ∷ l 13 0 0 ∷ l 14 12 0 ∷ l 13 0 0 ∷ l 11 12 0 ∷ l 11 12 0 ∷ l 12 1 0 ∷ l 4 0 0 ∷ l 23 10 0 ∷ l 12 1 0 ∷ l 22 7 0 ∷ [])) ∷  -- Con and Forall compared
    (10000, (l 3 0 0 ∷ l 13 0 0 ∷ l 12 2 0 ∷ l 12 1 0 ∷ l 4 0 0 ∷ l 23 10 0 ∷ l 12 1 0 ∷ l 22 7 0 ∷ [])) ∷  -- Con and Con compared
    (10000, (l 3 0 0 ∷ l 13 0 0 ∷ l 15 0 0 ∷ l 12 1 0 ∷ l 12 1 0 ∷ l 12 1 0 ∷ l 4 0 0 ∷ l 23 10 0 ∷ l 15 0 0 ∷ l 12 1 0 ∷ l 12 2 0 ∷ l 22 7 0 ∷ [])) ∷  -- App and App compared, equal in the first part
    (10000, (l 3 0 0 ∷ l 13 0 0 ∷ l 12 2 0 ∷ l 12 1 0 ∷ l 4 0 0 ∷ l 23 10 0 ∷ l 14 11 0 ∷ l 12 1 0 ∷ l 22 7 0 ∷ [])) ∷  -- Forall and a Con compared, unequal inside
    (10000, (l 3 0 0 ∷ l 13 0 0 ∷ l 15 0 0 ∷ l 12 2 0 ∷ l 12 1 0 ∷ l 12 1 0 ∷ l 4 0 0 ∷ l 23 10 0 ∷ l 14 11 0 ∷ l 15 0 0 ∷ l 11 11 0 ∷ l 12 1 0 ∷ l 22 7 0 ∷ [])) ∷  -- Forall and App compared, equal inside
    (10000, (l 3 0 0 ∷ l 13 0 0 ∷ l 14 12 0 ∷ l 13 0 0 ∷ l 12 1 0 ∷ l 12 1 0 ∷ l 12 1 0 ∷ l 4 0 0 ∷ l 23 10 0 ∷ l 13 0 0 ∷ l 12 1 0 ∷ l 12 1 0 ∷ l 22 7 0 ∷ [])) ∷  -- Arrow and Forall compared, equal inside
    (10000, (l 3 0 0 ∷ l 13 0 0 ∷ l 14 12 0 ∷ l 15 0 0 ∷ l 12 1 0 ∷ l 12 1 0 ∷ l 12 1 0 ∷ l 4 0 0 ∷ l 23 10 0 ∷ l 15 0 0 ∷ l 12 1 0 ∷ l 12 1 0 ∷ l 22 7 0 ∷ [])) ∷  -- App and Forall compared, equal inside
    (10000, (l 1 20 0 ∷ l 14 10 0 ∷ l 13 0 0 ∷ l 11 10 0 ∷ l 11 10 0 ∷ l 3 0 0 ∷ l 12 1 0 ∷ l 4 0 0 ∷ l 29 0 0 ∷ l 28 5 0 ∷ l 22 1 0 ∷ l 22 2 0 ∷ l 26 20 0 ∷ l 26 20 0 ∷ [])) ∷  -- an unknown is given an Arrow whose parts are unknowns that the board has no longer
    (10000, (l 1 20 0 ∷ l 14 10 0 ∷ l 15 0 0 ∷ l 11 10 0 ∷ l 11 10 0 ∷ l 3 0 0 ∷ l 12 1 0 ∷ l 4 0 0 ∷ l 29 0 0 ∷ l 28 5 0 ∷ l 22 1 0 ∷ l 22 2 0 ∷ l 26 20 0 ∷ l 26 20 0 ∷ [])) ∷  -- the same with an App
    (10000, (l 3 0 0 ∷ l 12 1 0 ∷ l 4 0 0 ∷ l 27 0 1 ∷ l 22 1 0 ∷ l 42 10 0 ∷ l 24 0 0 ∷ l 21 10 0 ∷ l 24 0 0 ∷ l 21 10 0 ∷ l 27 0 0 ∷ l 22 7 0 ∷ [])) ∷  -- an unknown is applied, and its argument and its result meet
    (10000, (l 2 40 0 ∷ l 15 0 0 ∷ l 12 1 0 ∷ l 12 1 0 ∷ l 3 0 0 ∷ l 12 1 0 ∷ l 4 0 0 ∷ l 24 0 0 ∷ l 21 40 0 ∷ l 22 7 0 ∷ [])) ∷  -- an App is applied
    (10000, (l 2 40 0 ∷ l 13 0 0 ∷ l 12 1 0 ∷ l 12 1 0 ∷ l 3 0 0 ∷ l 12 1 0 ∷ l 4 0 0 ∷ l 24 0 0 ∷ l 21 40 0 ∷ l 22 7 0 ∷ [])) ∷  -- a function is applied
    (10000, (l 2 40 0 ∷ l 14 11 0 ∷ l 13 0 0 ∷ l 11 11 0 ∷ l 11 11 0 ∷ l 3 0 0 ∷ l 12 1 0 ∷ l 4 0 0 ∷ l 24 0 0 ∷ l 21 40 0 ∷ l 22 7 0 ∷ [])) ∷  -- a quantified function is applied
    (10000, (l 3 0 0 ∷ l 12 1 0 ∷ l 4 0 0 ∷ l 28 4 0 ∷ l 21 98 0 ∷ l 21 99 0 ∷ [])) ∷  -- the second operand is judged first
    (10000, (l 3 0 0 ∷ l 12 1 0 ∷ l 4 0 0 ∷ l 28 4 0 ∷ l 22 1 0 ∷ l 22 2 0 ∷ [])) ∷  -- operator 4 makes an Int
    (10000, (l 3 0 0 ∷ l 12 2 0 ∷ l 4 0 0 ∷ l 28 5 0 ∷ l 22 1 0 ∷ l 22 2 0 ∷ [])) ∷  -- operator 5 makes a Bool
    (10000, (l 3 0 0 ∷ l 12 3 0 ∷ l 4 0 0 ∷ l 30 4 1 ∷ l 22 7 0 ∷ [])) ∷  -- printInt makes a Unit
    (10000, (l 3 0 0 ∷ l 12 1 0 ∷ l 4 0 0 ∷ l 25 11 0 ∷ l 22 7 0 ∷ [])) ∷  -- a TypeLambda
    (10000, (l 3 0 0 ∷ l 12 1 0 ∷ l 4 0 0 ∷ l 24 0 0 ∷ l 23 10 0 ∷ l 12 1 0 ∷ l 21 10 0 ∷ l 22 7 0 ∷ [])) ∷  -- a Lambda inside an application
    (10000, (l 1 20 0 ∷ l 13 0 0 ∷ l 12 1 0 ∷ l 12 30 0 ∷ l 1 21 0 ∷ l 13 0 0 ∷ l 12 30 0 ∷ l 13 0 0 ∷ l 12 2 0 ∷ l 12 31 0 ∷ l 2 40 0 ∷ l 12 31 0 ∷ l 3 0 0 ∷ l 12 2 0 ∷ l 4 0 0 ∷ l 27 0 2 ∷ l 21 40 0 ∷ l 43 21 2 ∷ l 43 20 1 ∷ l 42 12 0 ∷ l 42 11 0 ∷ l 21 11 0 ∷ l 41 0 0 ∷ l 28 6 0 ∷ l 22 1 0 ∷ l 22 2 0 ∷ [])) ∷  -- nested patterns
    (10000, (l 3 0 0 ∷ l 12 1 0 ∷ l 4 0 0 ∷ l 26 20 0 ∷ [])) ∷  -- a constructor bound nowhere
    (10000, (l 3 0 0 ∷ l 12 1 0 ∷ l 4 0 0 ∷ l 27 0 1 ∷ l 22 7 0 ∷ l 43 20 0 ∷ l 22 1 0 ∷ [])) ∷  -- a pattern's constructor bound nowhere
    (10000, (l 3 0 0 ∷ l 13 0 0 ∷ l 12 1 0 ∷ l 13 0 0 ∷ l 12 2 0 ∷ l 12 2 0 ∷ l 4 0 0 ∷ l 23 10 0 ∷ l 12 1 0 ∷ l 23 10 0 ∷ l 12 2 0 ∷ l 21 10 0 ∷ [])) ∷  -- the newest of two variables of one name
    (10000, (l 3 0 0 ∷ l 13 0 0 ∷ l 13 0 0 ∷ l 14 11 0 ∷ l 11 11 0 ∷ l 12 1 0 ∷ l 12 1 0 ∷ l 4 0 0 ∷ l 23 10 0 ∷ l 14 12 0 ∷ l 11 12 0 ∷ l 22 7 0 ∷ [])) ∷  -- an unknown is given an Arrow whose argument is quantified
    (10000, (l 1 20 0 ∷ l 13 0 0 ∷ l 14 11 0 ∷ l 11 11 0 ∷ l 12 30 0 ∷ l 1 21 0 ∷ l 12 1 0 ∷ l 2 40 0 ∷ l 12 30 0 ∷ l 3 0 0 ∷ l 12 1 0 ∷ l 4 0 0 ∷ l 27 0 1 ∷ l 21 40 0 ∷ l 43 20 1 ∷ l 43 21 0 ∷ l 22 1 0 ∷ [])) ∷  -- a pattern's type is below the one that it must have
    (10000, (l 1 20 0 ∷ l 12 1 0 ∷ l 3 0 0 ∷ l 12 1 0 ∷ l 4 0 0 ∷ l 21 20 0 ∷ [])) ∷  -- a variable that is a constructor
    []

abbrev pub answers : List Row
answers =
    (15 ∷ 0 ∷ 14 ∷ 6 ∷ 5 ∷ 1 ∷ 0 ∷ [], (node 13 0 ∷ node 13 0 ∷ node 18 3 ∷ node 18 3 ∷ node 12 1 ∷ node 12 3 ∷ []), (◌≔◌ 0 (node 13 0 ∷ node 17 1 ∷ node 17 2 ∷ []) ∷ ◌≔◌ 2 (node 12 1 ∷ []) ∷ ◌≔◌ 1 (node 13 0 ∷ node 17 4 ∷ node 17 5 ∷ []) ∷ ◌≔◌ 5 (node 18 3 ∷ []) ∷ ◌≔◌ 4 (node 18 3 ∷ []) ∷ [])) ∷
    (0 ∷ 0 ∷ 14 ∷ 5 ∷ 0 ∷ 0 ∷ 0 ∷ [], [], (◌≔◌ 1 (node 17 0 ∷ []) ∷ ◌≔◌ 0 (node 13 0 ∷ node 17 2 ∷ node 17 3 ∷ []) ∷ ◌≔◌ 3 (node 18 4 ∷ []) ∷ ◌≔◌ 2 (node 12 1 ∷ []) ∷ [])) ∷
    (0 ∷ 0 ∷ 45 ∷ 13 ∷ 0 ∷ 0 ∷ 1 ∷ [], [], (◌≔◌ 1 (node 13 0 ∷ node 17 2 ∷ node 17 3 ∷ []) ∷ ◌≔◌ 3 (node 12 1 ∷ []) ∷ ◌≔◌ 2 (node 12 1 ∷ []) ∷ ◌≔◌ 0 (node 13 0 ∷ node 17 4 ∷ node 17 5 ∷ []) ∷ ◌≔◌ 5 (node 12 1 ∷ []) ∷ ◌≔◌ 4 (node 12 1 ∷ []) ∷ ◌≔◌ 7 (node 12 1 ∷ []) ∷ ◌≔◌ 6 (node 13 0 ∷ node 17 8 ∷ node 17 9 ∷ []) ∷ ◌≔◌ 9 (node 12 1 ∷ []) ∷ ◌≔◌ 8 (node 12 1 ∷ []) ∷ ◌≔◌ 10 (node 12 2 ∷ []) ∷ ◌≔◌ 11 (node 12 1 ∷ []) ∷ ◌≔◌ 12 (node 12 1 ∷ []) ∷ [])) ∷
    (17 ∷ 0 ∷ 3 ∷ 2 ∷ 0 ∷ 4 ∷ 0 ∷ [], (node 16 2 ∷ node 17 1 ∷ node 14 10 ∷ node 17 1 ∷ []), []) ∷
    (0 ∷ 0 ∷ 7 ∷ 3 ∷ 0 ∷ 0 ∷ 0 ∷ [], [], (◌≔◌ 2 (node 17 0 ∷ []) ∷ ◌≔◌ 0 (node 12 1 ∷ []) ∷ [])) ∷
    (0 ∷ 0 ∷ 14 ∷ 3 ∷ 0 ∷ 0 ∷ 0 ∷ [], [], (◌≔◌ 1 (node 17 0 ∷ []) ∷ ◌≔◌ 0 (node 12 2 ∷ []) ∷ ◌≔◌ 2 (node 12 1 ∷ []) ∷ [])) ∷
    (15 ∷ 0 ∷ 5 ∷ 1 ∷ 1 ∷ 1 ∷ 1 ∷ [], (node 12 2 ∷ node 12 1 ∷ []), (◌≔◌ 0 (node 12 2 ∷ []) ∷ [])) ∷
    (15 ∷ 0 ∷ 8 ∷ 3 ∷ 3 ∷ 1 ∷ 1 ∷ [], (node 13 0 ∷ node 12 1 ∷ node 12 30 ∷ node 12 30 ∷ []), (◌≔◌ 0 (node 13 0 ∷ node 17 1 ∷ node 17 2 ∷ []) ∷ ◌≔◌ 2 (node 12 30 ∷ []) ∷ ◌≔◌ 1 (node 12 1 ∷ []) ∷ [])) ∷
    (15 ∷ 0 ∷ 16 ∷ 4 ∷ 1 ∷ 1 ∷ 1 ∷ [], (node 12 2 ∷ node 12 1 ∷ []), (◌≔◌ 2 (node 12 2 ∷ []) ∷ ◌≔◌ 0 (node 12 2 ∷ []) ∷ ◌≔◌ 1 (node 12 30 ∷ []) ∷ ◌≔◌ 3 (node 12 30 ∷ []) ∷ [])) ∷
    (14 ∷ 0 ∷ 2 ∷ 3 ∷ 1 ∷ 0 ∷ 0 ∷ [], [], []) ∷
    (15 ∷ 0 ∷ 7 ∷ 2 ∷ 2 ∷ 2 ∷ 0 ∷ [], (node 16 1 ∷ node 17 1 ∷ node 16 1 ∷ node 12 1 ∷ []), (◌≔◌ 0 (node 16 1 ∷ node 17 1 ∷ []) ∷ [])) ∷
    (15 ∷ 0 ∷ 6 ∷ 3 ∷ 1 ∷ 1 ∷ 0 ∷ [], (node 12 1 ∷ node 18 1 ∷ []), (◌≔◌ 2 (node 12 1 ∷ []) ∷ [])) ∷
    (0 ∷ 0 ∷ 10 ∷ 3 ∷ 0 ∷ 0 ∷ 1 ∷ [], [], (◌≔◌ 2 (node 12 1 ∷ []) ∷ ◌≔◌ 1 (node 12 1 ∷ []) ∷ ◌≔◌ 0 (node 12 1 ∷ []) ∷ [])) ∷
    (19 ∷ 0 ∷ 2 ∷ 1 ∷ 9 ∷ 0 ∷ 1 ∷ [], [], []) ∷
    (15 ∷ 0 ∷ 9 ∷ 1 ∷ 1 ∷ 1 ∷ 1 ∷ [], (node 12 2 ∷ node 12 1 ∷ []), (◌≔◌ 0 (node 12 1 ∷ []) ∷ [])) ∷
    (15 ∷ 0 ∷ 8 ∷ 1 ∷ 3 ∷ 3 ∷ 1 ∷ [], (node 13 0 ∷ node 12 1 ∷ node 12 2 ∷ node 15 0 ∷ node 12 2 ∷ node 12 1 ∷ []), (◌≔◌ 0 (node 12 1 ∷ []) ∷ [])) ∷
    (15 ∷ 0 ∷ 10 ∷ 2 ∷ 1 ∷ 1 ∷ 0 ∷ [], (node 12 2 ∷ node 18 1 ∷ []), (◌≔◌ 0 (node 12 1 ∷ []) ∷ [])) ∷
    (15 ∷ 0 ∷ 8 ∷ 1 ∷ 3 ∷ 1 ∷ 1 ∷ [], (node 13 0 ∷ node 12 1 ∷ node 12 2 ∷ node 12 2 ∷ []), (◌≔◌ 0 (node 12 1 ∷ []) ∷ [])) ∷
    (15 ∷ 0 ∷ 8 ∷ 1 ∷ 3 ∷ 3 ∷ 1 ∷ [], (node 15 0 ∷ node 12 1 ∷ node 12 2 ∷ node 13 0 ∷ node 12 2 ∷ node 12 1 ∷ []), (◌≔◌ 0 (node 12 1 ∷ []) ∷ [])) ∷
    (15 ∷ 0 ∷ 9 ∷ 1 ∷ 1 ∷ 1 ∷ 1 ∷ [], (node 12 2 ∷ node 12 1 ∷ []), (◌≔◌ 0 (node 12 1 ∷ []) ∷ [])) ∷
    (15 ∷ 0 ∷ 9 ∷ 2 ∷ 3 ∷ 3 ∷ 0 ∷ [], (node 15 0 ∷ node 12 1 ∷ node 12 2 ∷ node 13 0 ∷ node 18 1 ∷ node 18 1 ∷ []), (◌≔◌ 0 (node 12 1 ∷ []) ∷ [])) ∷
    (15 ∷ 0 ∷ 8 ∷ 1 ∷ 3 ∷ 1 ∷ 1 ∷ [], (node 15 0 ∷ node 12 1 ∷ node 12 2 ∷ node 12 2 ∷ []), (◌≔◌ 0 (node 12 1 ∷ []) ∷ [])) ∷
    (0 ∷ 0 ∷ 15 ∷ 4 ∷ 0 ∷ 0 ∷ 0 ∷ [], [], (◌≔◌ 0 (node 12 1 ∷ []) ∷ ◌≔◌ 1 (node 13 0 ∷ node 17 2 ∷ node 17 3 ∷ []) ∷ ◌≔◌ 3 (node 12 1 ∷ []) ∷ ◌≔◌ 2 (node 12 2 ∷ []) ∷ [])) ∷
    (0 ∷ 0 ∷ 15 ∷ 4 ∷ 0 ∷ 0 ∷ 0 ∷ [], [], (◌≔◌ 0 (node 12 1 ∷ []) ∷ ◌≔◌ 1 (node 15 0 ∷ node 17 2 ∷ node 17 3 ∷ []) ∷ ◌≔◌ 3 (node 12 1 ∷ []) ∷ ◌≔◌ 2 (node 12 2 ∷ []) ∷ [])) ∷
    (0 ∷ 0 ∷ 17 ∷ 5 ∷ 0 ∷ 0 ∷ 0 ∷ [], [], (◌≔◌ 0 (node 12 1 ∷ []) ∷ ◌≔◌ 2 (node 13 0 ∷ node 17 3 ∷ node 17 4 ∷ []) ∷ ◌≔◌ 4 (node 18 1 ∷ []) ∷ ◌≔◌ 3 (node 18 1 ∷ []) ∷ [])) ∷
    (0 ∷ 0 ∷ 11 ∷ 2 ∷ 0 ∷ 0 ∷ 0 ∷ [], [], (◌≔◌ 0 (node 12 1 ∷ []) ∷ ◌≔◌ 1 (node 12 2 ∷ []) ∷ [])) ∷
    (15 ∷ 0 ∷ 8 ∷ 1 ∷ 1 ∷ 3 ∷ 1 ∷ [], (node 12 1 ∷ node 13 0 ∷ node 12 2 ∷ node 12 1 ∷ []), (◌≔◌ 0 (node 12 1 ∷ []) ∷ [])) ∷
    (15 ∷ 0 ∷ 8 ∷ 1 ∷ 1 ∷ 3 ∷ 1 ∷ [], (node 12 1 ∷ node 15 0 ∷ node 12 2 ∷ node 12 1 ∷ []), (◌≔◌ 0 (node 12 1 ∷ []) ∷ [])) ∷
    (15 ∷ 0 ∷ 9 ∷ 2 ∷ 1 ∷ 3 ∷ 0 ∷ [], (node 12 1 ∷ node 13 0 ∷ node 18 1 ∷ node 18 1 ∷ []), (◌≔◌ 0 (node 12 1 ∷ []) ∷ [])) ∷
    (15 ∷ 0 ∷ 8 ∷ 1 ∷ 1 ∷ 1 ∷ 1 ∷ [], (node 12 1 ∷ node 12 2 ∷ []), (◌≔◌ 0 (node 12 1 ∷ []) ∷ [])) ∷
    (15 ∷ 0 ∷ 9 ∷ 1 ∷ 1 ∷ 1 ∷ 1 ∷ [], (node 12 2 ∷ node 12 1 ∷ []), (◌≔◌ 0 (node 12 1 ∷ []) ∷ [])) ∷
    (15 ∷ 0 ∷ 9 ∷ 2 ∷ 1 ∷ 1 ∷ 0 ∷ [], (node 12 1 ∷ node 12 2 ∷ []), (◌≔◌ 0 (node 12 1 ∷ []) ∷ [])) ∷
    (0 ∷ 0 ∷ 13 ∷ 2 ∷ 0 ∷ 0 ∷ 0 ∷ [], [], (◌≔◌ 0 (node 12 1 ∷ []) ∷ ◌≔◌ 1 (node 12 2 ∷ []) ∷ [])) ∷
    (0 ∷ 0 ∷ 10 ∷ 2 ∷ 0 ∷ 0 ∷ 0 ∷ [], [], (◌≔◌ 0 (node 12 1 ∷ []) ∷ [])) ∷
    (0 ∷ 0 ∷ 10 ∷ 2 ∷ 0 ∷ 0 ∷ 0 ∷ [], [], (◌≔◌ 0 (node 12 1 ∷ []) ∷ [])) ∷
    (15 ∷ 0 ∷ 44 ∷ 14 ∷ 3 ∷ 1 ∷ 0 ∷ [], (node 13 0 ∷ node 17 5 ∷ node 17 5 ∷ node 12 1 ∷ []), (◌≔◌ 1 (node 13 0 ∷ node 17 3 ∷ node 17 4 ∷ []) ∷ ◌≔◌ 4 (node 17 2 ∷ []) ∷ ◌≔◌ 3 (node 17 2 ∷ []) ∷ ◌≔◌ 0 (node 13 0 ∷ node 17 5 ∷ node 17 6 ∷ []) ∷ ◌≔◌ 2 (node 17 6 ∷ []) ∷ ◌≔◌ 6 (node 17 5 ∷ []) ∷ ◌≔◌ 7 (node 13 0 ∷ node 17 9 ∷ node 17 10 ∷ []) ∷ ◌≔◌ 10 (node 17 8 ∷ []) ∷ ◌≔◌ 9 (node 17 8 ∷ []) ∷ ◌≔◌ 8 (node 17 5 ∷ []) ∷ ◌≔◌ 11 (node 12 2 ∷ []) ∷ ◌≔◌ 12 (node 12 1 ∷ []) ∷ ◌≔◌ 13 (node 12 1 ∷ []) ∷ [])) ∷
    (15 ∷ 0 ∷ 44 ∷ 14 ∷ 3 ∷ 1 ∷ 0 ∷ [], (node 15 0 ∷ node 17 5 ∷ node 17 5 ∷ node 12 1 ∷ []), (◌≔◌ 1 (node 15 0 ∷ node 17 3 ∷ node 17 4 ∷ []) ∷ ◌≔◌ 4 (node 17 2 ∷ []) ∷ ◌≔◌ 3 (node 17 2 ∷ []) ∷ ◌≔◌ 0 (node 15 0 ∷ node 17 5 ∷ node 17 6 ∷ []) ∷ ◌≔◌ 2 (node 17 6 ∷ []) ∷ ◌≔◌ 6 (node 17 5 ∷ []) ∷ ◌≔◌ 7 (node 15 0 ∷ node 17 9 ∷ node 17 10 ∷ []) ∷ ◌≔◌ 10 (node 17 8 ∷ []) ∷ ◌≔◌ 9 (node 17 8 ∷ []) ∷ ◌≔◌ 8 (node 17 5 ∷ []) ∷ ◌≔◌ 11 (node 12 2 ∷ []) ∷ ◌≔◌ 12 (node 12 1 ∷ []) ∷ ◌≔◌ 13 (node 12 1 ∷ []) ∷ [])) ∷
    (15 ∷ 0 ∷ 41 ∷ 14 ∷ 1 ∷ 3 ∷ 1 ∷ [], (node 12 1 ∷ node 13 0 ∷ node 17 0 ∷ node 17 0 ∷ []), (◌≔◌ 3 (node 17 1 ∷ []) ∷ ◌≔◌ 1 (node 13 0 ∷ node 17 4 ∷ node 17 5 ∷ []) ∷ ◌≔◌ 7 (node 13 0 ∷ node 17 8 ∷ node 17 9 ∷ []) ∷ ◌≔◌ 9 (node 17 5 ∷ []) ∷ ◌≔◌ 8 (node 17 4 ∷ []) ∷ ◌≔◌ 12 (node 12 1 ∷ []) ∷ ◌≔◌ 11 (node 12 1 ∷ []) ∷ ◌≔◌ 10 (node 17 4 ∷ []) ∷ ◌≔◌ 6 (node 17 5 ∷ []) ∷ ◌≔◌ 5 (node 17 4 ∷ []) ∷ ◌≔◌ 4 (node 17 2 ∷ []) ∷ ◌≔◌ 2 (node 17 0 ∷ []) ∷ ◌≔◌ 13 (node 12 1 ∷ []) ∷ [])) ∷
    (13 ∷ 0 ∷ 9 ∷ 4 ∷ 3 ∷ 0 ∷ 1 ∷ [], (node 15 0 ∷ node 12 1 ∷ node 12 1 ∷ []), (◌≔◌ 1 (node 15 0 ∷ node 17 2 ∷ node 17 3 ∷ []) ∷ ◌≔◌ 3 (node 12 1 ∷ []) ∷ ◌≔◌ 2 (node 12 1 ∷ []) ∷ [])) ∷
    (0 ∷ 0 ∷ 18 ∷ 5 ∷ 0 ∷ 0 ∷ 1 ∷ [], [], (◌≔◌ 1 (node 13 0 ∷ node 17 2 ∷ node 17 3 ∷ []) ∷ ◌≔◌ 3 (node 12 1 ∷ []) ∷ ◌≔◌ 2 (node 12 1 ∷ []) ∷ ◌≔◌ 4 (node 12 1 ∷ []) ∷ ◌≔◌ 0 (node 12 1 ∷ []) ∷ [])) ∷
    (0 ∷ 0 ∷ 21 ∷ 6 ∷ 0 ∷ 0 ∷ 0 ∷ [], [], (◌≔◌ 1 (node 13 0 ∷ node 17 3 ∷ node 17 4 ∷ []) ∷ ◌≔◌ 4 (node 17 2 ∷ []) ∷ ◌≔◌ 3 (node 17 2 ∷ []) ∷ ◌≔◌ 5 (node 12 1 ∷ []) ∷ ◌≔◌ 2 (node 12 1 ∷ []) ∷ ◌≔◌ 0 (node 12 1 ∷ []) ∷ [])) ∷
    (11 ∷ 0 ∷ 5 ∷ 2 ∷ 99 ∷ 0 ∷ 1 ∷ [], [], (◌≔◌ 0 (node 12 1 ∷ []) ∷ [])) ∷
    (0 ∷ 0 ∷ 15 ∷ 3 ∷ 0 ∷ 0 ∷ 1 ∷ [], [], (◌≔◌ 0 (node 12 1 ∷ []) ∷ ◌≔◌ 1 (node 12 1 ∷ []) ∷ ◌≔◌ 2 (node 12 1 ∷ []) ∷ [])) ∷
    (0 ∷ 0 ∷ 15 ∷ 3 ∷ 0 ∷ 0 ∷ 1 ∷ [], [], (◌≔◌ 0 (node 12 2 ∷ []) ∷ ◌≔◌ 1 (node 12 1 ∷ []) ∷ ◌≔◌ 2 (node 12 1 ∷ []) ∷ [])) ∷
    (0 ∷ 0 ∷ 10 ∷ 2 ∷ 0 ∷ 0 ∷ 1 ∷ [], [], (◌≔◌ 0 (node 12 3 ∷ []) ∷ ◌≔◌ 1 (node 12 1 ∷ []) ∷ [])) ∷
    (0 ∷ 0 ∷ 12 ∷ 3 ∷ 0 ∷ 0 ∷ 0 ∷ [], [], (◌≔◌ 1 (node 12 1 ∷ []) ∷ ◌≔◌ 0 (node 12 1 ∷ []) ∷ [])) ∷
    (0 ∷ 0 ∷ 22 ∷ 6 ∷ 0 ∷ 0 ∷ 1 ∷ [], [], (◌≔◌ 2 (node 12 1 ∷ []) ∷ ◌≔◌ 1 (node 13 0 ∷ node 17 3 ∷ node 17 4 ∷ []) ∷ ◌≔◌ 4 (node 12 1 ∷ []) ∷ ◌≔◌ 3 (node 12 1 ∷ []) ∷ ◌≔◌ 5 (node 12 1 ∷ []) ∷ ◌≔◌ 0 (node 12 1 ∷ []) ∷ [])) ∷
    (0 ∷ 0 ∷ 34 ∷ 7 ∷ 0 ∷ 0 ∷ 1 ∷ [], [], (◌≔◌ 2 (node 12 2 ∷ []) ∷ ◌≔◌ 3 (node 12 1 ∷ []) ∷ ◌≔◌ 4 (node 12 1 ∷ []) ∷ ◌≔◌ 0 (node 12 2 ∷ []) ∷ ◌≔◌ 5 (node 12 2 ∷ []) ∷ ◌≔◌ 1 (node 12 31 ∷ []) ∷ ◌≔◌ 6 (node 12 31 ∷ []) ∷ [])) ∷
    (12 ∷ 0 ∷ 2 ∷ 1 ∷ 20 ∷ 0 ∷ 1 ∷ [], [], []) ∷
    (12 ∷ 0 ∷ 2 ∷ 2 ∷ 20 ∷ 0 ∷ 1 ∷ [], [], []) ∷
    (0 ∷ 0 ∷ 11 ∷ 1 ∷ 0 ∷ 0 ∷ 1 ∷ [], [], (◌≔◌ 0 (node 12 2 ∷ []) ∷ [])) ∷
    (0 ∷ 0 ∷ 18 ∷ 5 ∷ 0 ∷ 0 ∷ 0 ∷ [], [], (◌≔◌ 0 (node 12 1 ∷ []) ∷ ◌≔◌ 1 (node 13 0 ∷ node 17 2 ∷ node 17 3 ∷ []) ∷ ◌≔◌ 3 (node 12 1 ∷ []) ∷ ◌≔◌ 4 (node 17 2 ∷ []) ∷ [])) ∷
    (15 ∷ 0 ∷ 9 ∷ 4 ∷ 1 ∷ 1 ∷ 0 ∷ [], (node 12 1 ∷ node 18 3 ∷ []), (◌≔◌ 2 (node 12 1 ∷ []) ∷ ◌≔◌ 0 (node 12 1 ∷ []) ∷ [])) ∷
    (0 ∷ 0 ∷ 5 ∷ 1 ∷ 0 ∷ 0 ∷ 1 ∷ [], [], (◌≔◌ 0 (node 12 1 ∷ []) ∷ [])) ∷
    []

pub as-the-rust : map (λ q. row q.0 q.1) told ≡ answers
unfolding row judge result_of run_of check_type run_from perform operations board_nodes find_var before lookup instantiate_from subtype open_names signature_from insert push_vars check_patterns check_arms infer_app find links any_solved write_out_by write_out solution_nodes view term_view lambda_of occurs is_monotype substitute rename front_names after_front can_unify plan_of declarations bindings_in end_from entries_end places_of part_line is_plain names plain_entries plain_plan parts_of row_of find_row table
as-the-rust = refl
