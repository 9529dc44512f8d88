-- Types written out, and chains, over books in any order of places, by computation. The answers are those of `followed` and `is_chain`
-- in reference/following.py, which makes this file. Assumes nothing.
use mathlib.Core.Path.{◌≡◌, refl}
use mathlib.Core.Bool.{Bool, true, false}
use mathlib.Core.List.{List, [], ◌∷◌, map}
use Prim.Native.Nat.{ℕ}
use Rattle.nodes.specs.Nodes.{node, Ty}
use Rattle.judgment.specs.Types.{occurs}
use Rattle.judgment.specs.Solutions.{◌≔◌, Solutions, find, links, any_solved, write_out_by, write_out}
use Rattle.judgment.specs.Links.{is_chain}

abbrev asked : List (Solutions × Ty)
asked =
    ((◌≔◌ 0 (node 12 1 ∷ []) ∷ ◌≔◌ 1 (node 17 0 ∷ []) ∷ []), (node 17 1 ∷ [])) ∷
    ((◌≔◌ 1 (node 17 0 ∷ []) ∷ ◌≔◌ 0 (node 12 1 ∷ []) ∷ []), (node 17 1 ∷ [])) ∷
    ((◌≔◌ 0 (node 17 1 ∷ []) ∷ ◌≔◌ 1 (node 17 2 ∷ []) ∷ ◌≔◌ 2 (node 17 3 ∷ []) ∷ ◌≔◌ 3 (node 12 1 ∷ []) ∷ []), (node 17 0 ∷ [])) ∷
    ((◌≔◌ 3 (node 12 1 ∷ []) ∷ ◌≔◌ 2 (node 17 3 ∷ []) ∷ ◌≔◌ 1 (node 17 2 ∷ []) ∷ ◌≔◌ 0 (node 17 1 ∷ []) ∷ []), (node 17 0 ∷ [])) ∷
    ((◌≔◌ 2 (node 12 2 ∷ []) ∷ ◌≔◌ 0 (node 13 0 ∷ node 17 1 ∷ node 17 1 ∷ []) ∷ ◌≔◌ 1 (node 13 0 ∷ node 17 2 ∷ node 17 2 ∷ []) ∷ []), (node 15 0 ∷ node 17 0 ∷ node 17 2 ∷ [])) ∷
    ((◌≔◌ 2 (node 17 5 ∷ []) ∷ ◌≔◌ 0 (node 17 2 ∷ []) ∷ []), (node 16 3 ∷ node 17 0 ∷ node 17 5 ∷ node 17 2 ∷ [])) ∷
    ((◌≔◌ 0 (node 12 1 ∷ []) ∷ []), (node 16 4 ∷ node 11 0 ∷ node 12 0 ∷ node 18 0 ∷ node 17 0 ∷ [])) ∷
    (([]), (node 17 0 ∷ [])) ∷
    []

abbrev answered : List Ty
answered =
    (node 12 1 ∷ []) ∷
    (node 12 1 ∷ []) ∷
    (node 12 1 ∷ []) ∷
    (node 12 1 ∷ []) ∷
    (node 15 0 ∷ node 13 0 ∷ node 13 0 ∷ node 12 2 ∷ node 12 2 ∷ node 13 0 ∷ node 12 2 ∷ node 12 2 ∷ node 12 2 ∷ []) ∷
    (node 16 3 ∷ node 17 5 ∷ node 17 5 ∷ node 17 5 ∷ []) ∷
    (node 16 4 ∷ node 11 0 ∷ node 12 0 ∷ node 18 0 ∷ node 12 1 ∷ []) ∷
    (node 17 0 ∷ []) ∷
    []

pub written : map (λ q. write_out q.0 q.1) asked ≡ answered
unfolding find links any_solved write_out_by write_out
written = refl

abbrev walked : List (Solutions × List ℕ)
walked =
    ((◌≔◌ 0 (node 17 1 ∷ []) ∷ ◌≔◌ 1 (node 12 1 ∷ []) ∷ []), (0 ∷ 1 ∷ [])) ∷
    ((◌≔◌ 1 (node 12 1 ∷ []) ∷ ◌≔◌ 0 (node 17 1 ∷ []) ∷ []), (0 ∷ 1 ∷ [])) ∷
    ((◌≔◌ 0 (node 17 1 ∷ []) ∷ ◌≔◌ 1 (node 12 1 ∷ []) ∷ []), (1 ∷ 0 ∷ [])) ∷
    ((◌≔◌ 0 (node 17 1 ∷ []) ∷ ◌≔◌ 1 (node 12 1 ∷ []) ∷ []), (0 ∷ [])) ∷
    ((◌≔◌ 0 (node 17 1 ∷ []) ∷ ◌≔◌ 1 (node 12 1 ∷ []) ∷ []), (1 ∷ [])) ∷
    ((◌≔◌ 0 (node 17 1 ∷ []) ∷ []), (0 ∷ [])) ∷
    ((◌≔◌ 0 (node 17 1 ∷ []) ∷ []), (0 ∷ 1 ∷ [])) ∷
    ((◌≔◌ 0 (node 12 1 ∷ []) ∷ []), (1 ∷ [])) ∷
    (([]), ([])) ∷
    ((◌≔◌ 5 (node 13 0 ∷ node 12 1 ∷ node 17 3 ∷ []) ∷ ◌≔◌ 3 (node 16 2 ∷ node 17 0 ∷ node 17 4 ∷ []) ∷ ◌≔◌ 4 (node 12 2 ∷ []) ∷ ◌≔◌ 0 (node 12 1 ∷ []) ∷ []), (5 ∷ 3 ∷ 4 ∷ [])) ∷
    ((◌≔◌ 5 (node 13 0 ∷ node 12 1 ∷ node 17 3 ∷ []) ∷ ◌≔◌ 3 (node 16 2 ∷ node 17 0 ∷ node 17 4 ∷ []) ∷ ◌≔◌ 4 (node 12 2 ∷ []) ∷ ◌≔◌ 0 (node 12 1 ∷ []) ∷ []), (5 ∷ 3 ∷ 0 ∷ [])) ∷
    ((◌≔◌ 5 (node 13 0 ∷ node 12 1 ∷ node 17 3 ∷ []) ∷ ◌≔◌ 3 (node 16 2 ∷ node 17 0 ∷ node 17 4 ∷ []) ∷ ◌≔◌ 4 (node 12 2 ∷ []) ∷ ◌≔◌ 0 (node 12 1 ∷ []) ∷ []), (5 ∷ 4 ∷ [])) ∷
    ((◌≔◌ 0 (node 13 0 ∷ node 18 1 ∷ node 12 1 ∷ []) ∷ ◌≔◌ 1 (node 12 1 ∷ []) ∷ []), (0 ∷ 1 ∷ [])) ∷
    []

abbrev told : List Bool
told = true ∷ true ∷ false ∷ true ∷ true ∷ true ∷ false ∷ false ∷ true ∷ true ∷ true ∷ false ∷ false ∷ []

pub chains : map (λ q. is_chain q.0 q.1) walked ≡ told
unfolding find occurs is_chain
chains = refl
