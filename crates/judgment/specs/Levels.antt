-- The levels of unknowns, and the two calls (document 02, W12).
-- Assumes nothing.
use Rattle.std.specs.Prelude.{ℕ, Bool, true, false, cond, not, ◌&&◌, List, [], ◌∷◌, eqb, ltb}
use Rattle.nodes.specs.Nodes.{Node, Ty, kind, number}
use Rattle.judgment.specs.Types.{occurs}
use Rattle.judgment.specs.Board.{Origin, own, universal, splits, Operation, made, pushed, gave, met}

-- a level for every number; before a number is made, its own
abbrev pub Levels : Type 0
Levels = ℕ → ℕ

abbrev pub own_levels : Levels
own_levels = λ k. k

-- the level m for the number n
unfoldable pub put : ℕ → ℕ → Levels → Levels
put n m v = λ k. cond (eqb k n) m (v k)

-- a level m at most
abbrev pub at_most : Bool → ℕ → ℕ → ℕ
at_most true m l = cond (ltb m l) m l
at_most false m l = l

-- the level m at most for every unknown in s
unfoldable pub lower : ℕ → Ty → Levels → Levels
lower m s v = λ k. at_most (occurs k s) m (v k)

-- An unknown has its own number when it is made, or the level of the one that it splits; a universal has 0. A solution is of unsolved
-- unknowns: each has the solved one's level at most from then on.
unfoldable pub level_made : Origin → ℕ → Levels → Levels
level_made own n v = v
level_made universal n v = put n 0 v
level_made (splits k) n v = put n (v k) v

unfoldable pub level_after : Operation → Levels → Levels
level_after (made g n) v = level_made g n v
level_after (pushed e) v = v
level_after (gave k s) v = lower (v k) s v
level_after (met k) v = v

unfoldable pub levels_after : List Operation → Levels → Levels
levels_after [] v = v
levels_after (o ∷ os) v = levels_after os (level_after o v)

-- ---- the two calls
pub data Mode : Type 0 where
  first_call strict_call : Mode

-- a universal numbered above m
abbrev pub is_above : ℕ → Node → Bool
is_above m n = eqb (kind n) 18 && ltb m (number n)

unfoldable pub none_above : ℕ → Ty → Bool
none_above m [] = true
none_above m (n ∷ ns) = not (is_above m n) && none_above m ns

-- whether an unknown may have this solution: the strict call asks that no universal in it be numbered above the unknown's level
abbrev pub scope_of : Mode → Levels → ℕ → Ty → Bool
scope_of first_call v = λ k s. true
scope_of strict_call v = λ k s. none_above (v k) s
