-- Levels after a list of operations, and after more. Assumes nothing.
use mathlib.Core.Path.{◌≡◌, refl}
use mathlib.Core.List.{List, [], ◌∷◌, ◌++◌}
use Rattle.judgment.specs.Board.{Operation}
use Rattle.judgment.specs.Levels.{Levels, level_after, levels_after}

pub levels-append : (os ps : List Operation) (v : Levels) → levels_after (os ++ ps) v ≡ levels_after ps (levels_after os v)
unfolding levels_after
levels-append [] ps v = refl
levels-append (o ∷ os) ps v = levels-append os ps (level_after o v)
