use Rattle.std.proofs.Common.{◌≡◌, List}
use Rattle.spelling.specs.declared.Triple.{Triple}
use Rattle.judgment.specs.Board.{before}
use Rattle.board.specs.Board.{entries_of}
use Rattle.board.proofs.before.Given as goal

abbrev pub invariant-loop-i : goal.invariant-loop-i
invariant-loop-i l = (ls : List Triple) → before l.x l.y (entries_of ls l.board l.fn.b.entries) ≡ before l.x l.y (entries_of ls l.board l.i)
