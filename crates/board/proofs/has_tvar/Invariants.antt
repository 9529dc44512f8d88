use Rattle.std.proofs.Common.{◌≡◌, List}
use Rattle.spelling.specs.declared.Triple.{Triple}
use Rattle.judgment.specs.Board.{has_t_var}
use Rattle.board.specs.Board.{entries_of}
use Rattle.board.proofs.has_tvar.Given as goal

abbrev pub invariant-loop-i : goal.invariant-loop-i
invariant-loop-i l = (ls : List Triple) → has_t_var l.k (entries_of ls l.board l.n) ≡ has_t_var l.k (entries_of ls l.board l.i)
