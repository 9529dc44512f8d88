-- A rule made of fresh numbers, pushes, a solution and a write-out, for the run on real buffers. Assumes nothing: these are definitions.
use Rattle.nodes.specs.Nodes.{node}
use Rattle.judgment.specs.Types.{unknown, arrow}
use Rattle.judgment.specs.Board.{own, tvar, var, sub, Rule, done, fresh, push, solve, zonk, ◌>>=◌, ◌>>◌}

abbrev pub script : Rule
script = do
  a ← fresh own
  b ← fresh own
  push (tvar (node 17 a))
  push (sub (unknown a) (arrow (unknown b) (unknown b)))
  solve a (arrow (unknown b) (unknown b))
  t ← zonk (unknown a)
  push (var 10 t)
  done
