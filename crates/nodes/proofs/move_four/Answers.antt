use Rattle.std.proofs.Common.{arith, length-set}
use Rattle.nodes.proofs.Laws.{four-nodes}
use Rattle.nodes.proofs.move_four.Goals as goal

pub bounds-t-to-2 : goal.bounds-t-to-2
bounds-t-to-2 c = simp length-set (omega arith)

pub bounds-t-to-3 : goal.bounds-t-to-3
bounds-t-to-3 c = simp length-set (omega arith)

pub bounds-t-to-4 : goal.bounds-t-to-4
bounds-t-to-4 c = simp length-set (omega arith)

pub bounds-t-to-5 : goal.bounds-t-to-5
bounds-t-to-5 c = simp length-set (omega arith)

pub bounds-t-to-6 : goal.bounds-t-to-6
bounds-t-to-6 c = simp length-set (omega arith)

pub bounds-t-to-7 : goal.bounds-t-to-7
bounds-t-to-7 c = simp length-set (omega arith)

pub bounds-t-to-8 : goal.bounds-t-to-8
bounds-t-to-8 c = simp length-set (omega arith)

pub returns : goal.returns
returns c = four-nodes _ _ _
