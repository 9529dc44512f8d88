use Rattle.std.proofs.Common.{◌≡◌, arith, length-set, rules}
use Rattle.nodes.specs.Nodes.{words, nodes_at}
use Rattle.nodes.proofs.Laws.{move_step}
use Rattle.nodes.proofs.move_to_front.Goals as goal

pub loop-i-init : goal.loop-i-init
unfolding words nodes_at
loop-i-init c = search rules

pub bounds-t-s-in-loop-i : goal.bounds-t-s-in-loop-i
bounds-t-s-in-loop-i c = simp length-set (omega arith)

pub bounds-t-d-in-loop-i : goal.bounds-t-d-in-loop-i
bounds-t-d-in-loop-i c = simp length-set (omega arith)

pub loop-i-preserved : goal.loop-i-preserved
loop-i-preserved c = (simp length-set c.loop-i.invariant.0, move_step _ _ _ _ c.loop-i.invariant.1)

pub returns : goal.returns
returns c = let e : c.loop-i.i ≡ c.args.n = omega arith in rw e at c.loop-i.invariant.1
