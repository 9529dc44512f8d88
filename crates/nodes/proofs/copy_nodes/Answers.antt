use Rattle.std.proofs.Common.{◌≡◌, arith, length-set, rules}
use Rattle.nodes.specs.Nodes.{words, nodes_at}
use Rattle.nodes.proofs.Laws.{copy_step}
use Rattle.nodes.proofs.copy_nodes.Goals as goal

pub loop-i-init : goal.loop-i-init
unfolding words nodes_at
loop-i-init c = search rules

pub bounds-dst-d-in-loop-i : goal.bounds-dst-d-in-loop-i
bounds-dst-d-in-loop-i c = simp length-set (omega arith)

pub loop-i-preserved : goal.loop-i-preserved
loop-i-preserved c = let v = c.loop-i.invariant in (simp length-set v.0, copy_step _ _ _ _ _ _ v.1)

pub returns : goal.returns
returns c = let e : c.loop-i.i ≡ c.args.n = omega arith in rw e at c.loop-i.invariant.1
