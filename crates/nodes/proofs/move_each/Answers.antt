use Rattle.std.proofs.Common.{refl, ◌∙◌, arith, length-set, rules}
use Rattle.nodes.proofs.Laws.{one-node, none-up, up_step, up_done}
use Rattle.nodes.proofs.move_each.Goals as goal

pub loop-i-init : goal.loop-i-init
loop-i-init c = (refl, none-up _ _ _ _)

pub loop-i-preserved : goal.loop-i-preserved
loop-i-preserved c =
    (simp length-set c.loop-i.invariant.0, one-node _ _ _ ∙ up_step _ _ _ _ _ 1 _ c.requires.0 (omega arith) (omega arith) c.loop-i.invariant.1)
