use Rattle.std.proofs.Common.{refl, ◌∙◌, arith, rules}
use Rattle.nodes.proofs.Laws.{none-up, up_step, up_rest}
use Rattle.nodes.proofs.move_up.Goals as goal

pub loop-left-init : goal.loop-left-init
loop-left-init c = (omega arith, refl, none-up _ _ _ _)

pub loop-left-preserved : goal.loop-left-preserved
loop-left-preserved c = (search rules, c.move_four.auto.t ∙ c.loop-left.invariant.1, c.move_four.ensures ∙ up_step _ _ _ _ _ 4 _ c.requires.0 c.loop-left-test.true c.loop-left.invariant.0 c.loop-left.invariant.2)

pub returns : goal.returns
returns c = up_rest _ _ _ _ _ _ _ c.requires.0 c.loop-left.invariant.0 c.loop-left.invariant.2 c.move_each.ensures
