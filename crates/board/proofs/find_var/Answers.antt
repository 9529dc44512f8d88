use Rattle.std.proofs.Common.{ℕ, ◌≡◌, Some, sym, ap₂, ◌∙◌, arith}
use Rattle.board.specs.Board.{var_place}
use Rattle.board.proofs.Stacks.{nodes-turn}
use Rattle.board.proofs.Finds.{find-turn}
use Rattle.board.proofs.find_var.Goals as goal

pub overflow_sub-start : goal.overflow_sub-start
overflow_sub-start c = omega (arith, nodes-turn c.args.board.now c.loop-i.i c.loop-i-test.true)

pub returns-then-is_node : goal.returns-then-is_node
returns-then-is_node c = let w = c.wide-count.ensures in
    let n = nodes-turn c.args.board.now _ c.loop-i-test.true in
    ap₂ (λ (s k : ℕ). Some (record { start = s; count = k })) (omega arith) w
    ∙ sym (c.loop-i.invariant.2 ∙ find-turn _ _ c.loop-i-test.true _ (sym c.is_node.ensures ∙ c.if-is_node.true))

pub loop-i-preserved : goal.loop-i-preserved
loop-i-preserved c = let n = nodes-turn c.args.board.now _ c.loop-i-test.true in
    (omega arith, omega arith, c.loop-i.invariant.2 ∙ find-turn _ _ c.loop-i-test.true _ (sym c.is_node.ensures ∙ c.if-is_node.false))

pub returns : goal.returns
unfolding var_place
returns c = let z : c.loop-i.i ≡ 0 = omega arith in sym (rw z at c.loop-i.invariant.2)
