use Rattle.std.proofs.Common.{◌≡◌, refl, sym, ◌∙◌, arith}
use Rattle.judgment.specs.Board.{before}
use Rattle.board.specs.Board.{entries_of}
use Rattle.board.proofs.Finds.{before-turn}
use Rattle.board.proofs.before.Goals as goal

pub returns-then-is_node : goal.returns-then-is_node
returns-then-is_node c = λ ls.
    sym (c.loop-i.invariant ls ∙ before-turn _ _ c.loop-i-test.true _ _ (sym c.is_node.ensures ∙ c.if-is_node.true) refl ls)

pub returns-then-is_node-2 : goal.returns-then-is_node-2
returns-then-is_node-2 c = λ ls.
    c.has_tvar.ensures ls
    ∙ sym (c.loop-i.invariant ls
    ∙ before-turn _ _ c.loop-i-test.true _ _ (sym c.is_node.ensures ∙ c.if-is_node.false) (sym c.is_node-in-loop-i.ensures ∙ c.if-is_node-2.true) ls)

pub loop-i-preserved : goal.loop-i-preserved
loop-i-preserved c = λ ls.
    c.loop-i.invariant ls
    ∙ before-turn _ _ c.loop-i-test.true _ _ (sym c.is_node.ensures ∙ c.if-is_node.false) (sym c.is_node-in-loop-i.ensures ∙ c.if-is_node-2.false) ls

pub returns : goal.returns
unfolding entries_of before
returns c = λ ls. let z : c.loop-i.i ≡ 0 = omega arith in sym (rw z at (c.loop-i.invariant ls))
