use Rattle.std.proofs.Common.{◌≡◌, sym, ◌∙◌, arith}
use Rattle.board.specs.Board.{entries_of}
use Rattle.board.proofs.Finds.{has-turn}
use Rattle.board.proofs.has_tvar.Goals as goal

pub returns-then-is_node : goal.returns-then-is_node
returns-then-is_node c = λ ls.
    sym (c.loop-i.invariant ls
    ∙ has-turn _ _ c.loop-i-test.true _ (sym c.is_node.ensures ∙ c.if-is_node.true) ls)

pub loop-i-preserved : goal.loop-i-preserved
loop-i-preserved c = λ ls.
    c.loop-i.invariant ls
    ∙ has-turn _ _ c.loop-i-test.true _ (sym c.is_node.ensures ∙ c.if-is_node.false) ls

pub returns : goal.returns
unfolding entries_of
returns c = λ ls. let z : c.loop-i.i ≡ 0 = omega arith in sym (rw z at (c.loop-i.invariant ls))
