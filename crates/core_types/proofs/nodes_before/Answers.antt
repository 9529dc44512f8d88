use Rattle.std.proofs.Common.{◌≡◌, sym, ◌∙◌, arith}
use Rattle.core_types.proofs.Walks.{count-start, count_turn, count-hit, count-end}
use Rattle.core_types.proofs.nodes_before.Goals as goal

pub loop-i-init : goal.loop-i-init
loop-i-init c = count-start _ _ _ _

pub returns-then-t-at : goal.returns-then-t-at
returns-then-t-at c = let L = c.loop-i in count-hit _ _ _ _ L.i c.loop-i-test.true c.if-t-at.true L.invariant

pub loop-i-preserved : goal.loop-i-preserved
loop-i-preserved c = let L = c.loop-i in count_turn _ _ _ _ L.i c.loop-i-test.true c.if-t-at.false L.invariant

pub returns : goal.returns
returns c = let L = c.loop-i in
    let e : L.i ≡ c.args.n = omega arith in
    sym e ∙ count-end _ _ _ _ L.i (omega arith) L.invariant
