use Rattle.std.proofs.Common.{◌∙◌}
use Rattle.sheet.specs.Rows.{rows}
use Rattle.sheet.proofs.Binders.{mark-over, mark-other, mark-next}
use Rattle.sheet.proofs.mark_front.Goals as goal

pub returns-then-t-ne14 : goal.returns-then-t-ne14
returns-then-t-ne14 c =
    let L = c.loop-i in
    let a = c.args in
    mark-other (rows a.s.now) L.i a.end L.last c.triple_at-t.ensures c.if-t-ne14.true ∙ L.invariant

pub loop-i-preserved : goal.loop-i-preserved
loop-i-preserved c =
    let L = c.loop-i in
    let a = c.args in
    (mark-next (rows a.s.now) L.i a.end L.last c.loop-i-test.true c.triple_at-t.ensures c.if-t-ne14.false c.set_name.ensures).0 ∙ L.invariant

pub returns : goal.returns
returns c =
    let L = c.loop-i in
    let a = c.args in
    mark-over (rows a.s.now) L.i a.end L.last c.loop-i-test.false ∙ L.invariant
