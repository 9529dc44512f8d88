use Rattle.std.proofs.Common.{◌∙◌, arith}
use Rattle.sheet.specs.Rows.{rows}
use Rattle.sheet.proofs.Marks.{mark-end, mark-turn}
use Rattle.sheet.proofs.mark_names.Goals as goal

pub loop-i-preserved : goal.loop-i-preserved
loop-i-preserved c =
    let L = c.loop-i in
    let n = c.line_count-i-end.ensures in
    let t = c.loop-i-test.true in
    rw (c.mark_name.ensures, c.triple_at.ensures) (mark-turn (rows c.args.s.now) L.i L.used (omega arith)) ∙ L.invariant

pub returns : goal.returns
returns c =
    let n = c.line_count-i-end.ensures in
    let t = c.loop-i-test.false in
    mark-end (rows c.args.s.now) c.loop-i.i c.loop-i.used (omega arith) ∙ c.loop-i.invariant
