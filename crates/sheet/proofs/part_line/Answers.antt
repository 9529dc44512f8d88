use Rattle.std.proofs.Common.{arith, ◌∙◌, ◌-◌}
use Rattle.sheet.specs.Rows.{rows}
use Rattle.sheet.proofs.Lines.{line-none, line-past, line_next}
use Rattle.sheet.proofs.RowLaws.{length-rows}
use Rattle.sheet.proofs.part_line.Goals as goal

pub returns-then-lines-at : goal.returns-then-lines-at
returns-then-lines-at c =
    let L = c.loop in
    let n = c.line_count-lines.ensures in
    let h = c.if-lines-at.true in
    line-past (rows c.args.s.now) L.at (c.args.n - L.counter) (omega arith) ∙ L.invariant

pub end_at-at-requires : goal.end_at-at-requires
end_at-at-requires c =
    let n = c.line_count-lines.ensures in
    let m = length-rows c.args.s.now in
    let h = c.if-lines-at.false in
    omega arith

pub loop-preserved : goal.loop-preserved
loop-preserved c =
    let L = c.loop in
    let n = c.line_count-lines.ensures in
    let h = c.if-lines-at.false in
    line_next (rows c.args.s.now) L.at c.args.n L.counter c.loop-test.true (c.end_at-at.ensures ∙ c.requires.ends L.at (omega arith) (omega arith)) ∙ L.invariant

pub returns : goal.returns
returns c =
    let L = c.loop in
    let h = c.loop-test.false in
    line-none (rows c.args.s.now) L.at (c.args.n - L.counter) (omega arith) ∙ L.invariant
