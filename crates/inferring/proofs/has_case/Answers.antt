use Rattle.std.proofs.Common.{◌||◌, ◌+◌, eqb, drop, ap, ◌∙◌, arith}
use Rattle.spelling.specs.declared.Triple.{Triple}
use Rattle.sheet.specs.Rows.{rows}
use Rattle.inferring.specs.Inferring.{has_case}
use Rattle.inferring.proofs.Cases.{case-turn, case-end}
use Rattle.inferring.proofs.has_case.Goals as goal

pub loop-i-preserved : goal.loop-i-preserved
loop-i-preserved c = let L = c.loop-i in
    let n = c.line_count-i-end.ensures in
    let t = c.loop-i-test.true in
    let ls = rows c.args.s.now in
    let k = ap (λ (x : Triple). L.found || eqb x.kind 27 || has_case (drop (L.i + 1) ls)) c.triple_at.ensures in
    k ∙ case-turn ls L.i L.found (omega arith) ∙ L.invariant

pub returns : goal.returns
returns c = let n = c.line_count-i-end.ensures in
    let t = c.loop-i-test.false in
    case-end (rows c.args.s.now) c.loop-i.i c.loop-i.found (omega arith) ∙ c.loop-i.invariant
