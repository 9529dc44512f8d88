use Rattle.std.proofs.Common.{◌∙◌}
use Rattle.sheet.proofs.Walks.{sort-turn, sort-past, sort-done}
use Rattle.sheet.proofs.Walk.over_sort.Goals as goal

pub returns-then-self-line : goal.returns-then-self-line
returns-then-self-line c = λ ls h.
    (let L = c.loop in
    let a = c.args in
    sort-past a.sort a.n L.counter L.line L.fits h c.loop-test.true c.if-self-line.true c.requires ∙ (L.invariant ls h).1)

pub loop-preserved : goal.loop-preserved
loop-preserved c = λ ls h.
    (let L = c.loop in
    let a = c.args in
    let v = L.invariant ls h in
    let turn = sort-turn a.sort a.n L.counter L.line L.fits h c.loop-test.true v.0 c.if-self-line.false c.has_sort-fits.ensures c.end_at-line.ensures in
    (turn.0, turn.1 ∙ v.1))

pub returns : goal.returns
returns c = λ ls h.
    (let L = c.loop in
    let a = c.args in
    sort-done a.sort a.n L.counter L.line L.fits h c.loop-test.false ∙ (L.invariant ls h).1)
