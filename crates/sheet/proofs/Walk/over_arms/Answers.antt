use Rattle.std.proofs.Common.{◌∙◌, replicate, le_trans}
use Rattle.kinds.specs.Kinds.{a_pattern}
use Rattle.grammar.specs.Grammar.{part}
use Rattle.sheet.proofs.Walks.{held-on, arm-turn, arms-done, over-from}
use Rattle.sheet.proofs.Walk.over_arms.Goals as goal

pub loop-preserved : goal.loop-preserved
loop-preserved c = λ ls h.
    (let L = c.loop in
    let a = c.args in
    let w = L.walked in
    let v = L.invariant ls h in
    let p = c.over_sort-pattern.ensures ls (held-on h v.0) in
    let b = over-from ls w.line w.fits (replicate 1 (part a_pattern)) p in
    let t = c.over_sort-walked.ensures ls (held-on h (le_trans v.0 b)) in
    let turn = arm-turn ls a.n L.counter w.line w.fits c.loop-test.true p t in
    (le_trans v.0 turn.0, turn.1 ∙ v.1))

pub returns : goal.returns
returns c = λ ls h.
    (let L = c.loop in
    arms-done ls c.args.n L.counter L.walked.line L.walked.fits c.loop-test.false ∙ (L.invariant ls h).1)
