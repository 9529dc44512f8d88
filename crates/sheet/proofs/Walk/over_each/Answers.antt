use Rattle.std.proofs.Common.{◌∙◌}
use Rattle.sheet.proofs.Walks.{each-parts, each-arms, each_none}
use Rattle.sheet.proofs.Walk.over_each.Goals as goal

pub returns-in-Type : goal.returns-in-Type
returns-in-Type c = λ ls h.
    (let a = c.args in c.over_sort.ensures ls h ∙ each-parts ls a.from.line a.from.fits a.each a.n c.in-Type.is)

pub returns-in-Arm : goal.returns-in-Arm
returns-in-Arm c = λ ls h.
    (let a = c.args in c.over_arms.ensures ls h ∙ each-arms ls a.from.line a.from.fits a.each a.n c.in-Arm.is)

pub returns-in_default : goal.returns-in_default
returns-in_default c = λ ls h.
    (let a = c.args in
    let n = c.in_default in
    each_none ls a.from.line a.from.fits a.each a.n n.not-Type n.not-Term n.not-Pattern n.not-Arm)
