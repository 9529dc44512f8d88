use Rattle.std.proofs.Common.{refl, ap, ◌∙◌}
use Rattle.spelling.specs.declared.Triple.{Triple}
use Rattle.inferring.proofs.Views.{ruled, case-rule, term_asks, case-asks}
use Rattle.nodes.specs.Nodes.{nodes_at}
use Rattle.sheet.specs.Rows.{rows}
use Rattle.inferring.proofs.Rooms.{case-scratch}
use Rattle.inferring.proofs.case_term.Goals as goal

pub infer_case-requires : goal.infer_case-requires
infer_case-requires c = let p = c.requires in
    case-asks p.0 p.1 p.2 (ap (λ (t : Triple). t.count) c.triple_at-n.ensures) (c.wide-arm.ensures ∙ c.part_at.ensures)

pub returns : goal.returns
returns c = let p = term_asks c.requires.0 refl c.requires.2 in
    let a = c.args in
    let n = ap (λ (t : Triple). t.count) c.triple_at-n.ensures in
    let q = c.wide-arm.ensures ∙ c.part_at.ensures in
    let I = c.infer_case.ensures in
    (ruled p (case-rule p refl n c.part_at-e.ensures q) I.0, case-scratch a.c (rows a.s.now) (nodes_at a.t.now 0 a.tn) a.w.now a.v.now a.l.now a.r.now n q I.1)
