use Rattle.std.proofs.Common.{ne_eqb, sym, ap, ap₂, ◌∙◌, arith, eqb}
use Rattle.spelling.specs.declared.Triple.{Triple}
use Rattle.sheet.specs.Rows.{rows}
use Rattle.sheet.proofs.RowLaws.{length-rows}
use Rattle.sheet.proofs.Declarations.{stands}
use Rattle.sheet.proofs.Fitting.{goal-on, goal-off}
use Rattle.sheet.proofs.goal_ok.Goals as goal

pub end_at-requires : goal.end_at-requires
end_at-requires c =
    let k = c.if-triple_at-eq4.true in
    let h = stands (rows c.args.d.now) c.args.at c.triple_at.ensures (λ e. omega arith) in
    let n = length-rows c.args.d.now in
    omega arith

pub returns-then-triple_at-eq4 : goal.returns-then-triple_at-eq4
returns-then-triple_at-eq4 c =
    let ls = rows c.args.d.now in
    let at = c.args.at in
    let k = c.if-triple_at-eq4.true in
    let h = stands ls at c.triple_at.ensures (λ e. omega arith) in
    ap₂ eqb (c.end_at.ensures ∙ c.requires.0 at (omega arith) h) c.line_count.ensures ∙ goal-on ls c.requires.1 at h (sym (ap (λ (t : Triple). t.kind) c.triple_at.ensures) ∙ k)

pub returns-else-triple_at-eq4 : goal.returns-else-triple_at-eq4
returns-else-triple_at-eq4 c = ne_eqb c.triple_at.result.kind 4 c.if-triple_at-eq4.false ∙ goal-off (rows c.args.d.now) c.requires.1 c.args.at (λ q. c.if-triple_at-eq4.false (ap (λ (t : Triple). t.kind) c.triple_at.ensures ∙ q))
