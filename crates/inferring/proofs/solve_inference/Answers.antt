use Rattle.std.proofs.Common.{ap, ◌∙◌, ℕ}
use Rattle.nodes.specs.Nodes.{nodes_at}
use Rattle.sheet.specs.Rows.{rows}
use Rattle.judgment.specs.Terms.{term_view}
use Rattle.judgment.specs.Rules.{infer_by}
use Rattle.board.specs.Board.{term_at}
use Rattle.operations.proofs.Then.{does-as}
use Rattle.applying.specs.Applying.{env_on}
use Rattle.inferring.specs.Rooms.{Scratch, scratch, infer_scratch}
use Rattle.inferring.proofs.solve_inference.Goals as goal

pub returns : goal.returns
returns c = let a = c.args in
    let s = a.s.now in
    let e = ap (λ (i : ℕ). infer_by (env_on s) (nodes_at a.t.now 0 a.tn) (term_view (term_at (rows s) i))) c.wide.ensures in
    let I = c.infer_term.ensures in
    let x : Scratch = scratch a.l.now a.r.now a.w.now a.v.now in
    (λ m k rep f. does-as (λ _. e) (I.0 m k rep f), I.1 ∙ ap (λ (i : ℕ). infer_scratch a.board.now a.c s i (nodes_at a.t.now 0 a.tn) x) c.wide.ensures)
