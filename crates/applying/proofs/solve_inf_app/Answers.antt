use Rattle.std.proofs.Common.{sym, ◌∙◌, Bool, List, ℕ}
use Rattle.nodes.specs.Nodes.{Ty}
use Rattle.spelling.specs.declared.Triple.{Triple}
use Rattle.judgment.specs.Rules.{Env, infer_app}
use Rattle.board.specs.Board.{term_at}
use Rattle.operations.specs.State.{Scoped}
use Rattle.subtyping.proofs.Outs.{both-asks, twice-then, twice-stays, report-then, report-stays}
use Rattle.applying.proofs.Outs.{applied, applied_report}
use Rattle.applying.proofs.solve_inf_app.Goals as goal

pub apply_shapes-requires : goal.apply_shapes-requires
apply_shapes-requires c = both-asks c.requires c.zonk-z.ensures.0 c.zonk-z.ensures.2 c.zonk-y.ensures.0 c.zonk-y.ensures.1 c.zonk-y.ensures.2 (sym c.is_going.ensures ∙ c.if-not-is_going.false)

pub returns : goal.returns
unfolding infer_app
returns c = let a = c.args in
    let p = c.requires in
    let Z = c.zonk-z.ensures in
    let Y = c.zonk-y.ensures in
    let S = c.apply_shapes.ensures in
    let g = sym c.is_going.ensures ∙ c.if-not-is_going.false in
    (λ (f : ℕ → Ty → Bool) (ls : List Triple) (E : Env) (sc : Scoped (record { written = a.w; scope = f })). twice-then p Z.0 Z.2 Y.0 Y.1 Y.2 f ls (applied E (term_at ls a.line)) (S.0 (record { written = a.w; scope = f }) ls E sc), report-then p Z.0 Z.2 Y.0 Y.1 Y.2 Z.1 applied_report g S.1)

pub returns-then-not-is_going : goal.returns-then-not-is_going
unfolding infer_app
returns-then-not-is_going c = let p = c.requires in
    let Z = c.zonk-z.ensures in
    let Y = c.zonk-y.ensures in
    let g = sym c.is_going.ensures ∙ c.if-not-is_going.true in
    (λ (f : ℕ → Ty → Bool) (ls : List Triple) (E : Env) (sc : Scoped (record { written = c.args.w; scope = f })). twice-stays p Z.0 Z.2 Y.0 Y.1 Y.2 f ls (applied E (term_at ls c.args.line)) g, report-stays p Z.0 Z.2 Y.0 Y.1 Y.2 Z.1 applied_report g)
