use Rattle.std.proofs.Common.{Option, List, ℕ, eqb-true, sym, ap, ◌∙◌, ◌≡◌, ◌≢◌, None}
use Rattle.nodes.specs.Nodes.{Ty, nodes_at}
use Rattle.judgment.specs.Types.{view}
use Rattle.judgment.specs.Terms.{Lambda, lambda_of}
use Rattle.judgment.specs.Rules.{Env, check_by}
use Rattle.judgment.specs.Result.{Way}
use Rattle.board.specs.Board.{term_at}
use Rattle.sheet.specs.Rows.{rows}
use Rattle.operations.proofs.Then.{does-as}
use Rattle.subtyping.specs.declared.Shape.TheVariants.{Arrow, Forall}
use Rattle.subtyping.specs.Subtyping.{shape_of}
use Rattle.subtyping.proofs.Shapes.{arrow-view}
use Rattle.checking.specs.Checking.{checked_type, checked_out}
use Rattle.checking.proofs.Rooms.{shaped, no-head, forall-asks, forall-rule, forall-rooms, plain-rule, plain-rooms}
use Rattle.checking.proofs.solve_checking.Goals.{in_default-via-in-Arrow+else-is_lambda, in_default-via-in_default}
use Rattle.checking.proofs.solve_checking.Goals as goal

pub check_arrow-requires : goal.check_arrow-requires
check_arrow-requires c = (c.requires.1, shaped c.requires.1 c.in-Arrow.ensures (λ z. cc), eqb-true _ 23 (sym c.if-is_lambda.ensures))

pub returns-in-Arrow : goal.returns-in-Arrow
returns-in-Arrow c = let a = c.args in
    let T : Ty = nodes_at a.board.now a.at a.tn in
    let ls = rows a.s.now in
    let f : Option Lambda = lambda_of (term_at ls a.line) in
    let e = arrow-view a.board.now a.at a.tn (sym c.in-Arrow.ensures) in (
      λ (w : Way) (E : Env) (rep : List ℕ). does-as (λ _. ap (check_by E (term_at ls a.line) T) (sym e)) (c.check_arrow.ensures.0 w E _ rep c.requires.0),
      c.check_arrow.ensures.1 ∙ ap (checked_type a.t.now a.c T f) (sym e),
      c.check_arrow.ensures.2 ∙ ap (checked_out a.out.now a.c T f) (sym e),
    )

pub bounds-t-1 : goal.bounds-t-1
bounds-t-1 c = (forall-asks c.requires.1 c.copy_nodes.ensures c.in-Forall.ensures).0

pub overflow_sub-tn : goal.overflow_sub-tn
overflow_sub-tn c = shaped c.requires.1 c.in-Forall.ensures (λ z. cc)

pub check_forall-requires : goal.check_forall-requires
check_forall-requires c = let x = forall-asks c.requires.1 c.copy_nodes.ensures c.in-Forall.ensures in (c.requires.0, x.1, x.2)

pub returns-in-Forall : goal.returns-in-Forall
returns-in-Forall c = let a = c.args in
    let ls = rows a.s.now in
    let z = c.in-Forall.ensures in
    let r = forall-rooms c.requires.1 c.copy_nodes.ensures z c.check_forall.ensures.0 in (
      λ (w : Way) (E : Env) (rep : List ℕ). does-as (λ _. forall-rule c.requires.1 c.copy_nodes.ensures z E) (c.check_forall.ensures.1 w ls E (nodes_at a.board.now a.at a.tn) rep),
      r.0,
      r.1,
    )

pub returns-in_default : goal.returns-in_default
returns-in_default c =
    let p = c.requires.1 in
    let ls = rows c.args.s.now in
    let T : Ty = nodes_at c.args.board.now c.args.at c.args.tn in
    let g : shape_of (view T) ≡ Arrow → lambda_of (term_at ls c.args.line) ≡ None =
    elim c.in_default.branch [
      | in_default-via-in-Arrow+else-is_lambda w ↦ (λ _. no-head p w.if-is_lambda.ensures)
      | in_default-via-in_default w ↦ (λ z. absurd (w.in_default.not-Arrow (c.of.ensures ∙ z)))
    ] in
    let h : shape_of (view T) ≢ Forall =
    elim c.in_default.branch [
      | in_default-via-in-Arrow+else-is_lambda w ↦ (λ z. (let e = w.in-Arrow.ensures in cc))
      | in_default-via-in_default w ↦ (λ z. w.in_default.not-Forall (c.of.ensures ∙ z))
    ] in
    let r = plain-rooms p c.copy_nodes-in_default.ensures g h in
    (λ (w : Way) (E : Env) (rep : List ℕ). does-as (λ _. plain-rule p c.copy_nodes-in_default.ensures g h E) (c.synthesize.ensures E w ls _ rep c.requires.0), r.0, r.1)
