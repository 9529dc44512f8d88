use Rattle.std.proofs.Common.{sym, ap, ap₂, ◌∙◌, inr, List, ◌*◌, ◌-◌, ◌≤◌, arith}
use Rattle.nodes.specs.Nodes.{Ty, nodes_at}
use Rattle.spelling.specs.declared.Triple.{Triple}
use Rattle.judgment.specs.Types.{is_arrow}
use Rattle.judgment.specs.Rules.{Env, apply_by}
use Rattle.judgment.specs.Result.{Way}
use Rattle.board.specs.Board.{term_at}
use Rattle.core_types.proofs.Walks.{first-nodes, rest-nodes}
use Rattle.operations.specs.State.{Scoped}
use Rattle.operations.proofs.Then.{does-as, report-free}
use Rattle.subtyping.proofs.Shapes.{arrow-view, forall-view, unknown-view}
use Rattle.applying.proofs.Applied.{bounds, part-within, unknown-open, refuses, report-stays, report-opened}
use Rattle.applying.proofs.apply_shapes.Goals as goal

pub bounds-report-1 : goal.bounds-report-1
bounds-report-1 c = let B = bounds c.requires in omega arith

pub first_part-m-requires : goal.first_part-m-requires
first_part-m-requires c = let B = bounds c.requires in (omega arith, omega arith)

pub overflow_sub-f : goal.overflow_sub-f
overflow_sub-f c = (bounds c.requires).0

pub overflow_sub-f-in-Arrow : goal.overflow_sub-f-in-Arrow
overflow_sub-f-in-Arrow c = (bounds c.requires).0

pub overflow_sub-f-in-Arrow-2 : goal.overflow_sub-f-in-Arrow-2
overflow_sub-f-in-Arrow-2 c = part-within c.requires c.first_part-m.result c.first_part-m.ensures

pub overflow_sub-f-in-Forall : goal.overflow_sub-f-in-Forall
overflow_sub-f-in-Forall c = (bounds c.requires).0

pub overflow_cast-f : goal.overflow_cast-f
overflow_cast-f c = let B = bounds c.requires in omega arith

pub apply_arrow-requires : goal.apply_arrow-requires
apply_arrow-requires c = let B = bounds c.requires in let l : c.first_part-m.result ≤ c.args.f - 1 = part-within c.requires c.first_part-m.result c.first_part-m.ensures in
    (c.requires.formed.board, omega arith, omega arith, (_, c.requires.formed))

pub returns-in-Arrow : goal.returns-in-Arrow
returns-in-Arrow c =
    let a = c.args in
    let P = a.report.now in
    let F : Ty = nodes_at P 0 a.f in
    let C : Ty = nodes_at P (2 * a.f) a.n in
    let v = arrow-view P 0 a.f (sym c.in-Arrow.ensures) in
    let e1 = first-nodes P 2 (a.f - 1) c.first_part-m.result c.first_part-m.ensures in
    let e2 = rest-nodes P 2 (a.f - 1) c.first_part-m.result c.first_part-m.ensures in (
      λ (w : Way) (ls : List Triple) (E : Env) (sc : Scoped w).
          does-as (λ _. ap (apply_by E F (term_at ls a.line) C) (ap₂ is_arrow e1 e2 ∙ sym v)) (c.apply_arrow.ensures E F w ls _ P c.requires.formed),
      report-stays c.requires a.c.counters.fresh c.in-Arrow.ensures (λ z. cc),
    )

pub apply_forall-requires : goal.apply_forall-requires
apply_forall-requires c = let B = bounds c.requires in (c.requires.formed.board, omega arith, omega arith, omega arith, inr (omega arith), (_, c.requires.formed))

pub returns-in-Forall : goal.returns-in-Forall
returns-in-Forall c =
    let a = c.args in
    let P = a.report.now in
    let F : Ty = nodes_at P 0 a.f in
    let C : Ty = nodes_at P (2 * a.f) a.n in
    let v = forall-view P 0 a.f (sym c.in-Forall.ensures) in (
      λ (w : Way) (ls : List Triple) (E : Env) (sc : Scoped w).
          report-free c.requires.goes (does-as (λ _. ap (apply_by E F (term_at ls a.line) C) (sym v)) (c.apply_forall.ensures.1 E F w ls _ _ c.requires.formed)),
      c.apply_forall.ensures.0 ∙ report-opened c.requires a.c.counters.fresh c.in-Forall.ensures,
    )

pub apply_unknown-requires : goal.apply_unknown-requires
apply_unknown-requires c = let B = bounds c.requires in (c.requires.formed, unknown-open c.requires c.in-Unknown.ensures, omega arith)

pub returns-in-Unknown : goal.returns-in-Unknown
returns-in-Unknown c =
    let a = c.args in
    let P = a.report.now in
    let F : Ty = nodes_at P 0 a.f in
    let C : Ty = nodes_at P (2 * a.f) a.n in
    let v = unknown-view P 0 a.f (sym c.in-Unknown.ensures) in (
      λ (w : Way) (ls : List Triple) (E : Env) (sc : Scoped w). does-as (λ _. ap (apply_by E F (term_at ls a.line) C) (sym v)) (c.apply_unknown.ensures w ls E F P sc),
      report-stays c.requires a.c.counters.fresh c.in-Unknown.ensures (λ z. cc),
    )

pub returns-in_default : goal.returns-in_default
returns-in_default c =
    let a = c.args in
    let P = a.report.now in
    let C : Ty = nodes_at P (2 * a.f) a.n in
    let es = c.of.ensures in
    let d = c.in_default in (
      λ (w : Way) (ls : List Triple) (E : Env) (sc : Scoped w).
          does-as (λ _. refuses c.requires E (term_at ls a.line) C (λ z. d.not-Arrow (es ∙ z)) (λ z. d.not-Forall (es ∙ z)) (λ z. d.not-Unknown (es ∙ z))) (c.refuse.ensures.1 w ls _ _ P c.requires.formed),
      report-stays c.requires a.c.counters.fresh es d.not-Forall,
    )
