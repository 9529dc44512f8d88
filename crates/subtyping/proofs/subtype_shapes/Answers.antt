use Rattle.std.proofs.Common.{rules, ◌≡◌, ◌≢◌, ◌*◌, ◌∙◌}
use Rattle.nodes.specs.Nodes.{nodes_at}
use Rattle.judgment.specs.Types.{View, view}
use Rattle.subtyping.specs.declared.Shape.TheVariants.{Arrow, App, Forall, Unknown}
use Rattle.subtyping.specs.Subtyping.{shape_of}
use Rattle.operations.proofs.Then.{does-as}
use Rattle.subtyping.proofs.Subs.{sizes, open-asks, parts-asks, by-forall-right, by-forall-left, by-unknown-left, by-arrows, by-apps, by_right, report-forall-right, report-forall-left, report-unknown-left, report-right, report-parts}
use Rattle.subtyping.proofs.subtype_shapes.Goals as goal

pub open_right-requires : goal.open_right-requires
open_right-requires c = (open-asks c.requires, c.requires.formed, (sizes c.requires).1)

pub open_left-requires : goal.open_left-requires
open_left-requires c = (open-asks c.requires, (sizes c.requires).0)

pub overflow_sub-l : goal.overflow_sub-l
overflow_sub-l c = (sizes c.requires).0

pub overflow_sub-r : goal.overflow_sub-r
overflow_sub-r c = (sizes c.requires).1

pub push_parts-requires : goal.push_parts-requires
push_parts-requires c = parts-asks c.requires

pub overflow_sub-l-in-App-App : goal.overflow_sub-l-in-App-App
overflow_sub-l-in-App-App c = (sizes c.requires).0

pub overflow_sub-r-in-App-App : goal.overflow_sub-r-in-App-App
overflow_sub-r-in-App-App c = (sizes c.requires).1

pub push_parts-requires-in-App-App : goal.push_parts-requires-in-App-App
push_parts-requires-in-App-App c = parts-asks c.requires

pub returns-in_default-Forall : goal.returns-in_default-Forall
returns-in_default-Forall c =
    let p = c.requires in
    let e = c.in_default-Forall.ensures in (
      λ w ls. does-as (λ _. by-forall-right p e) (c.open_right.ensures.0 _ ls),
      c.open_right.ensures.1 ∙ report-forall-right p c.args.c.counters.fresh e,
    )

pub returns-in-Forall-default : goal.returns-in-Forall-default
returns-in-Forall-default c =
    let p = c.requires in
    let h : shape_of (view (nodes_at c.args.report.now (2 * c.args.l) c.args.r)) ≢ Forall = search rules in
    let e : shape_of (view (nodes_at c.args.report.now 0 c.args.l)) ≡ Forall = search rules in (
      λ w ls. does-as (λ _. by-forall-left p h e) (c.open_left.ensures.0 _ ls _ p.formed),
      c.open_left.ensures.1 ∙ report-forall-left p c.args.c.counters.fresh h e,
    )

pub returns-in-Unknown-default : goal.returns-in-Unknown-default
returns-in-Unknown-default c =
    let p = c.requires in
    let h : shape_of (view (nodes_at c.args.report.now (2 * c.args.l) c.args.r)) ≢ Forall = search rules in
    let e : shape_of (view (nodes_at c.args.report.now 0 c.args.l)) ≡ Unknown = search rules in (
      λ w ls. does-as (λ _. by-unknown-left p h e) (c.unknown_left.ensures.0 w ls),
      c.unknown_left.ensures.1 ∙ report-unknown-left p c.args.c.counters.fresh h e,
    )

pub returns-in-Arrow-Arrow : goal.returns-in-Arrow-Arrow
returns-in-Arrow-Arrow c =
    let p = c.requires in
    let e = c.in-Arrow-Arrow.ensures' in
    let f = c.in-Arrow-Arrow.ensures in (
      λ w ls. does-as (λ _. by-arrows p e f) (c.push_parts.ensures _ ls _ _ p.formed),
      report-parts p c.args.c.counters.fresh (λ z. cc) (λ z. cc) (λ z. cc) (λ z. cc),
    )

pub returns-in-App-App : goal.returns-in-App-App
returns-in-App-App c =
    let p = c.requires in
    let e = c.in-App-App.ensures' in
    let f = c.in-App-App.ensures in (
      λ w ls. does-as (λ _. by-apps p e f) (c.push_parts-in-App-App.ensures _ ls _ _ p.formed),
      report-parts p c.args.c.counters.fresh (λ z. cc) (λ z. cc) (λ z. cc) (λ z. cc),
    )

pub returns-in_default : goal.returns-in_default
returns-in_default c =
    let p = c.requires in
    let L : View = view (nodes_at c.args.report.now 0 c.args.l) in
    let R : View = view (nodes_at c.args.report.now (2 * c.args.l) c.args.r) in
    let h : shape_of R ≢ Forall = search rules in
    let g : shape_of L ≢ Forall = search rules in
    let u : shape_of L ≢ Unknown = search rules in
    let a : shape_of L ≡ Arrow → shape_of R ≢ Arrow = search rules in
    let b : shape_of L ≡ App → shape_of R ≢ App = search rules in (
      λ w ls. does-as (λ _. by_right p h g u a b) (c.unknown_right.ensures.0 w ls),
      c.unknown_right.ensures.1 ∙ report-right p c.args.c.counters.fresh h g u,
    )
