use Rattle.std.proofs.Common.{rules, arith, sym, ◌∙◌}
use Rattle.nodes.specs.Nodes.{nodes_at}
use Rattle.operations.specs.State.{way_in}
use Rattle.operations.proofs.Then.{does-as, solve-asks, way-scoped}
use Rattle.subtyping.specs.Subtyping.{side_of}
use Rattle.subtyping.proofs.Insts.{reach-solves, by-arrow, by-app, by-unknown, by-other, report-stays, report-unknown, report-other}
use Rattle.subtyping.proofs.instantiate.Goals.{in_default-via-in-Unknown+else-before, in_default-via-in_default}
use Rattle.subtyping.proofs.instantiate.Goals as goal

pub returns-in-Arrow : goal.returns-in-Arrow
returns-in-Arrow c =
    let a = c.args in (
      λ m ls. does-as (λ _. by-arrow c.requires (side_of a.side) c.other-other.ensures c.in-Arrow.ensures) (c.split.ensures (way_in a.strict m a.book.now) ls _ (way-scoped a.strict m a.book.now)),
      report-stays c.requires c.in-Arrow.ensures (λ z. cc),
    )

pub returns-in-App : goal.returns-in-App
returns-in-App c =
    let a = c.args in (
      λ m ls. does-as (λ _. by-app c.requires (side_of a.side) c.in-App.ensures) (c.split-in-App.ensures (way_in a.strict m a.book.now) ls _ (way-scoped a.strict m a.book.now)),
      report-stays c.requires c.in-App.ensures (λ z. cc),
    )

pub solve_evar-requires : goal.solve_evar-requires
unfolding nodes_at
solve_evar-requires c = solve-asks c.requires.formed (omega arith) (search rules) (λ _. reach-solves c.requires (sym c.in-Unknown.ensures))

pub returns-in-Unknown : goal.returns-in-Unknown
unfolding nodes_at
returns-in-Unknown c =
    let a = c.args in (
      λ m ls.
          let w = way_in a.strict m a.book.now in
          by-unknown c.requires (side_of a.side) c.in-Unknown.ensures (c.if-before.ensures ls)
          (c.solve_evar.ensures.2 w ls _ _ (way-scoped a.strict m a.book.now _ _ (λ e. omega arith, tt)) c.requires.formed),
      report-stays c.requires c.in-Unknown.ensures (λ z. cc),
    )

pub returns-in_default : goal.returns-in_default
returns-in_default c =
    let a = c.args in
    let S = c.solve_monotype.ensures in
    elim c.in_default.branch [
      | in_default-via-in-Unknown+else-before w ↦ (
        λ m ls. by-unknown c.requires (side_of a.side) w.in-Unknown.ensures (w.if-before.ensures ls) (S.0 m ls _ c.requires.formed),
        S.1 ∙ report-unknown c.requires w.in-Unknown.ensures,
      )
      | in_default-via-in_default w ↦ (
        λ m ls. does-as (λ _. by-other c.requires (side_of a.side) c.of.ensures w.in_default.not-Arrow w.in_default.not-App w.in_default.not-Unknown) (S.0 m ls _ c.requires.formed),
        S.1 ∙ report-other c.requires c.of.ensures w.in_default.not-Arrow w.in_default.not-App w.in_default.not-Unknown,
      )
    ]
