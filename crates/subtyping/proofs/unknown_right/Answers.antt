use Rattle.std.proofs.Common.{arith, sym, ◌∙◌}
use Rattle.operations.proofs.Then.{does-as}
use Rattle.subtyping.proofs.Subs.{sizes, right-asks, by-right-occurs, by-mismatch, report-right-occurs, report-mismatch}
use Rattle.subtyping.proofs.unknown_right.Goals.{in_default-via-in-Unknown+else-not-occurs_check, in_default-via-in_default}
use Rattle.subtyping.proofs.unknown_right.Goals as goal

pub bounds-report-right : goal.bounds-report-right
bounds-report-right c = let s = sizes c.requires.0 in omega arith

pub overflow_cast-r : goal.overflow_cast-r
overflow_cast-r c = let s = sizes c.requires.0 in omega arith

pub overflow_cast-l : goal.overflow_cast-l
overflow_cast-l c = let s = sizes c.requires.0 in omega arith

pub instantiate-requires : goal.instantiate-requires
instantiate-requires c = right-asks c.requires.0 (sym c.in-Unknown.ensures) c.requires.1 (sym c.if-not-occurs_check.ensures)

pub returns-in-Unknown : goal.returns-in-Unknown
returns-in-Unknown c = (
  λ w ls. does-as (λ _. by-right-occurs c.requires.0 c.in-Unknown.ensures c.if-not-occurs_check.ensures) (c.instantiate.ensures.0 w ls),
  c.instantiate.ensures.1 ∙ report-right-occurs c.requires.0 c.in-Unknown.ensures c.if-not-occurs_check.ensures,
)

pub returns-in_default : goal.returns-in_default
returns-in_default c =
    let p = c.requires.0 in elim c.in_default.branch [
      | in_default-via-in-Unknown+else-not-occurs_check w ↦ (
        λ m ls. does-as (λ _. by-right-occurs p w.in-Unknown.ensures w.if-not-occurs_check.ensures) (c.refuse.ensures.1 _ ls _ _ _ p.formed),
        report-right-occurs p w.in-Unknown.ensures w.if-not-occurs_check.ensures,
      )
      | in_default-via-in_default w ↦ (
        λ m ls. does-as (λ _. by-mismatch p c.of.ensures w.in_default.not-Unknown) (c.refuse.ensures.1 _ ls _ _ _ p.formed),
        report-mismatch p c.of.ensures w.in_default.not-Unknown,
      )
    ]
