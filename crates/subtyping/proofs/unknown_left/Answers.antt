use Rattle.std.proofs.Common.{arith, sym, ◌∙◌}
use Rattle.operations.proofs.Then.{does-as}
use Rattle.subtyping.proofs.Subs.{sizes, left-asks, by-left-occurs, report-left-occurs}
use Rattle.subtyping.proofs.unknown_left.Goals as goal

pub bounds-report-1 : goal.bounds-report-1
bounds-report-1 c = let s = sizes c.requires.0 in omega arith

pub unknown_right-requires : goal.unknown_right-requires
unknown_right-requires c = (c.requires.0, λ z. cc (c.requires.1))

pub returns-then-occurs_check : goal.returns-then-occurs_check
returns-then-occurs_check c = (
  λ w ls. does-as (λ _. by-left-occurs c.requires.0 c.if-occurs_check.ensures) (c.unknown_right.ensures.0 w ls),
  c.unknown_right.ensures.1 ∙ report-left-occurs c.requires.0 c.if-occurs_check.ensures,
)

pub instantiate-requires : goal.instantiate-requires
instantiate-requires c = left-asks c.requires.0 c.requires.1 c.requires.2 (sym c.if-occurs_check.ensures)

pub returns : goal.returns
returns c = (
  λ w ls. does-as (λ _. by-left-occurs c.requires.0 c.if-occurs_check.ensures) (c.instantiate.ensures.0 w ls),
  c.instantiate.ensures.1 ∙ report-left-occurs c.requires.0 c.if-occurs_check.ensures,
)
