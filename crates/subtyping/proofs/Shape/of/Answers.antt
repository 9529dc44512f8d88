use Rattle.std.proofs.Common.{arith}
use Rattle.subtyping.proofs.Shapes.{arrow-shape, app-shape, forall-shape, unknown-shape, other-shape, shape-of, no-shape, body-empty, body_more}
use Rattle.subtyping.proofs.Shape.of.Goals as goal

pub returns-then-n-eq0 : goal.returns-then-n-eq0
returns-then-n-eq0 c = no-shape _ _ _ c.if-n-eq0.true

pub returns-in-13-eq0 : goal.returns-in-13-eq0
returns-in-13-eq0 c = shape-of _ _ _ (omega arith) (arrow-shape _ _ _ c.in-13-eq0.is-0 c.in-13-eq0.is-1)

pub returns-in-15-eq0 : goal.returns-in-15-eq0
returns-in-15-eq0 c = shape-of _ _ _ (omega arith) (app-shape _ _ _ c.in-15-eq0.is-0 c.in-15-eq0.is-1)

pub returns-in-14-default : goal.returns-in-14-default
returns-in-14-default c = shape-of _ _ _ (omega arith) (forall-shape _ _ _ c.in-14-default.is-0)

pub returns-in-17-default : goal.returns-in-17-default
returns-in-17-default c = shape-of _ _ _ (omega arith) (unknown-shape _ _ _ c.in-17-default.is-0 (body-empty _ _ _ c.if-n-eq1.true))

pub returns-in_default : goal.returns-in_default
returns-in_default c = shape-of _ _ _ (omega arith) (other-shape _ _ _ (λ e. omega arith) (λ e. omega arith) (λ e. omega arith) (λ e. absurd (omega arith)))

pub returns-in_default-2 : goal.returns-in_default-2
returns-in_default-2 c = shape-of _ _ _ (omega arith) (other-shape _ _ _ (λ e. omega arith) (λ e. omega arith) (λ e. omega arith) (λ e. absurd (omega arith)))

pub returns-in_default-3 : goal.returns-in_default-3
returns-in_default-3 c = shape-of _ _ _ (omega arith) (other-shape _ _ _ (λ e. absurd (omega arith)) (λ e. absurd (omega arith)) (λ e. omega arith) (λ _. body_more _ _ _ (omega arith) c.if-n-eq1.false))

pub returns-in_default-4 : goal.returns-in_default-4
returns-in_default-4 c = shape-of _ _ _ (omega arith) (other-shape _ _ _ (λ e. absurd (omega arith)) (λ e. absurd (omega arith)) (λ e. omega arith) (λ e. absurd (omega arith)))
