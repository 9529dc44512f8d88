use Rattle.patterns.proofs.Steps.{arity-same, arity-other}
use Rattle.std.proofs.Common.{◌∙◌}
use Rattle.patterns.proofs.Rooms.{run-same, run-other}
use Rattle.patterns.proofs.check_arity.Goals as goal

pub returns-then-count-arity : goal.returns-then-count-arity
returns-then-count-arity c = (λ ls b h. arity-same h c.if-count-arity.true, run-same c.args.c _ _ c.if-count-arity.true)

pub returns-else-count-arity : goal.returns-else-count-arity
returns-else-count-arity c = (λ ls b h. arity-other h c.if-count-arity.false c.refuse.ensures, c.refuse.ensures.0 ∙ run-other c.args.c _ _ c.if-count-arity.false)
