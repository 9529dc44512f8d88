use Rattle.std.proofs.Common.{sym, ◌∙◌}
use Rattle.operations.proofs.Latch.{refuse-returns, refuse-stays}
use Rattle.operations.proofs.refuse.Goals as goal

pub returns-then-not-is_going : goal.returns-then-not-is_going
returns-then-not-is_going c = refuse-stays _ _ (sym c.is_going.ensures ∙ c.if-not-is_going.true)

pub returns : goal.returns
returns c = refuse-returns _ _ _ (sym c.is_going.ensures ∙ c.if-not-is_going.false) c.from.ensures
