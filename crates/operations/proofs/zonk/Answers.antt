use Rattle.std.proofs.Common.{sym, ◌∙◌}
use Rattle.operations.proofs.Zonking.{zonk-stays, zonk-fits, zonk-over}
use Rattle.operations.proofs.zonk.Goals as goal

pub returns-then-not-is_going : goal.returns-then-not-is_going
returns-then-not-is_going c = zonk-stays c.requires (sym c.is_going.ensures ∙ c.if-not-is_going.true)

pub returns-in-Some : goal.returns-in-Some
returns-in-Some c = zonk-fits c.requires c.write_out.ensures.1 (sym c.is_going.ensures ∙ c.if-not-is_going.false) c.write_out.ensures.0 c.in-Some.is

pub returns-in-None : goal.returns-in-None
returns-in-None c = zonk-over c.requires c.write_out.ensures.1 (sym c.is_going.ensures ∙ c.if-not-is_going.false) c.write_out.ensures.0 c.in-None.is c.refuse.ensures.0
