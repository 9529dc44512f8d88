use Rattle.std.proofs.Common.{sym, ◌∙◌}
use Rattle.operations.proofs.Latch.{push-returns, push-refuses, push-stays}
use Rattle.operations.proofs.push.Goals.{else-is_going-via-then-is_going+else-fits, else-is_going-via-else-is_going}
use Rattle.operations.proofs.push.Goals as goal

pub returns-then-fits : goal.returns-then-fits
returns-then-fits c = push-returns c.requires (sym c.is_going.ensures ∙ c.if-is_going.true) (sym c.fits.ensures ∙ c.if-fits.true) c.push-grown.ensures

pub returns : goal.returns
returns c = elim c.else-is_going.branch [
  | else-is_going-via-then-is_going+else-fits w ↦ push-refuses c.requires (sym c.is_going.ensures ∙ w.if-is_going.true) (sym w.fits.ensures ∙ w.if-fits.false) c.refuse.ensures.0
  | else-is_going-via-else-is_going w ↦ push-stays c.requires (sym c.is_going.ensures ∙ w.if-is_going.false) c.refuse.ensures.0
]
