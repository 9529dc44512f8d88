use mathlib.Core.Path.{sym, ◌∙◌}
use Rattle.writing.proofs.tamed.Goals as goal

pub returns-then-is_sayable : goal.returns-then-is_sayable
returns-then-is_sayable c = rw (sym c.is_sayable.ensures ∙ c.if-is_sayable.true)

pub returns : goal.returns
returns c = rw (sym c.is_sayable.ensures ∙ c.if-is_sayable.false)
