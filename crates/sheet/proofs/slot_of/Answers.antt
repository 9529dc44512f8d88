use Rattle.std.proofs.Common.{refl, mod-lt}
use Rattle.sheet.proofs.slot_of.Goals as goal

pub returns : goal.returns
returns c = (refl, mod-lt c.args.name c.requires)
