use Rattle.std.proofs.Common.{◌-◌, length, Ok}
use Rattle.input.specs.Filled.{Filled}
use Rattle.input.proofs.fill_from.Given as goal

abbrev pub invariant-loop-end : goal.invariant-loop-end
invariant-loop-end g l = Filled l.at (Ok l.end) l.initial.buf l.buf

abbrev pub decreases-loop-end : goal.decreases-loop-end
decreases-loop-end g l = length l.buf - l.end
