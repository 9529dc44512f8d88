use Rattle.std.proofs.Common.{◌≡◌, false, length}
use Rattle.replay.specs.Parsing.{digits}
use Rattle.replay.proofs.cursor.Cursor.digits.Given as goal

abbrev pub invariant-loop-b : goal.invariant-loop-b
invariant-loop-b l = digits false l.fn.negative 0 l.fn.self.rest.now ≡ digits l.some l.fn.negative l.magnitude l.self.rest.now

abbrev pub decreases-loop-b : goal.decreases-loop-b
decreases-loop-b l = length l.self.rest.now
