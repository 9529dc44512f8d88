use Rattle.std.proofs.Common.{◌≡◌, ◌+◌, ◌-◌, length}
use Rattle.spelling.specs.Spelling.{spaces_from}
use Rattle.spelling.proofs.spaces.Given as goal

abbrev pub invariant-loop-i : goal.invariant-loop-i
invariant-loop-i l = l.i + spaces_from l.bytes l.i (length l.bytes - l.i) ≡ spaces_from l.bytes 0 (length l.bytes)
