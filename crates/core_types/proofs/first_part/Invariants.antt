use Rattle.std.proofs.Common.{◌+◌, ◌*◌, ◌≤◌}
use Rattle.core_types.proofs.Walks.{Parting}
use Rattle.core_types.proofs.first_part.Given as goal

abbrev pub invariant-loop-i : goal.invariant-loop-i
invariant-loop-i l = (l.pending ≤ 1 + l.i * 4294967296) × Parting l.src l.at l.n l.i l.pending
