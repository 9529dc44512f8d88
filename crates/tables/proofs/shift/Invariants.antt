use Rattle.std.proofs.Common.{◌≡◌, ◌≤◌, length}
use Rattle.tables.specs.Rows.{lifted}
use Rattle.tables.proofs.shift.Given as goal

abbrev pub invariant-loop-i : goal.invariant-loop-i
invariant-loop-i l = (l.j ≤ l.i) × (length l.w ≡ length l.initial.w) × (l.w ≡ lifted l.initial.w l.i l.n)
