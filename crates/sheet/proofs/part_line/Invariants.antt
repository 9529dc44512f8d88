use Rattle.std.proofs.Common.{◌≡◌, ◌-◌}
use Rattle.sheet.specs.Plan.{part_line}
use Rattle.sheet.specs.Rows.{rows}
use Rattle.sheet.proofs.part_line.Given as goal

abbrev pub invariant-loop : goal.invariant-loop
invariant-loop l = part_line (rows l.s) l.at (l.n - l.counter) ≡ part_line (rows l.s) l.first l.n
