use Rattle.std.proofs.Common.{◌≡◌, ◌||◌, drop}
use Rattle.sheet.specs.Rows.{rows}
use Rattle.inferring.specs.Inferring.{has_case}
use Rattle.inferring.proofs.has_case.Given as goal

abbrev pub invariant-loop-i : goal.invariant-loop-i
invariant-loop-i l = (l.found || has_case (drop l.i (rows l.s))) ≡ has_case (rows l.s)
