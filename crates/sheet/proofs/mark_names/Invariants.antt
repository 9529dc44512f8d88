use Rattle.std.proofs.Common.{◌≡◌, drop}
use Rattle.sheet.specs.Rows.{rows}
use Rattle.sheet.specs.Used.{marked}
use Rattle.sheet.proofs.mark_names.Given as goal

abbrev pub invariant-loop-i : goal.invariant-loop-i
invariant-loop-i l = marked (drop l.i (rows l.s)) l.used ≡ marked (drop l.first (rows l.s)) l.initial.used
