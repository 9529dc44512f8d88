use Rattle.std.proofs.Common.{◌≡◌, ◌-◌, ◌≤◌}
use Rattle.spelling.specs.Spelling.{lines_of, first_misspelt}
use Rattle.spelling.proofs.Laws.{Left}
use Rattle.reading.proofs.first_misspelt.Given as goal

abbrev pub invariant-loop-i : goal.invariant-loop-i
invariant-loop-i l = (l.i ≤ l.lines) × (Left l.s l.i l.lines ≡ first_misspelt (lines_of l.s))

abbrev pub decreases-loop-i : goal.decreases-loop-i
decreases-loop-i l = l.lines - l.i
