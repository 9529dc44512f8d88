use Rattle.std.proofs.Common.{◌≡◌, ◌*◌, length, drop}
use Rattle.sheet.specs.Plan.{triples}
use Rattle.sheet.specs.Rows.{Unlinked}
use Rattle.sheet.specs.Fit.{all_fit}
use Rattle.sheet.proofs.RowLaws.{RowsFrom}
use Rattle.sheet.proofs.read_lines.Given as goal

abbrev pub invariant-loop-i : goal.invariant-loop-i
invariant-loop-i l = (length l.d ≡ 4 * length (triples l.s)) × Unlinked l.d × RowsFrom (triples l.s) l.d l.i × (l.fits ≡ all_fit (drop l.i (triples l.s)))
