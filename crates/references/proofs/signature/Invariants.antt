use Rattle.std.proofs.Common.{◌+◌, ◌-◌, ◌≤◌, length}
use Rattle.sheet.specs.Rows.{rows}
use Rattle.references.proofs.Signs.{Signing}
use Rattle.references.proofs.signature.Given as goal

abbrev pub invariant-loop-i : goal.invariant-loop-i
invariant-loop-i l = (h : l.first + l.n ≤ length (rows l.s)) → Signing (rows l.s) l.first l.n h l.i l.arity

abbrev pub decreases-loop-i : goal.decreases-loop-i
decreases-loop-i l = l.n - l.i
