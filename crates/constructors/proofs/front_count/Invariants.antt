use Rattle.sheet.specs.Rows.{rows}
use Rattle.constructors.proofs.Binders.{Fronting}
use Rattle.constructors.proofs.front_count.Given as goal

abbrev pub invariant-loop-i : goal.invariant-loop-i
invariant-loop-i l = Fronting (rows l.s) l.first l.n l.i
