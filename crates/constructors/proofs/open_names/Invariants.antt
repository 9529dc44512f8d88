use Rattle.std.proofs.Common.{List, ℕ, ◌-◌}
use Rattle.board.specs.Board.{Stacked}
use Rattle.operations.specs.declared.Run.{Run}
use Rattle.constructors.specs.Opening.{Named}
use Rattle.constructors.proofs.open_names.Given as goal

abbrev pub invariant-loop : goal.invariant-loop
invariant-loop l = Stacked l.board l.run.counters.board × ((b : List ℕ) (r : Run) → Named l.board l.run (l.n - l.counter) b r → Named l.initial.board l.initial.run l.n b r)
