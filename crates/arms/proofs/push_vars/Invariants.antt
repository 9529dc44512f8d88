use Rattle.std.proofs.Common.{ℕ}
use Rattle.sheet.specs.Rows.{rows}
use Rattle.judgment.specs.Rules.{push_vars}
use Rattle.tables.specs.Rows.{bindings_at}
use Rattle.patterns.specs.Turns.{Turn}
use Rattle.arms.proofs.Vars.{Left}
use Rattle.arms.proofs.Rooms.{Vars}
use Rattle.arms.proofs.push_vars.Given as goal

abbrev pub invariant-loop-i : goal.invariant-loop-i
invariant-loop-i l = Turn {A = ℕ} (rows l.s) l.initial.board l.initial.run (λ f. push_vars (bindings_at (rows l.s) l.v 0 l.n) (f 0)) l.board l.run (Left (rows l.s) l.v l.n l.i) × Vars (rows l.s) l.v l.n l.initial.run l.initial.l l.run l.l l.i
