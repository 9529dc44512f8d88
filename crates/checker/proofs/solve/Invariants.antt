use mathlib.Core.Path.{◌≡◌}
use Prim.Native.Nat.{◌-◌}
use lib.ListN.{length}
use Rattle.checker.proofs.Ending.{Loop, whole_run}
use Rattle.checker.proofs.solve.Given as goal

abbrev pub invariant-loop-call : goal.invariant-loop-call
invariant-loop-call l = Loop l.call.strict l.call.limit l.s l.call.ceiling (whole_run l.call.strict l.call.limit l.s l.call.ceiling l.initial.board l.initial.book l.initial.run) l.board l.book l.report l.run × (length l.board ≡ length l.initial.board) × (length l.book ≡ length l.initial.book) × (length l.report ≡ length l.initial.report) × (length l.t ≡ length l.initial.t) × (length l.l ≡ length l.initial.l) × (length l.r ≡ length l.initial.r) × (length l.w ≡ length l.initial.w) × (length l.v ≡ length l.initial.v)

abbrev pub decreases-loop-call : goal.decreases-loop-call
decreases-loop-call l = l.call.ceiling - l.run.counters.taken
