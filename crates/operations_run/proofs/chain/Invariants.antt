use mathlib.Core.Path.{◌≡◌}
use Prim.Native.Nat.{◌-◌, ◌≤◌}
use lib.ListN.{length}
use Rattle.judgment.specs.Links.{risen}
use Rattle.book.proofs.Links.{Holding}
use Rattle.operations_run.proofs.chain.Given as goal

abbrev pub invariant-loop-k : goal.invariant-loop-k
invariant-loop-k l = (l.k ≤ 999) × (l.b ≡ record { nodes = l.k }) × Holding l.book l.k (risen l.k) × (length l.book ≡ length l.initial.book)
