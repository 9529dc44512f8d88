use Rattle.std.proofs.Common.{◌≡◌, ◌-◌, length}
use Rattle.nodes.specs.Nodes.{node}
use Rattle.core_types.proofs.Walks.{Walked}
use Rattle.core_types.proofs.substitute_type.Given as goal

abbrev pub invariant-loop-i : goal.invariant-loop-i
invariant-loop-i l = (length l.t ≡ length l.initial.t) × Walked l.name (node l.kind l.number) l.initial.t l.at l.n l.t l.i

abbrev pub decreases-loop-i : goal.decreases-loop-i
decreases-loop-i l = l.n - l.i
