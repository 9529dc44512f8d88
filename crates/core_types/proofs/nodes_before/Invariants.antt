use Rattle.core_types.proofs.Walks.{Counting}
use Rattle.core_types.proofs.nodes_before.Given as goal

abbrev pub invariant-loop-i : goal.invariant-loop-i
invariant-loop-i l = Counting l.number l.t l.at l.n l.i
