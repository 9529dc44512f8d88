use Rattle.std.proofs.Common.{◌≡◌, ◌+◌, ◌*◌, ◌-◌, length}
use Rattle.nodes.specs.Nodes.{nodes_at}
use Rattle.nodes.specs.Lists.{All}
use Rattle.book.specs.Book.{lowered, Listed}
use Rattle.book.proofs.lower.Given as goal

abbrev pub invariant-loop-i : goal.invariant-loop-i
invariant-loop-i l = (length l.book ≡ length l.initial.book) × All Listed (nodes_at l.src (l.from + 2 * l.i) (l.n - l.i))
    × (lowered l.m (nodes_at l.src (l.from + 2 * l.i) (l.n - l.i)) l.book ≡ lowered l.m (nodes_at l.src l.from l.n) l.initial.book)
