use Rattle.std.proofs.Common.{◌+◌, ◌*◌, ◌-◌}
use Rattle.nodes.specs.Nodes.{nodes_at}
use Rattle.judgment.proofs.Visits.{visits}
use Rattle.book.specs.Book.{sols}
use Rattle.book.proofs.Turns.{Turning}
use Rattle.book.proofs.+write_out.Given as goal

abbrev pub decreases-write_out : goal.decreases-write_out
decreases-write_out l = visits (sols l.book.now) (nodes_at l.src.now l.at l.left)

abbrev pub invariant-loop-i : goal.invariant-loop-i
invariant-loop-i l = Turning l.src l.at l.left l.book l.initial.out l.n l.end l.out (l.at + 2 * l.i) (l.left - l.i) l.m
