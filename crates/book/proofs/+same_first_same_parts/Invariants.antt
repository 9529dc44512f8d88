use Rattle.std.proofs.Common.{◌+◌, ◌*◌}
use Rattle.book.proofs.Comparing.{visits_of, Going}
use Rattle.book.proofs.+same_first_same_parts.Given as goal

abbrev pub decreases-same_first : goal.decreases-same_first
decreases-same_first l = 2 * visits_of l.l.now l.r.now l.book.now l.c

abbrev pub decreases-same_parts : goal.decreases-same_parts
decreases-same_parts l = 2 * visits_of l.l.now l.r.now l.book.now l.c + 1

abbrev pub invariant-same_parts-loop-d : goal.invariant-same_parts-loop-d
invariant-same_parts-loop-d l = Going l.l l.r l.book l.initial.d l.d

abbrev pub decreases-same_parts-loop-d : goal.decreases-same_parts-loop-d
decreases-same_parts-loop-d l = visits_of l.l l.r l.book l.d
