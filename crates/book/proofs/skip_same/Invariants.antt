use Rattle.book.proofs.Comparing.{Skipping}
use Rattle.book.proofs.skip_same.Given as goal

abbrev pub invariant-loop-d : goal.invariant-loop-d
invariant-loop-d l = Skipping l.l l.r l.initial.d l.d

abbrev pub decreases-loop-d : goal.decreases-loop-d
decreases-loop-d l = l.d.budget
