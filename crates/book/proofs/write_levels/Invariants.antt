use Rattle.std.proofs.Common.{◌≡◌, length}
use Rattle.book.specs.Book.{levels_written}
use Rattle.book.proofs.write_levels.Given as goal

abbrev pub invariant-loop-k : goal.invariant-loop-k
invariant-loop-k l = (length l.book ≡ length l.initial.book) × (l.book ≡ levels_written l.initial.book l.k)
