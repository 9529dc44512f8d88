-- A run's start: nothing on the board, nothing in the book. Assumes nothing.
use Rattle.std.proofs.Common.{List, [], ℕ, ◌+◌, ◌*◌, ◌≤◌, arith, length}
use Rattle.std.proofs.Math.Seq.{sets}
use Rattle.sizes.specs.Sizes.{board_size, book_size, book_stride}
use Rattle.judgment.specs.Levels.{own_levels}
use Rattle.judgment.specs.Result.{book_words}
use Rattle.board.proofs.Stacks.{new-stacked}
use Rattle.book.proofs.Words.{new-booked, zero-at}
use Rattle.operations.specs.declared.Run.{Run}
use Rattle.operations.specs.State.{no_halt, WellFormed}

abbrev pub started : Run
started = record { counters = record { taken = 0; fresh = 0; board = record { entries = 0; nodes = 0 } }; book = record { nodes = 0 }; halt = no_halt }

pub start-formed : (b k : List ℕ) → board_size ≤ length b → book_size ≤ length k → WellFormed b (sets k 0 (book_words [] own_levels 0)) started
start-formed b k lb lk = record {
  board = new-stacked b lb;
  book = new-booked k lk;
  numbers = omega arith;
  unmade = λ j _ i. (let z = zero-at k lk (book_stride * j) (omega arith) in omega arith, zero-at k lk (book_stride * j + 2) (omega arith));
}
