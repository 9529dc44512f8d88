use Rattle.std.proofs.Common.{◌≡◌, ℕ, ◌+◌, ◌-◌, ◌*◌, List, length}
use Rattle.sizes.specs.Sizes.{book_stride}
use Rattle.replay.specs.Parsing.{times}
use Rattle.replay.specs.Recorded.{wanted, book_from, word_into, all_levels}
use Rattle.replay.proofs.record.read_levels.Given as goal

abbrev pub invariant-loop-k : goal.invariant-loop-k
invariant-loop-k l = record {
  room : length l.want ≡ wanted;
  read : all_levels l.fn.want l.fn.line.rest.now ≡ times (l.n - l.k) (λ (j : ℕ) (x : List ℕ). word_into x (book_from + book_stride * j + 2)) l.k l.want l.line.rest.now;
}
