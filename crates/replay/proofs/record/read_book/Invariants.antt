use Rattle.std.proofs.Common.{◌≡◌, ℕ, ◌-◌, ◌≤◌, List, length}
use Rattle.sizes.specs.Sizes.{most_nodes}
use Rattle.replay.specs.Parsing.{gives, and_then, times}
use Rattle.replay.specs.Recorded.{wanted, Solved, solution_into, book_into}
use Rattle.replay.specs.Reading.{solved_in}
use Rattle.replay.proofs.record.read_book.Given as goal

abbrev pub invariant-loop : goal.invariant-loop
invariant-loop l = record {
  room : length l.want ≡ wanted;
  bound : l.nodes ≤ most_nodes;
  read : book_into l.fn.want l.fn.line.rest.now
      ≡ and_then (times (l.n - l.counter) (λ (j : ℕ) (x : Solved). solution_into x.nodes x.words) l.counter (solved_in l.want l.nodes) l.line.rest.now) (λ (x : Solved) (t : List ℕ). gives x.words t);
}
