use Rattle.std.proofs.Common.{◌≡◌, ℕ, ◌+◌, ◌-◌, List, length}
use Rattle.replay.specs.Parsing.{times}
use Rattle.replay.specs.Recorded.{word_into, words_into}
use Rattle.replay.proofs.cursor.Cursor.words.Given as goal

abbrev pub invariant-loop-i : goal.invariant-loop-i
invariant-loop-i l = record {
  room : length l.dst ≡ length l.fn.dst;
  read : words_into l.n l.fn.dst l.to l.fn.self.rest.now ≡ times (l.n - l.i) (λ (j : ℕ) (x : List ℕ). word_into x (l.to + j)) l.i l.dst l.self.rest.now;
}
