use Rattle.std.proofs.Common.{◌≡◌, ℕ, ◌-◌, ◌*◌, List, length}
use Rattle.sizes.specs.Sizes.{line_length}
use Rattle.replay.specs.Parsing.{times}
use Rattle.replay.specs.Recorded.{lines_into, line_into}
use Rattle.replay.proofs.record.sheet_lines.Given as goal

abbrev pub invariant-loop-i : goal.invariant-loop-i
invariant-loop-i l = record {
  room : length l.sheet ≡ length l.fn.sheet;
  read : lines_into l.n l.fn.sheet l.fn.line.rest.now ≡ times (l.n - l.i) (λ (j : ℕ) (x : List ℕ). line_into x (line_length * j)) l.i l.sheet l.line.rest.now;
}
