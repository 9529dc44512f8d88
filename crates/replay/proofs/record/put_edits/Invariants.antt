use Rattle.std.proofs.Common.{◌≡◌, ℕ, ◌-◌, List, length}
use Rattle.replay.specs.Parsing.{times}
use Rattle.replay.specs.Recorded.{edits_into, edit_into}
use Rattle.replay.proofs.record.put_edits.Given as goal

abbrev pub invariant-loop : goal.invariant-loop
invariant-loop l = record {
  room : length l.sheet ≡ length l.fn.sheet;
  read : edits_into l.n l.bytes l.fn.sheet l.fn.line.rest.now ≡ times (l.n - l.counter) (λ (j : ℕ) (x : List ℕ). edit_into l.bytes x) l.counter l.sheet l.line.rest.now;
}
