use Rattle.std.proofs.Common.{◌≡◌, ◌+◌, ◌-◌, ◌*◌, ◌/◌, ◌≤◌, length, replicate}
use Rattle.sizes.specs.Sizes.{line_length}
use Rattle.grammar.specs.Grammar.{part, arms, read_at}
use Rattle.grammar.proofs.+part.Given as goal

abbrev pub invariant-read_parts-loop : goal.invariant-read_parts-loop
invariant-read_parts-loop l = record {
  after : l.at ≤ l.next;
  within : l.next ≤ length l.s / line_length;
  rest : read_at l.s (replicate (l.count - l.counter) (part l.sort)) l.next ≡ read_at l.s (replicate l.count (part l.sort)) l.at;
}

abbrev pub invariant-read_arms-loop : goal.invariant-read_arms-loop
invariant-read_arms-loop l = record {
  after : l.at ≤ l.next;
  within : l.next ≤ length l.s / line_length;
  rest : read_at l.s (arms (l.count - l.counter)) l.next ≡ read_at l.s (arms l.count) l.at;
}

abbrev pub decreases-read_begun : goal.decreases-read_begun
decreases-read_begun l = 4 * (length l.s.now / line_length - l.at)

abbrev pub decreases-read_part : goal.decreases-read_part
decreases-read_part l = 4 * (length l.s.now / line_length - l.at) + 1

abbrev pub decreases-read_parts : goal.decreases-read_parts
decreases-read_parts l = 4 * (length l.s.now / line_length - l.at) + 2

abbrev pub decreases-read_arms : goal.decreases-read_arms
decreases-read_arms l = 4 * (length l.s.now / line_length - l.at) + 2

abbrev pub decreases-read_follow : goal.decreases-read_follow
decreases-read_follow l = 4 * (length l.s.now / line_length - l.at) + 3
