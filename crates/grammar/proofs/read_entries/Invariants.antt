use Rattle.std.proofs.Common.{◌≡◌, [], ◌∷◌, ◌-◌, ◌/◌, ◌≤◌, length}
use Rattle.sizes.specs.Sizes.{line_length}
use Rattle.grammar.specs.Grammar.{entries, read_at}
use Rattle.grammar.proofs.read_entries.Given as goal

abbrev pub invariant-loop-t : goal.invariant-loop-t
invariant-loop-t l = record {
  within : l.next ≤ length l.s / line_length;
  rest : read_at l.s (entries l.kind_before l.name_before ∷ []) l.next ≡ read_at l.s (entries l.k l.last ∷ []) l.at;
}

abbrev pub decreases-loop-t : goal.decreases-loop-t
decreases-loop-t l = length l.s / line_length - l.next
