use Rattle.std.proofs.Common.{◌≡◌, ◌+◌, ◌*◌, ◌-◌, length}
use Rattle.std.proofs.lemmas.List.Edits.{sets}
use Rattle.nodes.specs.Nodes.{words, nodes_at}
use Rattle.nodes.proofs.move_each.Given as goal

abbrev pub invariant-loop-i : goal.invariant-loop-i
invariant-loop-i l =
    (length l.t ≡ length l.initial.t)
    × (l.t ≡ sets l.initial.t (l.to + 2 * l.i) (words (nodes_at l.initial.t (l.from + 2 * l.i) (l.n - l.i))))
