use Rattle.std.proofs.Common.{◌≡◌, ◌+◌, ◌*◌, ◌-◌, ◌≤◌, length}
use Rattle.std.proofs.lemmas.List.Edits.{sets}
use Rattle.nodes.specs.Nodes.{words, nodes_at}
use Rattle.nodes.proofs.move_up.Given as goal

abbrev pub invariant-loop-left : goal.invariant-loop-left
invariant-loop-left l = (l.left ≤ l.n) × (length l.t ≡ length l.initial.t) × (l.t ≡ sets l.initial.t (l.to + 2 * l.left) (words (nodes_at l.initial.t (l.from + 2 * l.left) (l.n - l.left))))

abbrev pub decreases-loop-left : goal.decreases-loop-left
decreases-loop-left l = l.left
