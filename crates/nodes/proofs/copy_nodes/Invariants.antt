use Rattle.std.proofs.Common.{◌≡◌, length}
use Rattle.std.proofs.lemmas.List.Edits.{sets}
use Rattle.nodes.specs.Nodes.{words, nodes_at}
use Rattle.nodes.proofs.copy_nodes.Given as goal

abbrev pub invariant-loop-i : goal.invariant-loop-i
invariant-loop-i l = (length l.dst ≡ length l.initial.dst) × (l.dst ≡ sets l.initial.dst l.at (words (nodes_at l.src l.from l.i)))
