use Rattle.std.proofs.Common.{◌≡◌, ◌+◌, ◌*◌, ◌-◌, length, take, drop}
use Rattle.std.proofs.lemmas.List.Edits.{sets}
use Rattle.nodes.specs.Nodes.{words}
use Rattle.nodes.specs.Lists.{All}
use Rattle.sheet.specs.Plan.{nodes_of, Narrow}
use Rattle.sheet.specs.Rows.{rows}
use Rattle.sheet.proofs.copy_type.Given as goal

abbrev pub invariant-loop-i : goal.invariant-loop-i
invariant-loop-i l =
    let rest = take (l.n - l.i) (drop (l.first + l.i) (rows l.s)) in
    (length l.dst ≡ length l.initial.dst) × All Narrow rest × (sets l.initial.dst l.at (words (nodes_of (take l.n (drop l.first (rows l.s))))) ≡ sets l.dst (l.at + 2 * l.i) (words (nodes_of rest)))
