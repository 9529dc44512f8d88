use Rattle.std.proofs.Common.{◌≡◌, ◌+◌, ◌*◌, ◌-◌}
use Rattle.std.proofs.lemmas.List.Edits.{sets}
use Rattle.nodes.specs.Nodes.{words}
use Rattle.constructors.specs.Opening.{open_lines}
use Rattle.constructors.proofs.apply_type_substitutions.Given as goal

abbrev pub invariant-loop-i : goal.invariant-loop-i
invariant-loop-i l = sets l.initial.out 0 (words (open_lines l.s l.base l.line l.n)) ≡ sets l.out (2 * l.i) (words (open_lines l.s l.base (l.line + l.i) (l.n - l.i)))
