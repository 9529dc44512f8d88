use mathlib.Core.Path.{◌≡◌}
use mathlib.Core.List.{map}
use Prim.Native.Nat.{◌-◌, ◌*◌, ◌/◌, ◌≤◌}
use lib.ListN.{length}
use lib.Seq.{sets}
use Rattle.sizes.specs.Sizes.{line_length, triple_words}
use Rattle.writing.specs.Writing.{triples_of, tame, sheet_text}
use Rattle.writing.proofs.Laws.{left}
use Rattle.writing.proofs.write_lines.Given as goal

abbrev pub invariant-loop-i : goal.invariant-loop-i
invariant-loop-i l = (l.i ≤ length l.triples / triple_words) × (length l.text ≡ length l.initial.text) × (sets l.text (line_length * l.i) (left l.triples l.i (length l.triples / triple_words)) ≡ sets l.initial.text 0 (sheet_text (map tame (triples_of l.triples))))
