use Rattle.std.proofs.Common.{◌≡◌}
use Rattle.std.proofs.lemmas.List.Edits.{sets}
use Rattle.spelling.specs.Text.{field_text}
use Rattle.columns.proofs.write_field.Given as goal

-- what is left to write is what was to be written
abbrev pub invariant-loop-i : goal.invariant-loop-i
invariant-loop-i l = sets l.out l.at (field_text l.i l.rest) ≡ sets l.initial.out l.at (field_text l.w l.initial.rest)
