use Rattle.std.proofs.Common.{◌≡◌, ◌+◌, length, drop}
use Rattle.std.proofs.lemmas.List.Edits.{sets}
use Rattle.columns.specs.Columns.{columns_text, answer_text}
use Rattle.columns.proofs.write_answer.Given as goal

-- what is left to write is what was to be written
abbrev pub invariant-loop-n : goal.invariant-loop-n
invariant-loop-n l = record {
  text : sets l.out l.end (columns_text (drop l.n-index l.n-items)) ≡ sets l.initial.out 0 (answer_text l.fn.a);
  bytes : l.end + length (columns_text (drop l.n-index l.n-items)) ≡ length (answer_text l.fn.a);
}
