use Rattle.std.proofs.Common.{rules, arith, sym, ◌∙◌}
use Rattle.std.proofs.lemmas.Bool.{false≢true}
use Rattle.checker.proofs.Reading.{typed-asks}
use Rattle.checker.proofs.run_with.Goals as goal

pub run_case-requires : goal.run_case-requires
run_case-requires g c = typed-asks c.requires.0 (search rules) (search rules) (search rules)

pub case_with-requires : goal.case_with-requires
case_with-requires g c = (typed-asks c.requires.0 (search rules) (search rules) (search rules), λ e. absurd (false≢true (sym c.if-has_case.false ∙ c.has_case.ensures ∙ e)), omega arith)
