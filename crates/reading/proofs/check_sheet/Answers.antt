use Rattle.std.proofs.Common.{Result, ℕ, sym, ap, ◌∙◌}
use Rattle.grammar.specs.declared.SheetError.{SheetError}
use Rattle.grammar.specs.Check.{check, read_sheet, fitting, misspelt_first}
use Rattle.grammar.proofs.Lines.{plan-first}
use Rattle.reading.proofs.check_sheet.Goals as goal

pub returns-then-not-length_ok : goal.returns-then-not-length_ok
unfolding check
returns-then-not-length_ok c = rw (← c.if-not-length_ok.ensures)

pub returns-in-Ok : goal.returns-in-Ok
unfolding check
returns-in-Ok c =
    let s = c.args.s.now in
    let e = sym c.read_sheet.ensures ∙ c.in-Ok.is in
    rw (← c.if-not-length_ok.ensures) (sym (plan-first s _ e (fitting (read_sheet s)) ∙ ap fitting e))

pub returns-in-Err : goal.returns-in-Err
unfolding check
returns-in-Err c =
    let s = c.args.s.now in
    let e = sym c.read_sheet.ensures ∙ c.in-Err.is in
    rw (← c.if-not-length_ok.ensures) (c.refused_for.ensures ∙ sym (ap (λ (g : Result ℕ SheetError). misspelt_first s (fitting g)) e))
