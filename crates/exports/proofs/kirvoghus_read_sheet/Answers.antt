use Rattle.std.proofs.Common.{rules, sym, ap, ◌∙◌, arith}
use Rattle.grammar.specs.Check.{check, check_number, check_line}
use Rattle.grammar.proofs.Lines.{line_small}
use Rattle.exports.proofs.kirvoghus_read_sheet.Goals as goal

pub overflow_cast-line : goal.overflow_cast-line
overflow_cast-line c =
    let h = line_small c.args.sheet.now in
    let e = ap check_line (sym c.in-Err.is ∙ c.check_sheet.ensures) in
    let l = c.line.ensures in
    search rules

pub returns-in-Ok : goal.returns-in-Ok
returns-in-Ok c = let e = sym c.in-Ok.is ∙ c.check_sheet.ensures in (ap check_number e, ap check_line e)

pub returns-in-Err : goal.returns-in-Err
returns-in-Err c = let e = sym c.in-Err.is ∙ c.check_sheet.ensures in (c.number.ensures ∙ ap check_number e, c.line.ensures ∙ ap check_line e)
