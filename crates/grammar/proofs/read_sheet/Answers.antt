use Rattle.std.proofs.Common.{Ok, Err, ◌≡◌, ap, sym, ◌∙◌, arith, eq-eqb, ne_eqb}
use Rattle.std.proofs.lemmas.Result.{err_from_is_err_and}
use Rattle.grammar.specs.Grammar.{unfit}
use Rattle.grammar.specs.Check.{read_sheet}
use Rattle.grammar.proofs.Steps.{ends-within}
use Rattle.grammar.proofs.read_sheet.Goals as goal

pub returns-in_err-end : goal.returns-in_err-end
unfolding read_sheet
returns-in_err-end c =
    let p = err_from_is_err_and c.from_residual.result c.from_residual.ensures.1 in
    let q : unfit c.read_entries.result ≡ Err c.in_err-end.field-0.0 = grind arith in
    rw (p.1, p.2, ← c.read_entries.ensures, q)

pub overflow_add-result : goal.overflow_add-result
overflow_add-result c =
    let r : c.read_entries.result ≡ Ok c.in_ok-end.end = grind arith in
    let w = ends-within c.args.s.now _ 0 (omega arith) (sym (ap unfit r) ∙ c.read_entries.ensures) in
    omega arith

pub returns-then-end-s : goal.returns-then-end-s
unfolding read_sheet
returns-then-end-s c =
    let r : c.read_entries.result ≡ Ok c.in_ok-end.end = grind arith in
    rw (← c.read_entries.ensures, r, ne_eqb _ _ c.if-end-s.true)

pub returns : goal.returns
unfolding read_sheet
returns c =
    let r : c.read_entries.result ≡ Ok c.in_ok-end.end = grind arith in
    rw (← c.read_entries.ensures, r, eq-eqb _ _ c.if-end-s.false)
