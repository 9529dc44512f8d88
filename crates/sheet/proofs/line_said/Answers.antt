use Rattle.std.proofs.Common.{sym, ap, ◌∙◌, unwrap_or}
use Rattle.spelling.proofs.Few.{few-spelt}
use Rattle.sheet.specs.Plan.{no_triple, triple_of}
use Rattle.sheet.proofs.Lines.{triple-is, line-said}
use Rattle.sheet.proofs.line_said.Goals as goal

pub returns-in-Some : goal.returns-in-Some
returns-in-Some c =
    let a = c.args in
    sym (triple-is a.s.now a.i ∙ ap triple_of (few-spelt a.s.now a.i c.in-Some.t (sym c.few_at.ensures ∙ c.in-Some.is)))

pub returns-in-None : goal.returns-in-None
returns-in-None c = c.unwrap_or.ensures ∙ ap (λ l. unwrap_or l no_triple) c.line_at.ensures ∙ line-said c.args.s.now c.args.i
