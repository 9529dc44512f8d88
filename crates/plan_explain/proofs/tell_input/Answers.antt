use Rattle.std.proofs.Common.{◌∙◌, arith}
use Rattle.plan_explain.proofs.Telling.{telling}
use Rattle.plan_explain.proofs.tell_input.Goals as goal

pub returns : goal.returns
returns c =
    let report = c.check_type-answer.auto.report ∙ c.requires.0 in
    let h = c.in_ok-n.ensures.ends.1 in
    let k = c.in_ok-n.ensures.bytes in
    (c.in_ok-n.ensures.bytes, (c.in_ok-n.n, omega arith, telling c.check_type-answer.ensures report c.requires.1 c.explain-end.ensures))
