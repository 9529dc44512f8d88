use Rattle.std.proofs.Common.{sym, ap, ◌∙◌}
use Rattle.spelling.specs.Few.{plain}
use Rattle.spelling.proofs.Few.{both-spaces, space-between, after_two, lost_none, lost_zero}
use Rattle.spelling.proofs.last_four.Goals as goal

pub returns-then-bytes-eq32-2 : goal.returns-then-bytes-eq32-2
returns-then-bytes-eq32-2 c =
    c.last_two.ensures.number ∙ sym (ap plain (both-spaces c.args.bytes.now 0 c.if-bytes-eq32-2.true c.if-bytes-eq32.true))

pub returns-else-bytes-eq32-2 : goal.returns-else-bytes-eq32-2
returns-else-bytes-eq32-2 c = sym (space-between c.args.bytes.now 0 c.if-bytes-eq32-2.false c.if-bytes-eq32.true)

pub returns-in_err-n : goal.returns-in_err-n
returns-in_err-n c = c.from_residual.ensures ∙ lost_none c.args.bytes.now 0 c.if-bytes-eq32.false c.in_err-n.ensures.number

pub returns-in-0 : goal.returns-in-0
returns-in-0 c = lost_zero c.args.bytes.now 0 c.if-bytes-eq32.false (rw c.in-0.is at c.in_ok-n.ensures.number)

pub returns-in_default : goal.returns-in_default
returns-in_default c = c.two_more.ensures ∙ sym (after_two c.args.bytes.now 0 c.in_ok-n.n c.in_ok-n.ensures.number)
