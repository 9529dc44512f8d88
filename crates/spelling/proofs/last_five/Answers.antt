use Rattle.std.proofs.Common.{sym, ◌∙◌}
use Rattle.spelling.proofs.Few.{five-spaces}
use Rattle.spelling.proofs.last_five.Goals as goal

pub returns-then-are_spaces : goal.returns-then-are_spaces
returns-then-are_spaces c = c.last_two.ensures.number ∙ five-spaces c.args.bytes.now 0 (sym c.are_spaces.ensures ∙ c.if-are_spaces.true)
