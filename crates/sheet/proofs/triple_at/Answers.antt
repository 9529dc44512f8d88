use Rattle.std.proofs.Common.{sym, ◌∙◌}
use Rattle.sheet.proofs.RowLaws.{row_is, row-none}
use Rattle.sheet.proofs.triple_at.Goals as goal

pub returns-then-i-s : goal.returns-then-i-s
returns-then-i-s c = c.row_triple.ensures ∙ sym (row_is c.args.s.now c.args.i c.if-i-s.true)

pub returns-else-i-s : goal.returns-else-i-s
returns-else-i-s c = sym (row-none c.args.s.now c.args.i c.if-i-s.false)
