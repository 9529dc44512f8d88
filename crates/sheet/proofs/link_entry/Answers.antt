use Rattle.std.proofs.Common.{length-set, arith}
use Rattle.sheet.proofs.Links.{link-new, link-old}
use Rattle.sheet.proofs.link_entry.Goals as goal

pub bounds-d-lines-then-is_none-2 : goal.bounds-d-lines-then-is_none-2
bounds-d-lines-then-is_none-2 c = let m = c.slot_of-slot.ensures.1 in simp length-set (omega arith)

pub returns-then-is_none : goal.returns-then-is_none
returns-then-is_none c = link-new c.args.d.now c.args.at c.triple_at-t.ensures c.linked_line.ensures c.is_none.ensures c.if-is_none.true c.slot_of-slot.ensures.0

pub returns-else-is_none : goal.returns-else-is_none
returns-else-is_none c = link-old c.args.d.now c.args.at c.triple_at-t.ensures c.linked_line.ensures c.is_none.ensures c.if-is_none.false
