use Rattle.std.proofs.Common.{sym, ◌∙◌}
use Rattle.operations.proofs.Latch.{fresh-returns, made-run, full-run, halted-run}
use Rattle.operations.proofs.fresh_evar.Goals.{else-is_going-via-then-is_going+else-fresh-lt-NUMBERS, else-is_going-via-else-is_going}
use Rattle.operations.proofs.fresh_evar.Goals as goal

pub returns-then-fresh-lt-NUMBERS : goal.returns-then-fresh-lt-NUMBERS
returns-then-fresh-lt-NUMBERS c = fresh-returns _ _ (made-run _ (sym c.is_going.ensures ∙ c.if-is_going.true) c.if-fresh-lt-NUMBERS.true)

pub returns : goal.returns
returns c = fresh-returns _ _
    (elim c.else-is_going.branch [
      | else-is_going-via-then-is_going+else-fresh-lt-NUMBERS w ↦ full-run c.args.c (sym c.is_going.ensures ∙ w.if-is_going.true) w.if-fresh-lt-NUMBERS.false c.refuse.ensures.0
      | else-is_going-via-else-is_going w ↦ halted-run c.args.c (sym c.is_going.ensures ∙ w.if-is_going.false) c.refuse.ensures.0
    ])
