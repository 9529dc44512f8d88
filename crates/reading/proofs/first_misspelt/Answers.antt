use Rattle.std.proofs.Common.{is_some, rules, sym, ap, ◌∙◌, arith}
use Rattle.spelling.proofs.Laws.{first-start, first-again, first-here, first-none}
use Rattle.reading.proofs.first_misspelt.Goals as goal

pub loop-i-init : goal.loop-i-init
loop-i-init c = (search rules, first-start c.args.s.now _ (search rules))

pub loop-i-preserved : goal.loop-i-preserved
loop-i-preserved c =
    let t = c.loop-i-test.true in
    let read = c.next_of_sheet-read.ensures in
    rw read.1 (omega arith, first-again c.args.s.now c.loop-i.i _ t (ap is_some (sym read.0) ∙ c.if-is_none.ensures) ∙ c.loop-i.invariant.1)

pub returns-then-is_none : goal.returns-then-is_none
returns-then-is_none c =
    first-here c.args.s.now c.loop-i.i _ c.loop-i-test.true (ap is_some (sym c.next_of_sheet-read.ensures.0) ∙ c.if-is_none.ensures)
    ∙ c.loop-i.invariant.1

pub returns : goal.returns
returns c = first-none c.args.s.now c.loop-i.i _ (omega arith) ∙ c.loop-i.invariant.1
