use Rattle.std.proofs.Common.{sym, ◌∙◌}
use Rattle.book.proofs.Comparing.{alike-rooms, next-asks, first-skip, last-skip, skip-less, next-skip}
use Rattle.book.proofs.skip_same.Goals as goal

pub loop-d-init : goal.loop-d-init
loop-d-init c = first-skip c.requires

pub alike-requires : goal.alike-requires
alike-requires c = alike-rooms c.loop-d.invariant.sides

pub next_node-d-requires : goal.next_node-d-requires
next_node-d-requires c = next-asks c.loop-d.invariant.sides (sym c.alike.ensures ∙ c.loop-d-test.true) c.well_formed.1.0.0

pub loop-d-smaller : goal.loop-d-smaller
loop-d-smaller c = skip-less c.loop-d.invariant (sym c.alike.ensures ∙ c.loop-d-test.true) c.next_node-d.ensures

pub loop-d-preserved : goal.loop-d-preserved
loop-d-preserved c = next-skip c.loop-d.invariant (sym c.alike.ensures ∙ c.loop-d-test.true) c.next_node-d.ensures

pub returns : goal.returns
returns c = last-skip c.loop-d.invariant (sym c.alike.ensures ∙ c.loop-d-test.false)
