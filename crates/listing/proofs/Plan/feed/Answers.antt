use Rattle.std.proofs.Common.{sym, ◌∙◌, arith}
use Rattle.listing.proofs.Laws.{fed-again, fed-done}
use Rattle.listing.proofs.Plan.feed.Goals as goal

pub loop-byte-preserved : goal.loop-byte-preserved
loop-byte-preserved c = fed-again _ _ _ c.loop-byte-test.true c.step.ensures ∙ c.loop-byte.invariant

pub returns : goal.returns
returns c = sym (fed-done c.args.block.now c.loop-byte.byte-index _ (omega arith)) ∙ c.loop-byte.invariant
