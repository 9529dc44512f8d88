use Rattle.std.proofs.Common.{◌∙◌}
use Rattle.replay.proofs.Numbers.{times_more}
use Rattle.replay.proofs.record.put_edits.Goals as goal

pub loop-preserved : goal.loop-preserved
loop-preserved c = let v = c.loop.invariant in
    record { room = c.put_edit.auto.sheet ∙ v.room; read = times_more _ _ _ _ _ _ _ _ v.read c.loop-test.true c.in_ok-put_edit.ensures }
