use Rattle.std.proofs.Common.{◌∙◌}
use Rattle.replay.proofs.Numbers.{times_more}
use Rattle.replay.proofs.record.sheet_lines.Goals as goal

pub loop-i-preserved : goal.loop-i-preserved
loop-i-preserved c = let v = c.loop-i.invariant in
    record { room = c.sheet_line.auto.sheet ∙ v.room; read = times_more _ _ _ _ _ _ _ _ v.read c.loop-i-test.true c.in_ok-sheet_line.ensures }
