use Rattle.std.proofs.Common.{length-set}
use Rattle.replay.specs.Recorded.{word_into}
use Rattle.replay.proofs.Numbers.{times_more}
use Rattle.replay.proofs.cursor.Cursor.words.Goals as goal

pub loop-i-preserved : goal.loop-i-preserved
unfolding word_into
loop-i-preserved c = let v = c.loop-i.invariant in
    record { room = simp length-set v.room; read = times_more _ _ _ _ _ _ _ _ v.read c.loop-i-test.true (rw c.in_ok-dst.ensures) }
