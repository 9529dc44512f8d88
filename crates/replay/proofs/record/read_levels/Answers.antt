use Rattle.std.proofs.Common.{length-set, arith}
use Rattle.std.proofs.Math.Nat.{sub-zero}
use Rattle.spelling.proofs.Tests.{tests}
use Rattle.replay.specs.Recorded.{word_into, all_levels, levels_into}
use Rattle.replay.proofs.Numbers.{times_more}
use Rattle.replay.proofs.record.read_levels.Goals as goal

pub loop-k-preserved : goal.loop-k-preserved
unfolding word_into
loop-k-preserved c = let v = c.loop-k.invariant in
    record { room = simp length-set v.room; read = times_more _ _ _ _ _ _ _ _ v.read c.loop-k-test.true (rw c.in_ok-want.ensures) }

pub loop-k-init : goal.loop-k-init
unfolding all_levels levels_into
loop-k-init c = let h = c.if-n-gt-MOST_NUMBERS.false in
    record { room = omega arith; read = simp (tests, sub-zero) }
