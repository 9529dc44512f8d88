use Rattle.std.proofs.Common.{refl, length-set}
use Rattle.book.specs.Book.{levels_written}
use Rattle.book.proofs.Levels.{written-turn}
use Rattle.book.proofs.write_levels.Goals as goal

pub loop-k-init : goal.loop-k-init
unfolding levels_written
loop-k-init c = (refl, refl)

pub loop-k-preserved : goal.loop-k-preserved
loop-k-preserved c = let v = c.loop-k.invariant in
    (simp length-set v.0, rw (c.wide.ensures, c.level.ensures) (written-turn _ _ _ v.1))
