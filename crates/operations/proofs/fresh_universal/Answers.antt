use Rattle.judgment.specs.Board.{universal}
use Rattle.operations.proofs.Latch.{level-returns}
use Rattle.operations.proofs.fresh_universal.Goals as goal

pub returns : goal.returns
returns c = let e = c.fresh_level.ensures in level-returns universal tt e.0 e.1
