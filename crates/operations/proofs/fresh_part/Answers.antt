use Rattle.std.proofs.Common.{◌∙◌, ap}
use Rattle.judgment.specs.Board.{splits}
use Rattle.operations.specs.State.{makes}
use Rattle.operations.proofs.Latch.{level-returns}
use Rattle.operations.proofs.fresh_part.Goals as goal

pub returns : goal.returns
returns c = let a = c.args in
    let e = c.fresh_level.ensures in
    level-returns (splits a.x) c.requires.1 e.0 (e.1 ∙ ap (makes a.book.now a.c) c.level-m.ensures)
