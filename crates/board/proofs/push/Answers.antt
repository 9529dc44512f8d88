use Rattle.board.proofs.Stacks.{laid_by}
use Rattle.board.proofs.push.Goals as goal

pub returns : goal.returns
returns c = (laid_by _ _ _ _ _ _ _ _ _ _ _ _ _ c.lay-more.ensures.0 c.copy_nodes.ensures c.copy_nodes-2.ensures, c.lay-more.ensures.1)
