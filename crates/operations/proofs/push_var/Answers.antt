use Rattle.std.proofs.Common.{refl}
use Rattle.nodes.specs.Nodes.{nodes_at}
use Rattle.board.specs.Board.{entry_of}
use Rattle.operations.proofs.Entries.{one_type}
use Rattle.operations.proofs.push_var.Goals as goal

pub push-requires : goal.push-requires
unfolding entry_of
push-requires c = let p = c.requires in one_type 2 _ (λ ls t u. refl) p.0 p.1

pub returns : goal.returns
unfolding entry_of nodes_at
returns c = c.push.ensures
