use Rattle.std.proofs.Common.{refl}
use Rattle.nodes.specs.Nodes.{nodes_at}
use Rattle.board.specs.Board.{entry_of, term_at}
use Rattle.operations.proofs.Entries.{one_type}
use Rattle.operations.proofs.push_inf.Goals as goal

pub push-requires : goal.push-requires
unfolding entry_of term_at
push-requires c = let p = c.requires in one_type 4 _ (λ ls t u. refl) p.0 p.1

pub returns : goal.returns
unfolding entry_of nodes_at
returns c = c.push.ensures
