use Rattle.std.proofs.Common.{refl}
use Rattle.board.specs.Board.{entry_of}
use Rattle.operations.proofs.Entries.{two-types}
use Rattle.operations.proofs.push_sub.Goals as goal

pub push-requires : goal.push-requires
unfolding entry_of
push-requires c = let p = c.requires in two-types 3 _ (λ ls t u. refl) p.0 p.1 p.2

pub returns : goal.returns
unfolding entry_of
returns c = c.push.ensures
