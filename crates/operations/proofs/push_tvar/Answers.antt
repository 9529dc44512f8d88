use Rattle.operations.proofs.Entries.{no-type, tvar-pushes}
use Rattle.operations.proofs.push_tvar.Goals as goal

pub push-requires : goal.push-requires
push-requires c = let p = c.requires in no-type _ _ p.1 p.0

pub returns : goal.returns
returns c = tvar-pushes _ _ _ _ _ _ _ c.requires.1 c.push.ensures
