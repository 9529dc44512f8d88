use Rattle.inference.proofs.Written.{length-type_on, arrow-words}
use Rattle.inference.proofs.write_arrow.Goals as goal

pub returns : goal.returns
returns c = rw c.copy_type.ensures (arrow-words _ _ _ _ (length-type_on c.args.s.now c.args.first c.args.n c.requires.1.within))
