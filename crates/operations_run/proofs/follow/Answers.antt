use Rattle.operations_run.proofs.Chaining.{follow-asks}
use Rattle.operations_run.proofs.follow.Goals as goal

pub compare-requires : goal.compare-requires
compare-requires c = let p = c.requires in rw c.new.ensures (follow-asks p.0.1 p.1)
