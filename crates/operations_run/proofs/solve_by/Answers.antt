use Rattle.nodes.specs.Nodes.{nodes_at}
use Rattle.operations_run.proofs.solve_by.Goals as goal

pub returns : goal.returns
unfolding nodes_at
returns c = c.solve.ensures
