use Rattle.nodes.specs.Nodes.{nodes_at}
use Rattle.inference.proofs.infer_lit_int.Goals as goal

pub returns : goal.returns
unfolding nodes_at
returns c = λ E. c.push_sub.ensures.2
