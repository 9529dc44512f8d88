use Rattle.wording.proofs.Laws.{then_put}
use Rattle.sentences.proofs.put_instantiation.Goals as goal

pub returns : goal.returns
returns c = then_put c.put_numbered.ensures (then_put c.put_type.ensures c.put.ensures)
