use Rattle.wording.proofs.Laws.{then_put}
use Rattle.sentences.proofs.put_not_function.Goals as goal

pub returns : goal.returns
returns c = then_put c.put.ensures (then_put c.put_type.ensures c.put-2.ensures)
