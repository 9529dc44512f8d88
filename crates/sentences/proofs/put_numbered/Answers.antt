use Rattle.wording.proofs.Laws.{then_put}
use Rattle.sentences.proofs.put_numbered.Goals as goal

pub returns : goal.returns
returns c = then_put c.put.ensures (then_put c.put_number.ensures c.put-2.ensures)
