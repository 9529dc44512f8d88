use Rattle.wording.proofs.Laws.{then_put}
use Rattle.sentences.proofs.put_ended.Goals as goal

pub returns : goal.returns
returns c = then_put c.put.ensures (then_put c.put_counted.ensures c.put_counted-2.ensures)
