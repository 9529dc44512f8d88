use Rattle.wording.proofs.Laws.{then_put}
use Rattle.sentences.proofs.put_counted.Goals as goal

pub returns : goal.returns
returns c = then_put c.put_number.ensures c.put_either.ensures
