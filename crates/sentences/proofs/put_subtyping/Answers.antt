use Rattle.wording.proofs.Laws.{then_put}
use Rattle.sentences.proofs.put_subtyping.Goals as goal

pub returns : goal.returns
returns c = then_put c.put.ensures (then_put c.put_type.ensures (then_put c.put-2.ensures (then_put c.put_type-2.ensures c.put-3.ensures)))
