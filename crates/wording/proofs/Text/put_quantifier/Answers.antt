use Rattle.wording.specs.Spelt.{quantifier}
use Rattle.wording.proofs.Laws.{then_put}
use Rattle.wording.proofs.Text.put_quantifier.Goals as goal

pub returns : goal.returns
unfolding quantifier
returns c = then_put (rw c.as_bytes.ensures.value at c.put.ensures) (then_put c.put_name.ensures c.put-2.ensures)
