use Rattle.wording.specs.Spelt.{leaf}
use Rattle.wording.proofs.Laws.{then_put}
use Rattle.wording.proofs.Text.put_leaf.Goals as goal

pub returns-in-17 : goal.returns-in-17
unfolding leaf
returns-in-17 c = rw c.in-17.is (then_put c.put.ensures c.put_number.ensures)

pub returns-in-18 : goal.returns-in-18
unfolding leaf
returns-in-18 c = rw c.in-18.is (then_put c.put-in-18.ensures c.put_number-in-18.ensures)
