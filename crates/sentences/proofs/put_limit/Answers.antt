use Rattle.sentences.specs.Explained.{of_limit}
use Rattle.sentences.proofs.put_limit.Goals as goal

pub returns-in-21 : goal.returns-in-21
unfolding of_limit
returns-in-21 c = rw c.in-21.is c.put_ended.ensures

pub returns-in-22 : goal.returns-in-22
unfolding of_limit
returns-in-22 c = rw c.in-22.is c.put_ended-in-22.ensures

pub returns-in-23 : goal.returns-in-23
unfolding of_limit
returns-in-23 c = rw c.in-23.is c.put_ended-in-23.ensures

pub returns-in-24 : goal.returns-in-24
unfolding of_limit
returns-in-24 c = rw c.in-24.is c.put_ended-in-24.ensures

pub returns-in-25 : goal.returns-in-25
unfolding of_limit
returns-in-25 c = rw c.in-25.is c.put_ended-in-25.ensures

pub returns-in-39 : goal.returns-in-39
unfolding of_limit
returns-in-39 c = rw c.in-39.is c.put_ended-in-39.ensures
