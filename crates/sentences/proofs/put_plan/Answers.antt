use Rattle.sentences.specs.Explained.{of_plan}
use Rattle.sentences.proofs.put_plan.Goals as goal

pub returns-in-14 : goal.returns-in-14
unfolding of_plan
returns-in-14 c = rw c.in-14.is c.put_mismatch.ensures

pub returns-in-16 : goal.returns-in-16
unfolding of_plan
returns-in-16 c = rw c.in-16.is c.put.ensures

pub returns-in-18 : goal.returns-in-18
unfolding of_plan
returns-in-18 c = rw c.in-18.is c.put_mismatch-in-18.ensures

pub returns-in-19 : goal.returns-in-19
unfolding of_plan
returns-in-19 c = rw c.in-19.is c.put_named-in-19.ensures
