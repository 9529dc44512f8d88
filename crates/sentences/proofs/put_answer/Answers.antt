use Rattle.sentences.specs.Explained.{explained}
use Rattle.sentences.proofs.put_answer.Goals as goal

pub returns-in-0 : goal.returns-in-0
unfolding explained
returns-in-0 c = rw c.in-0.is c.put_ended.ensures

pub returns-in-1 : goal.returns-in-1
unfolding explained
returns-in-1 c = rw c.in-1.is c.put.ensures

pub returns-in-2 : goal.returns-in-2
unfolding explained
returns-in-2 c = rw c.in-2.is c.put-in-2.ensures

pub returns-in-3 : goal.returns-in-3
unfolding explained
returns-in-3 c = rw c.in-3.is c.put-in-3.ensures

pub returns-in-4 : goal.returns-in-4
unfolding explained
returns-in-4 c = rw c.in-4.is c.put_numbered.ensures

pub returns-in-5 : goal.returns-in-5
unfolding explained
returns-in-5 c = rw c.in-5.is c.put_numbered-in-5.ensures
