use Rattle.subtyping.proofs.push_on.Goals as goal

pub returns-in-Left : goal.returns-in-Left
returns-in-Left c = rw c.in-Left.is c.push_sub.ensures.2

pub returns-in-Right : goal.returns-in-Right
returns-in-Right c = rw c.in-Right.is c.push_sub-in-Right.ensures.2
