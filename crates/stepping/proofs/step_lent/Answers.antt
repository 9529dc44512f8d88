use Rattle.stepping.proofs.Stepping.{step-asks, step-reached}
use Rattle.stepping.proofs.step_lent.Goals as goal

pub solve_judgment-q-requires : goal.solve_judgment-q-requires
solve_judgment-q-requires c = step-asks c.requires c.args.kept.strict _ c.pop-o.ensures

pub returns : goal.returns
returns c = let e = step-reached c.requires c.args.kept.strict _ c.pop-o.ensures c.solve_judgment-q.ensures in
    rw c.kept_of.ensures e
