use Rattle.columns.proofs.Laws.{digits-log}
use Rattle.columns.proofs.digit_count.Goals as goal

pub returns : goal.returns
returns c = digits-log c.args.n c.max.result c.ilog10.result c.max.ensures c.ilog10.ensures.bound c.ilog10.ensures.power_le c.ilog10.ensures.next_power_gt
