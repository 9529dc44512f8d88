use Rattle.std.proofs.Common.{rules}
use Rattle.ending.specs.Ending.{report_end}
use Rattle.ending.proofs.report_end.Goals as goal

pub returns-in_default : goal.returns-in_default
unfolding report_end
returns-in_default c = search rules

pub returns : goal.returns
unfolding report_end
returns c = search rules
