use Rattle.exports.proofs.Sizes.{highest-limit}
use Rattle.exports.proofs.kirvoghus_limit_most.Goals as goal

pub returns : goal.returns
returns c = highest-limit
