use Rattle.exports.proofs.Sizes.{highest}
use Rattle.exports.proofs.kirvoghus_ceiling.Goals as goal

pub returns : goal.returns
returns c = highest
