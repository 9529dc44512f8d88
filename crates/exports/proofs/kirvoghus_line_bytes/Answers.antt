use Rattle.exports.proofs.Sizes.{one_line}
use Rattle.exports.proofs.kirvoghus_line_bytes.Goals as goal

pub returns : goal.returns
returns c = one_line
