use Rattle.exports.proofs.Sizes.{longest}
use Rattle.exports.proofs.kirvoghus_sheet_bytes.Goals as goal

pub returns : goal.returns
returns c = longest
