use mathlib.Core.Path.{refl}
use Rattle.exports.proofs.Sizes.{report-words}
use Rattle.exports.proofs.kirvoghus_report_words.Goals as goal

pub returns : goal.returns
returns c = report-words c.args.limit refl
