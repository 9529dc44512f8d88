use Rattle.std.proofs.Common.{sym}
use Rattle.sheet.proofs.RowLaws.{length-rows}
use Rattle.sheet.proofs.line_count.Goals as goal

pub returns : goal.returns
returns c = sym (length-rows _)
