use Rattle.std.proofs.Common.{arith}
use Rattle.wording.proofs.Laws.{number-back}
use Rattle.wording.proofs.Text.put_number.Goals as goal

pub returns : goal.returns
returns c = rw (number-back _ _ c.args.n _ c.digit_count-w.ensures (omega arith) c.write_field.ensures) at c.put.ensures
