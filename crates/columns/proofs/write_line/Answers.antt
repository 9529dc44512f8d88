use Rattle.columns.proofs.Laws.{line-written}
use Rattle.columns.proofs.write_line.Goals as goal

pub returns : goal.returns
returns c = line-written c.args.t _ _ _ _ _ c.write_field.ensures c.write_field-2.ensures c.write_field-3.ensures
