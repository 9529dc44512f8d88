use Rattle.std.proofs.Common.{◌≡◌, arith}
use Rattle.columns.specs.Columns.{width, column}
use Rattle.columns.proofs.Laws.{width_small, width-digits}
use Rattle.columns.proofs.write_column.Goals as goal

pub returns : goal.returns
unfolding column
returns c = let h = width_small c.args.n in
    let e : c.max-w.result ≡ width c.args.n = width-digits c.args.n _ _ c.digit_count.ensures c.max-w.ensures in
    record { text = rw e at c.write_field.ensures; next = rw e; near = omega arith }
