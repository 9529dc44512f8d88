use Rattle.wording.proofs.Pieces.{whole, reported-is}
use Rattle.wording.proofs.Text.put_type.Goals as goal

pub returns : goal.returns
returns c = let a = c.args in
    rw (reported-is a.report.now a.from a.n c.min-start.result c.min-end.result (rw c.wide.ensures at c.min-start.ensures) (rw (c.wide-2.ensures, c.wide-3.ensures) at c.min-end.ensures)) at (whole c.write_type-rest.ensures.reached)
