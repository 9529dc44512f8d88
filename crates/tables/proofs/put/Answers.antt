use Rattle.std.proofs.Common.{◌*◌, arith, length-set}
use Rattle.tables.proofs.Tables.{stored}
use Rattle.tables.proofs.put.Goals as goal

pub bounds-w-p-2 : goal.bounds-w-p-2
bounds-w-p-2 c = simp length-set (omega arith)

pub bounds-w-p-3 : goal.bounds-w-p-3
bounds-w-p-3 c = simp length-set (omega arith)

pub bounds-w-p-4 : goal.bounds-w-p-4
bounds-w-p-4 c = simp length-set (omega arith)

pub bounds-w-p-5 : goal.bounds-w-p-5
bounds-w-p-5 c = simp length-set (omega arith)

pub bounds-w-p-6 : goal.bounds-w-p-6
bounds-w-p-6 c = simp length-set (omega arith)

pub returns : goal.returns
returns c = stored c.args.w.now (6 * c.args.i) c.args.name c.args.r
