use Rattle.std.proofs.Common.{arith}
use Rattle.stepping.proofs.Reading.{read-few}
use Rattle.checker.proofs.run_read.Goals as goal

pub run_with-requires-2 : goal.run_with-requires-2
run_with-requires-2 c =
    let h = c.requires.limited in
    let f = read-few c.requires.plan in
    (c.requires, omega arith, omega arith, omega arith)
