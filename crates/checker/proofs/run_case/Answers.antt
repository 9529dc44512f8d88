use Rattle.std.proofs.Common.{arith}
use Rattle.stepping.proofs.Reading.{read-few}
use Rattle.checker.proofs.run_case.Goals as goal

pub case_with-requires-2 : goal.case_with-requires-2
case_with-requires-2 c = let h = read-few c.requires.read.plan in (c.requires, λ _. (omega arith, omega arith, omega arith), omega arith)
