use Rattle.checker.proofs.Answering.{line_word}
use Rattle.std.proofs.Common.{rules}
use Rattle.checker.proofs.no_plan.Goals as goal

pub overflow_cast-line : goal.overflow_cast-line
overflow_cast-line c = let x = line_word c.args.s.now c.check_sheet.ensures c.in-Err.is in search rules
