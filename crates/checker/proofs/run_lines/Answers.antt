use Rattle.std.proofs.Common.{rules}
use Rattle.checker.proofs.run_lines.Goals as goal

pub whole_as_front-run_rows : goal.whole_as_front-run_rows
whole_as_front-run_rows g c = let h = c.requires in search rules
