use Rattle.std.proofs.Common.{rules}
use Rattle.checker.proofs.Reading.{plan-asks, case-room}
use Rattle.checker.proofs.case_with.Goals as goal

pub whole_as_slice-check_plan : goal.whole_as_slice-check_plan
whole_as_slice-check_plan g c = let h = c.requires.2 in search rules

pub whole_as_slice-check_plan-2 : goal.whole_as_slice-check_plan-2
whole_as_slice-check_plan-2 g c = let h = c.requires.2 in search rules

pub whole_as_slice-check_plan-3 : goal.whole_as_slice-check_plan-3
whole_as_slice-check_plan-3 g c = let h = c.requires.2 in search rules

pub check_plan-requires : goal.check_plan-requires
check_plan-requires g c = plan-asks c.requires.0 (λ e. case-room (search rules) (search rules) (search rules) e)
