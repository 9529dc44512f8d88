use Rattle.std.proofs.Common.{arith}
use Rattle.drafting.proofs.Outcomes.{sheet-fits}
use Rattle.drafting.proofs.Desk.draft_out.Goals as goal

pub put_sheet-requires : goal.put_sheet-requires
put_sheet-requires g c = let h = sheet-fits c.in-Ok.ensures.drafted in omega arith
