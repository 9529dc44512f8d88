use Rattle.std.proofs.Common.{◌≡◌, ◌-◌, take, drop}
use Rattle.sheet.specs.Rows.{rows, front_of}
use Rattle.sheet.specs.Binders.{put_names}
use Rattle.sheet.proofs.mark_front.Given as goal

abbrev pub invariant-loop-i : goal.invariant-loop-i
invariant-loop-i l = put_names l.last l.i (front_of (take (l.end - l.i) (drop l.i (rows l.s)))) ≡ put_names l.initial.last l.first (front_of (take (l.end - l.first) (drop l.first (rows l.s))))
