use Rattle.std.proofs.Common.{◌≡◌, List, ℕ, ◌-◌, take, drop}
use Rattle.sheet.specs.Rows.{rows, put_binders}
use Rattle.sheet.specs.Binders.{TellsPlaces}
use Rattle.sheet.proofs.set_binders.Given as goal

abbrev pub invariant-loop-i : goal.invariant-loop-i
invariant-loop-i l =
    let ls = rows l.initial.d in
    (rows l.d ≡ ls) × ((xs : List ℕ) → TellsPlaces l.last l.first xs → put_binders l.d l.i xs (take (l.end - l.i) (drop l.i ls)) ≡ put_binders l.initial.d l.first xs (take (l.end - l.first) (drop l.first ls)))
