use Rattle.std.proofs.Common.{◌≡◌, ◌-◌, length}
use Rattle.sheet.specs.Rows.{rows, bind_all}
use Rattle.sheet.specs.Binders.{mark_all}
use Rattle.sheet.proofs.Declarations.{from}
use Rattle.sheet.proofs.Binding.{Binding}
use Rattle.sheet.proofs.bind_types.Given as goal

abbrev pub invariant-loop-entry : goal.invariant-loop-entry
invariant-loop-entry l =
    let ls = rows l.initial.d in
    Binding ls l.d l.last l.at × (bind_all ls l.d (from ls l.at) ≡ bind_all ls l.initial.d (from ls 0)) × (mark_all ls l.last (from ls l.at) ≡ mark_all ls l.initial.last (from ls 0))

abbrev pub decreases-loop-entry : goal.decreases-loop-entry
decreases-loop-entry l = length (rows l.initial.d) - l.at
