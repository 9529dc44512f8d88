use Rattle.std.proofs.Common.{◌≡◌, ◌-◌, length}
use Rattle.sheet.specs.Rows.{rows, link_all}
use Rattle.sheet.proofs.Declarations.{from}
use Rattle.sheet.proofs.Links.{Linking}
use Rattle.sheet.proofs.link_entries.Given as goal

abbrev pub invariant-loop-entry : goal.invariant-loop-entry
invariant-loop-entry l = let ls = rows l.initial.d in Linking ls l.d l.at × (link_all l.d (from ls l.at) ≡ link_all l.initial.d (from ls 0))

abbrev pub decreases-loop-entry : goal.decreases-loop-entry
decreases-loop-entry l = length (rows l.initial.d) - l.at
