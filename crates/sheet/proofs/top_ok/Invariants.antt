use Rattle.std.proofs.Common.{◌≡◌, ◌-◌, [], ◌∷◌, length, drop}
use Rattle.grammar.specs.Grammar.{entries}
use Rattle.sheet.specs.Rows.{rows}
use Rattle.sheet.specs.Fit.{forms}
use Rattle.sheet.proofs.top_ok.Given as goal

abbrev pub invariant-loop-entry : goal.invariant-loop-entry
invariant-loop-entry l = forms (drop l.at (rows l.d)) (entries l.kind l.last ∷ []) ≡ forms (rows l.d) (entries 1 0 ∷ [])

abbrev pub decreases-loop-entry : goal.decreases-loop-entry
decreases-loop-entry l = length (rows l.d) - l.at
