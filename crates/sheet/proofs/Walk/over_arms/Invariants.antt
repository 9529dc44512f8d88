use Rattle.std.proofs.Common.{◌≡◌, List, ◌-◌, ◌≤◌}
use Rattle.spelling.specs.declared.Triple.{Triple}
use Rattle.grammar.specs.Grammar.{arms}
use Rattle.sheet.specs.Rows.{HeldFrom}
use Rattle.sheet.specs.Fit.{walked_over}
use Rattle.sheet.proofs.Walk.over_arms.Given as goal

abbrev pub invariant-loop : goal.invariant-loop
invariant-loop l =
    let from = l.fn.from in
    (ls : List Triple) → HeldFrom ls l.self.sheet.now l.self.lines from.line
    → (from.line ≤ l.walked.line) × (walked_over ls l.walked.line l.walked.fits (arms (l.n - l.counter)) ≡ walked_over ls from.line from.fits (arms l.n))
