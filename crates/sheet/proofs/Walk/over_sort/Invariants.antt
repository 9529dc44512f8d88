use Rattle.std.proofs.Common.{◌≡◌, List, ◌-◌, ◌≤◌, replicate}
use Rattle.spelling.specs.declared.Triple.{Triple}
use Rattle.grammar.specs.Grammar.{part}
use Rattle.sheet.specs.Rows.{HeldFrom}
use Rattle.sheet.specs.Fit.{walked_over}
use Rattle.sheet.proofs.Walk.over_sort.Given as goal

abbrev pub invariant-loop : goal.invariant-loop
invariant-loop l =
    let from = l.fn.from in
    (ls : List Triple) → HeldFrom ls l.self.sheet.now l.self.lines from.line
    → (from.line ≤ l.line) × (walked_over ls l.line l.fits (replicate (l.n - l.counter) (part l.sort)) ≡ walked_over ls from.line from.fits (replicate l.n (part l.sort)))
