use Rattle.std.proofs.Common.{◌≡◌, ◌-◌}
use Rattle.sheet.specs.Rows.{linked_from, linked}
use Rattle.sheet.proofs.linked_line.Given as goal

abbrev pub invariant-loop : goal.invariant-loop
invariant-loop l = linked_from (l.lines - l.counter) l.s l.kind l.name l.at ≡ linked l.s l.kind l.name
