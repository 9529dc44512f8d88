use Rattle.sheet.specs.Rows.{rows}
use Rattle.patterns.specs.Readings.{Reading}
use Rattle.patterns.specs.Rooms.{rooms}
use Rattle.patterns.proofs.Rooms.{Roomed}
use Rattle.patterns.proofs.check_pattern.Given as goal

abbrev pub invariant-loop-i : goal.invariant-loop-i
invariant-loop-i l = Reading l.initial.board l.initial.run (rows l.s) l.first l.lines l.u l.board l.run l.w l.n l.v l.j l.i
    × Roomed (rows l.s) l.first l.lines (rooms l.initial.run l.initial.w l.initial.n l.initial.v l.initial.j l.initial.l l.initial.r) (rooms l.run l.w l.n l.v l.j l.l l.r) l.i
