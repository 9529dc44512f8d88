use Rattle.std.proofs.Common.{◌≡◌, ◌≤◌, ◌-◌, length}
use Rattle.board.specs.Board.{from_line}
use Rattle.nodes.specs.Nodes.{nodes_at}
use Rattle.sheet.specs.Rows.{rows}
use Rattle.arms.specs.Arms.{NarrowArms}
use Rattle.arms.proofs.Bodies.{Arms}
use Rattle.arms.specs.Rooms.{room, arms_room}
use Rattle.arms.proofs.check_arms.Given as goal

abbrev pub invariant-loop : goal.invariant-loop
invariant-loop l = Arms (rows l.s) l.u (nodes_at l.t l.ta l.tn) l.initial.board l.initial.run l.n (from_line (rows l.s) l.line) l.board l.run (l.n - l.counter) l.at × (l.at ≤ length (rows l.s)) × NarrowArms (l.n - l.counter) (from_line (rows l.s) l.at)
    × (arms_room (rows l.s) l.u (nodes_at l.t l.ta l.tn) (l.n - l.counter) l.at (room l.run l.w l.v l.l l.r) ≡ arms_room (rows l.s) l.u (nodes_at l.t l.ta l.tn) l.n l.line (room l.initial.run l.initial.w l.initial.v l.initial.l l.initial.r))
