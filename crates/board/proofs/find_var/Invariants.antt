use Rattle.std.proofs.Common.{◌≡◌, ◌+◌, ◌*◌, ◌≤◌}
use Rattle.sizes.specs.Sizes.{most_nodes, board_base}
use Rattle.board.specs.Board.{nodes_below, var_place}
use Rattle.board.proofs.find_var.Given as goal

abbrev pub invariant-loop-i : goal.invariant-loop-i
invariant-loop-i l = (l.start ≡ board_base + 2 * nodes_below l.board l.i) × (nodes_below l.board l.i ≤ most_nodes) × (var_place l.name l.board l.fn.b.entries ≡ var_place l.name l.board l.i)
