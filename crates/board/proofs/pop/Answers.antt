use Rattle.std.proofs.Common.{◌*◌, ◌-◌, add-zero, arith}
use Rattle.sizes.specs.Sizes.{board_stride}
use Rattle.board.specs.Board.{top_of}
use Rattle.board.proofs.Stacks.{top-size}
use Rattle.board.proofs.pop.Goals as goal

pub overflow_sub-n : goal.overflow_sub-n
overflow_sub-n c = let p = c.requires in
    let s = top-size p.0 p.1 in
    omega arith

pub returns : goal.returns
unfolding top_of
returns c = let a = c.args in
    rw (c.wide-left.ensures, c.wide-right.ensures, add-zero (board_stride * (a.b.entries - 1)))
