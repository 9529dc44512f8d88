use Rattle.std.proofs.Common.{arith}
use Rattle.operations.proofs.Then.{kept-board}
use Rattle.subtyping.proofs.Parts.{counts, firsts, rests, parts-pushed, FirstPushed}
use Rattle.subtyping.proofs.push_parts.Goals.{then-cross, else-cross}
use Rattle.subtyping.proofs.push_parts.Goals as goal

pub overflow_mul-lm : goal.overflow_mul-lm
overflow_mul-lm c = let s = counts c.requires c.first_part-a.ensures c.first_part-b.ensures in omega (arith, c.requires.left, c.requires.right)

pub overflow_add-lm : goal.overflow_add-lm
overflow_add-lm c = let s = counts c.requires c.first_part-a.ensures c.first_part-b.ensures in omega (arith, c.requires.left, c.requires.right)

pub overflow_mul-rm : goal.overflow_mul-rm
overflow_mul-rm c = let s = counts c.requires c.first_part-a.ensures c.first_part-b.ensures in omega (arith, c.requires.left, c.requires.right)

pub overflow_add-rm : goal.overflow_add-rm
overflow_add-rm c = let s = counts c.requires c.first_part-a.ensures c.first_part-b.ensures in omega (arith, c.requires.left, c.requires.right)

pub overflow_sub-lk : goal.overflow_sub-lk
overflow_sub-lk c = (counts c.requires c.first_part-a.ensures c.first_part-b.ensures).0

pub overflow_sub-rk : goal.overflow_sub-rk
overflow_sub-rk c = (counts c.requires c.first_part-a.ensures c.first_part-b.ensures).1

pub push_sub-c1-requires : goal.push_sub-c1-requires
push_sub-c1-requires c = let s = firsts c.requires c.first_part-a.ensures c.first_part-b.ensures in (c.requires.formed.1.board, s.1, s.0)

pub push_sub-c1-requires-else-cross : goal.push_sub-c1-requires-else-cross
push_sub-c1-requires-else-cross c = let s = firsts c.requires c.first_part-a.ensures c.first_part-b.ensures in (c.requires.formed.1.board, s.0, s.1)

pub push_sub-requires : goal.push_sub-requires
push_sub-requires c =
    let a = c.args in
    let d : FirstPushed a.board.now a.c a.t.now a.la a.ra c.first_part-a.result c.first_part-b.result a.cross c.if-cross.board c.if-cross.c1 =
    elim c.if-cross.branch [
      | then-cross w ↦ rw (w.if-cross.true, w.board-is, w.c1-is) w.push_sub-c1.ensures.2
      | else-cross w ↦ rw (w.if-cross.false, w.board-is, w.c1-is) w.push_sub-c1-else-cross.ensures.2
    ] in
    let s = rests c.requires c.first_part-a.ensures c.first_part-b.ensures in
    ((kept-board d c.requires.formed.1).board, s.0, s.1)

pub returns : goal.returns
returns c =
    let a = c.args in
    let d : FirstPushed a.board.now a.c a.t.now a.la a.ra c.first_part-a.result c.first_part-b.result a.cross c.if-cross.board c.if-cross.c1 =
    elim c.if-cross.branch [
      | then-cross w ↦ rw (w.if-cross.true, w.board-is, w.c1-is) w.push_sub-c1.ensures.2
      | else-cross w ↦ rw (w.if-cross.false, w.board-is, w.c1-is) w.push_sub-c1-else-cross.ensures.2
    ] in
    parts-pushed c.requires c.first_part-a.ensures c.first_part-b.ensures a.cross d c.push_sub.ensures.2
