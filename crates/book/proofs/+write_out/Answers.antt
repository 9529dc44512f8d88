use Rattle.std.proofs.Common.{◌≡◌, ◌+◌, ◌*◌, ◌-◌, ◌<◌, get_or, arith}
use Rattle.book.proofs.Turns.{told_at, told_none, last_turn, miss-ends, miss-turn, in-turn, hit-ends, hit-turn}
use Rattle.book.proofs.+write_out.Goals as goal
use Rattle.book.proofs.+write_out.Goals.{in-Some+in_ok-m-in-Some, in-None+else-end-m}

pub write_out-requires : goal.write_out-requires
write_out-requires t c = let L = c.loop-i in
    let a = c.args in
    let p = a.at + 2 * L.i in
    let f = told_at a.book.now (get_or a.src.now p 0) (get_or a.src.now (p + 1) 0) c.find.ensures c.in-Some.is in
    let h = c.loop-i-test.true in
    in-turn L.invariant (omega arith) f t c.decreases

pub returns-in_err-m-in-Some : goal.returns-in_err-m-in-Some
returns-in_err-m-in-Some t c = let L = c.loop-i in
    let a = c.args in
    let p = a.at + 2 * L.i in
    let f = told_at a.book.now (get_or a.src.now p 0) (get_or a.src.now (p + 1) 0) c.find.ensures c.in-Some.is in
    let h = c.loop-i-test.true in
    rw c.from_residual.ensures (hit-ends L.invariant (omega arith) f c.write_out.ensures c.in_err-m-in-Some.was)

pub returns-then-end-m : goal.returns-then-end-m
returns-then-end-m t c = let L = c.loop-i in
    let a = c.args in
    let p = a.at + 2 * L.i in
    let f = told_none a.book.now (get_or a.src.now p 0) (get_or a.src.now (p + 1) 0) c.find.ensures c.in-None.is in
    let h = c.loop-i-test.true in
    miss-ends L.invariant (omega arith) f c.if-end-m.true

pub loop-i-preserved : goal.loop-i-preserved
loop-i-preserved t c =
    let L = c.loop-i in
    let a = c.args in
    let p = a.at + 2 * L.i in
    let h : 0 < a.left - L.i = let z = c.loop-i-test.true in omega arith in
    let at : a.at + 2 * (L.i + 1) ≡ p + 2 = omega arith in
    let left : a.left - (L.i + 1) ≡ a.left - L.i - 1 = omega arith in
    elim c.match-find.branch [
      | in-Some+in_ok-m-in-Some w ↦
          let f = told_at a.book.now (get_or a.src.now p 0) (get_or a.src.now (p + 1) 0) c.find.ensures w.in-Some.is in
          rw (w.out-is, w.m-is, at, left) (hit-turn L.invariant h f w.write_out.ensures _ w.write_out.auto.out w.in_ok-m-in-Some.was)
      | in-None+else-end-m w ↦
          let f = told_none a.book.now (get_or a.src.now p 0) (get_or a.src.now (p + 1) 0) c.find.ensures w.in-None.is in
          rw (w.out-is, w.m-is, at, left) (miss-turn L.invariant h f w.if-end-m.false)
    ]

pub returns : goal.returns
returns t c = last_turn c.loop-i.invariant (omega arith)
