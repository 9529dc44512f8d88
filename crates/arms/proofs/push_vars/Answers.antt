use Rattle.std.proofs.Common.{sym, ◌∙◌, arith}
use Rattle.sheet.specs.Rows.{rows}
use Rattle.arms.proofs.Vars.{vars-turn, vars-halt, vars-end}
use Rattle.arms.proofs.Rooms.{room-var, room-halt, room-vars}
use Rattle.arms.proofs.push_vars.Goals as goal

pub returns-then-not-is_going : goal.returns-then-not-is_going
returns-then-not-is_going c = let a = c.args in
    let L = c.loop-i in
    let e = sym c.is_going.ensures ∙ c.if-not-is_going.true in
    let W = room-halt (rows a.s.now) a.v.now a.n L.run e L.invariant.1 in
    (vars-halt (rows a.s.now) a.v.now a.n L.i L.invariant.0 e, W.0, W.1)

pub loop-i-preserved : goal.loop-i-preserved
loop-i-preserved c = let a = c.args in
    let L = c.loop-i in
    let G = c.get-q in
    let I = c.instance in
    let P = c.push_var-run in
    let e = sym c.is_going.ensures ∙ c.if-not-is_going.false in
    (vars-turn (rows a.s.now) a.v.now a.n L.i G.result _ L.invariant.0 c.loop-i-test.true G.ensures I.ensures.0 P.ensures, room-var (rows a.s.now) a.v.now a.n G.result _ L.invariant.1 e c.loop-i-test.true G.ensures I.ensures.0 I.ensures.1 P.ensures.0)

pub returns : goal.returns
returns c = let a = c.args in
    let z = c.loop-i-test.false in
    let L = c.loop-i in
    let W = room-vars (rows a.s.now) a.v.now a.n L.invariant.1 (omega arith) in
    (vars-end (rows a.s.now) a.v.now a.n L.i L.invariant.0 (omega arith), W.0, W.1)
