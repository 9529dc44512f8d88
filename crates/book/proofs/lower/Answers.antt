use Rattle.std.proofs.Common.{◌≡◌, ◌-◌, ◌∙◌, arith, rules}
use Rattle.nodes.specs.Nodes.{nodes_at}
use Rattle.book.specs.Book.{lowered}
use Rattle.book.proofs.Levels.{first-left}
use Rattle.book.proofs.lower.Goals as goal

pub lower_node-requires : goal.lower_node-requires
lower_node-requires c = let L = c.loop-i in
    let a = c.args in
    (search rules, search rules, (rw (first-left a.src.now a.from a.n L.i c.loop-i-test.true) at L.invariant.1).0)

pub loop-i-preserved : goal.loop-i-preserved
unfolding lowered
loop-i-preserved c = let L = c.loop-i in
    let a = c.args in
    let e = first-left a.src.now a.from a.n L.i c.loop-i-test.true in
    let d = c.lower_node in
    (d.auto.book ∙ L.invariant.0, (rw e at L.invariant.1).1, rw d.ensures (rw e at L.invariant.2))

pub returns : goal.returns
unfolding lowered nodes_at
returns c = let e : c.args.n - c.loop-i.i ≡ 0 = omega arith in
    rw e at c.loop-i.invariant.2
