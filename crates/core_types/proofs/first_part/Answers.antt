use Rattle.std.proofs.Common.{◌≡◌, ◌+◌, ◌*◌, sym, ◌∙◌, get_or, arith}
use Rattle.nodes.specs.Nodes.{node, node_parts}
use Rattle.core_types.proofs.Walks.{first-length, part-start, part-turn, part-done, part_end}
use Rattle.core_types.proofs.first_part.Goals as goal

pub loop-i-init : goal.loop-i-init
loop-i-init c = (omega arith, part-start _ _ _)

pub returns-then-pending-eq0 : goal.returns-then-pending-eq0
returns-then-pending-eq0 c = let d = part-done _ _ _ _ _ c.if-pending-eq0.true c.loop-i.invariant.1 in
    first-length _ _ _ _ d.0

pub loop-i-preserved : goal.loop-i-preserved
loop-i-preserved c = let a = c.args in
    let L = c.loop-i in
    let e : c.wide.result ≡ node_parts (node (get_or a.src.now (a.at + 2 * L.i) 0) (get_or a.src.now (a.at + 2 * L.i + 1) 0)) = c.wide.ensures ∙ c.node_parts.ensures in
    (omega arith, rw e (part-turn a.src.now a.at a.n L.i L.pending c.loop-i-test.true c.if-pending-eq0.false L.invariant.1))

pub returns : goal.returns
returns c = let L = c.loop-i in
    let d = part_end _ _ _ _ _ (let z = c.loop-i-test.false in omega arith) L.invariant.1 in
    let e : L.i ≡ c.args.n = omega arith in
    sym e ∙ first-length _ _ _ _ d.0
