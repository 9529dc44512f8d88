use Rattle.std.proofs.Common.{refl, sym, ◌∙◌, ◌+◌, ◌*◌, ◌-◌, arith}
use Rattle.nodes.specs.Nodes.{node}
use Rattle.core_types.specs.Walk.{substituting}
use Rattle.judgment.specs.Types.{substitute}
use Rattle.core_types.proofs.Walks.{sub-end, walk_start, walk_turn, before-within}
use Rattle.core_types.proofs.substitute_type.Goals as goal

pub loop-i-init : goal.loop-i-init
loop-i-init c = (refl, walk_start _ _ _ _ _ _ c.nodes_before-i.ensures)

pub overflow_add-i : goal.overflow_add-i
overflow_add-i c = let e = c.substitute_node-i.ensures.1 in omega arith

pub overflow_mul-i-in-loop-i : goal.overflow_mul-i-in-loop-i
overflow_mul-i-in-loop-i c = let e = c.substitute_node-i.ensures.1 in omega arith

pub overflow_add-at-in-loop-i : goal.overflow_add-at-in-loop-i
overflow_add-at-in-loop-i c = let e = c.substitute_node-i.ensures.1 in omega arith

pub overflow_sub-n-in-loop-i : goal.overflow_sub-n-in-loop-i
overflow_sub-n-in-loop-i c = let e = c.substitute_node-i.ensures.1 in omega arith

pub nodes_before-i-requires-in-loop-i : goal.nodes_before-i-requires-in-loop-i
nodes_before-i-requires-in-loop-i c = let e = c.substitute_node-i.ensures.1 in
    let l = c.substitute_node-i.auto.t ∙ c.loop-i.invariant.0 in
    let h = c.requires.0 in
    omega arith

pub overflow_add-i-in-loop-i : goal.overflow_add-i-in-loop-i
overflow_add-i-in-loop-i c = let e = c.substitute_node-i.ensures.1 in
    let b = before-within _ (node 0 0) _ _ _ _ c.nodes_before-i-in-loop-i.ensures in
    omega arith

pub loop-i-smaller : goal.loop-i-smaller
loop-i-smaller c = let e = c.substitute_node-i.ensures in
    let f = e.0 in
    let g = e.1 in
    let l = c.loop-i-test.true in
    omega arith

pub loop-i-preserved : goal.loop-i-preserved
loop-i-preserved c = let L = c.loop-i in
    let a = c.args in
    let N = c.substitute_node-i in
    let w = L.invariant.1 in
    let l = c.loop-i-test.true in
    (N.auto.t ∙ L.invariant.0, walk_turn a.name (node a.kind a.number) a.t.now a.at a.n L.t N.new.t L.i N.result c.nodes_before-i-in-loop-i.result N.ensures.1 l (N.ensures.2 a.name (w.1 l)) c.nodes_before-i-in-loop-i.ensures w)

pub returns : goal.returns
unfolding substitute substituting
returns c = let L = c.loop-i in
    let a = c.args in
    sym (L.invariant.1.2 ∙ sub-end a.name (node a.kind a.number) L.t (a.at + 2 * L.i) (a.n - L.i) 0 (let z = c.loop-i-test.false in omega arith))
