use Rattle.std.proofs.Common.{◌+◌, ◌-◌, arith, rules}
use Rattle.nodes.specs.Nodes.{node}
use Rattle.core_types.proofs.Walks.{first-within, sub-hit, sub-kind, sub-one, sub-body}
use Rattle.core_types.proofs.substitute_node.Goals as goal

pub returns-in-11 : goal.returns-in-11
returns-in-11 c = let a = c.args in
    let h = c.requires.1 in
    (omega arith, omega arith, λ name e. sub-one name (node a.kind a.number) a.t.now _ a.p a.left (sub-hit name a.kind a.number a.t.now a.p a.left h c.in-11.is e))

pub overflow_add-result : goal.overflow_add-result
overflow_add-result c = let w = first-within c.args.t.now (c.args.p + 2) (c.args.left - 1) c.first_part.result c.first_part.ensures in
    omega arith

pub returns-in-14 : goal.returns-in-14
returns-in-14 c = let a = c.args in
    let f = c.first_part.ensures in
    let w = first-within a.t.now (a.p + 2) (a.left - 1) c.first_part.result f in
    (omega arith, omega arith, λ name e. sub-body name (node a.kind a.number) a.t.now a.p a.left c.first_part.result c.requires.1 c.in-14.is e f)

pub returns-in_default : goal.returns-in_default
returns-in_default c = let a = c.args in
    (omega arith, omega arith, λ name e. sub-one name (node a.kind a.number) a.t.now a.t.now a.p a.left (sub-kind name (node a.kind a.number) a.t.now a.p a.left c.requires.1 (search rules) (search rules)))
