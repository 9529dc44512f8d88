use Rattle.std.proofs.Common.{refl, ◌∙◌}
use Rattle.nodes.specs.Nodes.{nodes_at}
use Rattle.sheet.specs.Rows.{rows}
use Rattle.applying.specs.Applying.{env_on}
use Rattle.inferring.proofs.Views.{ruled, value-fits, constructor-rule, open-asks}
use Rattle.inferring.proofs.Rooms.{constructor-out}
use Rattle.inferring.proofs.constructor_term.Goals as goal

pub value_at-name-requires : goal.value_at-name-requires
value_at-name-requires c = value-fits c.requires.0 refl

pub infer_constructor-requires : goal.infer_constructor-requires
infer_constructor-requires c = open-asks c.requires.0 c.args.l.now c.requires.1 _ c.in-Some.ensures

pub returns : goal.returns
returns c = let p = c.requires.0 in
    let s = c.args.s.now in
    let a = c.args in
    let x = c.value_at-name.ensures in
    let q = c.in-Some.ensures in
    let I = c.infer_constructor.ensures in
    (ruled p (constructor-rule p refl x q) (λ m. I.0 (env_on s) c.value_at-name.result m (rows s)), I.1 ∙ constructor-out a.c (rows s) a.l.now x q)

pub returns-in_default : goal.returns-in_default
unfolding nodes_at
returns-in_default c = let p = c.requires.0 in
    let s = c.args.s.now in
    let a = c.args in
    let x = c.value_at-name.ensures in
    let q = c.in_default.ensures in
    (ruled p (constructor-rule p refl x q) (λ m. c.refuse.ensures.1 m (rows s) _), constructor-out a.c (rows s) a.l.now x q)
