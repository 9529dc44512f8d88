use Rattle.std.proofs.Common.{refl, eq-eqb, ne_eqb, rules}
use Rattle.nodes.specs.Nodes.{nodes_at}
use Rattle.operations.proofs.Then.{push-then, does-as}
use Rattle.inference.proofs.Keeps.{chk-keeps}
use Rattle.inference.proofs.infer_intrinsic.Goals as goal

pub returns-then-name-ne4 : goal.returns-then-name-ne4
unfolding nodes_at
returns-then-name-ne4 c = λ E w ls k rep f. does-as (λ _. rw (ne_eqb _ _ c.if-name-ne4.true) refl) (c.refuse.ensures.1 w ls _ k rep f)

pub returns-then-count-ne1 : goal.returns-then-count-ne1
unfolding nodes_at
returns-then-count-ne1 c = λ E w ls k rep f. does-as (λ _. rw (eq-eqb _ _ c.if-name-ne4.false, ne_eqb _ _ c.if-count-ne1.true) refl) (c.refuse-then-count-ne1.ensures.1 w ls _ k rep f)

pub push_sub-requires : goal.push_sub-requires
push_sub-requires c = (chk-keeps c.args.e c.requires.0 c.push_chk-c1.ensures, search rules, search rules)

pub returns : goal.returns
unfolding nodes_at
returns c = λ E w ls k rep f.
    let D1 = c.push_chk-c1.ensures.2 w ls k rep f in
    let D2 = c.push_sub.ensures.2 w ls k rep D1.kept in
    rw (eq-eqb _ _ c.if-name-ne4.false, eq-eqb _ _ c.if-count-ne1.false) (push-then D1 D2)
