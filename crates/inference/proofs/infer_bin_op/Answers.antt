use Rattle.nodes.specs.Nodes.{nodes_at}
use Rattle.operations.proofs.Then.{push-then}
use Rattle.inference.proofs.Keeps.{chk-keeps}
use Rattle.std.proofs.Common.{arith, rules}
use Rattle.inference.proofs.infer_bin_op.Goals as goal

pub push_chk-c2-requires : goal.push_chk-c2-requires
push_chk-c2-requires c = (chk-keeps c.args.e1 c.requires.0 c.push_chk-c1.ensures, search rules)

pub push_sub-requires : goal.push_sub-requires
push_sub-requires c = (chk-keeps c.args.e2 (chk-keeps c.args.e1 c.requires.0 c.push_chk-c1.ensures) c.push_chk-c2.ensures, search rules, (let q = c.requires.1 in omega arith))

pub returns : goal.returns
unfolding nodes_at
returns c = λ E w ls k rep f.
    let D1 = c.push_chk-c1.ensures.2 w ls k rep f in
    let D2 = c.push_chk-c2.ensures.2 w ls k rep D1.kept in
    let D3 = c.push_sub.ensures.2 w ls k rep D2.kept in
    rw (← c.result_name.ensures) (push-then D1 (push-then D2 D3))
