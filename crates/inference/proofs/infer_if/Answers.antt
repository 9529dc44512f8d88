use Rattle.nodes.specs.Nodes.{nodes_at}
use Rattle.operations.proofs.Then.{push-then}
use Rattle.inference.proofs.Keeps.{chk-keeps}
use Rattle.std.proofs.Common.{rules}
use Rattle.inference.proofs.infer_if.Goals as goal

pub push_chk-c2-requires : goal.push_chk-c2-requires
push_chk-c2-requires c = (chk-keeps c.args.e1 c.requires.0 c.push_chk-c1.ensures, search rules)

pub push_chk-requires : goal.push_chk-requires
push_chk-requires c = (chk-keeps c.args.e2 (chk-keeps c.args.e1 c.requires.0 c.push_chk-c1.ensures) c.push_chk-c2.ensures, search rules)

pub returns : goal.returns
unfolding nodes_at
returns c = λ E w ls k rep f.
    let D1 = c.push_chk-c1.ensures.2 w ls k rep f in
    let D2 = c.push_chk-c2.ensures.2 w ls k rep D1.kept in
    let D3 = c.push_chk.ensures.2 w ls k rep D2.kept in
    push-then D1 (push-then D2 D3)
