use Rattle.nodes.specs.Nodes.{nodes_at}
use Rattle.operations.proofs.Then.{push-then}
use Rattle.inference.proofs.Keeps.{unknown-then, app-keeps}
use Rattle.std.proofs.Common.{rules}
use Rattle.inference.proofs.infer_apply.Goals as goal

pub push_inf-requires : goal.push_inf-requires
push_inf-requires c = (app-keeps c.args.e c.fresh_unknown-c1.ensures.0 c.push_inf_app-c2.ensures, search rules)

pub returns : goal.returns
unfolding nodes_at
returns c = λ E w ls k rep f.
    let D1 = c.fresh_unknown-c1.ensures.1 w ls k rep f in
    let D2 = c.push_inf_app-c2.ensures.2 w ls k rep D1.kept in
    let D3 = c.push_inf.ensures.2 w ls k rep D2.kept in
    unknown-then D1 (push-then D2 D3)
