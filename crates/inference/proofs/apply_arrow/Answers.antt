use Rattle.operations.proofs.Then.{push-then}
use Rattle.inference.proofs.Keeps.{sub-keeps}
use Rattle.std.proofs.Common.{rules}
use Rattle.inference.proofs.apply_arrow.Goals as goal

pub push_chk-requires : goal.push_chk-requires
push_chk-requires c = (sub-keeps c.requires.0 c.push_sub-c1.ensures, search rules)

pub returns : goal.returns
returns c = λ E F w ls k rep f.
    let D1 = c.push_sub-c1.ensures.2 w ls k rep f in
    let D2 = c.push_chk.ensures.2 w ls k rep D1.kept in
    push-then D1 D2
