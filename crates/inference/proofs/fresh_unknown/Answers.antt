use Rattle.std.proofs.Common.{arith}
use Rattle.operations.proofs.Then.{fresh-then}
use Rattle.inference.proofs.Keeps.{fresh_keeps, tvar-keeps}
use Rattle.inference.proofs.fresh_unknown.Goals as goal

pub push_tvar-requires : goal.push_tvar-requires
push_tvar-requires c = (fresh_keeps c.args.c c.requires c.fresh_evar-c1.ensures.0, omega arith)

pub returns : goal.returns
returns c = (
  tvar-keeps (omega arith) (fresh_keeps c.args.c c.requires c.fresh_evar-c1.ensures.0) c.push_tvar.ensures,
  λ w ls k rep f.
      let D1 = c.fresh_evar-c1.ensures.1 w ls _ _ rep f in
      let D2 = c.push_tvar.ensures.2 w ls _ rep D1.kept in
      fresh-then D1 D2,
)
