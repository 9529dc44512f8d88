use Rattle.std.proofs.Common.{ap₂}
use Rattle.nodes.specs.Nodes.{Ty, node}
use Rattle.judgment.specs.Board.{push, done, inf_app}
use Rattle.board.specs.Board.{term_at}
use Rattle.core_types.proofs.Walks.{substituted}
use Rattle.operations.proofs.Then.{does-as}
use Rattle.inference.proofs.Keeps.{unknown-then}
use Rattle.core_types.proofs.Substituted.{beside}
use Rattle.inference.proofs.apply_forall.Goals as goal

pub returns : goal.returns
returns c = (
  c.substitute_type.ensures,
  λ E F w ls k rep f.
      let p = c.requires in
      let s = substituted c.args.name (node 17 c.args.c.counters.fresh) _ _ c.args.at c.args.n p.1 c.substitute_type.ensures in
      let u = beside c.args.name (node 17 c.args.c.counters.fresh) _ _ c.args.at c.args.n c.substitute_type.ensures c.args.ct c.args.cn p.4 in
      let D1 = c.fresh_unknown-c1.ensures.1 w ls k rep f in
      let D2 = c.push_inf_app.ensures.2 w ls k rep D1.kept in
      unknown-then D1 (does-as (λ _. ap₂ (λ (t u : Ty). push (inf_app t (term_at ls c.args.line) u) done) s u) D2),
)
