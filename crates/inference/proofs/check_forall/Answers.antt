use Rattle.std.proofs.Common.{ap, rules}
use Rattle.nodes.specs.Nodes.{Ty, node}
use Rattle.judgment.specs.Board.{push, done, chk}
use Rattle.board.specs.Board.{term_at}
use Rattle.core_types.proofs.Walks.{substituted}
use Rattle.operations.proofs.Then.{push-then, fresh-then, does-as, kept-board, kept-book}
use Rattle.inference.proofs.check_forall.Goals as goal

pub push_chk-requires : goal.push_chk-requires
push_chk-requires c = ((kept-board c.push_tvar-c2.ensures.2 (kept-book c.fresh_universal-c1.ensures.2 c.requires.0)).board, search rules)

pub returns : goal.returns
returns c = (
  c.substitute_type.ensures,
  λ w ls E T rep.
      let s = substituted c.args.name (node 18 c.args.c.counters.fresh) _ _ c.args.at c.args.n c.requires.1 c.substitute_type.ensures in
      let D1 = c.fresh_universal-c1.ensures.2 w ls _ rep c.requires.0 in
      let D2 = c.push_tvar-c2.ensures.2 w ls _ rep D1.kept in
      let D3 = c.push_chk.ensures.2 w ls _ rep D2.kept in
      fresh-then D1 (push-then D2 (does-as (λ _. ap (λ (t : Ty). push (chk (term_at ls c.args.line) t) done) s) D3)),
)
