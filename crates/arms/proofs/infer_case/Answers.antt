use Rattle.std.proofs.Common.{arith, ◌∙◌, rules}
use Rattle.nodes.specs.Nodes.{nodes_at}
use Rattle.sheet.specs.Rows.{rows}
use Rattle.operations.proofs.Then.{kept, kept-board, fresh-then, push-then}
use Rattle.arms.proofs.Cases.{fresh-ready, tvar-ready, chk-ready}
use Rattle.arms.proofs.Rooms.{room-case}
use Rattle.arms.proofs.infer_case.Goals as goal

pub push_tvar-c2-requires : goal.push_tvar-c2-requires
push_tvar-c2-requires c = ((fresh-ready c.args.c c.requires.0.ready c.fresh_evar-c1.ensures.0).board, omega arith)

pub push_chk-c3-requires : goal.push_chk-c3-requires
push_chk-c3-requires c = ((tvar-ready (fresh-ready c.args.c c.requires.0.ready c.fresh_evar-c1.ensures.0) c.push_tvar-c2.ensures).board, search rules)

pub check_arms-requires : goal.check_arms-requires
check_arms-requires c = let p = c.requires.0 in
    let R1 = fresh-ready c.args.c p.ready c.fresh_evar-c1.ensures.0 in (
      record {
        formed = (p.formed.0, kept-board c.push_chk-c3.ensures.2 (kept-board c.push_tvar-c2.ensures.2 (kept c.fresh_evar-c1.ensures.1 p.formed.1)));
        ready = chk-ready c.args.e _ (tvar-ready R1 c.push_tvar-c2.ensures) c.push_chk-c3.ensures;
        lent = record { sheet = p.sheet; low = p.ready.numbers; frames = p.frames; rows = p.rows; left = p.left; right = p.right; type = let h = p.type in omega arith };
        within = p.within;
        narrow = p.narrow;
      },
      c.requires.1,
    )

pub returns : goal.returns
unfolding nodes_at
returns c = let a = c.args in
    let ls = rows a.s.now in
    let F = c.fresh_evar-c1.ensures in
    let W = c.push_tvar-c2.ensures in
    let K = c.push_chk-c3.ensures in
    let A = c.check_arms.ensures in (
      λ m k rep f.
          let D1 = F.1 m ls _ k rep f in
          let D2 = W.2 m ls k rep D1.kept in
          let D3 = K.2 m ls k rep D2.kept in
          fresh-then D1 (push-then D2 (push-then D3 (A.0 m k rep D3.kept))),
      A.1 ∙ room-case ls (nodes_at a.t.now 0 a.tn) a.n a.line a.c a.w.now a.v.now a.l.now a.r.now F.0 W.0 K.0,
    )
