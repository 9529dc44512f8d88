use Rattle.std.proofs.Common.{ap₂, inr, List, ℕ, ◌*◌, ◌-◌, arith, get_or}
use Rattle.nodes.specs.Nodes.{node, Ty}
use Rattle.spelling.specs.declared.Triple.{Triple}
use Rattle.judgment.specs.Board.{sub, push, done}
use Rattle.judgment.specs.Result.{Way}
use Rattle.operations.specs.State.{WellFormed}
use Rattle.operations.proofs.Then.{push-then, fresh-then, does-as, report-free, kept, kept-board}
use Rattle.core_types.proofs.Substituted.{substituted-at, beside}
use Rattle.subtyping.proofs.open_left.Goals as goal

pub push_tvar-c3-requires : goal.push_tvar-c3-requires
push_tvar-c3-requires c = ((kept-board c.push_tvar-c2.ensures.2 (kept c.fresh_evar-c1.ensures.1 c.requires.0.formed.1)).board, omega arith)

pub push_sub-requires : goal.push_sub-requires
push_sub-requires c = let p = c.requires in
    let k = c.substitute_type.auto.t in
    ((kept-board c.push_tvar-c3.ensures.2 (kept-board c.push_tvar-c2.ensures.2 (kept c.fresh_evar-c1.ensures.1 p.0.formed.1))).board, omega arith, omega arith)

pub returns : goal.returns
returns c = (
  λ (w : Way) (ls : List Triple) (k : List ℕ) (f : WellFormed c.args.board.now k c.args.c).
      let a = c.args in
      let p = c.requires in
      let R = a.report.now in
      let R' = c.substitute_type.new.t in
      let D1 = c.fresh_evar-c1.ensures.1 w ls _ k R' f in
      let D2 = c.push_tvar-c2.ensures.2 w ls k R' D1.kept in
      let D3 = c.push_tvar-c3.ensures.2 w ls k R' D2.kept in
      let D4 = c.push_sub.ensures.2 w ls k R' D3.kept in
      let e = c.substitute_type.ensures in
      let x : ℕ = get_or R 1 0 in
      let e1 = substituted-at x (node 17 a.c.counters.fresh) R R' 2 (a.l - 1) e (omega arith) in
      let e2 = beside x (node 17 a.c.counters.fresh) R R' 2 (a.l - 1) e (2 * a.l) a.r (inr (omega arith)) in
      report-free p.0.goes (fresh-then D1 (push-then D2 (push-then D3 (does-as (λ _. ap₂ (λ (x y : Ty). push (sub x y) done) e1 e2) D4)))),
  c.substitute_type.ensures,
)
