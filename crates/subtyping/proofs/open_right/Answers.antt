use Rattle.std.proofs.Common.{ap₂, inl, List, ℕ, ◌+◌, ◌*◌, ◌-◌, arith, get_or}
use Rattle.nodes.specs.Nodes.{node, Ty}
use Rattle.spelling.specs.declared.Triple.{Triple}
use Rattle.judgment.specs.Board.{sub, push, done}
use Rattle.judgment.specs.Result.{Way}
use Rattle.operations.proofs.Then.{push-then, fresh-then, does-as, report-free, kept-board, kept-book}
use Rattle.core_types.proofs.Substituted.{substituted-at, beside}
use Rattle.subtyping.proofs.open_right.Goals as goal

pub push_sub-requires : goal.push_sub-requires
push_sub-requires c = let p = c.requires in
    let k = c.substitute_type.auto.t in
    ((kept-board c.push_tvar-c2.ensures.2 (kept-book c.fresh_universal-c1.ensures.2 p.1)).board, omega arith, omega arith)

pub returns : goal.returns
returns c = (
  λ (w : Way) (ls : List Triple).
      let a = c.args in
      let p = c.requires in
      let R = a.report.now in
      let R' = c.substitute_type.new.t in
      let D1 = c.fresh_universal-c1.ensures.2 w ls _ R' p.1 in
      let D2 = c.push_tvar-c2.ensures.2 w ls _ R' D1.kept in
      let D3 = c.push_sub.ensures.2 w ls _ R' D2.kept in
      let e = c.substitute_type.ensures in
      let x : ℕ = get_or R (2 * a.l + 1) 0 in
      let e1 = beside x (node 18 a.c.counters.fresh) R R' (2 * a.l + 2) (a.r - 1) e 0 a.l (inl (omega arith)) in
      let e2 = substituted-at x (node 18 a.c.counters.fresh) R R' (2 * a.l + 2) (a.r - 1) e (omega arith) in
      report-free p.0.goes (fresh-then D1 (push-then D2 (does-as (λ _. ap₂ (λ (x y : Ty). push (sub x y) done) e1 e2) D3))),
  c.substitute_type.ensures,
)
