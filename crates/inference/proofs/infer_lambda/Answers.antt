use Rattle.std.proofs.Common.{◌≡◌, arith, ℕ, ◌+◌, ◌*◌, ◌≤◌, length}
use Rattle.nodes.specs.Nodes.{Ty}
use Rattle.sheet.specs.Rows.{rows}
use Rattle.operations.proofs.Then.{push-then, does-as}
use Rattle.inference.specs.Inference.{type_on}
use Rattle.inference.proofs.Keeps.{unknown-then, sub-keeps, var-keeps}
use Rattle.inference.proofs.Written.{length-type_on, arrow-whole, arrow-left, arrow-right}
use Rattle.inference.proofs.infer_lambda.Goals as goal

pub push_var-c3-requires : goal.push_var-c3-requires
push_var-c3-requires c = let n : ℕ = c.args.n in
    let h : 2 * n + 4 ≤ length c.args.out.now = c.requires.2 in
    let k : length c.write_arrow.new.out ≡ length c.args.out.now = c.write_arrow.auto.out in
    (sub-keeps c.fresh_unknown-c1.ensures.0 c.push_sub-c2.ensures, omega arith)

pub push_inf-requires : goal.push_inf-requires
push_inf-requires c = let n : ℕ = c.args.n in
    let h : 2 * n + 4 ≤ length c.args.out.now = c.requires.2 in
    let k : length c.write_arrow.new.out ≡ length c.args.out.now = c.write_arrow.auto.out in
    (var-keeps (sub-keeps c.fresh_unknown-c1.ensures.0 c.push_sub-c2.ensures) c.push_var-c3.ensures, omega arith)

pub returns : goal.returns
returns c = (
  c.write_arrow.ensures,
  λ w E k rep f.
      let n : ℕ = c.args.n in
      let b : ℕ = c.args.c.counters.fresh in
      let l = c.args.out.now in
      let h : 2 * n + 4 ≤ length c.args.out.now = c.requires.2 in
      let S : Ty = type_on c.args.s.now c.args.first n in
      let e : length S ≡ n = length-type_on c.args.s.now c.args.first n c.requires.3.within in
      let q = c.write_arrow.ensures in
      let ls = rows c.args.s.now in
      let D1 = c.fresh_unknown-c1.ensures.1 w ls k rep f in
      let D2 = c.push_sub-c2.ensures.2 w ls k rep D1.kept in
      let D3 = c.push_var-c3.ensures.2 w ls k rep D2.kept in
      let D4 = c.push_inf.ensures.2 w ls k rep D3.kept in
      unknown-then D1 (does-as (λ _. rw (arrow-whole l S n b e h q, arrow-left l S n b e h q, arrow-right l S n b e h q)) (push-then D2 (push-then D3 D4))),
)
