use Rattle.std.proofs.Common.{length, ◌≡◌, rules}
use Rattle.nodes.specs.Nodes.{Ty}
use Rattle.sheet.specs.Rows.{rows}
use Rattle.operations.proofs.Then.{push-then, does-as}
use Rattle.inference.specs.Inference.{type_on}
use Rattle.inference.proofs.Keeps.{sub-keeps, var-keeps}
use Rattle.inference.proofs.Written.{length-type_on, copied}
use Rattle.inference.proofs.check_lambda.Goals as goal

pub push_var-c2-requires : goal.push_var-c2-requires
push_var-c2-requires c = (sub-keeps c.requires.0 c.push_sub-c1.ensures, search rules)

pub push_chk-requires : goal.push_chk-requires
push_chk-requires c = (var-keeps (sub-keeps c.requires.0 c.push_sub-c1.ensures) c.push_var-c2.ensures, c.requires.1)

pub returns : goal.returns
returns c = (
  c.copy_type.ensures,
  λ w E e T k rep f.
      let p = c.requires in
      let S : Ty = type_on c.args.s.now c.args.first c.args.n in
      let l : length S ≡ c.args.n = length-type_on c.args.s.now c.args.first c.args.n p.3.within in
      let s = copied c.args.out.now S c.args.n l p.2 c.copy_type.ensures in
      let ls = rows c.args.s.now in
      let D1 = c.push_sub-c1.ensures.2 w ls k rep f in
      let D2 = c.push_var-c2.ensures.2 w ls k rep D1.kept in
      let D3 = c.push_chk.ensures.2 w ls k rep D2.kept in
      does-as (λ _. rw s) (push-then D1 (push-then D2 D3)),
)
