use Rattle.std.proofs.Common.{◌≡◌, length}
use Rattle.nodes.specs.Nodes.{Ty}
use Rattle.sheet.specs.Rows.{rows}
use Rattle.operations.proofs.Then.{does-as}
use Rattle.inference.specs.Inference.{type_on}
use Rattle.inference.proofs.Written.{length-type_on, copied}
use Rattle.applying.proofs.push_entry.Goals as goal

pub returns : goal.returns
returns c = let a = c.args in
    let p = c.requires in
    let T : Ty = type_on a.s.now a.first a.n in
    let l : length T ≡ a.n = length-type_on a.s.now a.first a.n p.3.within in
    let e = copied a.out.now T a.n l p.2 c.copy_type.ensures in
    (λ w k rep f. does-as (λ _. rw e) (c.push_sub.ensures.2 w (rows a.s.now) k rep f), c.copy_type.ensures)
