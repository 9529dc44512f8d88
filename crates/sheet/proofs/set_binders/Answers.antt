use Rattle.std.proofs.Common.{length, get_or, ap, ◌∙◌, arith}
use Rattle.sheet.specs.Plan.{no_triple}
use Rattle.sheet.specs.Rows.{rows, set_binder}
use Rattle.sheet.specs.Binders.{binder_by}
use Rattle.sheet.proofs.RowLaws.{length-rows}
use Rattle.sheet.proofs.Bound.{put-over, put_next, set-raised, raised-rows}
use Rattle.sheet.proofs.set_binders.Goals as goal

pub set_binder-requires : goal.set_binder-requires
set_binder-requires c =
    let n = ap length c.loop-i.invariant.0 in
    let t = c.loop-i-test.true in
    let k = c.requires in
    omega arith

pub loop-i-preserved : goal.loop-i-preserved
loop-i-preserved c =
    let L = c.loop-i in
    let a = c.args in
    let n = length-rows L.d in
    let t = c.loop-i-test.true in
    let m = ap length L.invariant.0 in
    let e = c.set_binder.ensures in
    let r = raised-rows (set-raised L.d L.i (binder_by a.last.now a.first (get_or (rows L.d) L.i no_triple)) (omega arith)) in (
      ap rows e ∙ r ∙ L.invariant.0,
      λ xs f.
          put_next (rows a.d.now) L.i a.end L.d xs t c.requires a.last.now a.first f (e ∙ ap (λ ts. set_binder L.d L.i (binder_by a.last.now a.first (get_or ts L.i no_triple))) L.invariant.0) ∙ L.invariant.1 xs f,
    )

pub returns : goal.returns
returns c = λ xs f. put-over (rows c.args.d.now) c.loop-i.i c.args.end c.loop-i.d xs c.loop-i-test.false ∙ c.loop-i.invariant.1 xs f
