use mathlib.Core.Path.{refl, sym, ◌∙◌}
use native.Mathlib.Omega.{arith}
use Rattle.checker.proofs.Ending.{loop-start, more-facts, loop-turn, loop-end}
use Rattle.checker.proofs.solve.Goals as goal

pub loop-call-init : goal.loop-call-init
loop-call-init c = (loop-start c.args.call.ceiling c.requires.0 c.requires.1, refl, refl, refl, refl, refl, refl, refl, refl)

pub solve_step-run-requires : goal.solve_step-run-requires
solve_step-run-requires c = let L = c.loop-call in
    let h = L.invariant in
    let p = c.requires in
    let f = more-facts L.run c.args.call.ceiling (sym c.takes_more.ensures ∙ c.loop-call-test.true) in
    let x = p.3 in
    let q = p.4 in
    let y = q.type in
    let z = q.left in
    let z1 = q.lines in
    let m = f.2 in
    record {
      standing = h.0.standing;
      goes = f.0;
      more = f.1;
      counts = let u = c.args.call.ceiling_fits in omega arith;
      limit = p.2;
      report = omega arith;
      lent = record {
        type = omega arith;
        left = omega arith;
        lines = omega arith;
        room = λ e.
            (let g0 = (q.room e).right in
            let g1 = (q.room e).frames in
            let g2 = (q.room e).bound in
            record { right = omega arith; frames = omega arith; bound = omega arith });
      };
    }

pub loop-call-smaller : goal.loop-call-smaller
loop-call-smaller c = let L = c.loop-call in
    let h = L.invariant in
    let p = c.requires in
    let f = more-facts L.run c.args.call.ceiling (sym c.takes_more.ensures ∙ c.loop-call-test.true) in
    let m = f.2 in
    let e = c.solve_step-run.ensures.taken in
    omega arith

pub loop-call-preserved : goal.loop-call-preserved
loop-call-preserved c = let L = c.loop-call in
    let h = L.invariant in
    let p = c.requires in
    let f = more-facts L.run c.args.call.ceiling (sym c.takes_more.ensures ∙ c.loop-call-test.true) in
    let K = c.solve_step-run.auto in
    (loop-turn f h.0 c.solve_step-run.ensures, K.board ∙ h.1, K.book ∙ h.2, K.report ∙ h.3, K.t ∙ h.4, K.l ∙ h.5, K.r ∙ h.6, K.w ∙ h.7, K.v ∙ h.8)

pub returns : goal.returns
returns c = let L = c.loop-call in
    (L.invariant.0.standing.formed, loop-end L.invariant.0 (sym c.takes_more.ensures ∙ c.loop-call-test.false))
