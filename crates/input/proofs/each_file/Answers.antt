use Rattle.std.proofs.Common.{refl, arith, of_calls}
use Rattle.std.specs.Fn.{CalledAt}
use Rattle.std.proofs.lemmas.Fn.{called_at}
use Rattle.input.proofs.Handing.{one-handed, name-of}
use Rattle.input.proofs.each_file.Goals.{in-Ok+in-Ok-from_utf8, in-Ok+in-Err, in-Err-TooLong}
use Rattle.input.proofs.each_file.Goals as goal

pub loop-at-preserved : goal.loop-at-preserved
loop-at-preserved g c =
    let i = c.loop-at.invariant in
    elim c.match-arg.branch [
      | in-Ok+in-Ok-from_utf8 w ↦
          let e = w.in-Ok-from_utf8.ensures.cases in
          let n = name-of _ _ _ e.0 e.1 (w.in-Ok.ensures.bound) (omega arith) in
          let h = one-handed (CalledAt g.F.FnMut) _ _ _ _ _ i.0 n (called_at g.F.FnMut w.each.ensures refl) in
          rw (w.each-is, w.names-is) (h, search of_calls, omega arith)
      | in-Ok+in-Err w ↦ rw (w.each-is, w.names-is) (i.0, i.1, omega arith)
      | in-Err-TooLong w ↦ rw (w.each-is, w.names-is) (i.0, i.1, omega arith)
    ]
