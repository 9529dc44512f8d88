use Rattle.std.proofs.Common.{◌≡◌, ◌+◌, ◌-◌, refl, ◌∙◌, arith}
use Rattle.tables.proofs.Moves.{lift-start, lift-turn}
use Rattle.tables.proofs.shift.Goals as goal

pub loop-i-init : goal.loop-i-init
loop-i-init c = (c.requires.0, refl, lift-start _ _)

pub loop-i-preserved : goal.loop-i-preserved
loop-i-preserved c =
    let L = c.loop-i in
    let a = c.args in
    let e : L.i - 1 + 1 ≡ L.i = omega arith in (
      omega arith,
      c.put.auto.w ∙ L.invariant.1,
      lift-turn a.w.now L.w _ L.i a.n _ _ (omega arith) (omega arith) (omega arith) L.invariant.2 refl c.get-r.ensures
          (rw e at c.put.ensures),
    )

pub returns : goal.returns
returns c = let e : c.loop-i.i ≡ c.args.j = omega arith in rw e at c.loop-i.invariant.2
