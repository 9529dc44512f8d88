use Rattle.std.proofs.Common.{◌≡◌, sym, ap, ◌∙◌, ℕ, ◌-◌, arith}
use Rattle.tables.specs.Rows.{place_from}
use Rattle.tables.proofs.Tables.{place-start, place-turn}
use Rattle.tables.proofs.Moves.{place-stop, place-more}
use Rattle.tables.proofs.locate.Goals as goal

pub loop-j-init : goal.loop-j-init
loop-j-init c = let n : ℕ = c.args.n in
    let e : n ≡ n - 0 = omega arith in
    (λ ls t. place-start ls _ _ _ t, ap (place_from c.args.w.now c.args.name 0) e)

pub returns-then-name-x-2-clause-place : goal.returns-then-name-x-2-clause-place
returns-then-name-x-2-clause-place c = place-stop _ _ _ _ (λ h. c.if-name-x.true) ∙ sym c.loop-j.invariant.1

pub returns-else-name-x-2-clause-place : goal.returns-else-name-x-2-clause-place
returns-else-name-x-2-clause-place c = place-stop _ _ _ _ (λ h. c.if-name-x.true) ∙ sym c.loop-j.invariant.1

pub loop-j-preserved : goal.loop-j-preserved
loop-j-preserved c = let L = c.loop-j in
    let h = c.loop-j-test.true in
    (λ ls t. L.invariant.0 ls t ∙ place-turn ls _ _ _ _ t h (omega arith), L.invariant.1 ∙ place-more _ _ _ _ h (omega arith))

pub returns-clause-place : goal.returns-clause-place
returns-clause-place c = let n : ℕ = c.args.n in
    let e : c.loop-j.j ≡ n = (let z = c.loop-j-test.false in omega arith) in
    place-stop _ _ n _ (λ h. absurd (omega arith)) ∙ sym (rw e at c.loop-j.invariant.1)
