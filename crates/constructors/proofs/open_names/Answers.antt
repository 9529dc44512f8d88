use Rattle.std.proofs.Common.{sym, ◌∙◌, arith, ◌-◌}
use Rattle.constructors.proofs.Names.{named_end, named-refused, named-stacked, named-turn}
use Rattle.constructors.proofs.open_names.Goals as goal

pub returns-then-not-is_going : goal.returns-then-not-is_going
returns-then-not-is_going c = let L = c.loop in
    L.invariant.1 _ _ (named-refused (c.args.n - L.counter) L.invariant.0 (sym c.is_going.ensures ∙ c.if-not-is_going.true))

pub loop-preserved : goal.loop-preserved
loop-preserved c = let L = c.loop in
    let F = c.fresh_evar-made.ensures in
    let P = c.push_tvar-run in
    (named-stacked F P.ensures L.invariant.0, λ b r d. L.invariant.1 b r (named-turn F P.ensures c.loop-test.true d))

pub returns : goal.returns
returns c = let L = c.loop in
    L.invariant.1 _ _ (named_end L.invariant.0 (let z = c.loop-test.false in omega arith))
