use Rattle.std.proofs.Common.{◌≡◌, length, arith, ◌∙◌}
use Rattle.spelling.proofs.Laws.{space-again, space-stop, space-done}
use Rattle.spelling.proofs.spaces.Goals as goal

pub returns-then-bytes-i-ne32-clause-count : goal.returns-then-bytes-i-ne32-clause-count
returns-then-bytes-i-ne32-clause-count c = let s = c.args.bytes.now in space-stop s (length s) c.loop-i.i c.if-bytes-i-ne32.true ∙ c.loop-i.invariant

pub loop-i-preserved : goal.loop-i-preserved
loop-i-preserved c =
    let s = c.args.bytes.now in space-again s (length s) c.loop-i.i c.loop-i-test.true c.if-bytes-i-ne32.false ∙ c.loop-i.invariant

pub returns-clause-count : goal.returns-clause-count
returns-clause-count c =
    let s = c.args.bytes.now in
    let e : c.loop-i.i ≡ length s = omega (arith, c.spaces_at_once-i.ensures.within) in
    space-done s (length s) ∙ rw e at c.loop-i.invariant
