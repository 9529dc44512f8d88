use native.Mathlib.Omega.{arith}
use Rattle.writing.proofs.Laws.{below-zero, from_zero}
use Rattle.writing.proofs.triple_of.Goals as goal

pub returns-then-value-ge9223372036854775808 : goal.returns-then-value-ge9223372036854775808
returns-then-value-ge9223372036854775808 c = let h = c.if-value-ge9223372036854775808.true in
    let f = c.ranges in
    below-zero _ _ _ h (omega arith)

pub returns : goal.returns
returns c = from_zero _ _ _ c.if-value-ge9223372036854775808.false
