use Rattle.std.proofs.Common.{◌+◌, ◌*◌, ◌-◌, ℕ, sym, ◌∙◌, arith}
use Rattle.sizes.specs.Sizes.{line_length}
use Rattle.spelling.specs.Spelling.{line_at}
use Rattle.spelling.proofs.Laws.{past_end, field-alone}
use Rattle.spelling.proofs.line_at.Goals as goal

pub returns-then-s-i : goal.returns-then-s-i
returns-then-s-i c = sym (past_end _ _ c.if-s-i.true)

pub returns : goal.returns
unfolding line_at
returns c =
    let s = c.args.s.now in
    let at : ℕ = line_length * c.args.i in
    let k = c.field_of-k.ensures ∙ field-alone s at 3 (at + 3 - at) (omega arith) (omega arith) in
    let v = c.field_of-v.ensures ∙ field-alone s (at + 3) 20 (at + 23 - (at + 3)) (omega arith) (omega arith) in
    let n = c.field_of-c.ensures ∙ field-alone s (at + 23) 5 (at + 28 - (at + 23)) (omega arith) (omega arith) in
    c.line_of.ensures ∙ rw (k, v, n)
