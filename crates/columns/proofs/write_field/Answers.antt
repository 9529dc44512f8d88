use Rattle.std.proofs.Common.{◌≡◌, ◌∙◌, arith}
use Rattle.spelling.specs.Text.{field_text}
use Rattle.columns.proofs.Laws.{field_step}
use Rattle.columns.proofs.write_field.Goals as goal

pub loop-i-preserved : goal.loop-i-preserved
loop-i-preserved c = let l = c.loop-i in
    rw (c.before_last-rest.ensures, c.last_byte.ensures) (field_step l.out c.args.at l.i l.rest (omega arith) ∙ l.invariant)

pub returns : goal.returns
unfolding field_text
returns c = let l = c.loop-i in
    let e : l.i ≡ 0 = omega arith in
    rw e at l.invariant
