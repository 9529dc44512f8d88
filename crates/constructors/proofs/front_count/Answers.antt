use Rattle.std.proofs.Common.{◌≡◌, sym, ap, ◌∙◌, arith}
use Rattle.spelling.specs.declared.Triple.{Triple}
use Rattle.sheet.proofs.RowLaws.{length-rows}
use Rattle.constructors.proofs.Binders.{front-turn, front-stop, front-end}
use Rattle.constructors.proofs.front_count.Goals as goal

pub overflow_add-first : goal.overflow_add-first
overflow_add-first c = let h = c.requires in let m = length-rows c.args.s.now in let t = c.loop-i-test.true in omega arith

pub returns-then-triple_at-ne14 : goal.returns-then-triple_at-ne14
returns-then-triple_at-ne14 c = let L = c.loop-i in front-stop _ _ _ c.requires L.i c.loop-i-test.true L.invariant (λ e. c.if-triple_at-ne14.true (ap (λ (t : Triple). t.kind) c.triple_at.ensures ∙ e))

pub loop-i-preserved : goal.loop-i-preserved
loop-i-preserved c = let L = c.loop-i in front-turn _ _ _ c.requires L.i c.loop-i-test.true L.invariant (ap (λ (t : Triple). t.kind) (sym c.triple_at.ensures) ∙ c.if-triple_at-ne14.false)

pub returns : goal.returns
returns c =
    let L = c.loop-i in
    let z = c.loop-i-test.false in
    let e : c.args.n ≡ L.i = omega arith in
    e ∙ front-end _ _ _ c.requires L.i (omega arith) L.invariant
