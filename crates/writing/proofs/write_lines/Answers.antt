use mathlib.Core.Path.{refl, sym, ap, ◌∙◌}
use Prim.Native.Nat.{◌*◌}
use lib.Seq.{sets}
use borrow.Author.Rules.{rules}
use Rattle.sizes.specs.Sizes.{line_length}
use Rattle.spelling.specs.Text.{line_text}
use Rattle.spelling.specs.declared.Triple.{Triple}
use Rattle.writing.specs.Writing.{tame}
use Rattle.writing.proofs.Laws.{line-start, line-again, line-done}
use Rattle.writing.proofs.write_lines.Goals as goal

pub loop-i-init : goal.loop-i-init
loop-i-init c = (search rules, refl, line-start _ _)

pub loop-i-preserved : goal.loop-i-preserved
loop-i-preserved c = let v = c.loop-i.invariant in
    (search rules, c.write_line.auto.out ∙ v.1, line-again _ _ _ _ _ c.loop-i-test.true (c.write_line.ensures ∙ ap (λ (t : Triple). sets c.loop-i.text (line_length * c.loop-i.i) (line_text t)) (c.tamed.ensures ∙ ap tame c.triple_at.ensures)) ∙ v.2)

pub returns : goal.returns
returns c = let v = c.loop-i.invariant in
    sym (line-done _ _ _ _ _ c.loop-i-test.false) ∙ v.2
