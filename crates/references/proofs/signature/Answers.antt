use Rattle.std.proofs.Common.{sym, ap, ◌∙◌, arith}
use Rattle.spelling.specs.declared.Triple.{Triple}
use Rattle.sheet.specs.Plan.{line_node}
use Rattle.sheet.proofs.RowLaws.{length-rows}
use Rattle.references.specs.Signatures.{arrow_head}
use Rattle.references.proofs.Signs.{sign-more, sign-ends, sign-turn, sign-stop}
use Rattle.references.proofs.signature.Goals as goal

pub overflow_add-first : goal.overflow_add-first
overflow_add-first c = let h = c.requires.1 in let m = length-rows c.args.s.now in let t = c.loop-i-test.true in omega arith

pub overflow_add-first-in-loop-i : goal.overflow_add-first-in-loop-i
overflow_add-first-in-loop-i c = let h = c.requires.1 in let m = length-rows c.args.s.now in let t = c.loop-i-test.true in omega arith

pub overflow_add-first-in-loop-i-2 : goal.overflow_add-first-in-loop-i-2
overflow_add-first-in-loop-i-2 c = let h = c.requires.1 in let m = length-rows c.args.s.now in let t = c.loop-i-test.true in omega arith

pub overflow_sub-i : goal.overflow_sub-i
overflow_sub-i c =
    let a = sym (ap (λ (t : Triple). arrow_head (line_node t)) c.triple_at.ensures) ∙ sym c.is_arrow.ensures ∙ c.if-is_arrow.true in
    (sign-ends _ _ _ c.requires.1 (c.loop-i.invariant c.requires.1) a _ c.part_line.ensures).0

pub overflow_add-arity : goal.overflow_add-arity
overflow_add-arity c =
    let f = (c.loop-i.invariant c.requires.1).few in
    let t = c.loop-i-test.true in
    let h = c.requires.1 in
    let m = length-rows c.args.s.now in
    omega arith

pub loop-i-smaller : goal.loop-i-smaller
loop-i-smaller c =
    let a = sym (ap (λ (t : Triple). arrow_head (line_node t)) c.triple_at.ensures) ∙ sym c.is_arrow.ensures ∙ c.if-is_arrow.true in
    let b = sign-ends _ _ _ c.requires.1 (c.loop-i.invariant c.requires.1) a _ c.part_line.ensures in
    omega (arith, b.0, b.1, b.2)

pub loop-i-preserved : goal.loop-i-preserved
loop-i-preserved c h =
    let a = sym (ap (λ (t : Triple). arrow_head (line_node t)) c.triple_at.ensures) ∙ sym c.is_arrow.ensures ∙ c.if-is_arrow.true in
    sign-turn _ _ _ h (c.loop-i.invariant h) a _ c.part_line.ensures

pub returns-else-is_arrow : goal.returns-else-is_arrow
returns-else-is_arrow c =
    let S = c.loop-i.invariant c.requires.1 in
    let d = sign-stop _ _ _ c.requires.1 S (sym (ap (λ (t : Triple). arrow_head (line_node t)) c.triple_at.ensures) ∙ sym c.is_arrow.ensures ∙ c.if-is_arrow.false) in
    (S.within, d.0, d.1)

pub returns-after-loop-i : goal.returns-after-loop-i
returns-after-loop-i c = absurd (let z = c.loop-i-test.false in let s = sign-more _ _ _ c.requires.1 (c.loop-i.invariant c.requires.1) in omega arith)
