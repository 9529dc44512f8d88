use Rattle.std.proofs.Common.{sym, arith, ◌≡◌, ◌∙◌, ◌+◌, Some, None}
use Rattle.std.proofs.lemmas.Result.{err_from_is_err_and}
use Rattle.grammar.specs.Grammar.{part}
use Rattle.grammar.proofs.Steps.{one_read, one-stop, all_read, arm-stop, body-stop, arm_read, arms-read, misspelt, on_line, no_part, parted, types-stop, terms-stop, whole-parts, whole-arms, whole-none, ends-within}
use Rattle.grammar.proofs.+part.Goals as goal

-- ---- one part
pub read_part-returns-in_err-t : goal.read_part-returns-in_err-t
read_part-returns-in_err-t t c =
    let a = c.args in
    let p = err_from_is_err_and c.from_residual.result c.from_residual.ensures.1 in
    let n : c.line_at.result ≡ None = grind arith in
    let d : c.in_err-t.field-0.0 ≡ a.at + 1 = grind arith in
    rw (p.1, p.2, d) (misspelt a.s.now (part a.sort) a.at (sym c.line_at.ensures ∙ n))

pub read_begun-returns-in_err-parts : goal.read_begun-returns-in_err-parts
read_begun-returns-in_err-parts t c =
    let a = c.args in
    let p = err_from_is_err_and c.from_residual.result c.from_residual.ensures.1 in
    let n : c.head_of.result ≡ None = grind arith in
    let d : c.in_err-parts.field-0.0 ≡ a.at + 1 = grind arith in
    rw (p.1, p.2, d) (no_part a.s.now a.sort a.at a.t c.requires.1 (sym c.head_of.ensures ∙ n))

pub read_begun-read_follow-requires : goal.read_begun-read_follow-requires
read_begun-read_follow-requires t c = let h = on_line c.args.s.now c.args.at c.requires.1 in (omega arith, omega arith)

pub read_begun-returns : goal.read_begun-returns
read_begun-returns t c =
    let a = c.args in
    let n : c.head_of.result ≡ Some c.in_ok-parts.parts = grind arith in
    c.read_follow.ensures ∙ parted a.s.now a.sort a.at a.t c.requires.1 (sym c.head_of.ensures ∙ n)

-- ---- parts of a sort
pub read_parts-read_part-requires : goal.read_parts-read_part-requires
read_parts-read_part-requires t c = let i = c.loop.invariant in (omega arith, i.within)

pub read_parts-loop-preserved : goal.read_parts-loop-preserved
read_parts-loop-preserved t c =
    let a = c.args in
    let i = c.loop.invariant in
    let w = ends-within a.s.now _ c.loop.next i.within c.in_ok-next.ensures in
    record {
      after = omega arith;
      within = w.1;
      rest = one_read a.s.now (part a.sort) a.count c.loop.counter c.loop.next c.loop-test.true c.in_ok-next.ensures ∙ i.rest;
    }

pub read_parts-returns-in_err-next : goal.read_parts-returns-in_err-next
read_parts-returns-in_err-next t c =
    let a = c.args in
    let p = err_from_is_err_and c.from_residual.result c.from_residual.ensures.1 in
    rw (p.1, p.2) (one-stop a.s.now (part a.sort) a.count c.loop.counter c.loop.next c.loop-test.true c.in_err-next.ensures ∙ c.loop.invariant.rest)

pub read_parts-returns : goal.read_parts-returns
read_parts-returns t c = let a = c.args in all_read a.s.now (part a.sort) a.count c.loop.counter c.loop.next c.loop-test.false ∙ c.loop.invariant.rest

-- ---- types, then terms, then the others
pub read_follow-returns-in_err-terms : goal.read_follow-returns-in_err-terms
read_follow-returns-in_err-terms t c =
    let p = err_from_is_err_and c.from_residual.result c.from_residual.ensures.1 in
    rw (p.1, p.2) (types-stop _ _ _ _ _ _ c.in_err-terms.ensures)

pub read_follow-read_parts-requires-2 : goal.read_follow-read_parts-requires-2
read_follow-read_parts-requires-2 t c = let w = ends-within c.args.s.now _ c.args.at c.requires c.in_ok-terms.ensures in (omega arith, w.1)

pub read_follow-returns-in_err-rest : goal.read_follow-returns-in_err-rest
read_follow-returns-in_err-rest t c =
    let p = err_from_is_err_and c.from_residual-in_err-rest.result c.from_residual-in_err-rest.ensures.1 in
    rw (p.1, p.2) (terms-stop _ _ _ _ _ _ c.in_ok-terms.ensures c.in_err-rest.ensures)

pub read_follow-read_arms-requires : goal.read_follow-read_arms-requires
read_follow-read_arms-requires t c =
    let w = ends-within c.args.s.now _ c.args.at c.requires c.in_ok-terms.ensures in
    let v = ends-within c.args.s.now _ _ w.1 c.in_ok-rest.ensures in
    (omega arith, v.1)

pub read_follow-read_parts-requires-in-Type : goal.read_follow-read_parts-requires-in-Type
read_follow-read_parts-requires-in-Type t c =
    let w = ends-within c.args.s.now _ c.args.at c.requires c.in_ok-terms.ensures in
    let v = ends-within c.args.s.now _ _ w.1 c.in_ok-rest.ensures in
    (omega arith, v.1)

pub read_follow-returns-in-Arm : goal.read_follow-returns-in-Arm
read_follow-returns-in-Arm t c = c.read_arms.ensures ∙ whole-arms _ _ _ _ _ _ c.in_ok-terms.ensures c.in_ok-rest.ensures c.in-Arm.is

pub read_follow-returns-in-Type : goal.read_follow-returns-in-Type
read_follow-returns-in-Type t c = c.read_parts-in-Type.ensures ∙ whole-parts _ _ _ _ _ _ c.in_ok-terms.ensures c.in_ok-rest.ensures c.in-Type.is

pub read_follow-returns-in_default : goal.read_follow-returns-in_default
read_follow-returns-in_default t c =
    let n = c.in_default in
    whole-none _ _ _ _ _ _ c.in_ok-terms.ensures c.in_ok-rest.ensures n.not-Type n.not-Term n.not-Pattern n.not-Arm

-- ---- arms
pub read_arms-read_part-requires : goal.read_arms-read_part-requires
read_arms-read_part-requires t c = let i = c.loop.invariant in (omega arith, i.within)

pub read_arms-returns-in_err-body : goal.read_arms-returns-in_err-body
read_arms-returns-in_err-body t c =
    let a = c.args in
    let p = err_from_is_err_and c.from_residual.result c.from_residual.ensures.1 in
    rw (p.1, p.2) (arm-stop a.s.now a.count c.loop.counter c.loop.next c.loop-test.true c.in_err-body.ensures ∙ c.loop.invariant.rest)

pub read_arms-read_part-requires-in-loop : goal.read_arms-read_part-requires-in-loop
read_arms-read_part-requires-in-loop t c =
    let i = c.loop.invariant in
    let w = ends-within c.args.s.now _ c.loop.next i.within c.in_ok-body.ensures in
    (omega arith, w.1)

pub read_arms-returns-in_err-next : goal.read_arms-returns-in_err-next
read_arms-returns-in_err-next t c =
    let a = c.args in
    let p = err_from_is_err_and c.from_residual-in_err-next.result c.from_residual-in_err-next.ensures.1 in
    rw (p.1, p.2) (body-stop a.s.now a.count c.loop.counter c.loop.next c.loop-test.true c.in_ok-body.ensures c.in_err-next.ensures ∙ c.loop.invariant.rest)

pub read_arms-loop-preserved : goal.read_arms-loop-preserved
read_arms-loop-preserved t c =
    let a = c.args in
    let i = c.loop.invariant in
    let w = ends-within a.s.now _ c.loop.next i.within c.in_ok-body.ensures in
    let v = ends-within a.s.now _ _ w.1 c.in_ok-next.ensures in
    record {
      after = omega arith;
      within = v.1;
      rest = arm_read a.s.now a.count c.loop.counter c.loop.next c.loop-test.true c.in_ok-body.ensures c.in_ok-next.ensures ∙ i.rest;
    }

pub read_arms-returns : goal.read_arms-returns
read_arms-returns t c = let a = c.args in arms-read a.s.now a.count c.loop.counter c.loop.next c.loop-test.false ∙ c.loop.invariant.rest
