use Rattle.std.proofs.Common.{refl, sym, ◌∙◌, arith}
use Rattle.std.proofs.lemmas.Result.{err_from_is_err_and}
use Rattle.book.proofs.Comparing.{by_left, by_right, by-node, in_left, in_right, here-going, first-going, then-going, last-going, turn-asks, turn-sides, turn-less, turn-going, turn-ends}
use Rattle.book.proofs.+same_first_same_parts.Goals as goal

pub same_first-same_parts-requires : goal.same_first-same_parts-requires
same_first-same_parts-requires t c = let a = c.args in
    in_left a.l.now a.r.now a.book.now a.c c.requires.0 c.requires.1 t c.decreases (sym c.in-Some.is ∙ c.find.ensures) refl

pub same_first-returns-in_err-d : goal.same_first-returns-in_err-d
same_first-returns-in_err-d t c = let a = c.args in
    let e = err_from_is_err_and c.from_residual.result c.from_residual.ensures.1 in
    rw (e.1, e.2) (by_left a.l.now a.r.now a.book.now a.c (sym c.in-Some.is ∙ c.find.ensures) refl (sym c.in_err-d.was ∙ c.same_parts.ensures) refl)

pub same_first-returns-in-Some : goal.same_first-returns-in-Some
same_first-returns-in-Some t c = let a = c.args in
    by_left a.l.now a.r.now a.book.now a.c (sym c.in-Some.is ∙ c.find.ensures) refl (sym c.in_ok-d.was ∙ c.same_parts.ensures) refl

pub same_first-same_parts-requires-in-Some-find : goal.same_first-same_parts-requires-in-Some-find
same_first-same_parts-requires-in-Some-find t c = let a = c.args in
    in_right a.l.now a.r.now a.book.now a.c c.requires.0 c.requires.1 t c.decreases (sym c.in-Some-find.is ∙ c.find-2.ensures) refl

pub same_first-returns-in_err-d-2 : goal.same_first-returns-in_err-d-2
same_first-returns-in_err-d-2 t c = let a = c.args in
    let e = err_from_is_err_and c.from_residual-in_err-d-2.result c.from_residual-in_err-d-2.ensures.1 in
    rw (e.1, e.2) (by_right a.l.now a.r.now a.book.now a.c (sym c.in_default.is ∙ c.find.ensures) (sym c.in-Some-find.is ∙ c.find-2.ensures) refl (sym c.in_err-d-2.was ∙ c.same_parts-in-Some-find.ensures) refl)

pub same_first-returns-in-Some-find : goal.same_first-returns-in-Some-find
same_first-returns-in-Some-find t c = let a = c.args in
    by_right a.l.now a.r.now a.book.now a.c (sym c.in_default.is ∙ c.find.ensures) (sym c.in-Some-find.is ∙ c.find-2.ensures) refl (sym c.in_ok-d-2.was ∙ c.same_parts-in-Some-find.ensures) refl

pub same_first-returns : goal.same_first-returns
same_first-returns t c = let a = c.args in
    by-node a.l.now a.r.now a.book.now a.c (sym c.in_default.is ∙ c.find.ensures) (sym c.in_default-find.is ∙ c.find-2.ensures) c.same_node.ensures

pub same_parts-loop-d-init : goal.same_parts-loop-d-init
same_parts-loop-d-init t c = here-going (first-going c.requires c.skip_same-d.ensures).asks

pub same_parts-same_first-requires : goal.same_parts-same_first-requires
same_parts-same_first-requires t c = turn-asks (then-going (first-going c.requires c.skip_same-d.ensures) c.loop-d.invariant) c.loop-d-test.true t c.decreases

pub same_parts-returns-in_err-same_first : goal.same_parts-returns-in_err-same_first
same_parts-returns-in_err-same_first t c = let e = err_from_is_err_and c.from_residual.result c.from_residual.ensures.1 in
    rw (e.1, e.2) (turn-ends (then-going (first-going c.requires c.skip_same-d.ensures) c.loop-d.invariant) c.loop-d-test.true c.same_first.ensures _ c.in_err-same_first.was)

pub same_parts-skip_same-d-requires-in-loop-d : goal.same_parts-skip_same-d-requires-in-loop-d
same_parts-skip_same-d-requires-in-loop-d t c = turn-sides c.loop-d.invariant c.loop-d-test.true c.same_first.ensures c.in_ok-same_first.was

pub same_parts-loop-d-smaller : goal.same_parts-loop-d-smaller
same_parts-loop-d-smaller t c = turn-less c.loop-d.invariant c.loop-d-test.true c.same_first.ensures c.in_ok-same_first.was c.skip_same-d-in-loop-d.ensures

pub same_parts-loop-d-preserved : goal.same_parts-loop-d-preserved
same_parts-loop-d-preserved t c = turn-going c.loop-d.invariant c.loop-d-test.true c.same_first.ensures c.in_ok-same_first.was c.skip_same-d-in-loop-d.ensures

pub same_parts-returns : goal.same_parts-returns
same_parts-returns t c = last-going (then-going (first-going c.requires c.skip_same-d.ensures) c.loop-d.invariant) (let z = c.loop-d-test.false in omega arith)
