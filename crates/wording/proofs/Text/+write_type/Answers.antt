use Rattle.std.proofs.Common.{◌≡◌, ◌∙◌, [], ◌∷◌, arith, refl}
use Rattle.std.proofs.lemmas.Bool.Decides.{nat_tests}
use Rattle.wording.specs.Spelt.{text, leaf, bare}
use Rattle.wording.proofs.Pieces.{texts, both, lacking, opened, place_of, place-first, place-other, parts-more, parts-lacking}
use Rattle.wording.proofs.Text.+write_type.Goals.{write_parts-then-k-eq0, write_parts-else-k-eq0}
use Rattle.wording.proofs.Text.+write_type.Goals as goal

pub write_node-returns-in-13 : goal.write_node-returns-in-13
unfolding bare
write_node-returns-in-13 t c = rw c.in-13.is c.write_pair.ensures

pub write_node-returns-in-14 : goal.write_node-returns-in-14
unfolding bare
write_node-returns-in-14 t c = rw c.in-14.is (both (texts c.put_quantifier.ensures) c.write_type.ensures.reached)

pub write_node-returns-in-15 : goal.write_node-returns-in-15
unfolding bare
write_node-returns-in-15 t c = rw c.in-15.is c.write_pair-in-15.ensures

pub write_node-returns-in-16 : goal.write_node-returns-in-16
unfolding bare
write_node-returns-in-16 t c = rw c.in-16.is c.write_product.ensures

pub write_node-returns-in_default : goal.write_node-returns-in_default
unfolding bare
write_node-returns-in_default t c =
    let e : bare c.args.kind c.args.value ≡ text (leaf c.args.kind c.args.value) ∷ [] = grind (arith, nat_tests) in
    rw e (texts c.put_leaf.ensures)

pub write_parts-returns-then-rest-lt2 : goal.write_parts-returns-then-rest-lt2
write_parts-returns-then-rest-lt2 t c = parts-lacking c.loop-k.k c.args.count (omega arith) c.if-rest-lt2.true c.loop-k.invariant

pub write_parts-returns : goal.write_parts-returns
write_parts-returns t c = let e : c.loop-k.k ≡ c.args.count = omega arith in
    rw e at c.loop-k.invariant

pub write_parts-loop-k-preserved : goal.write_parts-loop-k-preserved
write_parts-loop-k-preserved t c =
    let k = c.loop-k.k in
    let e : c.if-k-eq0.p ≡ place_of k = elim c.if-k-eq0.branch [
      | write_parts-then-k-eq0 w ↦ w.p-is ∙ place-first k w.if-k-eq0.true
      | write_parts-else-k-eq0 w ↦ w.p-is ∙ place-other k w.if-k-eq0.false
    ] in
    parts-more k c.loop-k.invariant (rw e at c.write_type-rest.ensures.reached)

pub write_product-returns : goal.write_product-returns
write_product-returns t c =
    both (texts c.put.ensures) (both c.write_parts-rest.ensures (both (texts (rw c.as_bytes.ensures.value at c.put_either.ensures)) (texts c.put-2.ensures)))

pub write_type-returns-in_default-clause-reached : goal.write_type-returns-in_default-clause-reached
write_type-returns-in_default-clause-reached t c = lacking c.args.p c.in_default.len_below

pub write_type-returns-clause-reached : goal.write_type-returns-clause-reached
write_type-returns-clause-reached t c =
    opened c.args.p c.in-len2-up.len_at_least refl refl refl c.in_parentheses-parentheses.ensures
    (both (texts (rw c.separator.ensures at c.put.ensures)) (both (texts c.put_either.ensures) (both c.write_node-after.ensures (texts c.put_either-2.ensures))))
