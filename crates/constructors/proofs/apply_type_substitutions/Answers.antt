use Rattle.std.proofs.Common.{◌+◌, ◌*◌, ◌-◌, ◌<◌, sym, ◌∙◌, arith, length}
use Rattle.sheet.specs.Rows.{rows}
use Rattle.sheet.proofs.RowLaws.{length-rows, row-kind, row_count}
use Rattle.sheet.proofs.Copies.{copy-narrow}
use Rattle.constructors.proofs.Openings.{part-narrow, open-place, open-end}
use Rattle.constructors.proofs.apply_type_substitutions.Goals as goal

pub overflow_add-at : goal.overflow_add-at
overflow_add-at c = let h = c.requires.2 in let t = c.loop-i-test.true in let m = length-rows c.args.s.now in omega arith

pub binder_at-requires : goal.binder_at-requires
binder_at-requires c = let h = c.requires.2 in let t = c.loop-i-test.true in let m = length-rows c.args.s.now in omega arith

pub open_node-q-requires : goal.open_node-q-requires
open_node-q-requires c = let a = c.args in
    let p = c.requires in
    let s = a.s.now in
    let i = c.loop-i.i in
    let t = c.loop-i-test.true in
    let f = p.2 in
    let h : a.line + i < length (rows s) = omega arith in
    let v = (copy-narrow (rows s) (a.line + i) (a.n - i) h (omega arith) (part-narrow (rows s) a.line a.n p.3 i (a.n - i) (omega arith))).0 in
    rw c.triple_at.ensures (row-kind s (a.line + i), row_count s (a.line + i), v, c.binder_at.ensures.1, p.1)

pub loop-i-preserved : goal.loop-i-preserved
loop-i-preserved c = let L = c.loop-i in
    let a = c.args in
    L.invariant ∙ rw (c.open_node-q.ensures, c.binder_at.ensures.0, c.triple_at.ensures) (open-place a.s.now a.base L.out a.line a.n L.i c.loop-i-test.true)

pub returns : goal.returns
returns c = let L = c.loop-i in
    let a = c.args in
    sym (L.invariant ∙ open-end a.s.now a.base L.out (2 * L.i) (a.line + L.i) (a.n - L.i) (let z = c.loop-i-test.false in omega arith))
