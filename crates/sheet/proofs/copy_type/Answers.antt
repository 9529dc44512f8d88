use Rattle.std.proofs.Common.{◌+◌, ◌*◌, length-set, get_or, sym, ◌∙◌, arith}
use Rattle.sheet.specs.Plan.{no_triple}
use Rattle.sheet.specs.Rows.{rows}
use Rattle.sheet.proofs.RowLaws.{row-kind, row_count}
use Rattle.sheet.proofs.Copies.{rest-narrow, copy-turn, copy-end, number_small}
use Rattle.sheet.proofs.copy_type.Goals as goal

pub overflow_cast-dst : goal.overflow_cast-dst
overflow_cast-dst c = let k = row-kind c.args.s.now (c.args.first + c.loop-i.i) in rw c.triple_at-t.ensures (omega arith)

pub overflow_cast-dst-in-loop-i : goal.overflow_cast-dst-in-loop-i
overflow_cast-dst-in-loop-i c =
    let a = c.args in
    let i = c.loop-i.i in
    let ls = rows a.s.now in
    let v = (rest-narrow ls a.first a.n i c.requires.1 c.loop-i-test.true c.loop-i.invariant.1).0 in
    let k = number_small (get_or ls (a.first + i) no_triple) (row_count a.s.now (a.first + i)) v in
    rw (c.node_number.ensures, c.triple_at-t.ensures) (omega arith)

pub loop-i-preserved : goal.loop-i-preserved
loop-i-preserved c =
    let a = c.args in
    let L = c.loop-i in
    let ls = rows a.s.now in (
      simp length-set L.invariant.0,
      (rest-narrow ls a.first a.n L.i c.requires.1 c.loop-i-test.true L.invariant.1).1,
      L.invariant.2 ∙ rw (c.node_number.ensures, c.triple_at-t.ensures) (copy-turn ls a.first a.n L.i c.requires.1 c.loop-i-test.true L.dst a.at),
    )

pub returns : goal.returns
returns c =
    let a = c.args in
    let L = c.loop-i in
    sym (L.invariant.2 ∙ copy-end (rows a.s.now) a.first a.n L.i c.requires.1 c.loop-i-test.false L.dst (a.at + 2 * L.i))
