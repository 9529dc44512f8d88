use Rattle.std.proofs.Common.{◌∙◌, ap, arith, rules, length}
use Rattle.columns.specs.Columns.{answer_text}
use Rattle.columns.proofs.Laws.{columns_done, columns-length, columns-turn}
use Rattle.columns.proofs.write_answer.Goals as goal

pub loop-n-init : goal.loop-n-init
unfolding answer_text
loop-n-init c = rw c.numbers-n-items.ensures (search rules)

pub write_column-end-requires : goal.write_column-end-requires
write_column-end-requires c = let h = columns-length c.numbers-n-items.result c.loop-n.n-index (search rules) in
    omega arith

pub loop-n-preserved : goal.loop-n-preserved
loop-n-preserved c =
    let h = columns-length c.numbers-n-items.result c.loop-n.n-index (search rules) in
    record {
      text = columns-turn c.numbers-n-items.result c.loop-n.n-index (search rules) c.write_column-end.ensures ∙ c.loop-n.invariant.text;
      bytes = let e = c.write_column-end.ensures.next in omega arith;
    }

pub bounds-out-end : goal.bounds-out-end
bounds-out-end c = let h = ap length (columns_done c.numbers-n-items.result c.loop-n.n-index (search rules)) in
    omega arith

pub returns : goal.returns
returns c = let e = columns_done c.numbers-n-items.result c.loop-n.n-index (search rules) in
    (rw e at c.loop-n.invariant.text, rw e at c.loop-n.invariant.bytes)
