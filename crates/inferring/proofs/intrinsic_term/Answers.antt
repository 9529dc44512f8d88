use Rattle.std.proofs.Common.{refl, ap, ◌<◌, arith, rules}
use Rattle.spelling.specs.declared.Triple.{Triple}
use Rattle.sheet.specs.Rows.{rows}
use Rattle.sheet.proofs.RowLaws.{row_count}
use Rattle.applying.specs.Applying.{env_on}
use Rattle.inferring.proofs.Views.{ruled, value-fits, intrinsic-rule}
use Rattle.inferring.proofs.intrinsic_term.Goals as goal

pub value_at-name-requires : goal.value_at-name-requires
value_at-name-requires c = value-fits c.requires refl

pub overflow_cast-count : goal.overflow_cast-count
overflow_cast-count c = let n = row_count c.args.s.now c.args.at in
    let e = ap (λ (t : Triple). t.count) c.triple_at-count.ensures in
    let z : c.triple_at-count.result.count < 4294967296 = omega arith in search rules

pub returns : goal.returns
returns c = let p = c.requires in
    let s = c.args.s.now in
    ruled p (intrinsic-rule p refl c.value_at-name.ensures (ap (λ (t : Triple). t.count) c.triple_at-count.ensures) c.part_at-e.ensures) (λ m. c.infer_intrinsic.ensures (env_on s) m (rows s))
