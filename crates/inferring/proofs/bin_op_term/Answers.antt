use Rattle.std.proofs.Common.{refl}
use Rattle.sheet.specs.Rows.{rows}
use Rattle.applying.specs.Applying.{env_on}
use Rattle.inferring.proofs.Views.{viewed, value-fits, bin-op-view}
use Rattle.inferring.proofs.bin_op_term.Goals as goal

pub value_at-op-requires : goal.value_at-op-requires
value_at-op-requires c = value-fits c.requires refl

pub returns : goal.returns
returns c = let p = c.requires in
    let s = c.args.s.now in
    viewed p (bin-op-view p refl c.value_at-op.ensures c.part_at-e1.ensures c.part_at-e2.ensures) (λ m. c.infer_bin_op.ensures (env_on s) m (rows s))
