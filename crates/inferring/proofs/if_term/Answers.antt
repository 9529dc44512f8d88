use Rattle.std.proofs.Common.{refl}
use Rattle.sheet.specs.Rows.{rows}
use Rattle.applying.specs.Applying.{env_on}
use Rattle.inferring.proofs.Views.{viewed, if-view}
use Rattle.inferring.proofs.if_term.Goals as goal

pub returns : goal.returns
returns c = let p = c.requires in
    let s = c.args.s.now in
    viewed p (if-view p refl c.part_at-e1.ensures c.part_at-e2.ensures c.part_at-e3.ensures) (λ m. c.infer_if.ensures (env_on s) m (rows s))
