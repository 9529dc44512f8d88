use Rattle.std.proofs.Common.{refl}
use Rattle.sheet.specs.Rows.{rows}
use Rattle.applying.specs.Applying.{env_on}
use Rattle.inferring.proofs.Views.{viewed, apply-view}
use Rattle.inferring.proofs.apply_term.Goals as goal

pub returns : goal.returns
returns c = let p = c.requires in
    let s = c.args.s.now in
    viewed p (apply-view p refl c.part_at-f.ensures c.part_at-e.ensures) (λ m. c.infer_apply.ensures (env_on s) m (rows s))
