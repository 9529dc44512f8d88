use Rattle.std.proofs.Common.{refl}
use Rattle.sheet.specs.Rows.{rows}
use Rattle.applying.specs.Applying.{env_on}
use Rattle.inferring.proofs.Views.{viewed, value-fits, type-lambda-view}
use Rattle.inferring.proofs.type_lambda_term.Goals as goal

pub value_at-name-requires : goal.value_at-name-requires
value_at-name-requires c = value-fits c.requires refl

pub returns : goal.returns
returns c = let p = c.requires in
    let s = c.args.s.now in
    viewed p (type-lambda-view p refl c.value_at-name.ensures c.part_at-e.ensures) (λ m. c.infer_type_lambda.ensures (env_on s) m (rows s))
