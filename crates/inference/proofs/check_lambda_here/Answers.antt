use Rattle.inference.proofs.Here.{here-does}
use Rattle.inference.proofs.check_lambda_here.Goals as goal

pub returns : goal.returns
returns c = here-does c.requires c.args.name c.args.body c.move_up.ensures c.move_up-2.ensures c.copy_type.ensures c.copy_type-2.ensures c.lay-b1.ensures c.lay-b2.ensures c.lay-b3.ensures
