use Rattle.telling.proofs.Telling.{room, telling}
use Rattle.std.proofs.Common.{rules}
use Rattle.telling.proofs.Desk.tell.Goals as goal

pub write_answer-bytes-requires : goal.write_answer-bytes-requires
write_answer-bytes-requires c = room c.args.self.now.text c.check_type-answer.ensures (search rules)

pub returns-clause-told : goal.returns-clause-told
returns-clause-told c = telling c.args.self.now.text c.check_type-answer.ensures (search rules) c.write_answer-bytes.ensures.0
