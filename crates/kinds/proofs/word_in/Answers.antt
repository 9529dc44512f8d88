use Rattle.std.proofs.Common.{◌≡◌, get_or, arith, ap, ◌∙◌}
use Rattle.std.proofs.lemmas.Grind.{common_steps}
use Rattle.std.proofs.lemmas.Option.{gets}
use Rattle.kinds.specs.Kinds.{row_in}
use Rattle.kinds.proofs.Rows.{word-read, word-row}
use Rattle.kinds.proofs.word_in.Goals as goal

pub returns-clause-row : goal.returns-clause-row
returns-clause-row c =
    let e : c.unwrap_or.result ≡ get_or c.args.words.now c.args.kind 0 = grind (arith, common_steps, gets) in
    ap row_in (e ∙ word-read c.args.words.now c.args.kind c.told-words c.requires) ∙ word-row c.args.kind

pub returns-clause-word : goal.returns-clause-word
returns-clause-word c =
    let e : c.unwrap_or.result ≡ get_or c.args.words.now c.args.kind 0 = grind (arith, common_steps, gets) in
    e ∙ word-read c.args.words.now c.args.kind c.told-words c.requires
