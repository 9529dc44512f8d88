use Rattle.std.proofs.Common.{sym, ◌∙◌, length}
use Rattle.spelling.proofs.Laws.{blank_skip}
use Rattle.spelling.proofs.spaces_at_once.Goals as goal

pub returns-then-sixteen_spaces-clause-rest : goal.returns-then-sixteen_spaces-clause-rest
returns-then-sixteen_spaces-clause-rest c =
    let s = c.args.bytes.now in blank_skip s 16 0 (length s) c.if-bytes-ge16.true (sym c.sixteen_spaces.ensures ∙ c.if-sixteen_spaces.true)
