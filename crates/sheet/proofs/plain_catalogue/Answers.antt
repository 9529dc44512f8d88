use Rattle.std.proofs.Common.{drop}
use Rattle.sheet.specs.Rows.{rows}
use Rattle.sheet.proofs.Marks.{zeros-tell}
use Rattle.sheet.proofs.plain_catalogue.Goals as goal

pub returns : goal.returns
returns c =
    let a = c.args in
    let term = drop a.term (rows a.s.now) in
    c.plain_entries.ensures term (zeros-tell term _ c.mark_names.ensures c.requires.1)
