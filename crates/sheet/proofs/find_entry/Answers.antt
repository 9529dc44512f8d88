use Rattle.std.proofs.Common.{sym, ◌∙◌, arith}
use Rattle.sheet.specs.Rows.{rows, linked}
use Rattle.sheet.proofs.Lines.{line-from}
use Rattle.sheet.proofs.Links.{placed_at}
use Rattle.sheet.proofs.find_entry.Goals as goal

pub overflow_sub-result : goal.overflow_sub-result
overflow_sub-result c =
    let e = c.part_line.ensures in
    let h = line-from (rows c.args.s.now) c.in_ok-line.line 1 in
    omega arith

pub returns : goal.returns
returns c =
    let a = c.args in
    placed_at (rows a.s.now) (linked a.s.now a.kind a.name) (sym c.linked_line.ensures ∙ c.in_ok-line.was) c.part_line.ensures ∙ c.requires.found a.kind a.name
