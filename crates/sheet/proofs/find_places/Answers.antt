use Rattle.std.proofs.Common.{arith, ◌+◌}
use Rattle.sheet.specs.Plan.{places_of}
use Rattle.sheet.specs.Rows.{rows}
use Rattle.sheet.proofs.Lines.{line-within}
use Rattle.sheet.proofs.RowLaws.{length-rows}
use Rattle.sheet.proofs.Declarations.{end-within}
use Rattle.sheet.proofs.find_places.Goals as goal

pub overflow_add-expected : goal.overflow_add-expected
overflow_add-expected c = let e = c.entries_end-expected.ensures in
    let h = end-within (rows c.args.s.now) in
    let m = length-rows c.args.s.now in
    omega arith

pub overflow_add-term : goal.overflow_add-term
overflow_add-term c = let e = c.entries_end-expected.ensures in
    let p = c.part_line-term.ensures in
    let ls = rows c.args.s.now in
    let h = end-within ls in
    let w = line-within ls (c.entries_end-expected.result + 1) 1 (omega arith) in
    let m = length-rows c.args.s.now in
    omega arith

pub returns : goal.returns
unfolding places_of
returns c = rw (c.part_line-term.ensures, c.entries_end-expected.ensures)
