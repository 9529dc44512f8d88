use Rattle.std.proofs.Common.{arith, ◌∙◌}
use Rattle.sheet.specs.Plan.{is_entry}
use Rattle.sheet.specs.Rows.{rows}
use Rattle.sheet.proofs.RowLaws.{length-rows}
use Rattle.sheet.proofs.Declarations.{seen, entry_is, entry_within, none-left}
use Rattle.sheet.proofs.entry_at.Goals as goal

pub overflow_add-result : goal.overflow_add-result
overflow_add-result c =
    let h = entry_within (rows c.args.s.now) c.args.at (seen is_entry c.triple_at-head.ensures c.is_entry.ensures c.if-is_entry.true) in
    let n = length-rows c.args.s.now in
    omega arith

pub end_at-requires : goal.end_at-requires
end_at-requires c =
    let h = entry_within (rows c.args.s.now) c.args.at (seen is_entry c.triple_at-head.ensures c.is_entry.ensures c.if-is_entry.true) in
    let n = length-rows c.args.s.now in
    omega arith

pub returns-then-is_entry : goal.returns-then-is_entry
returns-then-is_entry c =
    let ls = rows c.args.s.now in
    let at = c.args.at in
    let t = c.triple_at-head.ensures in
    let e = seen is_entry t c.is_entry.ensures c.if-is_entry.true in
    let h = entry_within ls at e in
    entry_is ls at h e t (c.end_at.ensures ∙ c.requires at (omega arith) h)

pub returns-else-is_entry : goal.returns-else-is_entry
returns-else-is_entry c =
    let n = none-left (rows c.args.s.now) c.args.at (seen is_entry c.triple_at-head.ensures c.is_entry.ensures c.if-is_entry.false) in
    rw n
