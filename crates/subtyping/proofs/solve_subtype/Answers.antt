use Rattle.std.proofs.Common.{ap, ◌∙◌, Err}
use Rattle.subtyping.proofs.Comparing.{meet-asks, same-leaves, over-leaves, differ-asks, differ-report}
use Rattle.operations.specs.State.{way_in}
use Rattle.subtyping.proofs.solve_subtype.Goals as goal

pub compare-requires : goal.compare-requires
compare-requires c = meet-asks c.requires c.new.ensures

pub subtype_out-requires : goal.subtype_out-requires
subtype_out-requires c = let p = c.requires in
    (p, differ-asks p c.new.ensures c.compare.ensures (c.in-Err-Differ.is ∙ ap Err c.in-Err-Differ.field-0-is))

pub returns-in-Ok : goal.returns-in-Ok
returns-in-Ok c = let q = same-leaves c.requires c.new.ensures c.compare.ensures c.in-Ok.is in
    (q.0 (way_in c.args.strict c.args.w c.args.book.now).scope, q.1)

pub returns-in-Err-Differ : goal.returns-in-Err-Differ
returns-in-Err-Differ c = let S = c.subtype_out.ensures in
    (S.0, differ-report c.requires c.new.ensures c.compare.ensures (c.in-Err-Differ.is ∙ ap Err c.in-Err-Differ.field-0-is) S.1)

pub returns-in-Err-Over : goal.returns-in-Err-Over
returns-in-Err-Over c = let q = over-leaves c.requires c.new.ensures c.compare.ensures (c.in-Err-Over.is ∙ ap Err c.in-Err-Over.field-0-is) c.refuse.ensures.0 in
    (q.0 (way_in c.args.strict c.args.w c.args.book.now).scope, q.1)
