use Rattle.std.proofs.Common.{refl, ◌∙◌, arith}
use Rattle.sheet.specs.Rows.{rows}
use Rattle.sheet.proofs.RowLaws.{ends-held}
use Rattle.sheet.proofs.Declarations.{entry-found, entry-lacking}
use Rattle.sheet.proofs.Binding.{binding-start, binding-asks, binding-next, binding-done}
use Rattle.sheet.proofs.bind_types.Goals as goal

pub loop-entry-init : goal.loop-entry-init
loop-entry-init c = (binding-start c.requires.0 c.told-last c.requires.1, refl, refl)

pub entry_at-requires : goal.entry_at-requires
entry_at-requires c = let B = c.loop-entry.invariant.0 in ends-held c.loop-entry.d B.same B.ends c.loop-entry.at

pub bind_type-requires : goal.bind_type-requires
bind_type-requires c = let B = c.loop-entry.invariant.0 in binding-asks B (entry-found (rows c.args.d.now) c.loop-entry.at B.same c.in-Some.ensures)

pub loop-entry-smaller : goal.loop-entry-smaller
loop-entry-smaller c =
    let B = c.loop-entry.invariant.0 in
    let E = entry-found (rows c.args.d.now) c.loop-entry.at B.same c.in-Some.ensures in
    let h = E.within in
    let x = (binding-next B E c.bind_type.ensures).1 in
    omega arith

pub loop-entry-preserved : goal.loop-entry-preserved
loop-entry-preserved c =
    let L = c.loop-entry.invariant in
    let x = binding-next L.0 (entry-found (rows c.args.d.now) c.loop-entry.at L.0.same c.in-Some.ensures) c.bind_type.ensures in
    (x.0, x.2 ∙ L.1, x.3 ∙ L.2)

pub returns : goal.returns
returns c =
    let L = c.loop-entry.invariant in
    let x = binding-done L.0 (entry-lacking (rows c.args.d.now) c.loop-entry.at L.0.same c.in_default.ensures) in
    (x.0 ∙ L.1, x.1 ∙ L.2)
