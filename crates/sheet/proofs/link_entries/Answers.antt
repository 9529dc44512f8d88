use Rattle.std.proofs.Common.{refl, ap, length, ◌∙◌, arith}
use Rattle.sheet.specs.Rows.{rows}
use Rattle.sheet.proofs.RowLaws.{ends-held}
use Rattle.sheet.proofs.Declarations.{entry-found, entry-lacking}
use Rattle.sheet.proofs.Links.{linking-start, linking-next, linking-done}
use Rattle.sheet.proofs.link_entries.Goals as goal

pub loop-entry-init : goal.loop-entry-init
loop-entry-init c = (linking-start c.args.d.now c.requires.0 c.requires.1, refl)

pub entry_at-requires : goal.entry_at-requires
entry_at-requires c = let L = c.loop-entry.invariant.0 in ends-held c.loop-entry.d L.same L.ends c.loop-entry.at

pub link_entry-requires : goal.link_entry-requires
link_entry-requires c =
    let L = c.loop-entry.invariant.0 in
    let E = entry-found (rows c.args.d.now) c.loop-entry.at L.same c.in-Some.ensures in
    let h = E.within in
    let n = ap length L.same in
    omega arith

pub loop-entry-smaller : goal.loop-entry-smaller
loop-entry-smaller c =
    let L = c.loop-entry.invariant.0 in
    let E = entry-found (rows c.args.d.now) c.loop-entry.at L.same c.in-Some.ensures in
    let h = E.within in
    let x = (linking-next L E c.link_entry.ensures).1 in
    omega arith

pub loop-entry-preserved : goal.loop-entry-preserved
loop-entry-preserved c =
    let L = c.loop-entry.invariant in
    let x = linking-next L.0 (entry-found (rows c.args.d.now) c.loop-entry.at L.0.same c.in-Some.ensures) c.link_entry.ensures in
    (x.0, x.2 ∙ L.1)

pub returns : goal.returns
returns c =
    let L = c.loop-entry.invariant in
    let x = linking-done L.0 (entry-lacking (rows c.args.d.now) c.loop-entry.at L.0.same c.in_default.ensures) in
    (x.0, x.1, x.2 ∙ L.1)
