use Rattle.std.proofs.Common.{ne_eqb, refl, sym, ap, ◌∙◌, arith}
use Rattle.spelling.specs.declared.Triple.{Triple}
use Rattle.sheet.specs.Rows.{rows}
use Rattle.sheet.proofs.RowLaws.{length-rows}
use Rattle.sheet.proofs.Declarations.{stands, entry-found, entry-lacking, entry_rises}
use Rattle.sheet.proofs.Fitting.{entry-on, entry-off, expected-on, expected-off}
use Rattle.sheet.proofs.top_ok.Goals as goal

pub returns-then-not-in_order : goal.returns-then-not-in_order
returns-then-not-in_order c =
    let ls = rows c.args.d.now in
    let L = c.loop-entry in
    let E = entry-found ls L.at refl c.in-Some.ensures in
    entry-off ls c.requires.1 L.at E.within E L.kind L.last c.in_order.ensures c.if-not-in_order.true ∙ L.invariant

pub loop-entry-smaller : goal.loop-entry-smaller
loop-entry-smaller c =
    let ls = rows c.args.d.now in
    let E = entry-found ls c.loop-entry.at refl c.in-Some.ensures in
    let r = entry_rises ls c.loop-entry.at E in
    let h = E.within in
    omega arith

pub loop-entry-preserved : goal.loop-entry-preserved
loop-entry-preserved c =
    let ls = rows c.args.d.now in
    let L = c.loop-entry in
    let E = entry-found ls L.at refl c.in-Some.ensures in
    entry-on ls c.requires.1 L.at E.within E L.kind L.last c.in_order.ensures c.if-not-in_order.false ∙ L.invariant

pub end_at-requires : goal.end_at-requires
end_at-requires c =
    let k = c.if-triple_at-eq3.true in
    let h = stands (rows c.args.d.now) c.loop-entry.at c.triple_at.ensures (λ e. omega arith) in
    let n = length-rows c.args.d.now in
    omega arith

pub returns-then-triple_at-eq3 : goal.returns-then-triple_at-eq3
returns-then-triple_at-eq3 c =
    let ls = rows c.args.d.now in
    let L = c.loop-entry in
    let k = c.if-triple_at-eq3.true in
    let h = stands ls L.at c.triple_at.ensures (λ e. omega arith) in
    let j = c.end_at.ensures ∙ c.requires.0 L.at (omega arith) h in
    c.goal_ok.ensures ∙ rw j (expected-on ls c.requires.1 L.at (entry-lacking ls L.at refl c.in_default.ensures) L.kind L.last h (sym (ap (λ (u : Triple). u.kind) c.triple_at.ensures) ∙ k)) ∙ L.invariant

pub returns-else-triple_at-eq3 : goal.returns-else-triple_at-eq3
returns-else-triple_at-eq3 c =
    let ls = rows c.args.d.now in
    let L = c.loop-entry in
    ne_eqb c.triple_at.result.kind 3 c.if-triple_at-eq3.false ∙ expected-off ls c.requires.1 L.at (entry-lacking ls L.at refl c.in_default.ensures) L.kind L.last (λ q. c.if-triple_at-eq3.false (ap (λ (u : Triple). u.kind) c.triple_at.ensures ∙ q)) ∙ L.invariant
