use Rattle.std.proofs.Common.{◌+◌, drop, refl, ap, ◌∙◌, arith}
use Rattle.spelling.specs.declared.Triple.{Triple}
use Rattle.sheet.specs.declared.Walked.{Walked}
use Rattle.sheet.specs.Plan.{triples}
use Rattle.sheet.specs.Fit.{line_fits}
use Rattle.sheet.proofs.Lines.{length-triples}
use Rattle.sheet.proofs.RowLaws.{row-end, row_fits, held-after}
use Rattle.sheet.proofs.read_line.Goals as goal

pub line_said-t-requires : goal.line_said-t-requires
line_said-t-requires c =
    let n = length-triples c.args.s.now in
    let h = c.requires.0.stands in
    omega arith

pub invariant_of-walk : goal.invariant_of-walk
invariant_of-walk c =
    let n = length-triples c.args.s.now in
    let r = c.requires.0.room in
    record { room = omega arith; tabled = c.requires.1 }

pub over_line-parts-requires : goal.over_line-parts-requires
over_line-parts-requires c =
    let n = length-triples c.args.s.now in
    let h = c.requires.0.stands in
    omega arith

pub pack-requires : goal.pack-requires
pack-requires c =
    let s = c.args.s.now in
    let p = c.requires.0 in
    let w = c.over_line-parts.ensures (triples s) (held-after s p) in
    row_fits s c.args.i p.stands _ c.line_said-t.ensures _ _ refl (ap (λ (x : Walked). x.line) w) p.few

pub returns : goal.returns
returns c =
    let s = c.args.s.now in
    let i = c.args.i in
    let p = c.requires.0 in
    let t = c.line_said-t.ensures in
    let w = c.over_line-parts.ensures (triples s) (held-after s p) in
    let e = row-end s i p.stands _ t _ _ refl (ap (λ (x : Walked). x.line) w) in
    (rw (c.pack.ensures, e, t), ap (λ (x : Walked). x.fits) w ∙ ap (λ (u : Triple). line_fits u (drop (i + 1) (triples s))) t)
