use Rattle.std.proofs.Common.{◌≡◌, ℕ, ◌+◌, ◌-◌, ◌/◌, length, drop, sym, ap, ◌∙◌, arith, length-set}
use Rattle.sheet.specs.Plan.{triples}
use Rattle.sheet.specs.Fit.{all_fit}
use Rattle.sheet.proofs.Lines.{length-triples}
use Rattle.sheet.proofs.RowLaws.{RowsFrom, rows_next, links-stay, row_ends, row-kinds, rows_are, rows-ended, rows_words, lines-small}
use Rattle.sheet.proofs.Fitting.{fit_none, fit-turn}
use Rattle.sheet.proofs.read_lines.Goals as goal

pub loop-i-init : goal.loop-i-init
loop-i-init c =
    let s = c.args.s.now in
    let n = length-triples s in
    (c.requires.0, c.requires.2, λ j h l. absurd (omega arith), fit_none (triples s) (length s / 29) (omega arith))

pub read_line-fits-requires : goal.read_line-fits-requires
read_line-fits-requires c =
    let L = c.loop-i in
    let t = c.loop-i-test.true in
    let s = c.args.s.now in
    let n = length-triples s in
    let e = L.auto.i in (
      record {
        room = L.invariant.0;
        few = c.requires.1;
        stands = omega arith;
        after = λ j h l. row_ends (triples s) L.d (lines-small s) c.requires.1 L.i L.invariant.2 j (omega arith) l;
        kinds = λ j h l. row-kinds (triples s) L.d (lines-small s) L.i L.invariant.2 j (omega arith) l;
      },
      c.requires.3,
    )

pub loop-i-preserved : goal.loop-i-preserved
loop-i-preserved c =
    let L = c.loop-i in
    let t = c.loop-i-test.true in
    let ls = triples c.args.s.now in
    let n = length-triples c.args.s.now in
    let e = L.auto.i in
    let i = L.i - 1 in
    let k : i + 1 ≡ L.i = omega arith in
    let r = L.invariant.0 in
    let f = fit-turn ls i (omega arith) c.read_line-fits.ensures.1 (L.invariant.3 ∙ ap (λ (j : ℕ). all_fit (drop j ls)) (sym k)) in
    rw c.read_line-fits.ensures.0 (simp length-set r, links-stay ls L.d i _ (omega arith) r L.invariant.1, rows_next ls L.d i (omega arith) r (λ j h l. L.invariant.2 j (omega arith) l), f)

pub returns : goal.returns
returns c =
    let L = c.loop-i in
    let z = c.loop-i-test.false in
    let s = c.args.s.now in
    let m = lines-small s in
    let k : L.i ≡ 0 = omega arith in
    let f : RowsFrom (triples s) L.d 0 = λ j h l. L.invariant.2 j (omega arith) l in
    (rows_are (triples s) L.d m L.invariant.0 f, rows-ended (triples s) L.d m L.invariant.0 f c.requires.1, L.invariant.1, rows_words (triples s) L.d m L.invariant.0 f L.invariant.1, L.invariant.3 ∙ ap (λ (j : ℕ). all_fit (drop j (triples s))) k)
