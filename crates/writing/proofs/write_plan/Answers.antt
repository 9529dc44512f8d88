use Rattle.std.proofs.Common.{ap}
use Rattle.judgment.specs.Result.{refused_at}
use Rattle.std.proofs.Common.{rules}
use mathlib.Core.Path.{sym, ◌∙◌}
use Prim.Native.Nat.{◌*◌, ◌/◌}
use lib.ListN.{length}
use lib.Seq.{length-take-le}
use Rattle.sizes.specs.Sizes.{line_length, triple_words}
use Rattle.writing.proofs.Sheets.{fits-room, fits-text, front_fits, front_reads, place-fits, gives-5, gives-31, gives-0}
use Rattle.writing.proofs.write_plan.Goals as goal

pub write_lines-requires : goal.write_lines-requires
write_lines-requires c = fits-room c.args.triples.now c.requires.0 c.args.text.now c.requires.1

pub slice_bounds-read_sheet-end : goal.slice_bounds-read_sheet-end
slice_bounds-read_sheet-end c = fits-text _ c.requires.0 _ _ c.requires.1 c.write_lines.ensures

pub slice_bounds-read_sheet-end-2 : goal.slice_bounds-read_sheet-end-2
slice_bounds-read_sheet-end-2 c = sym (length-take-le _ _ (fits-text _ c.requires.0 _ _ c.requires.1 c.write_lines.ensures))

pub returns-then-out-bytes : goal.returns-then-out-bytes
returns-then-out-bytes c = let w = c.requires.0 in
    gives-31 _ w _ _ _ (sym (front_reads _ w _ _ c.requires.1 c.write_lines.ensures) ∙ sym c.read_sheet.ensures ∙ c.in-Ok.is) c.if-out-bytes.true c.refused.ensures

pub slice_bounds-copy_front-end : goal.slice_bounds-copy_front-end
slice_bounds-copy_front-end c = fits-text _ c.requires.0 _ _ c.requires.1 c.write_lines.ensures

pub slice_bounds-copy_front-end-in-Ok : goal.slice_bounds-copy_front-end-in-Ok
slice_bounds-copy_front-end-in-Ok c = sym (length-take-le _ _ (fits-text _ c.requires.0 _ _ c.requires.1 c.write_lines.ensures))

pub copy_front-requires : goal.copy_front-requires
copy_front-requires c = front_fits (line_length * (length c.args.triples.now / triple_words)) _ c.args.out.now c.if-out-bytes.false

pub overflow_cast-line : goal.overflow_cast-line
overflow_cast-line c = let w = c.requires.0 in
    let h = place-fits _ w _ (sym (front_reads _ w _ _ c.requires.1 c.write_lines.ensures) ∙ sym c.read_sheet.ensures ∙ c.in-Err.is) in
    search rules

pub returns-else-out-bytes : goal.returns-else-out-bytes
returns-else-out-bytes c = let w = c.requires.0 in
    gives-0 _ w _ _ _ _ _ _ c.requires.1 c.write_lines.ensures (sym (front_reads _ w _ _ c.requires.1 c.write_lines.ensures) ∙ sym c.read_sheet.ensures ∙ c.in-Ok.is) c.if-out-bytes.false c.copy_front.ensures c.refused-in-Ok.ensures

pub returns-in-Err : goal.returns-in-Err
returns-in-Err c = let w = c.requires.0 in
    gives-5 _ w _ _ _ (sym (front_reads _ w _ _ c.requires.1 c.write_lines.ensures) ∙ sym c.read_sheet.ensures ∙ c.in-Err.is) (c.refused-in-Err.ensures ∙ ap (refused_at 5) c.line.ensures)
