use Rattle.std.proofs.Common.{arith}
use Rattle.replay.specs.Recorded.{sheet_room, sheet_of}
use Rattle.replay.proofs.Laws.{zeroed}
use Rattle.replay.proofs.record.read_sheet.Goals as goal

pub returns-in_err-sheet_lines-clause-read : goal.returns-in_err-sheet_lines-clause-read
unfolding sheet_of
returns-in_err-sheet_lines-clause-read c =
    let z = zeroed _ c.args.sheet.now sheet_room c.fill.ensures.after (omega arith) in
    rw (c.from_residual-in_err-sheet_lines.ensures, c.in_ok-lines.ensures.read, rw z at c.in_err-sheet_lines.ensures)

pub returns-then-raw-clause-read : goal.returns-then-raw-clause-read
unfolding sheet_of
returns-then-raw-clause-read c =
    let z = zeroed _ c.args.sheet.now sheet_room c.fill.ensures.after (omega arith) in
    rw (c.in_ok-lines.ensures.read, rw z at c.in_ok-sheet_lines.ensures, c.if-raw.true) c.read_edits.ensures.read

pub returns-clause-read : goal.returns-clause-read
unfolding sheet_of
returns-clause-read c =
    let z = zeroed _ c.args.sheet.now sheet_room c.fill.ensures.after (omega arith) in
    rw (c.in_ok-lines.ensures.read, rw z at c.in_ok-sheet_lines.ensures, c.if-raw.false)
