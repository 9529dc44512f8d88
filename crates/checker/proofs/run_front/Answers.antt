use mathlib.Core.Path.{sym}
use Prim.Native.Nat.{◌*◌}
use lib.Seq.{length-take-le}
use Rattle.sizes.specs.Sizes.{board_size, book_size, report_stride}
use Rattle.sheet.specs.Plan.{triples}
use Rattle.judgment.specs.Result.{limits_for, judge}
use Rattle.operations.specs.State.{mode_of}
use Rattle.checker.proofs.Answering.{fronts}
use borrow.Author.Rules.{rules}
use Rattle.checker.proofs.run_front.Goals as goal

pub slice_bounds-run_plan-end : goal.slice_bounds-run_plan-end
slice_bounds-run_plan-end c = c.requires.board

pub slice_bounds-run_plan-end-2 : goal.slice_bounds-run_plan-end-2
slice_bounds-run_plan-end-2 c = sym (length-take-le board_size c.args.board.now c.requires.board)

pub slice_bounds-run_plan-end-3 : goal.slice_bounds-run_plan-end-3
slice_bounds-run_plan-end-3 c = c.requires.book

pub slice_bounds-run_plan-end-4 : goal.slice_bounds-run_plan-end-4
slice_bounds-run_plan-end-4 c = sym (length-take-le book_size c.args.book.now c.requires.book)

pub overflow_mul-call : goal.overflow_mul-call
overflow_mul-call c = let x = c.requires.limited in search rules

pub slice_bounds-run_plan-end-5 : goal.slice_bounds-run_plan-end-5
slice_bounds-run_plan-end-5 c = c.requires.report

pub slice_bounds-run_plan-end-6 : goal.slice_bounds-run_plan-end-6
slice_bounds-run_plan-end-6 c = sym (length-take-le (report_stride * c.args.call.limit) c.args.report.now c.requires.report)

pub run_plan-requires : goal.run_plan-requires
run_plan-requires c = let p = c.requires in
    record { sized = p.sized; limited = p.limited; board = length-take-le board_size c.args.board.now p.board; book = length-take-le book_size c.args.book.now p.book; report = length-take-le (report_stride * c.args.call.limit) c.args.report.now p.report }

pub returns : goal.returns
returns c = let a = c.args in
    let q = c.run_plan in
    fronts c.requires (judge (limits_for (mode_of a.call.strict) a.call.limit) a.call.ceiling (triples a.s.now)) q.new.board q.new.book q.new.report q.result q.ensures
