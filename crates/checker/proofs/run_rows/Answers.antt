use mathlib.Core.Path.{sym, ◌∙◌}
use Rattle.grammar.specs.Check.{check}
use Rattle.sheet.specs.Plan.{triples}
use Rattle.sheet.proofs.Fitting.{is-plan}
use Rattle.judgment.specs.Result.{limits_for, judge}
use Rattle.operations.specs.State.{mode_of}
use Rattle.checker.proofs.Reading.{not-run, was-run, read-asks, ran-as}
use Rattle.checker.proofs.run_rows.Goals as goal

pub read_plan-requires : goal.read_plan-requires
read_plan-requires c = (c.requires.rows, c.requires.run.sized)

pub returns-then-not-read_plan : goal.returns-then-not-read_plan
returns-then-not-read_plan c = let a = c.args in
    not-run a.call.limit (judge (limits_for (mode_of a.call.strict) a.call.limit) a.call.ceiling (triples a.s.now)) a.s.now a.board.now a.book.now a.report.now c.read_plan.ensures.0 (c.if-not-read_plan.true) c.no_plan.ensures

pub run_read-requires : goal.run_read-requires
run_read-requires c = let s = c.args.s.now in
    let q = c.read_plan.ensures in
    let e = c.if-not-read_plan.false in
    read-asks s (is-plan (check s) (sym q.0 ∙ e)) c.requires (q.2 e)

pub returns : goal.returns
returns c = let a = c.args in
    let q = c.read_plan.ensures in
    let e = c.if-not-read_plan.false in
    was-run a.call.limit (judge (limits_for (mode_of a.call.strict) a.call.limit) a.call.ceiling (triples a.s.now)) a.s.now a.board.now a.book.now a.report.now q.0 e (ran-as (mode_of a.call.strict) a.call.ceiling a.call.limit (q.2 e).0 c.run_read.ensures)
