use mathlib.Core.Path.{refl, ◌∙◌}
use native.Mathlib.Omega.{arith}
use Rattle.judgment.specs.Result.{limits_for}
use Rattle.operations.specs.State.{mode_of}
use Rattle.stepping.proofs.Reading.{read_names}
use Rattle.checker.proofs.Starting.{start-stands, start-told}
use Rattle.checker.proofs.Finishing.{end-within, end-clears, whole-board, ran}
use Rattle.checker.proofs.check_plan.Goals as goal

pub start-c-requires : goal.start-c-requires
start-c-requires c = let p = c.requires in
    let x = p.board in
    let y = p.book in
    let z = p.lent.type in
    record { plan = p.plan; board = omega arith; book = omega arith; type = omega arith }

pub solve-o-requires : goal.solve-o-requires
solve-o-requires c = let p = c.requires in
    let x = p.report in
    let y = p.lent.type in
    let n = p.limited in
    let k = c.start-c.auto.t in
    let st = start-stands _ _ _ _ _ p.plan c.start-c.ensures in
    (st.0, st.1, omega arith, omega arith, record { type = omega arith; left = p.lent.left; lines = p.lent.lines; room = p.lent.room })

pub clear_board-requires : goal.clear_board-requires
clear_board-requires c = let x = c.requires.board in
    let a = c.solve-o.auto.board in
    let b = c.start-c.auto.board in
    omega arith

pub write_levels-requires : goal.write_levels-requires
write_levels-requires c = let h = c.solve-o.ensures.0 in (h.book.room, h.numbers)

pub overflow_sub-size : goal.overflow_sub-size
overflow_sub-size c = end-within _ c.report_end-end.ensures

pub clear_words-requires : goal.clear_words-requires
clear_words-requires c = end-clears _ c.report_end-end.ensures refl

pub is_plain-requires : goal.is_plain-requires
is_plain-requires c = read_names c.requires.plan

pub returns : goal.returns
returns c = let p = c.requires in
    let a = c.args in
    let lb = c.solve-o.auto.board ∙ c.start-c.auto.board ∙ p.board in
    let lk = c.solve-o.auto.book ∙ c.start-c.auto.book ∙ p.book in
    let lr = c.solve-o.auto.report ∙ p.report in
    let so = c.solve-o.ensures in
    ran (mode_of a.call.strict) a.s.now a.call.ceiling a.call.limit _ c.solve-o.result (so.0, start-told (limits_for (mode_of a.call.strict) a.call.limit) a.s.now _ _ _ a.call.ceiling c.start-c.ensures ∙ so.1) lk c.write_levels.ensures lr (whole-board _ _ lb c.clear_board.ensures) refl c.report_end-end.ensures c.clear_words.ensures c.is_plain.ensures c.answer.ensures
