use mathlib.Core.Path.{sym, ◌∙◌}
use Prim.Native.Nat.{◌≤◌}
use native.Mathlib.Omega.{arith}
use Rattle.sizes.specs.Sizes.{highest_ceiling}
use Rattle.judgment.specs.Result.{Buffers}
use Rattle.checker.proofs.Answering.{high-ceiling, bad-limit, low-limit, short-buffer, bad-length, front-asks, answered}
use Rattle.operations.specs.State.{mode_of}
use Rattle.checker.proofs.check_call.Goals as goal

pub returns-then-ceiling-gt-HIGHEST_CEILING : goal.returns-then-ceiling-gt-HIGHEST_CEILING
returns-then-ceiling-gt-HIGHEST_CEILING c = let a = c.args in
    let B : Buffers = record { board = a.board.now; book = a.book.now; report = a.report.now } in
    high-ceiling (mode_of a.strict) a.sheet.now a.ceiling a.limit B c.if-ceiling-gt-HIGHEST_CEILING.true c.refused.ensures

pub returns-then-limit_bad : goal.returns-then-limit_bad
returns-then-limit_bad c = let a = c.args in
    let B : Buffers = record { board = a.board.now; book = a.book.now; report = a.report.now } in
    let l = c.if-ceiling-gt-HIGHEST_CEILING.false in
    let h : a.ceiling ≤ highest_ceiling = omega arith in
    bad-limit (mode_of a.strict) a.sheet.now a.ceiling a.limit B h c.limit_bad.ensures c.if-limit_bad.true c.refused-then-limit_bad.ensures

pub too_short-requires : goal.too_short-requires
too_short-requires c = let a = c.args in
    let B : Buffers = record { board = a.board.now; book = a.book.now; report = a.report.now } in
    let l = c.if-ceiling-gt-HIGHEST_CEILING.false in
    let h : a.ceiling ≤ highest_ceiling = omega arith in
    low-limit (mode_of a.strict) a.sheet.now a.ceiling a.limit B h c.limit_bad.ensures c.if-limit_bad.false

pub returns-then-too_short : goal.returns-then-too_short
returns-then-too_short c = let a = c.args in
    let B : Buffers = record { board = a.board.now; book = a.book.now; report = a.report.now } in
    let l = c.if-ceiling-gt-HIGHEST_CEILING.false in
    let h : a.ceiling ≤ highest_ceiling = omega arith in
    short-buffer (mode_of a.strict) a.sheet.now a.ceiling a.limit B h c.limit_bad.ensures c.if-limit_bad.false c.too_short.ensures c.if-too_short.true c.refused-then-too_short.ensures

pub run_front-requires : goal.run_front-requires
run_front-requires c = let a = c.args in
    let B : Buffers = record { board = a.board.now; book = a.book.now; report = a.report.now } in
    let l = c.if-ceiling-gt-HIGHEST_CEILING.false in
    let h : a.ceiling ≤ highest_ceiling = omega arith in
    front-asks (mode_of a.strict) a.sheet.now a.ceiling a.limit B h c.limit_bad.ensures c.if-limit_bad.false c.too_short.ensures c.if-too_short.false (sym c.length_ok.ensures ∙ c.if-not-length_ok.false)

pub returns : goal.returns
returns c = let a = c.args in
    let B : Buffers = record { board = a.board.now; book = a.book.now; report = a.report.now } in
    let l = c.if-ceiling-gt-HIGHEST_CEILING.false in
    let h : a.ceiling ≤ highest_ceiling = omega arith in
    answered (mode_of a.strict) a.sheet.now a.ceiling a.limit B h c.limit_bad.ensures c.if-limit_bad.false c.too_short.ensures c.if-too_short.false c.run_front.ensures

pub returns-then-not-length_ok : goal.returns-then-not-length_ok
returns-then-not-length_ok c = let a = c.args in
    let B : Buffers = record { board = a.board.now; book = a.book.now; report = a.report.now } in
    let l = c.if-ceiling-gt-HIGHEST_CEILING.false in
    let h : a.ceiling ≤ highest_ceiling = omega arith in
    bad-length (mode_of a.strict) a.sheet.now a.ceiling a.limit B h c.limit_bad.ensures c.if-limit_bad.false c.too_short.ensures c.if-too_short.false c.length_ok.ensures c.if-not-length_ok.true c.refused-then-not-length_ok.ensures
