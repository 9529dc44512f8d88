use Rattle.std.proofs.Common.{sym, ap, ◌∙◌, ℕ, ◌+◌, ◌*◌, ◌≤◌, ◌<◌, arith, length}
use Rattle.std.proofs.lemmas.List.Edits.{sets}
use Rattle.sheet.specs.Rows.{rows}
use Rattle.tables.specs.Rows.{row}
use Rattle.patterns.specs.Rooms.{alone_of}
use Rattle.patterns.proofs.Rooms.{rooms-start, rooms-turn, rooms-stop, rooms-halt, rooms-end}
use Rattle.patterns.proofs.Patterns.{read-start, line-narrow, read-turn, read-end, read-stop, read-halt}
use Rattle.patterns.proofs.check_pattern.Goals as goal
use Rattle.patterns.proofs.check_pattern.Goals.{then-n-eq0-via-then-n-eq0, then-n-eq0-via-else-n-eq0+then-not-is_going}

pub loop-i-init : goal.loop-i-init
loop-i-init c = let a = c.args in
    let p = c.requires.0 in
    let f = p.frames in
    (read-start a.board.now a.c (rows a.s.now) a.first a.lines a.u a.w.now _ a.v.now p.ready p.narrow (omega arith) (c.put.ensures ∙ ap (λ (x : ℕ). sets a.w.now (6 * 0) (row 0 (alone_of x))) c.wide-base.ensures) p.low, rooms-start (rows a.s.now) a.first a.lines _)

pub returns-then-n-eq0 : goal.returns-then-n-eq0
returns-then-n-eq0 c = let a = c.args in
    let ls = rows a.s.now in
    let L = c.loop-i in
    let P = c.put.ensures ∙ ap (λ (x : ℕ). sets a.w.now (6 * 0) (row 0 (alone_of x))) c.wide-base.ensures in
    elim c.then-n-eq0.branch [
      | then-n-eq0-via-then-n-eq0 w ↦ (read-stop _ _ ls a.first a.lines a.u L.invariant.0 w.if-n-eq0.true, rooms-stop ls a.first a.lines a.u a.c a.w.now _ a.v.now a.l.now a.r.now _ L.i P L.invariant.1 w.if-n-eq0.true)
      | then-n-eq0-via-else-n-eq0+then-not-is_going w ↦ (let e = sym w.is_going.ensures ∙ w.if-not-is_going.true in (read-halt _ _ ls a.first a.lines a.u L.invariant.0 e, rooms-halt ls a.first a.lines a.u a.c a.w.now _ a.v.now a.l.now a.r.now _ L.i P L.invariant.1 e))
    ]

pub pattern_line-requires : goal.pattern_line-requires
pattern_line-requires c = let a = c.args in
    let p = c.requires.0 in
    let ls = rows a.s.now in
    let L = c.loop-i in
    let R = L.invariant.0 in
    let t : L.i < a.lines = c.loop-i-test.true in
    let s : a.first + a.lines ≤ length ls = p.stands in
    let d : L.n ≤ L.i + 1 = R.deep in
    let e : L.j ≤ L.i = R.few in
    let f = p.frames in
    let g = p.rows in
    let h = L.auto in
    let k = c.put.auto.w in
    let x = p.left in
    let y = p.right in (
      record {
        ready = R.turn.ready;
        sheet = p.sheet;
        line = omega arith;
        narrow = line-narrow _ _ ls a.first a.lines a.u R t s;
        some = let z = c.if-n-eq0.false in omega arith;
        frames = R.frames;
        deep = omega arith;
        sound = R.sound;
        rows = omega arith;
        left = omega arith;
        right = omega arith;
      },
      c.requires.1,
    )

pub loop-i-preserved : goal.loop-i-preserved
loop-i-preserved c = let a = c.args in
    let p = c.requires.0 in
    let ls = rows a.s.now in
    let L = c.loop-i in
    let h = L.invariant in
    let e = sym c.is_going.ensures ∙ c.if-not-is_going.false in
    (read-turn _ _ ls a.first a.lines a.u h.0 c.loop-i-test.true p.stands c.pattern_line.ensures.0, rooms-turn ls a.first a.lines _ _ _ L.i c.loop-i-test.true p.stands c.if-n-eq0.false e h.1 c.pattern_line.ensures.1)

pub returns-after-loop-i : goal.returns-after-loop-i
returns-after-loop-i c = let a = c.args in
    let ls = rows a.s.now in
    let L = c.loop-i in
    let z = c.loop-i-test.false in
    (read-end _ _ ls a.first a.lines a.u L.invariant.0 (omega arith), rooms-end ls a.first a.lines a.u a.c a.w.now _ a.v.now a.l.now a.r.now _ L.i (c.put.ensures ∙ ap (λ (x : ℕ). sets a.w.now (6 * 0) (row 0 (alone_of x))) c.wide-base.ensures) L.invariant.1 (omega arith))
