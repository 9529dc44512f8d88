use Rattle.std.proofs.Common.{◌≡◌, ℕ, suc, ◌+◌, sym, ◌∙◌, ◌-◌, arith}
use mathlib.Core.Path.{subst⁻¹}
use Rattle.board.specs.Board.{from_line}
use Rattle.nodes.specs.Nodes.{Ty, nodes_at}
use Rattle.sheet.specs.Rows.{rows}
use Rattle.arms.specs.Arms.{NarrowArms}
use Rattle.arms.proofs.Bodies.{arms-turn, arms-halt, arms-does, narrow-arms}
use Rattle.arms.proofs.Rooms.{room-turn, room-stop, room-end}
use Rattle.arms.proofs.check_arms.Goals as goal

pub returns-then-not-is_going : goal.returns-then-not-is_going
returns-then-not-is_going c = let a = c.args in
    let ls = rows a.s.now in
    let T : Ty = nodes_at a.t.now a.ta a.tn in
    let L = c.loop in
    let h = L.invariant in
    let left = a.n - L.counter in
    let e = sym c.is_going.ensures ∙ c.if-not-is_going.true in
    (arms-halt ls a.u T a.n (from_line ls a.line) left L.at h.0 e, room-stop ls a.u T _ left L.at e h.3)

pub check_arm-requires : goal.check_arm-requires
check_arm-requires c = let a = c.args in
    let p = c.requires.0 in
    let ls = rows a.s.now in
    let L = c.loop in
    let h = L.invariant in
    let t = c.loop-test.true in
    let q = p.lent in
    let f = q.frames in
    let g = q.rows in
    let x = q.left in
    let y = q.right in (
      record {
        formed = (p.formed.0, h.0.kept p.formed.0 p.formed.1);
        ready = h.0.ready;
        lent = record { sheet = q.sheet; low = q.low; frames = omega arith; rows = omega arith; left = omega arith; right = omega arith; type = q.type };
        within = h.1;
        narrow = (narrow-arms (a.n - L.counter) (a.n - (L.counter + 1)) (from_line ls L.at) (omega arith) h.2).0;
      },
      c.requires.1,
    )

pub loop-preserved : goal.loop-preserved
loop-preserved c = let a = c.args in
    let ls = rows a.s.now in
    let T : Ty = nodes_at a.t.now a.ta a.tn in
    let L = c.loop in
    let h = L.invariant in
    let t = c.loop-test.true in
    let left : ℕ = a.n - L.counter in
    let rest : ℕ = a.n - (L.counter + 1) in
    let l : left ≡ suc rest = omega arith in
    let R = c.check_arm.ensures in
    let A = R.0 in
    let e = sym c.is_going.ensures ∙ c.if-not-is_going.false in
    (arms-turn ls a.u T a.n (from_line ls a.line) left rest L.at l h.0 A, A.within, subst⁻¹ (NarrowArms rest) A.after (narrow-arms left rest (from_line ls L.at) l h.2).1, room-turn ls a.u T _ left rest L.at l e h.3 R.1 R.2)

pub returns : goal.returns
returns c = let a = c.args in
    let ls = rows a.s.now in
    let T : Ty = nodes_at a.t.now a.ta a.tn in
    let L = c.loop in
    let h = L.invariant in
    let z = c.loop-test.false in
    let left : ℕ = a.n - L.counter in
    (arms-does ls a.u T a.n (from_line ls a.line) left L.at h.0 (omega arith), room-end ls a.u T _ left L.at (omega arith) h.3)
