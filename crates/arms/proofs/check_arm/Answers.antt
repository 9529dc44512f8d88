use Rattle.std.proofs.Common.{ap, ◌∙◌, ℕ, ◌≤◌, arith, length}
use mathlib.Core.Path.{subst⁻¹}
use Rattle.sizes.specs.Sizes.{most_nodes}
use Rattle.nodes.specs.Nodes.{Ty, nodes_at}
use Rattle.nodes.specs.Lists.{All}
use Rattle.sheet.specs.Plan.{Narrow, part_line}
use Rattle.sheet.specs.Rows.{rows}
use Rattle.arms.proofs.Bodies.{body-within, pattern-lines, armed}
use Rattle.arms.proofs.Rooms.{room-arm}
use Rattle.arms.proofs.check_arm.Goals as goal

pub overflow_sub-lines : goal.overflow_sub-lines
overflow_sub-lines c = let a = c.args in
    let p = c.requires.0 in
    let ls = rows a.s.now in
    let body : ℕ = c.part_line-body.result in
    let B : (a.first ≤ body) × (body ≤ length ls) = body-within ls a.first p.within body c.part_line-body.ensures in
    let few : length ls ≤ most_nodes = p.lent.sheet.few in
    omega arith

pub check_pattern-bound-requires : goal.check_pattern-bound-requires
check_pattern-bound-requires c = let a = c.args in
    let p = c.requires.0 in
    let ls = rows a.s.now in
    let body : ℕ = c.part_line-body.result in
    let B : (a.first ≤ body) × (body ≤ length ls) = body-within ls a.first p.within body c.part_line-body.ensures in
    let few : length ls ≤ most_nodes = p.lent.sheet.few in
    let f = p.lent.frames in
    let g = p.lent.rows in (
      record {
        ready = p.ready;
        sheet = p.lent.sheet;
        stands = omega arith;
        narrow = subst⁻¹ (All Narrow) (pattern-lines ls a.first p.within body c.part_line-body.ensures) p.narrow;
        low = p.lent.low;
        frames = omega arith;
        rows = omega arith;
        left = p.lent.left;
        right = p.lent.right;
      },
      c.requires.1,
      p.formed,
    )

pub push_vars-named-requires : goal.push_vars-named-requires
push_vars-named-requires c = let a = c.args in
    let p = c.requires.0 in
    let ls = rows a.s.now in
    let body : ℕ = c.part_line-body.result in
    let B : (a.first ≤ body) × (body ≤ length ls) = body-within ls a.first p.within body c.part_line-body.ensures in
    let few : length ls ≤ most_nodes = p.lent.sheet.few in
    let C = c.check_pattern-bound.ensures.0 in
    let m = C.few in
    let g = p.lent.rows in
    let h = p.lent.left in
    let v = c.check_pattern-bound.auto.v in
    let l = c.check_pattern-bound.auto.l in
    (record { ready = C.turn.ready; sound = C.sound; few = omega arith; rows = omega arith; left = omega arith }, c.requires.1)

pub overflow_cast-body : goal.overflow_cast-body
overflow_cast-body c = let a = c.args in
    let p = c.requires.0 in
    let ls = rows a.s.now in
    let body : ℕ = c.part_line-body.result in
    let B : (a.first ≤ body) × (body ≤ length ls) = body-within ls a.first p.within body c.part_line-body.ensures in
    let few : length ls ≤ most_nodes = p.lent.sheet.few in
    omega arith

pub returns : goal.returns
returns c = let a = c.args in
    let p = c.requires.0 in
    let ls = rows a.s.now in
    let body : ℕ = c.part_line-body.result in
    let B : (a.first ≤ body) × (body ≤ length ls) = body-within ls a.first p.within body c.part_line-body.ensures in
    let few : length ls ≤ most_nodes = p.lent.sheet.few in
    let next : ℕ = c.part_line-next.result in
    let b = c.part_line-body.ensures in
    let C = c.check_pattern-bound.ensures in
    let W = c.push_vars-named.ensures in
    let P = c.push_chk-run.ensures in
    let T : Ty = nodes_at a.t.now a.ta a.tn in
    (armed ls a.first p.within body b a.u T next c.part_line-next.ensures (body-within ls body B.1 next c.part_line-next.ensures).1 C.0 W.0 P, c.part_line-next.ensures ∙ ap (λ (i : ℕ). part_line ls i 1) b, room-arm ls a.u T a.first a.c a.w.now a.v.now a.l.now a.r.now b C.1 W.1 W.2 P.0)
