use Rattle.std.proofs.Common.{◌≡◌, ap, ◌≤◌, ◌<◌, arith, get_or}
use Rattle.spelling.specs.declared.Triple.{Triple}
use Rattle.sheet.specs.Plan.{no_triple}
use Rattle.sheet.specs.Rows.{rows}
use Rattle.sheet.proofs.RowLaws.{row_count}
use Rattle.patterns.proofs.Lines.{lining-variable, lining-wildcard, lining-constructor}
use Rattle.patterns.proofs.Rooms.{rooms-variable, rooms-wildcard, rooms-constructor}
use Rattle.patterns.proofs.pattern_line.Goals as goal

pub returns-in-42 : goal.returns-in-42
returns-in-42 c = let a = c.args in
    let p = c.requires.0 in
    let ls = rows a.s.now in
    let X : Triple = c.triple_at-kind.result in
    let is : X ≡ get_or ls a.p no_triple = c.triple_at-kind.ensures in
    let y : X.value ≡ (get_or ls a.p no_triple).value = ap (λ (t : Triple). t.value) is in
    let m : (get_or ls a.p no_triple).value < 4294967296 = p.narrow in
    let N = c.next-depth.ensures in
    (lining-variable ls a.p a.n a.v.now a.j p.line p.ready N p.sound X is c.in-42.is (omega arith) c.insert.ensures, rooms-variable ls a.p a.c a.w.now a.n a.v.now a.j a.l.now a.r.now N X is c.in-42.is c.insert.ensures)

pub constructor_line-depth-requires : goal.constructor_line-depth-requires
constructor_line-depth-requires c = let a = c.args in
    let p = c.requires.0 in
    let ls = rows a.s.now in
    let X : Triple = c.triple_at-kind.result in
    let is : X ≡ get_or ls a.p no_triple = c.triple_at-kind.ensures in
    let y : X.value ≡ (get_or ls a.p no_triple).value = ap (λ (t : Triple). t.value) is in
    let m : (get_or ls a.p no_triple).value < 4294967296 = p.narrow in
    let N = c.next-depth.ensures in
    let z : X.count ≡ (get_or ls a.p no_triple).count = ap (λ (t : Triple). t.count) is in
    let q : (get_or ls a.p no_triple).count < 131072 = row_count a.s.now a.p in
    let f : c.next-depth.result.depth ≤ a.n = N.fewer in
    let d = p.deep in
    let e = c.next-depth.auto.w in
    (record { ready = p.ready; sheet = p.sheet; name = omega arith; small = omega arith; good = N.good; frames = N.frames; deep = omega arith; left = p.left; right = p.right }, c.requires.1)

pub returns-in-43 : goal.returns-in-43
returns-in-43 c = let a = c.args in
    let p = c.requires.0 in
    let ls = rows a.s.now in
    let X : Triple = c.triple_at-kind.result in
    let is : X ≡ get_or ls a.p no_triple = c.triple_at-kind.ensures in
    let N = c.next-depth.ensures in
    (lining-constructor ls a.p a.n a.v.now a.j p.line p.ready N p.sound X is c.in-43.is c.constructor_line-depth.ensures.0, rooms-constructor ls a.p a.c a.w.now a.n a.v.now a.j a.l.now a.r.now N X is c.in-43.is (c.constructor_line-depth.ensures.1 _ _))

pub returns-in_default : goal.returns-in_default
returns-in_default c = let a = c.args in
    let p = c.requires.0 in
    let ls = rows a.s.now in
    let X : Triple = c.triple_at-kind.result in
    let is : X ≡ get_or ls a.p no_triple = c.triple_at-kind.ensures in
    let N = c.next-depth.ensures in
    (lining-wildcard ls a.p a.n a.v.now a.j p.line p.ready N p.sound X is (omega arith) (omega arith), rooms-wildcard ls a.p a.c a.w.now a.n a.v.now a.j a.l.now a.r.now N X is (omega arith) (omega arith))
