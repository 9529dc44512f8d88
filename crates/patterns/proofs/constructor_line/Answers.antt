use Rattle.sheet.specs.Rows.{rows}
use Rattle.references.specs.References.{type_of}
use Rattle.patterns.proofs.Entries.{entry_at}
use Rattle.patterns.proofs.Lines.{naming-hit, naming-miss}
use Rattle.patterns.proofs.Rooms.{rooms-hit, rooms-miss}
use Rattle.patterns.proofs.constructor_line.Goals as goal

pub pattern_parts-nodes-requires : goal.pattern_parts-nodes-requires
pattern_parts-nodes-requires c = let a = c.args in
    let p = c.requires.0 in
    let ls = rows a.s.now in
    let e = entry_at ls a.name _ _ p.sheet c.in-Some.ensures in
    (record { ready = p.ready; some = e.0; few = e.1; lines = e.2; narrow = e.3; types = e.4; whole = e.5; declared = e.6; small = p.small; good = p.good; left = p.left; right = p.right }, c.requires.1)

pub returns : goal.returns
returns c = let a = c.args in
    let p = c.requires.0 in
    let ls = rows a.s.now in
    let q = c.in-Some.ensures in
    let P = c.pattern_parts-nodes.ensures in
    let A = c.add_frame-depth.ensures in
    (naming-hit ls a.name a.count (type_of ls a.want) a.w.now a.n _ _ _ q c.wide-base.ensures p.frames P.0 A.0, rooms-hit ls a.name a.count a.want a.c a.w.now a.n a.l.now a.r.now _ _ _ q c.wide-base.ensures P.1 P.2 P.3 A.1 A.2)

pub returns-in_default : goal.returns-in_default
returns-in_default c = let a = c.args in
    let p = c.requires.0 in
    let ls = rows a.s.now in
    let q = c.in_default.ensures in
    (naming-miss ls a.name a.count (type_of ls a.want) a.w.now a.n q p.ready p.frames c.refuse.ensures, rooms-miss ls a.name a.count a.want a.c a.w.now a.n a.l.now a.r.now q c.refuse.ensures.0)
