use Rattle.std.proofs.Common.{arith}
use Rattle.sheet.specs.Rows.{rows}
use Rattle.tables.proofs.Pops.{top_frame, taken-alone, taken-last, taken_more}
use Rattle.tables.proofs.next.Goals as goal

pub returns-then-top-eq0 : goal.returns-then-top-eq0
returns-then-top-eq0 c = let a = c.args in
    let p = c.requires in
    taken-alone (rows a.s.now) a.w.now a.depth _ p.1 p.0 c.get-top.ensures c.if-top-eq0.true

pub split_frame-count-requires : goal.split_frame-count-requires
split_frame-count-requires c = let a = c.args in
    let p = c.requires in
    (top_frame (rows a.s.now) a.w.now a.depth _ p.1 p.0 c.get-top.ensures, (let z = c.if-top-eq0.false in omega arith), p.3)

pub returns-then-not-more : goal.returns-then-not-more
returns-then-not-more c = let a = c.args in
    let p = c.requires in
    let z = c.if-top-eq0.false in
    taken-last (rows a.s.now) a.w.now a.depth _ p.1 p.0 c.get-top.ensures (omega arith) _ c.split_frame-count.ensures c.if-not-more.true

pub returns : goal.returns
returns c = let a = c.args in
    let p = c.requires in
    let z = c.if-top-eq0.false in
    taken_more (rows a.s.now) a.w.now a.depth _ p.1 p.0 c.get-top.ensures (omega arith) _ c.split_frame-count.ensures _ p.2 c.put.ensures c.if-not-more.false
