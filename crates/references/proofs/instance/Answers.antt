use Rattle.std.proofs.Common.{sym, ◌+◌, ◌<◌, arith}
use Rattle.sheet.specs.Rows.{rows}
use Rattle.constructors.proofs.Openings.{length-open}
use Rattle.references.proofs.Parts.{lines_fit, instance-opened, put-type, type-alone, put_alone}
use Rattle.references.proofs.instance.Goals as goal

pub returns-then-r-eq0 : goal.returns-then-r-eq0
returns-then-r-eq0 c = let a = c.args in
    let p = c.requires in
    let z = c.if-r-eq0.true in
    put-type (rows a.s.now) a.r a.out.now _ _ (type-alone (rows a.s.now) a.r z) (sym (p.0.alone z).1) p.2 (put_alone a.out.now a.r.base)

pub apply_type_substitutions-requires : goal.apply_type_substitutions-requires
apply_type_substitutions-requires c = let a = c.args in
    let p = c.requires in
    let h : 0 < a.r.lines = (let z = c.if-r-eq0.false in omega arith) in
    let f = lines_fit (rows a.s.now) a.r p.0 h in
    (p.2, p.0.low, f.0, f.1)

pub returns-else-r-eq0 : goal.returns-else-r-eq0
returns-else-r-eq0 c = let a = c.args in
    let p = c.requires in
    let h : 0 < a.r.lines = (let z = c.if-r-eq0.false in omega arith) in
    put-type (rows a.s.now) a.r a.out.now _ _ (instance-opened a.s.now a.r p.0 p.1 h) (length-open a.s.now a.r.base (a.r.first + a.r.at) a.r.count) p.2 c.apply_type_substitutions.ensures
