use Rattle.std.proofs.Common.{◌∙◌, ◌+◌, ◌-◌, arith}
use Rattle.sheet.specs.Rows.{rows}
use Rattle.sheet.proofs.RowLaws.{length-rows}
use Rattle.constructors.specs.Opening.{open_lines}
use Rattle.constructors.proofs.Openings.{length-open, nodes-put}
use Rattle.patterns.proofs.Steps.{sub-turn}
use Rattle.patterns.proofs.Opened.{few, left-whole, opened-ready, arity-is, few-arity, result_fits, result-is, parting}
use Rattle.patterns.proofs.Rooms.{parts_are, result-put}
use Rattle.patterns.proofs.pattern_parts.Goals as goal

pub overflow_sub-nodes : goal.overflow_sub-nodes
overflow_sub-nodes c = let a = c.args in few a.s.now a.first a.n a.count a.want c.requires.0 c.instantiate_constructor_type-names.ensures

pub overflow_add-first : goal.overflow_add-first
overflow_add-first c = let a = c.args in
    let f = few a.s.now a.first a.n a.count a.want c.requires.0 c.instantiate_constructor_type-names.ensures in
    let s = c.requires.0.lines in
    let m = length-rows a.s.now in
    let k = c.well_formed.1.1.0.0 in
    omega arith

pub signature-arity-requires : goal.signature-arity-requires
signature-arity-requires c = let a = c.args in
    let w = left-whole a.s.now a.first a.n a.count a.want c.requires.0 c.instantiate_constructor_type-names.ensures in
    (c.requires.1, w.0, w.1, w.2)

pub overflow_add-first-2 : goal.overflow_add-first-2
overflow_add-first-2 c = let a = c.args in
    let S = c.signature-arity.ensures in
    let f = (result_fits a.s.now a.first a.n a.count a.want c.requires.0 c.instantiate_constructor_type-names.ensures c.signature-arity.result S.2 c.requires.1 S.0 S.1).0 in
    let m = length-rows a.s.now in
    let k = c.well_formed.1.1.0.0 in
    omega arith

pub apply_type_substitutions-requires : goal.apply_type_substitutions-requires
apply_type_substitutions-requires c = let a = c.args in
    let S = c.signature-arity.ensures in
    let f = result_fits a.s.now a.first a.n a.count a.want c.requires.0 c.instantiate_constructor_type-names.ensures c.signature-arity.result S.2 c.requires.1 S.0 S.1 in
    let l = c.requires.0.left in
    (omega (arith, f.0, l), c.requires.0.ready.numbers, f.0, f.1)

pub check_arity-run-requires : goal.check_arity-run-requires
check_arity-run-requires c = let a = c.args in
    (few-arity a.s.now a.first a.n a.count a.want c.requires.0 c.instantiate_constructor_type-names.ensures c.signature-arity.result c.signature-arity.ensures.2, c.requires.0.small)

pub returns : goal.returns
returns c = let a = c.args in
    let p = c.requires.0 in
    let d = a.s.now in
    let ls = rows d in
    let O = c.instantiate_constructor_type-names.ensures in
    let q = c.instantiate_constructor_type-names.result.names in
    let e = c.signature-arity.result in
    let S = c.signature-arity.ensures in
    let f = (result_fits d a.first a.n a.count a.want p O e S.2 c.requires.1 S.0 S.1).0 in
    let t = result-is d a.first a.n a.count a.want p O e S.2 c.requires.1 S.0 S.1 in
    let A = arity-is d a.first a.n a.count a.want p O e S.2 in
    let l = p.left in
    let k = c.apply_type_substitutions.ensures in
    let n = nodes-put (open_lines d a.c.counters.fresh (a.first + (q + e.start)) (a.n - q - e.start)) a.l.now _ (a.n - q - e.start) k (length-open d a.c.counters.fresh (a.first + (q + e.start)) (a.n - q - e.start)) (omega (arith, f, l)) ∙ t in
    let i = c.instance.ensures in
    let P = c.push_sub-pushed.ensures in
    let T = sub-turn {ls = ls} _ _ (opened-ready d a.first a.n a.count a.want p O) P in
    (parting d a.first a.n a.count a.want p O e.arity A _ _ n i.0 P.2 (c.check_arity-run.ensures.0 ls _ T.ready) T.taken, parts_are ls a.first a.n a.count a.want O e.arity A _ _ n i.0 P.0 c.check_arity-run.ensures.1, result-put ls a.first a.n O a.l.now _ _ t k, i.1)
