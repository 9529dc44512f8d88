use Rattle.std.proofs.Common.{sym, ap, ◌∙◌, arith, ◌≡◌, ◌+◌, ◌-◌, length, take, drop}
use Rattle.std.proofs.lemmas.List.Edits.{sets}
use Rattle.nodes.specs.Nodes.{Ty, words, nodes_at}
use Rattle.sheet.specs.Plan.{nodes_of}
use Rattle.sheet.specs.Rows.{rows}
use Rattle.sheet.proofs.RowLaws.{length-rows}
use Rattle.judgment.specs.Board.{sub, push, done}
use Rattle.constructors.specs.Opening.{opened_of, open_lines}
use Rattle.constructors.proofs.Openings.{names-few, part-narrow, all-opened, length-open, nodes-put, opens-then}
use Rattle.constructors.proofs.infer_constructor.Goals as goal

pub overflow_sub-left : goal.overflow_sub-left
overflow_sub-left c = let a = c.args in names-few a.s.now a.first a.n c.requires.0.lines c.instantiate_constructor_type-names.ensures.names

pub overflow_add-first : goal.overflow_add-first
overflow_add-first c = let a = c.args in
    let f = names-few a.s.now a.first a.n c.requires.0.lines c.instantiate_constructor_type-names.ensures.names in
    let h = c.requires.0.lines in
    let m = length-rows a.s.now in
    omega arith

pub apply_type_substitutions-requires : goal.apply_type_substitutions-requires
apply_type_substitutions-requires c = let a = c.args in
    let p = c.requires in
    let h = p.0.lines in
    let f = names-few a.s.now a.first a.n h c.instantiate_constructor_type-names.ensures.names in
    let r = p.2 in
    (omega arith, p.0.numbers, omega arith, part-narrow (rows a.s.now) a.first a.n p.0.narrow c.instantiate_constructor_type-names.result.names (a.n - c.instantiate_constructor_type-names.result.names) (omega arith))

pub returns : goal.returns
returns c = let a = c.args in
    let p = c.requires in
    let O = c.instantiate_constructor_type-names.ensures in
    let q = c.instantiate_constructor_type-names.result.names in
    let d = a.s.now in
    let T : Ty = nodes_of (take a.n (drop a.first (rows d))) in
    let e : open_lines d a.c.counters.fresh (a.first + q) (a.n - q) ≡ opened_of T a.c.counters.fresh = all-opened d a.first a.n p.0.lines p.1 a.c.counters.fresh O.names in
    let o : _ ≡ sets a.out.now 0 (words (opened_of T a.c.counters.fresh)) = c.apply_type_substitutions.ensures ∙ ap (λ (t : Ty). sets a.out.now 0 (words t)) e in
    let l : length (opened_of T a.c.counters.fresh) ≡ a.n - q = ap length (sym e) ∙ length-open d a.c.counters.fresh (a.first + q) (a.n - q) in
    let m = p.2 in
    let n = nodes-put (opened_of T a.c.counters.fresh) a.out.now _ (a.n - q) o l (omega arith) in
    (λ E x w ls k rep h. opens-then (λ u. push (sub u (nodes_at a.t.now a.ta a.tn)) done) h O (rw n at (c.push_sub.ensures.2 w ls k rep (O.named.kept k h))), o)
