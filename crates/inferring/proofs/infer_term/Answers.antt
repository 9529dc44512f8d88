use Rattle.std.proofs.Common.{refl, ap, ◌∙◌, arith}
use Rattle.spelling.specs.declared.Triple.{Triple}
use Rattle.sheet.specs.Rows.{rows}
use Rattle.applying.specs.Applying.{env_on}
use Rattle.inferring.proofs.Views.{viewed, lit-view, kinds, term_asks}
use Rattle.inferring.proofs.Cases.{case-here}
use Rattle.inferring.specs.Rooms.{scratch}
use Rattle.inferring.proofs.Rooms.{of-kind, of_left}
use Rattle.inferring.proofs.infer_term.Goals as goal

pub returns-in-22 : goal.returns-in-22
returns-in-22 c = let p = term_asks c.requires.0 c.triple_at.ensures c.in-22.is in
    let s = c.args.s.now in
    let a = c.args in
    (viewed p (lit-view p refl) (λ m. c.infer_lit_int.ensures (env_on s) m (rows s)), of-kind p (scratch a.l.now a.r.now a.w.now a.v.now))

pub returns-in-21 : goal.returns-in-21
returns-in-21 c = let a = c.args in
    let p = term_asks c.requires.0 c.triple_at.ensures c.in-21.is in
    let I = c.variable_term.ensures in
    (I.0, of_left p a.l.now a.r.now a.w.now a.v.now I.1 refl)

pub returns-in-23 : goal.returns-in-23
returns-in-23 c = let a = c.args in
    let p = term_asks c.requires.0 c.triple_at.ensures c.in-23.is in
    let I = c.lambda_term.ensures in
    (I.0, of_left p a.l.now a.r.now a.w.now a.v.now I.1 refl)

pub returns-in-24 : goal.returns-in-24
returns-in-24 c = let a = c.args in
    let p = term_asks c.requires.0 c.triple_at.ensures c.in-24.is in
    let I = c.apply_term.ensures in
    (I, of-kind p (scratch a.l.now a.r.now a.w.now a.v.now))

pub case_term-requires : goal.case_term-requires
case_term-requires c = let e = (term_asks c.requires.0 c.triple_at.ensures c.in-27.is).kind in
    (c.requires.0, c.requires.1 (case-here (rows c.args.s.now) c.args.at e), e)

pub intrinsic_term-requires : goal.intrinsic_term-requires
intrinsic_term-requires c = term_asks c.requires.0 {K = 30} c.triple_at.ensures (let k = kinds c.requires.0 in let e = ap (λ (t : Triple). t.kind) c.triple_at.ensures in omega arith)

pub returns-in-25 : goal.returns-in-25
returns-in-25 c = let a = c.args in
    let p = term_asks c.requires.0 c.triple_at.ensures c.in-25.is in
    let I = c.type_lambda_term.ensures in
    (I, of-kind p (scratch a.l.now a.r.now a.w.now a.v.now))

pub returns-in-26 : goal.returns-in-26
returns-in-26 c = let a = c.args in
    let p = term_asks c.requires.0 c.triple_at.ensures c.in-26.is in
    let I = c.constructor_term.ensures in
    (I.0, of_left p a.l.now a.r.now a.w.now a.v.now I.1 refl)

pub returns-in-27 : goal.returns-in-27
returns-in-27 c = let a = c.args in
    let p = term_asks c.requires.0 c.triple_at.ensures c.in-27.is in
    let I = c.case_term.ensures in
    (I.0, I.1 ∙ of-kind p (scratch a.l.now a.r.now a.w.now a.v.now))

pub returns-in-28 : goal.returns-in-28
returns-in-28 c = let a = c.args in
    let p = term_asks c.requires.0 c.triple_at.ensures c.in-28.is in
    let I = c.bin_op_term.ensures in
    (I, of-kind p (scratch a.l.now a.r.now a.w.now a.v.now))

pub returns-in-29 : goal.returns-in-29
returns-in-29 c = let a = c.args in
    let p = term_asks c.requires.0 c.triple_at.ensures c.in-29.is in
    let I = c.if_term.ensures in
    (I, of-kind p (scratch a.l.now a.r.now a.w.now a.v.now))

pub returns-in_default : goal.returns-in_default
returns-in_default c = let a = c.args in
    let p = term_asks c.requires.0 {K = 30} c.triple_at.ensures (let k = kinds c.requires.0 in let e = ap (λ (t : Triple). t.kind) c.triple_at.ensures in omega arith) in
    let I = c.intrinsic_term.ensures in
    (I, of-kind p (scratch a.l.now a.r.now a.w.now a.v.now))
