use Rattle.std.proofs.Common.{◌≡◌, ◌+◌, ◌-◌, take, drop, arith, refl, ap, ◌∙◌}
use Rattle.spelling.proofs.Few.{few-not, few-by}
use Rattle.spelling.proofs.few_at.Goals as goal

pub returns-then-not-is_roomy : goal.returns-then-not-is_roomy
returns-then-not-is_roomy c =
    let a = c.args in
    let d : a.at + 29 - a.at ≡ 29 = omega arith in
    few-not a.s.now a.at _ (ap (λ n. take n (drop a.at a.s.now)) d) c.if-not-is_roomy.ensures

pub returns-in_err-last_two : goal.returns-in_err-last_two
returns-in_err-last_two c =
    let a = c.args in
    let d : a.at + 29 - a.at ≡ 29 = omega arith in
    c.from_residual.ensures ∙ few-by a.s.now a.at _ (ap (λ n. take n (drop a.at a.s.now)) d) c.if-not-is_roomy.ensures c.in_err-last_two.ensures.number refl refl

pub returns-in_err-last_four : goal.returns-in_err-last_four
returns-in_err-last_four c =
    let a = c.args in
    let d : a.at + 29 - a.at ≡ 29 = omega arith in
    c.from_residual-in_err-last_four.ensures ∙ few-by a.s.now a.at _ (ap (λ n. take n (drop a.at a.s.now)) d) c.if-not-is_roomy.ensures c.in_ok-last_two.ensures.number c.in_err-last_four.ensures refl

pub returns-in_err-last_five : goal.returns-in_err-last_five
returns-in_err-last_five c =
    let a = c.args in
    let d : a.at + 29 - a.at ≡ 29 = omega arith in
    c.from_residual-in_err-last_five.ensures ∙ few-by a.s.now a.at _ (ap (λ n. take n (drop a.at a.s.now)) d) c.if-not-is_roomy.ensures c.in_ok-last_two.ensures.number c.in_ok-last_four.ensures c.in_err-last_five.ensures

pub returns : goal.returns
returns c =
    let a = c.args in
    let d : a.at + 29 - a.at ≡ 29 = omega arith in
    few-by a.s.now a.at _ (ap (λ n. take n (drop a.at a.s.now)) d) c.if-not-is_roomy.ensures c.in_ok-last_two.ensures.number c.in_ok-last_four.ensures c.in_ok-last_five.ensures
