use Rattle.std.proofs.Common.{refl, ap, ◌∙◌, ℕ, ◌+◌, ◌-◌, arith}
use Rattle.std.proofs.lemmas.List.Edits.{sets}
use Rattle.nodes.specs.Nodes.{words}
use Rattle.judgment.specs.Types.{arrow, unknown}
use Rattle.inference.specs.Inference.{type_on}
use Rattle.applying.specs.Applying.{env_on}
use Rattle.inferring.proofs.Views.{viewed, value-fits, type-lines, lambda-view}
use Rattle.inferring.proofs.lambda_term.Goals as goal

pub value_at-name-requires : goal.value_at-name-requires
value_at-name-requires c = value-fits c.requires.0 refl

pub overflow_sub-n : goal.overflow_sub-n
overflow_sub-n c = (type-lines c.requires.0 refl (c.wide.ensures ∙ c.part_at-body.ensures)).0

pub infer_lambda-requires : goal.infer_lambda-requires
infer_lambda-requires c = let p = c.requires.0 in
    let l = type-lines p refl (c.wide.ensures ∙ c.part_at-body.ensures) in
    let n = l.1 in
    let r = c.requires.1 in
    (p.ready.board, p.within, omega arith, l.2, p.formed)

pub returns : goal.returns
returns c = let p = c.requires.0 in
    let a = c.args in
    let w = c.wide.ensures in
    let q = c.part_at-body.ensures in
    let I = c.infer_lambda.ensures in
    (viewed p (lambda-view p refl c.value_at-name.ensures w q) (λ m. I.1 m (env_on a.s.now)), I.0 ∙ ap (λ (i : ℕ). sets a.l.now 0 (words (arrow (type_on a.s.now (a.at + 1) (i - (a.at + 1))) (unknown a.c.counters.fresh)))) (w ∙ q))
