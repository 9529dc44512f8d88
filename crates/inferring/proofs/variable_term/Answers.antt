use Rattle.std.proofs.Common.{refl, ap, ◌∙◌, ℕ}
use Rattle.inferring.proofs.Views.{viewed, value-fits, var-view}
use Rattle.inferring.specs.Rooms.{variable_out}
use Rattle.inferring.proofs.variable_term.Goals as goal

pub value_at-name-requires : goal.value_at-name-requires
value_at-name-requires c = value-fits c.requires.0 refl

pub returns : goal.returns
returns c = let p = c.requires.0 in
    let a = c.args in
    let x = c.value_at-name.ensures in
    let I = c.infer_variable.ensures in
    (viewed p (var-view p refl x) I.0, I.1 ∙ ap (λ (i : ℕ). variable_out a.board.now a.c a.s.now i a.l.now) x)
