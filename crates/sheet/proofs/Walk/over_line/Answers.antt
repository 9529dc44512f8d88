use Rattle.std.proofs.Common.{sym, ap, ◌∙◌}
use Rattle.kinds.specs.declared.Row.{Row}
use Rattle.kinds.specs.Kinds.{fields_ok}
use Rattle.sheet.proofs.Walks.{line-walked, leaf_walked}
use Rattle.sheet.proofs.Walk.over_line.Goals as goal

pub returns-then-is_leaf : goal.returns-then-is_leaf
returns-then-is_leaf c = λ ls h. leaf_walked ls c.args.i c.args.t c.word_in-word.ensures.row c.fields_ok.ensures (sym c.is_leaf.ensures ∙ c.if-is_leaf.true)

pub returns : goal.returns
returns c = λ ls h.
    (let a = c.args in
    let u = c.row_in.ensures in
    line-walked ls a.i a.t (u ∙ c.word_in-word.ensures.row) (c.fields_ok.ensures ∙ ap (λ (r : Row). fields_ok r a.t) (sym u)) (c.over_parts.ensures ls h))
