use Rattle.std.proofs.Common.{sym, ap, arith, ◌∙◌}
use Rattle.grammar.specs.Grammar.{unfit, sub_term}
use Rattle.grammar.proofs.Laws.{lacking}
use Rattle.grammar.proofs.Steps.{ends-within}
use Rattle.grammar.proofs.sub_term.Goals as goal

pub returns-then-s-at : goal.returns-then-s-at
unfolding sub_term
returns-then-s-at c = rw (lacking _ _ _ _ c.if-s-at.true)

pub overflow_mul-result-in-Ok : goal.overflow_mul-result-in-Ok
overflow_mul-result-in-Ok c = let w = ends-within c.args.s.now _ c.args.at (omega arith) c.in-Ok.ensures in omega arith

pub slice_bounds-result-count : goal.slice_bounds-result-count
slice_bounds-result-count c = let w = ends-within c.args.s.now _ c.args.at (omega arith) c.in-Ok.ensures in omega arith

pub slice_bounds-result-start : goal.slice_bounds-result-start
slice_bounds-result-start c = let w = ends-within c.args.s.now _ c.args.at (omega arith) c.in-Ok.ensures in omega arith

pub slice_bounds-result-end-in-Ok : goal.slice_bounds-result-end-in-Ok
slice_bounds-result-end-in-Ok c = let w = ends-within c.args.s.now _ c.args.at (omega arith) c.in-Ok.ensures in omega arith

pub returns-in-Ok : goal.returns-in-Ok
unfolding sub_term
returns-in-Ok c = rw (sym c.read_part.ensures ∙ ap unfit c.in-Ok.is)

pub returns-in-Err : goal.returns-in-Err
unfolding sub_term
returns-in-Err c = rw (sym c.read_part.ensures ∙ ap unfit c.in-Err.is)
