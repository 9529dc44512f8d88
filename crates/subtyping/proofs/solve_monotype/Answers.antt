use Rattle.std.proofs.Common.{sym, ap₂, ◌∙◌, List, ℕ, ◌<◌, arith, length}
use Rattle.nodes.specs.Nodes.{Ty, nodes_at}
use Rattle.nodes.proofs.Laws.{length-nodes_at}
use Rattle.spelling.specs.declared.Triple.{Triple}
use Rattle.judgment.specs.Board.{refuse}
use Rattle.judgment.specs.declared.TypeError.TheVariants.{InstantiationError, OutOfScope}
use Rattle.operations.specs.State.{WellFormed, way_in}
use Rattle.operations.proofs.Latch.{refused-run, scope-stops}
use Rattle.operations.proofs.Then.{does-as, report-free}
use Rattle.subtyping.proofs.Fronts.{moved_front, mono-stays, mono-moves}
use Rattle.subtyping.proofs.solve_monotype.Goals as goal

pub returns-then-not-is_monotype : goal.returns-then-not-is_monotype
returns-then-not-is_monotype c = (
  λ (m : ℕ) (ls : List Triple) (b : List ℕ) (f : WellFormed b c.args.book.now c.args.c).
      let a = c.args in
      let T : Ty = nodes_at a.report.now a.at a.n in
      let D = c.refuse.ensures.1 (way_in a.strict m a.book.now) ls b a.book.now c.move_to_front.new.t f in
      let e = moved_front a.report.now a.at a.n c.move_to_front.new.t c.move_to_front.ensures c.requires.within in
      rw (sym c.is_monotype.ensures ∙ c.if-not-is_monotype.true)
      (report-free c.requires.goes (does-as (λ _. ap₂ (λ (x : ℕ) (y : Ty). refuse (InstantiationError a.x x) y) e.0 e.1) D)),
  c.move_to_front.ensures ∙ mono-moves _ _ (sym c.is_monotype.ensures ∙ c.if-not-is_monotype.true),
)

pub returns-then-not-in_scope : goal.returns-then-not-in_scope
returns-then-not-in_scope c = (
  λ (m : ℕ) (ls : List Triple) (b : List ℕ) (f : WellFormed b c.args.book.now c.args.c).
      let a = c.args in
      let p = c.requires in
      let some : 0 < length (nodes_at a.report.now a.at a.n) = let z = p.some in omega (arith, length-nodes_at a.report.now a.at a.n) in
      rw (sym c.is_monotype.ensures ∙ c.if-not-is_monotype.false, c.refuse-then-not-in_scope.ensures.0 ∙ refused-run a.c OutOfScope p.goes)
      (scope-stops f (way_in a.strict m a.book.now) ls a.report.now a.x (nodes_at a.report.now a.at a.n) some p.solves p.goes (sym c.in_scope.ensures ∙ c.if-not-in_scope.true)),
  mono-stays _ _ (sym c.is_monotype.ensures ∙ c.if-not-is_monotype.false),
)

pub returns : goal.returns
returns c = (
  λ (m : ℕ) (ls : List Triple) (b : List ℕ) (f : WellFormed b c.args.book.now c.args.c).
      rw (sym c.is_monotype.ensures ∙ c.if-not-is_monotype.false)
      (c.solve_evar.ensures.2 (way_in c.args.strict m c.args.book.now) ls b c.args.report.now (sym c.in_scope.ensures ∙ c.if-not-in_scope.false) f),
  mono-stays _ _ (sym c.is_monotype.ensures ∙ c.if-not-is_monotype.false),
)
