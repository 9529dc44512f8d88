-- InfApp by the shape of the function's type. Assumes nothing.
use Rattle.std.proofs.Common.{◌≡◌, refl, sym, ap, ◌∙◌, subst, ◌≢◌, List, ℕ, ◌+◌, ◌*◌, ◌-◌, ◌≤◌, ◌<◌, arith, length, get_or}
use Rattle.sizes.specs.Sizes.{most_nodes}
use Rattle.nodes.specs.Nodes.{node, Ty, nodes_at}
use Rattle.nodes.proofs.Laws.{length-nodes_at}
use Rattle.judgment.specs.declared.TypeError.TheVariants.{NotAFunction}
use Rattle.judgment.specs.Types.{unknown, first, View, is_arrow, is_app, is_forall, is_unknown, is_other, view}
use Rattle.judgment.specs.Terms.{Term}
use Rattle.judgment.specs.Board.{refuse}
use Rattle.judgment.specs.Rules.{Env, apply_by}
use Rattle.core_types.proofs.Walks.{first-within}
use Rattle.operations.specs.declared.Run.{Run}
use Rattle.subtyping.specs.declared.Shape.{Shape}
use Rattle.subtyping.specs.declared.Shape.TheVariants.{Arrow, Forall, Unknown}
use Rattle.subtyping.specs.Subtyping.{shape_of, opened_at, Written, SubAsk}
use Rattle.subtyping.proofs.Shapes.{forall-view, unknown-is}
use Rattle.subtyping.proofs.Subs.{sizes}
use Rattle.inference.specs.Inference.{Open}
use Rattle.applying.specs.Applying.{apply_report}

-- ---- the rule by views
not-function : (E : Env) (f : Ty) (e : Term) (c : Ty) (v : View) → shape_of v ≢ Arrow → shape_of v ≢ Forall → shape_of v ≢ Unknown → refuse (NotAFunction (length f)) f ≡ apply_by E f e c v
not-function E f e c (is_arrow a b) p q r = absurd (p refl)
not-function E f e c (is_app a b) p q r = refl
not-function E f e c (is_forall x b) p q r = absurd (q refl)
not-function E f e c (is_unknown k) p q r = absurd (r refl)
not-function E f e c is_other p q r = refl

-- ---- what the calls ask
module _ {b k rep : List ℕ} {c : Run} {f n : ℕ} (a : SubAsk b k rep c f n) where
  abbrev F : Ty
  F = nodes_at rep 0 f

  -- both types have nodes, and stand in the report one after the other
  pub bounds : (0 < f) × (0 < n) × (f ≤ most_nodes) × (n ≤ most_nodes) × (2 * f + 2 * n ≤ length rep)
  bounds =
      let s = sizes a in
      let w = a.within in
      (s.0, s.1, s.2, s.3, omega arith)

  -- the first part of an Arrow ends in it
  pub part-within : (m : ℕ) → m ≡ length (first (nodes_at rep 2 (f - 1))) → m ≤ f - 1
  part-within m e = first-within rep 2 (f - 1) m e

  -- an unknown is unsolved, since it was written out
  pub unknown-open : Unknown ≡ shape_of (view F) → Open k c (get_or rep 1 0)
  unknown-open e =
      let u : Written k c (unknown (get_or rep 1 0)) = subst (Written k c) (unknown-is rep 0 f bounds.0 (sym e)) a.left in
      (u.made.0 refl, u.free.0)

  -- anything else is refused, with the type at the front of the report
  pub refuses : (E : Env) (e : Term) (t : Ty) → shape_of (view F) ≢ Arrow → shape_of (view F) ≢ Forall → shape_of (view F) ≢ Unknown → refuse (NotAFunction f) F ≡ apply_by E F e t (view F)
  refuses E e t p q r = ap (λ (m : ℕ). refuse (NotAFunction m) F) (sym (length-nodes_at rep 0 f)) ∙ not-function E F e t (view F) p q r

  -- ---- every word of the report, by the shape that the code has read
  module _ (u : ℕ) where
    pub report-stays : {s : Shape} → s ≡ shape_of (view F) → s ≢ Forall → rep ≡ apply_report rep u (view F)
    report-stays e h = by (view F) (λ z. h (e ∙ z))
      where
        by : (v : View) → shape_of v ≢ Forall → rep ≡ apply_report rep u v
        by (is_arrow a b) h = refl
        by (is_app a b) h = refl
        by (is_forall x b) h = absurd (h refl)
        by (is_unknown k) h = refl
        by is_other h = refl

    pub report-opened : Forall ≡ shape_of (view F) → opened_at rep 2 (get_or rep 1 0) (node 17 u) (nodes_at rep 2 (f - 1)) ≡ apply_report rep u (view F)
    report-opened e = ap (apply_report rep u) (sym (forall-view rep 0 f (sym e)))
