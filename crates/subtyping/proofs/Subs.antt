-- Sub by the shapes of its two types. Assumes nothing.
use Rattle.std.proofs.Common.{◌≡◌, refl, sym, ap, ap₂, ◌∙◌, subst, ◌≢◌, Bool, true, false, cond, List, [], ◌∷◌, ◌++◌, ℕ, ◌+◌, ◌*◌, ◌-◌, ◌≤◌, ◌<◌, arith, length, get_or}
use Rattle.sizes.specs.Sizes.{most_nodes}
use Rattle.nodes.specs.Nodes.{node, Ty, nodes_at}
use Rattle.nodes.specs.Lists.{All}
use Rattle.nodes.proofs.Laws.{length-nodes_at, nodes_at-append}
use Rattle.judgment.specs.declared.TypeError.TheVariants.{SubtypingError}
use Rattle.judgment.specs.Types.{unknown, View, is_arrow, is_app, is_forall, is_unknown, is_other, view, occurs}
use Rattle.judgment.specs.Solutions.{solved_unknowns}
use Rattle.judgment.specs.Board.{Rule, refuse}
use Rattle.judgment.specs.Rules.{left, right, instantiate, mismatch, forall_right, forall_left, unknown_left, subtype_by}
use Rattle.judgment.specs.Good.{Free, Avoids}
use Rattle.judgment.proofs.RuleLaws.{occurs-false}
use Rattle.book.specs.Book.{sols}
use Rattle.operations.specs.declared.Run.{Run}
use Rattle.operations.specs.State.{WellFormed, going}
use Rattle.subtyping.specs.declared.Shape.{Shape}
use Rattle.subtyping.specs.declared.Shape.TheVariants.{Arrow, App, Forall, Unknown}
use Rattle.subtyping.specs.Subtyping.{shape_of, right_by, parts_by, opened_at, inst_report, right_report, unknown_report, left_report, shapes_report, Written, InstAsk, PartsAsk, OpenAsk, SubAsk}
use Rattle.subtyping.proofs.Shapes.{arrow-view, app-view, forall-view, unknown-view, unknown-is}

both-free : (x : ℕ) (ks : List ℕ) (t : Ty) → All (Avoids x) t → All (Free ks) t → All (Free (x ∷ ks)) t
both-free x ks [] a f = tt
both-free x ks (n ∷ t) a f = ((a.0, f.0), both-free x ks t a.1 f.1)

-- ---- the rule by views
right-other : (l r : Ty) (v : View) → shape_of v ≢ Unknown → mismatch l r ≡ right_by l r v
right-other l r (is_arrow a b) h = refl
right-other l r (is_app a b) h = refl
right-other l r (is_forall x b) h = refl
right-other l r (is_unknown k) h = absurd (h refl)
right-other l r is_other h = refl

module _ (l r : Ty) where
  sub-forall-right : (v : View) (x : ℕ) (b : Ty) → forall_right l r x b ≡ subtype_by l r v (is_forall x b)
  sub-forall-right (is_arrow a c) x b = refl
  sub-forall-right (is_app a c) x b = refl
  sub-forall-right (is_forall y c) x b = refl
  sub-forall-right (is_unknown k) x b = refl
  sub-forall-right is_other x b = refl

  sub-forall-left : (w : View) → shape_of w ≢ Forall → (x : ℕ) (a : Ty) → forall_left l r x a ≡ subtype_by l r (is_forall x a) w
  sub-forall-left (is_arrow b c) h x a = refl
  sub-forall-left (is_app b c) h x a = refl
  sub-forall-left (is_forall y c) h x a = absurd (h refl)
  sub-forall-left (is_unknown k) h x a = refl
  sub-forall-left is_other h x a = refl

  sub-unknown-left : (w : View) → shape_of w ≢ Forall → (k : ℕ) → unknown_left l r k (right_by l r w) ≡ subtype_by l r (is_unknown k) w
  sub-unknown-left (is_arrow b c) h k = refl
  sub-unknown-left (is_app b c) h k = refl
  sub-unknown-left (is_forall y c) h k = absurd (h refl)
  sub-unknown-left (is_unknown j) h k = refl
  sub-unknown-left is_other h k = refl

  -- neither a quantifier, nor an unknown on the left, nor two Arrows or two Apps
  sub-right : (v w : View) → shape_of w ≢ Forall → shape_of v ≢ Forall → shape_of v ≢ Unknown → (shape_of v ≡ Arrow → shape_of w ≢ Arrow) → (shape_of v ≡ App → shape_of w ≢ App) → right_by l r w ≡ subtype_by l r v w
  sub-right (is_arrow a₁ a₂) (is_arrow b₁ b₂) h g u p q = absurd (p refl refl)
  sub-right (is_arrow a₁ a₂) (is_app b₁ b₂) h g u p q = refl
  sub-right (is_arrow a₁ a₂) (is_forall y b) h g u p q = absurd (h refl)
  sub-right (is_arrow a₁ a₂) (is_unknown k) h g u p q = refl
  sub-right (is_arrow a₁ a₂) is_other h g u p q = refl
  sub-right (is_app a₁ a₂) (is_arrow b₁ b₂) h g u p q = refl
  sub-right (is_app a₁ a₂) (is_app b₁ b₂) h g u p q = absurd (q refl refl)
  sub-right (is_app a₁ a₂) (is_forall y b) h g u p q = absurd (h refl)
  sub-right (is_app a₁ a₂) (is_unknown k) h g u p q = refl
  sub-right (is_app a₁ a₂) is_other h g u p q = refl
  sub-right (is_forall x a) w h g u p q = absurd (g refl)
  sub-right (is_unknown k) w h g u p q = absurd (u refl)
  sub-right is_other (is_arrow b₁ b₂) h g u p q = refl
  sub-right is_other (is_app b₁ b₂) h g u p q = refl
  sub-right is_other (is_forall y b) h g u p q = absurd (h refl)
  sub-right is_other (is_unknown k) h g u p q = refl
  sub-right is_other is_other h g u p q = refl

-- ---- what the calls ask
module _ {b k rep : List ℕ} {c : Run} (f : WellFormed b k c) (g : going c.halt ≡ true) where
  inst-asks : (x at n : ℕ) → at + 2 * n ≤ length rep → Written k c (nodes_at rep at n) → Written k c (unknown x) → occurs x (nodes_at rep at n) ≡ false
      → shape_of (view (nodes_at rep at n)) ≢ Forall → InstAsk b k rep c x at n
  inst-asks x at n h w u o flat = record {
    formed = f;
    goes = g;
    within = h;
    some = let s = w.some in omega (arith, length-nodes_at rep at n);
    few = let s = w.few in omega (arith, length-nodes_at rep at n);
    flat = flat;
    solves = record {
      made = u.made.0 refl;
      unsolved = u.free.0;
      free = both-free x (solved_unknowns (sols k)) (nodes_at rep at n) (occurs-false x (nodes_at rep at n) o) w.free;
      older = w.made;
    };
  }

module _ {b k rep : List ℕ} {c : Run} {l r : ℕ} (a : SubAsk b k rep c l r) where
  abbrev L : Ty
  L = nodes_at rep 0 l

  abbrev R : Ty
  R = nodes_at rep (2 * l) r

  pub sizes : (0 < l) × (0 < r) × (l ≤ most_nodes) × (r ≤ most_nodes)
  sizes =
      let m = length-nodes_at rep 0 l in
      let n = length-nodes_at rep (2 * l) r in
      let w1 = a.left.some in
      let w2 = a.right.some in
      let w3 = a.left.few in
      let w4 = a.right.few in
      (omega arith, omega arith, omega arith, omega arith)

  mismatch-is : refuse (SubtypingError l r) (nodes_at rep 0 (l + r)) ≡ mismatch L R
  mismatch-is =
      let z : 0 + 2 * l ≡ 2 * l = omega arith in
      let q : nodes_at rep 0 (l + r) ≡ L ++ R = nodes_at-append rep 0 l r ∙ ap (λ (p : ℕ). nodes_at rep 0 l ++ nodes_at rep p r) z in
      ap₂ (λ (x : ℕ × ℕ) (t : Ty). refuse (SubtypingError x.0 x.1) t) (ap₂ (λ (x y : ℕ). (x, y)) (sym (length-nodes_at rep 0 l)) (sym (length-nodes_at rep (2 * l) r))) q

  pub right-asks : shape_of (view R) ≡ Unknown → shape_of (view L) ≢ Forall → occurs (get_or rep (2 * l + 1) 0) L ≡ false → InstAsk b k rep c (get_or rep (2 * l + 1) 0) 0 l
  right-asks e flat o =
      let w = a.within in
      inst-asks a.formed a.goes (get_or rep (2 * l + 1) 0) 0 l (omega arith) a.left (subst (Written k c) (unknown-is rep (2 * l) r sizes.1 e) a.right) o flat

  pub left-asks : shape_of (view L) ≡ Unknown → shape_of (view R) ≢ Forall → occurs (get_or rep 1 0) R ≡ false → InstAsk b k rep c (get_or rep 1 0) (2 * l) r
  left-asks e flat o =
      let w = a.within in
      inst-asks a.formed a.goes (get_or rep 1 0) (2 * l) r (omega arith) a.right (subst (Written k c) (unknown-is rep 0 l sizes.0 e) a.left) o flat

  pub open-asks : OpenAsk b rep c l r
  open-asks = record { formed = (k, a.formed); goes = a.goes; within = a.within; few_left = sizes.2; few_right = sizes.3 }

  pub parts-asks : PartsAsk b c rep 2 (l - 1) (2 * l + 2) (r - 1)
  parts-asks =
      let w = a.within in
      let s = sizes in
      record { formed = (k, a.formed); left = omega arith; right = omega arith; few_left = omega arith; few_right = omega arith }

  -- ---- the branches of the code, by the shapes and the occurs checks that it has read
  by : {v w : View} → view L ≡ v → view R ≡ w → subtype_by L R v w ≡ subtype_by L R (view L) (view R)
  by p q = ap₂ (subtype_by L R) (sym p) (sym q)

  pub by-forall-right : Forall ≡ shape_of (view R) → forall_right L R (get_or rep (2 * l + 1) 0) (nodes_at rep (2 * l + 2) (r - 1)) ≡ subtype_by L R (view L) (view R)
  by-forall-right e = sub-forall-right L R (view L) (get_or rep (2 * l + 1) 0) (nodes_at rep (2 * l + 2) (r - 1)) ∙ by refl (forall-view rep (2 * l) r (sym e))

  pub by-forall-left : shape_of (view R) ≢ Forall → shape_of (view L) ≡ Forall → forall_left L R (get_or rep 1 0) (nodes_at rep 2 (l - 1)) ≡ subtype_by L R (view L) (view R)
  by-forall-left h e = sub-forall-left L R (view R) h (get_or rep 1 0) (nodes_at rep 2 (l - 1)) ∙ by (forall-view rep 0 l e) refl

  pub by-unknown-left : shape_of (view R) ≢ Forall → shape_of (view L) ≡ Unknown → unknown_left L R (get_or rep 1 0) (right_by L R (view R)) ≡ subtype_by L R (view L) (view R)
  by-unknown-left h e = sub-unknown-left L R (view R) h (get_or rep 1 0) ∙ by (unknown-view rep 0 l e) refl

  pub by-arrows : Arrow ≡ shape_of (view L) → Arrow ≡ shape_of (view R) → parts_by true (nodes_at rep 2 (l - 1)) (nodes_at rep (2 * l + 2) (r - 1)) ≡ subtype_by L R (view L) (view R)
  by-arrows e f = by (arrow-view rep 0 l (sym e)) (arrow-view rep (2 * l) r (sym f))

  pub by-apps : App ≡ shape_of (view L) → App ≡ shape_of (view R) → parts_by false (nodes_at rep 2 (l - 1)) (nodes_at rep (2 * l + 2) (r - 1)) ≡ subtype_by L R (view L) (view R)
  by-apps e f = by (app-view rep 0 l (sym e)) (app-view rep (2 * l) r (sym f))

  pub by_right : shape_of (view R) ≢ Forall → shape_of (view L) ≢ Forall → shape_of (view L) ≢ Unknown → (shape_of (view L) ≡ Arrow → shape_of (view R) ≢ Arrow)
      → (shape_of (view L) ≡ App → shape_of (view R) ≢ App) → right_by L R (view R) ≡ subtype_by L R (view L) (view R)
  by_right h g u p q = sub-right L R (view L) (view R) h g u p q

  pub by-left-occurs : {p : Bool} → p ≡ occurs (get_or rep 1 0) R → cond p (right_by L R (view R)) (instantiate left (get_or rep 1 0) R) ≡ unknown_left L R (get_or rep 1 0) (right_by L R (view R))
  by-left-occurs e = ap (λ (z : Bool). cond z (right_by L R (view R)) (instantiate left (get_or rep 1 0) R)) e

  pub by-right-occurs : Unknown ≡ shape_of (view R) → {p : Bool} → p ≡ occurs (get_or rep (2 * l + 1) 0) L
      → cond p (refuse (SubtypingError l r) (nodes_at rep 0 (l + r))) (instantiate right (get_or rep (2 * l + 1) 0) L) ≡ right_by L R (view R)
  by-right-occurs e {p = p} f =
      ap (λ (m : Rule). cond p m (instantiate right (get_or rep (2 * l + 1) 0) L)) mismatch-is
      ∙ ap (λ (z : Bool). cond z (mismatch L R) (instantiate right (get_or rep (2 * l + 1) 0) L)) f
      ∙ ap (right_by L R) (sym (unknown-view rep (2 * l) r (sym e)))

  pub by-mismatch : {s : Shape} → s ≡ shape_of (view R) → s ≢ Unknown → refuse (SubtypingError l r) (nodes_at rep 0 (l + r)) ≡ right_by L R (view R)
  by-mismatch e h = mismatch-is ∙ right-other L R (view R) (λ z. h (e ∙ z))

  -- ---- every word of the report
  pub report-left-occurs : {p : Bool} → p ≡ occurs (get_or rep 1 0) R → cond p (right_report rep L (view R)) (inst_report rep R (view R)) ≡ unknown_report rep (get_or rep 1 0) L R
  report-left-occurs e = ap (λ (z : Bool). cond z (right_report rep L (view R)) (inst_report rep R (view R))) e

  pub report-right-occurs : Unknown ≡ shape_of (view R) → {p : Bool} → p ≡ occurs (get_or rep (2 * l + 1) 0) L → cond p rep (inst_report rep L (view L)) ≡ right_report rep L (view R)
  report-right-occurs e f = ap (λ (z : Bool). cond z rep (inst_report rep L (view L))) f ∙ ap (right_report rep L) (sym (unknown-view rep (2 * l) r (sym e)))

  module _ {s : Shape} (e : s ≡ shape_of (view R)) where
    pub report-mismatch : s ≢ Unknown → rep ≡ right_report rep L (view R)
    report-mismatch h = by (view R) (λ z. h (e ∙ z))
      where
        by : (v : View) → shape_of v ≢ Unknown → rep ≡ right_report rep L v
        by (is_arrow a b) h = refl
        by (is_app a b) h = refl
        by (is_forall x b) h = refl
        by (is_unknown k) h = absurd (h refl)
        by is_other h = refl

  module _ (u : ℕ) where
    shapes-left : (w : View) → shape_of w ≢ Forall → left_report rep u L R (view L) ≡ shapes_report rep u L R w
    shapes-left (is_arrow b c) h = refl
    shapes-left (is_app b c) h = refl
    shapes-left (is_forall y c) h = absurd (h refl)
    shapes-left (is_unknown j) h = refl
    shapes-left is_other h = refl

    left-right : (v : View) → shape_of v ≢ Forall → shape_of v ≢ Unknown → right_report rep L (view R) ≡ left_report rep u L R v
    left-right (is_arrow b c) h g = refl
    left-right (is_app b c) h g = refl
    left-right (is_forall y c) h g = absurd (h refl)
    left-right (is_unknown j) h g = absurd (g refl)
    left-right is_other h g = refl

    pub report-forall-right : Forall ≡ shape_of (view R) → opened_at rep (2 * l + 2) (get_or rep (2 * l + 1) 0) (node 18 u) (nodes_at rep (2 * l + 2) (r - 1)) ≡ shapes_report rep u L R (view R)
    report-forall-right e =
        ap (λ (m : ℕ). opened_at rep (2 * m + 2) (get_or rep (2 * l + 1) 0) (node 18 u) (nodes_at rep (2 * l + 2) (r - 1))) (sym (length-nodes_at rep 0 l))
        ∙ ap (shapes_report rep u L R) (sym (forall-view rep (2 * l) r (sym e)))

    module _ (h : shape_of (view R) ≢ Forall) where
      by_left : {v : View} → view L ≡ v → left_report rep u L R v ≡ shapes_report rep u L R (view R)
      by_left e = ap (left_report rep u L R) (sym e) ∙ shapes-left (view R) h

      pub report-forall-left : shape_of (view L) ≡ Forall → opened_at rep 2 (get_or rep 1 0) (node 17 u) (nodes_at rep 2 (l - 1)) ≡ shapes_report rep u L R (view R)
      report-forall-left e = by_left (forall-view rep 0 l e)

      pub report-unknown-left : shape_of (view L) ≡ Unknown → unknown_report rep (get_or rep 1 0) L R ≡ shapes_report rep u L R (view R)
      report-unknown-left e = by_left (unknown-view rep 0 l e)

      pub report-right : shape_of (view L) ≢ Forall → shape_of (view L) ≢ Unknown → right_report rep L (view R) ≡ shapes_report rep u L R (view R)
      report-right f g = left-right (view L) f g ∙ by_left refl

      pub report-parts : shape_of (view L) ≢ Forall → shape_of (view L) ≢ Unknown → shape_of (view R) ≢ Unknown → rep ≡ shapes_report rep u L R (view R)
      report-parts f g i = report-mismatch refl i ∙ report-right f g
