-- Instantiation by the view of its type. Assumes nothing.
use Rattle.std.proofs.Common.{◌≡◌, refl, sym, ap, ◌∙◌, subst, ◌≢◌, Bool, false, cond, List, ◌∷◌, ℕ, ◌+◌, ◌-◌, eqb, length, get_or, ne_eqb}
use borrow.Author.Tests.{eqb-false}
use Rattle.nodes.specs.Nodes.{Ty, nodes_at}
use Rattle.nodes.specs.Lists.{All}
use Rattle.spelling.specs.declared.Triple.{Triple}
use Rattle.judgment.specs.Types.{unknown, first, rest, View, is_arrow, is_app, is_forall, is_unknown, is_other, view, is_monotype}
use Rattle.judgment.specs.Solutions.{solved_unknowns}
use Rattle.judgment.specs.Board.{Rule, done, solve, look, before}
use Rattle.judgment.specs.Board.{Board as Entries}
use Rattle.judgment.specs.Rules.{Side, left, right, solve_monotype, instantiate_by, instantiate_from, instantiate}
use Rattle.judgment.specs.Good.{Free}
use Rattle.judgment.specs.Result.{Way}
use Rattle.board.specs.Board.{entries_of}
use Rattle.book.specs.Book.{sols}
use Rattle.operations.specs.declared.Run.{Run}
use Rattle.operations.specs.State.{Does, Made, Solves}
use Rattle.operations.proofs.Then.{does-as, look_then}
use Rattle.subtyping.specs.declared.Shape.{Shape}
use Rattle.subtyping.specs.declared.Shape.TheVariants.{Arrow, App, Unknown, Other}
use Rattle.subtyping.specs.Subtyping.{shape_of, other_side, split_by, mono_report, inst_report, InstAsk}
use Rattle.subtyping.proofs.Shapes.{arrow-view, app-view, unknown-view, other-view, unknown-is}

-- ---- the rule by its view
module _ (d : Side) (x : ℕ) (t : Ty) where
  abbrev again : Ty → Rule
  again t' = instantiate_from (length t) d x t'

  by-view : {v : View} → view t ≡ v → instantiate_by d x t again v ≡ instantiate d x t
  unfolding instantiate_from
  by-view e = ap (instantiate_by d x t again) (sym e)

  inst-arrow : (u : Ty) {o : Side} → o ≡ other_side d → view t ≡ is_arrow (first u) (rest u) → split_by 13 x o d u ≡ instantiate d x t
  inst-arrow u q e = ap (λ (o : Side). split_by 13 x o d u) q ∙ turned d ∙ by-view e
    where
      turned : (d : Side) → split_by 13 x (other_side d) d u ≡ instantiate_by d x t (λ t'. instantiate_from (length t) d x t') (is_arrow (first u) (rest u))
      turned left = refl
      turned right = refl

  inst-app : (u : Ty) → view t ≡ is_app (first u) (rest u) → split_by 15 x d d u ≡ instantiate d x t
  inst-app u e = by-view e

  inst-other : view t ≡ is_other → solve_monotype x t ≡ instantiate d x t
  inst-other e = by-view e

  -- the choice between two unknowns
  abbrev reach : ℕ → Entries → Rule
  reach y Γ = cond (before x y Γ) (solve y (unknown x) done) (solve_monotype x t)

  inst-unknown : (y : ℕ) → view t ≡ is_unknown y → look (reach y) ≡ instantiate d x t
  inst-unknown y e = by-view e

-- ---- what the calls ask
module _ {b k rep : List ℕ} {c : Run} {x at n : ℕ} (a : InstAsk b k rep c x at n) where
  -- two unknowns: the one that stands in the type may be solved by x
  pub reach-solves : shape_of (view (nodes_at rep at n)) ≡ Unknown → Solves k c (get_or rep (at + 1) 0) (unknown x)
  reach-solves e =
      let y : ℕ = get_or rep (at + 1) 0 in
      let q = unknown-is rep at n a.some e in
      let m = subst (All (Made c.counters.fresh)) q a.solves.older in
      let f = subst (All (Free (x ∷ solved_unknowns (sols k)))) q a.solves.free in
      let z : eqb y x ≡ false = ne_eqb y x (λ i. eqb-false x y f.0.0 (sym i)) in
      record { made = m.0 refl; unsolved = f.0.1; free = ((z, a.solves.unsolved), tt); older = (λ _. a.solves.made, tt) }

  -- ---- the branches of the code, by the shape that it has read
  abbrev T : Ty
  T = nodes_at rep at n

  abbrev body : Ty
  body = nodes_at rep (at + 2) (n - 1)

  abbrev y : ℕ
  y = get_or rep (at + 1) 0

  module _ (d : Side) where
    pub by-arrow : {o : Side} → o ≡ other_side d → Arrow ≡ shape_of (view T) → split_by 13 x o d body ≡ instantiate d x T
    by-arrow q e = inst-arrow d x T body q (arrow-view rep at n (sym e))

    pub by-app : App ≡ shape_of (view T) → split_by 15 x d d body ≡ instantiate d x T
    by-app e = inst-app d x T body (app-view rep at n (sym e))

    pub by-unknown : Unknown ≡ shape_of (view T) → {w : Way} {ls : List Triple} {b₁ k₁ rep₁ : List ℕ} {c₁ : Run} {p : Bool} → p ≡ before x y (entries_of ls b c.counters.board.entries)
        → Does w ls b k rep c (cond p (solve y (unknown x) done) (solve_monotype x T)) b₁ k₁ rep₁ c₁ → Does w ls b k rep c (instantiate d x T) b₁ k₁ rep₁ c₁
    by-unknown e f D =
        does-as (λ _. inst-unknown d x T y (unknown-view rep at n (sym e)))
        (look_then {f = reach d x T y} (does-as (λ _. ap (λ (z : Bool). cond z (solve y (unknown x) done) (solve_monotype x T)) f) D))

    pub by-other : {s : Shape} → s ≡ shape_of (view T) → s ≢ Arrow → s ≢ App → s ≢ Unknown → solve_monotype x T ≡ instantiate d x T
    by-other e f g h = inst-other d x T (other-view rep at n (λ z. f (e ∙ z)) (λ z. g (e ∙ z)) a.flat (λ z. h (e ∙ z)))

  -- ---- every word of the report
  module _ {s : Shape} (e : s ≡ shape_of (view T)) where
    pub report-stays : s ≢ Other → rep ≡ inst_report rep T (view T)
    report-stays h = by (view T) (λ z. h (e ∙ z))
      where
        by : (v : View) → shape_of v ≢ Other → rep ≡ inst_report rep T v
        by (is_arrow a b) h = refl
        by (is_app a b) h = refl
        by (is_forall x b) h = refl
        by (is_unknown k) h = refl
        by is_other h = absurd (h refl)

    pub report-other : s ≢ Arrow → s ≢ App → s ≢ Unknown → mono_report rep T ≡ inst_report rep T (view T)
    report-other f g h = ap (inst_report rep T) (sym (other-view rep at n (λ z. f (e ∙ z)) (λ z. g (e ∙ z)) a.flat (λ z. h (e ∙ z))))

  -- an unknown is a monotype
  pub report-unknown : Unknown ≡ shape_of (view T) → mono_report rep T ≡ inst_report rep T (view T)
  unfolding is_monotype
  report-unknown e = ap (mono_report rep) (unknown-is rep at n a.some (sym e)) ∙ report-stays e (λ z. cc)
