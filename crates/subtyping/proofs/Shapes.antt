-- What a type's shape says of its view. Assumes nothing.
use Rattle.std.proofs.Common.{◌≡◌, refl, sym, ap, ap₂, ◌∙◌, subst, ◌≢◌, Bool, true, false, ◌&&◌, List, [], ◌∷◌, ℕ, zero, suc, ◌+◌, ◌-◌, ◌<◌, arith, eqb, get_or, ne_eqb, eqb-true}
use mathlib.Core.Bool.{false≢true}
use Rattle.nodes.specs.Nodes.{node, Ty, nodes_at}
use Rattle.nodes.proofs.ListLaws.{cond_ind}
use Rattle.nodes.proofs.Laws.{nodes_at-cons}
use Rattle.judgment.specs.Types.{unknown, first, rest, null, View, is_arrow, is_app, is_forall, is_unknown, is_other, view}
use Rattle.judgment.proofs.TypeLaws.{both}
use Rattle.subtyping.specs.declared.Shape.{Shape}
use Rattle.subtyping.specs.declared.Shape.TheVariants.{Arrow, App, Forall, Unknown, Other}
use Rattle.subtyping.specs.Subtyping.{shape_of}

-- ---- the tests of `shape`, one after the other
module _ (k v : ℕ) (ns : Ty) where
  pub arrow-shape : k ≡ 13 → v ≡ 0 → shape_of (view (node k v ∷ ns)) ≡ Arrow
  unfolding view
  arrow-shape p q = rw (p, q)

  pub app-shape : k ≡ 15 → v ≡ 0 → shape_of (view (node k v ∷ ns)) ≡ App
  unfolding view
  app-shape p q = rw (p, q)

  pub forall-shape : k ≡ 14 → shape_of (view (node k v ∷ ns)) ≡ Forall
  unfolding view
  forall-shape p = rw p

  pub unknown-shape : k ≡ 17 → ns ≡ [] → shape_of (view (node k v ∷ ns)) ≡ Unknown
  unfolding view
  unknown-shape p q = rw (p, q)

  and-false : (b : Bool) → (b && false) ≡ false
  and-false true = refl
  and-false false = refl

  pub other-shape : (k ≡ 13 → v ≢ 0) → (k ≡ 15 → v ≢ 0) → k ≢ 14 → (k ≡ 17 → null ns ≡ false) → shape_of (view (node k v ∷ ns)) ≡ Other
  unfolding view
  other-shape f g h u = rw (pair 13 f, pair 15 g, ne_eqb k 14 h, last (eqb k 17) refl)
    where
      pair : (j : ℕ) → (k ≡ j → v ≢ 0) → (eqb k j && eqb v 0) ≡ false
      pair j f = by (eqb k j) refl
        where
          by : (b : Bool) → eqb k j ≡ b → (b && eqb v 0) ≡ false
          by true e = ne_eqb v 0 (f (eqb-true k j e))
          by false e = refl

      last : (b : Bool) → eqb k 17 ≡ b → (eqb k 17 && null ns) ≡ false
      last true e = ap₂ (λ (x y : Bool). x && y) e (u (eqb-true k 17 e))
      last false e = rw e

-- ---- what a shape tells
module _ {k v : ℕ} {ns : Ty} where
  shape-ind : (P : View → Type 0) → P (is_arrow (first ns) (rest ns)) → P (is_app (first ns) (rest ns)) → P (is_forall v ns) → (k ≡ 17 → null ns ≡ true → P (is_unknown v)) → P is_other → P (view (node k v ∷ ns))
  unfolding view
  shape-ind P a b c d e =
      cond_ind P (eqb k 13 && eqb v 0) (λ _. a)
      (λ _. cond_ind P (eqb k 15 && eqb v 0) (λ _. b)
      (λ _. cond_ind P (eqb k 14) (λ _. c)
      (λ _. cond_ind P (eqb k 17 && null ns) (λ q. let h = both (eqb k 17) (null ns) q in d (eqb-true k 17 h.0) h.1) (λ _. e))))

empty : (ns : Ty) → null ns ≡ true → ns ≡ []
empty [] e = refl
empty (x ∷ ns) e = absurd (false≢true e)

module _ (t : List ℕ) (at n : ℕ) where
  abbrev T : Ty
  T = nodes_at t at n

  abbrev body : Ty
  body = nodes_at t (at + 2) (n - 1)

  abbrev v : ℕ
  v = get_or t (at + 1) 0

  -- a fact of a view, from the same fact of the view of a node and what follows it
  by-node : (P : View → Type 0) → P is_other → P (view (node (get_or t at 0) v ∷ body)) → P (view T)
  unfolding view nodes_at
  by-node P o h = go n refl
    where
      go : (m : ℕ) → n ≡ m → P (view T)
      go zero e = subst (λ (i : ℕ). P (view (nodes_at t at i))) (sym e) o
      go (suc m) e = subst (λ (x : Ty). P (view x)) (sym (nodes_at-cons t at n (omega arith))) h

  pub arrow-view : shape_of (view T) ≡ Arrow → view T ≡ is_arrow (first body) (rest body)
  arrow-view =
      let P : View → Type 0 = λ (w : View). shape_of w ≡ Arrow → w ≡ is_arrow (first body) (rest body) in
      by-node P (λ e. cc) (shape-ind P (λ _. refl) (λ e. cc) (λ e. cc) (λ _ _ e. cc) (λ e. cc))

  pub app-view : shape_of (view T) ≡ App → view T ≡ is_app (first body) (rest body)
  app-view =
      let P : View → Type 0 = λ (w : View). shape_of w ≡ App → w ≡ is_app (first body) (rest body) in
      by-node P (λ e. cc) (shape-ind P (λ e. cc) (λ _. refl) (λ e. cc) (λ _ _ e. cc) (λ e. cc))

  pub forall-view : shape_of (view T) ≡ Forall → view T ≡ is_forall v body
  forall-view =
      let P : View → Type 0 = λ (w : View). shape_of w ≡ Forall → w ≡ is_forall v body in
      by-node P (λ e. cc) (shape-ind P (λ e. cc) (λ e. cc) (λ _. refl) (λ _ _ e. cc) (λ e. cc))

  pub unknown-view : shape_of (view T) ≡ Unknown → view T ≡ is_unknown v
  unknown-view =
      let P : View → Type 0 = λ (w : View). shape_of w ≡ Unknown → w ≡ is_unknown v in
      by-node P (λ e. cc) (shape-ind P (λ e. cc) (λ e. cc) (λ e. cc) (λ _ _ _. refl) (λ e. cc))

  pub other-view : shape_of (view T) ≢ Arrow → shape_of (view T) ≢ App → shape_of (view T) ≢ Forall → shape_of (view T) ≢ Unknown → view T ≡ is_other
  other-view =
      let P : View → Type 0 = λ (w : View). shape_of w ≢ Arrow → shape_of w ≢ App → shape_of w ≢ Forall → shape_of w ≢ Unknown → w ≡ is_other in
      by-node P (λ _ _ _ _. refl) (shape-ind P (λ a _ _ _. absurd (a refl)) (λ _ a _ _. absurd (a refl)) (λ _ _ a _. absurd (a refl)) (λ _ _ _ _ _ a. absurd (a refl)) (λ _ _ _ _. refl))

  -- a type that is an unknown is that node alone
  pub unknown-is : 0 < n → shape_of (view T) ≡ Unknown → T ≡ unknown v
  unknown-is some e =
      let c = nodes_at-cons t at n some in
      let P : View → Type 0 = λ (w : View). shape_of w ≡ Unknown → (get_or t at 0 ≡ 17) × (body ≡ []) in
      let f : shape_of (view (node (get_or t at 0) v ∷ body)) ≡ Unknown → (get_or t at 0 ≡ 17) × (body ≡ []) =
      shape-ind P (λ (z : Arrow ≡ Unknown). cc) (λ (z : App ≡ Unknown). cc) (λ (z : Forall ≡ Unknown). cc) (λ p q _. (p, empty body q)) (λ (z : Other ≡ Unknown). cc) in
      let g = f (ap (λ (x : Ty). shape_of (view x)) (sym c) ∙ e) in
      c ∙ ap₂ (λ (x : ℕ) (y : Ty). node x v ∷ y) g.0 g.1

  -- the shape of at least one node
  pub shape-of : 0 < n → {s : Shape} → shape_of (view (node (get_or t at 0) v ∷ body)) ≡ s → s ≡ shape_of (view T)
  shape-of h e = sym e ∙ ap (λ (x : Ty). shape_of (view x)) (sym (nodes_at-cons t at n h))

  pub no-shape : n ≡ 0 → Other ≡ shape_of (view T)
  unfolding view nodes_at
  no-shape e = ap (λ (i : ℕ). shape_of (view (nodes_at t at i))) (sym e)

  pub body-empty : n ≡ 1 → body ≡ []
  unfolding nodes_at
  body-empty e = let z : n - 1 ≡ 0 = omega arith in ap (nodes_at t (at + 2)) z

  pub body_more : 0 < n → n ≢ 1 → null body ≡ false
  body_more h f = ap null (nodes_at-cons t (at + 2) (n - 1) (omega arith))

  -- a shape other than the last is that of some node
  pub shaped-some : shape_of (view T) ≢ Other → 0 < n
  shaped-some f = by n refl
    where
      by : (m : ℕ) → n ≡ m → 0 < n
      by zero e = absurd (f (sym (no-shape e)))
      by (suc m) e = omega arith
