-- Laws of types and terms: what a view shows, and that what holds of every node is kept.
-- Assumes nothing.
use Rattle.std.specs.Prelude.{Option, None, Some}
use Prim.Native.Nat.{ℕ, zero, suc, ◌+◌}
use mathlib.Core.Path.{◌≡◌, refl, sym, ap, ap₂, subst, subst⁻¹}
use mathlib.Core.Logic.{◌≢◌}
use mathlib.Core.Bool.{Bool, true, false, cond, ◌&&◌, and-eq-true_iff, false≢true}
use mathlib.Core.List.{List, [], ◌∷◌, ◌++◌}
use lib.Dec.{T, eqb, eqb→eq, eqb_refl}
use Rattle.nodes.proofs.PartLaws.{take-drop}
use Rattle.nodes.specs.Lists.{All}
use Rattle.nodes.proofs.ListLaws.{cond_ind, all_take, all_drop}
use Rattle.nodes.specs.Nodes.{Node, node, Ty, node_parts}
use Rattle.judgment.specs.Types.{unknown, arrow, app, forall, is_node, eq_node, eq_ty, first, rest, View, is_arrow, is_app, is_forall, is_unknown, is_other, view, null, substitute_from, substitute, Renaming, rename_node, rename, after_front}
use Rattle.spelling.specs.declared.Triple.{Triple}
use Rattle.kinds.specs.Kinds.{parts_of}
use Rattle.sheet.specs.Plan.{line_node, nodes_of}
use Rattle.judgment.specs.Terms.{Lambda, lambda_by, lambda_of, Term, part, after_parts, TermView, is_var, is_lit_int, is_lambda, is_apply, is_type_lambda, is_constructor, is_case, is_bin_op, is_if, is_intrinsic, is_none, view_by, term_view}
use Rattle.judgment.specs.Good.{Lines}

---------------------------------------------------------------- tests
pub eqb-true : (m n : ℕ) → eqb m n ≡ true → m ≡ n
eqb-true m n e = eqb→eq m n (subst⁻¹ T e tt)

pub eqb_same : (n : ℕ) → eqb n n ≡ true
eqb_same n = go (eqb n n) (eqb_refl n)
  where
    go : (b : Bool) → T b → b ≡ true
    go true t = refl
    go false t = absurd t

pub eqb-false : (m n : ℕ) → m ≢ n → eqb m n ≡ false
eqb-false m n h = go (eqb m n) refl
  where
    go : (b : Bool) → eqb m n ≡ b → b ≡ false
    go true e = absurd (h (eqb-true m n e))
    go false e = refl

pub both : (a b : Bool) → (a && b) ≡ true → (a ≡ true) × (b ≡ true)
both a b e = (and-eq-true_iff a b).0 e

pub is_node-true : (k v : ℕ) (n : Node) → is_node k v n ≡ true → n ≡ node k v
is_node-true k v (node k' v') e =
    let h = both (eqb k k') (eqb v v') e in
    ap₂ node (sym (eqb-true k k' h.0)) (sym (eqb-true v v' h.1))

pub eq_ty-true : (s t : Ty) → eq_ty s t ≡ true → s ≡ t
eq_ty-true [] [] e = refl
eq_ty-true [] (y ∷ ys) e = absurd (false≢true e)
eq_ty-true (x ∷ xs) [] e = absurd (false≢true e)
eq_ty-true (node k v ∷ xs) (y ∷ ys) e =
    let h = both (is_node k v y) (eq_ty xs ys) e in
    ap₂ {C = Ty} (λ z zs. z ∷ zs) (sym (is_node-true k v y h.0)) (eq_ty-true xs ys h.1)

pub eq_node-same : (n : Node) → eq_node n n ≡ true
eq_node-same (node k v) = rw (eqb_same k, eqb_same v) refl

pub eq_ty-same : (t : Ty) → eq_ty t t ≡ true
eq_ty-same [] = refl
eq_ty-same (n ∷ t) = rw (eq_node-same n) (eq_ty-same t)

pub eq_ty-not : (s t : Ty) → s ≢ t → eq_ty s t ≡ false
eq_ty-not s t h = go (eq_ty s t) refl
  where
    go : (b : Bool) → eq_ty s t ≡ b → eq_ty s t ≡ false
    go true e = absurd (h (eq_ty-true s t e))
    go false e = e

-- the same nodes in front of both
pub eq_ty-front : (x s t : Ty) → eq_ty (x ++ s) (x ++ t) ≡ eq_ty s t
eq_ty-front [] s t = refl
eq_ty-front (n ∷ x) s t = rw (eq_node-same n) (eq_ty-front x s t)

---------------------------------------------------------------- the view of a type
abbrev pub Shows : View → Ty → Type 0
Shows (is_arrow a b) t = t ≡ arrow a b
Shows (is_app a b) t = t ≡ app a b
Shows (is_forall x b) t = t ≡ forall x b
Shows (is_unknown k) t = t ≡ unknown k
Shows is_other t = Unit {0}

first_rest : (t : Ty) → first t ++ rest t ≡ t
first_rest t = take-drop node_parts t 1

null-true : (k v : ℕ) (ns : Ty) → (eqb k 17 && null ns) ≡ true → node k v ∷ ns ≡ unknown v
null-true k v [] e = ap {B = Ty} (λ j. node j v ∷ []) (eqb-true k 17 (both (eqb k 17) true e).0)
null-true k v (n ∷ ns) e = absurd (false≢true (both (eqb k 17) false e).1)

pub view-shows : (t : Ty) → Shows (view t) t
unfolding view
view-shows [] = tt
view-shows (node k v ∷ ns) =
    let S : View → Type 0 = λ w. Shows w (node k v ∷ ns) in
    cond_ind S (eqb k 13 && eqb v 0) (λ e. headed 13 e)
    (λ _. cond_ind S (eqb k 15 && eqb v 0) (λ e. headed 15 e)
    (λ _. cond_ind S (eqb k 14) (λ e. ap {B = Ty} (λ j. node j v ∷ ns) (eqb-true k 14 e))
    (λ _. cond_ind S (eqb k 17 && null ns) (λ e. null-true k v ns e) (λ _. tt))))
  where
    headed : (j : ℕ) → (eqb k j && eqb v 0) ≡ true → node k v ∷ ns ≡ node j 0 ∷ (first ns ++ rest ns)
    headed j e =
        let h = both (eqb k j) (eqb v 0) e in
        ap₂ {C = Ty} (λ x xs. x ∷ xs) (ap₂ node (eqb-true k j h.0) (eqb-true v 0 h.1)) (sym (first_rest ns))

---------------------------------------------------------------- what holds of every node is kept
module _ (P : Node → Type 0) where
  all-substitute_from : (x : ℕ) (r : Node) → P r → (t : Ty) (skip : ℕ) → All P t → All P (substitute_from x r t skip)
  all-substitute_from x r p [] skip h = tt
  all-substitute_from x r p (n ∷ ns) (suc skip) h = (h.0, all-substitute_from x r p ns (node_parts n + skip) h.1)
  all-substitute_from x r p (n ∷ ns) zero h =
      (cond_ind P (is_node 11 x n) (λ _. p) (λ _. h.0), all-substitute_from x r p ns (cond (is_node 14 x n) 1 0) h.1)

  pub all-substitute : (x : ℕ) (r : Node) (t : Ty) → P r → All P t → All P (substitute x r t)
  unfolding substitute
  all-substitute x r t p h = all-substitute_from x r p t 0 h

  all-rename_node : (m : Renaming) (n : Node) → All (λ q. P (node 17 q.1)) m → P n → P (rename_node m n)
  all-rename_node [] n hm h = h
  all-rename_node (q ∷ m) n hm h = cond_ind P (is_node 11 q.0 n) (λ _. hm.0) (λ _. all-rename_node m n hm.1 h)

  pub all-rename : (m : Renaming) (t : Ty) → All (λ q. P (node 17 q.1)) m → All P t → All P (rename m t)
  unfolding rename
  all-rename m [] hm h = tt
  all-rename m (n ∷ ns) hm h = (all-rename_node m n hm h.0, all-rename m ns hm h.1)

  pub all-after_front : (t : Ty) → All P t → All P (after_front t)
  unfolding after_front
  all-after_front [] h = tt
  all-after_front (node k v ∷ ns) h =
      elim (eqb k 14) as (λ b. All P (elim b [ true ↦ after_front ns | false ↦ node k v ∷ ns ])) [
        | true ↦ all-after_front ns h.1
        | false ↦ h
      ]

  pub all-nodes : (ls : List Triple) → All (λ l. P (line_node l)) ls → All P (nodes_of ls)
  all-nodes [] h = tt
  all-nodes (l ∷ ls) h = (h.0, all-nodes ls h.1)

  pub all_after : (n : ℕ) (e : Term) → Lines P e → Lines P (after_parts n e)
  all_after n e h = all_drop parts_of (λ l. P (line_node l)) e.lines n h

  pub all-part : (i : ℕ) (e : Term) → Lines P e → Lines P (part i e)
  all-part zero e h = all_take parts_of (λ l. P (line_node l)) e.lines 1 h
  all-part (suc i) e h = all-part i (after_parts 1 e) (all_after 1 e h)

  abbrev pub TermHas : TermView → Type 0
  TermHas (is_var x) = Unit {0}
  TermHas is_lit_int = Unit {0}
  TermHas (is_lambda x s e) = All P s × Lines P e
  TermHas (is_apply f e) = Lines P f × Lines P e
  TermHas (is_type_lambda x e) = P (node 25 x) × Lines P e
  TermHas (is_constructor x) = Unit {0}
  TermHas (is_case n e arms) = Lines P e × Lines P arms
  TermHas (is_bin_op op e₁ e₂) = Lines P e₁ × Lines P e₂
  TermHas (is_if e₁ e₂ e₃) = Lines P e₁ × Lines P e₂ × Lines P e₃
  TermHas (is_intrinsic x n e) = Lines P e
  TermHas is_none = Unit {0}

  view-has : (ls : List Triple) (next : ℕ) → All (λ l. P (line_node l)) ls → TermHas (view_by ls next)
  view-has [] next h = tt
  view-has (l ∷ ls) next h =
      let parts : Term = record { line = next; lines = ls } in
      cond_ind TermHas (eqb l.kind 21) (λ _. tt)
      (λ _. cond_ind TermHas (eqb l.kind 22) (λ _. tt)
      (λ _. cond_ind TermHas (eqb l.kind 23) (λ _. (all-nodes (part 0 parts).lines (p 0), p 1))
      (λ _. cond_ind TermHas (eqb l.kind 24) (λ _. (p 0, p 1))
      (λ _. cond_ind TermHas (eqb l.kind 25) (λ e. (subst (λ j. P (node j (cond (eqb j 16) l.count l.value))) (eqb-true l.kind 25 e) h.0, p 0))
      (λ _. cond_ind TermHas (eqb l.kind 26) (λ _. tt)
      (λ _. cond_ind TermHas (eqb l.kind 27) (λ _. (p 0, all_after 1 parts h.1))
      (λ _. cond_ind TermHas (eqb l.kind 28) (λ _. (p 0, p 1))
      (λ _. cond_ind TermHas (eqb l.kind 29) (λ _. (p 0, p 1, p 2))
      (λ _. cond_ind TermHas (eqb l.kind 30) (λ _. p 0) (λ _. tt))))))))))
    where
      p : (i : ℕ) → Lines P (part i (record { line = next; lines = ls }))
      p i = all-part i (record { line = next; lines = ls }) h.1

  pub term-has : (e : Term) → Lines P e → TermHas (term_view e)
  unfolding term_view
  term-has e h = view-has e.lines (e.line + 1) h

  abbrev pub LambdaHas : Option Lambda → Type 0
  LambdaHas None = Unit {0}
  LambdaHas (Some f) = All P f.type × Lines P f.body

  lambda-by : (ls : List Triple) (next : ℕ) → All (λ l. P (line_node l)) ls → LambdaHas (lambda_by ls next)
  lambda-by [] next h = tt
  lambda-by (l ∷ ls) next h =
      let parts : Term = record { line = next; lines = ls } in
      cond_ind LambdaHas (eqb l.kind 23) (λ _. (all-nodes (part 0 parts).lines (all-part 0 parts h.1), all-part 1 parts h.1)) (λ _. tt)

  pub lambda-has : (e : Term) → Lines P e → LambdaHas (lambda_of e)
  unfolding lambda_of
  lambda-has e h = lambda-by e.lines (e.line + 1) h
