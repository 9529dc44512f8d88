-- What holds of all lines of a term holds of the lines of every term that a run pushes. Assumes nothing.
use Rattle.std.specs.Prelude.{Option, None, Some}
use Prim.Native.Nat.{ℕ, zero, suc, ◌+◌}
use mathlib.Core.List.{List, [], ◌∷◌, ◌++◌}
use lib.Dec.{eqb}
use lib.ListN.{length}
use Rattle.nodes.specs.Lists.{All}
use Rattle.nodes.specs.Nodes.{Node, Ty}
use Rattle.nodes.proofs.ListLaws.{cond_ind}
use Rattle.spelling.specs.declared.Triple.{Triple}
use Rattle.sheet.specs.Plan.{◌∶◌, Bindings, lookup}
use Rattle.judgment.specs.Types.{unknown, eq_ty, View, is_arrow, is_app, is_forall, is_unknown, is_other, view, occurs, is_monotype, Renaming, rename, front_names, after_front}
use Rattle.judgment.specs.Terms.{Term, part, after_parts, Lambda, lambda_of, TermView, is_var, is_lit_int, is_lambda, is_apply, is_type_lambda, is_constructor, is_case, is_bin_op, is_if, is_intrinsic, is_none, term_view, PatternView, is_wildcard, is_pattern_var, is_pattern_constructor, pattern_view}
use Rattle.judgment.specs.Solutions.{◌≔◌, Solutions, find, write_out, solution_nodes}
use Rattle.judgment.specs.Board.{Entry, tvar, var, sub, inf, chk, inf_app, Board, find_var, before, within, below, Limits, Rule, done, refuse, fresh, push, solve, zonk, look, state, Outcome, finished, refused, room_for, perform}
use Rattle.judgment.specs.Rules.{Env, Side, left, right, on_side, off_side, open_body, solve_monotype, instantiate_by, instantiate_from, mismatch, unknown_left, unknown_right, subtype_by, subtype, open_names, signature_by, signature_from, insert, push_vars, pattern_parts, pattern_constructor, pattern_by, check_patterns, check_arms, variable, constructor, infer_by, check_arrow, check_by, apply_by, infer_app, rule}
use Rattle.judgment.specs.Good.{Lines}
use Rattle.judgment.proofs.TypeLaws.{all-part, all_after, TermHas, term-has, LambdaHas, lambda-has}
use Rattle.judgment.proofs.WholeRun.{solving-ind}

module _ (P : Node → Type 0) where
  abbrev pub EntryHas : Entry → Type 0
  EntryHas (tvar x) = Unit {0}
  EntryHas (var x t) = Unit {0}
  EntryHas (sub s t) = Unit {0}
  EntryHas (inf e t) = Lines P e
  EntryHas (chk e t) = Lines P e
  EntryHas (inf_app f e t) = Lines P e

  -- every entry that a rule pushes has it
  abbrev pub Pushes : Rule → Type 0
  Pushes done = Unit {0}
  Pushes (refuse r ts) = Unit {0}
  Pushes (fresh g f) = (n : ℕ) → Pushes (f n)
  Pushes (push e p) = EntryHas e × Pushes p
  Pushes (solve k s p) = Pushes p
  Pushes (zonk t f) = (u : Ty) → Pushes (f u)
  Pushes (look f) = (Γ : Board) → Pushes (f Γ)

  abbrev pub OutcomeHas : Outcome → Type 0
  OutcomeHas (finished (state Γ σ n)) = All EntryHas Γ
  OutcomeHas (refused r ts (state Γ σ n)) = All EntryHas Γ

  pub perform-has : (L : Limits) (p : Rule) (Γ : Board) (σ : Solutions) (n : ℕ) → All EntryHas Γ → Pushes p → OutcomeHas (perform L p Γ σ n)
  unfolding perform
  perform-has L done Γ σ n h g = h
  perform-has L (refuse r ts) Γ σ n h g = h
  perform-has L (fresh o f) Γ σ n h g = cond_ind OutcomeHas (below n L.numbers) (λ _. perform-has L (f n) Γ σ (suc n) h (g n)) (λ _. h)
  perform-has L (push e p) Γ σ n h g = cond_ind OutcomeHas (room_for L e Γ) (λ _. perform-has L p (e ∷ Γ) σ n (g.0, h) g.1) (λ _. h)
  perform-has L (solve k s p) Γ σ n h g =
      solving-ind OutcomeHas (find k σ) s
      (cond_ind OutcomeHas (L.scope k s) (λ _. cond_ind OutcomeHas (within (solution_nodes σ + length s) L.solved) (λ _. perform-has L p Γ (σ ++ (◌≔◌ k s ∷ [])) n h g) (λ _. h)) (λ _. h))
      (perform-has L p Γ σ n h g)
      h
  perform-has L (zonk t f) Γ σ n h g =
      cond_ind OutcomeHas (within (length (write_out σ t)) L.written) (λ _. perform-has L (f (write_out σ t)) Γ σ n h (g (write_out σ t))) (λ _. h)
  perform-has L (look f) Γ σ n h g = perform-has L (f Γ) Γ σ n h (g Γ)

  -- ---- comparisons push no term
  monotype-has : (k : ℕ) (t : Ty) → Pushes (solve_monotype k t)
  monotype-has k t = cond_ind Pushes (is_monotype t) (λ _. tt) (λ _. tt)

  open_body-has : (d : Side) (x : ℕ) (b : Ty) (again : Ty → Rule) → ((t : Ty) → Pushes (again t)) → Pushes (open_body d x b again)
  open_body-has left x b again f = λ u. (tt, f _)
  open_body-has right x b again f = λ u. (tt, (tt, f _))

  on-has : (d : Side) (u t : Ty) → EntryHas (on_side d u t)
  on-has left u t = tt
  on-has right u t = tt

  off-has : (d : Side) (u t : Ty) → EntryHas (off_side d u t)
  off-has left u t = tt
  off-has right u t = tt

  instantiate_by-has : (d : Side) (k : ℕ) (t : Ty) (again : Ty → Rule) (v : View) → ((t : Ty) → Pushes (again t)) → Pushes (instantiate_by d k t again v)
  instantiate_by-has d k t again (is_unknown b) f = λ Γ. cond_ind Pushes (before k b Γ) (λ _. tt) (λ _. monotype-has k t)
  instantiate_by-has d k t again (is_arrow t₁ t₂) f = λ a b. (tt, (tt, (off-has d (unknown a) t₁, (on-has d (unknown b) t₂, tt))))
  instantiate_by-has d k t again (is_app t₁ t₂) f = λ a b. (tt, (tt, (on-has d (unknown a) t₁, (on-has d (unknown b) t₂, tt))))
  instantiate_by-has d k t again (is_forall x b) f = open_body-has d x b again f
  instantiate_by-has d k t again is_other f = monotype-has k t

  instantiate_from-has : (n : ℕ) (d : Side) (k : ℕ) (t : Ty) → Pushes (instantiate_from n d k t)
  unfolding instantiate_from
  instantiate_from-has zero d k t = tt
  instantiate_from-has (suc n) d k t = instantiate_by-has d k t (λ t'. instantiate_from n d k t') (view t) (λ t'. instantiate_from-has n d k t')

  module _ (l r : Ty) where
    right-has : (k : ℕ) → Pushes (unknown_right l r k)
    right-has k = cond_ind Pushes (occurs k l) (λ _. tt) (λ _. instantiate_from-has (suc (length l)) right k l)

    left-has : (k : ℕ) (otherwise : Rule) → Pushes otherwise → Pushes (unknown_left l r k otherwise)
    left-has k otherwise h = cond_ind Pushes (occurs k r) (λ _. h) (λ _. instantiate_from-has (suc (length r)) left k r)

    subtype_by-has : (v w : View) → Pushes (subtype_by l r v w)
    subtype_by-has (is_arrow a₁ a₂) (is_arrow b₁ b₂) = (tt, (tt, tt))
    subtype_by-has (is_arrow a₁ a₂) (is_app b₁ b₂) = tt
    subtype_by-has (is_arrow a₁ a₂) (is_forall x b) = λ u. (tt, (tt, tt))
    subtype_by-has (is_arrow a₁ a₂) (is_unknown k) = right-has k
    subtype_by-has (is_arrow a₁ a₂) is_other = tt
    subtype_by-has (is_app a₁ a₂) (is_arrow b₁ b₂) = tt
    subtype_by-has (is_app a₁ a₂) (is_app b₁ b₂) = (tt, (tt, tt))
    subtype_by-has (is_app a₁ a₂) (is_forall x b) = λ u. (tt, (tt, tt))
    subtype_by-has (is_app a₁ a₂) (is_unknown k) = right-has k
    subtype_by-has (is_app a₁ a₂) is_other = tt
    subtype_by-has (is_forall x a) (is_arrow b₁ b₂) = λ u. (tt, (tt, (tt, tt)))
    subtype_by-has (is_forall x a) (is_app b₁ b₂) = λ u. (tt, (tt, (tt, tt)))
    subtype_by-has (is_forall x a) (is_forall y b) = λ u. (tt, (tt, tt))
    subtype_by-has (is_forall x a) (is_unknown k) = λ u. (tt, (tt, (tt, tt)))
    subtype_by-has (is_forall x a) is_other = λ u. (tt, (tt, (tt, tt)))
    subtype_by-has (is_unknown k) (is_arrow b₁ b₂) = left-has k (mismatch l r) tt
    subtype_by-has (is_unknown k) (is_app b₁ b₂) = left-has k (mismatch l r) tt
    subtype_by-has (is_unknown k) (is_forall y b) = λ u. (tt, (tt, tt))
    subtype_by-has (is_unknown k) (is_unknown j) = left-has k (unknown_right l r j) (right-has j)
    subtype_by-has (is_unknown k) is_other = left-has k (mismatch l r) tt
    subtype_by-has is_other (is_arrow b₁ b₂) = tt
    subtype_by-has is_other (is_app b₁ b₂) = tt
    subtype_by-has is_other (is_forall y b) = λ u. (tt, (tt, tt))
    subtype_by-has is_other (is_unknown k) = right-has k
    subtype_by-has is_other is_other = tt

  subtype-has : (s t : Ty) → Pushes (subtype s t)
  unfolding subtype
  subtype-has s t = λ l r. cond_ind Pushes (eq_ty l r) (λ _. tt) (λ _. subtype_by-has l r (view l) (view r))

  -- ---- constructors and patterns push none either
  open_names-has : (xs : List ℕ) (m : Renaming) (f : Renaming → Rule) → ((m' : Renaming) → Pushes (f m')) → Pushes (open_names xs m f)
  unfolding open_names
  open_names-has [] m f c = c m
  open_names-has (x ∷ xs) m f c = λ a. (tt, open_names-has xs ((x, a) ∷ m) f c)

  signature_by-has : (ps : List Ty) (t : Ty) (f again : List Ty → Ty → Rule) (v : View) → ((ps' : List Ty) (t' : Ty) → Pushes (f ps' t'))
      → ((ps' : List Ty) (t' : Ty) → Pushes (again ps' t')) → Pushes (signature_by ps t f again v)
  signature_by-has ps t f again (is_arrow a b) c k = k (ps ++ (a ∷ [])) b
  signature_by-has ps t f again (is_app a b) c k = c ps t
  signature_by-has ps t f again (is_forall x b) c k = c ps t
  signature_by-has ps t f again (is_unknown j) c k = c ps t
  signature_by-has ps t f again is_other c k = c ps t

  signature_from-has : (n : ℕ) (ps : List Ty) (t : Ty) (f : List Ty → Ty → Rule) → ((ps' : List Ty) (t' : Ty) → Pushes (f ps' t')) → Pushes (signature_from n ps t f)
  unfolding signature_from
  signature_from-has zero ps t f c = c ps t
  signature_from-has (suc n) ps t f c = signature_by-has ps t f (λ ps' t'. signature_from n ps' t' f) (view t) c (λ ps' t'. signature_from-has n ps' t' f c)

  push_vars-has : (bs : Bindings) (p : Rule) → Pushes p → Pushes (push_vars bs p)
  unfolding push_vars
  push_vars-has [] p g = g
  push_vars-has (◌∶◌ x t ∷ bs) p g = (tt, push_vars-has bs p g)

  -- ---- every rule
  module _ (E : Env) where
    pattern_constructor-has : (x c : ℕ) (t : Ty) (again : List Ty → Rule) (k : Option Ty) → ((ps : List Ty) → Pushes (again ps)) → Pushes (pattern_constructor E x c t again k)
    pattern_constructor-has x c t again None f = tt
    pattern_constructor-has x c t again (Some k) f =
        open_names-has (front_names k) [] _ (λ m.
        signature_from-has (length (rename m (after_front k))) [] (rename m (after_front k)) (pattern_parts E c t again) (λ ps res.
        (tt, cond_ind Pushes (eqb c (length ps)) (λ _. f ps) (λ _. tt))))

    pattern_by-has : (x c : ℕ) (t : Ty) (bs : Bindings) (again : List Ty → Bindings → Rule) (v : PatternView)
        → ((ps : List Ty) (bs' : Bindings) → Pushes (again ps bs')) → Pushes (pattern_by E x c t bs again v)
    pattern_by-has x c t bs again is_wildcard f = f [] bs
    pattern_by-has x c t bs again is_pattern_var f = f [] (insert x t bs)
    pattern_by-has x c t bs again is_pattern_constructor f = pattern_constructor-has x c t (λ ps. again ps bs) (lookup x E.constructors) (λ ps. f ps bs)

    check_patterns-has : (ls : List Triple) (ts : List Ty) (bs : Bindings) (f : Bindings → Rule) → ((bs' : Bindings) → Pushes (f bs')) → Pushes (check_patterns E ls ts bs f)
    unfolding check_patterns
    check_patterns-has [] ts bs f c = c bs
    check_patterns-has (l ∷ ls) [] bs f c = c bs
    check_patterns-has (l ∷ ls) (t ∷ ts) bs f c =
        pattern_by-has l.value l.count t bs (λ ps bs'. check_patterns E ls (ps ++ ts) bs' f) (pattern_view l.kind)
        (λ ps bs'. check_patterns-has ls (ps ++ ts) bs' f c)

    check_arms-has : (n : ℕ) (arms : Term) (s t : Ty) → Lines P arms → Pushes (check_arms E n arms s t)
    unfolding check_arms
    check_arms-has zero arms s t h = tt
    check_arms-has (suc n) arms s t h =
        let p : Rule = push (chk (part 1 arms) t) (check_arms E n (after_parts 2 arms) s t) in
        check_patterns-has (part 0 arms).lines (s ∷ []) [] (λ bs. push_vars bs p)
        (λ bs. push_vars-has bs p (all-part P 1 arms h, check_arms-has n (after_parts 2 arms) s t (all_after P 2 arms h)))

    variable-has : (x : ℕ) (t : Ty) (a b c : Option Ty) → Pushes (variable E x t a b c)
    variable-has x t (Some u) b c = (tt, tt)
    variable-has x t None (Some u) c = (tt, tt)
    variable-has x t None None (Some u) = (tt, tt)
    variable-has x t None None None = tt

    constructor-has : (x : ℕ) (t : Ty) (k : Option Ty) → Pushes (constructor E x t k)
    constructor-has x t None = tt
    constructor-has x t (Some k) = open_names-has (front_names k) [] _ (λ m. (tt, tt))

    infer_by-has : (t : Ty) (v : TermView) → TermHas P v → Pushes (infer_by E t v)
    infer_by-has t (is_var x) h = λ Γ. variable-has x t (lookup x E.context) (find_var x Γ) (lookup x E.constructors)
    infer_by-has t is_lit_int h = (tt, tt)
    infer_by-has t (is_lambda x s e) h = λ b. (tt, (tt, (tt, (h.1, tt))))
    infer_by-has t (is_apply f e) h = λ a. (tt, (h.1, (h.0, tt)))
    infer_by-has t (is_type_lambda x e) h = λ b. (tt, (tt, (tt, (h.1, tt))))
    infer_by-has t (is_constructor x) h = constructor-has x t (lookup x E.constructors)
    infer_by-has t (is_case n e arms) h = λ a. (tt, (h.0, check_arms-has n arms (unknown a) t h.1))
    infer_by-has t (is_bin_op op e₁ e₂) h = (h.0, (h.1, (tt, tt)))
    infer_by-has t (is_if e₁ e₂ e₃) h = (h.0, (h.1, (h.2, tt)))
    infer_by-has t (is_intrinsic x n e) h =
        cond_ind Pushes (eqb x 4) (λ _. cond_ind Pushes (eqb n 1) (λ _. (h, (tt, tt))) (λ _. tt)) (λ _. tt)
    infer_by-has t is_none h = tt

    check_arrow-has : (e : Term) (t a b : Ty) (f : Option Lambda) → Lines P e → LambdaHas P f → Pushes (check_arrow E e t a b f)
    check_arrow-has e t a b None he h = λ u. (tt, (tt, (he, tt)))
    check_arrow-has e t a b (Some f) he h = (tt, (tt, (h.1, tt)))

    check_by-has : (e : Term) (t : Ty) (v : View) → Lines P e → Pushes (check_by E e t v)
    check_by-has e t (is_arrow a b) h = check_arrow-has e t a b (lambda_of e) h (lambda-has P e h)
    check_by-has e t (is_forall x b) h = λ u. (tt, (h, tt))
    check_by-has e t (is_app a b) h = λ u. (tt, (tt, (h, tt)))
    check_by-has e t (is_unknown k) h = λ u. (tt, (tt, (h, tt)))
    check_by-has e t is_other h = λ u. (tt, (tt, (h, tt)))

    apply_by-has : (f : Ty) (e : Term) (c : Ty) (v : View) → Lines P e → Pushes (apply_by E f e c v)
    apply_by-has f e c (is_arrow a b) h = (tt, (h, tt))
    apply_by-has f e c (is_forall x b) h = λ u. (tt, (h, tt))
    apply_by-has f e c (is_unknown k) h = λ a b. (tt, (tt, (tt, (h, tt))))
    apply_by-has f e c (is_app a b) h = tt
    apply_by-has f e c is_other h = tt

    pub rule-has : (e : Entry) → EntryHas e → Pushes (rule E e)
    unfolding infer_app
    rule-has (tvar x) h = tt
    rule-has (var x t) h = tt
    rule-has (sub s t) h = subtype-has s t
    rule-has (inf e t) h = infer_by-has t (term_view e) (term-has P e h)
    rule-has (chk e t) h = check_by-has e t (view t) h
    rule-has (inf_app f e c) h = λ f' c'. apply_by-has f' e c' (view f') h
