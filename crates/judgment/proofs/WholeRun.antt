-- Every type of a run is one whole type: on the board, in the solutions and in the plan. Assumes nothing.
use Rattle.std.specs.Prelude.{Option, None, Some, Ok}
use Prim.Native.Nat.{ℕ, zero, suc, ◌+◌}
use mathlib.Core.Path.{◌≡◌, refl}
use mathlib.Core.Bool.{cond}
use mathlib.Core.List.{List, [], ◌∷◌, ◌++◌}
use lib.Dec.{eqb, leb, ltb}
use lib.ListN.{length, take, drop}
use Rattle.nodes.specs.Nodes.{node, Ty}
use Rattle.nodes.specs.Lists.{All}
use Rattle.nodes.specs.Parts.{take_parts}
use Rattle.nodes.proofs.ListLaws.{cond_ind, all_append}
use Rattle.spelling.specs.declared.Triple.{Triple}
use Rattle.kinds.specs.Kinds.{parts_of}
use Rattle.grammar.specs.Check.{check}
use Rattle.sheet.specs.Plan.{triples, Declaration, declarations, Binding, ◌∶◌, Bindings, bindings_in, lookup, places_of, plan_of}
use Rattle.sheet.specs.Form.{Typed}
use Rattle.sheet.proofs.TypeLines.{type-whole}
use Rattle.sheet.proofs.Formed.{formed}
use Rattle.judgment.specs.Types.{unknown, eq_ty, View, is_arrow, is_app, is_forall, is_unknown, is_other, view, occurs, is_monotype, substitute, Renaming, rename, front_names, after_front, can_unify}
use Rattle.judgment.specs.Terms.{Term, part, after_parts, Lambda, lambda_of, TermView, is_var, is_lit_int, is_lambda, is_apply, is_type_lambda, is_constructor, is_case, is_bin_op, is_if, is_intrinsic, is_none, term_view, PatternView, is_wildcard, is_pattern_var, is_pattern_constructor, pattern_view}
use Rattle.judgment.specs.Solutions.{◌≔◌, Solutions, value, find, write_out, solution_nodes}
use Rattle.judgment.specs.Board.{below, within, Entry, tvar, var, sub, inf, chk, inf_app, Board, var_named, or_else, find_var, before, Limits, Rule, done, refuse, fresh, push, solve, zonk, look, State, state, Outcome, finished, refused, solving, room_for, Operation, perform, operations}
use Rattle.judgment.specs.Levels.{Levels, levels_after}
use Rattle.judgment.specs.Rules.{Env, Side, left, right, on_side, off_side, open_body, solve_monotype, instantiate_by, instantiate_from, mismatch, forall_right, forall_left, unknown_right, unknown_left, subtype_by, subtype, open_names, instantiate_constructor, signature_by, signature_from, insert, push_vars, pattern_parts, pattern_constructor, pattern_by, check_patterns, check_arms, variable, constructor, infer_by, synthesize, check_arrow, check_by, apply_by, infer_app, rule}
use Rattle.judgment.specs.Run.{Step, step, Run, run, add_step, onward, run_from}
use Rattle.judgment.specs.Result.{env_of}
use Rattle.judgment.specs.Good.{IsTy, TermOK, EntryWhole}
use Rattle.judgment.proofs.TypeLaws.{eqb-true}
use Rattle.judgment.proofs.WholeTypes.{unknown-whole, con-whole, arrow-whole, app-whole, ViewWhole, view-whole, substitute-whole, rename-whole, after_front-whole, written-whole}
use Rattle.judgment.proofs.WholeTerms.{ArmsOK, arms-whole, TermViewWhole, term-view-whole, LambdaWhole, lambda-whole}

abbrev pub BindingWhole : Binding → Type 0
BindingWhole (◌∶◌ x t) = IsTy t

pub record EnvWhole (E : Env) : Type 0 where
  pub constructors : All BindingWhole E.constructors
  pub context : All BindingWhole E.context

abbrev pub StateWhole : State → Type 0
StateWhole (state Γ σ n) = All EntryWhole Γ × All (λ x. IsTy (value x)) σ

abbrev pub OutcomeWhole : Outcome → Type 0
OutcomeWhole (finished s) = StateWhole s
OutcomeWhole (refused r ts s) = StateWhole s

---------------------------------------------------------------- what a rule must show
abbrev pub WholeGood : Rule → Type 0
WholeGood done = Unit {0}
WholeGood (refuse r ts) = Unit {0}
WholeGood (fresh o f) = (n : ℕ) → WholeGood (f n)
WholeGood (push e p) = EntryWhole e × WholeGood p
WholeGood (solve k s p) = IsTy s × WholeGood p
WholeGood (zonk t f) = IsTy t × ((u : Ty) → IsTy u → WholeGood (f u))
WholeGood (look f) = (Γ : Board) → All EntryWhole Γ → WholeGood (f Γ)

pub solving-ind : {A : Type 0} (P : A → Type 0) (o : Option Ty) (s : Ty) {new same clash : A} → P new → P same → P clash → P (solving o s new same clash)
solving-ind P None s a b c = a
solving-ind P (Some t) s a b c = cond_ind P (can_unify s t) (λ _. b) (λ _. c)

pub perform-whole : (L : Limits) (p : Rule) (Γ : Board) (σ : Solutions) (n : ℕ) → All EntryWhole Γ → All (λ x. IsTy (value x)) σ → WholeGood p
    → OutcomeWhole (perform L p Γ σ n)
unfolding perform
perform-whole L done Γ σ n hΓ hσ g = (hΓ, hσ)
perform-whole L (refuse r ts) Γ σ n hΓ hσ g = (hΓ, hσ)
perform-whole L (fresh o f) Γ σ n hΓ hσ g =
    cond_ind OutcomeWhole (below n L.numbers) (λ _. perform-whole L (f n) Γ σ (suc n) hΓ hσ (g n)) (λ _. (hΓ, hσ))
perform-whole L (push e p) Γ σ n hΓ hσ g =
    cond_ind OutcomeWhole (room_for L e Γ) (λ _. perform-whole L p (e ∷ Γ) σ n (g.0, hΓ) hσ g.1) (λ _. (hΓ, hσ))
perform-whole L (solve k s p) Γ σ n hΓ hσ g =
    solving-ind OutcomeWhole (find k σ) s
    (cond_ind OutcomeWhole (L.scope k s)
    (λ _. cond_ind OutcomeWhole (within (solution_nodes σ + length s) L.solved)
    (λ _. perform-whole L p Γ (σ ++ (◌≔◌ k s ∷ [])) n hΓ (all_append (λ x. IsTy (value x)) σ (◌≔◌ k s ∷ []) hσ (g.0, tt)) g.1)
    (λ _. (hΓ, hσ)))
    (λ _. (hΓ, hσ)))
    (perform-whole L p Γ σ n hΓ hσ g.1)
    (hΓ, hσ)
perform-whole L (zonk t f) Γ σ n hΓ hσ g =
    cond_ind OutcomeWhole (within (length (write_out σ t)) L.written)
    (λ _. perform-whole L (f (write_out σ t)) Γ σ n hΓ hσ (g.1 (write_out σ t) (written-whole σ t hσ g.0))) (λ _. (hΓ, hσ))
perform-whole L (look f) Γ σ n hΓ hσ g = perform-whole L (f Γ) Γ σ n hΓ hσ (g Γ hΓ)

---------------------------------------------------------------- instantiation
on-whole : (d : Side) (u t : Ty) → IsTy u → IsTy t → EntryWhole (on_side d u t)
on-whole left u t p q = (p, q)
on-whole right u t p q = (q, p)

off-whole : (d : Side) (u t : Ty) → IsTy u → IsTy t → EntryWhole (off_side d u t)
off-whole left u t p q = (q, p)
off-whole right u t p q = (p, q)

open_body-whole : (d : Side) (x : ℕ) (b : Ty) (f : Ty → Rule) → IsTy b → ((u : Ty) → IsTy u → WholeGood (f u)) → WholeGood (open_body d x b f)
open_body-whole left x b f h c = λ u. (tt, c (substitute x (node 18 u) b) (substitute-whole x (node 18 u) b refl h))
open_body-whole right x b f h c = λ a. (tt, (tt, c (substitute x (node 17 a) b) (substitute-whole x (node 17 a) b refl h)))

monotype-whole : (k : ℕ) (t : Ty) → IsTy t → WholeGood (solve_monotype k t)
monotype-whole k t h = cond_ind WholeGood (is_monotype t) (λ _. (h, tt)) (λ _. tt)

instantiate_by-whole : (d : Side) (k : ℕ) (t : Ty) (again : Ty → Rule) (v : View) → IsTy t → ViewWhole v → ((u : Ty) → IsTy u → WholeGood (again u))
    → WholeGood (instantiate_by d k t again v)
instantiate_by-whole d k t again (is_unknown b) h w c = λ Γ hΓ. cond_ind WholeGood (before k b Γ) (λ _. (unknown-whole k, tt)) (λ _. monotype-whole k t h)
instantiate_by-whole d k t again (is_arrow t₁ t₂) h w c = λ a b. (
  arrow-whole (unknown a) (unknown b) refl refl,
  (tt, (tt, (off-whole d (unknown a) t₁ refl w.0, (on-whole d (unknown b) t₂ refl w.1, tt)))),
)
instantiate_by-whole d k t again (is_app t₁ t₂) h w c = λ a b. (
  app-whole (unknown a) (unknown b) refl refl,
  (tt, (tt, (on-whole d (unknown a) t₁ refl w.0, (on-whole d (unknown b) t₂ refl w.1, tt)))),
)
instantiate_by-whole d k t again (is_forall x b) h w c = open_body-whole d x b again w c
instantiate_by-whole d k t again is_other h w c = monotype-whole k t h

instantiate_from-whole : (m : ℕ) (d : Side) (k : ℕ) (t : Ty) → IsTy t → WholeGood (instantiate_from m d k t)
unfolding instantiate_from
instantiate_from-whole zero d k t h = tt
instantiate_from-whole (suc m) d k t h =
    instantiate_by-whole d k t (λ t'. instantiate_from m d k t') (view t) h (view-whole t h) (λ u hu. instantiate_from-whole m d k u hu)

---------------------------------------------------------------- comparisons
module _ (l r : Ty) (hl : IsTy l) (hr : IsTy r) where
  forall_right-whole : (x : ℕ) (b : Ty) → IsTy b → WholeGood (forall_right l r x b)
  forall_right-whole x b h = λ u. (tt, ((hl, substitute-whole x (node 18 u) b refl h), tt))

  forall_left-whole : (x : ℕ) (a : Ty) → IsTy a → WholeGood (forall_left l r x a)
  forall_left-whole x a h = λ u. (tt, (tt, ((substitute-whole x (node 17 u) a refl h, hr), tt)))

  unknown_right-whole : (k : ℕ) → WholeGood (unknown_right l r k)
  unknown_right-whole k = cond_ind WholeGood (occurs k l) (λ _. tt) (λ _. instantiate_from-whole (suc (length l)) right k l hl)

  unknown_left-whole : (k : ℕ) (otherwise : Rule) → WholeGood otherwise → WholeGood (unknown_left l r k otherwise)
  unknown_left-whole k otherwise g = cond_ind WholeGood (occurs k r) (λ _. g) (λ _. instantiate_from-whole (suc (length r)) left k r hr)

  subtype_by-whole : (v w : View) → ViewWhole v → ViewWhole w → WholeGood (subtype_by l r v w)
  subtype_by-whole (is_arrow a₁ a₂) (is_arrow b₁ b₂) p q = ((q.0, p.0), ((p.1, q.1), tt))
  subtype_by-whole (is_arrow a₁ a₂) (is_app b₁ b₂) p q = tt
  subtype_by-whole (is_arrow a₁ a₂) (is_forall x b) p q = forall_right-whole x b q
  subtype_by-whole (is_arrow a₁ a₂) (is_unknown k) p q = unknown_right-whole k
  subtype_by-whole (is_arrow a₁ a₂) is_other p q = tt
  subtype_by-whole (is_app a₁ a₂) (is_arrow b₁ b₂) p q = tt
  subtype_by-whole (is_app a₁ a₂) (is_app b₁ b₂) p q = ((p.0, q.0), ((p.1, q.1), tt))
  subtype_by-whole (is_app a₁ a₂) (is_forall x b) p q = forall_right-whole x b q
  subtype_by-whole (is_app a₁ a₂) (is_unknown k) p q = unknown_right-whole k
  subtype_by-whole (is_app a₁ a₂) is_other p q = tt
  subtype_by-whole (is_forall x a) (is_arrow b₁ b₂) p q = forall_left-whole x a p
  subtype_by-whole (is_forall x a) (is_app b₁ b₂) p q = forall_left-whole x a p
  subtype_by-whole (is_forall x a) (is_forall y b) p q = forall_right-whole y b q
  subtype_by-whole (is_forall x a) (is_unknown k) p q = forall_left-whole x a p
  subtype_by-whole (is_forall x a) is_other p q = forall_left-whole x a p
  subtype_by-whole (is_unknown k) (is_arrow b₁ b₂) p q = unknown_left-whole k (mismatch l r) tt
  subtype_by-whole (is_unknown k) (is_app b₁ b₂) p q = unknown_left-whole k (mismatch l r) tt
  subtype_by-whole (is_unknown k) (is_forall y b) p q = forall_right-whole y b q
  subtype_by-whole (is_unknown k) (is_unknown j) p q = unknown_left-whole k (unknown_right l r j) (unknown_right-whole j)
  subtype_by-whole (is_unknown k) is_other p q = unknown_left-whole k (mismatch l r) tt
  subtype_by-whole is_other (is_arrow b₁ b₂) p q = tt
  subtype_by-whole is_other (is_app b₁ b₂) p q = tt
  subtype_by-whole is_other (is_forall y b) p q = forall_right-whole y b q
  subtype_by-whole is_other (is_unknown k) p q = unknown_right-whole k
  subtype_by-whole is_other is_other p q = tt

subtype-whole : (s t : Ty) → IsTy s → IsTy t → WholeGood (subtype s t)
unfolding subtype
subtype-whole s t hs ht = (
  hs,
  λ l hl. (
    ht,
    λ r hr.
        cond_ind WholeGood (eq_ty l r) (λ _. tt) (λ _. subtype_by-whole l r hl hr (view l) (view r) (view-whole l hl) (view-whole r hr)),
  ),
)

---------------------------------------------------------------- constructors and patterns
-- a type that was looked up
abbrev FoundWhole : Option Ty → Type 0
FoundWhole None = Unit {0}
FoundWhole (Some t) = IsTy t

lookup-whole : (x : ℕ) (bs : Bindings) → All BindingWhole bs → FoundWhole (lookup x bs)
unfolding lookup
lookup-whole x [] h = tt
lookup-whole x (◌∶◌ y t ∷ bs) h = cond_ind FoundWhole (eqb y x) (λ _. h.0) (λ _. lookup-whole x bs h.1)

or_else-whole : (a b : Option Ty) → FoundWhole a → FoundWhole b → FoundWhole (or_else a b)
or_else-whole None b p q = q
or_else-whole (Some t) b p q = p

var_named-whole : (x : ℕ) (e : Entry) → EntryWhole e → FoundWhole (var_named x e)
var_named-whole x (tvar n) h = tt
var_named-whole x (var y t) h = cond_ind FoundWhole (eqb x y) (λ _. h) (λ _. tt)
var_named-whole x (sub s t) h = tt
var_named-whole x (inf e t) h = tt
var_named-whole x (chk e t) h = tt
var_named-whole x (inf_app f e t) h = tt

find_var-whole : (x : ℕ) (Γ : Board) → All EntryWhole Γ → FoundWhole (find_var x Γ)
unfolding find_var
find_var-whole x [] h = tt
find_var-whole x (e ∷ Γ) h = or_else-whole (var_named x e) (find_var x Γ) (var_named-whole x e h.0) (find_var-whole x Γ h.1)

insert-whole : (x : ℕ) (t : Ty) (bs : Bindings) → IsTy t → All BindingWhole bs → All BindingWhole (insert x t bs)
unfolding insert
insert-whole x t [] h g = (h, tt)
insert-whole x t (◌∶◌ y u ∷ bs) h g =
    cond_ind (All BindingWhole) (eqb x y) (λ _. (h, g.1))
    (λ _. cond_ind (All BindingWhole) (ltb x y) (λ _. (h, g)) (λ _. (g.0, insert-whole x t bs h g.1)))

open_names-whole : (xs : List ℕ) (m : Renaming) (f : Renaming → Rule) → ((m' : Renaming) → WholeGood (f m')) → WholeGood (open_names xs m f)
unfolding open_names
open_names-whole [] m f c = c m
open_names-whole (x ∷ xs) m f c = λ a. (tt, open_names-whole xs ((x, a) ∷ m) f c)

instantiate_constructor-whole : (t : Ty) (f : Ty → Rule) → IsTy t → ((u : Ty) → IsTy u → WholeGood (f u)) → WholeGood (instantiate_constructor t f)
instantiate_constructor-whole t f h c =
    open_names-whole (front_names t) [] (λ m. f (rename m (after_front t)))
    (λ m. c (rename m (after_front t)) (rename-whole m (after_front t) (after_front-whole t h)))

signature_by-whole : (ps : List Ty) (t : Ty) (f again : List Ty → Ty → Rule) (v : View) → All IsTy ps → IsTy t → ViewWhole v
    → ((ps' : List Ty) (t' : Ty) → All IsTy ps' → IsTy t' → WholeGood (f ps' t'))
    → ((ps' : List Ty) (t' : Ty) → All IsTy ps' → IsTy t' → WholeGood (again ps' t'))
    → WholeGood (signature_by ps t f again v)
signature_by-whole ps t f again (is_arrow a b) hp ht w c k = k (ps ++ (a ∷ [])) b (all_append IsTy ps (a ∷ []) hp (w.0, tt)) w.1
signature_by-whole ps t f again (is_app a b) hp ht w c k = c ps t hp ht
signature_by-whole ps t f again (is_forall x b) hp ht w c k = c ps t hp ht
signature_by-whole ps t f again (is_unknown j) hp ht w c k = c ps t hp ht
signature_by-whole ps t f again is_other hp ht w c k = c ps t hp ht

signature_from-whole : (n : ℕ) (ps : List Ty) (t : Ty) (f : List Ty → Ty → Rule) → All IsTy ps → IsTy t
    → ((ps' : List Ty) (t' : Ty) → All IsTy ps' → IsTy t' → WholeGood (f ps' t')) → WholeGood (signature_from n ps t f)
unfolding signature_from
signature_from-whole zero ps t f hp ht c = c ps t hp ht
signature_from-whole (suc n) ps t f hp ht c =
    signature_by-whole ps t f (λ ps' t'. signature_from n ps' t' f) (view t) hp ht (view-whole t ht) c
    (λ ps' t' hp' ht'. signature_from-whole n ps' t' f hp' ht' c)

push_vars-whole : (bs : Bindings) (p : Rule) → All BindingWhole bs → WholeGood p → WholeGood (push_vars bs p)
unfolding push_vars
push_vars-whole [] p h g = g
push_vars-whole (◌∶◌ x t ∷ bs) p h g = (h.0, push_vars-whole bs p h.1 g)

---------------------------------------------------------------- every rule
module _ (E : Env) (hE : EnvWhole E) where
  pattern_constructor-whole : (x c : ℕ) (t : Ty) (again : List Ty → Rule) (k : Option Ty) → IsTy t → FoundWhole k
      → ((ps : List Ty) → All IsTy ps → WholeGood (again ps)) → WholeGood (pattern_constructor E x c t again k)
  pattern_constructor-whole x c t again None ht hk f = tt
  pattern_constructor-whole x c t again (Some k) ht hk f =
      instantiate_constructor-whole k (λ t'. signature_from (length t') [] t' (pattern_parts E c t again)) hk (λ u hu.
      signature_from-whole (length u) [] u (pattern_parts E c t again) tt hu (λ ps res hps hres.
      ((hres, ht), cond_ind WholeGood (eqb c (length ps)) (λ _. f ps hps) (λ _. tt))))

  pattern_by-whole : (x c : ℕ) (t : Ty) (bs : Bindings) (again : List Ty → Bindings → Rule) (v : PatternView) → IsTy t → All BindingWhole bs
      → ((ps : List Ty) (bs' : Bindings) → All IsTy ps → All BindingWhole bs' → WholeGood (again ps bs')) → WholeGood (pattern_by E x c t bs again v)
  pattern_by-whole x c t bs again is_wildcard ht hbs f = f [] bs tt hbs
  pattern_by-whole x c t bs again is_pattern_var ht hbs f = f [] (insert x t bs) tt (insert-whole x t bs ht hbs)
  pattern_by-whole x c t bs again is_pattern_constructor ht hbs f =
      pattern_constructor-whole x c t (λ ps. again ps bs) (lookup x E.constructors) ht (lookup-whole x E.constructors hE.constructors)
      (λ ps hps. f ps bs hps hbs)

  check_patterns-whole : (ls : List Triple) (ts : List Ty) (bs : Bindings) (f : Bindings → Rule) → All IsTy ts → All BindingWhole bs
      → ((bs' : Bindings) → All BindingWhole bs' → WholeGood (f bs')) → WholeGood (check_patterns E ls ts bs f)
  unfolding check_patterns
  check_patterns-whole [] ts bs f hts hbs c = c bs hbs
  check_patterns-whole (l ∷ ls) [] bs f hts hbs c = c bs hbs
  check_patterns-whole (l ∷ ls) (t ∷ ts) bs f hts hbs c =
      pattern_by-whole l.value l.count t bs (λ ps bs'. check_patterns E ls (ps ++ ts) bs' f) (pattern_view l.kind) hts.0 hbs
      (λ ps bs' hps hbs'. check_patterns-whole ls (ps ++ ts) bs' f (all_append IsTy ps ts hps hts.1) hbs' c)

  check_arms-whole : (n : ℕ) (ls : Term) (s t : Ty) → ArmsOK n ls → IsTy s → IsTy t → WholeGood (check_arms E n ls s t)
  unfolding check_arms
  check_arms-whole zero ls s t h hs ht = tt
  check_arms-whole (suc n) ls s t h hs ht =
      let a = arms-whole n ls h in
      let p : Rule = push (chk (part 1 ls) t) (check_arms E n (after_parts 2 ls) s t) in
      check_patterns-whole (part 0 ls).lines (s ∷ []) [] (λ bs. push_vars bs p) (hs, tt) tt
      (λ bs hbs. push_vars-whole bs p hbs ((a.1, ht), check_arms-whole n (after_parts 2 ls) s t a.2 hs ht))

  variable-whole : (x : ℕ) (t : Ty) (a b c : Option Ty) → IsTy t → FoundWhole a → FoundWhole b → FoundWhole c → WholeGood (variable E x t a b c)
  variable-whole x t (Some u) b c ht ha hb hc = ((ha, ht), tt)
  variable-whole x t None (Some u) c ht ha hb hc = ((hb, ht), tt)
  variable-whole x t None None (Some u) ht ha hb hc = ((hc, ht), tt)
  variable-whole x t None None None ht ha hb hc = tt

  constructor-whole : (x : ℕ) (t : Ty) (k : Option Ty) → IsTy t → FoundWhole k → WholeGood (constructor E x t k)
  constructor-whole x t None ht hk = tt
  constructor-whole x t (Some k) ht hk = instantiate_constructor-whole k (λ u. push (sub u t) done) hk (λ u hu. ((hu, ht), tt))

  infer_by-whole : (t : Ty) (v : TermView) → TermViewWhole v → IsTy t → WholeGood (infer_by E t v)
  infer_by-whole t (is_var x) h ht = λ Γ hΓ.
      variable-whole x t (lookup x E.context) (find_var x Γ) (lookup x E.constructors) ht
      (lookup-whole x E.context hE.context) (find_var-whole x Γ hΓ) (lookup-whole x E.constructors hE.constructors)
  infer_by-whole t is_lit_int h ht = ((con-whole 1, ht), tt)
  infer_by-whole t (is_lambda x s e) h ht = λ b. (tt, ((arrow-whole s (unknown b) h.0 refl, ht), (h.0, ((h.1, unknown-whole b), tt))))
  infer_by-whole t (is_apply f e) h ht = λ a. (tt, ((unknown-whole a, h.1, ht), ((h.0, unknown-whole a), tt)))
  infer_by-whole t (is_type_lambda x e) h ht = λ b. (tt, ((unknown-whole b, ht), (tt, ((h, unknown-whole b), tt))))
  infer_by-whole t (is_constructor x) h ht = constructor-whole x t (lookup x E.constructors) ht (lookup-whole x E.constructors hE.constructors)
  infer_by-whole t (is_case n e arms) h ht = λ a. (tt, ((h.0, unknown-whole a), check_arms-whole n arms (unknown a) t h.1 (unknown-whole a) ht))
  infer_by-whole t (is_bin_op op e₁ e₂) h ht = ((h.0, con-whole 1), ((h.1, con-whole 1), ((con-whole (cond (leb op 4) 1 2), ht), tt)))
  infer_by-whole t (is_if e₁ e₂ e₃) h ht = ((h.0, con-whole 2), ((h.1, ht), ((h.2, ht), tt)))
  infer_by-whole t (is_intrinsic x n e) h ht =
      cond_ind WholeGood (eqb x 4)
      (λ _. cond_ind WholeGood (eqb n 1) (λ q. ((h (eqb-true n 1 q), con-whole 1), ((con-whole 3, ht), tt))) (λ _. tt))
      (λ _. tt)
  infer_by-whole t is_none h ht = tt

  synthesize-whole : (e : Term) (t : Ty) → TermOK e → IsTy t → WholeGood (synthesize E e t)
  synthesize-whole e t he ht = λ a. (tt, ((unknown-whole a, ht), ((he, unknown-whole a), tt)))

  check_arrow-whole : (e : Term) (t a b : Ty) (f : Option Lambda) → TermOK e → LambdaWhole f → IsTy t → IsTy a → IsTy b → WholeGood (check_arrow E e t a b f)
  check_arrow-whole e t a b None he h ht ha hb = synthesize-whole e t he ht
  check_arrow-whole e t a b (Some f) he h ht ha hb = ((h.0, ha), (h.0, ((h.1, hb), tt)))

  check_by-whole : (e : Term) (t : Ty) (v : View) → TermOK e → IsTy t → ViewWhole v → WholeGood (check_by E e t v)
  check_by-whole e t (is_arrow a b) he ht w = check_arrow-whole e t a b (lambda_of e) he (lambda-whole e he) ht w.0 w.1
  check_by-whole e t (is_forall x b) he ht w = λ u. (tt, ((he, substitute-whole x (node 18 u) b refl w), tt))
  check_by-whole e t (is_app a b) he ht w = synthesize-whole e t he ht
  check_by-whole e t (is_unknown k) he ht w = synthesize-whole e t he ht
  check_by-whole e t is_other he ht w = synthesize-whole e t he ht

  apply_by-whole : (f : Ty) (e : Term) (c : Ty) (v : View) → TermOK e → IsTy c → ViewWhole v → WholeGood (apply_by E f e c v)
  apply_by-whole f e c (is_arrow a b) he hc w = ((w.1, hc), ((he, w.0), tt))
  apply_by-whole f e c (is_forall x b) he hc w = λ a. (tt, ((substitute-whole x (node 17 a) b refl w, he, hc), tt))
  apply_by-whole f e c (is_unknown k) he hc w = λ a b.
      (tt, (tt, (arrow-whole (unknown a) (unknown b) refl refl, ((unknown-whole b, hc), ((he, unknown-whole a), tt)))))
  apply_by-whole f e c (is_app a b) he hc w = tt
  apply_by-whole f e c is_other he hc w = tt

  pub rule-whole : (e : Entry) → EntryWhole e → WholeGood (rule E e)
  unfolding infer_app
  rule-whole (tvar n) h = tt
  rule-whole (var x t) h = tt
  rule-whole (sub s t) h = subtype-whole s t h.0 h.1
  rule-whole (inf e t) h = infer_by-whole t (term_view e) (term-view-whole e h.0) h.1
  rule-whole (chk e t) h = check_by-whole e t (view t) h.0 h.1 (view-whole t h.1)
  rule-whole (inf_app f e c) h = (h.0, λ f' hf. (h.2, λ c' hc. apply_by-whole f' e c' (view f') h.1 hc (view-whole f' hf)))

---------------------------------------------------------------- a run
-- where an entry was taken, the entry, and what its rule left
abbrev pub StepWhole : Step → Type 0
StepWhole (step s e os o) = StateWhole s × EntryWhole e × OutcomeWhole o

abbrev pub RunWhole : Run → Type 0
RunWhole (run ss d s) = All StepWhole ss × StateWhole s

add-whole : (t : Step) (R : Run) → StepWhole t → RunWhole R → RunWhole (add_step t R)
add-whole t (run ss d s) h g = ((h, g.0), g.1)

module _ (L : Levels → Limits) (E : Env) (hE : EnvWhole E) where
  onward-whole : (s : State) (e : Entry) (os : List Operation) (o : Outcome) (again : State → Run) → StateWhole s → EntryWhole e → OutcomeWhole o
      → ((s' : State) → StateWhole s' → RunWhole (again s')) → RunWhole (onward L E s e os o again)
  onward-whole s e os (finished s') again hs he ho c = add-whole (step s e os (finished s')) (again s') (hs, he, ho) (c s' ho)
  onward-whole s e os (refused r ts s') again hs he ho c = (((hs, he, ho), tt), ho)

  pub run-whole : (c : ℕ) (v : Levels) (s : State) → StateWhole s → RunWhole (run_from L E c v s)
  unfolding run_from
  run-whole zero v (state [] σ n) h = (tt, h)
  run-whole zero v (state (e ∷ Γ) σ n) h = (tt, h)
  run-whole (suc c) v (state [] σ n) h = (tt, h)
  run-whole (suc c) v (state (e ∷ Γ) σ n) h =
      let os = operations (L v) (rule E e) Γ σ n in
      onward-whole (state (e ∷ Γ) σ n) e os (perform (L v) (rule E e) Γ σ n) (λ s. run_from L E c (levels_after os v) s) h h.0.0
      (perform-whole (L v) (rule E e) Γ σ n h.0.1 h.1 (rule-whole E hE e h.0.0)) (λ s hs. run-whole c (levels_after os v) s hs)

---------------------------------------------------------------- a plan
bindings-whole : (k : ℕ) (ls : List Triple) (es : List Declaration) → Typed ls es → All BindingWhole (bindings_in k ls es)
unfolding bindings_in
bindings-whole k ls [] h = tt
bindings-whole k ls (e ∷ es) h =
    cond_ind (All BindingWhole) (eqb e.head.kind k)
    (λ _. (type-whole (take e.count (drop e.line ls)) h.0, bindings-whole k ls es h.1))
    (λ _. bindings-whole k ls es h.1)

pub plan-whole : (s : List ℕ) → check s ≡ Ok tt
    → (let p = plan_of (triples s) in EnvWhole (env_of p) × EntryWhole (chk p.term p.expected))
unfolding plan_of
plan-whole s e =
    let ls = triples s in
    let f = formed s e in (
      record {
        constructors = bindings-whole 1 ls (declarations ls 0 0) f.entries;
        context = bindings-whole 2 ls (declarations ls 0 0) f.entries;
      },
      (f.term, type-whole (take_parts parts_of (drop (places_of ls).expected ls) 1) f.expected),
    )
