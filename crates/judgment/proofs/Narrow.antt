-- No answer has a number of more than five digits: `narrow`. Assumes nothing.
use Rattle.grammar.specs.declared.SheetError.TheVariants.{Length, Misspelt, Unfit}
use Rattle.grammar.specs.declared.SheetError.{SheetError}
use Rattle.std.specs.Prelude.{Option, None, Some, Result, Ok, Err}
use Prim.Native.Nat.{ℕ, zero, suc, ◌+◌, ◌<◌, ◌≤◌}
use native.Mathlib.Omega.{arith}
use mathlib.Core.Path.{◌≡◌, refl, ap, subst}
use mathlib.Core.Logic.{◌≢◌}
use mathlib.Core.Bool.{Bool, true, false, ◌||◌, true≢false}
use mathlib.Core.List.{List, [], ◌∷◌, ◌++◌}
use lib.Dec.{eqb, leb, ltb}
use lib.ListN.{length, take, drop, length-append, length-take, length-drop}
use borrow.Author.Tests.{ltb-false, leb-true, le-leb, eqb-false}
use Rattle.sizes.specs.Sizes.{highest_name, most_lines, highest_ceiling, most_nodes, most_numbers, highest_limit}
use Rattle.nodes.specs.Nodes.{Node, node, Ty}
use Rattle.nodes.specs.Lists.{All}
use Rattle.nodes.proofs.ListLaws.{cond_ind, all_take, all_drop}
use Rattle.spelling.specs.declared.Triple.{Triple}
use Rattle.kinds.specs.Kinds.{a_term, parts_of}
use Rattle.grammar.specs.Check.{check, check_line}
use Rattle.grammar.proofs.Lines.{line_small}
use Rattle.sheet.specs.Plan.{triples, nodes_of, Declaration, declarations, Binding, ◌∶◌, Bindings, bindings_in, lookup, Plan as PlanOf, plan_of}
use Rattle.sheet.proofs.Ranges.{InRange, part-in-range, plan-few}
use Rattle.judgment.specs.declared.Answer.{Answer}
use Rattle.judgment.specs.declared.TypeError.{TypeError}
use Rattle.judgment.specs.Types.{eq_ty, View, is_arrow, is_app, is_forall, is_unknown, is_other, view, occurs, is_monotype, substitute, Renaming, rename, front_names, after_front}
use Rattle.judgment.specs.Terms.{Term, part, after_parts, Lambda, lambda_of, TermView, is_var, is_lit_int, is_lambda, is_apply, is_type_lambda, is_constructor, is_case, is_bin_op, is_if, is_intrinsic, is_none, view_by, term_view, PatternView, pattern_view}
use Rattle.judgment.specs.Solutions.{◌≔◌, Solutions, find, write_out, solution_nodes}
use Rattle.judgment.specs.Board.{Entry, tvar, var, sub, inf, chk, inf_app, Board, find_var, before, Rule, done, refuse, fresh, push, solve, zonk, look, State, state, Outcome, finished, refused, room_for, Operation, perform, operations, Limits}
use Rattle.judgment.specs.Chain.{counter_of}
use Rattle.judgment.specs.Levels.{Levels, own_levels, levels_after, Mode}
use Rattle.judgment.specs.Rules.{Env, Side, left, right, open_body, solve_monotype, instantiate_by, instantiate_from, mismatch, unknown_right, unknown_left, subtype_by, subtype, open_names, instantiate_constructor, signature_by, signature_from, insert, push_vars, pattern_parts, pattern_constructor, pattern_by, check_patterns, check_arms, variable, constructor, infer_by, check_arrow, check_by, apply_by, infer_app, rule}
use Rattle.judgment.specs.Run.{Step, step, End, accepted, ceiling, refused_by, Run, run, add_step, onward, run_from, check_type}
use Rattle.judgment.specs.Result.{error_number, error_details, end_number, end_details, env_of, run_of, result_of, judge, Way, limits_in, way_of, limits_for, Buffers, Called, refused_at, by_check, limit_bad, too_short, call}
use Rattle.judgment.specs.Good.{EntryWhole, OK, EntryOK, Inv}
use Rattle.judgment.proofs.TypeLaws.{eqb-true, Shows, view-shows}
use Rattle.judgment.proofs.Invariant.{Kept, perform_kept}
use Rattle.judgment.proofs.RuleLaws.{EnvOK, Explains, rule-good, written-ok}
use Rattle.judgment.proofs.Plans.{plan-env, plan-inv, sheet-plan}
use Rattle.judgment.proofs.Rounds.{substitute-length}
use Rattle.judgment.proofs.WholeRun.{EnvWhole, StateWhole, OutcomeWhole, solving-ind, perform-whole, rule-whole, plan-whole}
use Rattle.judgment.proofs.Links.{perform-counted}

-- How large the seven numbers of an answer are. The details are names, nodes of a written-out type, parameters of a constructor, unknowns and counts.
pub record Narrow (a : Answer) : Type 0 where
  pub number : a.number ≤ 39
  pub line : a.line ≤ most_lines + 1
  pub taken : a.taken ≤ highest_ceiling
  pub fresh : a.fresh ≤ most_numbers
  pub detail1 : a.detail1 ≤ highest_name
  pub detail2 : a.detail2 ≤ highest_limit
  pub plain : a.plain ≤ 1

---------------------------------------------------------------- what a rule must show
-- a refusal's number and details
abbrev Small : TypeError → Type 0
Small r = (error_number r ≤ 39) × ((error_details r).0 ≤ highest_name) × ((error_details r).1 ≤ highest_limit)

-- every refusal is small, whatever is fresh, pushed and solved; a type that is written out has few nodes
abbrev Brief : Solutions → Rule → Type 0
Brief σ done = Unit {0}
Brief σ (refuse r ts) = Small r
Brief σ (fresh o f) = (n : ℕ) → Brief σ (f n)
Brief σ (push e p) = Brief σ p
Brief σ (solve k s p) = (τ : Solutions) → Brief τ p
Brief σ (zonk t f) = length (write_out σ t) ≤ highest_limit → Brief σ (f (write_out σ t))
Brief σ (look f) = (Γ : Board) → Brief σ (f Γ)

abbrev OutcomeNarrow : Outcome → Type 0
OutcomeNarrow (finished s) = Unit {0}
OutcomeNarrow (refused r ts s) = Small r

module _ (way : Way) (low : way.written ≤ highest_limit) where
  perform-narrow : (p : Rule) (Γ : Board) (σ : Solutions) (n : ℕ) → Brief σ p → OutcomeNarrow (perform (limits_in way) p Γ σ n)
  unfolding perform
  perform-narrow done Γ σ n g = tt
  perform-narrow (refuse r ts) Γ σ n g = g
  perform-narrow (fresh o f) Γ σ n g = cond_ind OutcomeNarrow (ltb n most_numbers) (λ e. perform-narrow (f n) Γ σ (suc n) (g n)) (λ _. omega arith)
  perform-narrow (push e p) Γ σ n g =
      cond_ind OutcomeNarrow (room_for (limits_in way) e Γ) (λ _. perform-narrow p (e ∷ Γ) σ n g) (λ _. omega arith)
  perform-narrow (solve k s p) Γ σ n g =
      solving-ind OutcomeNarrow (find k σ) s
      (cond_ind OutcomeNarrow (way.scope k s)
      (λ _. cond_ind OutcomeNarrow (leb (solution_nodes σ + length s) most_nodes)
      (λ _. perform-narrow p Γ (σ ++ (◌≔◌ k s ∷ [])) n (g (σ ++ (◌≔◌ k s ∷ [])))) (λ _. omega arith)) (λ _. omega arith))
      (perform-narrow p Γ σ n (g σ))
      (omega arith)
  perform-narrow (zonk t f) Γ σ n g =
      cond_ind OutcomeNarrow (leb (length (write_out σ t)) way.written)
      (λ e. perform-narrow (f (write_out σ t)) Γ σ n (g (omega (arith, leb-true (length (write_out σ t)) way.written e)))) (λ _. omega arith)
  perform-narrow (look f) Γ σ n g = perform-narrow (f Γ) Γ σ n (g Γ)

---------------------------------------------------------------- instantiation
-- an unknown that a view shows
abbrev Below : View → Type 0
Below (is_arrow a b) = Unit {0}
Below (is_app a b) = Unit {0}
Below (is_forall x b) = Unit {0}
Below (is_unknown k) = k ≤ highest_name
Below is_other = Unit {0}

-- unknowns are below the counter
shown-below : (Plain : Type 0) (n : ℕ) (t : Ty) (v : View) → Shows v t → n ≤ most_numbers → All (OK Plain n) t → Below v
shown-below Plain n t (is_arrow a b) s l h = tt
shown-below Plain n t (is_app a b) s l h = tt
shown-below Plain n t (is_forall x b) s l h = tt
shown-below Plain n t (is_unknown k) s l h = let m = (subst (All (OK Plain n)) s h).0.0 refl in omega arith
shown-below Plain n t is_other s l h = tt

module _ (σ : Solutions) where
  open_body-brief : (d : Side) (x : ℕ) (b : Ty) (f : Ty → Rule) → ((u : Ty) → length u ≡ length b → Brief σ (f u)) → Brief σ (open_body d x b f)
  unfolding substitute
  open_body-brief left x b f c = λ u. c (substitute x (node 18 u) b) (substitute-length x (node 18 u) b 0)
  open_body-brief right x b f c = λ a. c (substitute x (node 17 a) b) (substitute-length x (node 17 a) b 0)

  monotype-brief : (k : ℕ) (t : Ty) → k ≤ highest_name → length t ≤ highest_limit → Brief σ (solve_monotype k t)
  monotype-brief k t hk ht = cond_ind (Brief σ) (is_monotype t) (λ _ τ. tt) (λ _. omega arith)

  instantiate_by-brief : (d : Side) (k : ℕ) (t : Ty) (again : Ty → Rule) (v : View) → Shows v t → k ≤ highest_name → length t ≤ highest_limit
      → ((u : Ty) → length u ≤ highest_limit → Brief σ (again u)) → Brief σ (instantiate_by d k t again v)
  instantiate_by-brief d k t again (is_unknown b) s hk ht c = λ Γ. cond_ind (Brief σ) (before k b Γ) (λ _ τ. tt) (λ _. monotype-brief k t hk ht)
  instantiate_by-brief d k t again (is_arrow t₁ t₂) s hk ht c = λ a b τ. tt
  instantiate_by-brief d k t again (is_app t₁ t₂) s hk ht c = λ a b τ. tt
  instantiate_by-brief d k t again (is_forall x b) s hk ht c = open_body-brief d x b again (λ u e. c u (omega (arith, ap length s)))
  instantiate_by-brief d k t again is_other s hk ht c = monotype-brief k t hk ht

  instantiate_from-brief : (m : ℕ) (d : Side) (k : ℕ) (t : Ty) → k ≤ highest_name → length t ≤ highest_limit → Brief σ (instantiate_from m d k t)
  unfolding instantiate_from
  instantiate_from-brief zero d k t hk ht = omega arith
  instantiate_from-brief (suc m) d k t hk ht =
      instantiate_by-brief d k t (λ u. instantiate_from m d k u) (view t) (view-shows t) hk ht (λ u hu. instantiate_from-brief m d k u hk hu)

  -------------------------------------------------------------- comparisons
  module _ (l r : Ty) (hl : length l ≤ highest_limit) (hr : length r ≤ highest_limit) where
    mismatch-brief : Brief σ (mismatch l r)
    mismatch-brief = omega arith

    unknown_right-brief : (k : ℕ) → k ≤ highest_name → Brief σ (unknown_right l r k)
    unknown_right-brief k h = cond_ind (Brief σ) (occurs k l) (λ _. mismatch-brief) (λ _. instantiate_from-brief (suc (length l)) right k l h hl)

    unknown_left-brief : (k : ℕ) (otherwise : Rule) → k ≤ highest_name → Brief σ otherwise → Brief σ (unknown_left l r k otherwise)
    unknown_left-brief k otherwise h g = cond_ind (Brief σ) (occurs k r) (λ _. g) (λ _. instantiate_from-brief (suc (length r)) left k r h hr)

    subtype_by-brief : (v w : View) → Below v → Below w → Brief σ (subtype_by l r v w)
    subtype_by-brief (is_arrow a₁ a₂) (is_arrow b₁ b₂) p q = tt
    subtype_by-brief (is_arrow a₁ a₂) (is_app b₁ b₂) p q = mismatch-brief
    subtype_by-brief (is_arrow a₁ a₂) (is_forall x b) p q = λ u. tt
    subtype_by-brief (is_arrow a₁ a₂) (is_unknown k) p q = unknown_right-brief k q
    subtype_by-brief (is_arrow a₁ a₂) is_other p q = mismatch-brief
    subtype_by-brief (is_app a₁ a₂) (is_arrow b₁ b₂) p q = mismatch-brief
    subtype_by-brief (is_app a₁ a₂) (is_app b₁ b₂) p q = tt
    subtype_by-brief (is_app a₁ a₂) (is_forall x b) p q = λ u. tt
    subtype_by-brief (is_app a₁ a₂) (is_unknown k) p q = unknown_right-brief k q
    subtype_by-brief (is_app a₁ a₂) is_other p q = mismatch-brief
    subtype_by-brief (is_forall x a) (is_arrow b₁ b₂) p q = λ u. tt
    subtype_by-brief (is_forall x a) (is_app b₁ b₂) p q = λ u. tt
    subtype_by-brief (is_forall x a) (is_forall y b) p q = λ u. tt
    subtype_by-brief (is_forall x a) (is_unknown k) p q = λ u. tt
    subtype_by-brief (is_forall x a) is_other p q = λ u. tt
    subtype_by-brief (is_unknown k) (is_arrow b₁ b₂) p q = unknown_left-brief k (mismatch l r) p mismatch-brief
    subtype_by-brief (is_unknown k) (is_app b₁ b₂) p q = unknown_left-brief k (mismatch l r) p mismatch-brief
    subtype_by-brief (is_unknown k) (is_forall y b) p q = λ u. tt
    subtype_by-brief (is_unknown k) (is_unknown j) p q = unknown_left-brief k (unknown_right l r j) p (unknown_right-brief j q)
    subtype_by-brief (is_unknown k) is_other p q = unknown_left-brief k (mismatch l r) p mismatch-brief
    subtype_by-brief is_other (is_arrow b₁ b₂) p q = mismatch-brief
    subtype_by-brief is_other (is_app b₁ b₂) p q = mismatch-brief
    subtype_by-brief is_other (is_forall y b) p q = λ u. tt
    subtype_by-brief is_other (is_unknown k) p q = unknown_right-brief k q
    subtype_by-brief is_other is_other p q = mismatch-brief

  subtype-brief : (s t : Ty) → Below (view (write_out σ s)) → Below (view (write_out σ t)) → Brief σ (subtype s t)
  unfolding subtype
  subtype-brief s t p q = λ hl hr.
      let l : Ty = write_out σ s in
      let r : Ty = write_out σ t in
      cond_ind (Brief σ) (eq_ty l r) (λ _. tt) (λ _. subtype_by-brief l r hl hr (view l) (view r) p q)

---------------------------------------------------------------- constructors and patterns
rename-length : (m : Renaming) (t : Ty) → length (rename m t) ≡ length t
unfolding rename
rename-length m [] = refl
rename-length m (n ∷ t) = ap suc (rename-length m t)

after_front-length : (t : Ty) → length (after_front t) ≤ length t
unfolding after_front
after_front-length [] = omega arith
after_front-length (node k v ∷ t) = go (eqb k 14) (after_front-length t)
  where
    go : (b : Bool) → length (after_front t) ≤ length t → length {A = Node} (elim b [ true ↦ after_front t | false ↦ node k v ∷ t ]) ≤ suc (length t)
    go true h = omega arith
    go false h = omega arith

-- a type that a plan declares has at most as many nodes as a sheet has lines
abbrev Short : Binding → Type 0
Short (◌∶◌ x t) = length t ≤ most_lines

abbrev FoundShort : Option Ty → Type 0
FoundShort None = Unit {0}
FoundShort (Some t) = length t ≤ most_lines

lookup-short : (x : ℕ) (bs : Bindings) → All Short bs → FoundShort (lookup x bs)
unfolding lookup
lookup-short x [] h = tt
lookup-short x (◌∶◌ y t ∷ bs) h = cond_ind FoundShort (eqb y x) (λ _. h.0) (λ _. lookup-short x bs h.1)

module _ (σ : Solutions) where
  open_names-brief : (xs : List ℕ) (m : Renaming) (f : Renaming → Rule) → ((m' : Renaming) → Brief σ (f m')) → Brief σ (open_names xs m f)
  unfolding open_names
  open_names-brief [] m f c = c m
  open_names-brief (x ∷ xs) m f c = λ a. open_names-brief xs ((x, a) ∷ m) f c

  instantiate_constructor-brief : (t : Ty) (f : Ty → Rule) → ((u : Ty) → length u ≤ length t → Brief σ (f u)) → Brief σ (instantiate_constructor t f)
  instantiate_constructor-brief t f c =
      open_names-brief (front_names t) [] (λ m. f (rename m (after_front t)))
      (λ m. c (rename m (after_front t)) (omega (arith, rename-length m (after_front t), after_front-length t)))

  -- a round adds one parameter
  abbrev Counted : ℕ → (List Ty → Ty → Rule) → Type 0
  Counted m f = (ps : List Ty) (t : Ty) → length ps ≤ m → Brief σ (f ps t)

  signature_by-brief : (m : ℕ) (ps : List Ty) (t : Ty) (f again : List Ty → Ty → Rule) (v : View) → length ps ≤ m → Counted m f
      → ((ps' : List Ty) (t' : Ty) → length ps' ≡ suc (length ps) → Brief σ (again ps' t')) → Brief σ (signature_by ps t f again v)
  signature_by-brief m ps t f again (is_arrow a b) h c k = k (ps ++ (a ∷ [])) b (omega (arith, length-append ps (a ∷ [])))
  signature_by-brief m ps t f again (is_app a b) h c k = c ps t h
  signature_by-brief m ps t f again (is_forall x b) h c k = c ps t h
  signature_by-brief m ps t f again (is_unknown j) h c k = c ps t h
  signature_by-brief m ps t f again is_other h c k = c ps t h

  signature_from-brief : (n m : ℕ) (ps : List Ty) (t : Ty) (f : List Ty → Ty → Rule) → n + length ps ≤ m → Counted m f → Brief σ (signature_from n ps t f)
  unfolding signature_from
  signature_from-brief zero m ps t f h c = c ps t (omega arith)
  signature_from-brief (suc n) m ps t f h c =
      signature_by-brief m ps t f (λ ps' t'. signature_from n ps' t' f) (view t) (omega arith) c
      (λ ps' t' e. signature_from-brief n m ps' t' f (omega arith) c)

  push_vars-brief : (bs : Bindings) (p : Rule) → Brief σ p → Brief σ (push_vars bs p)
  unfolding push_vars
  push_vars-brief [] p g = g
  push_vars-brief (◌∶◌ x t ∷ bs) p g = push_vars-brief bs p g

  module _ (E : Env) (hE : All Short E.constructors) where
    pattern_constructor-brief : (x c : ℕ) (t : Ty) (again : List Ty → Rule) (k : Option Ty) → x ≤ highest_name → c ≤ 99 → FoundShort k
        → ((ps : List Ty) → Brief σ (again ps)) → Brief σ (pattern_constructor E x c t again k)
    pattern_constructor-brief x c t again None hx hc hk f = omega arith
    pattern_constructor-brief x c t again (Some k) hx hc hk f =
        instantiate_constructor-brief k (λ u. signature_from (length u) [] u (pattern_parts E c t again)) (λ u l.
        signature_from-brief (length u) most_lines [] u (pattern_parts E c t again) (omega arith) (λ ps res m.
        cond_ind (Brief σ) (eqb c (length ps)) (λ _. f ps) (λ _. omega arith)))

    pattern_by-brief : (l : Triple) (t : Ty) (bs : Bindings) (again : List Ty → Bindings → Rule) → InRange l
        → ((ps : List Ty) (bs' : Bindings) → Brief σ (again ps bs')) → Brief σ (pattern_by E l.value l.count t bs again (pattern_view l.kind))
    pattern_by-brief l t bs again h f =
        let B : PatternView → Type 0 = λ v. Brief σ (pattern_by E l.value l.count t bs again v) in
        cond_ind B (eqb l.kind 42) (λ _. f [] (insert l.value t bs))
        (λ _. cond_ind B (eqb l.kind 43)
        (λ e. pattern_constructor-brief l.value l.count t (λ ps. again ps bs) (lookup l.value E.constructors)
        (h.value (λ q. (let k = eqb-true l.kind 43 e in omega arith))) h.count (lookup-short l.value E.constructors hE) (λ ps. f ps bs))
        (λ _. f [] bs))

    check_patterns-brief : (ls : List Triple) (ts : List Ty) (bs : Bindings) (f : Bindings → Rule) → All InRange ls → ((bs' : Bindings) → Brief σ (f bs'))
        → Brief σ (check_patterns E ls ts bs f)
    unfolding check_patterns
    check_patterns-brief [] ts bs f h c = c bs
    check_patterns-brief (l ∷ ls) [] bs f h c = c bs
    check_patterns-brief (l ∷ ls) (t ∷ ts) bs f h c =
        pattern_by-brief l t bs (λ ps bs'. check_patterns E ls (ps ++ ts) bs' f) h.0 (λ ps bs'. check_patterns-brief ls (ps ++ ts) bs' f h.1 c)

    check_arms-brief : (n : ℕ) (ls : Term) (s t : Ty) → All InRange ls.lines → Brief σ (check_arms E n ls s t)
    unfolding check_arms
    check_arms-brief zero ls s t h = tt
    check_arms-brief (suc n) ls s t h =
        let p : Rule = push (chk (part 1 ls) t) (check_arms E n (after_parts 2 ls) s t) in
        check_patterns-brief (part 0 ls).lines (s ∷ []) [] (λ bs. push_vars bs p) (all_take parts_of InRange ls.lines 1 h)
        (λ bs. push_vars-brief bs p (check_arms-brief n (after_parts 2 ls) s t (all_drop parts_of InRange ls.lines 2 h)))

---------------------------------------------------------------- terms
-- the names and counts that a term's view shows, and the lines of arms
abbrev ViewInRange : TermView → Type 0
ViewInRange (is_var x) = x ≤ highest_name
ViewInRange is_lit_int = Unit {0}
ViewInRange (is_lambda x s e) = Unit {0}
ViewInRange (is_apply f e) = Unit {0}
ViewInRange (is_type_lambda x e) = Unit {0}
ViewInRange (is_constructor x) = x ≤ highest_name
ViewInRange (is_case n e arms) = All InRange arms.lines
ViewInRange (is_bin_op op e₁ e₂) = Unit {0}
ViewInRange (is_if e₁ e₂ e₃) = Unit {0}
ViewInRange (is_intrinsic x n e) = (x ≤ highest_name) × (n ≤ 99)
ViewInRange is_none = Unit {0}

view-in-range : (ls : List Triple) (next : ℕ) → All InRange ls → ViewInRange (view_by ls next)
view-in-range [] next h = tt
view-in-range (t ∷ ls) next h =
    let W : TermView → Type 0 = ViewInRange in
    cond_ind W (eqb t.kind 21) (λ e. name 21 e (omega arith))
    (λ _. cond_ind W (eqb t.kind 22) (λ _. tt)
    (λ _. cond_ind W (eqb t.kind 23) (λ _. tt)
    (λ _. cond_ind W (eqb t.kind 24) (λ _. tt)
    (λ _. cond_ind W (eqb t.kind 25) (λ _. tt)
    (λ _. cond_ind W (eqb t.kind 26) (λ e. name 26 e (omega arith))
    (λ _. cond_ind W (eqb t.kind 27) (λ _. all_drop parts_of InRange ls 1 h.1)
    (λ _. cond_ind W (eqb t.kind 28) (λ _. tt)
    (λ _. cond_ind W (eqb t.kind 29) (λ _. tt)
    (λ _. cond_ind W (eqb t.kind 30) (λ e. (name 30 e (omega arith), h.0.count)) (λ _. tt))))))))))
  where
    name : (k : ℕ) → eqb t.kind k ≡ true → k ≢ 22 → t.value ≤ highest_name
    name k e n = h.0.value (λ q. n (let z = eqb-true t.kind k e in omega arith))

term-in-range : (e : Term) → All InRange e.lines → ViewInRange (term_view e)
unfolding term_view
term-in-range e h = view-in-range e.lines (e.line + 1) h

---------------------------------------------------------------- every rule
module _ (σ : Solutions) (E : Env) (hE : All Short E.constructors) where
  variable-brief : (x : ℕ) (t : Ty) (a b c : Option Ty) → x ≤ highest_name → Brief σ (variable E x t a b c)
  variable-brief x t (Some u) b c h = tt
  variable-brief x t None (Some u) c h = tt
  variable-brief x t None None (Some u) h = tt
  variable-brief x t None None None h = omega arith

  constructor-brief : (x : ℕ) (t : Ty) (k : Option Ty) → x ≤ highest_name → Brief σ (constructor E x t k)
  constructor-brief x t None h = omega arith
  constructor-brief x t (Some k) h = instantiate_constructor-brief σ k (λ u. push (sub u t) done) (λ u l. tt)

  infer_by-brief : (t : Ty) (v : TermView) → ViewInRange v → Brief σ (infer_by E t v)
  infer_by-brief t (is_var x) h = λ Γ. variable-brief x t (lookup x E.context) (find_var x Γ) (lookup x E.constructors) h
  infer_by-brief t is_lit_int h = tt
  infer_by-brief t (is_lambda x s e) h = λ b. tt
  infer_by-brief t (is_apply f e) h = λ a. tt
  infer_by-brief t (is_type_lambda x e) h = λ b. tt
  infer_by-brief t (is_constructor x) h = constructor-brief x t (lookup x E.constructors) h
  infer_by-brief t (is_case n e arms) h = λ a. check_arms-brief σ E hE n arms (node 17 a ∷ []) t h
  infer_by-brief t (is_bin_op op e₁ e₂) h = tt
  infer_by-brief t (is_if e₁ e₂ e₃) h = tt
  infer_by-brief t (is_intrinsic x n e) h =
      cond_ind (Brief σ) (eqb x 4) (λ _. cond_ind (Brief σ) (eqb n 1) (λ _. tt) (λ _. omega arith)) (λ _. omega arith)
  infer_by-brief t is_none h = omega arith

  check_arrow-brief : (e : Term) (t a b : Ty) (f : Option Lambda) → Brief σ (check_arrow E e t a b f)
  check_arrow-brief e t a b None = λ u. tt
  check_arrow-brief e t a b (Some f) = tt

  check_by-brief : (e : Term) (t : Ty) (v : View) → Brief σ (check_by E e t v)
  check_by-brief e t (is_arrow a b) = check_arrow-brief e t a b (lambda_of e)
  check_by-brief e t (is_forall x b) = λ u. tt
  check_by-brief e t (is_app a b) = λ u. tt
  check_by-brief e t (is_unknown k) = λ u. tt
  check_by-brief e t is_other = λ u. tt

  apply_by-brief : (f : Ty) (e : Term) (c : Ty) (v : View) → length f ≤ highest_limit → Brief σ (apply_by E f e c v)
  apply_by-brief f e c (is_arrow a b) h = tt
  apply_by-brief f e c (is_forall x b) h = λ a. tt
  apply_by-brief f e c (is_unknown k) h = λ a b τ. tt
  apply_by-brief f e c (is_app a b) h = omega arith
  apply_by-brief f e c is_other h = omega arith

---------------------------------------------------------------- a run
abbrev EndNarrow : End → Type 0
EndNarrow accepted = Unit {0}
EndNarrow ceiling = Unit {0}
EndNarrow (refused_by r ts) = Small r

-- at most c entries taken
abbrev RunNarrow : ℕ → Run → Type 0
RunNarrow c (run ss d (state Γ σ n)) = (length ss ≤ c) × EndNarrow d × (n ≤ most_numbers)

add-narrow : (c : ℕ) (t : Step) (R : Run) → RunNarrow c R → RunNarrow (suc c) (add_step t R)
add-narrow c t (run ss d (state Γ σ n)) h = (omega (arith, h.0), h.1, h.2)

module _ (m : Mode) (limit : ℕ) (low : limit ≤ highest_limit) (Plain : Type 0) (E : Env) (hE : EnvOK Plain E) (wE : EnvWhole E) (sE : All Short E.constructors) where
  rule-brief : (Γ : Board) (σ : Solutions) (n : ℕ) → Inv Plain Γ σ n → n ≤ most_numbers → (e : Entry) → EntryOK Plain n e → EntryWhole e → Brief σ (rule E e)
  unfolding infer_app
  rule-brief Γ σ n i l (tvar x) h w = tt
  rule-brief Γ σ n i l (var x t) h w = tt
  rule-brief Γ σ n i l (sub s t) h w = subtype-brief σ s t (below s h.0) (below t h.1)
    where
      below : (t : Ty) → All (OK Plain n) t → Below (view (write_out σ t))
      below t g = shown-below Plain n (write_out σ t) (view (write_out σ t)) (view-shows (write_out σ t)) l (written-ok Plain Γ σ n t i g)
  rule-brief Γ σ n i l (inf e t) h w = infer_by-brief σ E sE t (term_view e) (term-in-range e (part-in-range a_term e.lines w.0))
  rule-brief Γ σ n i l (chk e t) h w = check_by-brief σ E sE e t (view t)
  rule-brief Γ σ n i l (inf_app f e c) h w = λ hf hc. apply_by-brief σ E sE (write_out σ f) e (write_out σ c) (view (write_out σ f)) hf

  onward-narrow : (c : ℕ) (Q : Board → Solutions → ℕ → Type 0) (s : State) (e : Entry) (os : List Operation) (o : Outcome) (again : State → Run)
      → Kept Plain Q o → OutcomeWhole o → counter_of o ≤ most_numbers → OutcomeNarrow o
      → ((Γ₁ : Board) (σ₁ : Solutions) (n₁ : ℕ) → Inv Plain Γ₁ σ₁ n₁ → StateWhole (state Γ₁ σ₁ n₁) → n₁ ≤ most_numbers → RunNarrow c (again (state Γ₁ σ₁ n₁)))
      → RunNarrow (suc c) (onward (limits_for m limit) E s e os o again)
  onward-narrow c Q s e os (finished (state Γ₁ σ₁ n₁)) again k w l g f =
      add-narrow c (step s e os (finished (state Γ₁ σ₁ n₁))) (again (state Γ₁ σ₁ n₁)) (f Γ₁ σ₁ n₁ k.0 w l)
  onward-narrow c Q s e os (refused r ts (state Γ₁ σ₁ n₁)) again k w l g f = (omega arith, g, l)

  run-narrow : (c : ℕ) (v : Levels) (Γ : Board) (σ : Solutions) (n : ℕ) → Inv Plain Γ σ n → StateWhole (state Γ σ n) → n ≤ most_numbers
      → RunNarrow c (run_from (limits_for m limit) E c v (state Γ σ n))
  unfolding run_from
  run-narrow zero v [] σ n i w l = (omega arith, tt, l)
  run-narrow zero v (e ∷ Γ) σ n i w l = (omega arith, tt, l)
  run-narrow (suc c) v [] σ n i w l = (omega arith, tt, l)
  run-narrow (suc c) v (e ∷ Γ) σ n i w l =
      let j : Inv Plain Γ σ n = record { entries = i.entries.1; fine = i.fine; solutions = i.solutions } in
      let L : Limits = limits_for m limit v in
      let os : List Operation = operations L (rule E e) Γ σ n in
      onward-narrow c (Explains Plain σ e) (state (e ∷ Γ) σ n) e os (perform L (rule E e) Γ σ n) (λ s. run_from (limits_for m limit) E c (levels_after os v) s)
      (perform_kept Plain L (Explains Plain σ e) (rule E e) Γ σ n j (rule-good Plain E hE Γ σ n j e i.entries.0))
      (perform-whole L (rule E e) Γ σ n w.0.1 w.1 (rule-whole E wE e w.0.0))
      (leb-true _ most_numbers (perform-counted L (rule E e) Γ σ n (le-leb n most_numbers l)))
      (perform-narrow (way_of m limit v) low (rule E e) Γ σ n (rule-brief Γ σ n j l e i.entries.0 w.0.0))
      (λ Γ₁ σ₁ n₁ i₁ w₁ l₁. run-narrow c (levels_after os v) Γ₁ σ₁ n₁ i₁ w₁ l₁)

---------------------------------------------------------------- a plan
end-small : (d : End) → EndNarrow d → (end_number d ≤ 39) × ((end_details d).0 ≤ highest_name) × ((end_details d).1 ≤ highest_limit)
end-small accepted h = omega arith
end-small ceiling h = omega arith
end-small (refused_by r ts) h = h

result-narrow : (c : ℕ) (plain : Bool) (v : Levels) → c ≤ highest_ceiling → (R : Run) → RunNarrow c R → Narrow (result_of plain v R).answer
unfolding result_of
result-narrow c plain v l (run ss d (state Γ σ n)) h =
    let e = end-small d h.1 in
    record {
      number = omega (arith, e.0);
      line = omega arith;
      taken = omega (arith, h.0);
      fresh = h.2;
      detail1 = e.1;
      detail2 = e.2;
      plain = cond_ind (λ (k : ℕ). k ≤ 1) plain (λ _. omega arith) (λ _. omega arith);
    }

nodes-length : (ls : List Triple) → length (nodes_of ls) ≡ length ls
nodes-length [] = refl
nodes-length (l ∷ ls) = ap suc (nodes-length ls)

bindings-short : (k : ℕ) (ls : List Triple) (es : List Declaration) → length ls ≤ most_lines → All Short (bindings_in k ls es)
unfolding bindings_in
bindings-short k ls [] h = tt
bindings-short k ls (e ∷ es) h =
    let t : List Triple = take e.count (drop e.line ls) in
    cond_ind (All Short) (eqb e.head.kind k)
    (λ _. (omega (arith, nodes-length t, length-take e.count (drop e.line ls), length-drop e.line ls), bindings-short k ls es h))
    (λ _. bindings-short k ls es h)

plan-short : (ls : List Triple) → length ls ≤ most_lines → All Short (plan_of ls).constructors
unfolding plan_of
plan-short ls h = bindings-short 1 ls (declarations ls 0 0) h

judge-narrow : (m : Mode) (s : List ℕ) (c w : ℕ) → c ≤ highest_ceiling → w ≤ highest_limit → check s ≡ Ok tt → Narrow (judge (limits_for m w) c (triples s)).answer
unfolding judge run_of check_type
judge-narrow m s c w l hw e =
    let p : PlanOf = plan_of (triples s) in
    let g = sheet-plan s e in
    let pw = plan-whole s e in
    let first : Board = chk p.term p.expected ∷ [] in
    result-narrow c p.plain own_levels l (run_from (limits_for m w) (env_of p) c own_levels (state first [] 0))
    (run-narrow m w hw ⊥ (env_of p) (plan-env p g) pw.0 (plan-short (triples s) (plan-few s e)) c own_levels first [] 0 (plan-inv p g) ((pw.1, tt), tt) (omega arith))

---------------------------------------------------------------- a whole call
pub limit-good : (w : ℕ) → limit_bad w ≡ false → (0 < w) × (w ≤ highest_limit)
limit-good w e = go (eqb w 0) refl (ltb highest_limit w) refl e
  where
    go : (x : Bool) → eqb w 0 ≡ x → (y : Bool) → ltb highest_limit w ≡ y → (x || y) ≡ false → (0 < w) × (w ≤ highest_limit)
    go true p y q r = absurd (true≢false r)
    go false p true q r = absurd (true≢false r)
    go false p false q r = (let n = eqb-false w 0 p in omega arith, ltb-false highest_limit w q)

before-run : (number line : ℕ) → number ≤ 39 → line ≤ most_lines + 1 → Narrow (refused_at number line)
before-run number line h k =
    record { number = h; line = k; taken = omega arith; fresh = omega arith; detail1 = omega arith; detail2 = omega arith; plain = omega arith }

check-narrow : (m : Mode) (s : List ℕ) (c w : ℕ) (b : Buffers) → c ≤ highest_ceiling → w ≤ highest_limit → (k : (Result Unit SheetError)) → check s ≡ k → check_line k ≤ most_lines + 1
    → Narrow (by_check m s c w b k).answer
check-narrow m s c w b l hw (Ok tt) e h = judge-narrow m s c w l hw e
check-narrow m s c w b l hw (Err Length) e h = before-run 3 0 (omega arith) (omega arith)
check-narrow m s c w b l hw (Err (Misspelt i)) e h = before-run 4 i (omega arith) h
check-narrow m s c w b l hw (Err (Unfit i)) e h = before-run 5 i (omega arith) h

-- NARROW: for all bytes, every ceiling and limit, and any buffers, by either call
pub narrow : (m : Mode) (s : List ℕ) (c w : ℕ) (b : Buffers) → Narrow (call m s c w b).answer
unfolding call
narrow m s c w b =
    let N : Called → Type 0 = λ k. Narrow k.answer in
    cond_ind N (ltb highest_ceiling c) (λ _. before-run 1 0 (omega arith) (omega arith))
    (λ e. cond_ind N (limit_bad w) (λ _. before-run 32 0 (omega arith) (omega arith))
    (λ f. cond_ind N (too_short w b) (λ _. before-run 2 0 (omega arith) (omega arith))
    (λ _. check-narrow m s c w b (ltb-false highest_ceiling c e) (limit-good w f).1 (check s) refl (line_small s))))
