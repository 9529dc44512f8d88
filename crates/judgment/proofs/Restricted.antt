-- RESTRICT: entries that the term does not name change nothing, under any limits and every ceiling. Assumes nothing.
use Rattle.std.specs.Prelude.{Option, None, Some}
use Prim.Native.Nat.{ℕ, zero, suc, ◌+◌}
use mathlib.Core.Path.{◌≡◌, refl, sym, ◌∙◌, ap, ap₂, fun_ext, subst}
use mathlib.Core.Bool.{Bool, true, false, cond, ◌&&◌, ◌||◌, or-true, false≢true}
use mathlib.Core.List.{List, [], ◌∷◌, ◌++◌}
use lib.Dec.{eqb}
use lib.ListN.{length}
use Rattle.nodes.specs.Lists.{All}
use Rattle.nodes.specs.Nodes.{Node, node, Ty, kind, number}
use Rattle.nodes.proofs.ListLaws.{cond_ind}
use Rattle.spelling.specs.declared.Triple.{Triple}
use Rattle.sheet.specs.Plan.{line_node, ◌∶◌, Bindings, lookup, is_use, names, Plan}
use Rattle.judgment.specs.declared.TypeError.TheVariants.{ArityMismatch}
use Rattle.judgment.specs.Types.{unknown, View, is_arrow, is_app, is_forall, is_unknown, is_other, view}
use Rattle.judgment.specs.Terms.{Term, part, after_parts, Lambda, lambda_of, TermView, is_var, is_lit_int, is_lambda, is_apply, is_type_lambda, is_constructor, is_case, is_bin_op, is_if, is_intrinsic, is_none, view_by, term_view, PatternView, is_wildcard, is_pattern_var, is_pattern_constructor, pattern_view}
use Rattle.judgment.specs.Solutions.{Solutions}
use Rattle.judgment.specs.Board.{Entry, tvar, var, sub, inf, chk, inf_app, Board, find_var, Limits, own, Rule, refuse, fresh, push, zonk, look, Operation, State, state, Outcome, finished, refused, perform, operations}
use Rattle.judgment.specs.Levels.{Levels, own_levels, levels_after}
use Rattle.judgment.specs.Rules.{Env, extract_signature, insert, push_vars, pattern_parts, pattern_constructor, pattern_by, check_patterns, check_arms, variable, constructor, infer_by, check_arrow, check_by, apply_by, infer_app, rule}
use Rattle.judgment.specs.Run.{Run, step, add_step, onward, run_from, check_type}
use Rattle.judgment.specs.Result.{env_of, run_of}
use Rattle.judgment.specs.Good.{Lines}
use Rattle.judgment.proofs.TypeLaws.{eqb-true, eqb_same, all-part, all_after, TermHas, term-has}
use Rattle.judgment.specs.Restricted.{named_by, restricted}
use Rattle.judgment.proofs.PushedLines.{EntryHas, OutcomeHas, perform-has, rule-has}

-- ---- two lists of entries that say the same under every name of the term
module _ (E F : Env) where
  pub record Agree (x : ℕ) : Type 0 where
    pub constructors : lookup x E.constructors ≡ lookup x F.constructors
    pub context : lookup x E.context ≡ lookup x F.context

  -- of a line: the name of a variable, a constructor or a pattern's constructor
  abbrev pub Known : Node → Type 0
  Known x = (kind x ≡ 21 → Agree (number x)) × (kind x ≡ 26 → Agree (number x)) × (kind x ≡ 43 → Agree (number x))

  abbrev ViewKnown : TermView → Type 0
  ViewKnown (is_var x) = Agree x
  ViewKnown is_lit_int = Unit {0}
  ViewKnown (is_lambda x s e) = Unit {0}
  ViewKnown (is_apply f e) = Unit {0}
  ViewKnown (is_type_lambda x e) = Unit {0}
  ViewKnown (is_constructor x) = Agree x
  ViewKnown (is_case n e arms) = Unit {0}
  ViewKnown (is_bin_op op e₁ e₂) = Unit {0}
  ViewKnown (is_if e₁ e₂ e₃) = Unit {0}
  ViewKnown (is_intrinsic x n e) = Unit {0}
  ViewKnown is_none = Unit {0}

  -- the number of a line's node is its value, but for a Product
  value_of : (l : Triple) (k : ℕ) → l.kind ≡ k → eqb k 16 ≡ false → number (line_node l) ≡ l.value
  value_of l k e h = ap (λ j. cond (eqb j 16) l.count l.value) e ∙ ap (λ b. cond b l.count l.value) h

  view_known : (ls : List Triple) (next : ℕ) → All (λ l. Known (line_node l)) ls → ViewKnown (view_by ls next)
  view_known [] next h = tt
  view_known (l ∷ ls) next h =
      cond_ind ViewKnown (eqb l.kind 21) (λ e. (let q = eqb-true l.kind 21 e in subst Agree (value_of l 21 q refl) (h.0.0 q)))
      (λ _. cond_ind ViewKnown (eqb l.kind 22) (λ _. tt)
      (λ _. cond_ind ViewKnown (eqb l.kind 23) (λ _. tt)
      (λ _. cond_ind ViewKnown (eqb l.kind 24) (λ _. tt)
      (λ _. cond_ind ViewKnown (eqb l.kind 25) (λ _. tt)
      (λ _. cond_ind ViewKnown (eqb l.kind 26) (λ e. (let q = eqb-true l.kind 26 e in subst Agree (value_of l 26 q refl) (h.0.1 q)))
      (λ _. cond_ind ViewKnown (eqb l.kind 27) (λ _. tt)
      (λ _. cond_ind ViewKnown (eqb l.kind 28) (λ _. tt)
      (λ _. cond_ind ViewKnown (eqb l.kind 29) (λ _. tt)
      (λ _. cond_ind ViewKnown (eqb l.kind 30) (λ _. tt) (λ _. tt))))))))))

  term-known : (e : Term) → Lines Known e → ViewKnown (term_view e)
  unfolding term_view
  term-known e h = view_known e.lines (e.line + 1) h

  abbrev PatternKnown : ℕ → PatternView → Type 0
  PatternKnown x is_wildcard = Unit {0}
  PatternKnown x is_pattern_var = Unit {0}
  PatternKnown x is_pattern_constructor = Agree x

  pattern-known : (l : Triple) → Known (line_node l) → PatternKnown l.value (pattern_view l.kind)
  pattern-known l h =
      cond_ind (PatternKnown l.value) (eqb l.kind 42) (λ _. tt)
      (λ _. cond_ind (PatternKnown l.value) (eqb l.kind 43) (λ e. (let q = eqb-true l.kind 43 e in subst Agree (value_of l 43 q refl) (h.2 q))) (λ _. tt))

  -- ---- their rules are the same
  parts_same : (c : ℕ) (t : Ty) (f g : List Ty → Rule) → ((ps : List Ty) → f ps ≡ g ps) → pattern_parts E c t f ≡ pattern_parts F c t g
  parts_same c t f g h = fun_ext (λ ps. fun_ext (λ res. ap (λ (r : Rule). push (sub res t) (cond (eqb c (length ps)) r (refuse (ArityMismatch (length ps) c) []))) (h ps)))

  pattern_constructor-same : (x c : ℕ) (t : Ty) (f g : List Ty → Rule) (k : Option Ty) → ((ps : List Ty) → f ps ≡ g ps)
      → pattern_constructor E x c t f k ≡ pattern_constructor F x c t g k
  pattern_constructor-same x c t f g None h = refl
  pattern_constructor-same x c t f g (Some k) h = ap (extract_signature k) (parts_same c t f g h)

  pattern_by-same : (x c : ℕ) (t : Ty) (bs : Bindings) (f g : List Ty → Bindings → Rule) (v : PatternView) → PatternKnown x v
      → ((ps : List Ty) (bs' : Bindings) → f ps bs' ≡ g ps bs') → pattern_by E x c t bs f v ≡ pattern_by F x c t bs g v
  pattern_by-same x c t bs f g is_wildcard k h = h [] bs
  pattern_by-same x c t bs f g is_pattern_var k h = h [] (insert x t bs)
  pattern_by-same x c t bs f g is_pattern_constructor k h =
      pattern_constructor-same x c t (λ ps. f ps bs) (λ ps. g ps bs) (lookup x E.constructors) (λ ps. h ps bs)
      ∙ ap (pattern_constructor F x c t (λ ps. g ps bs)) k.constructors

  check_patterns-same : (ls : List Triple) (ts : List Ty) (bs : Bindings) (f g : Bindings → Rule) → All (λ l. Known (line_node l)) ls
      → ((bs' : Bindings) → f bs' ≡ g bs') → check_patterns E ls ts bs f ≡ check_patterns F ls ts bs g
  unfolding check_patterns
  check_patterns-same [] ts bs f g k h = h bs
  check_patterns-same (l ∷ ls) [] bs f g k h = h bs
  check_patterns-same (l ∷ ls) (t ∷ ts) bs f g k h =
      pattern_by-same l.value l.count t bs (λ ps bs'. check_patterns E ls (ps ++ ts) bs' f) (λ ps bs'. check_patterns F ls (ps ++ ts) bs' g)
      (pattern_view l.kind) (pattern-known l k.0) (λ ps bs'. check_patterns-same ls (ps ++ ts) bs' f g k.1 h)

  check_arms-same : (n : ℕ) (arms : Term) (s t : Ty) → Lines Known arms → check_arms E n arms s t ≡ check_arms F n arms s t
  unfolding check_arms
  check_arms-same zero arms s t h = refl
  check_arms-same (suc n) arms s t h =
      let after : Term = after_parts 2 arms in
      check_patterns-same (part 0 arms).lines (s ∷ []) []
      (λ bs. push_vars bs (push (chk (part 1 arms) t) (check_arms E n after s t)))
      (λ bs. push_vars bs (push (chk (part 1 arms) t) (check_arms F n after s t)))
      (all-part Known 0 arms h)
      (λ bs. ap (λ (r : Rule). push_vars bs (push (chk (part 1 arms) t) r)) (check_arms-same n after s t (all_after Known 2 arms h)))

  variable-same : (x : ℕ) (t : Ty) (a b c : Option Ty) → variable E x t a b c ≡ variable F x t a b c
  variable-same x t (Some u) b c = refl
  variable-same x t None (Some u) c = refl
  variable-same x t None None (Some u) = refl
  variable-same x t None None None = refl

  constructor-same : (x : ℕ) (t : Ty) (k : Option Ty) → constructor E x t k ≡ constructor F x t k
  constructor-same x t None = refl
  constructor-same x t (Some k) = refl

  infer_by-same : (t : Ty) (v : TermView) → ViewKnown v → TermHas Known v → infer_by E t v ≡ infer_by F t v
  infer_by-same t (is_var x) k h = ap look (fun_ext (λ Γ.
      variable-same x t (lookup x E.context) (find_var x Γ) (lookup x E.constructors)
      ∙ ap₂ (λ a c. variable F x t a (find_var x Γ) c) k.context k.constructors))
  infer_by-same t is_lit_int k h = refl
  infer_by-same t (is_lambda x s e) k h = refl
  infer_by-same t (is_apply f e) k h = refl
  infer_by-same t (is_type_lambda x e) k h = refl
  infer_by-same t (is_constructor x) k h = constructor-same x t (lookup x E.constructors) ∙ ap (constructor F x t) k.constructors
  infer_by-same t (is_case n e arms) k h =
      ap (fresh own) (fun_ext (λ a. ap (λ (r : Rule). push (tvar (node 17 a)) (push (chk e (unknown a)) r)) (check_arms-same n arms (unknown a) t h.1)))
  infer_by-same t (is_bin_op op e₁ e₂) k h = refl
  infer_by-same t (is_if e₁ e₂ e₃) k h = refl
  infer_by-same t (is_intrinsic x n e) k h = refl
  infer_by-same t is_none k h = refl

  check_arrow-same : (e : Term) (t a b : Ty) (f : Option Lambda) → check_arrow E e t a b f ≡ check_arrow F e t a b f
  check_arrow-same e t a b None = refl
  check_arrow-same e t a b (Some f) = refl

  check_by-same : (e : Term) (t : Ty) (v : View) → check_by E e t v ≡ check_by F e t v
  check_by-same e t (is_arrow a b) = check_arrow-same e t a b (lambda_of e)
  check_by-same e t (is_forall x b) = refl
  check_by-same e t (is_app a b) = refl
  check_by-same e t (is_unknown k) = refl
  check_by-same e t is_other = refl

  apply_by-same : (f : Ty) (e : Term) (c : Ty) (v : View) → apply_by E f e c v ≡ apply_by F f e c v
  apply_by-same f e c (is_arrow a b) = refl
  apply_by-same f e c (is_forall x b) = refl
  apply_by-same f e c (is_unknown k) = refl
  apply_by-same f e c (is_app a b) = refl
  apply_by-same f e c is_other = refl

  pub rule-same : (e : Entry) → EntryHas Known e → rule E e ≡ rule F e
  unfolding infer_app
  rule-same (tvar x) h = refl
  rule-same (var x t) h = refl
  rule-same (sub s t) h = refl
  rule-same (inf e t) h = infer_by-same t (term_view e) (term-known e h) (term-has Known e h)
  rule-same (chk e t) h = check_by-same e t (view t)
  rule-same (inf_app f e c) h = ap (zonk f) (fun_ext (λ f'. ap (zonk c) (fun_ext (λ c'. apply_by-same f' e c' (view f')))))

  -- ---- and so are their runs
  module _ (L : Levels → Limits) where
    onward-same : (s : State) (e : Entry) (os : List Operation) (o : Outcome) (f g : State → Run) → OutcomeHas Known o
        → ((Γ : Board) (σ : Solutions) (n : ℕ) → All (EntryHas Known) Γ → f (state Γ σ n) ≡ g (state Γ σ n)) → onward L E s e os o f ≡ onward L F s e os o g
    onward-same s e os (finished (state Γ σ n)) f g h k = ap (add_step (step s e os (finished (state Γ σ n)))) (k Γ σ n h)
    onward-same s e os (refused r ts (state Γ σ n)) f g h k = refl

    pub run-same : (c : ℕ) (v : Levels) (Γ : Board) (σ : Solutions) (n : ℕ) → All (EntryHas Known) Γ → run_from L E c v (state Γ σ n) ≡ run_from L F c v (state Γ σ n)
    unfolding run_from
    run-same zero v [] σ n h = refl
    run-same zero v (e ∷ Γ) σ n h = refl
    run-same (suc c) v [] σ n h = refl
    run-same (suc c) v (e ∷ Γ) σ n h =
        let s : State = state (e ∷ Γ) σ n in
        let os : List Operation = operations (L v) (rule E e) Γ σ n in
        onward-same s e os (perform (L v) (rule E e) Γ σ n) (λ s'. run_from L E c (levels_after os v) s') (λ s'. run_from L F c (levels_after os v) s')
        (perform-has Known (L v) (rule E e) Γ σ n h.1 (rule-has Known E e h.0)) (λ Δ τ m g. run-same c (levels_after os v) Δ τ m g)
        ∙ ap (λ p. onward L F s e (operations (L v) p Γ σ n) (perform (L v) p Γ σ n) (λ s'. run_from L F c (levels_after (operations (L v) p Γ σ n) v) s')) (rule-same e h.0)

  -- ---- the names of the term
  names-here : (l : Triple) (ls : List Triple) → is_use l.kind ≡ true → names l.value (l ∷ ls) ≡ true
  unfolding names
  names-here l ls h = ap (λ b. (b && is_use l.kind) || names l.value ls) (eqb_same l.value) ∙ ap (λ b. b || names l.value ls) h

  names-later : (x : ℕ) (l : Triple) (ls : List Triple) → names x ls ≡ true → names x (l ∷ ls) ≡ true
  unfolding names
  names-later x l ls h = let here = eqb l.value x && is_use l.kind in ap (λ b. here || b) h ∙ or-true here

  pub all_known : (ls : List Triple) → ((x : ℕ) → names x ls ≡ true → Agree x) → All (λ l. Known (line_node l)) ls
  all_known [] h = tt
  all_known (l ∷ ls) h = ((of 21 refl refl, of 26 refl refl, of 43 refl refl), all_known ls (λ x e. h x (names-later x l ls e)))
    where
      of : (k : ℕ) → is_use k ≡ true → eqb k 16 ≡ false → l.kind ≡ k → Agree (number (line_node l))
      of k n s e = subst Agree (sym (value_of l k e s)) (h l.value (names-here l ls (ap is_use e ∙ n)))

-- ENTRIES THAT AGREE on the names in the term run alike
pub agree-run : (L : Levels → Limits) (E F : Env) (c : ℕ) (e : Term) (t : Ty) → ((x : ℕ) → names x e.lines ≡ true → Agree E F x) → check_type L E c e t ≡ check_type L F c e t
unfolding check_type
agree-run L E F c e t h = run-same E F L c own_levels (chk e t ∷ []) [] 0 (all_known E F e.lines h, tt)

-- ---- bindings left out
lookup-kept : (ls : List Triple) (x : ℕ) → names x ls ≡ true → (bs : Bindings) → lookup x bs ≡ lookup x (named_by ls bs)
unfolding lookup named_by
lookup-kept ls x e [] = refl
lookup-kept ls x e (◌∶◌ y t ∷ bs) = kept (lookup-kept ls x e bs) (names y ls) refl
  where
    left_out : names y ls ≡ false → (b : Bool) → eqb y x ≡ b → cond b (Some t) (lookup x bs) ≡ lookup x bs
    left_out f true q = absurd (false≢true (sym f ∙ (ap (λ z. names z ls) (eqb-true y x q) ∙ e)))
    left_out f false q = refl

    kept : lookup x bs ≡ lookup x (named_by ls bs) → (b : Bool) → names y ls ≡ b
        → lookup x (◌∶◌ y t ∷ bs) ≡ lookup x (cond b (◌∶◌ y t ∷ named_by ls bs) (named_by ls bs))
    kept h true q = ap (λ (o : Option Ty). cond (eqb y x) (Some t) o) h
    kept h false q = left_out q (eqb y x) refl ∙ h

-- RESTRICT: the run of a plan is that of the plan with those entries alone that its term names, under any limits and every ceiling
pub restrict : (L : Levels → Limits) (c : ℕ) (p : Plan) → run_of L c p ≡ run_of L c (restricted p)
unfolding run_of
restrict L c p =
    let ls = p.term.lines in
    agree-run L (env_of p) (env_of (restricted p)) c p.term p.expected
    (λ x e. record { constructors = lookup-kept ls x e p.constructors; context = lookup-kept ls x e p.context })
