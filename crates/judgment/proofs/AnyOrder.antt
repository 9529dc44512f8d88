-- The order in which the Vars of a pattern are pushed shows in no result: `any_order`. Assumes nothing.
use Rattle.std.specs.Prelude.{Option, None, Some}
use Prim.Native.Nat.{ℕ, zero, suc, ◌+◌, ◌≤◌}
use native.Mathlib.Nat.{le_trans}
use native.Mathlib.Omega.{arith}
use mathlib.Core.Path.{◌≡◌, refl, sym, ◌∙◌, ap, ap₂, subst}
use mathlib.Core.Bool.{Bool, true, false, cond, ◌&&◌}
use mathlib.Core.List.{List, [], ◌∷◌, ◌++◌, append-nil}
use lib.Dec.{eqb}
use lib.ListN.{length}
use borrow.Author.Tests.{leb-true, le-leb}
use Rattle.nodes.proofs.ListLaws.{cond_ind}
use Rattle.nodes.specs.Nodes.{Ty}
use Rattle.spelling.specs.declared.Triple.{Triple}
use Rattle.sheet.specs.Plan.{Binding, ◌∶◌, Bindings, lookup, plan_of}
use Rattle.judgment.specs.declared.TypeError.TheVariants.{BoardFull, ArityMismatch}
use Rattle.judgment.specs.Types.{unknown, View, is_arrow, is_app, is_forall, is_unknown, is_other, view, Renaming, rename, front_names, after_front}
use Rattle.judgment.specs.Terms.{Term, part, after_parts, TermView, is_var, is_lit_int, is_lambda, is_apply, is_type_lambda, is_constructor, is_case, is_bin_op, is_if, is_intrinsic, is_none, term_view, PatternView, is_wildcard, is_pattern_var, is_pattern_constructor, pattern_view}
use Rattle.judgment.specs.Solutions.{Solutions}
use Rattle.judgment.specs.Board.{Limit, up_to, unlimited, within, Entry, tvar, var, sub, inf, chk, inf_app, Board, board_nodes, find_var, Limits, Rule, refuse, Operation, State, state, Outcome, refused, room_for, perform, own, pushed, operations}
use Rattle.judgment.specs.Levels.{Levels, own_levels, level_after, levels_after}
use Rattle.judgment.specs.Rules.{Env, subtype, open_names, signature_by, signature_from, insert, push_vars, pattern_parts, pattern_constructor, pattern_by, check_patterns, check_arms, variable, constructor, infer_by, check_by, infer_app, rule}
use Rattle.judgment.specs.Run.{Step, step, End, Run, run, events, add_step, onward, run_from, check_type}
use Rattle.judgment.specs.Result.{result_of, env_of, run_of, judge}
use Rattle.judgment.proofs.OtherOrders.{Distinct, Reordered, Order, Reorders, check_arms_in, infer_by_in, rule_in, run_from_in, run_of_in, judge_in}
use Rattle.judgment.proofs.TypeLaws.{both}
use Rattle.judgment.proofs.Alike.{Alike, empty, entry, vars, Near, alike-length, Agree, finish, stop, InScope, Steady, Parallel, done-parallel, refuse-parallel, fresh-parallel, push-parallel, steady-parallel, subtype-steady, variable-steady, check_by-steady, infer_app-steady}
use Rattle.judgment.proofs.LevelLaws.{levels-append}
use Rattle.judgment.proofs.Reordered.{total, onto, reordered-length, reordered-total, onto-near, Rising, rising-distinct, insert-rising}

within-less : (j k : ℕ) (l : Limit) → within k l ≡ true → j ≤ k → within j l ≡ true
within-less j k (up_to m) e p = le-leb j m (le_trans p (leb-true k m e))
within-less j k unlimited e p = refl

-- ---- the Vars pushed
module _ (L : Limits) where
  -- room for so many entries with so many nodes
  abbrev fits : ℕ → ℕ → Bool
  fits k m = within k L.entries && within m L.nodes

  fits-less : (j k l m : ℕ) → fits k m ≡ true → j ≤ k → l ≤ m → fits j l ≡ true
  fits-less j k l m e p q =
      let h = both (within k L.entries) (within m L.nodes) e in
      ap₂ ◌&&◌ (within-less j k L.entries h.0 p) (within-less l m L.nodes h.1 q)

  -- if all fit, all are pushed; else one of them is refused
  all-pushed : (bs : Bindings) (p : Rule) (Γ : Board) (σ : Solutions) (n : ℕ) → fits (length bs + length Γ) (total bs + board_nodes Γ) ≡ true
      → perform L (push_vars bs p) Γ σ n ≡ perform L p (onto bs Γ) σ n
  unfolding perform push_vars onto total board_nodes
  all-pushed [] p Γ σ n e = refl
  all-pushed (◌∶◌ x t ∷ bs) p Γ σ n e =
      rw (fits-less (suc (length Γ)) _ (length t + board_nodes Γ) _ e (omega arith) (omega arith))
      (all-pushed bs p (var x t ∷ Γ) σ n (fits-less _ _ _ _ e (omega arith) (omega arith)))

  all-pushed-levels : (bs : Bindings) (p : Rule) (Γ : Board) (σ : Solutions) (n : ℕ) (v : Levels) → fits (length bs + length Γ) (total bs + board_nodes Γ) ≡ true
      → levels_after (operations L (push_vars bs p) Γ σ n) v ≡ levels_after (operations L p (onto bs Γ) σ n) v
  unfolding operations push_vars onto total board_nodes levels_after level_after
  all-pushed-levels [] p Γ σ n v e = refl
  all-pushed-levels (◌∶◌ x t ∷ bs) p Γ σ n v e =
      rw (fits-less (suc (length Γ)) _ (length t + board_nodes Γ) _ e (omega arith) (omega arith))
      (all-pushed-levels bs p (var x t ∷ Γ) σ n v (fits-less _ _ _ _ e (omega arith) (omega arith)))

  -- refused for want of room, whatever stands on the board by then
  abbrev Full : Solutions → ℕ → Outcome → Type 0
  Full σ n o = (Γ : Board) × (o ≡ refused BoardFull [] (state Γ σ n))

  not-pushed : (b : Binding) (bs : Bindings) (p : Rule) (Γ : Board) (σ : Solutions) (n : ℕ) → fits (length (b ∷ bs) + length Γ) (total (b ∷ bs) + board_nodes Γ) ≡ false
      → Full σ n (perform L (push_vars (b ∷ bs) p) Γ σ n)
  unfolding perform push_vars total board_nodes
  not-pushed (◌∶◌ x t) [] p Γ σ n e =
      (Γ, ap (λ b. cond b (perform L p (var x t ∷ Γ) σ n) (refused BoardFull [] (state Γ σ n))) (ap₂ fits (omega arith) (omega arith) ∙ e))
  not-pushed (◌∶◌ x t) (b ∷ bs) p Γ σ n e =
      cond_ind (Full σ n) (room_for L (var x t) Γ) (λ _. not-pushed b bs p (var x t ∷ Γ) σ n (ap₂ fits (omega arith) (omega arith) ∙ e)) (λ _. (Γ, refl))

  not-pushed-levels : (b : Binding) (bs : Bindings) (p : Rule) (Γ : Board) (σ : Solutions) (n : ℕ) (v : Levels) → fits (length (b ∷ bs) + length Γ) (total (b ∷ bs) + board_nodes Γ) ≡ false
      → levels_after (operations L (push_vars (b ∷ bs) p) Γ σ n) v ≡ v
  unfolding operations push_vars total board_nodes levels_after level_after
  not-pushed-levels (◌∶◌ x t) [] p Γ σ n v e =
      ap (λ c. levels_after (cond c (pushed (var x t) ∷ operations L p (var x t ∷ Γ) σ n) []) v) (ap₂ fits (omega arith) (omega arith) ∙ e)
  not-pushed-levels (◌∶◌ x t) (b ∷ bs) p Γ σ n v e =
      cond_ind (λ (os : List Operation). levels_after os v ≡ v) (room_for L (var x t) Γ)
      (λ _. not-pushed-levels b bs p (var x t ∷ Γ) σ n v (ap₂ fits (omega arith) (omega arith) ∙ e)) (λ _. refl)

  -- only the rule after the Vars raises anything but BoardFull
  vars-scope : (bs : Bindings) (p : Rule) → ((Γ : Board) (σ : Solutions) (n : ℕ) → InScope (perform L p Γ σ n)) → (Γ : Board) (σ : Solutions) (n : ℕ) → InScope (perform L (push_vars bs p) Γ σ n)
  unfolding perform push_vars
  vars-scope [] p h Γ σ n = h Γ σ n
  vars-scope (◌∶◌ x t ∷ bs) p h Γ σ n = cond_ind InScope (room_for L (var x t) Γ) (λ _. vars-scope bs p h (var x t ∷ Γ) σ n) (λ _. tt)

  full-agree : {σ : Solutions} {n : ℕ} {o q : Outcome} → Full σ n o → Full σ n q → Agree o q
  full-agree f g = rw (f.1, g.1) stop

  alike-fits : {b c : Binding} {bs cs : Bindings} → Reordered (b ∷ bs) (c ∷ cs) → {Γ Δ : Board} → Near Γ Δ
      → fits (length (c ∷ cs) + length Γ) (total (c ∷ cs) + board_nodes Γ) ≡ fits (length (b ∷ bs) + length Δ) (total (b ∷ bs) + board_nodes Δ)
  alike-fits r h = ap₂ fits (ap₂ (λ i j. i + j) (sym (reordered-length r)) (alike-length h.alike)) (ap₂ (λ i j. i + j) (sym (reordered-total r)) h.whole.nodes)

  vars-agree : (b c : Binding) (bs cs : Bindings) {p q : Rule} → Distinct (b ∷ bs) → Reordered (b ∷ bs) (c ∷ cs) → Parallel L p q
      → {Γ Δ : Board} (σ : Solutions) (n : ℕ) → Near Γ Δ → Agree (perform L (push_vars (c ∷ cs) p) Γ σ n) (perform L (push_vars (b ∷ bs) q) Δ σ n)
  vars-agree b c bs cs {p} {q} d r k {Γ} {Δ} σ n h = by (fits (length (b ∷ bs) + length Δ) (total (b ∷ bs) + board_nodes Δ)) refl
    where
      by : (f : Bool) → fits (length (b ∷ bs) + length Δ) (total (b ∷ bs) + board_nodes Δ) ≡ f → Agree (perform L (push_vars (c ∷ cs) p) Γ σ n) (perform L (push_vars (b ∷ bs) q) Δ σ n)
      by true e = rw (all-pushed (c ∷ cs) p Γ σ n (alike-fits r h ∙ e), all-pushed (b ∷ bs) q Δ σ n e) (k.go σ n (onto-near d r h))
      by false e = full-agree (not-pushed c cs p Γ σ n (alike-fits r h ∙ e)) (not-pushed b bs q Δ σ n e)

  vars-levels : (b c : Binding) (bs cs : Bindings) {p q : Rule} → Distinct (b ∷ bs) → Reordered (b ∷ bs) (c ∷ cs) → Parallel L p q
      → {Γ Δ : Board} (σ : Solutions) (n : ℕ) → Near Γ Δ → (v : Levels) → levels_after (operations L (push_vars (c ∷ cs) p) Γ σ n) v ≡ levels_after (operations L (push_vars (b ∷ bs) q) Δ σ n) v
  vars-levels b c bs cs {p} {q} d r k {Γ} {Δ} σ n h v = by (fits (length (b ∷ bs) + length Δ) (total (b ∷ bs) + board_nodes Δ)) refl
    where
      by : (f : Bool) → fits (length (b ∷ bs) + length Δ) (total (b ∷ bs) + board_nodes Δ) ≡ f
          → levels_after (operations L (push_vars (c ∷ cs) p) Γ σ n) v ≡ levels_after (operations L (push_vars (b ∷ bs) q) Δ σ n) v
      by true e = all-pushed-levels (c ∷ cs) p Γ σ n v (alike-fits r h ∙ e) ∙ (k.levels σ n (onto-near d r h)).same v ∙ sym (all-pushed-levels (b ∷ bs) q Δ σ n v e)
      by false e = not-pushed-levels c cs p Γ σ n v (alike-fits r h ∙ e) ∙ sym (not-pushed-levels b bs q Δ σ n v e)

  vars-parallel : (bs cs : Bindings) {p q : Rule} → Distinct bs → Reordered bs cs → Parallel L p q → Parallel L (push_vars cs p) (push_vars bs q)
  unfolding push_vars
  vars-parallel [] [] d r k = k
  vars-parallel [] (c ∷ cs) d r k = absurd (let e = reordered-length r in omega arith)
  vars-parallel (b ∷ bs) [] d r k = absurd (let e = reordered-length r in omega arith)
  vars-parallel (b ∷ bs) (c ∷ cs) {q = q} d r k = record {
    go = λ σ n h. vars-agree b c bs cs d r k σ n h;
    levels = λ σ n h. record { same = vars-levels b c bs cs d r k σ n h };
    scope = λ o Γ σ n. vars-scope (b ∷ bs) q (k.scope o) Γ σ n;
  }

-- ---- the rules that differ
module _ (L : Limits) where
  names-parallel : (xs : List ℕ) (m : Renaming) {f g : Renaming → Rule} → ((m : Renaming) → Parallel L (f m) (g m)) → Parallel L (open_names xs m f) (open_names xs m g)
  unfolding open_names
  names-parallel [] m k = k m
  names-parallel (x ∷ xs) m k = fresh-parallel L own (λ a. push-parallel L (names-parallel xs ((x, a) ∷ m) k))

  signature_by-parallel : (ps : List Ty) (t : Ty) {f g again again' : List Ty → Ty → Rule} (v : View) → ((ps : List Ty) (t : Ty) → Parallel L (f ps t) (g ps t))
      → ((ps : List Ty) (t : Ty) → Parallel L (again ps t) (again' ps t)) → Parallel L (signature_by ps t f again v) (signature_by ps t g again' v)
  signature_by-parallel ps t (is_arrow a b) k i = i (ps ++ (a ∷ [])) b
  signature_by-parallel ps t (is_app a b) k i = k ps t
  signature_by-parallel ps t (is_forall x b) k i = k ps t
  signature_by-parallel ps t (is_unknown j) k i = k ps t
  signature_by-parallel ps t is_other k i = k ps t

  signature-parallel : (n : ℕ) (ps : List Ty) (t : Ty) {f g : List Ty → Ty → Rule} → ((ps : List Ty) (t : Ty) → Parallel L (f ps t) (g ps t))
      → Parallel L (signature_from n ps t f) (signature_from n ps t g)
  unfolding signature_from
  signature-parallel zero ps t k = k ps t
  signature-parallel (suc n) ps t k = signature_by-parallel ps t (view t) k (λ ps' t'. signature-parallel n ps' t' k)

  module _ (E : Env) where
    parts-parallel : (c : ℕ) (t : Ty) {f g : List Ty → Rule} → ((ps : List Ty) → Parallel L (f ps) (g ps)) → (ps : List Ty) (res : Ty)
        → Parallel L (pattern_parts E c t f ps res) (pattern_parts E c t g ps res)
    parts-parallel c t {f} {g} k ps res = push-parallel L (by (eqb c (length ps)))
      where
        by : (b : Bool) → Parallel L (cond b (f ps) (refuse (ArityMismatch (length ps) c) [])) (cond b (g ps) (refuse (ArityMismatch (length ps) c) []))
        by true = k ps
        by false = refuse-parallel L tt

    pattern_constructor-parallel : (x c : ℕ) (t : Ty) {f g : List Ty → Rule} (o : Option Ty) → ((ps : List Ty) → Parallel L (f ps) (g ps))
        → Parallel L (pattern_constructor E x c t f o) (pattern_constructor E x c t g o)
    pattern_constructor-parallel x c t None k = refuse-parallel L tt
    pattern_constructor-parallel x c t (Some u) k =
        names-parallel (front_names u) [] (λ m. signature-parallel (length (rename m (after_front u))) [] (rename m (after_front u)) (parts-parallel c t k))

    pattern_by-parallel : (x c : ℕ) (t : Ty) (bs : Bindings) {f g : List Ty → Bindings → Rule} (v : PatternView) → Rising bs
        → ((ps : List Ty) (bs : Bindings) → Rising bs → Parallel L (f ps bs) (g ps bs)) → Parallel L (pattern_by E x c t bs f v) (pattern_by E x c t bs g v)
    pattern_by-parallel x c t bs is_wildcard h k = k [] bs h
    pattern_by-parallel x c t bs is_pattern_var h k = k [] (insert x t bs) (insert-rising x t bs h)
    pattern_by-parallel x c t bs is_pattern_constructor h k = pattern_constructor-parallel x c t (lookup x E.constructors) (λ ps. k ps bs h)

    -- the bindings that a pattern hands on are in rising order
    patterns-parallel : (ls : List Triple) (ts : List Ty) (bs : Bindings) {f g : Bindings → Rule} → Rising bs → ((bs : Bindings) → Rising bs → Parallel L (f bs) (g bs))
        → Parallel L (check_patterns E ls ts bs f) (check_patterns E ls ts bs g)
    unfolding check_patterns
    patterns-parallel [] ts bs h k = k bs h
    patterns-parallel (l ∷ ls) [] bs h k = k bs h
    patterns-parallel (l ∷ ls) (t ∷ ts) bs h k =
        pattern_by-parallel l.value l.count t bs (pattern_view l.kind) h (λ ps bs' h'. patterns-parallel ls (ps ++ ts) bs' h' k)

    constructor-parallel : (x : ℕ) (t : Ty) (o : Option Ty) → Parallel L (constructor E x t o) (constructor E x t o)
    constructor-parallel x t None = refuse-parallel L tt
    constructor-parallel x t (Some k) = names-parallel (front_names k) [] (λ m. push-parallel L (done-parallel L))

    module _ (order : Order) (reorders : Reorders order) where
      arms-parallel : (n : ℕ) (arms : Term) (s t : Ty) → Parallel L (check_arms_in order E n arms s t) (check_arms E n arms s t)
      unfolding check_arms_in check_arms
      arms-parallel zero arms s t = done-parallel L
      arms-parallel (suc n) arms s t =
          patterns-parallel (part 0 arms).lines (s ∷ []) [] tt (λ bs h.
          let d = rising-distinct bs h in
          vars-parallel L bs (order n s bs) d (reorders n s bs d) (push-parallel L (arms-parallel n (after_parts 2 arms) s t)))

      infer-parallel : (t : Ty) (v : TermView) → Parallel L (infer_by_in order E t v) (infer_by E t v)
      infer-parallel t (is_case n e arms) = fresh-parallel L own (λ a. push-parallel L (push-parallel L (arms-parallel n arms (unknown a) t)))
      infer-parallel t (is_var x) =
          steady-parallel L (infer_by E t (is_var x)) (
            λ Γ Δ h. ap (λ o. variable E x t (lookup x E.context) o (lookup x E.constructors)) (h.whole.found x),
            λ Γ. variable-steady E x t (lookup x E.context) (find_var x Γ) (lookup x E.constructors),
          )
      infer-parallel t is_lit_int = steady-parallel L (infer_by E t is_lit_int) tt
      infer-parallel t (is_lambda x s e) = steady-parallel L (infer_by E t (is_lambda x s e)) (λ b. tt)
      infer-parallel t (is_apply f e) = steady-parallel L (infer_by E t (is_apply f e)) (λ a. tt)
      infer-parallel t (is_type_lambda x e) = steady-parallel L (infer_by E t (is_type_lambda x e)) (λ b. tt)
      infer-parallel t (is_constructor x) = constructor-parallel x t (lookup x E.constructors)
      infer-parallel t (is_bin_op op e₁ e₂) = steady-parallel L (infer_by E t (is_bin_op op e₁ e₂)) tt
      infer-parallel t (is_if e₁ e₂ e₃) = steady-parallel L (infer_by E t (is_if e₁ e₂ e₃)) tt
      infer-parallel t (is_intrinsic x n e) =
          steady-parallel L (infer_by E t (is_intrinsic x n e))
          (cond_ind Steady (eqb x 4) (λ _. cond_ind Steady (eqb n 1) (λ _. tt) (λ _. tt)) (λ _. tt))
      infer-parallel t is_none = steady-parallel L (infer_by E t is_none) tt

      pub rule-parallel : (e : Entry) → Parallel L (rule_in order E e) (rule E e)
      rule-parallel (tvar n) = done-parallel L
      rule-parallel (var x t) = done-parallel L
      rule-parallel (sub s t) = steady-parallel L (subtype s t) (subtype-steady s t)
      rule-parallel (inf e t) = infer-parallel t (term_view e)
      rule-parallel (chk e t) = steady-parallel L (check_by E e t (view t)) (check_by-steady E e t (view t))
      rule-parallel (inf_app f e c) = steady-parallel L (infer_app E f e c) (infer_app-steady E f e c)

-- ---- runs
-- as many steps, the same end, solutions, counter and levels
data Level (v : Levels) : Run → Run → Type 0 where
  level : {ss ss' : List Step} {e : End} {Γ Δ : Board} {σ : Solutions} {n : ℕ} → length ss ≡ length ss' → levels_after (events ss) v ≡ levels_after (events ss') v
      → Level v (run ss e (state Γ σ n)) (run ss' e (state Δ σ n))

level-result : (plain : Bool) (v : Levels) {R R' : Run} → Level v R R' → result_of plain v R ≡ result_of plain v R'
unfolding result_of
level-result plain v (level e f) = rw (e, f)

level-step : (s s' : State) (e e' : Entry) (os os' : List Operation) (o o' : Outcome) (v : Levels) → levels_after os v ≡ levels_after os' v → {R R' : Run} → Level (levels_after os v) R R'
    → Level v (add_step (step s e os o) R) (add_step (step s' e' os' o') R')
level-step s s' e e' os os' o o' v q (level {ss} {ss'} p f) = level (ap suc p)
    (levels-append os (events ss) v ∙ f ∙ ap (levels_after (events ss')) q ∙ sym (levels-append os' (events ss') v))

module _ (order : Order) (reorders : Reorders order) (L : Levels → Limits) (E : Env) where
  onward-level : (s s' : State) (e : Entry) (os os' : List Operation) {o o' : Outcome} (v : Levels) (f g : State → Run) → levels_after os v ≡ levels_after os' v → Agree o o'
      → ((Γ Δ : Board) (σ : Solutions) (n : ℕ) → Alike Γ Δ → Level (levels_after os v) (f (state Γ σ n)) (g (state Δ σ n)))
      → Level v (onward L E s e os o f) (onward L E s' e os' o' g)
  onward-level s s' e os os' v f g q (finish {Γ} {Δ} {σ} {n} h) k = level-step s s' e e os os' _ _ v q (k Γ Δ σ n h.alike)
  onward-level s s' e os os' v f g q stop k = level refl (ap (λ (l : List Operation). levels_after l v) (append-nil os) ∙ q ∙ ap (λ (l : List Operation). levels_after l v) (sym (append-nil os')))

  run-level : (c : ℕ) (v : Levels) {Γ Δ : Board} (σ : Solutions) (n : ℕ) → Alike Γ Δ → Level v (run_from_in order L E c v (state Γ σ n)) (run_from L E c v (state Δ σ n))
  unfolding run_from_in run_from perform operations levels_after
  run-level zero v σ n empty = level refl refl
  run-level zero v σ n (entry e s h) = level refl refl
  run-level zero v σ n (vars x t y u h) = level refl refl
  run-level (suc c) v σ n empty = level refl refl
  run-level (suc c) v σ n (entry e {Γ} {Δ} s h) =
      let k = rule-parallel (L v) E order reorders e in
      let near : Near Γ Δ = record { alike = h; whole = s } in
      let os : List Operation = operations (L v) (rule_in order E e) Γ σ n in
      let os' : List Operation = operations (L v) (rule E e) Δ σ n in
      let q : levels_after os v ≡ levels_after os' v = (k.levels σ n near).same v in
      onward-level _ _ e os os' v (λ s. run_from_in order L E c (levels_after os v) s) (λ s. run_from L E c (levels_after os' v) s) q (k.go σ n near)
      (λ Γ₁ Δ₁ σ₁ n₁ h₁.
      subst (λ (u : Levels). Level (levels_after os v) (run_from_in order L E c (levels_after os v) (state Γ₁ σ₁ n₁)) (run_from L E c u (state Δ₁ σ₁ n₁))) q
      (run-level c (levels_after os v) σ₁ n₁ h₁))
  run-level (suc c) v σ n (vars x t y u h) = level-step _ _ _ _ [] [] _ _ v refl (run-level c v σ n h)

-- ---- the same seven numbers, types reported, solutions and levels
pub any_order : (order : Order) → Reorders order → (L : Levels → Limits) (c : ℕ) (ls : List Triple) → judge_in order L c ls ≡ judge L c ls
unfolding judge_in judge run_of_in run_of check_type
any_order order reorders L c ls =
    level-result (plan_of ls).plain own_levels (run-level order reorders L (env_of (plan_of ls)) c own_levels [] 0 (entry _ (record { found = λ x. refl; nodes = refl }) empty))
