-- The rules with the Vars of a pattern pushed in any order, and the run by them.
-- Assumes nothing.
use Prim.Native.Nat.{ℕ, zero, suc}
use mathlib.Core.Logic.{◌≢◌}
use mathlib.Core.List.{List, [], ◌∷◌}
use Rattle.nodes.specs.Lists.{All}
use Rattle.nodes.specs.Nodes.{Ty}
use Rattle.spelling.specs.declared.Triple.{Triple}
use Rattle.sheet.specs.Plan.{Binding, ◌∶◌, Bindings, Plan, plan_of}
use Rattle.judgment.specs.Types.{unknown}
use Rattle.judgment.specs.Terms.{Term, part, after_parts, TermView, is_var, is_lit_int, is_lambda, is_apply, is_type_lambda, is_constructor, is_case, is_bin_op, is_if, is_intrinsic, is_none, term_view}
use Rattle.judgment.specs.Board.{Entry, tvar, var, sub, inf, chk, inf_app, Limits, Rule, done, push, ◌>>=◌, ◌>>◌, State, state, perform, operations}
use Rattle.judgment.specs.Levels.{Levels, own_levels, levels_after}
use Rattle.judgment.specs.Rules.{Env, fresh_unknown, push_vars, check_patterns, infer_by, rule}
use Rattle.judgment.specs.Run.{accepted, ceiling, Run, run, onward}
use Rattle.judgment.specs.Result.{Judged, result_of, env_of}

-- ---- the same bindings in another order
abbrev pub name_of : Binding → ℕ
name_of (◌∶◌ x t) = x

-- no name twice
abbrev pub Distinct : Bindings → Type 0
Distinct [] = Unit {0}
Distinct (b ∷ bs) = All (λ c. name_of b ≢ name_of c) bs × Distinct bs

-- one from the other by exchanges of neighbours
pub data Reordered : Bindings → Bindings → Type 0 where
  same : {bs : Bindings} → Reordered bs bs
  swap : {b c : Binding} {bs : Bindings} → Reordered (b ∷ c ∷ bs) (c ∷ b ∷ bs)
  under : {b : Binding} {bs cs : Bindings} → Reordered bs cs → Reordered (b ∷ bs) (b ∷ cs)
  then : {bs cs ds : Bindings} → Reordered bs cs → Reordered cs ds → Reordered bs ds

-- An order for each pattern: of the arm with n arms after it, of a Case on type s. Every Case has an unknown of its own for s.
abbrev pub Order : Type 0
Order = ℕ → Ty → Bindings → Bindings

-- bindings of distinct names are kept, in whatever order
abbrev pub Reorders : Order → Type 0
Reorders order = (n : ℕ) (s : Ty) (bs : Bindings) → Distinct bs → Reordered bs (order n s bs)

-- ---- the rules and the run, as in Rules, Run and Judged but for the order of a pattern's Vars
module _ (order : Order) where
  module _ (E : Env) where
    unfoldable pub check_arms_in : ℕ → Term → Ty → Ty → Rule
    check_arms_in zero arms s t = done
    check_arms_in (suc n) arms s t = check_patterns E (part 0 arms).lines (s ∷ []) [] λ bs.
        push_vars (order n s bs) (push (chk (part 1 arms) t) (check_arms_in n (after_parts 2 arms) s t))

    -- only a Case differs
    abbrev pub infer_by_in : Ty → TermView → Rule
    infer_by_in t (is_case n e arms) = do
      a ← fresh_unknown
      push (chk e (unknown a))
      check_arms_in n arms (unknown a) t
    infer_by_in t (is_var x) = infer_by E t (is_var x)
    infer_by_in t is_lit_int = infer_by E t is_lit_int
    infer_by_in t (is_lambda x s e) = infer_by E t (is_lambda x s e)
    infer_by_in t (is_apply f e) = infer_by E t (is_apply f e)
    infer_by_in t (is_type_lambda x e) = infer_by E t (is_type_lambda x e)
    infer_by_in t (is_constructor x) = infer_by E t (is_constructor x)
    infer_by_in t (is_bin_op op e₁ e₂) = infer_by E t (is_bin_op op e₁ e₂)
    infer_by_in t (is_if e₁ e₂ e₃) = infer_by E t (is_if e₁ e₂ e₃)
    infer_by_in t (is_intrinsic x n e) = infer_by E t (is_intrinsic x n e)
    infer_by_in t is_none = infer_by E t is_none

    abbrev pub rule_in : Entry → Rule
    rule_in (inf e t) = infer_by_in t (term_view e)
    rule_in (tvar n) = rule E (tvar n)
    rule_in (var x t) = rule E (var x t)
    rule_in (sub s t) = rule E (sub s t)
    rule_in (chk e t) = rule E (chk e t)
    rule_in (inf_app f e c) = rule E (inf_app f e c)

  unfoldable pub run_from_in : (Levels → Limits) → Env → ℕ → Levels → State → Run
  run_from_in L E zero v (state [] σ n) = run [] accepted (state [] σ n)
  run_from_in L E zero v (state (e ∷ Γ) σ n) = run [] ceiling (state (e ∷ Γ) σ n)
  run_from_in L E (suc c) v (state [] σ n) = run [] accepted (state [] σ n)
  run_from_in L E (suc c) v (state (e ∷ Γ) σ n) =
      onward L E (state (e ∷ Γ) σ n) e (operations (L v) (rule_in E e) Γ σ n) (perform (L v) (rule_in E e) Γ σ n)
      (λ s. run_from_in L E c (levels_after (operations (L v) (rule_in E e) Γ σ n) v) s)

  unfoldable pub run_of_in : (Levels → Limits) → ℕ → Plan → Run
  run_of_in L c p = run_from_in L (env_of p) c own_levels (state (chk p.term p.expected ∷ []) [] 0)

  unfoldable pub judge_in : (Levels → Limits) → ℕ → List Triple → Judged
  judge_in L c ls = let p = plan_of ls in result_of p.plain own_levels (run_of_in L c p)
