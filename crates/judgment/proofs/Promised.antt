-- The promise, proved: of any good start under any limits (`start-promise`), of a plan (`plan-promise`), and of every sheet that passes
-- refusals 3 to 5 (`promise`). And raising the ceiling changes no result but 21 (`raise`). Assumes nothing.
use Rattle.std.specs.Prelude.{Ok}
use Prim.Native.Nat.{ℕ, ◌≤◌}
use native.Mathlib.Omega.{arith}
use mathlib.Core.Path.{◌≡◌, refl, sym, ◌∙◌, ap, subst, subst⁻¹}
use mathlib.Core.Logic.{◌≢◌}
use mathlib.Core.Bool.{Bool, true}
use mathlib.Core.List.{List, [], ◌∷◌}
use Rattle.nodes.specs.Lists.{All, count}
use Rattle.nodes.proofs.ListLaws.{all_map, count-append}
use Rattle.spelling.specs.declared.Triple.{Triple}
use Rattle.grammar.specs.Check.{check}
use Rattle.sheet.specs.Plan.{triples, Plan as PlanOf, plan_of}
use Rattle.judgment.specs.Solutions.{Solutions, value, write_out}
use Rattle.judgment.specs.Board.{Entry, tvar, var, sub, inf, chk, inf_app, Board, Limits, State, state}
use Rattle.judgment.specs.Levels.{Levels, own_levels}
use Rattle.judgment.specs.Rules.{Env}
use Rattle.judgment.specs.Run.{End, ceiling, Run, run, steps, end, run_from, check_type}
use Rattle.judgment.specs.Result.{end_number, env_of, run_of, result_of, judge}
use Rattle.judgment.specs.Promise.{taken, events, pushes, NotMet, Quantifierless, Same, InFull, Promise}
use Rattle.judgment.specs.Restricted.{restricted}
use Rattle.judgment.specs.Good.{Fine, Mono, Inv}
use Rattle.judgment.proofs.SolutionLaws.{ends, never_back, all-written}
use Rattle.judgment.proofs.RuleLaws.{Equal, EnvOK}
use Rattle.judgment.proofs.Events.{Adds, run-adds, run-unmet}
use Rattle.judgment.proofs.Full.{in-full, full_is}
use Rattle.judgment.proofs.Restricted.{restrict}
use Rattle.judgment.proofs.Plans.{GoodPlan, plan-env, plan-inv, restricted-good}
use Rattle.judgment.proofs.Runs.{Empties, Accepted, FactsOf, run-facts, raise-ceiling}

-- ---- any good start
same-types : (σ : Solutions) → Fine σ → (e : Entry) → Equal σ e → Same σ e
same-types σ f (tvar x) h = tt
same-types σ f (var x t) h = tt
same-types σ f (sub s t) h = (write_out σ s, in-full σ f s, subst⁻¹ (InFull σ t) h (in-full σ f t))
same-types σ f (inf e t) h = tt
same-types σ f (chk e t) h = tt
same-types σ f (inf_app g e t) h = tt

module _ (plain : Bool) where
  pub claim : (Γ₀ : Board) (σ₀ : Solutions) (n₀ : ℕ) (R : Run) → FactsOf (plain ≡ true) Γ₀ σ₀ R → Adds Γ₀ σ₀ R → All NotMet (events (steps R)) → Promise (state Γ₀ σ₀ n₀) plain R
  unfolding count
  claim Γ₀ σ₀ n₀ (run ss d (state Γ σ n)) F A u =
      let f = F.inv.fine in
      record {
        never_met = u;
        all-given = A.0;
        once = f.once;
        ends = ends σ f;
        never_back = never_back σ f;
        written = λ t. (write_out σ t, in-full σ f t);
        one_way = λ t v w p q. full_is σ f t v p ∙ sym (full_is σ f t w q);
        monotypes = all_map (λ x h v p. subst⁻¹ Quantifierless (full_is σ f (value x) v p) (all-written Mono σ (value x) (all_map (λ y g. g.2) σ F.inv.solutions) h.2)) σ F.inv.solutions;
        empty = λ a. subst (λ d. Empties d Γ) a F.empties;
        all-taken = λ a p. (let e = ap (count p) (subst (λ d. Empties d Γ) a F.empties) in let c = A.1 p in let z = count-append p Γ₀ (pushes (events ss)) in omega arith);
        same = λ a p. all_map (same-types σ f) (taken ss) (F.equal p (subst⁻¹ Accepted a tt)).1;
        never-16 = λ ts a. subst (λ d. Empties d Γ) a F.empties;
      }

-- of any state that has the invariant
pub start-promise : (plain : Bool) (L : Levels → Limits) (E : Env) → EnvOK (plain ≡ true) E → (c : ℕ) (v : Levels) (Γ : Board) (σ : Solutions) (n : ℕ) → Inv (plain ≡ true) Γ σ n → Promise (state Γ σ n) plain (run_from L E c v (state Γ σ n))
start-promise plain L E hE c v Γ σ n i =
    claim plain Γ σ n (run_from L E c v (state Γ σ n)) (run-facts (plain ≡ true) L E hE c v Γ σ n i) (run-adds L E c v Γ σ n)
    (run-unmet L E (plain ≡ true) hE c v Γ σ n i)

-- ---- a plan
pub plan-promise : (L : Levels → Limits) (c : ℕ) (p : PlanOf) → GoodPlan (p.plain ≡ true) p → Promise (state (chk p.term p.expected ∷ []) [] 0) p.plain (run_of L c p)
unfolding run_of check_type
plan-promise L c p g = start-promise p.plain L (env_of p) (plan-env p g) c own_levels (chk p.term p.expected ∷ []) [] 0 (plan-inv p g)

-- THE PROMISE: for every sheet that passes refusals 3 to 5, under any limits, which may hang on the levels, and every ceiling: so by both calls
pub promise : (L : Levels → Limits) (s : List ℕ) (c : ℕ) → check s ≡ Ok tt
    → (let p = plan_of (triples s) in Promise (state (chk p.term p.expected ∷ []) [] 0) p.plain (run_of L c p))
promise L s c e =
    let p = plan_of (triples s) in
    subst⁻¹ (Promise (state (chk p.term p.expected ∷ []) [] 0) p.plain) (restrict L c p) (plan-promise L c (restricted p) (restricted-good s e))

-- ---- the ceiling
not-21 : (e : End) → end_number e ≢ 21 → e ≢ ceiling
not-21 e h q = h (ap end_number q)

pub number_of : (b : Bool) (v : Levels) (R : Run) → (result_of b v R).answer.number ≡ end_number (end R)
unfolding result_of
number_of b v (run ss d (state Γ σ n)) = refl

-- raising the ceiling changes no result but 21
pub raise : (L : Levels → Limits) (c d : ℕ) (ls : List Triple) → c ≤ d → (judge L c ls).answer.number ≢ 21 → judge L d ls ≡ judge L c ls
unfolding judge run_of check_type
raise L c d ls l h =
    let p = plan_of ls in
    let s : State = state (chk p.term p.expected ∷ []) [] 0 in
    ap (result_of p.plain own_levels) (raise-ceiling L (env_of p) c d own_levels s l (not-21 _ (λ q. h (number_of p.plain own_levels (run_from L (env_of p) c own_levels s) ∙ q))))
