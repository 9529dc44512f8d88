-- A higher limit of written-out types changes no run but one that ends with 23: `raise-run`, `raise-limit`. Assumes nothing.
use Rattle.std.specs.Prelude.{Option, None, Some}
use Prim.Native.Nat.{ℕ, zero, suc, ◌+◌, ◌≤◌}
use native.Mathlib.Omega.{arith}
use mathlib.Core.Path.{◌≡◌, refl, ap, subst}
use mathlib.Core.Logic.{◌≢◌, ◌⊎◌, inl, inr}
use mathlib.Core.Bool.{Bool, true, false, cond}
use mathlib.Core.List.{List, [], ◌∷◌, ◌++◌}
use lib.ListN.{length}
use borrow.Author.Tests.{leb-true, le-leb}
use Rattle.nodes.specs.Nodes.{Ty}
use Rattle.spelling.specs.declared.Triple.{Triple}
use Rattle.sheet.specs.Plan.{plan_of}
use Rattle.judgment.specs.declared.TypeError.TheVariants.{TypeTooLong}
use Rattle.judgment.specs.Types.{can_unify}
use Rattle.judgment.specs.Solutions.{◌≔◌, Solutions, find, write_out, solution_nodes}
use Rattle.judgment.specs.Board.{below, within, Limit, up_to, Entry, Board, Limits, Rule, done, refuse, fresh, push, solve, zonk, look, Operation, made, pushed, gave, met, State, state, Outcome, finished, refused, room_for, solving, perform, operations}
use Rattle.judgment.specs.Levels.{Levels, own_levels, levels_after, Mode}
use Rattle.judgment.specs.Rules.{Env, rule}
use Rattle.judgment.specs.Run.{Step, step, End, accepted, ceiling, refused_by, Run, run, end, add_step, onward, run_from, start_with, check_type}
use Rattle.judgment.specs.Result.{error_number, end_number, result_of, env_of, run_of, judge, limits_for}
use Rattle.judgment.proofs.Performed.{Done, also, only, paired, doing, together}

-- ---- 23
abbrev TooLong : Outcome → Type 0
TooLong (finished s) = ⊥
TooLong (refused r ts s) = r ≡ TypeTooLong

abbrev LongEnd : End → Type 0
LongEnd accepted = ⊥
LongEnd ceiling = ⊥
LongEnd (refused_by r ts) = r ≡ TypeTooLong

-- the first has come to 23, or the second is the first
abbrev Unchanged : Done → Done → Type 0
Unchanged d d' = TooLong d.outcome ⊎ (d' ≡ d)

also-unchanged : (o : Operation) {d d' : Done} → Unchanged d d' → Unchanged (also o d) (also o d')
also-unchanged o (inl t) = inl t
also-unchanged o (inr e) = inr (ap (also o) e)

either : (b : Bool) {x x' y y' : Done} → Unchanged x x' → Unchanged y y' → Unchanged (cond b x y) (cond b x' y')
either true f g = f
either false f g = g

three : (a : Option Ty) (s : Ty) {x x' y y' z z' : Done} → Unchanged x x' → Unchanged y y' → Unchanged z z' → Unchanged (solving a s x y z) (solving a s x' y' z')
three None s f g h = f
three (Some t) s f g h = either (can_unify s t) g h

-- ---- the limits, but for a higher one of written-out types
abbrev pub with_written : Limit → Limits → Limits
with_written u L = record { entries = L.entries; nodes = L.nodes; written = u; numbers = L.numbers; solved = L.solved; scope = L.scope }

module _ (L : Limits) (u : Limit) (higher : (k : ℕ) → within k L.written ≡ true → within k u ≡ true) where
  zonked : (k : ℕ) (s : State) (b : Bool) → within k L.written ≡ b → {x x' : Done} → Unchanged x x'
      → Unchanged (cond b x (only (refused TypeTooLong [] s))) (cond (within k u) x' (only (refused TypeTooLong [] s)))
  zonked k s true e f = rw (higher k e) f
  zonked k s false e f = inl refl

  unchanged : (p : Rule) (Γ : Board) (σ : Solutions) (n : ℕ) → Unchanged (doing L p Γ σ n) (doing (with_written u L) p Γ σ n)
  unfolding doing
  unchanged done Γ σ n = inr refl
  unchanged (refuse r ts) Γ σ n = inr refl
  unchanged (fresh g f) Γ σ n = either (below n L.numbers) (also-unchanged (made g n) (unchanged (f n) Γ σ (suc n))) (inr refl)
  unchanged (push e p) Γ σ n = either (room_for L e Γ) (also-unchanged (pushed e) (unchanged p (e ∷ Γ) σ n)) (inr refl)
  unchanged (solve k s p) Γ σ n =
      three (find k σ) s
      (either (L.scope k s) (either (within (solution_nodes σ + length s) L.solved) (also-unchanged (gave k s) (unchanged p Γ (σ ++ (◌≔◌ k s ∷ [])) n)) (inr refl)) (inr refl))
      (also-unchanged (met k) (unchanged p Γ σ n))
      (inr refl)
  unchanged (zonk t f) Γ σ n = zonked (length (write_out σ t)) (state Γ σ n) (within (length (write_out σ t)) L.written) refl (unchanged (f (write_out σ t)) Γ σ n)
  unchanged (look f) Γ σ n = unchanged (f Γ) Γ σ n

  pub raised : (p : Rule) (Γ : Board) (σ : Solutions) (n : ℕ)
      → Unchanged (paired (operations L p Γ σ n) (perform L p Γ σ n)) (paired (operations (with_written u L) p Γ σ n) (perform (with_written u L) p Γ σ n))
  raised p Γ σ n =
      subst (λ (d : Done). Unchanged d (paired (operations (with_written u L) p Γ σ n) (perform (with_written u L) p Γ σ n))) (together L p Γ σ n)
      (subst (Unchanged (doing L p Γ σ n)) (together (with_written u L) p Γ σ n) (unchanged p Γ σ n))

-- ---- runs
long-add : (t : Step) (R : Run) → LongEnd (end R) → LongEnd (end (add_step t R))
long-add t (run ss e s) h = h

module _ (L : Levels → Limits) (u : Limit) (higher : (v : Levels) (k : ℕ) → within k (L v).written ≡ true → within k u ≡ true) (E : Env) where
  abbrev raised_limits : Levels → Limits
  raised_limits v = with_written u (L v)

  onward-unchanged : (s : State) (e : Entry) (os : List Operation) (o : Outcome) {d' : Done} → Unchanged (paired os o) d' → (again again' : List Operation → State → Run)
      → ((os : List Operation) (s' : State) → LongEnd (end (again os s')) ⊎ (again' os s' ≡ again os s'))
      → LongEnd (end (onward L E s e os o (again os))) ⊎ (onward raised_limits E s e d'.operations d'.outcome (again' d'.operations) ≡ onward L E s e os o (again os))
  onward-unchanged s e os (finished s') (inl t) again again' f = absurd t
  onward-unchanged s e os (refused r ts s') (inl t) again again' f = inl t
  onward-unchanged s e os (finished s') (inr q) again again' f =
      elim (f os s') [
        | inl t ↦ inl (long-add (step s e os (finished s')) (again os s') t)
        | inr g ↦ inr (rw q (ap (add_step (step s e os (finished s'))) g))
      ]
  onward-unchanged s e os (refused r ts s') (inr q) again again' f = inr (rw q refl)

  -- RAISE-RUN: under any limits, from any state and any levels
  pub raise-run : (c : ℕ) (v : Levels) (s : State) → LongEnd (end (run_from L E c v s)) ⊎ (run_from raised_limits E c v s ≡ run_from L E c v s)
  unfolding run_from
  raise-run zero v (state [] σ n) = inr refl
  raise-run zero v (state (e ∷ Γ) σ n) = inr refl
  raise-run (suc c) v (state [] σ n) = inr refl
  raise-run (suc c) v (state (e ∷ Γ) σ n) =
      onward-unchanged (state (e ∷ Γ) σ n) e (operations (L v) (rule E e) Γ σ n) (perform (L v) (rule E e) Γ σ n)
      {d' = paired (operations (raised_limits v) (rule E e) Γ σ n) (perform (raised_limits v) (rule E e) Γ σ n)} (raised (L v) u (higher v) (rule E e) Γ σ n)
      (λ os s. run_from L E c (levels_after os v) s) (λ os s. run_from raised_limits E c (levels_after os v) s) (λ os s. raise-run c (levels_after os v) s)

-- ---- a plan
long-number : (e : End) → LongEnd e → end_number e ≡ 23
long-number accepted h = elim h [ ]
long-number ceiling h = elim h [ ]
long-number (refused_by r ts) h = ap error_number h

long-result : (plain : Bool) (v : Levels) (R : Run) → LongEnd (end R) → (result_of plain v R).answer.number ≡ 23
unfolding result_of
long-result plain v (run ss e (state Γ σ n)) h = long-number e h

-- RAISE-LIMIT: for every plan and ceiling, by either call; answer, solutions and reported types are the same
pub raise-limit : (m : Mode) (w w' c : ℕ) (ls : List Triple) → w ≤ w' → (judge (limits_for m w) c ls).answer.number ≢ 23 → judge (limits_for m w') c ls ≡ judge (limits_for m w) c ls
unfolding judge run_of check_type
raise-limit m w w' c ls h not23 =
    let p = plan_of ls in
    elim (raise-run (limits_for m w) (up_to w') (λ v k e. le-leb k w' (omega (arith, leb-true k w e))) (env_of p) c own_levels (start_with p.term p.expected)) [
      | inl t ↦ absurd (not23 (long-result p.plain own_levels (run_from (limits_for m w) (env_of p) c own_levels (start_with p.term p.expected)) t))
      | inr e ↦ ap (result_of p.plain own_levels) e
    ]
