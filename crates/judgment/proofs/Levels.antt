-- Levels along a run: no unknown's level is above its number (`level-small`), and a number that is not made yet has its own (`level-own`).
-- Assumes nothing.
use Rattle.std.specs.Prelude.{Ok}
use Prim.Native.Nat.{ℕ, zero, suc, ◌+◌, ◌≤◌}
use native.Mathlib.Nat.{le_refl}
use native.Mathlib.Omega.{arith}
use mathlib.Core.Path.{◌≡◌, refl, subst, subst⁻¹}
use mathlib.Core.Bool.{Bool, true, false, cond, ◌||◌}
use mathlib.Core.List.{List, [], ◌∷◌, ◌++◌, append-nil}
use lib.Dec.{eqb, ltb}
use lib.ListN.{length}
use borrow.Author.Tests.{ltb-true}
use Rattle.nodes.specs.Nodes.{Ty}
use Rattle.nodes.specs.Lists.{All}
use Rattle.nodes.proofs.ListLaws.{cond_ind, all_split}
use Rattle.grammar.specs.Check.{check}
use Rattle.sheet.specs.Plan.{triples, plan_of}
use Rattle.judgment.specs.declared.TypeError.TheVariants.{TypeUnificationError, SolutionsFull, OutOfScope}
use Rattle.judgment.specs.Types.{is_node, occurs}
use Rattle.judgment.specs.Solutions.{◌≔◌, Solutions, write_out, solution_nodes}
use Rattle.judgment.specs.Board.{below, within, Entry, chk, Board, Limits, Origin, own, universal, splits, Rule, done, refuse, fresh, push, solve, zonk, look, Operation, made, pushed, gave, met, State, state, Outcome, finished, refused, room_for, solving, perform, operations}
use Rattle.judgment.specs.Levels.{Levels, own_levels, put, at_most, lower, level_made, level_after, levels_after}
use Rattle.judgment.specs.Chain.{counter_of}
use Rattle.judgment.specs.Rules.{Env, rule}
use Rattle.judgment.specs.Run.{step, Run, run, steps, events, add_step, onward, run_from, check_type}
use Rattle.judgment.specs.Result.{env_of, run_of, result_of, judge}
use Rattle.judgment.proofs.LevelLaws.{levels-append}
use Rattle.judgment.proofs.TypeLaws.{eqb-true, is_node-true}
use Rattle.judgment.proofs.SolutionLaws.{find_none}
use Rattle.judgment.proofs.Invariant.{Earlier, Good, Kept, perform_kept}
use Rattle.judgment.specs.Good.{OK, Inv}
use Rattle.judgment.proofs.Events.{Orderly, run-orderly}
use Rattle.judgment.proofs.RuleLaws.{EnvOK, Explains, rule-good}
use Rattle.judgment.proofs.Plans.{plan-env, plan-inv, sheet-plan}

-- ---- levels that are no larger than their numbers
abbrev pub Small : Levels → Type 0
Small v = (k : ℕ) → v k ≤ k

at-most : (b : Bool) (m l k : ℕ) → l ≤ k → at_most b m l ≤ k
at-most true m l k h = cond_ind (λ (x : ℕ). x ≤ k) (ltb m l) (λ e. (let z = ltb-true m l e in omega arith)) (λ _. h)
at-most false m l k h = h

small_put : (n m : ℕ) (v : Levels) → m ≤ n → Small v → Small (put n m v)
unfolding put
small_put n m v l h k = cond_ind (λ (x : ℕ). x ≤ k) (eqb k n) (λ e. (let z = eqb-true k n e in omega arith)) (λ _. h k)

small-made : (o : Origin) (n : ℕ) (v : Levels) → Earlier n o → Small v → Small (level_made o n v)
unfolding level_made
small-made own n v l h = h
small-made universal n v l h = small_put n 0 v (omega arith) h
small-made (splits j) n v l h = small_put n (v j) v (let z = h j in omega arith) h

small-after : (o : Operation) (v : Levels) → Orderly o → Small v → Small (level_after o v)
unfolding level_after lower
small-after (made o n) v l h = small-made o n v l h
small-after (pushed e) v l h = h
small-after (gave j s) v l h = λ k. at-most (occurs k s) (v j) (v k) k (h k)
small-after (met j) v l h = h

pub all_small : (os : List Operation) (v : Levels) → All Orderly os → Small v → Small (levels_after os v)
unfolding levels_after
all_small [] v l h = h
all_small (o ∷ os) v l h = all_small os (level_after o v) l.1 (small-after o v l.0 h)

-- ---- a run
-- after each operation of a run, of any good start with such levels
pub start_small : (Plain : Type 0) (L : Levels → Limits) (E : Env) → EnvOK Plain E → (c : ℕ) (v : Levels) (Γ : Board) (σ : Solutions) (n : ℕ) → Inv Plain Γ σ n → Small v
    → (os ps : List Operation) → events (steps (run_from L E c v (state Γ σ n))) ≡ os ++ ps → Small (levels_after os v)
start_small Plain L E hE c v Γ σ n i h os ps e =
    all_small os v (all_split Orderly os ps (subst (All Orderly) e (run-orderly L E Plain hE c v Γ σ n i))).0 h

-- LEVELS: of every sheet that passes refusals 3 to 5, under any limits and every ceiling, after each operation of the run
pub level-small : (L : Levels → Limits) (s : List ℕ) (c : ℕ) → check s ≡ Ok tt → (os ps : List Operation) → events (steps (run_of L c (plan_of (triples s)))) ≡ os ++ ps
    → (k : ℕ) → levels_after os own_levels k ≤ k
unfolding run_of check_type
level-small L s c q os ps e =
    let p = plan_of (triples s) in
    let g = sheet-plan s q in
    start_small ⊥ L (env_of p) (plan-env p g) c own_levels (chk p.term p.expected ∷ []) [] 0 (plan-inv p g) (λ k. le_refl k) os ps e

---------------------------------------------------------------- numbers that are not made yet
-- from n on every number has its own for its level
abbrev pub OwnFrom : ℕ → Levels → Type 0
OwnFrom n v = (k : ℕ) → n ≤ k → v k ≡ k

own_put : (n m : ℕ) (v : Levels) → OwnFrom n v → OwnFrom (suc n) (put n m v)
unfolding put
own_put n m v h k l = cond_ind (λ (x : ℕ). x ≡ k) (eqb k n) (λ e. absurd (let z = eqb-true k n e in omega arith)) (λ _. h k (omega arith))

own-made : (o : Origin) (n : ℕ) (v : Levels) → OwnFrom n v → OwnFrom (suc n) (level_made o n v)
unfolding level_made
own-made own n v h = λ k l. h k (omega arith)
own-made universal n v h = own_put n 0 v h
own-made (splits j) n v h = own_put n (v j) v h

-- what a rule did and came to
record Unmade (v : Levels) (os : List Operation) (o : Outcome) : Type 0 where
  own-left : OwnFrom (counter_of o) (levels_after os v)

unmade-either : {v : Levels} (b : Bool) {os ps : List Operation} {o q : Outcome} → Unmade v os o → Unmade v ps q → Unmade v (cond b os ps) (cond b o q)
unmade-either true f g = f
unmade-either false f g = g

unmade-none : {v : Levels} (o : Outcome) → OwnFrom (counter_of o) v → Unmade v [] o
unfolding levels_after
unmade-none o h = record { own-left = h }

unmade-more : {v : Levels} (x : Operation) {os : List Operation} {o : Outcome} → Unmade (level_after x v) os o → Unmade v (x ∷ os) o
unfolding levels_after
unmade-more x u = record { own-left = u.own-left }

module _ (Plain : Type 0) where
  not_in : (n k : ℕ) (s : Ty) → All (OK Plain n) s → n ≤ k → occurs k s ≡ false
  unfolding occurs
  not_in n k [] h l = refl
  not_in n k (x ∷ s) h l = go (is_node 17 k x) refl (not_in n k s h.1 l)
    where
      go : (b : Bool) → is_node 17 k x ≡ b → occurs k s ≡ false → (b || occurs k s) ≡ false
      go true e f = absurd (let z = (subst (OK Plain n) (is_node-true 17 k x e) h.0).0 refl in omega arith)
      go false e f = f

  own-lower : (n m : ℕ) (s : Ty) (v : Levels) → All (OK Plain n) s → OwnFrom n v → OwnFrom n (lower m s v)
  unfolding lower
  own-lower n m s v a h k l = rw (not_in n k s a l) (h k l)

  rule-unmade : (L : Limits) (Q : Board → Solutions → ℕ → Type 0) (p : Rule) (Γ : Board) (σ : Solutions) (n : ℕ) (v : Levels) → Good Plain p Γ σ n Q → OwnFrom n v
      → Unmade v (operations L p Γ σ n) (perform L p Γ σ n)
  unfolding operations perform level_after
  rule-unmade L Q done Γ σ n v g h = unmade-none _ h
  rule-unmade L Q (refuse r ts) Γ σ n v g h = unmade-none _ h
  rule-unmade L Q (fresh o f) Γ σ n v g h =
      unmade-either (below n L.numbers) (unmade-more (made o n) (rule-unmade L Q (f n) Γ σ (suc n) (level_made o n v) g.1 (own-made o n v h))) (unmade-none _ h)
  rule-unmade L Q (push e p) Γ σ n v g h = unmade-either (room_for L e Γ) (unmade-more (pushed e) (rule-unmade L Q p (e ∷ Γ) σ n v g.1 h)) (unmade-none _ h)
  rule-unmade L Q (solve k s p) Γ σ n v g h =
      subst⁻¹ (λ o. Unmade v
      (solving o s
      (cond (L.scope k s) (cond (within (solution_nodes σ + length s) L.solved) (gave k s ∷ operations L p Γ (σ ++ (◌≔◌ k s ∷ [])) n) []) [])
      (met k ∷ operations L p Γ σ n)
      (met k ∷ []))
      (solving o s
      (cond (L.scope k s)
      (cond (within (solution_nodes σ + length s) L.solved) (perform L p Γ (σ ++ (◌≔◌ k s ∷ [])) n) (refused SolutionsFull [] (state Γ σ n)))
      (refused OutOfScope [] (state Γ σ n)))
      (perform L p Γ σ n)
      (refused TypeUnificationError [] (state Γ σ n))))
      (find_none σ k g.0.unsolved)
      (unmade-either (L.scope k s)
      (unmade-either (within (solution_nodes σ + length s) L.solved)
      (unmade-more (gave k s) (rule-unmade L Q p Γ (σ ++ (◌≔◌ k s ∷ [])) n (lower (v k) s v) g.1 (own-lower n (v k) s v g.0.ok h)))
      (unmade-none _ h))
      (unmade-none _ h))
  rule-unmade L Q (zonk t f) Γ σ n v g h = unmade-either (within (length (write_out σ t)) L.written) (rule-unmade L Q (f (write_out σ t)) Γ σ n v g h) (unmade-none _ h)
  rule-unmade L Q (look f) Γ σ n v g h = rule-unmade L Q (f Γ) Γ σ n v g h

  abbrev RunUnmade : Levels → Run → Type 0
  RunUnmade v (run ss d (state Γ σ n)) = OwnFrom n (levels_after (events ss) v)

  step-unmade : (s : State) (e : Entry) (os : List Operation) (o : Outcome) (v : Levels) (R : Run) → RunUnmade (levels_after os v) R → RunUnmade v (add_step (step s e os o) R)
  step-unmade s e os o v (run ss d (state Γ σ n)) h = subst⁻¹ (OwnFrom n) (levels-append os (events ss) v) h

  module _ (L : Levels → Limits) (E : Env) (hE : EnvOK Plain E) where
    onward-unmade : (s : State) (e : Entry) (os : List Operation) (o : Outcome) (Q : Board → Solutions → ℕ → Type 0) (v : Levels) (again : State → Run) → Unmade v os o → Kept Plain Q o
        → ((Γ₁ : Board) (σ₁ : Solutions) (n₁ : ℕ) → Inv Plain Γ₁ σ₁ n₁ → OwnFrom n₁ (levels_after os v) → RunUnmade (levels_after os v) (again (state Γ₁ σ₁ n₁)))
        → RunUnmade v (onward L E s e os o again)
    onward-unmade s e os (finished (state Γ₁ σ₁ n₁)) Q v again u k f = step-unmade s e os _ v (again (state Γ₁ σ₁ n₁)) (f Γ₁ σ₁ n₁ k.0 u.own-left)
    onward-unmade s e os (refused r ts (state Γ₁ σ₁ n₁)) Q v again u k f = subst⁻¹ (λ (l : List Operation). OwnFrom n₁ (levels_after l v)) (append-nil os) u.own-left

    pub run-unmade : (c : ℕ) (v : Levels) (Γ : Board) (σ : Solutions) (n : ℕ) → Inv Plain Γ σ n → OwnFrom n v → RunUnmade v (run_from L E c v (state Γ σ n))
    unfolding run_from levels_after
    run-unmade zero v [] σ n i h = h
    run-unmade zero v (e ∷ Γ) σ n i h = h
    run-unmade (suc c) v [] σ n i h = h
    run-unmade (suc c) v (e ∷ Γ) σ n i h =
        let j : Inv Plain Γ σ n = record { entries = i.entries.1; fine = i.fine; solutions = i.solutions } in
        let g = rule-good Plain E hE Γ σ n j e i.entries.0 in
        let os : List Operation = operations (L v) (rule E e) Γ σ n in
        onward-unmade (state (e ∷ Γ) σ n) e os (perform (L v) (rule E e) Γ σ n) (Explains Plain σ e) v (λ s. run_from L E c (levels_after os v) s)
        (rule-unmade (L v) (Explains Plain σ e) (rule E e) Γ σ n v g h)
        (perform_kept Plain (L v) (Explains Plain σ e) (rule E e) Γ σ n j g)
        (λ Γ₁ σ₁ n₁ i₁ h₁. run-unmade c (levels_after os v) Γ₁ σ₁ n₁ i₁ h₁)

result_own : (Plain : Type 0) (plain : Bool) (v : Levels) (R : Run) → RunUnmade Plain v R → OwnFrom (result_of plain v R).answer.fresh (result_of plain v R).levels
unfolding result_of
result_own Plain plain v (run ss d (state Γ σ n)) h = h

-- a number from the counter on has its own level
pub level-own : (L : Levels → Limits) (s : List ℕ) (c : ℕ) → check s ≡ Ok tt → (k : ℕ) → (judge L c (triples s)).answer.fresh ≤ k → (judge L c (triples s)).levels k ≡ k
unfolding judge run_of check_type
level-own L s c q =
    let p = plan_of (triples s) in
    let g = sheet-plan s q in
    result_own ⊥ p.plain own_levels _
    (run-unmade ⊥ L (env_of p) (plan-env p g) c own_levels (chk p.term p.expected ∷ []) [] 0 (plan-inv p g) (λ k l. refl))
