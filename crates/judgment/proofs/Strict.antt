-- The strict call beside the first: but for 39 they give the same (`strict_same`, `strict-call`), the strict one accepts only what the first accepts
-- (`strict-accepts`), and the first never gives 39 (`never-39`). Assumes nothing.
use Rattle.grammar.specs.declared.SheetError.TheVariants.{Length, Misspelt, Unfit}
use Rattle.grammar.specs.declared.SheetError.{SheetError}
use Rattle.std.specs.Prelude.{Option, None, Some, Result, Ok, Err}
use Prim.Native.Nat.{ℕ, zero, suc, ◌+◌}
use native.Mathlib.Omega.{arith}
use mathlib.Core.Path.{◌≡◌, refl, sym, ◌∙◌, ap}
use mathlib.Core.Logic.{◌≢◌}
use mathlib.Core.Bool.{Bool, true, false, cond}
use mathlib.Core.List.{List, [], ◌∷◌, ◌++◌}
use lib.Dec.{ltb}
use lib.ListN.{length}
use Rattle.sizes.specs.Sizes.{highest_ceiling}
use Rattle.nodes.specs.Nodes.{Ty}
use Rattle.nodes.proofs.ListLaws.{cond_ind}
use Rattle.spelling.specs.declared.Triple.{Triple}
use Rattle.grammar.specs.Check.{check}
use Rattle.sheet.specs.Plan.{triples, plan_of}
use Rattle.judgment.specs.declared.TypeError.{TypeError}
use Rattle.judgment.specs.declared.TypeError.TheVariants.{UnboundVariable, UnboundDataConstructor, NotAFunction, ArityMismatch, SubtypingError, TypeUnificationError, InstantiationError, IntrinsicArityMismatch, UnknownIntrinsic, BoardFull, TypeTooLong, NoFreshNumber, SolutionsFull, OutOfScope}
use Rattle.judgment.specs.Types.{can_unify}
use Rattle.judgment.specs.Solutions.{◌≔◌, Solutions, find, write_out, solution_nodes}
use Rattle.judgment.specs.Board.{below, within, Entry, Board, Limits, Rule, done, refuse, fresh, push, solve, zonk, look, Operation, State, state, Outcome, finished, refused, solving, room_for, perform, operations}
use Rattle.judgment.specs.Levels.{Levels, own_levels, levels_after, first_call, strict_call}
use Rattle.judgment.specs.Rules.{Env, rule}
use Rattle.judgment.specs.Run.{Step, step, End, accepted, ceiling, refused_by, Run, run, end, add_step, onward, run_from, check_type}
use Rattle.judgment.specs.Result.{error_number, end_number, Judged, env_of, run_of, result_of, judge, limits_for, Buffers, Called, refused_at, written, by_check, limit_bad, too_short, call}
use Rattle.judgment.proofs.OtherOrders.{Order, Reorders, same}
use Rattle.judgment.proofs.Alike.{NotScope, InScope}
use Rattle.judgment.proofs.AnyOrder.{rule-parallel}
use Rattle.judgment.proofs.Promised.{number_of}

---------------------------------------------------------------- one rule
-- what a rule did and came to, beside what it does and comes to where every solution is in scope
pub data Beside : List Operation → Outcome → List Operation → Outcome → Type 0 where
  agreed : {os : List Operation} {o : Outcome} → Beside os o os o
  out : {os ps : List Operation} {s : State} {q : Outcome} → Beside os (refused OutOfScope [] s) ps q

more : (x : Operation) {os ps : List Operation} {o q : Outcome} → Beside os o ps q → Beside (x ∷ os) o (x ∷ ps) q
more x agreed = agreed
more x out = out

either : (b : Bool) {os ps os' ps' : List Operation} {o q o' q' : Outcome} → Beside os o os' o' → Beside ps q ps' q'
    → Beside (cond b os ps) (cond b o q) (cond b os' ps') (cond b o' q')
either true f g = f
either false f g = g

in_scope : (b : Bool) (s : State) {os ps : List Operation} {o q : Outcome} → Beside os o ps q → Beside (cond b os []) (cond b o (refused OutOfScope [] s)) ps q
in_scope true s f = f
in_scope false s f = out

solves : (f : Option Ty) (t : Ty) {a b c a' b' c' : List Operation} {x y z x' y' z' : Outcome} → Beside a x a' x' → Beside b y b' y' → Beside c z c' z'
    → Beside (solving f t a b c) (solving f t x y z) (solving f t a' b' c') (solving f t x' y' z')
solves None t f g h = f
solves (Some u) t f g h = either (can_unify t u) g h

-- the same limits where every solution is in scope
abbrev pub in_all : Limits → Limits
in_all L = record { entries = L.entries; nodes = L.nodes; written = L.written; numbers = L.numbers; solved = L.solved; scope = λ k s. true }

module _ (L : Limits) where
  pub rule-beside : (p : Rule) (Γ : Board) (σ : Solutions) (n : ℕ) → Beside (operations L p Γ σ n) (perform L p Γ σ n) (operations (in_all L) p Γ σ n) (perform (in_all L) p Γ σ n)
  unfolding perform operations
  rule-beside done Γ σ n = agreed
  rule-beside (refuse r ts) Γ σ n = agreed
  rule-beside (fresh g f) Γ σ n = either (below n L.numbers) (more _ (rule-beside (f n) Γ σ (suc n))) agreed
  rule-beside (push e p) Γ σ n = either (room_for L e Γ) (more _ (rule-beside p (e ∷ Γ) σ n)) agreed
  rule-beside (solve k s p) Γ σ n =
      solves (find k σ) s
      (in_scope (L.scope k s) (state Γ σ n) (either (within (solution_nodes σ + length s) L.solved) (more _ (rule-beside p Γ (σ ++ (◌≔◌ k s ∷ [])) n)) agreed))
      (more _ (rule-beside p Γ σ n))
      agreed
  rule-beside (zonk t f) Γ σ n = either (within (length (write_out σ t)) L.written) (rule-beside (f (write_out σ t)) Γ σ n) agreed
  rule-beside (look f) Γ σ n = rule-beside (f Γ) Γ σ n

---------------------------------------------------------------- a run
pub data RunBeside : Run → Run → Type 0 where
  unchanged : {R : Run} → RunBeside R R
  stopped : {ss : List Step} {s : State} {R : Run} → RunBeside (run ss (refused_by OutOfScope []) s) R

step-beside : (t : Step) {R S : Run} → RunBeside R S → RunBeside (add_step t R) (add_step t S)
step-beside t unchanged = unchanged
step-beside t stopped = stopped

module _ (L : Levels → Limits) (E : Env) where
  abbrev unscoped : Levels → Limits
  unscoped v = in_all (L v)

  onward-beside : (s : State) (e : Entry) {os ps : List Operation} {o q : Outcome} (f g : List Operation → State → Run) → Beside os o ps q
      → ((os : List Operation) (s : State) → RunBeside (f os s) (g os s)) → RunBeside (onward L E s e os o (f os)) (onward unscoped E s e ps q (g ps))
  onward-beside s e f g (agreed {os} {o}) k = by o
    where
      by : (o : Outcome) → RunBeside (onward L E s e os o (f os)) (onward unscoped E s e os o (g os))
      by (finished s') = step-beside (step s e os (finished s')) (k os s')
      by (refused r ts s') = unchanged
  onward-beside s e f g out k = stopped

  pub run-beside : (c : ℕ) (v : Levels) (s : State) → RunBeside (run_from L E c v s) (run_from unscoped E c v s)
  unfolding run_from
  run-beside zero v (state [] σ n) = unchanged
  run-beside zero v (state (e ∷ Γ) σ n) = unchanged
  run-beside (suc c) v (state [] σ n) = unchanged
  run-beside (suc c) v (state (e ∷ Γ) σ n) =
      onward-beside (state (e ∷ Γ) σ n) e (λ os s. run_from L E c (levels_after os v) s) (λ os s. run_from unscoped E c (levels_after os v) s)
      (rule-beside (L v) (rule E e) Γ σ n) (λ os s. run-beside c (levels_after os v) s)

-- ---- results
beside-result : (plain : Bool) (v : Levels) {R S : Run} → RunBeside R S → (result_of plain v R).answer.number ≢ 39 → result_of plain v R ≡ result_of plain v S
beside-result plain v unchanged h = refl
beside-result plain v (stopped {ss} {s}) h = absurd (h (number_of plain v (run ss (refused_by OutOfScope []) s)))

-- STRICT, THE SAME: for all lines, every write-out limit and every ceiling, what the strict call gives is what the first gives, if it is not 39
pub strict_same : (w c : ℕ) (ls : List Triple) → (judge (limits_for strict_call w) c ls).answer.number ≢ 39 → judge (limits_for strict_call w) c ls ≡ judge (limits_for first_call w) c ls
unfolding judge run_of check_type
strict_same w c ls h = beside-result (plan_of ls).plain own_levels (run-beside (limits_for strict_call w) (env_of (plan_of ls)) c own_levels _) h

-- the strict call accepts only what the first accepts
pub strict-accepts : (w c : ℕ) (ls : List Triple) → (judge (limits_for strict_call w) c ls).answer.number ≡ 0 → (judge (limits_for first_call w) c ls).answer.number ≡ 0
strict-accepts w c ls h = ap (λ (r : Judged). r.answer.number) (sym (strict_same w c ls (λ e. absurd (let z = sym h ∙ e in omega arith)))) ∙ h

-- ---- whole calls, with what they leave in the buffers
module _ (s : List ℕ) (c w : ℕ) (b : Buffers) where
  check-same : (k : (Result Unit SheetError)) → (by_check strict_call s c w b k).answer.number ≢ 39 → by_check strict_call s c w b k ≡ by_check first_call s c w b k
  check-same (Ok _) h = ap (written w b) (strict_same w c (triples s) h)
  check-same (Err e) h = refl

  -- STRICT-CALL: for all bytes, every ceiling, every limit and any buffers
  pub strict-call : (call strict_call s c w b).answer.number ≢ 39 → call strict_call s c w b ≡ call first_call s c w b
  unfolding call
  strict-call h = by (ltb highest_ceiling c) (limit_bad w) (too_short w b) h
    where
      refusals : Bool → Bool → Bool → Called → Called
      refusals x y z k = cond x (record { answer = refused_at 1 0; after = b }) (cond y (record { answer = refused_at 32 0; after = b }) (cond z (record { answer = refused_at 2 0; after = b }) k))

      by : (x y z : Bool) → (refusals x y z (by_check strict_call s c w b (check s))).answer.number ≢ 39
          → refusals x y z (by_check strict_call s c w b (check s)) ≡ refusals x y z (by_check first_call s c w b (check s))
      by true y z h = refl
      by false true z h = refl
      by false false true h = refl
      by false false false h = check-same (check s) h

---------------------------------------------------------------- the first call
-- the ends that are no OutOfScope
abbrev EndIn : End → Type 0
EndIn accepted = Unit {0}
EndIn ceiling = Unit {0}
EndIn (refused_by r ts) = NotScope r

abbrev keep : Order
keep n s bs = bs

keeps : Reorders keep
keeps n s bs d = same

add-in : (t : Step) (R : Run) → EndIn (end R) → EndIn (end (add_step t R))
add-in t (run ss d s) h = h

module _ (w : ℕ) (E : Env) where
  onward-in : (s : State) (e : Entry) (os : List Operation) (o : Outcome) (again : State → Run) → InScope o → ((s : State) → EndIn (end (again s)))
      → EndIn (end (onward (limits_for first_call w) E s e os o again))
  onward-in s e os (finished s') again i k = add-in (step s e os (finished s')) (again s') (k s')
  onward-in s e os (refused r ts s') again i k = i

  run_in : (c : ℕ) (v : Levels) (s : State) → EndIn (end (run_from (limits_for first_call w) E c v s))
  unfolding run_from
  run_in zero v (state [] σ n) = tt
  run_in zero v (state (e ∷ Γ) σ n) = tt
  run_in (suc c) v (state [] σ n) = tt
  run_in (suc c) v (state (e ∷ Γ) σ n) =
      let os : List Operation = operations (limits_for first_call w v) (rule E e) Γ σ n in
      onward-in (state (e ∷ Γ) σ n) e os (perform (limits_for first_call w v) (rule E e) Γ σ n) (λ s. run_from (limits_for first_call w) E c (levels_after os v) s)
      ((rule-parallel (limits_for first_call w v) E keep keeps e).scope (λ k s. refl) Γ σ n) (λ s. run_in c (levels_after os v) s)

not-39 : (r : TypeError) → NotScope r → error_number r ≢ 39
not-39 (UnboundVariable x) h = omega arith
not-39 (UnboundDataConstructor x) h = omega arith
not-39 (NotAFunction n) h = omega arith
not-39 (ArityMismatch e a) h = omega arith
not-39 (SubtypingError l r) h = omega arith
not-39 TypeUnificationError h = omega arith
not-39 (InstantiationError k n) h = omega arith
not-39 (IntrinsicArityMismatch a) h = omega arith
not-39 (UnknownIntrinsic x) h = omega arith
not-39 BoardFull h = omega arith
not-39 TypeTooLong h = omega arith
not-39 NoFreshNumber h = omega arith
not-39 SolutionsFull h = omega arith
not-39 OutOfScope h = absurd h

end-not-39 : (d : End) → EndIn d → end_number d ≢ 39
end-not-39 accepted h = omega arith
end-not-39 ceiling h = omega arith
end-not-39 (refused_by r ts) h = not-39 r h

-- the first call never gives 39
pub never-39 : (w c : ℕ) (ls : List Triple) → (judge (limits_for first_call w) c ls).answer.number ≢ 39
unfolding judge run_of check_type
never-39 w c ls e =
    let p = plan_of ls in
    let R : Run = run_from (limits_for first_call w) (env_of p) c own_levels _ in
    end-not-39 (end R) (run_in w (env_of p) c own_levels _) (sym (number_of p.plain own_levels R) ∙ e)

module _ (s : List ℕ) (c w : ℕ) (b : Buffers) where
  check-never : (k : (Result Unit SheetError)) → (by_check first_call s c w b k).answer.number ≢ 39
  check-never (Ok _) = never-39 w c (triples s)
  check-never (Err Length) = omega arith
  check-never (Err (Misspelt l)) = omega arith
  check-never (Err (Unfit l)) = omega arith

  pub call-never-39 : (call first_call s c w b).answer.number ≢ 39
  unfolding call
  call-never-39 =
      let N : Called → Type 0 = λ k. k.answer.number ≢ 39 in
      cond_ind N (ltb highest_ceiling c) (λ _. omega arith)
      (λ _. cond_ind N (limit_bad w) (λ _. omega arith) (λ _. cond_ind N (too_short w b) (λ _. omega arith) (λ _. check-never (check s))))
