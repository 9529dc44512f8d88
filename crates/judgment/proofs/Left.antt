-- What is left of a run, from any of its states: a step takes it on (`left-turn`), and where no more is taken it is the end (`left-empty`, `left_cut`). Assumes nothing.
use mathlib.Core.Path.{◌≡◌, refl, sym, ap, ap₂, ◌∙◌}
use mathlib.Core.List.{List, [], ◌∷◌, append-nil}
use Prim.Native.Nat.{ℕ, zero, suc, ◌+◌, ◌-◌, ◌≤◌, ◌<◌}
use native.Mathlib.Nat.{add-zero}
use native.Mathlib.Omega.{arith}
use lib.ListN.{length}
use Rattle.judgment.specs.Solutions.{Solutions}
use Rattle.judgment.specs.Board.{Entry, Board, Limits, Operation, State, state, Outcome, finished, refused, perform, operations}
use Rattle.judgment.specs.Levels.{Levels, levels_after}
use Rattle.judgment.specs.Rules.{Env, rule}
use Rattle.judgment.specs.Run.{step, accepted, ceiling, refused_by, Run, run, events, add_step, onward, run_from}
use Rattle.judgment.specs.Chain.{step_o, step_l, Told, told}
use Rattle.judgment.proofs.LevelLaws.{levels-append}

module _ (L : Levels → Limits) (E : Env) (C : ℕ) where
  -- what is left of a run with ceiling C, m entries having been taken and v being the levels
  abbrev pub left_of : ℕ → Levels → Outcome → Told
  left_of m v (finished s) = told m v (run_from L E (C - m) v s)
  left_of m v (refused r ts s) = record { end = refused_by r ts; taken = m; last = s; levels = v }

  add-told : (m : ℕ) (v : Levels) (s : State) (e : Entry) (os : List Operation) (o : Outcome) (R : Run) → told (m + 1) (levels_after os v) R ≡ told m v (add_step (step s e os o) R)
  add-told m v s e os o (run ss d t) =
      let z : m + 1 + length ss ≡ m + suc (length ss) = omega arith in
      ap₂ (λ (n : ℕ) (l : Levels). record { end = d; taken = n; last = t; levels = l }) z (sym (levels-append os (events ss) v))

  onward-told : (m c : ℕ) → C - (m + 1) ≡ c → (v : Levels) (s : State) (e : Entry) (os : List Operation) (o : Outcome)
      → left_of (m + 1) (levels_after os v) o ≡ told m v (onward L E s e os o (λ x. run_from L E c (levels_after os v) x))
  onward-told m c z v s e os (finished s') =
      ap (λ (n : ℕ). told (m + 1) (levels_after os v) (run_from L E n (levels_after os v) s')) z ∙ add-told m v s e os (finished s') (run_from L E c (levels_after os v) s')
  onward-told m c z v s e os (refused r ts s') =
      ap (λ (ps : List Operation). record { end = refused_by r ts; taken = m + 1; last = s'; levels = levels_after ps v }) (sym (append-nil os))

  pub left-turn : (m : ℕ) → m < C → (v : Levels) (e : Entry) (Γ : Board) (σ : Solutions) (n : ℕ)
      → left_of (m + 1) (step_l (L v) E (finished (state (e ∷ Γ) σ n)) v) (step_o (L v) E (finished (state (e ∷ Γ) σ n))) ≡ left_of m v (finished (state (e ∷ Γ) σ n))
  unfolding run_from
  left-turn m h v e Γ σ n =
      let z : suc (C - (m + 1)) ≡ C - m = omega arith in
      onward-told m (C - (m + 1)) refl v (state (e ∷ Γ) σ n) e (operations (L v) (rule E e) Γ σ n) (perform (L v) (rule E e) Γ σ n)
      ∙ ap (λ (c : ℕ). told m v (run_from L E c v (state (e ∷ Γ) σ n))) z

  pub left-empty : (m : ℕ) (v : Levels) (σ : Solutions) (n : ℕ) → left_of m v (finished (state [] σ n)) ≡ record { end = accepted; taken = m; last = state [] σ n; levels = v }
  unfolding run_from levels_after
  left-empty m v σ n = go (C - m)
    where
      go : (c : ℕ) → told m v (run_from L E c v (state [] σ n)) ≡ record { end = accepted; taken = m; last = state [] σ n; levels = v }
      go zero = ap (λ (k : ℕ). record { end = accepted; taken = k; last = state [] σ n; levels = v }) (add-zero m)
      go (suc c) = ap (λ (k : ℕ). record { end = accepted; taken = k; last = state [] σ n; levels = v }) (add-zero m)

  pub left_cut : (m : ℕ) → C ≤ m → (v : Levels) (e : Entry) (Γ : Board) (σ : Solutions) (n : ℕ)
      → left_of m v (finished (state (e ∷ Γ) σ n)) ≡ record { end = ceiling; taken = m; last = state (e ∷ Γ) σ n; levels = v }
  unfolding run_from levels_after
  left_cut m h v e Γ σ n =
      let z : C - m ≡ 0 = omega arith in
      ap (λ (c : ℕ). told m v (run_from L E c v (state (e ∷ Γ) σ n))) z ∙ ap (λ (k : ℕ). record { end = ceiling; taken = k; last = state (e ∷ Γ) σ n; levels = v }) (add-zero m)
