-- Steps to the end of a run: what is left from here is the whole. Assumes nothing.
use Rattle.operations.proofs.Latch.{not-halted, halted}
use mathlib.Core.Path.{◌≡◌, refl, sym, ap, ap₂, ◌∙◌}
use mathlib.Core.Bool.{Bool, true, false, ◌&&◌, and-eq-true_iff}
use mathlib.Core.List.{List}
use Prim.Native.Nat.{ℕ, zero, suc, ◌+◌, ◌-◌, ◌≤◌, ◌<◌}
use native.Mathlib.Nat.{not-suc-le-zero}
use native.Mathlib.Omega.{arith}
use lib.Dec.{ltb}
use borrow.Author.Tests.{ltb-true, ltb-false}
use Rattle.spelling.specs.declared.Triple.{Triple}
use Rattle.sheet.specs.Rows.{rows}
use Rattle.judgment.specs.Solutions.{Solutions}
use Rattle.judgment.specs.Board.{Limits, state, Outcome, finished}
use Rattle.judgment.specs.Levels.{Levels}
use Rattle.judgment.specs.Rules.{Env}
use Rattle.judgment.specs.Run.{run_from}
use Rattle.judgment.specs.Chain.{step_o, step_l, Told, told}
use Rattle.judgment.specs.Result.{limits_for}
use Rattle.judgment.proofs.Left.{left_of, left-turn, left-empty, left_cut}
use Rattle.board.specs.Board.{entry_at, entries_of}
use Rattle.book.specs.Book.{sols, levels_of}
use Rattle.operations.specs.declared.Halt.{Halt}
use Rattle.operations.specs.declared.Run.{Run}
use Rattle.operations.specs.State.{refusal_of, outcome_by, outcome_of, state_of, going, mode_of}
use Rattle.applying.specs.Applying.{env_on}
use Rattle.stepping.specs.Rooms.{Room}
use Rattle.stepping.specs.Stepping.{Standing, Stepping}
use Rattle.ending.specs.Ending.{takes_more, end_at, end_by, end_of}

-- ---- in words
module _ (L : Levels → Limits) (E : Env) (C : ℕ) where
  turn-entries : (ls : List Triple) (b : List ℕ) (i : ℕ) → 0 < i → (m : ℕ) → m < C → (v : Levels) (σ : Solutions) (n : ℕ)
      → left_of L E C (m + 1) (step_l (L v) E (finished (state (entries_of ls b i) σ n)) v) (step_o (L v) E (finished (state (entries_of ls b i) σ n))) ≡ left_of L E C m v (finished (state (entries_of ls b i) σ n))
  unfolding entries_of
  turn-entries ls b zero h m l v σ n = absurd (not-suc-le-zero h)
  turn-entries ls b (suc i) h m l v σ n = left-turn L E C m l v (entry_at ls b i) (entries_of ls b i) σ n

  end-entries : (ls : List Triple) (b : List ℕ) (i m : ℕ) (v : Levels) (σ : Solutions) (n : ℕ) → (0 < i → C ≤ m)
      → left_of L E C m v (finished (state (entries_of ls b i) σ n)) ≡ record { end = end_at i; taken = m; last = state (entries_of ls b i) σ n; levels = v }
  unfolding entries_of
  end-entries ls b zero m v σ n h = left-empty L E C m v σ n
  end-entries ls b (suc i) m v σ n h = left_cut L E C m (h (omega arith)) v (entry_at ls b i) (entries_of ls b i) σ n

-- ---- the loop, by the strict call or the first
-- T is what the run from the words at its start comes to
pub record Loop (strict : Bool) (m : ℕ) (s : List ℕ) (C : ℕ) (T : Told) (b k rep : List ℕ) (c : Run) : Type 0 where
  pub standing : Standing m s b k c
  pub left : left_of (limits_for (mode_of strict) m) (env_on s) C c.counters.taken (levels_of k) (outcome_of (rows s) b k rep c) ≡ T

-- the run from the words at the start
abbrev pub whole_run : Bool → ℕ → List ℕ → ℕ → List ℕ → List ℕ → Run → Told
whole_run strict m s C b k c = told c.counters.taken (levels_of k) (run_from (limits_for (mode_of strict) m) (env_on s) (C - c.counters.taken) (levels_of k) (state_of (rows s) b k c))

pub loop-start : {strict : Bool} {m : ℕ} {s : List ℕ} (C : ℕ) {b k rep : List ℕ} {c : Run} → Standing m s b k c → going c.halt ≡ true → Loop strict m s C (whole_run strict m s C b k c) b k rep c
loop-start {strict} {m} {s} C {b} {k} {rep} {c} r g = record {
  standing = r;
  left = rw (not-halted c.halt g) refl;
}

-- what the test tells
pub more-facts : (c : Run) (C : ℕ) → takes_more c C ≡ true → (going c.halt ≡ true) × (0 < c.counters.board.entries) × (c.counters.taken < C)
more-facts c C e =
    let x = (and-eq-true_iff (going c.halt) (ltb 0 c.counters.board.entries && ltb c.counters.taken C)).0 e in
    let y = (and-eq-true_iff (ltb 0 c.counters.board.entries) (ltb c.counters.taken C)).0 x.1 in
    (x.0, ltb-true 0 c.counters.board.entries y.0, ltb-true c.counters.taken C y.1)

pub loop-turn : {strict : Bool} {m : ℕ} {s : List ℕ} {C : ℕ} {T : Told} {b k : List ℕ} {c : Run} {x : Room} {b' k' : List ℕ} {q : Run} {x' : Room} → (going c.halt ≡ true) × (0 < c.counters.board.entries) × (c.counters.taken < C)
    → Loop strict m s C T b k x.report c → Stepping strict m s b k c x b' k' q x' → Loop strict m s C T b' k' x'.report q
loop-turn {strict} {m} {s} {C} {T} {b} {k} {c} {x} {b'} {k'} {q} {x'} f h r =
    let E = env_on s in
    let L : Levels → Limits = limits_for (mode_of strict) m in
    let v = levels_of k in
    let o = outcome_of (rows s) b k x.report c in
    let t : left_of L E C (c.counters.taken + 1) (step_l (L v) E o v) (step_o (L v) E o) ≡ left_of L E C c.counters.taken v o =
    rw (not-halted c.halt f.0) (turn-entries L E C (rows s) b c.counters.board.entries f.1 c.counters.taken f.2 v (sols k) c.counters.fresh) in
    record {
      standing = r.standing;
      left = ap₂ (λ (n : ℕ) (o : Outcome). left_of L E C n (levels_of k') o) r.taken r.outcome ∙ ap (λ (u : Levels). left_of L E C (c.counters.taken + 1) u (step_o (L v) E o)) r.levels ∙ t ∙ h.left;
    }

-- no more is taken
ended : (L : Levels → Limits) (E : Env) (C : ℕ) (ls : List Triple) (b rep : List ℕ) (h : Halt) (i m : ℕ) (v : Levels) (σ : Solutions) (n : ℕ) → (going h && (ltb 0 i && ltb m C)) ≡ false
    → left_of L E C m v (outcome_by (refusal_of h) rep (state (entries_of ls b i) σ n)) ≡ record { end = end_by (refusal_of h) i rep; taken = m; last = state (entries_of ls b i) σ n; levels = v }
ended L E C ls b rep h i m v σ n e = by (going h) refl
  where
    go : (x y : Bool) → ltb 0 i ≡ x → ltb m C ≡ y → 0 < i → (x && y) ≡ false → C ≤ m
    go true true p q l z = absurd (let u : ◌≡◌ {A = ℕ} 0 1 = cc in omega arith)
    go true false p q l z = ltb-false m C q
    go false y p q l z = absurd (let u = ltb-false 0 i p in omega arith)

    by : (g : Bool) → going h ≡ g
        → left_of L E C m v (outcome_by (refusal_of h) rep (state (entries_of ls b i) σ n)) ≡ record { end = end_by (refusal_of h) i rep; taken = m; last = state (entries_of ls b i) σ n; levels = v }
    by true g = rw (not-halted h g) (end-entries L E C ls b i m v σ n (λ l. go (ltb 0 i) (ltb m C) refl refl l (rw g at e)))
    by false g = rw (halted h g) refl

pub loop-end : {strict : Bool} {m : ℕ} {s : List ℕ} {C : ℕ} {T : Told} {b k rep : List ℕ} {c : Run} → Loop strict m s C T b k rep c → takes_more c C ≡ false
    → T ≡ record { end = end_of rep c; taken = c.counters.taken; last = state_of (rows s) b k c; levels = levels_of k }
loop-end {strict} {m} {s} {C} {T} {b} {k} {rep} {c} h e =
    sym h.left ∙ ended (limits_for (mode_of strict) m) (env_on s) C (rows s) b rep c.halt c.counters.board.entries c.counters.taken (levels_of k) (sols k) c.counters.fresh e
