-- A run cut at its ceiling and carried on is the uncut run (`cut`), and the promise along a history of pieces, each with limits and a ceiling of its own (`history-promise`). Assumes nothing.
use Prim.Native.Nat.{ℕ, zero, suc, ◌+◌}
use native.Mathlib.Omega.{arith}
use mathlib.Core.Path.{◌≡◌, refl, sym, ◌∙◌, ap, subst}
use mathlib.Core.Bool.{Bool, true}
use mathlib.Core.List.{List, [], ◌∷◌, ◌++◌}
use Rattle.nodes.specs.Lists.{All}
use Rattle.judgment.specs.Solutions.{Solutions}
use Rattle.judgment.specs.Board.{Entry, Board, Limits, Operation, State, state, Outcome, finished, refused, perform, operations}
use Rattle.judgment.specs.Levels.{Levels, levels_after}
use Rattle.judgment.specs.Rules.{Env, rule}
use Rattle.judgment.specs.Run.{Step, step, End, accepted, ceiling, refused_by, Run, run, steps, end, final, add_step, onto, onward, run_from}
use Rattle.judgment.specs.Promise.{events, NotMet, Promise}
use Rattle.judgment.specs.Good.{Inv}
use Rattle.judgment.proofs.RuleLaws.{EnvOK}
use Rattle.judgment.proofs.Events.{AddsAt, onto-adds, onto-unmet, run-adds, run-unmet}
use Rattle.judgment.proofs.Runs.{FactsOf, FactsAt, run-facts, before-facts}
use Rattle.judgment.proofs.Promised.{claim}
use Rattle.judgment.proofs.LevelLaws.{levels-append}

-- ---- cut and carried on
module _ (L : Levels → Limits) (E : Env) where
  cut-onward : (s : State) (e : Entry) (os : List Operation) (o : Outcome) (f g : State → Run) (h : List Operation → State → Run)
      → ((s : State) → end (f s) ≡ ceiling → g s ≡ onto (steps (f s)) (h (os ++ events (steps (f s))) (final (f s)))) → end (onward L E s e os o f) ≡ ceiling
      → onward L E s e os o g ≡ onto (steps (onward L E s e os o f)) (h (events (steps (onward L E s e os o f))) (final (onward L E s e os o f)))
  cut-onward s e os (finished s') f g h k q = go (f s') (k s') q
    where
      go : (S : Run) → (end S ≡ ceiling → g s' ≡ onto (steps S) (h (os ++ events (steps S)) (final S))) → end (add_step (step s e os (finished s')) S) ≡ ceiling
          → add_step (step s e os (finished s')) (g s')
          ≡ onto (steps (add_step (step s e os (finished s')) S)) (h (events (steps (add_step (step s e os (finished s')) S))) (final (add_step (step s e os (finished s')) S)))
      go (run ss d t) k q = ap (add_step (step s e os (finished s'))) (k q)
  cut-onward s e os (refused r ts s') f g h k q = absurd (subst (λ (d : End). NotRefused d) (sym q) tt)
    where
      NotRefused : End → Type 0
      NotRefused accepted = Unit {0}
      NotRefused ceiling = Unit {0}
      NotRefused (refused_by r ts) = ⊥

  -- carried on with the levels that its steps left
  pub cut : (c d : ℕ) (v : Levels) (s : State) → end (run_from L E c v s) ≡ ceiling
      → run_from L E (c + d) v s ≡ onto (steps (run_from L E c v s)) (run_from L E d (levels_after (events (steps (run_from L E c v s))) v) (final (run_from L E c v s)))
  unfolding run_from levels_after
  cut zero d v s q = start d s q
    where
      start : (d : ℕ) (s : State) → end (run_from L E 0 v s) ≡ ceiling
          → run_from L E (0 + d) v s ≡ onto (steps (run_from L E 0 v s)) (run_from L E d (levels_after (events (steps (run_from L E 0 v s))) v) (final (run_from L E 0 v s)))
      start d (state [] σ n) q = ap (λ (m : ℕ). run_from L E m v (state [] σ n)) (let z : 0 + d ≡ d = omega arith in z)
      start d (state (e ∷ Γ) σ n) q = ap (λ (m : ℕ). run_from L E m v (state (e ∷ Γ) σ n)) (let z : 0 + d ≡ d = omega arith in z)
  cut (suc c) d v (state [] σ n) q = absurd (subst (λ (e : End). NotAccepted e) (sym q) tt)
    where
      NotAccepted : End → Type 0
      NotAccepted accepted = ⊥
      NotAccepted ceiling = Unit {0}
      NotAccepted (refused_by r ts) = Unit {0}
  cut (suc c) d v (state (e ∷ Γ) σ n) q =
      let z : suc c + d ≡ suc (c + d) = omega arith in
      let os : List Operation = operations (L v) (rule E e) Γ σ n in
      ap (λ (m : ℕ). run_from L E m v (state (e ∷ Γ) σ n)) z
      ∙ cut-onward (state (e ∷ Γ) σ n) e os (perform (L v) (rule E e) Γ σ n) (λ s. run_from L E c (levels_after os v) s) (λ s. run_from L E (c + d) (levels_after os v) s)
      (λ es s. run_from L E d (levels_after es v) s)
      (λ s r.
      let S : Run = run_from L E c (levels_after os v) s in
      cut c d (levels_after os v) s r ∙ ap (λ (u : Levels). onto (steps S) (run_from L E d u (final S))) (sym (levels-append os (events (steps S)) v)))
      q

-- ---- a history: pieces that each came to their ceiling, each with levels of its own, of which the promise does not speak
pub data Led (E : Env) : State → List Step → State → Type 0 where
  stay : {s : State} → Led E s [] s
  piece : {s t : State} {ss : List Step} (L : Levels → Limits) (c : ℕ) (v : Levels) → end (run_from L E c v s) ≡ ceiling → Led E (final (run_from L E c v s)) ss t → Led E s (steps (run_from L E c v s) ++ ss) t

onto-append : (ss ts : List Step) (R : Run) → onto (ss ++ ts) R ≡ onto ss (onto ts R)
onto-append [] ts R = refl
onto-append (s ∷ ss) ts R = ap (add_step s) (onto-append ss ts R)

module _ (Plain : Type 0) (E : Env) (hE : EnvOK Plain E) where
  abbrev InvAt : State → Type 0
  InvAt (state Γ σ n) = Inv Plain Γ σ n

  -- what is proved of a run from a state
  record Known (s : State) (R : Run) : Type 0 where
    facts : FactsAt Plain s R
    adds : AddsAt s R
    unmet : All NotMet (events (steps R))

  known-run : (L : Levels → Limits) (c : ℕ) (v : Levels) (s : State) → InvAt s → Known s (run_from L E c v s)
  known-run L c v (state Γ σ n) i = record { facts = run-facts Plain L E hE c v Γ σ n i; adds = run-adds L E c v Γ σ n; unmet = run-unmet L E Plain hE c v Γ σ n i }

  inv-final : (S : Run) (Γ : Board) (σ : Solutions) → FactsOf Plain Γ σ S → InvAt (final S)
  inv-final (run ss e (state Γ' σ' n')) Γ σ F = F.inv

  final-inv : (L : Levels → Limits) (c : ℕ) (v : Levels) (s : State) → InvAt s → InvAt (final (run_from L E c v s))
  final-inv L c v (state Γ σ n) i = inv-final (run_from L E c v (state Γ σ n)) Γ σ (run-facts Plain L E hE c v Γ σ n i)

  known-before : (L : Levels → Limits) (c : ℕ) (v : Levels) (s : State) → InvAt s → end (run_from L E c v s) ≡ ceiling → (R : Run) → Known (final (run_from L E c v s)) R → Known s (onto (steps (run_from L E c v s)) R)
  known-before L c v (state Γ σ n) i q R k = record {
    facts = before-facts Plain L E hE c v Γ σ n i q R k.facts;
    adds = onto-adds Γ σ (run_from L E c v (state Γ σ n)) R (run-adds L E c v Γ σ n) k.adds;
    unmet = onto-unmet (run_from L E c v (state Γ σ n)) R (run-unmet L E Plain hE c v Γ σ n i) k.unmet;
  }

  pub led-inv : {s t : State} {ss : List Step} → Led E s ss t → InvAt s → InvAt t
  led-inv stay i = i
  led-inv {s = s} (piece L c v q h) i = led-inv h (final-inv L c v s i)

  known-led : {s t : State} {ss : List Step} → Led E s ss t → InvAt s → (R : Run) → Known t R → Known s (onto ss R)
  known-led stay i R k = k
  known-led {s = s} (piece {ss = ss} L c v q h) i R k =
      subst (Known s) (sym (onto-append (steps (run_from L E c v s)) ss R))
      (known-before L c v s i q (onto ss R) (known-led h (final-inv L c v s i) R k))

-- the promise, read along the whole history; the last piece may end in any way
pub history-promise : (plain : Bool) (E : Env) → EnvOK (plain ≡ true) E → (Γ : Board) (σ : Solutions) (n : ℕ) → Inv (plain ≡ true) Γ σ n → {t : State} {ss : List Step} → Led E (state Γ σ n) ss t
    → (L : Levels → Limits) (c : ℕ) (v : Levels) → Promise (state Γ σ n) plain (onto ss (run_from L E c v t))
history-promise plain E hE Γ σ n i {t} {ss} h L c v =
    let k = known-led (plain ≡ true) E hE h i (run_from L E c v t) (known-run (plain ≡ true) E hE L c v t (led-inv (plain ≡ true) E hE h i)) in
    claim plain Γ σ n (onto ss (run_from L E c v t)) k.facts k.adds k.unmet
