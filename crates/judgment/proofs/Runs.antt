-- Facts of whole runs: for all limits, every ceiling and any good start, at whatever end.
-- Assumes nothing.
use Prim.Native.Nat.{ℕ, zero, suc, ◌≤◌}
use native.Mathlib.Omega.{arith}
use mathlib.Core.Path.{◌≡◌, refl, sym, ◌∙◌, ap, subst, subst⁻¹}
use mathlib.Core.Logic.{◌≢◌}
use mathlib.Core.List.{List, [], ◌∷◌, ◌++◌, append-nil, append_assoc}
use Rattle.nodes.specs.Lists.{All}
use Rattle.nodes.proofs.ListLaws.{all_split}
use Rattle.nodes.specs.Nodes.{Ty}
use Rattle.judgment.specs.Solutions.{Solutions, write_out}
use Rattle.judgment.proofs.SolutionLaws.{written-again}
use Rattle.judgment.specs.Promise.{taken}
use Rattle.judgment.specs.Board.{Entry, tvar, var, sub, inf, chk, inf_app, Board, Limits, Operation, State, state, Outcome, finished, refused, perform, operations}
use Rattle.judgment.specs.Levels.{Levels, levels_after}
use Rattle.judgment.specs.Rules.{Env, rule}
use Rattle.judgment.specs.Run.{Step, step, End, accepted, ceiling, refused_by, Run, run, steps, end, final, add_step, onto, onward, run_from}
use Rattle.judgment.specs.Good.{Fine, Inv}
use Rattle.judgment.proofs.Invariant.{NotClash, Kept, perform_kept, Grown, perform-grows}
use Rattle.judgment.proofs.RuleLaws.{Equal, EnvOK, Explains, rule-good}

abbrev pub Empties : End → Board → Type 0
Empties accepted Γ = Γ ≡ []
Empties ceiling Γ = Unit {0}
Empties (refused_by r ts) Γ = NotClash r

abbrev pub Accepted : End → Type 0
Accepted accepted = Unit {0}
Accepted ceiling = ⊥
Accepted (refused_by r ts) = ⊥

module _ (Plain : Type 0) where
  -- of a run from the board Γ and the solutions σ
  pub record Facts (Γ : Board) (σ : Solutions) (ss : List Step) (e : End) (Γ' : Board) (σ' : Solutions) (n' : ℕ) : Type 0 where
    pub inv : Inv Plain Γ' σ' n'
    pub grown : (τ : Solutions) × (σ' ≡ σ ++ τ)
    pub empties : Empties e Γ'
    pub equal : Plain → Accepted e → All (Equal σ') Γ × All (Equal σ') (taken ss)

  abbrev pub FactsOf : Board → Solutions → Run → Type 0
  FactsOf Γ σ (run ss e (state Γ' σ' n')) = Facts Γ σ ss e Γ' σ' n'

  abbrev pub FactsAt : State → Run → Type 0
  FactsAt (state Γ σ n) R = FactsOf Γ σ R

  -- a comparison taken, under the final solutions ω
  explained : (e : Entry) (σ σ₁ ω : Solutions) (Γ₁ : Board) (n₁ : ℕ) (ρ τ : Solutions) → Fine ω → σ₁ ≡ σ ++ ρ → ω ≡ σ₁ ++ τ
      → Explains Plain σ e Γ₁ σ₁ n₁ → Plain → All (Equal ω) Γ₁ → Equal ω e
  explained (tvar x) σ σ₁ ω Γ₁ n₁ ρ τ f p q h pl g = tt
  explained (var x t) σ σ₁ ω Γ₁ n₁ ρ τ f p q h pl g = tt
  explained (inf e t) σ σ₁ ω Γ₁ n₁ ρ τ f p q h pl g = tt
  explained (chk e t) σ σ₁ ω Γ₁ n₁ ρ τ f p q h pl g = tt
  explained (inf_app a e t) σ σ₁ ω Γ₁ n₁ ρ τ f p q h pl g = tt
  explained (sub s t) σ σ₁ ω Γ₁ n₁ ρ τ f p q h pl g =
      sym (again s) ∙ subst⁻¹ (λ ω. write_out ω (write_out σ s) ≡ write_out ω (write_out σ t)) q (h pl τ (subst Fine q f) (subst (λ ω. All (Equal ω) Γ₁) q g)) ∙ again t
    where
      whole : ω ≡ σ ++ (ρ ++ τ)
      whole = q ∙ ap {B = Solutions} (λ l. l ++ τ) p ∙ append_assoc σ ρ τ

      again : (t : Ty) → write_out ω (write_out σ t) ≡ write_out ω t
      again t = subst⁻¹ (λ ω. write_out ω (write_out σ t) ≡ write_out ω t) whole (written-again σ (ρ ++ τ) (subst Fine whole f) t)

  module _ (Γ : Board) (σ : Solutions) (n : ℕ) (e : Entry) (os : List Operation) (fine : Fine σ) where
    add_step-facts : (Γ₁ : Board) (σ₁ : Solutions) (n₁ : ℕ) (Δ : Board) (ρ : Solutions) → Γ₁ ≡ Δ ++ Γ → σ₁ ≡ σ ++ ρ → Explains Plain σ e Γ₁ σ₁ n₁
        → (R : Run) → FactsOf Γ₁ σ₁ R → FactsOf (e ∷ Γ) σ (add_step (step (state (e ∷ Γ) σ n) e os (finished (state Γ₁ σ₁ n₁))) R)
    add_step-facts Γ₁ σ₁ n₁ Δ ρ p q h (run ss d (state Γ' σ' n')) F = record {
      inv = F.inv;
      grown = (ρ ++ F.grown.0, F.grown.1 ∙ ap {B = Solutions} (λ l. l ++ F.grown.0) q ∙ append_assoc σ ρ F.grown.0);
      empties = F.empties;
      equal = λ pl a.
          let g = F.equal pl a in
          let x : Equal σ' e = explained e σ σ₁ σ' Γ₁ n₁ ρ F.grown.0 F.inv.fine q F.grown.1 h pl g.0 in
          ((x, (all_split (Equal σ') Δ Γ (subst (All (Equal σ')) p g.0)).1), (x, g.1));
    }

    onward-facts : (L : Levels → Limits) (E : Env) (o : Outcome) (again : State → Run) → Kept Plain (Explains Plain σ e) o → Grown Γ σ o
        → ((Γ₁ : Board) (σ₁ : Solutions) (n₁ : ℕ) → Inv Plain Γ₁ σ₁ n₁ → FactsOf Γ₁ σ₁ (again (state Γ₁ σ₁ n₁)))
        → FactsOf (e ∷ Γ) σ (onward L E (state (e ∷ Γ) σ n) e os o again)
    onward-facts L E (finished (state Γ₁ σ₁ n₁)) again k g f =
        add_step-facts Γ₁ σ₁ n₁ g.0.0 g.1.0 g.0.1 g.1.1 k.1 (again (state Γ₁ σ₁ n₁)) (f Γ₁ σ₁ n₁ k.0)
    onward-facts L E (refused r ts (state Γ₁ σ₁ n₁)) again k g f =
        record { inv = k.0; grown = g.1; empties = k.1; equal = λ pl a. absurd a }

  -- the steps of a run that came to its ceiling, before a run from where it stopped
  onto-facts : (Γ : Board) (σ : Solutions) (n : ℕ) (e : Entry) (L : Levels → Limits) (E : Env) → Fine σ → (o : Outcome) (again : State → Run) → Kept Plain (Explains Plain σ e) o → Grown Γ σ o
      → ((Γ₁ : Board) (σ₁ : Solutions) (n₁ : ℕ) → Inv Plain Γ₁ σ₁ n₁ → end (again (state Γ₁ σ₁ n₁)) ≡ ceiling → (R : Run) → FactsAt (final (again (state Γ₁ σ₁ n₁))) R → FactsOf Γ₁ σ₁ (onto (steps (again (state Γ₁ σ₁ n₁))) R))
      → (os : List Operation) → end (onward L E (state (e ∷ Γ) σ n) e os o again) ≡ ceiling → (R : Run) → FactsAt (final (onward L E (state (e ∷ Γ) σ n) e os o again)) R
      → FactsOf (e ∷ Γ) σ (onto (steps (onward L E (state (e ∷ Γ) σ n) e os o again)) R)
  onto-facts Γ σ n e L E fine (finished (state Γ₁ σ₁ n₁)) again k g f os q R F = go (again (state Γ₁ σ₁ n₁)) (f Γ₁ σ₁ n₁ k.0) q R F
    where
      go : (S : Run) → (end S ≡ ceiling → (R : Run) → FactsAt (final S) R → FactsOf Γ₁ σ₁ (onto (steps S) R)) → end (add_step (step (state (e ∷ Γ) σ n) e os (finished (state Γ₁ σ₁ n₁))) S) ≡ ceiling → (R : Run)
          → FactsAt (final (add_step (step (state (e ∷ Γ) σ n) e os (finished (state Γ₁ σ₁ n₁))) S)) R
          → FactsOf (e ∷ Γ) σ (onto (steps (add_step (step (state (e ∷ Γ) σ n) e os (finished (state Γ₁ σ₁ n₁))) S)) R)
      go (run ss d t) f q R F = add_step-facts Γ σ n e os fine Γ₁ σ₁ n₁ g.0.0 g.1.0 g.0.1 g.1.1 k.1 (onto ss R) (f q R F)
  onto-facts Γ σ n e L E fine (refused r ts s) again k g f os q R F = absurd (subst (λ (d : End). NotRefused d) (sym q) tt)
    where
      NotRefused : End → Type 0
      NotRefused accepted = Unit {0}
      NotRefused ceiling = Unit {0}
      NotRefused (refused_by r ts) = ⊥

module _ (Plain : Type 0) (L : Levels → Limits) (E : Env) (hE : EnvOK Plain E) where
  pub run-facts : (c : ℕ) (v : Levels) (Γ : Board) (σ : Solutions) (n : ℕ) → Inv Plain Γ σ n → FactsOf Plain Γ σ (run_from L E c v (state Γ σ n))
  unfolding run_from
  run-facts zero v [] σ n i = record { inv = i; grown = ([], sym (append-nil σ)); empties = refl; equal = λ pl a. (tt, tt) }
  run-facts zero v (e ∷ Γ) σ n i = record { inv = i; grown = ([], sym (append-nil σ)); empties = tt; equal = λ pl a. absurd a }
  run-facts (suc c) v [] σ n i = record { inv = i; grown = ([], sym (append-nil σ)); empties = refl; equal = λ pl a. (tt, tt) }
  run-facts (suc c) v (e ∷ Γ) σ n i =
      let j : Inv Plain Γ σ n = record { entries = i.entries.1; fine = i.fine; solutions = i.solutions } in
      onward-facts Plain Γ σ n e (operations (L v) (rule E e) Γ σ n) i.fine L E (perform (L v) (rule E e) Γ σ n) (λ s. run_from L E c (levels_after (operations (L v) (rule E e) Γ σ n) v) s)
      (perform_kept Plain (L v) (Explains Plain σ e) (rule E e) Γ σ n j (rule-good Plain E hE Γ σ n j e i.entries.0))
      (perform-grows (L v) (rule E e) Γ σ n)
      (λ Γ₁ σ₁ n₁ i₁. run-facts c (levels_after (operations (L v) (rule E e) Γ σ n) v) Γ₁ σ₁ n₁ i₁)

  pub before-facts : (c : ℕ) (v : Levels) (Γ : Board) (σ : Solutions) (n : ℕ) → Inv Plain Γ σ n → end (run_from L E c v (state Γ σ n)) ≡ ceiling → (R : Run) → FactsAt Plain (final (run_from L E c v (state Γ σ n))) R
      → FactsOf Plain Γ σ (onto (steps (run_from L E c v (state Γ σ n))) R)
  unfolding run_from
  before-facts zero v [] σ n i q R F = F
  before-facts zero v (e ∷ Γ) σ n i q R F = F
  before-facts (suc c) v [] σ n i q R F = F
  before-facts (suc c) v (e ∷ Γ) σ n i q R F =
      let j : Inv Plain Γ σ n = record { entries = i.entries.1; fine = i.fine; solutions = i.solutions } in
      onto-facts Plain Γ σ n e L E i.fine (perform (L v) (rule E e) Γ σ n) (λ s. run_from L E c (levels_after (operations (L v) (rule E e) Γ σ n) v) s)
      (perform_kept Plain (L v) (Explains Plain σ e) (rule E e) Γ σ n j (rule-good Plain E hE Γ σ n j e i.entries.0))
      (perform-grows (L v) (rule E e) Γ σ n)
      (λ Γ₁ σ₁ n₁ i₁. before-facts c (levels_after (operations (L v) (rule E e) Γ σ n) v) Γ₁ σ₁ n₁ i₁) (operations (L v) (rule E e) Γ σ n) q R F

---------------------------------------------------------------- the ceiling
-- raising the ceiling changes no result but 21
add_step-end : (t : Step) (R : Run) → end (add_step t R) ≡ end R
add_step-end t (run ss e s) = refl

onward-same : (L : Levels → Limits) (E : Env) (s : State) (e : Entry) (os : List Operation) (o : Outcome) (f g : State → Run)
    → ((s : State) → end (f s) ≢ ceiling → g s ≡ f s) → end (onward L E s e os o f) ≢ ceiling → onward L E s e os o g ≡ onward L E s e os o f
onward-same L E s e os (finished s') f g h n =
    ap (add_step (step s e os (finished s'))) (h s' (λ x. n (add_step-end (step s e os (finished s')) (f s') ∙ x)))
onward-same L E s e os (refused r ts s') f g h n = refl

pub raise-ceiling : (L : Levels → Limits) (E : Env) (c d : ℕ) (v : Levels) (s : State) → c ≤ d → end (run_from L E c v s) ≢ ceiling → run_from L E d v s ≡ run_from L E c v s
unfolding run_from
raise-ceiling L E zero zero v (state [] σ n) l h = refl
raise-ceiling L E zero (suc d) v (state [] σ n) l h = refl
raise-ceiling L E zero d v (state (e ∷ Γ) σ n) l h = absurd (h refl)
raise-ceiling L E (suc c) zero v s l h = absurd (omega arith)
raise-ceiling L E (suc c) (suc d) v (state [] σ n) l h = refl
raise-ceiling L E (suc c) (suc d) v (state (e ∷ Γ) σ n) l h =
    onward-same L E (state (e ∷ Γ) σ n) e (operations (L v) (rule E e) Γ σ n) (perform (L v) (rule E e) Γ σ n) (λ s. run_from L E c (levels_after (operations (L v) (rule E e) Γ σ n) v) s) (λ s. run_from L E d (levels_after (operations (L v) (rule E e) Γ σ n) v) s)
    (λ s. raise-ceiling L E c d (levels_after (operations (L v) (rule E e) Γ σ n) v) s (omega arith)) h
