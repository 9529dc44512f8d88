-- What every state of a sheet's run has, and so what a step may ask for. Assumes nothing.
use Rattle.std.proofs.Common.{Option, Some, None, ◌≡◌, List, [], ◌∷◌, ℕ, ◌≤◌, le_trans, length}
use Rattle.judgment.specs.declared.TypeError.{TypeError}
use mathlib.Core.Path.{subst⁻¹}
use native.Mathlib.Nat.{le-max_right}
use Rattle.nodes.specs.Nodes.{Ty}
use Rattle.nodes.specs.Lists.{All}
use Rattle.nodes.proofs.ListLaws.{all_map}
use Rattle.sheet.specs.Plan.{plan_of}
use Rattle.sheet.specs.Rows.{rows}
use Rattle.judgment.specs.Solutions.{Solutions, value}
use Rattle.judgment.specs.Board.{Entry, tvar, var, sub, inf, chk, inf_app, Limits, state, Outcome, finished, refused, perform}
use Rattle.judgment.specs.Board.{Board as Entries}
use Rattle.judgment.specs.Rules.{Env, rule}
use Rattle.judgment.specs.Chain.{step_o}
use Rattle.judgment.specs.Good.{IsTy, EntryWhole, OK, EntryOK, SolutionOK, Inv, StateOK}
use Rattle.judgment.proofs.Invariant.{Kept, perform_kept}
use Rattle.judgment.proofs.RuleLaws.{EnvOK, Explains, rule-good}
use Rattle.judgment.proofs.WholeRun.{EnvWhole, OutcomeWhole, perform-whole, rule-whole}
use Rattle.judgment.specs.Short.{EntryShort}
use Rattle.judgment.proofs.Short.{OutcomeShort, AtMost, step-short, plan-short}
use Rattle.judgment.proofs.Plans.{plan-env}
use Rattle.board.specs.Board.{entries_of}
use Rattle.book.specs.Book.{sols}
use Rattle.operations.specs.declared.Run.{Run}
use Rattle.operations.specs.State.{refusal_of, outcome_by, outcome_of, WellFormed, Made}
use Rattle.subtyping.specs.Subtyping.{Sound}
use Rattle.applying.specs.Applying.{env_on}
use Rattle.stepping.specs.Stepping.{longest, EntrySound, Standing}
use Rattle.stepping.proofs.Reading.{read_some, read-good, read_whole}

module _ (Plain : Type 0) where
  abbrev pub OutcomeOK : Outcome → Type 0
  OutcomeOK (finished (state Γ σ n)) = StateOK Plain Γ σ n
  OutcomeOK (refused r ts (state Γ σ n)) = StateOK Plain Γ σ n

  both : (Q : Entries → Solutions → ℕ → Type 0) (o : Outcome) → Kept Plain Q o → OutcomeWhole o → OutcomeOK o
  both Q (finished (state Γ σ n)) k w = record { inv = k.0; entries = w.0; solutions = w.1 }
  both Q (refused r ts (state Γ σ n)) k w = record { inv = k.0; entries = w.0; solutions = w.1 }

  pub step_ok : (L : Limits) (E : Env) → EnvOK Plain E → EnvWhole E → (o : Outcome) → OutcomeOK o → OutcomeOK (step_o L E o)
  step_ok L E h g (finished (state [] σ n)) q = q
  step_ok L E h g (finished (state (e ∷ Γ) σ n)) q =
      let i : Inv Plain Γ σ n = record { entries = q.inv.entries.1; fine = q.inv.fine; solutions = q.inv.solutions } in
      both (Explains Plain σ e) (perform L (rule E e) Γ σ n)
      (perform_kept Plain L (Explains Plain σ e) (rule E e) Γ σ n i (rule-good Plain E h Γ σ n i e q.inv.entries.0))
      (perform-whole L (rule E e) Γ σ n q.entries.1 q.solutions (rule-whole E g e q.entries.0))
  step_ok L E h g (refused r ts s) q = q

  -- refused or not
  pub of-outcome : (h : Option TypeError) (rep : List ℕ) (Γ : Entries) (σ : Solutions) (n : ℕ) → OutcomeOK (outcome_by h rep (state Γ σ n)) → StateOK Plain Γ σ n
  of-outcome None rep Γ σ n q = q
  of-outcome (Some e) rep Γ σ n q = q

  pub to-outcome : (h : Option TypeError) (rep : List ℕ) (Γ : Entries) (σ : Solutions) (n : ℕ) → StateOK Plain Γ σ n → OutcomeOK (outcome_by h rep (state Γ σ n))
  to-outcome None rep Γ σ n q = q
  to-outcome (Some e) rep Γ σ n q = q

  whole_of : (o : Outcome) → OutcomeOK o → OutcomeWhole o
  whole_of (finished (state Γ σ n)) q = (q.entries, q.solutions)
  whole_of (refused r ts (state Γ σ n)) q = (q.entries, q.solutions)

  -- what a rule asks of its entry, and of the solutions
  made_of : (n : ℕ) (t : Ty) → All (OK Plain n) t → All (Made n) t
  made_of n t h = all_map (λ x q. q.0) t h

  sound-of : (n : ℕ) (t : Ty) → All (OK Plain n) t → IsTy t → Sound n t
  sound-of n t h w = record { whole = w; made = made_of n t h }

  pub entry-sound : (n : ℕ) (e : Entry) → EntryOK Plain n e → EntryWhole e → EntrySound n e
  entry-sound n (tvar x) h w = tt
  entry-sound n (var x t) h w = tt
  entry-sound n (sub s t) h w = (sound-of n s h.0 w.0, sound-of n t h.1 w.1)
  entry-sound n (inf e t) h w = w.0
  entry-sound n (chk e t) h w = w.0
  entry-sound n (inf_app f e t) h w = (sound-of n f h.0 w.0, sound-of n t h.2 w.2)

  pub solutions-sound : (n : ℕ) (σ : Solutions) → All (SolutionOK Plain n) σ → All (λ x. IsTy (value x)) σ → All (λ x. Sound n (value x)) σ
  solutions-sound n [] h w = tt
  solutions-sound n (x ∷ σ) h w = (sound-of n (value x) h.0.1 w.0, solutions-sound n σ h.1 w.1)

-- of outcomes and of entries
pub of-short : (z : ℕ) (h : Option TypeError) (rep : List ℕ) (Γ : Entries) (σ : Solutions) (n : ℕ) → OutcomeShort z (outcome_by h rep (state Γ σ n)) → All (EntryShort z) Γ
of-short z None rep Γ σ n q = q
of-short z (Some e) rep Γ σ n q = q

to-short : (z : ℕ) (h : Option TypeError) (rep : List ℕ) (Γ : Entries) (σ : Solutions) (n : ℕ) → All (EntryShort z) Γ → OutcomeShort z (outcome_by h rep (state Γ σ n))
to-short z None rep Γ σ n q = q
to-short z (Some e) rep Γ σ n q = q

-- what a step leaves is standing
pub stands : (m : ℕ) (L : Limits) {s b k : List ℕ} (rep : List ℕ) {c : Run} {b' k' : List ℕ} (rep' : List ℕ) {q : Run} → AtMost (longest m s) L.written → Standing m s b k c → WellFormed b' k' q → outcome_of (rows s) b' k' rep' q ≡ step_o L (env_on s) (outcome_of (rows s) b k rep c) → Standing m s b' k' q
stands m L {s} {b} {k} rep {c} {b'} {k'} rep' {q} l h f e =
    let p = plan_of (rows s) in
    let w = read_whole h.plan in
    let z = longest m s in
    let a : Outcome = outcome_of (rows s) b k rep c in
    let g : OutcomeOK ⊥ a = to-outcome ⊥ (refusal_of c.halt) rep _ _ _ h.good in
    let v = plan-short z (rows s) (le-max_right m (length (rows s))) in
    let two : 2 ≤ z = le_trans (read_some h.plan) (le-max_right m (length (rows s))) in
    record {
      plan = h.plan;
      formed = f;
      good = of-outcome ⊥ (refusal_of q.halt) rep' (entries_of (rows s) b' q.counters.board.entries) (sols k') q.counters.fresh
          (subst⁻¹ (OutcomeOK ⊥) e (step_ok ⊥ L (env_on s) (plan-env p (read-good h.plan)) w.0 a g));
      short = of-short z (refusal_of q.halt) rep' (entries_of (rows s) b' q.counters.board.entries) (sols k') q.counters.fresh
          (subst⁻¹ (OutcomeShort z) e (step-short z two (env_on s) v.0 L l a (whole_of ⊥ a g) (to-short z (refusal_of c.halt) rep _ _ _ h.short)));
    }
