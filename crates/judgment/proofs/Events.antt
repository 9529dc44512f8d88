-- What a rule did, as `operations` lists it, is what `perform` left; and what all operations of a run are like (`run-orderly`): none meets a solved unknown. Assumes nothing.
use Rattle.std.specs.Prelude.{Option, None, Some}
use Prim.Native.Nat.{ℕ, zero, suc, ◌+◌}
use native.Mathlib.Omega.{arith}
use mathlib.Core.Path.{◌≡◌, refl, sym, ◌∙◌, ap, subst⁻¹}
use mathlib.Core.Bool.{Bool, true, false, cond}
use mathlib.Core.List.{List, [], ◌∷◌, ◌++◌, append-nil, append_assoc}
use lib.ListN.{length}
use Rattle.nodes.specs.Nodes.{Ty}
use Rattle.nodes.specs.Lists.{All, count}
use Rattle.nodes.proofs.ListLaws.{cond_ind, all_append, all_map, count-append}
use Rattle.judgment.specs.declared.TypeError.{TypeError}
use Rattle.judgment.specs.declared.TypeError.TheVariants.{TypeUnificationError}
use Rattle.judgment.specs.Types.{can_unify}
use Rattle.judgment.specs.Solutions.{◌≔◌, Solutions, find, write_out, solution_nodes}
use Rattle.judgment.specs.Board.{below, within, Entry, Board, Limits, Rule, done, refuse, fresh, push, solve, zonk, look, Operation, made, pushed, gave, met, State, state, Outcome, finished, refused, room_for, solving, perform, operations}
use Rattle.judgment.specs.Levels.{Levels, levels_after}
use Rattle.judgment.specs.Rules.{Env, rule}
use Rattle.judgment.specs.Run.{Step, step, End, refused_by, Run, run, steps, final, add_step, onto, onward, run_from}
use Rattle.judgment.specs.Promise.{taken, events, pushes, given, NotMet, board, solutions}
use Rattle.judgment.specs.Good.{Inv}
use Rattle.judgment.proofs.SolutionLaws.{find_none}
use Rattle.judgment.proofs.Invariant.{Earlier, Good, Kept, perform_kept}
use Rattle.judgment.proofs.RuleLaws.{EnvOK, Explains, rule-good}

abbrev pub state_of : Outcome → State
state_of (finished s) = s
state_of (refused r ts s) = s

-- ---- one rule
-- the outcome o of a rule from Γ and σ, whose operations are os: the solutions given, and as many entries more as were pushed
pub record Left (Γ : Board) (σ : Solutions) (os : List Operation) (o : Outcome) : Type 0 where
  pub gives : solutions (state_of o) ≡ σ ++ given os
  pub counts : (p : Entry → Bool) → count p (board (state_of o)) ≡ count p (pushes os) + count p Γ

-- the same choice in both
both : {Γ : Board} {σ : Solutions} (b : Bool) {x y : List Operation} {o q : Outcome} → Left Γ σ x o → Left Γ σ y q → Left Γ σ (cond b x y) (cond b o q)
both true f g = f
both false f g = g

stays : (Γ : Board) (σ : Solutions) (n : ℕ) → Left Γ σ [] (finished (state Γ σ n))
unfolding count
stays Γ σ n = record { gives = sym (append-nil σ); counts = λ p. omega arith }

refuses : (r : TypeError) (ts : Ty) (Γ : Board) (σ : Solutions) (n : ℕ) → Left Γ σ [] (refused r ts (state Γ σ n))
unfolding count
refuses r ts Γ σ n = record { gives = sym (append-nil σ); counts = λ p. omega arith }

solve-left : {Γ : Board} {σ : Solutions} (f : Option Ty) (s : Ty) {x y z : List Operation} {o q r : Outcome} → Left Γ σ x o → Left Γ σ y q → Left Γ σ z r
    → Left Γ σ (solving f s x y z) (solving f s o q r)
solve-left None s a b c = a
solve-left (Some t) s a b c = both (can_unify s t) b c

-- What a good rule may do: an unknown is split before its parts are made, and no solve meets an unknown solved before.
abbrev pub Orderly : Operation → Type 0
Orderly (made o n) = Earlier n o
Orderly (pushed e) = Unit {0}
Orderly (gave k s) = Unit {0}
Orderly (met k) = ⊥

orderly-unmet : (o : Operation) → Orderly o → NotMet o
orderly-unmet (made o n) h = tt
orderly-unmet (pushed e) h = tt
orderly-unmet (gave k s) h = tt
orderly-unmet (met k) h = h

module _ (L : Limits) where
  pub rule-left : (p : Rule) (Γ : Board) (σ : Solutions) (n : ℕ) → Left Γ σ (operations L p Γ σ n) (perform L p Γ σ n)
  unfolding perform operations count
  rule-left done Γ σ n = stays Γ σ n
  rule-left (refuse r ts) Γ σ n = refuses r ts Γ σ n
  rule-left (fresh g f) Γ σ n = both (below n L.numbers) (let r = rule-left (f n) Γ σ (suc n) in record { gives = r.gives; counts = r.counts }) (refuses _ _ Γ σ n)
  rule-left (push e p) Γ σ n =
      both (room_for L e Γ)
      (let r = rule-left p (e ∷ Γ) σ n in record { gives = r.gives; counts = λ q. (let c = r.counts q in omega arith) })
      (refuses _ _ Γ σ n)
  rule-left (solve k s p) Γ σ n =
      solve-left (find k σ) s
      (both (L.scope k s)
      (both (within (solution_nodes σ + length s) L.solved)
      (let r = rule-left p Γ (σ ++ (◌≔◌ k s ∷ [])) n in record { gives = r.gives ∙ append_assoc σ (◌≔◌ k s ∷ []) _; counts = r.counts })
      (refuses _ _ Γ σ n))
      (refuses _ _ Γ σ n))
      (let r = rule-left p Γ σ n in record { gives = r.gives; counts = r.counts })
      (let r = refuses TypeUnificationError [] Γ σ n in record { gives = r.gives; counts = r.counts })
  rule-left (zonk t f) Γ σ n = both (within (length (write_out σ t)) L.written) (rule-left (f (write_out σ t)) Γ σ n) (refuses _ _ Γ σ n)
  rule-left (look f) Γ σ n = rule-left (f Γ) Γ σ n

  pub rule-orderly : (Plain : Type 0) (Q : Board → Solutions → ℕ → Type 0) (p : Rule) (Γ : Board) (σ : Solutions) (n : ℕ) → Good Plain p Γ σ n Q → All Orderly (operations L p Γ σ n)
  unfolding operations
  rule-orderly Plain Q done Γ σ n g = tt
  rule-orderly Plain Q (refuse r ts) Γ σ n g = tt
  rule-orderly Plain Q (fresh o f) Γ σ n g = cond_ind (All Orderly) (below n L.numbers) (λ _. (g.0, rule-orderly Plain Q (f n) Γ σ (suc n) g.1)) (λ _. tt)
  rule-orderly Plain Q (push e p) Γ σ n g = cond_ind (All Orderly) (room_for L e Γ) (λ _. (tt, rule-orderly Plain Q p (e ∷ Γ) σ n g.1)) (λ _. tt)
  rule-orderly Plain Q (solve k s p) Γ σ n g =
      subst⁻¹ (λ o. All Orderly (solving o s
      (cond (L.scope k s) (cond (within (solution_nodes σ + length s) L.solved) (gave k s ∷ operations L p Γ (σ ++ (◌≔◌ k s ∷ [])) n) []) [])
      (met k ∷ operations L p Γ σ n)
      (met k ∷ [])))
      (find_none σ k g.0.unsolved)
      (cond_ind (All Orderly) (L.scope k s)
      (λ _. cond_ind (All Orderly) (within (solution_nodes σ + length s) L.solved) (λ _. (tt, rule-orderly Plain Q p Γ (σ ++ (◌≔◌ k s ∷ [])) n g.1)) (λ _. tt)) (λ _. tt))
  rule-orderly Plain Q (zonk t f) Γ σ n g = cond_ind (All Orderly) (within (length (write_out σ t)) L.written) (λ _. rule-orderly Plain Q (f (write_out σ t)) Γ σ n g) (λ _. tt)
  rule-orderly Plain Q (look f) Γ σ n g = rule-orderly Plain Q (f Γ) Γ σ n g

-- ---- given and pushed, of several steps
given-append : (xs ys : List Operation) → given (xs ++ ys) ≡ given xs ++ given ys
given-append [] ys = refl
given-append (made g n ∷ xs) ys = given-append xs ys
given-append (pushed e ∷ xs) ys = given-append xs ys
given-append (gave k s ∷ xs) ys = ap (λ (l : Solutions). ◌≔◌ k s ∷ l) (given-append xs ys)
given-append (met k ∷ xs) ys = given-append xs ys

pushes-append : (xs ys : List Operation) → pushes (xs ++ ys) ≡ pushes xs ++ pushes ys
pushes-append [] ys = refl
pushes-append (made g n ∷ xs) ys = pushes-append xs ys
pushes-append (pushed e ∷ xs) ys = ap (λ (l : List Entry). e ∷ l) (pushes-append xs ys)
pushes-append (gave k s ∷ xs) ys = pushes-append xs ys
pushes-append (met k ∷ xs) ys = pushes-append xs ys

-- ---- a run, from the board Γ and the solutions σ
abbrev pub Adds : Board → Solutions → Run → Type 0
Adds Γ σ (run ss d (state Γ' σ' n')) =
    (σ' ≡ σ ++ given (events ss))
    × ((p : Entry → Bool) → count p (taken ss) + count p Γ' ≡ count p Γ + count p (pushes (events ss)))

-- of a run's steps before another
abbrev pub AddsAt : State → Run → Type 0
AddsAt (state Γ σ n) R = Adds Γ σ R

events-append : (ss ts : List Step) → events (ss ++ ts) ≡ events ss ++ events ts
events-append [] ts = refl
events-append (step s e os o ∷ ss) ts = ap (λ (l : List Operation). os ++ l) (events-append ss ts) ∙ sym (append_assoc os (events ss) (events ts))

taken-append : (ss ts : List Step) → taken (ss ++ ts) ≡ taken ss ++ taken ts
taken-append [] ts = refl
taken-append (step s e os o ∷ ss) ts = ap (λ (l : List Entry). e ∷ l) (taken-append ss ts)

onto-run : (ss ts : List Step) (d : End) (t : State) → onto ss (run ts d t) ≡ run (ss ++ ts) d t
onto-run [] ts d t = refl
onto-run (s ∷ ss) ts d t = ap (add_step s) (onto-run ss ts d t)

pub onto-adds : (Γ : Board) (σ : Solutions) (S R : Run) → Adds Γ σ S → AddsAt (final S) R → Adds Γ σ (onto (steps S) R)
onto-adds Γ σ (run ss d (state Γ₁ σ₁ n₁)) (run ts e (state Γ' σ' n')) a b = subst⁻¹ (Adds Γ σ) (onto-run ss ts e (state Γ' σ' n')) (
  b.0 ∙ ap (λ (x : Solutions). x ++ given (events ts)) a.0 ∙ append_assoc σ (given (events ss)) (given (events ts))
      ∙ ap (λ (x : Solutions). σ ++ x) (sym (ap given (events-append ss ts) ∙ given-append (events ss) (events ts))),
  λ p.
      let x = a.1 p in
      let y = b.1 p in
      let u = ap (count p) (taken-append ss ts) ∙ count-append p (taken ss) (taken ts) in
      let v = ap (λ (l : List Operation). count p (pushes l)) (events-append ss ts) ∙ ap (count p) (pushes-append (events ss) (events ts)) ∙ count-append p (pushes (events ss)) (pushes (events ts)) in
      omega arith,
)

pub onto-unmet : (S R : Run) → All NotMet (events (steps S)) → All NotMet (events (steps R)) → All NotMet (events (steps (onto (steps S) R)))
onto-unmet (run ss d s) (run ts e t) a b =
    subst⁻¹ (λ (Q : Run). All NotMet (events (steps Q))) (onto-run ss ts e t)
    (subst⁻¹ (All NotMet) (events-append ss ts) (all_append NotMet (events ss) (events ts) a b))

module _ (L : Levels → Limits) (E : Env) where
  one-step : (Γ : Board) (σ : Solutions) (n : ℕ) (e : Entry) (os : List Operation) (Γ₁ : Board) (σ₁ : Solutions) (n₁ : ℕ) → Left Γ σ os (finished (state Γ₁ σ₁ n₁))
      → (R : Run) → Adds Γ₁ σ₁ R → Adds (e ∷ Γ) σ (add_step (step (state (e ∷ Γ) σ n) e os (finished (state Γ₁ σ₁ n₁))) R)
  unfolding count
  one-step Γ σ n e os Γ₁ σ₁ n₁ l (run ss d (state Γ' σ' n')) a = (
    a.0 ∙ ap (λ (x : Solutions). x ++ given (events ss)) l.gives ∙ append_assoc σ (given os) (given (events ss)) ∙ ap (λ (x : Solutions). σ ++ x) (sym (given-append os (events ss))),
    λ p. (let c = l.counts p in let r = a.1 p in let q = ap (count p) (pushes-append os (events ss)) ∙ count-append p (pushes os) (pushes (events ss)) in omega arith),
  )

  last_step : (Γ : Board) (σ : Solutions) (n : ℕ) (e : Entry) (os : List Operation) (o : Outcome) (d : End) (Γ₁ : Board) (σ₁ : Solutions) (n₁ : ℕ)
      → Left Γ σ os o → state_of o ≡ state Γ₁ σ₁ n₁ → Adds (e ∷ Γ) σ (run (step (state (e ∷ Γ) σ n) e os o ∷ []) d (state Γ₁ σ₁ n₁))
  unfolding count
  last_step Γ σ n e os o d Γ₁ σ₁ n₁ l s = (
    ap solutions (sym s) ∙ l.gives ∙ ap (λ (x : List Operation). σ ++ given x) (sym (append-nil os)),
    λ p. (let c = l.counts p in let b = ap (λ (x : State). count p (board x)) s in let q = ap (λ (x : List Operation). count p (pushes x)) (append-nil os) in omega arith),
  )

  onward-adds : (Γ : Board) (σ : Solutions) (n : ℕ) (e : Entry) (os : List Operation) (o : Outcome) (again : State → Run) → Left Γ σ os o
      → ((Γ₁ : Board) (σ₁ : Solutions) (n₁ : ℕ) → Adds Γ₁ σ₁ (again (state Γ₁ σ₁ n₁))) → Adds (e ∷ Γ) σ (onward L E (state (e ∷ Γ) σ n) e os o again)
  onward-adds Γ σ n e os (finished (state Γ₁ σ₁ n₁)) again l f = one-step Γ σ n e os Γ₁ σ₁ n₁ l (again (state Γ₁ σ₁ n₁)) (f Γ₁ σ₁ n₁)
  onward-adds Γ σ n e os (refused r ts (state Γ₁ σ₁ n₁)) again l f = last_step Γ σ n e os (refused r ts (state Γ₁ σ₁ n₁)) (refused_by r ts) Γ₁ σ₁ n₁ l refl

  stopped : (Γ : Board) (σ : Solutions) → (σ ≡ σ ++ []) × ((p : Entry → Bool) → 0 + count p Γ ≡ count p Γ + 0)
  stopped Γ σ = (sym (append-nil σ), λ p. omega arith)

  pub run-adds : (c : ℕ) (v : Levels) (Γ : Board) (σ : Solutions) (n : ℕ) → Adds Γ σ (run_from L E c v (state Γ σ n))
  unfolding run_from count
  run-adds zero v [] σ n = stopped [] σ
  run-adds zero v (e ∷ Γ) σ n = stopped (e ∷ Γ) σ
  run-adds (suc c) v [] σ n = stopped [] σ
  run-adds (suc c) v (e ∷ Γ) σ n =
      onward-adds Γ σ n e (operations (L v) (rule E e) Γ σ n) (perform (L v) (rule E e) Γ σ n) (λ s. run_from L E c (levels_after (operations (L v) (rule E e) Γ σ n) v) s)
      (rule-left (L v) (rule E e) Γ σ n) (λ Γ₁ σ₁ n₁. run-adds c (levels_after (operations (L v) (rule E e) Γ σ n) v) Γ₁ σ₁ n₁)

  module _ (Plain : Type 0) (hE : EnvOK Plain E) where
    onward-orderly : (s : State) (e : Entry) (os : List Operation) (o : Outcome) (Q : Board → Solutions → ℕ → Type 0) (again : State → Run) → All Orderly os → Kept Plain Q o
        → ((Γ₁ : Board) (σ₁ : Solutions) (n₁ : ℕ) → Inv Plain Γ₁ σ₁ n₁ → All Orderly (events (steps (again (state Γ₁ σ₁ n₁)))))
        → All Orderly (events (steps (onward L E s e os o again)))
    onward-orderly s e os (finished (state Γ₁ σ₁ n₁)) Q again u k f = step-orderly (again (state Γ₁ σ₁ n₁)) (f Γ₁ σ₁ n₁ k.0)
      where
        step-orderly : (R : Run) → All Orderly (events (steps R)) → All Orderly (events (steps (add_step (step s e os (finished (state Γ₁ σ₁ n₁))) R)))
        step-orderly (run ss d t) h = all_append Orderly os (events ss) u h
    onward-orderly s e os (refused r ts s') Q again u k f = all_append Orderly os [] u tt

    -- of all operations of a run
    pub run-orderly : (c : ℕ) (v : Levels) (Γ : Board) (σ : Solutions) (n : ℕ) → Inv Plain Γ σ n → All Orderly (events (steps (run_from L E c v (state Γ σ n))))
    unfolding run_from
    run-orderly zero v [] σ n i = tt
    run-orderly zero v (e ∷ Γ) σ n i = tt
    run-orderly (suc c) v [] σ n i = tt
    run-orderly (suc c) v (e ∷ Γ) σ n i =
        let j : Inv Plain Γ σ n = record { entries = i.entries.1; fine = i.fine; solutions = i.solutions } in
        let g = rule-good Plain E hE Γ σ n j e i.entries.0 in
        let os : List Operation = operations (L v) (rule E e) Γ σ n in
        onward-orderly (state (e ∷ Γ) σ n) e os (perform (L v) (rule E e) Γ σ n) (Explains Plain σ e) (λ s. run_from L E c (levels_after os v) s)
        (rule-orderly (L v) Plain (Explains Plain σ e) (rule E e) Γ σ n g)
        (perform_kept Plain (L v) (Explains Plain σ e) (rule E e) Γ σ n j g)
        (λ Γ₁ σ₁ n₁ i₁. run-orderly c (levels_after os v) Γ₁ σ₁ n₁ i₁)

    pub run-unmet : (c : ℕ) (v : Levels) (Γ : Board) (σ : Solutions) (n : ℕ) → Inv Plain Γ σ n → All NotMet (events (steps (run_from L E c v (state Γ σ n))))
    run-unmet c v Γ σ n i = all_map orderly-unmet (events (steps (run_from L E c v (state Γ σ n)))) (run-orderly c v Γ σ n i)
