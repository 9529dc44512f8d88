-- A rule performed is a chain of operations on outcomes (`performs`), and a refused outcome stays (`stays`); so with the levels (`levels-performed`, `levels-stay`). Assumes nothing.
use Rattle.std.specs.Prelude.{Option, None, Some}
use Prim.Native.Nat.{ℕ, suc, ◌+◌}
use mathlib.Core.Path.{◌≡◌, refl, ◌∙◌}
use mathlib.Core.Bool.{Bool, true, false, cond}
use mathlib.Core.List.{[], ◌∷◌, ◌++◌}
use lib.ListN.{length}
use Rattle.nodes.specs.Nodes.{Ty}
use Rattle.judgment.specs.declared.TypeError.{TypeError}
use Rattle.judgment.specs.declared.TypeError.TheVariants.{TypeUnificationError, BoardFull, TypeTooLong, NoFreshNumber, SolutionsFull, OutOfScope}
use Rattle.judgment.specs.Types.{can_unify}
use Rattle.judgment.specs.Solutions.{◌≔◌, Solutions, find, write_out, solution_nodes}
use Rattle.judgment.specs.Board.{below, within, Board, Limits, Origin, own, universal, splits, Rule, done, refuse, fresh, push, solve, zonk, look, State, state, Outcome, finished, refused, room_for, solving, perform, operations}
use Rattle.judgment.specs.Chain.{board_of, solutions_of, counter_of, refuse_o, fresh_o, push_o, solve_o, zonk_o, perform_o, fresh_l, solve_l, perform_l}
use Rattle.judgment.specs.Levels.{Levels, put, lower, level_made, level_after, levels_after}

module _ (L : Limits) where
  -- a refused outcome stays
  pub stays : (p : Rule) (r : TypeError) (ts : Ty) (s : State) → perform_o L p (refused r ts s) ≡ refused r ts s
  unfolding refuse_o fresh_o push_o solve_o zonk_o
  stays done r ts s = refl
  stays (refuse q us) r ts s = refl
  stays (fresh g f) r ts s = stays (f (counter_of (refused r ts s))) r ts s
  stays (push e p) r ts s = stays p r ts s
  stays (solve k t p) r ts s = stays p r ts s
  stays (zonk t f) r ts s = stays (f (write_out (solutions_of (refused r ts s)) t)) r ts s
  stays (look f) r ts s = stays (f (board_of (refused r ts s))) r ts s

  -- a choice of outcomes, and then a rule
  choice : (p : Rule) (b : Bool) (x y : Outcome) → perform_o L p (cond b x y) ≡ cond b (perform_o L p x) (perform_o L p y)
  choice p true x y = refl
  choice p false x y = refl

  either : (b : Bool) {x x' y y' : Outcome} → x ≡ x' → y ≡ y' → cond b x y ≡ cond b x' y'
  either true e f = e
  either false e f = f

  solved : (p : Rule) (o : Option Ty) (t : Ty) (x y z : Outcome) → perform_o L p (solving o t x y z) ≡ solving o t (perform_o L p x) (perform_o L p y) (perform_o L p z)
  solved p None t x y z = refl
  solved p (Some u) t x y z = choice p (can_unify t u) y z

  three : (o : Option Ty) (t : Ty) {x x' y y' z z' : Outcome} → x ≡ x' → y ≡ y' → z ≡ z' → solving o t x y z ≡ solving o t x' y' z'
  three None t e f g = e
  three (Some u) t e f g = either (can_unify t u) f g

  -- the definition's `perform` is the chain
  pub performs : (p : Rule) (Γ : Board) (σ : Solutions) (n : ℕ) → perform_o L p (finished (state Γ σ n)) ≡ perform L p Γ σ n
  unfolding perform refuse_o fresh_o push_o solve_o zonk_o
  performs done Γ σ n = refl
  performs (refuse r ts) Γ σ n = refl
  performs (fresh g f) Γ σ n =
      choice (f n) (below n L.numbers) _ _ ∙ either (below n L.numbers) (performs (f n) Γ σ (suc n)) (stays (f n) NoFreshNumber [] (state Γ σ n))
  performs (push e p) Γ σ n =
      choice p (room_for L e Γ) _ _ ∙ either (room_for L e Γ) (performs p (e ∷ Γ) σ n) (stays p BoardFull [] (state Γ σ n))
  performs (solve k t p) Γ σ n =
      solved p (find k σ) t _ _ _
      ∙ three (find k σ) t
      (choice p (L.scope k t) _ _
      ∙ either (L.scope k t)
      (choice p (within (solution_nodes σ + length t) L.solved) _ _
      ∙ either (within (solution_nodes σ + length t) L.solved) (performs p Γ (σ ++ (◌≔◌ k t ∷ [])) n) (stays p SolutionsFull [] (state Γ σ n)))
      (stays p OutOfScope [] (state Γ σ n)))
      (performs p Γ σ n)
      (stays p TypeUnificationError [] (state Γ σ n))
  performs (zonk t f) Γ σ n =
      choice (f (write_out σ t)) (within (length (write_out σ t)) L.written) _ _
      ∙ either (within (length (write_out σ t)) L.written) (performs (f (write_out σ t)) Γ σ n) (stays (f (write_out σ t)) TypeTooLong [] (state Γ σ n))
  performs (look f) Γ σ n = performs (f Γ) Γ σ n

  -- ---- levels
  pub levels-stay : (p : Rule) (r : TypeError) (ts : Ty) (s : State) (v : Levels) → perform_l L p (refused r ts s) v ≡ v
  unfolding fresh_o push_o solve_o zonk_o fresh_l solve_l
  levels-stay done r ts s v = refl
  levels-stay (refuse q us) r ts s v = refl
  levels-stay (fresh own f) r ts s v = levels-stay (f (counter_of (refused r ts s))) r ts s v
  levels-stay (fresh universal f) r ts s v = levels-stay (f (counter_of (refused r ts s))) r ts s v
  levels-stay (fresh (splits k) f) r ts s v = levels-stay (f (counter_of (refused r ts s))) r ts s v
  levels-stay (push e p) r ts s v = levels-stay p r ts s v
  levels-stay (solve k t p) r ts s v = levels-stay p r ts s v
  levels-stay (zonk t f) r ts s v = levels-stay (f (write_out (solutions_of (refused r ts s)) t)) r ts s v
  levels-stay (look f) r ts s v = levels-stay (f (board_of (refused r ts s))) r ts s v

  -- the chain leaves the levels that the listed operations do
  pub levels-performed : (p : Rule) (Γ : Board) (σ : Solutions) (n : ℕ) (v : Levels) → perform_l L p (finished (state Γ σ n)) v ≡ levels_after (operations L p Γ σ n) v
  unfolding operations fresh_o push_o solve_o zonk_o fresh_l solve_l level_made level_after levels_after
  levels-performed done Γ σ n v = refl
  levels-performed (refuse r ts) Γ σ n v = refl
  levels-performed (fresh g f) Γ σ n v = by g (λ u. levels-performed (f n) Γ σ (suc n) u) (below n L.numbers) refl
    where
      by : (g : Origin) → ((u : Levels) → perform_l L (f n) (finished (state Γ σ (suc n))) u ≡ levels_after (operations L (f n) Γ σ (suc n)) u) → (b : Bool) → below n L.numbers ≡ b → perform_l L (fresh g f) (finished (state Γ σ n)) v ≡ levels_after (operations L (fresh g f) Γ σ n) v
      by own h true e = rw e (h v)
      by universal h true e = rw e (h (put n 0 v))
      by (splits k) h true e = rw e (h (put n (v k) v))
      by own h false e = rw e (levels-stay (f n) NoFreshNumber [] (state Γ σ n) v)
      by universal h false e = rw e (levels-stay (f n) NoFreshNumber [] (state Γ σ n) v)
      by (splits k) h false e = rw e (levels-stay (f n) NoFreshNumber [] (state Γ σ n) v)
  levels-performed (push e p) Γ σ n v = by (levels-performed p (e ∷ Γ) σ n v) (room_for L e Γ) refl
    where
      by : perform_l L p (finished (state (e ∷ Γ) σ n)) v ≡ levels_after (operations L p (e ∷ Γ) σ n) v → (b : Bool) → room_for L e Γ ≡ b → perform_l L (push e p) (finished (state Γ σ n)) v ≡ levels_after (operations L (push e p) Γ σ n) v
      by h true q = rw q h
      by h false q = rw q (levels-stay p BoardFull [] (state Γ σ n) v)
  levels-performed (solve k t p) Γ σ n v = by (levels-performed p Γ (σ ++ (◌≔◌ k t ∷ [])) n (lower (v k) t v)) (levels-performed p Γ σ n v) (find k σ) refl
    where
      fits : perform_l L p (finished (state Γ (σ ++ (◌≔◌ k t ∷ [])) n)) (lower (v k) t v) ≡ levels_after (operations L p Γ (σ ++ (◌≔◌ k t ∷ [])) n) (lower (v k) t v) → find k σ ≡ None → L.scope k t ≡ true → (b : Bool) → within (solution_nodes σ + length t) L.solved ≡ b
          → perform_l L (solve k t p) (finished (state Γ σ n)) v ≡ levels_after (operations L (solve k t p) Γ σ n) v
      fits h q r true e = rw (q, r, e) h
      fits h q r false e = rw (q, r, e) (levels-stay p SolutionsFull [] (state Γ σ n) v)

      scoped : perform_l L p (finished (state Γ (σ ++ (◌≔◌ k t ∷ [])) n)) (lower (v k) t v) ≡ levels_after (operations L p Γ (σ ++ (◌≔◌ k t ∷ [])) n) (lower (v k) t v) → find k σ ≡ None → (b : Bool) → L.scope k t ≡ b → perform_l L (solve k t p) (finished (state Γ σ n)) v ≡ levels_after (operations L (solve k t p) Γ σ n) v
      scoped h q true e = fits h q e (within (solution_nodes σ + length t) L.solved) refl
      scoped h q false e = rw (q, e) (levels-stay p OutOfScope [] (state Γ σ n) v)

      known : perform_l L p (finished (state Γ σ n)) v ≡ levels_after (operations L p Γ σ n) v → (u : Ty) → find k σ ≡ Some u → (b : Bool) → can_unify t u ≡ b → perform_l L (solve k t p) (finished (state Γ σ n)) v ≡ levels_after (operations L (solve k t p) Γ σ n) v
      known h u q true e = rw (q, e) h
      known h u q false e = rw (q, e) (levels-stay p TypeUnificationError [] (state Γ σ n) v)

      by : perform_l L p (finished (state Γ (σ ++ (◌≔◌ k t ∷ [])) n)) (lower (v k) t v) ≡ levels_after (operations L p Γ (σ ++ (◌≔◌ k t ∷ [])) n) (lower (v k) t v) → perform_l L p (finished (state Γ σ n)) v ≡ levels_after (operations L p Γ σ n) v → (o : Option Ty) → find k σ ≡ o → perform_l L (solve k t p) (finished (state Γ σ n)) v ≡ levels_after (operations L (solve k t p) Γ σ n) v
      by h g None q = scoped h q (L.scope k t) refl
      by h g (Some u) q = known g u q (can_unify t u) refl
  levels-performed (zonk t f) Γ σ n v = by (levels-performed (f (write_out σ t)) Γ σ n v) (within (length (write_out σ t)) L.written) refl
    where
      by : perform_l L (f (write_out σ t)) (finished (state Γ σ n)) v ≡ levels_after (operations L (f (write_out σ t)) Γ σ n) v → (b : Bool) → within (length (write_out σ t)) L.written ≡ b → perform_l L (zonk t f) (finished (state Γ σ n)) v ≡ levels_after (operations L (zonk t f) Γ σ n) v
      by h true e = rw e h
      by h false e = rw e (levels-stay (f (write_out σ t)) TypeTooLong [] (state Γ σ n) v)
  levels-performed (look f) Γ σ n v = levels-performed (f Γ) Γ σ n v
