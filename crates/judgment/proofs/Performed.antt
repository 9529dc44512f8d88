-- `perform` and `operations` are one recursion (`together`), and what is listed is what was done, in order, fresh numbers too (`redone-is`, `in-turn`).
-- Assumes nothing.
use Rattle.std.specs.Prelude.{Option, None, Some}
use Prim.Native.Nat.{ℕ, suc, ◌+◌}
use mathlib.Core.Path.{◌≡◌, refl, ap, subst}
use mathlib.Core.Bool.{Bool, true, false, cond}
use mathlib.Core.List.{List, [], ◌∷◌, ◌++◌}
use lib.ListN.{length}
use Rattle.nodes.specs.Nodes.{Ty}
use Rattle.nodes.proofs.ListLaws.{cond_ind}
use Rattle.judgment.specs.declared.TypeError.TheVariants.{TypeUnificationError, BoardFull, TypeTooLong, NoFreshNumber, SolutionsFull, OutOfScope}
use Rattle.judgment.specs.Types.{can_unify}
use Rattle.judgment.specs.Solutions.{◌≔◌, Solutions, find, write_out, solution_nodes}
use Rattle.judgment.specs.Board.{below, within, Board, Limits, Rule, done, refuse, fresh, push, solve, zonk, look, Operation, made, pushed, gave, met, State, state, Outcome, finished, refused, room_for, solving, perform, operations}

-- ---- one recursion: what a rule did, and what it came to
pub record Done : Type 0 where
  pub operations : List Operation
  pub outcome : Outcome

abbrev pub also : Operation → Done → Done
also o d = record { operations = o ∷ d.operations; outcome = d.outcome }

abbrev pub only : Outcome → Done
only o = record { operations = []; outcome = o }

abbrev pub paired : List Operation → Outcome → Done
paired os o = record { operations = os; outcome = o }

module _ (L : Limits) where
  unfoldable pub doing : Rule → Board → Solutions → ℕ → Done
  doing done Γ σ n = only (finished (state Γ σ n))
  doing (refuse r ts) Γ σ n = only (refused r ts (state Γ σ n))
  doing (fresh g f) Γ σ n =
      cond (below n L.numbers) (also (made g n) (doing (f n) Γ σ (suc n))) (only (refused NoFreshNumber [] (state Γ σ n)))
  doing (push e p) Γ σ n =
      cond (room_for L e Γ) (also (pushed e) (doing p (e ∷ Γ) σ n)) (only (refused BoardFull [] (state Γ σ n)))
  doing (solve k s p) Γ σ n =
      solving (find k σ) s
      (cond (L.scope k s)
      (cond (within (solution_nodes σ + length s) L.solved) (also (gave k s) (doing p Γ (σ ++ (◌≔◌ k s ∷ [])) n)) (only (refused SolutionsFull [] (state Γ σ n))))
      (only (refused OutOfScope [] (state Γ σ n))))
      (also (met k) (doing p Γ σ n))
      (also (met k) (only (refused TypeUnificationError [] (state Γ σ n))))
  doing (zonk t f) Γ σ n =
      cond (within (length (write_out σ t)) L.written) (doing (f (write_out σ t)) Γ σ n) (only (refused TypeTooLong [] (state Γ σ n)))
  doing (look f) Γ σ n = doing (f Γ) Γ σ n

  either : (b : Bool) {x y : Done} {os ps : List Operation} {o p : Outcome} → x ≡ paired os o → y ≡ paired ps p → cond b x y ≡ paired (cond b os ps) (cond b o p)
  either true e f = e
  either false e f = f

  three : (a : Option Ty) (s : Ty) {x y z : Done} {os ps qs : List Operation} {o p q : Outcome} → x ≡ paired os o → y ≡ paired ps p → z ≡ paired qs q
      → solving a s x y z ≡ paired (solving a s os ps qs) (solving a s o p q)
  three None s e f g = e
  three (Some t) s e f g = either (can_unify s t) f g

  pub together : (p : Rule) (Γ : Board) (σ : Solutions) (n : ℕ) → doing p Γ σ n ≡ paired (operations L p Γ σ n) (perform L p Γ σ n)
  unfolding doing perform operations
  together done Γ σ n = refl
  together (refuse r ts) Γ σ n = refl
  together (fresh g f) Γ σ n = either (below n L.numbers) (ap (also (made g n)) (together (f n) Γ σ (suc n))) refl
  together (push e p) Γ σ n = either (room_for L e Γ) (ap (also (pushed e)) (together p (e ∷ Γ) σ n)) refl
  together (solve k s p) Γ σ n =
      three (find k σ) s
      (either (L.scope k s) (either (within (solution_nodes σ + length s) L.solved) (ap (also (gave k s)) (together p Γ (σ ++ (◌≔◌ k s ∷ [])) n)) refl) refl)
      (ap (also (met k)) (together p Γ σ n))
      refl
  together (zonk t f) Γ σ n = either (within (length (write_out σ t)) L.written) (together (f (write_out σ t)) Γ σ n) refl
  together (look f) Γ σ n = together (f Γ) Γ σ n

-- ---- what is listed is what was done
abbrev pub after : Outcome → State
after (finished s) = s
after (refused r ts s) = s

abbrev pub redo : Operation → State → State
redo (made g m) (state Γ σ n) = state Γ σ (suc m)
redo (pushed e) (state Γ σ n) = state (e ∷ Γ) σ n
redo (gave k s) (state Γ σ n) = state Γ (σ ++ (◌≔◌ k s ∷ [])) n
redo (met k) (state Γ σ n) = state Γ σ n

abbrev pub redone : List Operation → State → State
redone [] s = s
redone (o ∷ os) s = redone os (redo o s)

-- the numbers made, from n on
abbrev pub InTurn : ℕ → List Operation → Type 0
InTurn n [] = Unit {0}
InTurn n (made g m ∷ os) = (m ≡ n) × InTurn (suc n) os
InTurn n (pushed e ∷ os) = InTurn n os
InTurn n (gave k s ∷ os) = InTurn n os
InTurn n (met k ∷ os) = InTurn n os

-- listed and done agree, and the numbers are in turn
abbrev Agrees : State → Done → Type 0
Agrees (state Γ σ n) d = (after d.outcome ≡ redone d.operations (state Γ σ n)) × InTurn n d.operations

module _ (L : Limits) where
  agrees : (p : Rule) (Γ : Board) (σ : Solutions) (n : ℕ) → Agrees (state Γ σ n) (doing L p Γ σ n)
  unfolding doing
  agrees done Γ σ n = (refl, tt)
  agrees (refuse r ts) Γ σ n = (refl, tt)
  agrees (fresh g f) Γ σ n =
      cond_ind (Agrees (state Γ σ n)) (below n L.numbers) (λ _. let h = agrees (f n) Γ σ (suc n) in (h.0, (refl, h.1))) (λ _. (refl, tt))
  agrees (push e p) Γ σ n =
      cond_ind (Agrees (state Γ σ n)) (room_for L e Γ) (λ _. agrees p (e ∷ Γ) σ n) (λ _. (refl, tt))
  agrees (solve k s p) Γ σ n =
      solved (find k σ) _ _
      (cond_ind (Agrees (state Γ σ n)) (L.scope k s)
      (λ _. cond_ind (Agrees (state Γ σ n)) (within (solution_nodes σ + length s) L.solved) (λ _. agrees p Γ (σ ++ (◌≔◌ k s ∷ [])) n) (λ _. (refl, tt))) (λ _. (refl, tt)))
      (agrees p Γ σ n)
    where
      solved : (a : Option Ty) (x y : Done) → Agrees (state Γ σ n) x → Agrees (state Γ σ n) y → Agrees (state Γ σ n) (solving a s x (also (met k) y) (also (met k) (only (refused TypeUnificationError [] (state Γ σ n)))))
      solved None x y h g = h
      solved (Some t) x y h g = cond_ind (Agrees (state Γ σ n)) (can_unify s t) (λ _. g) (λ _. (refl, tt))
  agrees (zonk t f) Γ σ n =
      cond_ind (Agrees (state Γ σ n)) (within (length (write_out σ t)) L.written) (λ _. agrees (f (write_out σ t)) Γ σ n) (λ _. (refl, tt))
  agrees (look f) Γ σ n = agrees (f Γ) Γ σ n

  pub redone-is : (p : Rule) (Γ : Board) (σ : Solutions) (n : ℕ) → after (perform L p Γ σ n) ≡ redone (operations L p Γ σ n) (state Γ σ n)
  redone-is p Γ σ n = (subst (λ (d : Done). Agrees (state Γ σ n) d) (together L p Γ σ n) (agrees p Γ σ n)).0

  pub in-turn : (p : Rule) (Γ : Board) (σ : Solutions) (n : ℕ) → InTurn n (operations L p Γ σ n)
  in-turn p Γ σ n = (subst (λ (d : Done). Agrees (state Γ σ n) d) (together L p Γ σ n) (agrees p Γ σ n)).1
