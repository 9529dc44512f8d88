-- The run: the steps from one Chk on the board to its end.
-- Assumes nothing.
use Rattle.std.specs.Prelude.{ℕ, zero, suc, List, [], ◌∷◌, ◌++◌}
use Rattle.nodes.specs.Nodes.{Ty}
use Rattle.judgment.specs.declared.TypeError.{TypeError}
use Rattle.judgment.specs.Terms.{Term}
use Rattle.judgment.specs.Board.{Entry, chk, Limits, Operation, State, state, Outcome, finished, refused, perform, operations}
use Rattle.judgment.specs.Levels.{Levels, own_levels, levels_after}
use Rattle.judgment.specs.Rules.{Env, rule}

-- one taken entry: the state that it was taken from, the entry, what its rule did, and what it came to
pub data Step : Type 0 where
  step : State → Entry → List Operation → Outcome → Step

pub data End : Type 0 where
  accepted ceiling : End
  refused_by : TypeError → Ty → End

-- the steps, a refused last one included, the end and the last state
pub data Run : Type 0 where
  run : List Step → End → State → Run

abbrev pub steps : Run → List Step
steps (run ss e s) = ss

abbrev pub end : Run → End
end (run ss e s) = e

abbrev pub final : Run → State
final (run ss e s) = s

abbrev pub add_step : Step → Run → Run
add_step t (run ss e s) = run (t ∷ ss) e s

-- steps that came before a run
abbrev pub onto : List Step → Run → Run
onto [] R = R
onto (t ∷ ss) R = add_step t (onto ss R)

-- the operations of the steps, in order
abbrev pub events : List Step → List Operation
events [] = []
events (step s e os o ∷ ss) = os ++ events ss

-- where `check_type` starts: one Chk on the board, no solution, the counter at 0
abbrev pub start_with : Term → Ty → State
start_with e t = state (chk e t ∷ []) [] 0

-- each step by the limits under the levels that it meets
module _ (L : Levels → Limits) (E : Env) where
  abbrev pub onward : State → Entry → List Operation → Outcome → (State → Run) → Run
  onward s e os (finished s') again = add_step (step s e os (finished s')) (again s')
  onward s e os (refused r ts s') again = run (step s e os (refused r ts s') ∷ []) (refused_by r ts) s'

  -- `solve`, with at most so many entries taken
  unfoldable pub run_from : ℕ → Levels → State → Run
  run_from zero v (state [] σ n) = run [] accepted (state [] σ n)
  run_from zero v (state (e ∷ Γ) σ n) = run [] ceiling (state (e ∷ Γ) σ n)
  run_from (suc c) v (state [] σ n) = run [] accepted (state [] σ n)
  run_from (suc c) v (state (e ∷ Γ) σ n) =
      onward (state (e ∷ Γ) σ n) e (operations (L v) (rule E e) Γ σ n) (perform (L v) (rule E e) Γ σ n)
      (λ s. run_from c (levels_after (operations (L v) (rule E e) Γ σ n) v) s)

  -- `check_type`
  unfoldable pub check_type : ℕ → Term → Ty → Run
  check_type c e t = run_from c own_levels (start_with e t)
