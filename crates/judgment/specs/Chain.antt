-- Rules and runs on outcomes: every operation takes an outcome to an outcome, and a refused one stays. A rule performed is a chain of these (proofs/Chained.antt).
-- Assumes nothing.
use Rattle.std.specs.Prelude.{ℕ, suc, ◌+◌, cond, [], ◌∷◌, ◌++◌, length}
use Rattle.nodes.specs.Nodes.{Ty}
use Rattle.judgment.specs.declared.TypeError.{TypeError}
use Rattle.judgment.specs.declared.TypeError.TheVariants.{TypeUnificationError, BoardFull, TypeTooLong, NoFreshNumber, SolutionsFull, OutOfScope}
use Rattle.judgment.specs.Solutions.{◌≔◌, Solutions, find, write_out, solution_nodes}
use Rattle.judgment.specs.Board.{below, within, Entry, Board, Limits, Origin, own, universal, splits, Rule, done, refuse, fresh, push, solve, zonk, look, State, state, Outcome, finished, refused, room_for, solving, perform, operations}
use Rattle.judgment.specs.Levels.{Levels, put, lower, levels_after}
use Rattle.judgment.specs.Rules.{Env, rule}
use Rattle.judgment.specs.Run.{End, Run, run, events}

abbrev pub board_of : Outcome → Board
board_of (finished (state Γ σ n)) = Γ
board_of (refused r ts (state Γ σ n)) = Γ

abbrev pub solutions_of : Outcome → Solutions
solutions_of (finished (state Γ σ n)) = σ
solutions_of (refused r ts (state Γ σ n)) = σ

abbrev pub counter_of : Outcome → ℕ
counter_of (finished (state Γ σ n)) = n
counter_of (refused r ts (state Γ σ n)) = n

module _ (L : Limits) where
  unfoldable pub refuse_o : TypeError → Ty → Outcome → Outcome
  refuse_o r ts (finished s) = refused r ts s
  refuse_o r ts (refused q us s) = refused q us s

  unfoldable pub fresh_o : Outcome → Outcome
  fresh_o (finished (state Γ σ n)) = cond (below n L.numbers) (finished (state Γ σ (suc n))) (refused NoFreshNumber [] (state Γ σ n))
  fresh_o (refused q us s) = refused q us s

  unfoldable pub push_o : Entry → Outcome → Outcome
  push_o e (finished (state Γ σ n)) = cond (room_for L e Γ) (finished (state (e ∷ Γ) σ n)) (refused BoardFull [] (state Γ σ n))
  push_o e (refused q us s) = refused q us s

  unfoldable pub solve_o : ℕ → Ty → Outcome → Outcome
  solve_o k t (finished (state Γ σ n)) =
      solving (find k σ) t
      (cond (L.scope k t)
      (cond (within (solution_nodes σ + length t) L.solved) (finished (state Γ (σ ++ (◌≔◌ k t ∷ [])) n)) (refused SolutionsFull [] (state Γ σ n)))
      (refused OutOfScope [] (state Γ σ n)))
      (finished (state Γ σ n))
      (refused TypeUnificationError [] (state Γ σ n))
  solve_o k t (refused q us s) = refused q us s

  unfoldable pub zonk_o : Ty → Outcome → Outcome
  zonk_o t (finished (state Γ σ n)) = cond (within (length (write_out σ t)) L.written) (finished (state Γ σ n)) (refused TypeTooLong [] (state Γ σ n))
  zonk_o t (refused q us s) = refused q us s

  -- the chain that a rule is
  abbrev pub perform_o : Rule → Outcome → Outcome
  perform_o done o = o
  perform_o (refuse r ts) o = refuse_o r ts o
  perform_o (fresh g f) o = perform_o (f (counter_of o)) (fresh_o o)
  perform_o (push e p) o = perform_o p (push_o e o)
  perform_o (solve k s p) o = perform_o p (solve_o k s o)
  perform_o (zonk t f) o = perform_o (f (write_out (solutions_of o) t)) (zonk_o t o)
  perform_o (look f) o = perform_o (f (board_of o)) o

  -- ---- the levels that a chain leaves, of those that it met
  abbrev pub if_made : Outcome → Levels → (ℕ → Levels) → Levels
  if_made (finished (state Γ σ n)) v f = cond (below n L.numbers) (f n) v
  if_made (refused q us s) v f = v

  unfoldable pub fresh_l : Origin → Outcome → Levels → Levels
  fresh_l own o v = v
  fresh_l universal o v = if_made o v (λ n. put n 0 v)
  fresh_l (splits k) o v = if_made o v (λ n. put n (v k) v)

  unfoldable pub solve_l : ℕ → Ty → Outcome → Levels → Levels
  solve_l k t (finished (state Γ σ n)) v =
      solving (find k σ) t (cond (L.scope k t) (cond (within (solution_nodes σ + length t) L.solved) (lower (v k) t v) v) v) v v
  solve_l k t (refused q us s) v = v

  abbrev pub perform_l : Rule → Outcome → Levels → Levels
  perform_l done o v = v
  perform_l (refuse r ts) o v = v
  perform_l (fresh g f) o v = perform_l (f (counter_of o)) (fresh_o o) (fresh_l g o v)
  perform_l (push e p) o v = perform_l p (push_o e o) v
  perform_l (solve k s p) o v = perform_l p (solve_o k s o) (solve_l k s o v)
  perform_l (zonk t f) o v = perform_l (f (write_out (solutions_of o) t)) (zonk_o t o) v
  perform_l (look f) o v = perform_l (f (board_of o)) o v

-- one more step: the newest entry is taken and its rule performed
abbrev pub step_o : Limits → Env → Outcome → Outcome
step_o L E (finished (state [] σ n)) = finished (state [] σ n)
step_o L E (finished (state (e ∷ Γ) σ n)) = perform L (rule E e) Γ σ n
step_o L E (refused r ts s) = refused r ts s

-- and the levels after it
abbrev pub step_l : Limits → Env → Outcome → Levels → Levels
step_l L E (finished (state [] σ n)) v = v
step_l L E (finished (state (e ∷ Γ) σ n)) v = levels_after (operations L (rule E e) Γ σ n) v
step_l L E (refused r ts s) v = v

-- ---- a run, by what it came to: how a run ended, how many entries were taken, its last state and its last levels
pub record Told : Type 0 where
  pub end : End
  pub taken : ℕ
  pub last : State
  pub levels : Levels

-- of a run that comes after m steps, and begins with the levels v
abbrev pub told : ℕ → Levels → Run → Told
told m v (run ss e s) = record { end = e; taken = m + length ss; last = s; levels = levels_after (events ss) v }
