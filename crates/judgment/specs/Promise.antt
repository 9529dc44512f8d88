-- The promise (demand 3 of document 01): one claim about the whole list of steps of a run. docs/PROMISE.md puts document 01's sentences
-- beside these lines. Assumes nothing: these are definitions; the proof is proofs/Promised.antt.
use Rattle.std.specs.Prelude.{ℕ, ◌≡◌, ◌≢◌, Bool, true, List, [], ◌∷◌, ◌++◌}
use mathlib.Core.WellFounded.{Acc}
use Rattle.nodes.specs.Nodes.{Node, node, Ty, kind}
use Rattle.nodes.specs.Lists.{All, In, count}
use Rattle.judgment.specs.declared.TypeError.TheVariants.{TypeUnificationError}
use Rattle.judgment.specs.Types.{unknown}
use Rattle.judgment.specs.Solutions.{◌≔◌, Solutions, value}
pub use Rattle.judgment.specs.Solutions.{Distinct, solved_unknowns}
use Rattle.judgment.specs.Board.{Entry, tvar, var, sub, inf, chk, inf_app, Board, Operation, made, pushed, gave, met, State, state}
use Rattle.judgment.specs.Run.{Step, step, accepted, refused_by, Run, steps, end, final}
pub use Rattle.judgment.specs.Run.{events}

-- ---- what the steps took and did
abbrev pub taken : List Step → List Entry
taken [] = []
taken (step s e os o ∷ ss) = e ∷ taken ss

-- the entries pushed, and the solutions given, in order
abbrev pub pushes : List Operation → List Entry
pushes [] = []
pushes (made g n ∷ os) = pushes os
pushes (pushed e ∷ os) = e ∷ pushes os
pushes (gave k s ∷ os) = pushes os
pushes (met k ∷ os) = pushes os

abbrev pub given : List Operation → Solutions
given [] = []
given (made g n ∷ os) = given os
given (pushed e ∷ os) = given os
given (gave k s ∷ os) = ◌≔◌ k s ∷ given os
given (met k ∷ os) = given os

-- no solve that met an unknown solved before
abbrev pub NotMet : Operation → Type 0
NotMet (made g n) = Unit {0}
NotMet (pushed e) = Unit {0}
NotMet (gave k s) = Unit {0}
NotMet (met k) = ⊥

abbrev pub board : State → Board
board (state Γ σ n) = Γ

abbrev pub solutions : State → Solutions
solutions (state Γ σ n) = σ

-- ---- following solutions, from a solved unknown to the unknowns in its solution
abbrev pub Follows : Solutions → ℕ → ℕ → Type 0
Follows σ j k = (s : Ty) × In (◌≔◌ k s) σ × In (node 17 j) s

-- one step or more, from k to i
pub data Leads (σ : Solutions) : ℕ → ℕ → Type 0 where
  one : {i k : ℕ} → Follows σ i k → Leads σ i k
  more : {i j k : ℕ} → Leads σ i j → Follows σ j k → Leads σ i k

-- ---- written out in full: each solved unknown replaced by its solution until only unsolved ones are left
pub data Replaced (σ : Solutions) : Ty → Ty → Type 0 where
  none : {t : Ty} → Replaced σ t t
  one : (a b : Ty) (k : ℕ) (s : Ty) {u : Ty} → In (◌≔◌ k s) σ → Replaced σ (a ++ (s ++ b)) u → Replaced σ (a ++ (unknown k ++ b)) u

abbrev pub Unsolved : Solutions → Node → Type 0
Unsolved σ x = (k : ℕ) (s : Ty) → In (◌≔◌ k s) σ → x ≢ node 17 k

pub record InFull (σ : Solutions) (t u : Ty) : Type 0 where
  pub replaced : Replaced σ t u
  pub unsolved : All (Unsolved σ) u

-- a comparison's two types, written out in full, are one and the same
abbrev pub Same : Solutions → Entry → Type 0
Same σ (tvar x) = Unit {0}
Same σ (var x t) = Unit {0}
Same σ (sub s t) = (u : Ty) × InFull σ s u × InFull σ t u
Same σ (inf e t) = Unit {0}
Same σ (chk e t) = Unit {0}
Same σ (inf_app f e t) = Unit {0}

-- no quantifier
abbrev pub Quantifierless : Ty → Type 0
Quantifierless t = All (λ x. kind x ≢ 14) t

-- ---- the claim, of a run that starts with the state `start`
pub record Promise (start : State) (plain : Bool) (R : Run) : Type 0 where
  -- no unknown is solved twice: no solve meets a solved one, the final solutions are all that were given, and they are of different unknowns
  pub never_met : All NotMet (events (steps R))
  pub all-given : solutions (final R) ≡ solutions start ++ given (events (steps R))
  pub once : Distinct (solved_unknowns (solutions (final R)))
  -- following solutions always ends, and never leads back
  pub ends : (k : ℕ) → Acc (Follows (solutions (final R))) k
  pub never_back : (k : ℕ) → Leads (solutions (final R)) k k → ⊥
  -- every type can be written out in full, in one way
  pub written : (t : Ty) → (u : Ty) × InFull (solutions (final R)) t u
  pub one_way : (t u v : Ty) → InFull (solutions (final R)) t u → InFull (solutions (final R)) t v → u ≡ v
  -- no solution written out in full has a quantifier
  pub monotypes : All (λ x. (u : Ty) → InFull (solutions (final R)) (value x) u → Quantifierless u) (solutions (final R))
  -- accepted: the board is empty; every entry that stood on it at the start or was pushed has been taken, each once
  pub empty : end R ≡ accepted → board (final R) ≡ []
  pub all-taken : end R ≡ accepted → (p : Entry → Bool) → count p (taken (steps R)) ≡ count p (board start ++ pushes (events (steps R)))
  -- accepted and plain: the two types of every comparison taken are one and the same
  pub same : end R ≡ accepted → plain ≡ true → All (Same (solutions (final R))) (taken (steps R))
  -- 16 is never the end
  pub never-16 : (ts : Ty) → end R ≢ refused_by TypeUnificationError ts
