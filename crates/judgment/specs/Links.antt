-- Chains of solved unknowns, and the most links that one has. Assumes nothing: these are definitions.
use Rattle.std.specs.Prelude.{ℕ, zero, suc, ◌≤◌, ◌≡◌, Bool, true, false, ◌&&◌, List, [], ◌∷◌, ◌++◌, length, Option, None, Some}
use Rattle.nodes.specs.Nodes.{Ty}
use Rattle.judgment.specs.Types.{unknown, con, occurs}
use Rattle.judgment.specs.Solutions.{◌≔◌, Solutions, find}
use Rattle.judgment.specs.Board.{State, state}
use Rattle.judgment.specs.Run.{Step, step, Run, run}

-- there is a solution, and the unknown that comes next, if one does, is in it
abbrev pub leads_on : Option Ty → List ℕ → Bool
leads_on None ks = false
leads_on (Some s) [] = true
leads_on (Some s) (k ∷ ks) = occurs k s

-- Unknowns that are solved, each in the solution of the one before. Each is followed into its solution: so many links.
unfoldable pub is_chain : Solutions → List ℕ → Bool
is_chain σ [] = true
is_chain σ (k ∷ ks) = leads_on (find k σ) ks && is_chain σ ks

-- no chain passes m links
abbrev pub LinksUpTo : ℕ → Solutions → Type 0
LinksUpTo m σ = (ks : List ℕ) → is_chain σ ks ≡ true → length ks ≤ m

-- no chain in such solutions passes m links, and one has as many
pub record Longest (Such : Solutions → Type 0) (m : ℕ) : Type 0 where
  pub most : (σ : Solutions) → Such σ → LinksUpTo m σ
  pub met : (σ : Solutions) × Such σ × ((ks : List ℕ) × (is_chain σ ks ≡ true) × (length ks ≡ m))

-- the chain 0 → 1 → … → n, and the same with n → Int
unfoldable pub risen : ℕ → Solutions
risen zero = []
risen (suc n) = risen n ++ (◌≔◌ n (unknown (suc n)) ∷ [])

abbrev pub chained : ℕ → Solutions
chained n = risen n ++ (◌≔◌ n (con 1) ∷ [])

-- the states of a run: those that its entries were taken from, and the last
abbrev states_from : List Step → State → List State
states_from [] last = last ∷ []
states_from (step s e os o ∷ ss) last = s ∷ states_from ss last

abbrev pub states : Run → List State
states (run ss d last) = states_from ss last

-- how many numbers were made
abbrev pub counter : State → ℕ
counter (state Γ σ n) = n
