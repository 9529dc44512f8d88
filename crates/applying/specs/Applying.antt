-- What the code of InfApp and Var cites. Assumes nothing: these are definitions.
use Rattle.std.specs.Prelude.{◌≡◌, List, ℕ, ◌*◌, ◌≤◌, length, Option, None, Some}
use Rattle.std.proofs.lemmas.List.Edits.{sets}
use Rattle.nodes.specs.Nodes.{node, Ty, words}
use Rattle.sheet.specs.Plan.{plan_of, declarations, bindings_in, lookup}
use Rattle.sheet.specs.Rows.{rows, Ended}
use Rattle.sheet.specs.Form.{Formed}
use Rattle.judgment.specs.Types.{View, is_arrow, is_app, is_forall, is_unknown, is_other, view}
use Rattle.judgment.specs.Board.{find_var}
use Rattle.judgment.specs.Rules.{Env}
use Rattle.judgment.specs.Result.{env_of}
use Rattle.board.specs.Board.{entries_of, Stacked}
use Rattle.operations.specs.declared.Run.{Run}
use Rattle.operations.specs.State.{Bookable}
use Rattle.subtyping.specs.Subtyping.{opened_at, twice_report}

-- the data constructors and context variables on a sheet
abbrev pub env_on : List ℕ → Env
env_on s = env_of (plan_of (rows s))

-- the type of the sheet's entry of kind k and name x
abbrev pub entry_in : ℕ → ℕ → List ℕ → Option Ty
entry_in k x s = lookup x (bindings_in k (rows s) (declarations (rows s) 0 0))

-- ---- every word of the rooms after, of which rep and out are those before
-- a function applied, by the view of its type, which stands at the front of the report; u is the next fresh number
abbrev pub apply_report : List ℕ → ℕ → View → List ℕ
apply_report rep u (is_arrow a b) = rep
apply_report rep u (is_app a b) = rep
apply_report rep u (is_forall x b) = opened_at rep 2 x (node 17 u) b
apply_report rep u (is_unknown k) = rep
apply_report rep u is_other = rep

-- InfApp of types that are f and t when written out
abbrev pub app_report : List ℕ → Run → Ty → Ty → ℕ → List ℕ
app_report rep c f t w = twice_report rep c f t w (λ out. apply_report out c.counters.fresh (view f))

-- the type that a Var is found to have is copied to the front
abbrev pub found_out : List ℕ → Option Ty → List ℕ
found_out out None = out
found_out out (Some t) = sets out 0 (words t)

-- ---- what a call asks
-- room to copy the type of any Var on the board
abbrev pub VarsFit : List ℕ → Run → List ℕ → List ℕ → Type 0
VarsFit b c s out = (x : ℕ) (u : Ty) → find_var x (entries_of (rows s) b c.counters.board.entries) ≡ Some u → 2 * length u ≤ length out

-- A sheet with types on its entries, room to copy any of them or any of the board's, and the taken type: the tn nodes
-- at the front of t.
pub record VarAsk (b : List ℕ) (c : Run) (s out t : List ℕ) (tn : ℕ) : Type 0 where
  pub formed : Bookable b c
  pub board : Stacked b c.counters.board
  pub sheet : Formed (rows s)
  pub ended : Ended s
  pub lines : 2 * length (rows s) ≤ length out
  pub vars : VarsFit b c s out
  pub type : 2 * tn ≤ length t
