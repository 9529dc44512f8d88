-- What the code of Chk leaves in the rooms that it is lent, and what it asks. Assumes nothing: these are definitions.
use Rattle.std.specs.Prelude.{◌≡◌, Bool, cond, ◌&&◌, List, ℕ, ◌+◌, ◌*◌, ◌-◌, ◌≤◌, ◌<◌, length, Option, None, Some}
use Rattle.std.proofs.lemmas.List.Edits.{sets}
use Rattle.sizes.specs.Sizes.{most_lines, most_nodes}
use Rattle.nodes.specs.Nodes.{node, Ty, words}
use Rattle.kinds.specs.Kinds.{a_term}
use Rattle.sheet.specs.Rows.{rows, Ended}
use Rattle.sheet.specs.Form.{IsPart}
use Rattle.judgment.specs.Types.{View, is_arrow, is_app, is_forall, is_unknown, is_other}
use Rattle.judgment.specs.Terms.{Lambda}
use Rattle.board.specs.Board.{term_at, Stacked, fitting_three}
use Rattle.operations.specs.declared.Run.{Run}
use Rattle.operations.specs.State.{Bookable, going}
use Rattle.subtyping.specs.Subtyping.{opened_at}
use Rattle.inference.specs.Inference.{next_at}

-- the three entries of a Lambda whose type has an nodes, checked against an Arrow of tn nodes, fit on the board of a
-- run that goes on
abbrev pub all_fit : Run → ℕ → ℕ → Bool
all_fit c an tn = going c.halt && fitting_three c.counters.board (2 * an + (tn - 1))

-- ---- every word of the rooms after, of which t and out are those before; T is the taken type
-- the taken type is copied to the front
abbrev pub copied_type : List ℕ → Ty → List ℕ
copied_type t T = sets t 0 (words T)

-- of an Arrow, unless a Lambda takes its parts where they stand
abbrev pub arrow_type : List ℕ → Run → Ty → Option Lambda → List ℕ
arrow_type t c T None = copied_type t T
arrow_type t c T (Some f) = cond (all_fit c (length f.type) (length T)) t (copied_type t T)

-- by its view: a Forall is opened in place
abbrev pub checked_type : List ℕ → Run → Ty → Option Lambda → View → List ℕ
checked_type t c T f (is_arrow a b) = arrow_type t c T f
checked_type t c T f (is_app a b) = copied_type t T
checked_type t c T f (is_forall x b) = opened_at (copied_type t T) 2 x (node 18 c.counters.fresh) b
checked_type t c T f (is_unknown k) = copied_type t T
checked_type t c T f is_other = copied_type t T

-- a Lambda's own type is copied to the front, unless it is written to the board at once
abbrev pub arrow_out : List ℕ → Run → Ty → Option Lambda → List ℕ
arrow_out out c T None = out
arrow_out out c T (Some f) = cond (all_fit c (length f.type) (length T)) out (sets out 0 (words f.type))

-- the same, by the view of the taken type: against an Arrow alone
abbrev pub checked_out : List ℕ → Run → Ty → Option Lambda → View → List ℕ
checked_out out c T f (is_arrow a b) = arrow_out out c T f
checked_out out c T f (is_app a b) = out
checked_out out c T f (is_forall x b) = out
checked_out out c T f (is_unknown k) = out
checked_out out c T f is_other = out

-- ---- what a call asks
-- A whole term from this line of the sheet on, the taken type on the board where the next entry's types go, and room to
-- copy it and any type of the sheet.
pub record CheckAsk (b : List ℕ) (c : Run) (s : List ℕ) (line at tn : ℕ) (t out : List ℕ) : Type 0 where
  pub formed : Bookable b c
  pub board : Stacked b c.counters.board
  pub ended : Ended s
  pub stands : line < length (rows s)
  pub few : length (rows s) ≤ most_lines
  pub term : IsPart a_term (term_at (rows s) line).lines
  pub place : at ≡ next_at c
  pub within : at + 2 * tn ≤ length b
  pub short : tn ≤ most_nodes
  pub type : 2 * tn ≤ length t
  pub room : 2 * length (rows s) ≤ length out
