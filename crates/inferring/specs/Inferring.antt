-- What the code of Inf asks, and what it leaves. Assumes nothing: these are definitions.
use Rattle.std.specs.Prelude.{◌≡◌, Bool, true, false, ◌||◌, List, [], ◌∷◌, ℕ, ◌+◌, ◌*◌, ◌≤◌, ◌<◌, eqb, length, get_or}
use Rattle.sizes.specs.Sizes.{most_lines}
use Rattle.nodes.specs.Nodes.{nodes_at}
use Rattle.spelling.specs.declared.Triple.{Triple}
use Rattle.kinds.specs.Kinds.{a_term}
use Rattle.sheet.specs.Plan.{no_triple}
use Rattle.sheet.specs.Rows.{rows, Ended}
use Rattle.sheet.specs.Form.{IsPart, Formed}
use Rattle.judgment.specs.Terms.{term_view}
use Rattle.judgment.specs.Rules.{infer_by}
use Rattle.judgment.specs.Result.{Way}
use Rattle.board.specs.Board.{term_at}
use Rattle.operations.specs.declared.Run.{Run}
use Rattle.operations.specs.State.{Bookable, WellFormed, Does}
use Rattle.patterns.specs.Turns.{Ready}
use Rattle.applying.specs.Applying.{env_on, VarsFit}

-- room for a type of the sheet, and for the Arrow of a Lambda's
abbrev pub TypeFits : List ℕ → List ℕ → Type 0
TypeFits s l = 2 * length (rows s) + 2 ≤ length l

-- A whole term from this line of the sheet on, the taken type at the front of t, room for a type of the sheet or of a
-- Var.
pub record InferAsk (b : List ℕ) (c : Run) (s : List ℕ) (line : ℕ) (t : List ℕ) (tn : ℕ) (l : List ℕ) : Type 0 where
  pub formed : Bookable b c
  pub ready : Ready b c
  pub sheet : Formed (rows s)
  pub ended : Ended s
  pub few : length (rows s) ≤ most_lines
  pub stands : line < length (rows s)
  pub term : IsPart a_term (term_at (rows s) line).lines
  pub within : 2 * tn ≤ length t
  pub left : TypeFits s l
  pub vars : VarsFit b c s l

-- room for a second type, and for the frames and bindings of a Case's patterns
pub record CaseRoom (s r w v : List ℕ) : Type 0 where
  pub right : 2 * length (rows s) + 2 ≤ length r
  pub frames : 6 * length (rows s) + 12 ≤ length w
  pub bound : 6 * length (rows s) + 6 ≤ length v

-- one of the lines is that of a Case
unfoldable pub has_case : List Triple → Bool
has_case [] = false
has_case (t ∷ ts) = eqb t.kind 27 || has_case ts

-- that room, where the sheet has a Case: a sheet without one may lend none
abbrev pub CaseLent : List ℕ → List ℕ → List ℕ → List ℕ → Type 0
CaseLent s r w v = has_case (rows s) ≡ true → CaseRoom s r w v

-- the kind of a line
abbrev pub kind_at : List ℕ → ℕ → ℕ
kind_at s at = (get_or (rows s) at no_triple).kind

-- the same of a term of kind k, without the scratch
pub record TermAsk (k : ℕ) (b : List ℕ) (c : Run) (s : List ℕ) (at : ℕ) (t : List ℕ) (tn : ℕ) : Type 0 where
  pub formed : Bookable b c
  pub ready : Ready b c
  pub sheet : Formed (rows s)
  pub ended : Ended s
  pub few : length (rows s) ≤ most_lines
  pub stands : at < length (rows s)
  pub term : IsPart a_term (term_at (rows s) at).lines
  pub within : 2 * tn ≤ length t
  pub kind : kind_at s at ≡ k

-- Inf of the term that starts at line `at`, on a board that was b
abbrev pub Infers : List ℕ → Run → List ℕ → ℕ → List ℕ → ℕ → List ℕ → Run → Type 0
Infers b c s at t tn b' o =
    (m : Way) (k rep : List ℕ) → WellFormed b k c → Does m (rows s) b k rep c (infer_by (env_on s) (nodes_at t 0 tn) (term_view (term_at (rows s) at))) b' k rep o
