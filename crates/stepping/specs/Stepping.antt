-- One step: which outcome of the definition's run stands in the words before and after it, and what it asks. Assumes
-- nothing: these are definitions.
use Rattle.std.specs.Prelude.{◌≡◌, Bool, true, List, ℕ, ◌+◌, ◌*◌, ◌≤◌, ◌<◌, max, length, Ok}
use Rattle.sizes.specs.Sizes.{most_nodes, board_size}
use Rattle.nodes.specs.Nodes.{nodes_at}
use Rattle.nodes.specs.Lists.{All}
use Rattle.spelling.specs.declared.Triple.{Triple}
use Rattle.kinds.specs.Kinds.{a_term}
use Rattle.grammar.specs.Check.{check}
use Rattle.sheet.specs.Plan.{triples}
use Rattle.sheet.specs.Rows.{rows, Ended}
use Rattle.sheet.specs.Form.{IsPart}
use Rattle.judgment.specs.Solutions.{value}
use Rattle.judgment.specs.Board.{Entry, tvar, var, sub, inf, chk, inf_app}
use Rattle.judgment.specs.Chain.{step_o, step_l}
use Rattle.judgment.specs.Rules.{rule}
use Rattle.judgment.specs.Result.{limits_in}
use Rattle.judgment.specs.Good.{StateOK}
use Rattle.judgment.specs.Short.{EntryShort}
use Rattle.board.specs.declared.Top.{Top}
use Rattle.board.specs.Board.{entry_of, entries_of, top_of}
use Rattle.book.specs.Book.{sols, levels_of}
use Rattle.operations.specs.declared.Counters.{Counters}
use Rattle.operations.specs.declared.Run.{Run}
use Rattle.operations.specs.State.{outcome_of, WellFormed, going, perform_w, way_in}
use Rattle.stepping.specs.declared.Kept.{Kept}
use Rattle.subtyping.specs.Subtyping.{Sound}
use Rattle.inference.specs.Inference.{next_at}
use Rattle.applying.specs.Applying.{env_on}
use Rattle.inferring.specs.Inferring.{TypeFits, CaseLent}
use Rattle.stepping.specs.Rooms.{Room, judged_room}

-- ---- what a run has beside its counters, and the run with these
abbrev pub run_with : Counters → Kept → Run
run_with n k = record { counters = n; book = k.book; halt = k.halt }

abbrev pub kept_of : Run → ℕ → Bool → Kept
kept_of r m strict = record { book = r.book; halt = r.halt; limit = m; strict = strict }

-- ---- what a step asks
-- the rows of a sheet that is taken
pub record Read (d : List ℕ) : Type 0 where
  pub sheet : List ℕ
  pub plan : check sheet ≡ Ok tt
  pub same : rows d ≡ triples sheet
  pub ended : Ended d

-- the nodes that no type on the board passes, in a run that writes out at most m: as many, or as the sheet has lines
abbrev pub longest : ℕ → List ℕ → ℕ
longest m s = max m (length (rows s))

-- the room that the rules are lent: for two types, and for a Case where the sheet has one
pub record Lent (m : ℕ) (s t l r w v : List ℕ) : Type 0 where
  pub type : 2 * longest m s ≤ length t
  pub left : 2 * longest m s ≤ length l
  pub lines : TypeFits s l
  pub room : CaseLent s r w v

abbrev pub top_entry : List Triple → List ℕ → Top → Entry
top_entry ls b o = entry_of ls o.kind o.number (nodes_at b o.at o.left) (nodes_at b (o.at + 2 * o.left) o.right)

-- an entry's types and its term, as far as its rule asks for them
abbrev pub EntrySound : ℕ → Entry → Type 0
EntrySound n (tvar x) = Unit {0}
EntrySound n (var x t) = Unit {0}
EntrySound n (sub s t) = Sound n s × Sound n t
EntrySound n (inf e t) = IsPart a_term e.lines
EntrySound n (chk e t) = IsPart a_term e.lines
EntrySound n (inf_app f e t) = Sound n f × Sound n t

-- the entry `o`, taken off the board, in a run that writes out at most m nodes
pub record JudgeAsk (m : ℕ) (s b k rep : List ℕ) (c : Run) (o : Top) (t l r w v : List ℕ) : Type 0 where
  pub plan : Read s
  pub formed : WellFormed b k c
  pub place : o.at ≡ next_at c
  pub within : o.at + 2 * (o.left + o.right) ≤ board_size
  pub few : o.left + o.right ≤ most_nodes
  pub limit : m ≤ most_nodes
  pub report : 4 * m ≤ length rep
  pub lent : Lent m s t l r w v
  pub entry : EntrySound c.counters.fresh (top_entry (rows s) b o)
  pub short : EntryShort (longest m s) (top_entry (rows s) b o)
  pub others : All (EntryShort (longest m s)) (entries_of (rows s) b c.counters.board.entries)
  pub solutions : All (λ x. Sound c.counters.fresh (value x)) (sols k)

-- what stands in the words is a good state, with short types
pub record Standing (m : ℕ) (s b k : List ℕ) (c : Run) : Type 0 where
  pub plan : Read s
  pub formed : WellFormed b k c
  pub good : StateOK ⊥ (entries_of (rows s) b c.counters.board.entries) (sols k) c.counters.fresh
  pub short : All (EntryShort (longest m s)) (entries_of (rows s) b c.counters.board.entries)

-- the run once its newest entry was taken
abbrev pub taking : Run → Top → Run
taking c o = record { counters = record { taken = c.counters.taken + 1; fresh = c.counters.fresh; board = o.rest }; book = c.book; halt = c.halt }

-- One step of the definition, by the strict call or the first, from the words before to those after; and every word
-- after it: of board and book as the rule's operations leave them, of the report and the room (x and x' hold them before
-- and after) as the taken entry has it.
pub record Stepping (strict : Bool) (m : ℕ) (s b k : List ℕ) (c : Run) (x : Room) (b' k' : List ℕ) (q : Run) (x' : Room) : Type 0 where
  pub standing : Standing m s b' k' q
  pub outcome : outcome_of (rows s) b' k' x'.report q ≡ step_o (limits_in (way_in strict m k)) (env_on s) (outcome_of (rows s) b k x.report c)
  pub levels : levels_of k' ≡ step_l (limits_in (way_in strict m k)) (env_on s) (outcome_of (rows s) b k x.report c) (levels_of k)
  pub taken : q.counters.taken ≡ c.counters.taken + 1
  pub words : record { board = b'; book = k'; run = q } ≡ perform_w (way_in strict m k) (rows s) (rule (env_on s) (top_entry (rows s) b (top_of b c.counters.board))) (record { board = b; book = k; run = taking c (top_of b c.counters.board) })
  pub room : x' ≡ judged_room m s b k (taking c (top_of b c.counters.board)) (top_of b c.counters.board) x

pub record StepAsk (m : ℕ) (s b k rep : List ℕ) (c : Run) (t l r w v : List ℕ) : Type 0 where
  pub standing : Standing m s b k c
  pub goes : going c.halt ≡ true
  pub more : 0 < c.counters.board.entries
  pub counts : c.counters.taken < 4294967295
  pub limit : m ≤ most_nodes
  pub report : 4 * m ≤ length rep
  pub lent : Lent m s t l r w v
