-- What the functions under the entry call ask and leave. Assumes nothing: these are definitions.
use Rattle.grammar.specs.declared.SheetError.{SheetError}
use Rattle.std.specs.Prelude.{◌≡◌, true, List, ℕ, ◌+◌, ◌*◌, ◌/◌, ◌≤◌, length, Result, Ok, Err}
use Rattle.std.proofs.lemmas.List.Edits.{sets}
use Rattle.sizes.specs.Sizes.{line_length, highest_limit, board_size, book_size, report_stride}
use Rattle.grammar.specs.Check.{length_ok, check_number, check_line}
use Rattle.sheet.specs.Rows.{rows}
use Rattle.judgment.specs.declared.Answer.{Answer}
use Rattle.judgment.specs.Result.{Judged, refused_at, board_words, book_words, report_words}
use Rattle.inferring.specs.Inferring.{TypeFits, has_case}
use Rattle.stepping.specs.Stepping.{Read, longest, Lent}

-- the buffers of a sheet that is taken, before its run
pub record StartAsk (s b k t : List ℕ) : Type 0 where
  pub plan : Read s
  pub board : board_size ≤ length b
  pub book : book_size ≤ length k
  pub type : 2 * length (rows s) ≤ length t

-- what the run of a plan that was read asks, with a limit of written-out types: the buffers at their own lengths
pub record PlanAsk (limit : ℕ) (d b k rep t l r w v : List ℕ) : Type 0 where
  pub plan : Read d
  pub limited : limit ≤ highest_limit
  pub board : length b ≡ board_size
  pub book : length k ≡ book_size
  pub report : length rep ≡ report_stride * limit
  pub lent : Lent limit d t l r w v

-- the same without room
pub record ReadAsk (limit : ℕ) (d b k rep : List ℕ) : Type 0 where
  pub plan : Read d
  pub limited : limit ≤ highest_limit
  pub board : length b ≡ board_size
  pub book : length k ≡ book_size
  pub report : length rep ≡ report_stride * limit

-- with room for types, and none for a Case
pub record TypedAsk (limit : ℕ) (d b k rep t l : List ℕ) : Type 0 where
  pub read : ReadAsk limit d b k rep
  pub type : 2 * longest limit d ≤ length t
  pub left : 2 * longest limit d ≤ length l
  pub lines : TypeFits d l

-- room of so many words for a Case, where the sheet has one: for a type, for the frames, for the bindings
abbrev pub CaseFits : List ℕ → ℕ → ℕ → ℕ → Type 0
CaseFits d type frames bindings =
    has_case (rows d) ≡ true → (2 * length (rows d) + 2 ≤ type) × (6 * length (rows d) + 12 ≤ frames) × (6 * length (rows d) + 6 ≤ bindings)

-- the same of a sheet that is still to be read, of a length that a sheet may have
pub record RunAsk (limit : ℕ) (s b k rep : List ℕ) : Type 0 where
  pub sized : length_ok (length s) ≡ true
  pub limited : limit ≤ highest_limit
  pub board : length b ≡ board_size
  pub book : length k ≡ book_size
  pub report : length rep ≡ report_stride * limit

-- and rows for its lines
pub record RowsAsk (limit : ℕ) (s b k rep d : List ℕ) : Type 0 where
  pub run : RunAsk limit s b k rep
  pub rows : length d ≡ 4 * (length s / line_length)

-- the answer and every word of the buffers
pub record Ran (limit : ℕ) (o : Judged) (b k rep : List ℕ) (a : Answer) : Type 0 where
  pub answer : a ≡ o.answer
  pub board : b ≡ board_words
  pub book : k ≡ book_words o.solutions o.levels o.answer.fresh
  pub report : rep ≡ report_words limit o.report

-- a sheet that is refused: document 01's number and line, and nothing written
pub record Kept (v : Result Unit SheetError) (b k rep b' k' rep' : List ℕ) (a : Answer) : Type 0 where
  pub answer : a ≡ refused_at (check_number v) (check_line v)
  pub board : b' ≡ b
  pub book : k' ≡ k
  pub report : rep' ≡ rep

-- by what the sheet is: a plan is run, another is refused
abbrev pub ByCheck : Result Unit SheetError → Type 0 → Type 0 → Type 0
ByCheck (Ok _) ran kept = ran
ByCheck (Err e) ran kept = kept

-- what is asked of buffers that may be longer, and what is left of them
pub record FrontAsk (limit : ℕ) (s b k rep : List ℕ) : Type 0 where
  pub sized : length_ok (length s) ≡ true
  pub limited : limit ≤ highest_limit
  pub board : board_size ≤ length b
  pub book : book_size ≤ length k
  pub report : report_stride * limit ≤ length rep

pub record Fronted (limit : ℕ) (o : Judged) (b k rep b' k' rep' : List ℕ) (a : Answer) : Type 0 where
  pub answer : a ≡ o.answer
  pub board : b' ≡ sets b 0 board_words
  pub book : k' ≡ sets k 0 (book_words o.solutions o.levels o.answer.fresh)
  pub report : rep' ≡ sets rep 0 (report_words limit o.report)
