-- What is told of a sheet. Assumes nothing: these are definitions.
use Rattle.std.specs.Prelude.{◌≡◌, List, ℕ, ◌≤◌, length, take, Result, Ok, Err}
use Rattle.std.specs.Borrow.{MutBor}
use Rattle.sizes.specs.Sizes.{highest_ceiling, usual_limit}
use Rattle.judgment.specs.Levels.{first_call}
use Rattle.judgment.specs.Result.{Buffers, Called, call}
use Rattle.columns.specs.Columns.{answer_text}
use Rattle.telling.specs.declared.Desk.{Desk}

-- the buffers of a desk
abbrev pub lent : Desk → Buffers
lent d = record { board = d.board.now; book = d.book.now; report = d.report.now }

-- a desk holds the slices that it held, as long as they were
abbrev pub SameSlice : MutBor (List ℕ) → MutBor (List ℕ) → Type 0
SameSlice s t = (t.ghost_name ≡ s.ghost_name) × (length t.now ≡ length s.now)

abbrev pub SameLent : Desk → Desk → Type 0
SameLent d e = SameSlice d.board e.board × SameSlice d.book e.book × SameSlice d.report e.report

-- the call with the highest ceiling and document 01's limit
abbrev pub called : List ℕ → Buffers → Called
called s b = call first_call s highest_ceiling usual_limit b

-- t is the text of its seven numbers, and the buffers after it are `after`
pub record Told (s : List ℕ) (b : Buffers) (t : List ℕ) (after : Buffers) : Type 0 where
  pub text : t ≡ answer_text (called s b).answer
  pub buffers : after ≡ (called s b).after

-- of the first n bytes of s; where they could not be read, the text t and the buffers are as they were
abbrev pub ToldOf : {E : Type 0} → Result ℕ E → List ℕ → Buffers → List ℕ → List ℕ → Buffers → Type 0
ToldOf (Ok n) s b t u after = (n ≤ length s) × Told (take n s) b u after
ToldOf (Err e) s b t u after = (u ≡ t) × (after ≡ b)
