-- What the contracts of the replay cite. Assumes nothing: these are definitions.
use Rattle.std.specs.Prelude.{◌≡◌, ℕ, ◌+◌, ◌%◌, ◌^◌, Bool, true, false, List, [], ◌∷◌, ◌++◌, take, drop, ◌==◌}
use Rattle.replay.specs.declared.Counts.{Counts}
use Rattle.sizes.specs.Sizes.{book_size, usual_report}
use Rattle.judgment.specs.Result.{Buffers, Called, call, numbers}
use Rattle.operations.specs.State.{mode_of}
use Rattle.replay.specs.declared.record.Loan.{Loan}
use Rattle.replay.specs.declared.record.Plan.{Plan}
use Rattle.replay.specs.declared.room.Room.{Room}
use Rattle.replay.specs.declared.room.Verdict.{Verdict}
use Rattle.replay.specs.declared.room.Verdict.TheVariants.{Same, Differs, Malformed}
use Rattle.replay.specs.Parsing.{fails, gives}
use Rattle.replay.specs.Recorded.{book_from, report_from, seven_from, dirt, Record, recorded}

-- ---- the call that a record names
abbrev pub buffers_of : Room → Buffers
buffers_of x = record { board = x.board; book = x.book; report = x.report }

-- the words that are lent of them
abbrev pub lent_of : Loan → Buffers → Buffers
lent_of x b = record { board = take x.board b.board; book = take x.book b.book; report = take x.report b.report }

-- those that were lent, with the others behind them
abbrev pub given_back : Loan → Buffers → Buffers → Buffers
given_back x a b = record { board = a.board ++ drop x.board b.board; book = a.book ++ drop x.book b.book; report = a.report ++ drop x.report b.report }

-- the plan's call on the first bytes of s, and the whole buffers after it
abbrev pub called_on : List ℕ → Plan → Buffers → Called
called_on s p b = call (mode_of p.strict) (take p.bytes s) p.ceiling p.loan.limit (lent_of p.loan b)

abbrev pub left_by : List ℕ → Plan → Buffers → Buffers
left_by s p b = given_back p.loan (called_on s p b).after b

-- the words wanted: the board's, the book's, the report's, the seven numbers
pub record Wanted (seven board book report want : List ℕ) : Type 0 where
  pub board-wanted : board ≡ take book_from want
  pub book-wanted : book ≡ take (book_size + 8) (drop book_from want)
  pub report-wanted : report ≡ take (usual_report + 4) (drop report_from want)
  pub seven-wanted : seven ≡ take 7 (drop seven_from want)

-- every number and every word after the call is as wanted
abbrev pub AsWanted : List ℕ → Plan → Buffers → List ℕ → Type 0
AsWanted s p b want =
    Wanted (numbers (called_on s p b).answer) (left_by s p b).board (left_by s p b).book (left_by s p b).report want

-- the buffers before a call
unfoldable pub dirty : Buffers
dirty = record { board = dirt book_from; book = dirt (book_size + 8); report = dirt (usual_report + 4) }

-- as recorded
pub record Holds (r : Record) : Type 0 where
  pub holds : AsWanted r.sheet r.plan dirty r.want

-- ---- the verdict on a line: a record that holds, one that does not, none
pub record Judged (T : Record → Type 0) (l : List ℕ) : Type 0 where
  pub which : Record
  pub says : recorded l ≡ gives which []
  pub judged : T which

abbrev pub VerdictOf : List ℕ → Verdict → Type 0
VerdictOf l Same = Judged Holds l
VerdictOf l Differs = Judged (λ r. Holds r → ⊥) l
VerdictOf l Malformed = recorded l ≡ fails

-- ---- counts
abbrev pub more : ℕ → ℕ
more n = (n + 1) % 2 ^ 64

abbrev pub counted : Counts → Verdict → Counts
counted c Same = record { plans = more c.plans; same = more c.same; differing = c.differing; malformed = c.malformed }
counted c Differs = record { plans = more c.plans; same = c.same; differing = more c.differing; malformed = c.malformed }
counted c Malformed = record { plans = more c.plans; same = c.same; differing = c.differing; malformed = more c.malformed }

-- a line that begins with # is no record
abbrev pub is_comment : List ℕ → Bool
is_comment [] = false
is_comment (b ∷ t) = b == 35

-- the counts after a line that is no comment
pub record Counted (l : List ℕ) (c r : Counts) : Type 0 where
  pub verdict : Verdict
  pub right : VerdictOf l verdict
  pub counts : r ≡ counted c verdict

abbrev pub Replayed : List ℕ → Counts → Counts → Type 0
Replayed l c r = (is_comment l ≡ true → r ≡ c) × (is_comment l ≡ false → Counted l c r)
