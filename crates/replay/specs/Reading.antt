-- What a function that reads numbers of a line returns and leaves. Assumes nothing: these are definitions.
use Rattle.std.specs.Prelude.{◌≡◌, ℕ, ◌+◌, ◌≤◌, List, Option, Some, None}
use Rattle.sizes.specs.Sizes.{book_size, usual_report}
use Rattle.replay.specs.declared.record.Loan.{Loan}
use Rattle.replay.specs.declared.record.Plan.{Plan}
use Rattle.replay.specs.Parsing.{Parse, fails, gives}
use Rattle.replay.specs.Recorded.{book_from, sheet_room, Bytes, Solved, Record}

-- o is what the text says, f x where x is returned, and t what is left of the text
abbrev pub ReadsAs : {A B : Type 0} → (B → A) → Parse A → Option B → List ℕ → Type 0
ReadsAs f o (Some x) t = o ≡ gives (f x) t
ReadsAs f o None t = o ≡ fails

abbrev pub Reads : {A : Type 0} → Parse A → Option A → List ℕ → Type 0
Reads o r t = ReadsAs (λ x. x) o r t

-- what was read stands in a buffer, w
abbrev pub Writes : Parse (List ℕ) → Option (Unit {0}) → List ℕ → List ℕ → Type 0
Writes o r w t = ReadsAs (λ x. w) o r t

-- a count is returned, and the rest stands in a buffer
abbrev pub solved_in : List ℕ → ℕ → Solved
solved_in w n = record { nodes = n; words = w }

abbrev pub bytes_in : List ℕ → ℕ → Bytes
bytes_in s n = record { buffer = s; count = n }

abbrev pub record_in : List ℕ → List ℕ → Plan → Record
record_in s w p = record { plan = p; sheet = s; want = w }

-- the words that are lent are there
pub record LoanIn (x : Loan) : Type 0 where
  pub board : x.board ≤ book_from
  pub book : x.book ≤ book_size + 8
  pub report : x.report ≤ usual_report + 4

-- and so are the sheet's bytes
pub record PlanIn (p : Plan) : Type 0 where
  pub loan : LoanIn p.loan
  pub bytes : p.bytes ≤ sheet_room
