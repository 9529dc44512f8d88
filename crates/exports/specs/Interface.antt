-- What the calls of the interface give, its number, and what its sizes are held to. Assumes nothing: these are definitions.
use Rattle.std.specs.Prelude.{ℕ, ◌-◌, ◌%◌, ◌≤◌, ◌≡◌, true, false, cond, ◌||◌, List, [], ltb, eqb, length}
use Rattle.sizes.specs.Sizes.{sheet_bytes}
use Rattle.grammar.specs.Grammar.{sub_term}
use Rattle.grammar.specs.Check.{length_ok}
use Rattle.judgment.specs.declared.Answer.{Answer}
use Rattle.judgment.specs.Levels.{Mode}
use Rattle.judgment.specs.Result.{Buffers, numbers, too_short, call}
use Rattle.checker.specs.Answered.{Answered}
use Rattle.writing.specs.Writing.{Written}

-- an entry call gives the checker's answer, with the promise of the run that it is read off: r is the first of its seven numbers
pub record Given (m : Mode) (s : List ℕ) (c w : ℕ) (before : Buffers) (r : ℕ) (seven : List ℕ) (after : Buffers) : Type 0 where
  pub answer : Answer
  pub answered : Answered m s c w before answer after
  pub all : seven ≡ numbers answer
  pub first : r ≡ answer.number

-- the writer gives its own, with what that means: r is the first of its seven numbers
pub record GivenSheet (ws before : List ℕ) (r : ℕ) (seven after : List ℕ) : Type 0 where
  pub answer : Answer
  pub answered : Written ws before answer after
  pub all : seven ≡ numbers answer
  pub first : r ≡ answer.number

-- the lines of the term that starts at a line, of bytes that are no more than a sheet's; lines are numbered from 1
abbrev pub term_on : List ℕ → ℕ → List ℕ
term_on s line = cond (ltb sheet_bytes (length s)) [] (cond (eqb line 0) [] (sub_term s (line - 1)))

-- the number of the interface; it rises with every change that a caller has to follow
abbrev pub version : ℕ
version = 6

-- refusal 2 is, with this limit, for buffers of which one has fewer words than these
abbrev pub Least : ℕ → ℕ → ℕ → ℕ → Type 0
Least limit board book report = (b : Buffers) → too_short limit b ≡ (ltb (length b.board) board || (ltb (length b.book) book || ltb (length b.report) report))

-- refusal 1 is, by either call, for the ceilings above this one
abbrev pub Highest : ℕ → Type 0
Highest n = (m : Mode) (s : List ℕ) (c w : ℕ) (b : Buffers) → eqb (call m s c w b).answer.number 1 ≡ ltb n c

-- refusal 32 is, where refusal 1 is not, for the limit 0 and those above this one
abbrev pub HighestLimit : ℕ → Type 0
HighestLimit n = (m : Mode) (s : List ℕ) (c w : ℕ) (b : Buffers) → eqb (call m s c w b).answer.number 1 ≡ false → eqb (call m s c w b).answer.number 32 ≡ (eqb w 0 || ltb n w)

-- a sheet may be so long, and none longer
abbrev pub Longest : ℕ → Type 0
Longest n = (length_ok n ≡ true) × ((m : ℕ) → length_ok m ≡ true → m ≤ n)

-- a sheet may be one line of so many bytes, and all are such lines
abbrev pub OneLine : ℕ → Type 0
OneLine n = (length_ok n ≡ true) × ((m : ℕ) → length_ok m ≡ true → m % n ≡ 0)
