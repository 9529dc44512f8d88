-- What the words of board, book and report and a run's counters stand for, and what an operation leaves of them.
-- Assumes nothing: these are definitions.
use Rattle.std.specs.Prelude.{◌≡◌, ◌≢◌, Bool, true, false, cond, List, ◌∷◌, ℕ, ◌+◌, ◌*◌, ◌-◌, ◌≤◌, ◌<◌, length, eqb, leb, ltb, Option, Some, None}
use Rattle.sizes.specs.Sizes.{most_numbers, book_base}
use Rattle.nodes.specs.Nodes.{Node, node, Ty, kind, number, nodes_at}
use Rattle.nodes.specs.Lists.{All}
use Rattle.spelling.specs.declared.Triple.{Triple}
use Rattle.judgment.specs.declared.TypeError.{TypeError}
use Rattle.judgment.specs.declared.TypeError.TheVariants.{UnboundVariable, UnboundDataConstructor, NotAFunction, ArityMismatch, SubtypingError, TypeUnificationError, InstantiationError, IntrinsicArityMismatch, UnknownIntrinsic, BoardFull, TypeTooLong, NoFreshNumber, SolutionsFull, OutOfScope}
use Rattle.judgment.specs.Solutions.{write_out, solved_unknowns}
use Rattle.judgment.specs.Board.{Entry, Origin, own, universal, splits, Rule, done, refuse, fresh, push, solve, zonk, look, State, state, Outcome, finished, refused}
use Rattle.judgment.specs.Chain.{perform_o, perform_l}
use Rattle.judgment.specs.Result.{error_number, error_details, Way, limits_in, way_of}
use Rattle.judgment.specs.Levels.{Levels, Mode, first_call, strict_call}
use Rattle.judgment.specs.Good.{Free}
use Rattle.board.specs.declared.Board.{Board}
use Rattle.board.specs.Board.{entry_of, entries_of, Stacked, slot_of}
use Rattle.board.specs.Board.{fitting as fits_board, laid, grown as board_grown}
use Rattle.book.specs.declared.Book.{Book}
use Rattle.book.specs.Book.{start_of, sols, level_word_of, level_of, levels_of, levelled, lowered, Booked, wrote, written_to}
use Rattle.book.specs.Book.{fitting as fits_book, given, grown as book_grown}
use Rattle.operations.specs.declared.Halt.{Halt}
use Rattle.operations.specs.declared.Run.{Run}
use Rattle.operations.specs.declared.Zonked.{Zonked}

-- ---- what a state in words stands for
-- how many nodes of types an error reports; they stand at the front of the report
abbrev pub reported : TypeError → ℕ
reported (UnboundVariable x) = 0
reported (UnboundDataConstructor x) = 0
reported (NotAFunction n) = n
reported (ArityMismatch e a) = 0
reported (SubtypingError l r) = l + r
reported TypeUnificationError = 0
reported (InstantiationError k n) = n
reported (IntrinsicArityMismatch a) = 0
reported (UnknownIntrinsic x) = 0
reported BoardFull = 0
reported TypeTooLong = 0
reported NoFreshNumber = 0
reported SolutionsFull = 0
reported OutOfScope = 0

-- a refusal in words: the number of its error and the two details. 0 is none
abbrev pub no_halt : Halt
no_halt = record { number = 0; first = 0; second = 0 }

abbrev pub halt_of : TypeError → Halt
halt_of e = record { number = error_number e; first = (error_details e).0; second = (error_details e).1 }

abbrev pub going : Halt → Bool
going h = eqb h.number 0

-- the error that has these numbers (`error-is` in proofs/Latch.antt: `error_of (halt_of e)` is e)
unfoldable pub error_of : Halt → TypeError
error_of h =
    cond (eqb h.number 11) (UnboundVariable h.first)
    (cond (eqb h.number 12) (UnboundDataConstructor h.first)
    (cond (eqb h.number 13) (NotAFunction h.first)
    (cond (eqb h.number 14) (ArityMismatch h.first h.second)
    (cond (eqb h.number 15) (SubtypingError h.first h.second)
    (cond (eqb h.number 16) TypeUnificationError
    (cond (eqb h.number 17) (InstantiationError h.first h.second)
    (cond (eqb h.number 18) (IntrinsicArityMismatch h.second)
    (cond (eqb h.number 19) (UnknownIntrinsic h.first)
    (cond (eqb h.number 22) BoardFull
    (cond (eqb h.number 23) TypeTooLong
    (cond (eqb h.number 24) NoFreshNumber
    (cond (eqb h.number 39) OutOfScope SolutionsFull))))))))))))

-- why a run was refused, if it was
unfoldable pub refusal_of : Halt → Option TypeError
refusal_of h = cond (going h) None (Some (error_of h))

abbrev pub outcome_by : Option TypeError → List ℕ → State → Outcome
outcome_by None rep s = finished s
outcome_by (Some e) rep s = refused e (nodes_at rep 0 (reported e)) s

abbrev pub state_of : List Triple → List ℕ → List ℕ → Run → State
state_of ls b k c = state (entries_of ls b c.counters.board.entries) (sols k) c.counters.fresh

abbrev pub outcome_of : List Triple → List ℕ → List ℕ → List ℕ → Run → Outcome
outcome_of ls b k rep c = outcome_by (refusal_of c.halt) rep (state_of ls b k c)

-- Kept by every operation, also after a refusal: b and k are the words of board and book. The report may hold anything.
pub record WellFormed (b k : List ℕ) (c : Run) : Type 0 where
  pub board : Stacked b c.counters.board
  pub book : Booked k c.book
  pub numbers : c.counters.fresh ≤ most_numbers
  pub unmade : (j : ℕ) → c.counters.fresh ≤ j → j < most_numbers → (start_of k j < book_base) × (level_word_of k j ≡ 0)  -- a number that is not made has no solution and its own level

-- some book goes with the run
abbrev pub Bookable : List ℕ → Run → Type 0
Bookable b c = (k : List ℕ) × WellFormed b k c

-- ---- the operations on words: a refused run stays as it is
abbrev pub stopped : Run → TypeError → Run
stopped c e = record { counters = c.counters; book = c.book; halt = halt_of e }

abbrev pub refused_run : Run → TypeError → Run
refused_run c e = cond (going c.halt) (stopped c e) c

abbrev pub made : Run → Run
made c = record { counters = record { taken = c.counters.taken; fresh = c.counters.fresh + 1; board = c.counters.board }; book = c.book; halt = c.halt }

abbrev pub fresh_run : Run → Run
fresh_run c = cond (going c.halt) (cond (ltb c.counters.fresh most_numbers) (made c) (stopped c NoFreshNumber)) c

-- the book with the level m for the number that is made
abbrev pub makes : List ℕ → Run → ℕ → List ℕ
makes k c m = cond (going c.halt) (cond (ltb c.counters.fresh most_numbers) (levelled k c.counters.fresh m) k) k

-- a number of its own level needs no word
abbrev pub fresh_words : Origin → List ℕ → Run → List ℕ
fresh_words own k c = k
fresh_words universal k c = makes k c 0
fresh_words (splits x) k c = makes k c (level_of k x)

abbrev pub with_board : Run → Board → Run
with_board c b = record { counters = record { taken = c.counters.taken; fresh = c.counters.fresh; board = b }; book = c.book; halt = c.halt }

-- a push of an entry of n nodes
abbrev pub push_run : Run → ℕ → Run
push_run c n = cond (going c.halt) (cond (fits_board c.counters.board n) (with_board c (board_grown c.counters.board n)) (stopped c BoardFull)) c

abbrev pub push_words : List ℕ → Run → ℕ → ℕ → Ty → Ty → List ℕ
push_words b c kind number t u =
    cond (going c.halt) (cond (fits_board c.counters.board (length t + length u)) (laid b c.counters.board kind number t u) b) b

abbrev pub with_book : Run → Book → Run
with_book c b = record { counters = c.counters; book = b; halt = c.halt }

-- a solution of n nodes, in scope
abbrev pub solve_run : Run → ℕ → Run
solve_run c n = cond (going c.halt) (cond (fits_book c.book n) (with_book c (book_grown c.book n)) (stopped c SolutionsFull)) c

abbrev pub solve_words : List ℕ → Run → ℕ → Ty → List ℕ
solve_words k c x t = cond (going c.halt) (cond (fits_book c.book (length t)) (lowered (level_of k x) t (given k c.book x t)) k) k

-- ---- a rule performed on words
pub record Words : Type 0 where
  pub board : List ℕ
  pub book : List ℕ
  pub run : Run

unfoldable pub refuse_w : TypeError → Words → Words
refuse_w e x = record { board = x.board; book = x.book; run = refused_run x.run e }

unfoldable pub fresh_w : Origin → Words → Words
fresh_w g x = record { board = x.board; book = fresh_words g x.book x.run; run = fresh_run x.run }

unfoldable pub push_w : Entry → Words → Words
push_w e x =
    let s = slot_of e in
    record {
      board = push_words x.board x.run s.kind s.number s.left s.right;
      book = x.book;
      run = push_run x.run (length s.left + length s.right);
    }

unfoldable pub solve_w : Way → ℕ → Ty → Words → Words
solve_w w k t x =
    cond (w.scope k t) (record { board = x.board; book = solve_words x.book x.run k t; run = solve_run x.run (length t) })
    (record { board = x.board; book = x.book; run = refused_run x.run OutOfScope })

-- t is what was written out
unfoldable pub zonk_w : Way → Ty → Words → Words
zonk_w w t x = record { board = x.board; book = x.book; run = cond (going x.run.halt) (cond (leb (length t) w.written) x.run (stopped x.run TypeTooLong)) x.run }

abbrev pub perform_w : Way → List Triple → Rule → Words → Words
perform_w w ls done x = x
perform_w w ls (refuse e ts) x = refuse_w e x
perform_w w ls (fresh g f) x = perform_w w ls (f x.run.counters.fresh) (fresh_w g x)
perform_w w ls (push e p) x = perform_w w ls p (push_w e x)
perform_w w ls (solve k t p) x = perform_w w ls p (solve_w w k t x)
perform_w w ls (zonk t f) x = let u = write_out (sols x.book) t in perform_w w ls (f u) (zonk_w w u x)
perform_w w ls (look f) x = perform_w w ls (f (entries_of ls x.board x.run.counters.board.entries)) x

-- what a run has come to: as the definition has it, in words, and the levels
pub record Came : Type 0 where
  pub outcome : Outcome
  pub words : Words
  pub levels : Levels

abbrev pub came_to : List Triple → List ℕ → List ℕ → List ℕ → Run → Came
came_to ls b k rep c = record { outcome = outcome_of ls b k rep c; words = record { board = b; book = k; run = c }; levels = levels_of k }

abbrev pub perform_c : Way → List Triple → Rule → Came → Came
perform_c w ls p o = record { outcome = perform_o (limits_in w) p o.outcome; words = perform_w w ls p o.words; levels = perform_l (limits_in w) p o.outcome o.levels }

-- What code that performs a rule leaves, w being what the run is told and ls the lines of the sheet: the outcome and
-- the levels that the definition has, and every word of board and book.
-- The report is fixed as far as it holds types that a refusal reports. Beside that code writes to it as it does to any
-- room that it is lent: a function's contract says which words.
pub record Does (w : Way) (ls : List Triple) (b k rep : List ℕ) (c : Run) (p : Rule) (b' k' rep' : List ℕ) (r : Run) : Type 0 where
  pub kept : WellFormed b' k' r
  pub taken : r.counters.taken ≡ c.counters.taken
  pub outcome : came_to ls b' k' rep' r ≡ perform_c w ls p (came_to ls b k rep c)

-- code that changes none of the buffers; only the board; only the book
abbrev pub Performs : Run → (List ℕ → Rule) → Run → Type 0
Performs c p r = (w : Way) (ls : List Triple) (b k rep : List ℕ) → WellFormed b k c → Does w ls b k rep c (p rep) b k rep r

abbrev pub PerformsOnBoard : List ℕ → Run → (List Triple → Rule) → List ℕ → Run → Type 0
PerformsOnBoard b c p b' r = (w : Way) (ls : List Triple) (k rep : List ℕ) → WellFormed b k c → Does w ls b k rep c (p ls) b' k rep r

abbrev pub PerformsOnBook : List ℕ → Run → Rule → List ℕ → Run → Type 0
PerformsOnBook k c p k' r = (w : Way) (ls : List Triple) (b rep : List ℕ) → WellFormed b k c → Does w ls b k rep c p b k' rep r

-- ---- what a run is told
abbrev pub mode_of : Bool → Mode
mode_of true = strict_call
mode_of false = first_call

-- by the strict call or the first, with at most m nodes written out, under the levels in the book k
abbrev pub way_in : Bool → ℕ → List ℕ → Way
way_in strict m k = way_of (mode_of strict) m (levels_of k)

-- a type without a universal is in scope
abbrev pub Scoped : Way → Type 0
Scoped w = (x : ℕ) (t : Ty) → All (λ n. kind n ≢ 18) t → w.scope x t ≡ true

-- ---- what each operation asks and leaves
-- what a push of the entry e leaves, on the board as one of that kind and number with the types t and u
abbrev pub Pushes : List ℕ → Run → ℕ → ℕ → Ty → Ty → (List Triple → Entry) → List ℕ → Run → Type 0
Pushes b c kind number t u e b' r =
    (r ≡ push_run c (length t + length u)) × (b' ≡ push_words b c kind number t u) × PerformsOnBoard b c (λ ls. push (e ls) done) b' r

pub record PushAsk (b : List ℕ) (c : Run) (kind number : ℕ) (l : List ℕ) (la ln : ℕ) (r : List ℕ) (ra rn : ℕ) : Type 0 where
  pub board : Stacked b c.counters.board
  pub left : la + 2 * ln ≤ length l
  pub right : ra + 2 * rn ≤ length r
  pub entry : (ls : List Triple) → slot_of (entry_of ls kind number (nodes_at l la ln) (nodes_at r ra rn)) ≡ record { kind = kind; number = number; left = nodes_at l la ln; right = nodes_at r ra rn }

-- what making a number leaves
abbrev pub Makes : List ℕ → Run → Origin → List ℕ → Run → Type 0
Makes k c g k' r = (r ≡ fresh_run c) × (k' ≡ fresh_words g k c) × PerformsOnBook k c (fresh g (λ n. done)) k' r

-- what giving x the solution t leaves, if that is in scope
abbrev pub Gives : List ℕ → Run → ℕ → Ty → List ℕ → Run → Type 0
Gives k c x t k' r =
    (r ≡ solve_run c (length t)) × (k' ≡ solve_words k c x t)
    × ((w : Way) (ls : List Triple) (b rep : List ℕ) → w.scope x t ≡ true → WellFormed b k c → Does w ls b k rep c (solve x t done) b k' rep r)

-- an unknown that was made before the number n
abbrev pub Made : ℕ → Node → Type 0
Made n x = kind x ≡ 17 → number x < n

-- an unknown that was made and is not solved, and a type with neither it nor a solved one, whose unknowns were made
pub record Solves (k : List ℕ) (c : Run) (x : ℕ) (t : Ty) : Type 0 where
  pub made : x < c.counters.fresh
  pub unsolved : Free (solved_unknowns (sols k)) (node 17 x)
  pub free : All (Free (x ∷ solved_unknowns (sols k))) t
  pub older : All (Made c.counters.fresh) t

pub record SolveAsk (k : List ℕ) (c : Run) (x : ℕ) (s : List ℕ) («from» n : ℕ) : Type 0 where
  pub book : Booked k c.book
  pub numbers : c.counters.fresh ≤ most_numbers
  pub some : 0 < n
  pub within : «from» + 2 * n ≤ length s
  pub solves : going c.halt ≡ true → Solves k c x (nodes_at s «from» n)

-- a write-out to node `to` of the report
abbrev pub zonk_by : Option ℕ → Run → ℕ → Zonked
zonk_by (Some n) c to = record { run = c; nodes = n - to }
zonk_by None c to = record { run = stopped c TypeTooLong; nodes = 0 }

abbrev pub zonk_run : Run → Ty → ℕ → ℕ → Zonked
zonk_run c t to w = cond (going c.halt) (zonk_by (wrote t to (to + w)) c to) (record { run = c; nodes = 0 })

abbrev pub zonk_words : List ℕ → Run → Ty → ℕ → ℕ → List ℕ
zonk_words rep c t to w = cond (going c.halt) (written_to t to (to + w) rep) rep

pub record ZonkAsk (k : List ℕ) (c : Run) (s : List ℕ) (at n : ℕ) (rep : List ℕ) (to w : ℕ) : Type 0 where
  pub book : Booked k c.book
  pub within : at + 2 * n ≤ length s
  pub room : 2 * (to + w) ≤ length rep

-- what a write-out of t leaves: the outcome, and the type where it did not refuse
pub record Zonks (k rep : List ℕ) (c : Run) (t : Ty) (to w : ℕ) (rep' : List ℕ) (z : Zonked) : Type 0 where
  pub does : (f : ℕ → Ty → Bool) (ls : List Triple) (b : List ℕ) → WellFormed b k c → Does (record { written = w; scope = f }) ls b k rep c (zonk t (λ _. done)) b k rep' z.run
  pub nodes : going z.run.halt ≡ true → nodes_at rep' (2 * to) z.nodes ≡ write_out (sols k) t
  pub within : 2 * (to + z.nodes) ≤ length rep'
