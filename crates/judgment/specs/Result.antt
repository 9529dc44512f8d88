-- The result of a run, and of a whole call: seven numbers, and what stands in board, book and report.
-- Assumes nothing.
use Rattle.grammar.specs.declared.SheetError.{SheetError}
use Rattle.std.specs.Prelude.{ℕ, zero, suc, ◌+◌, ◌*◌, Bool, true, cond, ◌||◌, List, [], ◌∷◌, ◌++◌, eqb, ltb, length, take, replicate, Result, Ok, Err}
use Rattle.std.proofs.lemmas.List.Edits.{sets}
use Rattle.sizes.specs.Sizes.{highest_ceiling, most_entries, most_nodes, most_numbers, highest_limit, usual_limit, board_size, book_base, book_size, report_stride}
use Rattle.nodes.specs.Nodes.{Ty, words}
use Rattle.spelling.specs.declared.Triple.{Triple}
use Rattle.grammar.specs.Check.{check, check_number, check_line}
use Rattle.sheet.specs.Plan.{Plan as PlanOf, plan_of, triples}
use Rattle.judgment.specs.declared.TypeError.{TypeError}
use Rattle.judgment.specs.declared.TypeError.TheVariants.{UnboundVariable, UnboundDataConstructor, NotAFunction, ArityMismatch, SubtypingError, TypeUnificationError, InstantiationError, IntrinsicArityMismatch, UnknownIntrinsic, BoardFull, TypeTooLong, NoFreshNumber, SolutionsFull, OutOfScope}
use Rattle.judgment.specs.declared.Answer.{Answer}
use Rattle.judgment.specs.declared.Details.{Details}
use Rattle.judgment.specs.Solutions.{◌≔◌, Solutions}
use Rattle.judgment.specs.Board.{up_to, unlimited, Limits, State, state}
use Rattle.judgment.specs.Levels.{Levels, own_levels, levels_after, Mode, first_call, scope_of}
use Rattle.judgment.specs.Rules.{Env}
use Rattle.judgment.specs.Run.{Step, End, accepted, ceiling, refused_by, Run, run, events, start_with, check_type}

-- ---- errors
abbrev pub error_number : TypeError → ℕ
error_number (UnboundVariable x) = 11
error_number (UnboundDataConstructor x) = 12
error_number (NotAFunction n) = 13
error_number (ArityMismatch e a) = 14
error_number (SubtypingError l r) = 15
error_number TypeUnificationError = 16
error_number (InstantiationError k n) = 17
error_number (IntrinsicArityMismatch a) = 18
error_number (UnknownIntrinsic x) = 19
error_number BoardFull = 22
error_number TypeTooLong = 23
error_number NoFreshNumber = 24
error_number SolutionsFull = 25
error_number OutOfScope = 39

abbrev pub error_details : TypeError → Details
error_details (UnboundVariable x) = (x, 0)
error_details (UnboundDataConstructor x) = (x, 0)
error_details (NotAFunction n) = (n, 0)
error_details (ArityMismatch e a) = (e, a)
error_details (SubtypingError l r) = (l, r)
error_details TypeUnificationError = (0, 0)
error_details (InstantiationError k n) = (k, n)
error_details (IntrinsicArityMismatch a) = (1, a)
error_details (UnknownIntrinsic x) = (x, 0)
error_details BoardFull = (0, 0)
error_details TypeTooLong = (0, 0)
error_details NoFreshNumber = (0, 0)
error_details SolutionsFull = (0, 0)
error_details OutOfScope = (0, 0)

-- ---- a run's seven numbers, its solutions, its levels and the types of its report
abbrev pub numbers : Answer → List ℕ
numbers a = a.number ∷ a.line ∷ a.taken ∷ a.fresh ∷ a.detail1 ∷ a.detail2 ∷ a.plain ∷ []

abbrev pub end_number : End → ℕ
end_number accepted = 0
end_number ceiling = 21
end_number (refused_by r ts) = error_number r

abbrev pub end_details : End → Details
end_details accepted = (0, 0)
end_details ceiling = (0, 0)
end_details (refused_by r ts) = error_details r

abbrev pub end_report : End → Ty
end_report accepted = []
end_report ceiling = []
end_report (refused_by r ts) = ts

pub record Judged : Type 0 where
  pub answer : Answer
  pub report : Ty
  pub solutions : Solutions
  pub levels : Levels

abbrev result_from : Bool → Levels → List Step → End → State → Judged
result_from plain v ss e (state Γ σ n) = record {
  answer = record {
    number = end_number e;
    line = 0;
    taken = length ss;
    fresh = n;
    detail1 = (end_details e).0;
    detail2 = (end_details e).1;
    plain = cond plain 1 0;
  };
  report = end_report e;
  solutions = σ;
  levels = levels_after (events ss) v;
}

-- of a run that began with the levels v
unfoldable pub result_of : Bool → Levels → Run → Judged
result_of plain v (run ss e s) = result_from plain v ss e s

-- the run of a plan
abbrev pub start_of : List Triple → State
start_of ls = start_with (plan_of ls).term (plan_of ls).expected

abbrev pub env_of : PlanOf → Env
env_of p = record { constructors = p.constructors; context = p.context }

unfoldable pub run_of : (Levels → Limits) → ℕ → PlanOf → Run
run_of L c p = check_type L (env_of p) c p.term p.expected

-- the result for the lines of a sheet
unfoldable pub judge : (Levels → Limits) → ℕ → List Triple → Judged
judge L c ls = let p = plan_of ls in result_of p.plain own_levels (run_of L c p)

-- what a run is told: how many nodes a written-out type may have, and which solutions are in scope
pub record Way : Type 0 where
  pub written : ℕ
  pub scope : ℕ → Ty → Bool

-- document 01's limits, but for these
abbrev pub limits_in : Way → Limits
limits_in w = record { entries = up_to most_entries; nodes = up_to most_nodes; written = up_to w.written; numbers = up_to most_numbers; solved = up_to most_nodes; scope = w.scope }

-- by the rule of the first or of the strict call, with the limit w that the caller picks, under the levels v
abbrev pub way_of : Mode → ℕ → Levels → Way
way_of m w v = record { written = w; scope = scope_of m v }

abbrev pub limits_for : Mode → ℕ → Levels → Limits
limits_for m w v = limits_in (way_of m w v)

-- none
abbrev pub no_limits : Levels → Limits
no_limits v = record { entries = unlimited; nodes = unlimited; written = unlimited; numbers = unlimited; solved = unlimited; scope = λ k s. true }

-- document 01's limits
abbrev pub limits : Levels → Limits
limits = limits_for first_call usual_limit

-- ---- the buffers
-- words, and 0 up to n of them
unfoldable pub padded : ℕ → List ℕ → List ℕ
padded n ws = take n (ws ++ replicate n 0)

-- where unknown k's solution stands in the book, its nodes being laid from word w on, and how many nodes it has; 0 and 0 if unsolved
unfoldable pub place_from : ℕ → Solutions → ℕ → ℕ × ℕ
place_from w [] k = (0, 0)
place_from w (◌≔◌ j s ∷ σ) k = cond (eqb j k) (w, length s) (place_from (w + 2 * length s) σ k)

-- the level of number k, of those below the counter n
abbrev pub level_word : Levels → ℕ → ℕ → ℕ
level_word v n k = cond (ltb k n) (v k) 0

-- three words for each of m numbers from k on: where the solution stands, its nodes, the level
unfoldable pub threes_from : Solutions → Levels → ℕ → ℕ → ℕ → List ℕ
threes_from σ v n k zero = []
threes_from σ v n k (suc m) = let p = place_from book_base σ k in p.0 ∷ p.1 ∷ level_word v n k ∷ threes_from σ v n (k + 1) m

-- the nodes of the solutions, in order of solving
unfoldable pub node_words : Solutions → List ℕ
node_words [] = []
node_words (◌≔◌ j s ∷ σ) = words s ++ node_words σ

-- of the solutions, the levels and the counter
unfoldable pub book_words : Solutions → Levels → ℕ → List ℕ
book_words σ v n = padded book_size (threes_from σ v n 0 most_numbers ++ node_words σ)

-- the report of a run with the limit w
unfoldable pub report_words : ℕ → Ty → List ℕ
report_words w t = padded (report_stride * w) (words t)

unfoldable pub board_words : List ℕ
board_words = replicate board_size 0

-- ---- a whole call
pub record Buffers : Type 0 where
  pub board : List ℕ
  pub book : List ℕ
  pub report : List ℕ

pub record Called : Type 0 where
  pub answer : Answer
  pub after : Buffers

-- refused before a run: the rest 0, nothing written
abbrev pub refused_at : ℕ → ℕ → Answer
refused_at number line = record { number = number; line = line; taken = 0; fresh = 0; detail1 = 0; detail2 = 0; plain = 0 }

-- a longer buffer keeps its tail
abbrev pub written : ℕ → Buffers → Judged → Called
written w b r = record {
  answer = r.answer;
  after = record {
    board = sets b.board 0 board_words;
    book = sets b.book 0 (book_words r.solutions r.levels r.answer.fresh);
    report = sets b.report 0 (report_words w r.report);
  };
}

-- 3, 4 or 5, by the number and the line of what the sheet is
abbrev pub refused_sheet : Result Unit SheetError → Buffers → Called
refused_sheet k b = record { answer = refused_at (check_number k) (check_line k); after = b }

abbrev pub by_check : Mode → List ℕ → ℕ → ℕ → Buffers → Result Unit SheetError → Called
by_check m s c w b (Ok _) = written w b (judge (limits_for m w) c (triples s))
by_check m s c w b (Err e) = refused_sheet (Err e) b

-- no limit that a caller may pick
abbrev pub limit_bad : ℕ → Bool
limit_bad w = eqb w 0 || ltb highest_limit w

abbrev pub too_short : ℕ → Buffers → Bool
too_short w b = ltb (length b.board) board_size || (ltb (length b.book) book_size || ltb (length b.report) (report_stride * w))

-- a sheet with a ceiling and a limit, by the first or the strict call: 1, 32 and 2 to 5 are tried in order, then the plan is run
unfoldable pub call : Mode → List ℕ → ℕ → ℕ → Buffers → Called
call m s c w b =
    cond (ltb highest_ceiling c) (record { answer = refused_at 1 0; after = b })
    (cond (limit_bad w) (record { answer = refused_at 32 0; after = b })
    (cond (too_short w b) (record { answer = refused_at 2 0; after = b }) (by_check m s c w b (check s))))
