-- What a line of the recorded list says: a call, and every number and word that is wanted after it. Assumes nothing: these
-- are definitions.
-- A record is numbers with a space between two:
--   call ceiling lines (kind value count)* answer
-- where call is 1 the first, 2 the strict one, or
--   call ceiling limit board book report lines (kind value count)* bytes edits (place byte)* answer
-- where call is 3 the first, 4 the strict one; with an answer
--   seven numbers, nodes (kind number)*, solutions (unknown nodes (kind number)*)*, levels
use Rattle.std.specs.Prelude.{ℕ, ◌+◌, ◌-◌, ◌*◌, Bool, true, false, cond, ◌&&◌, ◌||◌, List, replicate, ◌==◌, nat_le, nat_lt, slice_index, slice_set}
use Rattle.std.proofs.lemmas.List.Edits.{sets}
use Rattle.sizes.specs.Sizes.{most_lines, line_length, most_nodes, most_numbers, board_size, book_base, book_stride, book_size, report_stride, usual_limit, usual_report}
use Rattle.nodes.specs.Nodes.{zeros}
use Rattle.spelling.specs.Text.{line_text}
use Rattle.replay.specs.declared.record.Kind.{Kind}
use Rattle.replay.specs.declared.record.Loan.{Loan}
use Rattle.replay.specs.declared.record.Plan.{Plan}
use Rattle.replay.specs.Parsing.{◌>>=◌, Parse, pure, fail, number, word, up_to, times, ended}

-- ---- the words wanted after a call: the board's from 0 on, then the book's, the report's and the seven numbers;
-- each buffer has some words more than a call needs
abbrev pub book_from : ℕ
book_from = board_size + 16

abbrev pub report_from : ℕ
report_from = book_from + book_size + 8

abbrev pub seven_from : ℕ
seven_from = report_from + usual_report + 4

abbrev pub wanted : ℕ
wanted = seven_from + 7

-- the longest sheet has two lines too many
abbrev pub sheet_room : ℕ
sheet_room = line_length * (most_lines + 2)

-- n words as they are before a call; shut, so that no comparison goes through them one by one
unfoldable pub dirt : ℕ → List ℕ
dirt n = replicate n 3735928559

-- ---- the sheet
-- a line, its text at `to` of s
unfoldable pub line_into : List ℕ → ℕ → List ℕ → Parse (List ℕ)
line_into s to = do
  kind ← up_to 999
  value ← number
  count ← up_to 99999
  pure (sets s to (line_text (record { kind = kind; negative = value.negative; value = value.magnitude; count = count })))

-- n lines
unfoldable pub lines_into : ℕ → List ℕ → List ℕ → Parse (List ℕ)
lines_into n s = times n (λ i x. line_into x (line_length * i)) 0 s

-- a place below m, and the byte that stands there
unfoldable pub edit_into : ℕ → List ℕ → List ℕ → Parse (List ℕ)
edit_into m s = do
  place ← word
  byte ← up_to 255
  cond (nat_lt place m) (pure (slice_set s place byte)) fail

unfoldable pub edits_into : ℕ → ℕ → List ℕ → List ℕ → Parse (List ℕ)
edits_into n m s = times n (λ i x. edit_into m x) 0 s

-- a sheet's bytes in a buffer, and how many they are
pub record Bytes : Type 0 where
  pub buffer : List ℕ
  pub count : ℕ

-- of a raw record, its lines being in s
unfoldable pub edited : List ℕ → List ℕ → Parse Bytes
edited s = do
  bytes ← up_to sheet_room
  edits ← word
  next ← edits_into edits bytes s
  pure (record { buffer = next; count = bytes })

unfoldable pub sheet_of : Bool → List ℕ → Parse Bytes
sheet_of raw = do
  lines ← up_to (most_lines + 2)
  s ← lines_into lines (zeros sheet_room)
  cond raw (edited s) (pure (record { buffer = s; count = line_length * lines }))

-- ---- the answer, put into the words w that are wanted
-- a word at `to`
unfoldable pub word_into : List ℕ → ℕ → List ℕ → Parse (List ℕ)
word_into w to = do
  x ← word
  pure (slice_set w to x)

-- n words from `to` on
unfoldable pub words_into : ℕ → List ℕ → ℕ → List ℕ → Parse (List ℕ)
words_into n w to = times n (λ i x. word_into x (to + i)) 0 w

-- at most m nodes
unfoldable pub report_into : ℕ → List ℕ → List ℕ → Parse (List ℕ)
report_into m w = do
  n ← up_to m
  words_into (2 * n) w report_from

-- words, and how many nodes of solutions stand there
pub record Solved : Type 0 where
  pub nodes : ℕ
  pub words : List ℕ

-- where unknown k's solution starts and how many nodes it has
abbrev pub placed : List ℕ → ℕ → ℕ → ℕ → List ℕ
placed w k start n = slice_set (slice_set w (book_from + book_stride * k) start) (book_from + book_stride * k + 1) n

-- a solution after m nodes of others
unfoldable pub solution_into : ℕ → List ℕ → List ℕ → Parse Solved
solution_into m w = do
  k ← up_to (most_numbers - 1)
  n ← up_to (most_nodes - m)
  next ← words_into (2 * n) (placed w k (book_base + 2 * m) n) (book_from + (book_base + 2 * m))
  pure (record { nodes = m + n; words = next })

unfoldable pub book_into : List ℕ → List ℕ → Parse (List ℕ)
book_into w = do
  n ← up_to most_numbers
  all ← times n (λ i x. solution_into x.nodes x.words) 0 (record { nodes = 0; words = w })
  pure all.words

-- n levels
unfoldable pub levels_into : ℕ → List ℕ → List ℕ → Parse (List ℕ)
levels_into n w = times n (λ k x. word_into x (book_from + book_stride * k + 2)) 0 w

-- as many as the fourth of the seven numbers says
unfoldable pub all_levels : List ℕ → List ℕ → Parse (List ℕ)
all_levels w = cond (nat_lt most_numbers (slice_index w (seven_from + 3))) fail (levels_into (slice_index w (seven_from + 3)) w)

-- what a run writes over: the words of the buffers that a call with that limit asks for
abbrev pub cleared : ℕ → List ℕ → List ℕ
cleared limit w = sets (sets (sets w 0 (zeros board_size)) book_from (zeros book_size)) report_from (zeros (report_stride * limit))

-- the most that the report here has room for
abbrev pub limit_room : ℕ
limit_room = usual_limit + 1

unfoldable pub run_into : ℕ → List ℕ → List ℕ → Parse (List ℕ)
run_into limit w = cond (nat_lt limit_room limit) fail (do
  w1 ← report_into (2 * limit) (cleared limit w)
  w2 ← book_into w1
  all_levels w2)

-- no types and no solutions, and nothing is written
unfoldable pub no_run_into : List ℕ → List ℕ → Parse (List ℕ)
no_run_into w = do
  types ← up_to 0
  solutions ← up_to 0
  pure w

-- whether an answer of this number is a run's
abbrev pub is_run : ℕ → Bool
is_run a = cond ((nat_le 1 a && nat_le a 5) || a == 32) false true

unfoldable pub answer_into : ℕ → List ℕ → List ℕ → Parse (List ℕ)
answer_into limit w = do
  w1 ← words_into 7 w seven_from
  cond (is_run (slice_index w1 seven_from)) (run_into limit w1) (no_run_into w1)

-- ---- the call
abbrev pub kind_of : ℕ → List ℕ → Parse Kind
kind_of n =
    cond (n == 1) (pure (record { strict = false; raw = false }))
    (cond (n == 2) (pure (record { strict = true; raw = false }))
    (cond (n == 3) (pure (record { strict = false; raw = true }))
    (cond (n == 4) (pure (record { strict = true; raw = true })) fail)))

unfoldable pub kind : List ℕ → Parse Kind
kind = do
  n ← word
  kind_of n

-- how many words of each buffer are lent, and the limit
abbrev pub usual_loan : Loan
usual_loan = record { limit = usual_limit; board = book_from; book = book_size + 8; report = usual_report + 4 }

unfoldable pub own_loan : List ℕ → Parse Loan
own_loan = do
  limit ← word
  board ← up_to book_from
  book ← up_to (book_size + 8)
  report ← up_to (usual_report + 4)
  pure (record { limit = limit; board = board; book = book; report = report })

unfoldable pub loan_of : Bool → List ℕ → Parse Loan
loan_of raw = cond raw own_loan (pure usual_loan)

-- ---- a whole record: the call, the buffer with its sheet, and the words wanted after it
pub record Record : Type 0 where
  pub plan : Plan
  pub sheet : List ℕ
  pub want : List ℕ

unfoldable pub recorded : List ℕ → Parse Record
recorded = do
  k ← kind
  ceiling ← word
  loan ← loan_of k.raw
  s ← sheet_of k.raw
  want ← answer_into loan.limit (dirt wanted)
  ended (record { plan = record { strict = k.strict; ceiling = ceiling; loan = loan; bytes = s.count }; sheet = s.buffer; want = want })
