-- A plan as people write it: a triple a line, its kind, value and count with blanks between. It is read byte by byte,
-- up to its first fault. Assumes nothing: these are definitions; `proofs/Rows.antt` has examples of each.
use Rattle.std.specs.Prelude.{ℕ, ◌+◌, ◌-◌, ◌*◌, ◌%◌, ◌^◌, ◌≤◌, Bool, true, false, cond, ◌&&◌, ◌||◌, List, [], ◌∷◌, ◌==◌, nat_lt, slice_set, Option, Some, None, is_none, Result, Ok, Err}
use Rattle.sizes.specs.Sizes.{most_lines, triple_words, plan_words}
use Rattle.spelling.specs.declared.Field.{Field}
use Rattle.spelling.specs.declared.Field.TheVariants.{Blank, Minus, Number, Bad}
use Rattle.spelling.specs.Spelling.{step}
use Rattle.listing.specs.declared.Fault.{Fault}
use Rattle.listing.specs.declared.Fault.TheVariants.{NoNumber, Few, Many, Long}
use Rattle.listing.specs.declared.Scan.{Scan}

-- how far the plan is read; the words of its triples, one after the other; and the line that each triple stands on
pub record State : Type 0 where
  pub scan : Scan
  pub words : List ℕ
  pub lines : List ℕ

abbrev pub state : Scan → List ℕ → List ℕ → State
state x w l = record { scan = x; words = w; lines = l }

-- ---- the scan
-- before the first byte
abbrev pub started : Scan
started = record { line = 1; numbers = 0; field = Blank; comment = false; triples = 0; fault = None }

-- a triple that has begun has its room
abbrev pub Roomy : Scan → Type 0
Roomy x = triple_words * x.triples + x.numbers ≤ plan_words

abbrev pub failed : Scan → Fault → Scan
failed x f = record x { fault = Some f }

-- one number more on the line, and no byte of the next field yet
abbrev pub counted : Scan → Scan
counted x = record x { numbers = x.numbers + 1; field = Blank }

-- at the start of the next line, after so many triples; lines are counted in 64 bits
abbrev pub on_next_line : Scan → ℕ → Scan
on_next_line x n =
    record { line = (x.line + 1) % 2 ^ 64; numbers = 0; field = Blank; comment = false; triples = n; fault = x.fault }

-- ---- fields: a field is the bytes between blanks
abbrev pub blank : ℕ → Bool
blank b = b == 32 || (b == 9 || b == 13)

abbrev pub empty : Field → Bool
empty Blank = true
empty Minus = false
empty (Number n m) = false
empty Bad = false

-- # in the first place makes the line a comment
abbrev pub commented : Scan → ℕ → Bool
commented x b = b == 35 && (x.numbers == 0 && empty x.field)

-- after a byte of a field
abbrev pub field_byte : Scan → ℕ → Scan
field_byte x b =
    cond (commented x b)
    (record x { comment = true })
    (record x { field = step x.field b })

-- a number by its sign and its magnitude: its word in two's complement, and whether it is one of signed 64 bits
abbrev pub word_of : Bool → ℕ → ℕ
word_of negative m = cond negative ((2 ^ 64 - m) % 2 ^ 64) m

abbrev pub signed : Bool → ℕ → Bool
signed negative m = negative || nat_lt m (2 ^ 63)

-- the end of a number, after so many triples and so many numbers on its line: its word, or what is wrong with its place
abbrev pub number_end : ℕ → ℕ → ℕ → Result (Option ℕ) Fault
number_end triples numbers w =
    cond (nat_lt numbers triple_words) (cond (nat_lt triples most_lines) (Ok (Some w)) (Err Long)) (Err Many)

-- the end of a field: the word of its number, nothing where it is blank, or what is wrong
abbrev pub field_end : Field → ℕ → ℕ → Result (Option ℕ) Fault
field_end Blank triples numbers = Ok None
field_end Minus triples numbers = Err NoNumber
field_end (Number n m) triples numbers = cond (signed n m) (number_end triples numbers (word_of n m)) (Err NoNumber)
field_end Bad triples numbers = Err NoNumber

abbrev pub after_end : Result (Option ℕ) Fault → State → State
after_end (Ok None) s = s
after_end (Ok (Some w)) s =
    state (counted s.scan) (slice_set s.words (triple_words * s.scan.triples + s.scan.numbers) w) s.lines
after_end (Err f) s = state (failed s.scan f) s.words s.lines

unfoldable pub field_ended : State → State
field_ended s = after_end (field_end s.scan.field s.scan.triples s.scan.numbers) s

-- ---- lines
-- the end of a line whose last field has ended: a triple, nothing, or too few numbers
unfoldable pub line_closed : State → State
line_closed s =
    cond (s.scan.numbers == 0)
    (state (on_next_line s.scan s.scan.triples) s.words s.lines)
    (cond (s.scan.numbers == triple_words)
    (state (on_next_line s.scan (s.scan.triples + 1)) s.words (slice_set s.lines s.scan.triples s.scan.line))
    (state (failed s.scan Few) s.words s.lines))

unfoldable pub line_ended : State → State
line_ended s = let t = field_ended s in cond (is_none t.scan.fault) (line_closed t) t

-- a comment goes to the end of its line
abbrev pub comment_byte : Scan → ℕ → Scan
comment_byte x b = cond (b == 10) (on_next_line x x.triples) x

-- ---- the whole
-- after a byte; a fault stays as it is
unfoldable pub stepped : State → ℕ → State
stepped s b =
    cond (is_none s.scan.fault)
    (cond s.scan.comment
    (state (comment_byte s.scan b) s.words s.lines)
    (cond (b == 10) (line_ended s) (cond (blank b) (field_ended s) (state (field_byte s.scan b) s.words s.lines))))
    s

unfoldable pub fed : State → List ℕ → State
fed s [] = s
fed s (b ∷ bs) = fed (stepped s b) bs

-- at the end of the input: the last line may lack its LF
unfoldable pub ended : State → State
ended s = stepped s 10
