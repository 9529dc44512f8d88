-- What is said of a plan as people write it: its sheet, or the first line of the input that is wrong. Assumes nothing:
-- these are definitions.
use Rattle.std.specs.Prelude.{◌≡◌, Bool, not, cond, ◌&&◌, List, ℕ, ◌*◌, ◌-◌, eqb, leb, length, get_or, take, Option, Some, None, is_none, Result, Ok, Err}
use Rattle.std.specs.declared.io.Error.{Error}
use Rattle.sizes.specs.Sizes.{line_length, triple_words}
use Rattle.spelling.specs.declared.Triple.{Triple}
use Rattle.kinds.specs.Kinds.{nothing, same_sort, row_of, fields_ok}
use Rattle.judgment.specs.declared.Answer.{Answer}
use Rattle.listing.specs.declared.Fault.{Fault}
use Rattle.listing.specs.Listing.{State, state, started, Roomy, fed, ended}
use Rattle.writing.specs.Writing.{triple_at, Written}
use Rattle.drafting.specs.declared.Desk.{Desk}
use Rattle.drafting.specs.declared.Wrong.{Wrong}
use Rattle.drafting.specs.declared.Wrong.TheVariants.{Listing, NoKind, Negative, OutOfRange, Misplaced, Lacking}
use Rattle.drafting.specs.declared.Refusal.{Refusal}
use Rattle.drafting.specs.declared.Refusal.TheVariants.{NotRead, NoTriple, At}

-- ---- what is wrong with a triple that can't continue the plan, by the table of kinds alone
-- a value is negative for kind 22 alone
abbrev pub below : Triple → Bool
below t = t.negative && not (eqb t.kind 22)

abbrev pub diagnosis : Triple → Wrong
diagnosis t =
    let r = row_of t.kind in
    cond (same_sort r.sort nothing) NoKind
    (cond (below t) Negative (cond (fields_ok r t) Misplaced OutOfRange))

-- ---- what is said, by the scan and the answer on its triples
-- the answer tells one of these triples, counted from 1
abbrev pub tells_triple : Answer → ℕ → Bool
tells_triple a triples = eqb a.number 5 && (leb 1 a.line && leb a.line triples)

-- where the whole input was scanned: a sheet, no triple at all, or that the plan lacks a triple after its last one
abbrev pub whole : ℕ → List ℕ → Answer → Result ℕ Refusal
whole triples lines a =
    cond (eqb triples 0) (Err NoTriple)
    (cond (eqb a.number 0) (Ok (line_length * triples)) (Err (At (get_or lines (triples - 1) 0) Lacking)))

-- where the scan stopped at a line
abbrev pub stopped : Option Fault → ℕ → Result ℕ Refusal → Result ℕ Refusal
stopped None line r = r
stopped (Some f) line r = Err (At line (Listing f))

-- a triple stands before the line where the scan stopped
unfoldable pub outcome : State → Answer → Result ℕ Refusal
outcome s a =
    cond (tells_triple a s.scan.triples)
    (Err (At (get_or s.lines (a.line - 1) 0) (diagnosis (triple_at s.words (a.line - 1)))))
    (stopped s.scan.fault s.scan.line (whole s.scan.triples s.lines a))

-- ---- reading
-- the bytes at the front of a block; more is to be read if they fill it and nothing is at fault
pub record Block (s : State) (b : List ℕ) (more : Bool) (t : State) : Type 0 where
  pub bytes : ℕ
  pub by : t ≡ fed s (take bytes b)
  pub on : more ≡ (leb (length b) bytes && is_none t.scan.fault)

abbrev pub BlockOf : State → List ℕ → Result Bool Error → State → Type 0
BlockOf s b (Ok more) t = Block s b more t
BlockOf s b (Err e) t = t ≡ s

-- the scan of a whole input, or as much of it as there is up to its first fault; no contract can say which bytes a read
-- gives, so there are some
pub record Scanned (s t : State) : Type 0 where
  pub text : List ℕ
  pub by : t ≡ ended (fed (state started s.words s.lines) text)

abbrev pub ListedOf : Result (Unit {0}) Refusal → State → State → Type 0
ListedOf (Ok _) s t = Scanned s t
ListedOf (Err r) s t = r ≡ NotRead

-- ---- all of it: the scan t of some input, its triples put to the writer, and what is then said
pub record Draft (s : State) (sheet : List ℕ) (t : State) (sheet' : List ℕ) (r : Result ℕ Refusal) : Type 0 where
  pub answer : Answer
  pub read : Scanned s t
  pub roomy : Roomy t.scan
  pub written : Written (take (triple_words * t.scan.triples) t.words) sheet answer sheet'
  pub told : r ≡ outcome t answer

pub data Drafted (s : State) (sheet : List ℕ) (t : State) (sheet' : List ℕ) (r : Result ℕ Refusal) : Type 0 where
  unread : r ≡ Err NotRead → Drafted s sheet t sheet' r
  drafted : Draft s sheet t sheet' r → Drafted s sheet t sheet' r

-- a desk holds the block that it held, as long as it was
abbrev pub SameBlock : Desk → Desk → Type 0
SameBlock d e = (e.block.ghost_name ≡ d.block.ghost_name) × (length e.block.now ≡ length d.block.now)
