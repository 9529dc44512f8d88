-- What is wrong with a triple, and what is said of a scan and an answer, by computation. Assumes nothing.
use Rattle.std.proofs.Common.{◌≡◌, refl, Bool, true, false, List, [], ◌∷◌, map, ℕ, Option, Some, None, Result, Ok, Err}
use Rattle.spelling.specs.declared.Triple.{Triple}
use Rattle.spelling.specs.declared.Field.TheVariants.{Blank}
use Rattle.kinds.specs.Kinds.{find, table, row_of}
use Rattle.judgment.specs.Result.{refused_at}
use Rattle.listing.specs.declared.Fault.{Fault}
use Rattle.listing.specs.declared.Fault.TheVariants.{NoNumber, Few, Many, Long}
use Rattle.listing.specs.Listing.{State, state}
use Rattle.drafting.specs.declared.Wrong.{Wrong}
use Rattle.drafting.specs.declared.Wrong.TheVariants.{Listing, NoKind, Negative, OutOfRange, Misplaced, Lacking}
use Rattle.drafting.specs.declared.Refusal.{Refusal}
use Rattle.drafting.specs.declared.Refusal.TheVariants.{NoTriple, At}
use Rattle.drafting.specs.Drafting.{diagnosis, outcome}

abbrev t : ℕ → Bool → ℕ → ℕ → Triple
t k n v c = record { kind = k; negative = n; value = v; count = c }

-- each bound of each field from both sides, and which of two wrongs is told
abbrev triples : List (Triple × Wrong)
triples =
    (t 0 false 0 0, NoKind) ∷  -- kind 0
    (t 5 false 0 0, NoKind) ∷  -- kind 5
    (t 10 false 0 0, NoKind) ∷  -- kind 10
    (t 17 false 0 0, NoKind) ∷  -- kind 17
    (t 20 false 0 0, NoKind) ∷  -- kind 20
    (t 31 false 0 0, NoKind) ∷  -- kind 31
    (t 40 false 0 0, NoKind) ∷  -- kind 40
    (t 44 false 0 0, NoKind) ∷  -- kind 44
    (t 999 false 0 0, NoKind) ∷  -- kind 999
    (t 18446744073709551594 false 0 0, NoKind) ∷  -- a kind below zero
    (t 5 true 7 0, NoKind) ∷  -- no kind, though negative
    (t 21 true 10 0, Negative) ∷  -- a negative value of kind 21
    (t 21 true 10 1, Negative) ∷  -- also where its count is out of range
    (t 24 true 1 0, Negative) ∷  -- of an unused value
    (t 22 true 9223372036854775808 0, Misplaced) ∷  -- of kind 22
    (t 22 true 7 1, OutOfRange) ∷  -- with a count
    (t 21 false 1 0, Misplaced) ∷  -- the lowest name
    (t 21 false 0 0, OutOfRange) ∷  -- below it
    (t 21 false 9999 0, Misplaced) ∷  -- the highest name
    (t 21 false 10000 0, OutOfRange) ∷  -- above it
    (t 28 false 1 0, Misplaced) ∷  -- the first operator
    (t 28 false 0 0, OutOfRange) ∷  -- before it
    (t 28 false 6 0, Misplaced) ∷  -- the last operator
    (t 28 false 7 0, OutOfRange) ∷  -- after it
    (t 24 false 0 0, Misplaced) ∷  -- an unused value
    (t 24 false 1 0, OutOfRange) ∷  -- used
    (t 21 false 10 0, Misplaced) ∷  -- an unused count
    (t 21 false 10 1, OutOfRange) ∷  -- used
    (t 16 false 0 99, Misplaced) ∷  -- the highest count
    (t 16 false 0 100, OutOfRange) ∷  -- above it
    (t 16 false 0 18446744073709551615, OutOfRange) ∷  -- a count below zero
    (t 3 false 0 0, Misplaced) ∷  -- a plan's own line
    (t 41 false 0 0, Misplaced) ∷  -- a pattern
    []

pub diagnosed : map (λ r. diagnosis r.0) triples ≡ map (λ r. r.1) triples
unfolding find table row_of
diagnosed = refl

-- two triples on the lines 3 and 5, the second of which has no kind, and the scan on line 7 with a fault
abbrev two : Option Fault → State
two f =
    state (record { line = 7; numbers = 0; field = Blank; comment = false; triples = 2; fault = f }) (22 ∷ 7 ∷ 0 ∷ 5 ∷ 0 ∷ 0 ∷ []) (3 ∷ 5 ∷ [])

-- no triple, on line 7
abbrev none : Option Fault → State
none f = state (record { line = 7; numbers = 0; field = Blank; comment = false; triples = 0; fault = f }) [] []

-- by the fault, and the number and the line of the answer
abbrev Row : Type 0
Row = (Option Fault × ℕ × ℕ) × Result ℕ Refusal

abbrev of_two : List Row
of_two =
    ((None, 0, 0), Ok 58) ∷  -- accepted
    ((None, 5, 1), Err (At 3 Misplaced)) ∷  -- the first triple
    ((None, 5, 2), Err (At 5 NoKind)) ∷  -- the last one
    ((None, 5, 3), Err (At 5 Lacking)) ∷  -- one is lacking
    ((Some Few, 5, 1), Err (At 3 Misplaced)) ∷  -- a triple before the fault
    ((Some Few, 5, 2), Err (At 5 NoKind)) ∷
    ((Some Few, 5, 3), Err (At 7 (Listing Few))) ∷  -- what is lacking stood on the faulty line or behind it
    ((Some Few, 0, 0), Err (At 7 (Listing Few))) ∷  -- a plan, and then a fault
    ((Some NoNumber, 0, 0), Err (At 7 (Listing NoNumber))) ∷
    ((Some Many, 0, 0), Err (At 7 (Listing Many))) ∷
    ((Some Long, 0, 0), Err (At 7 (Listing Long))) ∷
    []

pub two-told : map (λ r. outcome (two r.0.0) (refused_at r.0.1 r.0.2)) of_two ≡ map (λ r. r.1) of_two
unfolding find table row_of outcome
two-told = refl

abbrev of_none : List Row
of_none =
    ((None, 3, 0), Err NoTriple) ∷
    ((Some NoNumber, 3, 0), Err (At 7 (Listing NoNumber))) ∷
    ((Some Few, 3, 0), Err (At 7 (Listing Few))) ∷
    ((Some Many, 3, 0), Err (At 7 (Listing Many))) ∷
    []

pub none_told : map (λ r. outcome (none r.0.0) (refused_at r.0.1 r.0.2)) of_none ≡ map (λ r. r.1) of_none
unfolding find table row_of outcome
none_told = refl
