-- Plans as people write them, by computation. Assumes nothing.
use Rattle.std.proofs.Common.{◌≡◌, ℕ, ◌-◌, ◌*◌, ◌^◌, false, List, [], ◌∷◌, map, take, replicate, refl, Option, Some, None, codes}
use Prim.Native.String.{String}
use Rattle.sizes.specs.Sizes.{triple_words}
use Rattle.spelling.specs.declared.Field.TheVariants.{Blank}
use Rattle.listing.specs.declared.Fault.{Fault}
use Rattle.listing.specs.declared.Fault.TheVariants.{NoNumber, Few, Many, Long}
use Rattle.listing.specs.declared.Scan.{Scan}
use Rattle.listing.specs.Listing.{State, state, started, field_ended, line_closed, line_ended, stepped, fed, ended}

-- what is told of a plan: its fault and the line reached, the words of its triples, and the line of each
pub record Told : Type 0 where
  pub fault : Option Fault
  pub line : ℕ
  pub words : List ℕ
  pub lines : List ℕ

abbrev told : Option Fault → ℕ → List ℕ → List ℕ → Told
told f n w l = record { fault = f; line = n; words = w; lines = l }

-- in buffers for four triples
abbrev finished : State → Told
finished s = told s.scan.fault s.scan.line (take (triple_words * s.scan.triples) s.words) (take s.scan.triples s.lines)

abbrev reads : String → Told
reads t = finished (ended (fed (state started (replicate 12 5) (replicate 4 5)) (codes t)))

abbrev Row : Type 0
Row = String × Told

abbrev plans : List Row
plans =
    ("22 7 0", told None 2 (22 ∷ 7 ∷ 0 ∷ []) (1 ∷ [])) ∷  -- no LF at the end
    ("22 7 0\n", told None 3 (22 ∷ 7 ∷ 0 ∷ []) (1 ∷ [])) ∷  -- an LF at the end
    ("22 7 0\r\n3 0 0\r\n", told None 4 (22 ∷ 7 ∷ 0 ∷ 3 ∷ 0 ∷ 0 ∷ []) (1 ∷ 2 ∷ [])) ∷  -- a CRLF
    ("22\t7\r0", told None 2 (22 ∷ 7 ∷ 0 ∷ []) (1 ∷ [])) ∷  -- each blank
    (" \t 22  7 \t0 \r\t\n", told None 3 (22 ∷ 7 ∷ 0 ∷ []) (1 ∷ [])) ∷  -- blanks around
    ("", told None 2 ([]) ([])) ∷  -- nothing
    (" \t\r\n \n", told None 4 ([]) ([])) ∷  -- blanks only
    ("\n\n22 7 0\n\n3 0 0", told None 6 (22 ∷ 7 ∷ 0 ∷ 3 ∷ 0 ∷ 0 ∷ []) (3 ∷ 5 ∷ [])) ∷  -- empty lines count
    ("# 1 2\n22 7 0\n#x\n", told None 5 (22 ∷ 7 ∷ 0 ∷ []) (2 ∷ [])) ∷  -- comments
    (" \t\r# 1\n22 7 0", told None 3 (22 ∷ 7 ∷ 0 ∷ []) (2 ∷ [])) ∷  -- a comment after blanks
    ("#\n##\n# # #", told None 4 ([]) ([])) ∷  -- a comment of comments
    ("22 7 0\n#", told None 3 (22 ∷ 7 ∷ 0 ∷ []) (1 ∷ [])) ∷  -- a comment that ends without LF
    ("0 0 0", told None 2 (0 ∷ 0 ∷ 0 ∷ []) (1 ∷ [])) ∷  -- zeros
    ("22 -9223372036854775808 0", told None 2 (22 ∷ 9223372036854775808 ∷ 0 ∷ []) (1 ∷ [])) ∷  -- the least value
    ("22 9223372036854775807 0", told None 2 (22 ∷ 9223372036854775807 ∷ 0 ∷ []) (1 ∷ [])) ∷  -- the highest
    ("22 -1 0", told None 2 (22 ∷ 18446744073709551615 ∷ 0 ∷ []) (1 ∷ [])) ∷  -- -1
    ("-1 -2 -3", told None 2 (18446744073709551615 ∷ 18446744073709551614 ∷ 18446744073709551613 ∷ []) (1 ∷ [])) ∷  -- a sign at each place
    []

pub plans-read : map (λ r. reads r.0) plans ≡ map (λ r. r.1) plans
unfolding field_ended line_closed line_ended stepped fed ended
plans-read = refl

abbrev faults : List Row
faults =
    ("22 -9223372036854775809 0", told (Some NoNumber) 1 ([]) ([])) ∷  -- a number below the least
    ("22 9223372036854775808 0", told (Some NoNumber) 1 ([]) ([])) ∷  -- a number above the highest
    ("22 18446744073709551617 0", told (Some NoNumber) 1 ([]) ([])) ∷  -- a number of 20 digits
    ("9223372036854775808 7 0", told (Some NoNumber) 1 ([]) ([])) ∷  -- as a kind
    ("22 7 9223372036854775808", told (Some NoNumber) 1 ([]) ([])) ∷  -- as a count
    ("22 -0 0", told (Some NoNumber) 1 ([]) ([])) ∷  -- -0
    ("22 007 0", told (Some NoNumber) 1 ([]) ([])) ∷  -- a leading zero
    ("22 +7 0", told (Some NoNumber) 1 ([]) ([])) ∷  -- a plus sign
    ("22 - 0", told (Some NoNumber) 1 ([]) ([])) ∷  -- a minus sign alone
    ("22 7- 0", told (Some NoNumber) 1 ([]) ([])) ∷  -- a minus sign behind
    ("22 --7 0", told (Some NoNumber) 1 ([]) ([])) ∷  -- two minus signs
    ("22 x 0", told (Some NoNumber) 1 ([]) ([])) ∷  -- a letter
    ("22 7x 0", told (Some NoNumber) 1 ([]) ([])) ∷  -- a letter behind a digit
    ("22,7,0", told (Some NoNumber) 1 ([]) ([])) ∷  -- a comma
    ("22# 7 0", told (Some NoNumber) 1 ([]) ([])) ∷  -- # behind a number
    ("22 # 7 0", told (Some NoNumber) 1 ([]) ([])) ∷  -- # as the second field
    ("22 7 0 # seven", told (Some NoNumber) 1 ([]) ([])) ∷  -- # as the fourth field
    ("22 \0 0", told (Some NoNumber) 1 ([]) ([])) ∷  -- a byte 0
    ("22\u{8}7 0 0", told (Some NoNumber) 1 ([]) ([])) ∷  -- the bytes beside tab
    ("22\u{b}7 0 0", told (Some NoNumber) 1 ([]) ([])) ∷  -- and beside CR
    ("22\u{c}7 0 0", told (Some NoNumber) 1 ([]) ([])) ∷  -- and
    ("22\u{e}7 0 0", told (Some NoNumber) 1 ([]) ([])) ∷  -- and
    ("22\u{1f}7 0 0", told (Some NoNumber) 1 ([]) ([])) ∷  -- and beside a space
    ("22!7 0 0", told (Some NoNumber) 1 ([]) ([])) ∷  -- and
    ("\"", told (Some NoNumber) 1 ([]) ([])) ∷  -- the bytes beside #
    ("$", told (Some NoNumber) 1 ([]) ([])) ∷  -- and
    ("22", told (Some Few) 1 ([]) ([])) ∷  -- one number
    ("22 7", told (Some Few) 1 ([]) ([])) ∷  -- two
    ("22 7 \n", told (Some Few) 1 ([]) ([])) ∷  -- two, and blanks
    ("3 0 0\n22 7\n# 0", told (Some Few) 2 (3 ∷ 0 ∷ 0 ∷ []) (1 ∷ [])) ∷  -- two, before a comment
    ("22\n7\n0\n", told (Some Few) 1 ([]) ([])) ∷  -- a number a line
    ("22 7 0 0", told (Some Many) 1 ([]) ([])) ∷  -- four numbers
    ("22 7 0 0 0\n", told (Some Many) 1 ([]) ([])) ∷  -- four, and more
    ("22 7 0 x", told (Some NoNumber) 1 ([]) ([])) ∷  -- three, and no fourth
    ("\n3 0 0\nx\n22 7\n4 0 0\n", told (Some NoNumber) 3 (3 ∷ 0 ∷ 0 ∷ []) (2 ∷ [])) ∷  -- the first fault
    ("1 2 3 4\n3 0 0\n", told (Some Many) 1 ([]) ([])) ∷  -- after four, no line more
    ("1 2\n3 0 0\n", told (Some Few) 1 ([]) ([])) ∷  -- after two, no line more
    []

pub faults-told : map (λ r. reads r.0) faults ≡ map (λ r. r.1) faults
unfolding field_ended line_closed line_ended stepped fed ended
faults-told = refl

-- on the last line that there is, after so many triples: fault, line and triples
abbrev late : ℕ → String → Option Fault × ℕ × ℕ
late n t =
    let x : Scan = record { line = 2 ^ 64 - 1; numbers = 0; field = Blank; comment = false; triples = n; fault = None } in
    let s = fed (state x [] []) (codes t) in
    (s.scan.fault, s.scan.line, s.scan.triples)

-- 2,000 triples and no more; a line of blanks or a comment may follow them
pub sizes : map (late 1999) ("22 7 0\n" ∷ "22 7 0\n\n" ∷ "22 7 0\n#x\n" ∷ "22 7 0\n22" ∷ "22 7 0\n22 " ∷ "22 7 0\nx " ∷ []) ≡
    (None, 0, 2000) ∷ (None, 1, 2000) ∷ (None, 1, 2000) ∷ (None, 0, 2000) ∷ (Some Long, 0, 2000) ∷ (Some NoNumber, 0, 2000) ∷ []
unfolding field_ended line_closed line_ended stepped fed ended
sizes = refl
