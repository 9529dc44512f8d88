-- How a sheet's lines are spelt: a decimal number, right-justified with spaces; no plus sign, no leading zero, no "-0",
-- no blank field. Assumes nothing: these are definitions.
use Rattle.std.specs.Prelude.{Bool, true, false, not, cond, ◌&&◌, List, [], ◌∷◌, ℕ, zero, suc, ◌+◌, ◌*◌, ◌-◌, ◌/◌, ◌^◌, length, get_or, ltb, leb, eqb, Option, Some, None}
use Rattle.sizes.specs.Sizes.{line_length}
use Rattle.spelling.specs.declared.Field.{Field}
use Rattle.spelling.specs.declared.Triple.{Triple}
use Rattle.spelling.specs.declared.Field.TheVariants.{Blank, Minus, Number, Bad}

-- after the digit d: no digit follows a leading 0, none but 1 to 9 a minus sign, and no number passes 2 ^ 63
abbrev pub digit_step : Field → ℕ → Field
digit_step Blank d = Number false d
digit_step Minus d = cond (eqb d 0) Bad (Number true d)
digit_step (Number n m) d = cond (eqb m 0) Bad (cond (leb (10 * m + d) (2 ^ 63)) (Number n (10 * m + d)) Bad)
digit_step Bad d = Bad

-- after a byte that is no digit: spaces come first, then at most one minus sign
abbrev pub other_step : Field → ℕ → Field
other_step Blank b = cond (eqb b 32) Blank (cond (eqb b 45) Minus Bad)
other_step Minus b = Bad
other_step (Number n m) b = Bad
other_step Bad b = Bad

-- after the byte b: 48 to 57 are the digits 0 to 9
abbrev pub step : Field → ℕ → Field
step f b = cond (leb 48 b && leb b 57) (digit_step f (b - 48)) (other_step f b)

-- what w bytes from at spell, after what f was read
unfoldable pub field_from : List ℕ → ℕ → ℕ → Field → Field
field_from s at zero f = f
field_from s at (suc w) f = field_from s (at + 1) w (step f (get_or s at 0))

-- how many spaces stand at the front of the w bytes from at
unfoldable pub spaces_from : List ℕ → ℕ → ℕ → ℕ
spaces_from s at zero = 0
spaces_from s at (suc w) = cond (eqb (get_or s at 0) 32) (suc (spaces_from s (at + 1) w)) 0

-- the w bytes from at are spaces
unfoldable pub blank : List ℕ → ℕ → ℕ → Bool
blank s at zero = true
blank s at (suc w) = eqb (get_or s at 0) 32 && blank s (at + 1) w

-- a number with no minus sign
abbrev pub unsigned : Field → Bool
unsigned Blank = false
unsigned Minus = false
unsigned (Number n m) = not n
unsigned Bad = false

abbrev pub magnitude : Field → ℕ
magnitude Blank = 0
magnitude Minus = 0
magnitude (Number n m) = m
magnitude Bad = 0

abbrev pub minus : Field → Bool
minus Blank = false
minus Minus = false
minus (Number n m) = n
minus Bad = false

-- a value of the kind k: a number in the range of signed 64 bits, negative for kind 22 alone
abbrev pub sign_ok : Field → ℕ → Bool
sign_ok Blank k = false
sign_ok Minus k = false
sign_ok (Number n m) k = cond n (eqb k 22) (ltb m (2 ^ 63))
sign_ok Bad k = false

-- the line whose fields are k, v and c, and whose last byte is e
unfoldable pub line_of : Field → Field → Field → ℕ → Option Triple
line_of k v c e =
    cond (unsigned k && (sign_ok v (magnitude k) && (unsigned c && eqb e 10)))
    (Some (record { kind = magnitude k; negative = minus v; value = magnitude v; count = magnitude c }))
    None

-- the line at i, counted from 0: kind in columns 1 to 3, value in 4 to 23, count in 24 to 28, LF
unfoldable pub line_at : List ℕ → ℕ → Option Triple
line_at s i =
    line_of (field_from s (line_length * i) 3 Blank) (field_from s (line_length * i + 3) 20 Blank) (field_from s (line_length * i + 23) 5 Blank)
    (get_or s (line_length * i + 28) 0)

-- the n lines from i on, and all lines of a sheet
unfoldable pub lines_from : List ℕ → ℕ → ℕ → List (Option Triple)
lines_from s i zero = []
lines_from s i (suc n) = line_at s i ∷ lines_from s (i + 1) n

unfoldable pub lines_of : List ℕ → List (Option Triple)
lines_of s = lines_from s 0 (length s / line_length)

-- how many lines stand before the first misspelt one
unfoldable pub first_misspelt : List (Option Triple) → ℕ
first_misspelt [] = 0
first_misspelt (Some t ∷ ls) = suc (first_misspelt ls)
first_misspelt (None ∷ ls) = 0
