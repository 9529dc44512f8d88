-- A line of few digits, by the last bytes of its fields. Assumes nothing: these are definitions.
-- `proofs/Few.antt` shows that such a line is spelt, and says the same by its whole fields.
use Rattle.spelling.specs.declared.Triple.{Triple}
use Rattle.std.specs.Prelude.{Bool, false, cond, ◌&&◌, List, ℕ, ◌+◌, ◌-◌, get_or, leb, eqb, Option, Some, None}
use Rattle.spelling.specs.Spelling.{field_from, blank, unsigned, magnitude}
use Rattle.spelling.specs.declared.Field.{Field}
use Rattle.spelling.specs.declared.Field.TheVariants.{Blank}

-- the digit that a byte writes
abbrev pub digit_of : ℕ → Option ℕ
digit_of b = cond (leb 48 b && leb b 57) (Some (b - 48)) None

-- a field's number without a minus sign
abbrev pub plain : Field → Option ℕ
plain f = cond (unsigned f) (Some (magnitude f)) None

-- of the 29 bytes from at, those before the last two of the kind and before the last four of the value are spaces; LF
unfoldable pub roomy : List ℕ → ℕ → Bool
roomy s at = eqb (get_or s (at + 28) 0) 10 && (blank s at 1 && blank s (at + 3) 16)

-- the number in five bytes, the first three of which are spaces
unfoldable pub short_field : List ℕ → ℕ → Option ℕ
short_field s at = cond (blank s at 3) (plain (field_from s (at + 3) 2 Blank)) None

-- the line of these numbers, if all are there
abbrev pub few_of : Option ℕ → Option ℕ → Option ℕ → Option Triple
few_of (Some k) (Some v) (Some c) = Some (record { kind = k; negative = false; value = v; count = c })
few_of (Some k) (Some v) None = None
few_of (Some k) None c = None
few_of None v c = None

-- the line at the byte at by those last bytes; None if it is no line of few digits
unfoldable pub few_at : List ℕ → ℕ → Option Triple
few_at s at =
    cond (roomy s at)
    (few_of (plain (field_from s (at + 1) 2 Blank)) (plain (field_from s (at + 19) 4 Blank)) (short_field s (at + 23)))
    None
