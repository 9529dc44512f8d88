-- Texts as bytes, the texts of numbers and names, and a text as it is written into a buffer. Assumes nothing: these are
-- definitions.
use Rattle.std.specs.Prelude.{◌≡◌, false, cond, List, [], ◌∷◌, ◌++◌, ℕ, ◌+◌, ◌-◌, ◌/◌, ◌%◌, eqb, ltb, length}
use Prim.Native.Char.{code}
use Prim.Native.String.{String, [] as none, ◌∷◌ as ◌then◌}
use Rattle.std.proofs.lemmas.List.Edits.{sets}
use Rattle.spelling.specs.declared.Field.TheVariants.{Number}
use Rattle.spelling.specs.Text.{field_text}
use Rattle.columns.specs.Columns.{digits}

-- the UTF-8 bytes of a character by its number; no text here has one above 65535
abbrev pub utf8 : ℕ → List ℕ
utf8 n =
    cond (ltb n 128) (n ∷ [])
    (cond (ltb n 2048) ((192 + n / 64) ∷ (128 + n % 64) ∷ [])
    ((224 + n / 4096) ∷ (128 + n / 64 % 64) ∷ (128 + n % 64) ∷ []))

abbrev pub bytes : String → List ℕ
bytes none = []
bytes (c then s) = utf8 (code c) ++ bytes s

unfoldable pub number_text : ℕ → List ℕ
number_text n = field_text (digits n) (Number false n)

-- names 1 to 4 are document 01's; another is "n" and its number
unfoldable pub name_text : ℕ → List ℕ
name_text n =
    cond (eqb n 1) (bytes "Int")
    (cond (eqb n 2) (bytes "Bool") (cond (eqb n 3) (bytes "Unit") (cond (eqb n 4) (bytes "printInt") (bytes "n" ++ number_text n))))

-- the lesser of two
abbrev pub least : ℕ → ℕ → ℕ
least a b = a - (a - b)

-- t written at i of l gives m, and the next text goes to j; what would pass the end of l is not written
pub record Wrote (l : List ℕ) (i : ℕ) (t : List ℕ) (m : List ℕ) (j : ℕ) : Type 0 where
  pub text : m ≡ sets l i t
  pub next : j ≡ least (length l) (i + length t)

-- s still to be written at i of l is t still to be written at j of m
pub record Left (l : List ℕ) (i : ℕ) (s : List ℕ) (m : List ℕ) (j : ℕ) (t : List ℕ) : Type 0 where
  pub text : sets l i s ≡ sets m j t
  pub next : least (length l) (i + length s) ≡ least (length m) (j + length t)
