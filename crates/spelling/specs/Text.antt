-- The text of a line: which 29 bytes say a triple, and which triples a line can say. Assumes nothing: these are
-- definitions. `proofs/Texts.antt` shows that a line reads as a triple exactly if the triple is fair and the line is
-- its text.
use Rattle.std.specs.Prelude.{◌≡◌, true, false, cond, List, [], ◌∷◌, ◌++◌, ℕ, zero, suc, ◌+◌, ◌*◌, ◌/◌, ◌%◌, ◌^◌, ◌≤◌, ◌<◌, take, drop, ltb}
use Rattle.sizes.specs.Sizes.{line_length}
use Rattle.spelling.specs.declared.Field.{Field}
use Rattle.spelling.specs.declared.Field.TheVariants.{Blank, Minus, Number, Bad}
use Rattle.spelling.specs.declared.Triple.{Triple}

-- the last byte of a field: the last digit, a minus sign, a space
abbrev pub last : Field → ℕ
last Blank = 32
last Minus = 45
last (Number n x) = 48 + x % 10
last Bad = 0

-- what stands before it: the other digits; before the first digit the sign or spaces; spaces
abbrev pub front : Field → Field
front Blank = Blank
front Minus = Blank
front (Number n x) = cond (ltb x 10) (cond n Minus Blank) (Number n (x / 10))
front Bad = Bad

-- the field in w columns, right-justified
unfoldable pub field_text : ℕ → Field → List ℕ
field_text zero f = []
field_text (suc w) f = field_text w (front f) ++ (last f ∷ [])

-- kind in 3 columns, value in 20, count in 5, LF
unfoldable pub line_text : Triple → List ℕ
line_text t =
    field_text 3 (Number false t.kind)
    ++ (field_text 20 (Number t.negative t.value) ++ (field_text 5 (Number false t.count) ++ (10 ∷ [])))

-- the bytes of the line at i, counted from 0
abbrev pub line_bytes : List ℕ → ℕ → List ℕ
line_bytes s i = take line_length (drop (line_length * i) s)

-- a triple that a line can say: each field no wider than its columns, the value in signed 64 bits, negative for kind 22
-- alone
pub record Fair (t : Triple) : Type 0 where
  pub kind : t.kind < 1000
  pub count : t.count < 100000
  pub value : t.negative ≡ false → t.value < 2 ^ 63
  pub minus : t.negative ≡ true → (t.kind ≡ 22) × (0 < t.value) × (t.value ≤ 2 ^ 63)
