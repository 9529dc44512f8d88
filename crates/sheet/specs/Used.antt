-- The names that a term uses, as a table of bytes. Assumes nothing: these are definitions.
use Rattle.std.specs.Prelude.{◌≡◌, Bool, true, cond, List, [], ◌∷◌, ℕ, ◌+◌, ◌<◌, get_or, set, eqb}
use Rattle.sizes.specs.Sizes.{highest_name}
use Rattle.spelling.specs.declared.Triple.{Triple}
use Rattle.sheet.specs.Plan.{is_use, names}

-- an element for each name
abbrev pub table_length : ℕ
table_length = highest_name + 1

-- the name that a line uses marked in a table, and those of lines
abbrev pub mark_name : Triple → List ℕ → List ℕ
mark_name t u = cond (is_use t.kind) (set u t.value 1) u

unfoldable pub marked : List Triple → List ℕ → List ℕ
marked [] u = u
marked (t ∷ ts) u = marked ts (mark_name t u)

abbrev pub is_marked : List ℕ → ℕ → Bool
is_marked u x = eqb (get_or u x 0) 1

-- the table tells which names stand on the lines
abbrev pub Tells : List ℕ → List Triple → Type 0
Tells u ls = (x : ℕ) → is_marked u x ≡ names x ls

-- the names on the lines fit into the table
abbrev pub SmallNames : List Triple → Type 0
SmallNames ls = (x : ℕ) → names x ls ≡ true → x < table_length
