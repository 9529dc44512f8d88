-- Tables of references: row i is a name and a reference, in words 6 i to 6 i + 5. Assumes nothing: these are
-- definitions.
use Rattle.std.specs.Prelude.{◌≡◌, Bool, cond, ◌&&◌, List, [], ◌∷◌, ◌++◌, ℕ, zero, suc, ◌+◌, ◌*◌, ◌-◌, ◌≤◌, ◌<◌, eqb, leb, ltb, get_or, take, drop, Result, Ok, Err}
use Rattle.std.proofs.lemmas.List.Edits.{sets}
use Rattle.nodes.specs.Nodes.{Ty}
use Rattle.spelling.specs.declared.Triple.{Triple}
use Rattle.sheet.specs.Plan.{◌∶◌, Bindings}
use Rattle.judgment.specs.Rules.{insert}
use Rattle.references.specs.declared.TypeRef.{TypeRef}
use Rattle.references.specs.References.{type_of, pending_of, Good, Frame, parameter_of, others_of, split_of}
use Rattle.tables.specs.declared.Upcoming.{Upcoming}

abbrev pub name_at : List ℕ → ℕ → ℕ
name_at w i = get_or w (6 * i) 0

abbrev pub ref_at : List ℕ → ℕ → TypeRef
ref_at w i = record { first = get_or w (6 * i + 1) 0; lines = get_or w (6 * i + 2) 0; at = get_or w (6 * i + 3) 0; count = get_or w (6 * i + 4) 0; base = get_or w (6 * i + 5) 0 }

abbrev pub row : ℕ → TypeRef → List ℕ
row x r = x ∷ r.first ∷ r.lines ∷ r.at ∷ r.count ∷ r.base ∷ []

-- ---- the stack of frames, the newest first: the types of the patterns to come
unfoldable pub types_of : List Triple → List ℕ → ℕ → List Ty
types_of ls w zero = []
types_of ls w (suc i) = pending_of ls (ref_at w i) ++ types_of ls w i

unfoldable pub Frames : List Triple → List ℕ → ℕ → Type 0
Frames ls w zero = Unit
Frames ls w (suc i) = Frame ls (ref_at w i) × Frames ls w i

abbrev pub top_of : List ℕ → ℕ → TypeRef
top_of w n = ref_at w (n - 1)

-- The first pending type is taken off r, the top of n frames: the type that is wanted and how many frames are left,
-- then every word of the stack.
-- An unknown is wanted itself, and none follow it.
unfoldable pub next_of : List Triple → TypeRef → ℕ → Upcoming
next_of ls r n =
    let h = split_of ls r in
    record { want = cond (eqb r.lines 0) r (parameter_of r h.count); depth = cond h.more n (n - 1) }

unfoldable pub next_words : List Triple → TypeRef → ℕ → List ℕ → List ℕ
next_words ls r n w =
    let h = split_of ls r in
    cond h.more (sets w (6 * (n - 1)) (row 0 (others_of r h.count))) w

-- w and w' are the words of the stack before and after
pub record Taken (ls : List Triple) (w : List ℕ) (n : ℕ) (w' : List ℕ) (u : Upcoming) : Type 0 where
  pub good : Good ls u.want
  pub fewer : u.depth ≤ n
  pub frames : Frames ls w' u.depth
  pub types : types_of ls w n ≡ type_of ls u.want ∷ types_of ls w' u.depth
  pub words : w' ≡ next_words ls (top_of w n) n w
  pub answer : u ≡ next_of ls (top_of w n) n

-- ---- the bindings: the n rows from row i on
unfoldable pub bindings_at : List Triple → List ℕ → ℕ → ℕ → Bindings
bindings_at ls w i zero = []
bindings_at ls w i (suc n) = ◌∶◌ (name_at w i) (type_of ls (ref_at w i)) ∷ bindings_at ls w (i + 1) n

-- good references, and names of one word
abbrev pub Sound : List Triple → List ℕ → ℕ → Type 0
Sound ls w n = (i : ℕ) → i < n → Good ls (ref_at w i) × (name_at w i < 4294967296)

-- the first of the n rows from row i on whose name is not below x, or the row after them
unfoldable pub place_from : List ℕ → ℕ → ℕ → ℕ → ℕ
place_from w x i zero = i
place_from w x i (suc n) = cond (leb x (name_at w i)) i (place_from w x (i + 1) n)

-- row j is one of the n rows, and of this name
abbrev pub named : List ℕ → ℕ → ℕ → ℕ → Bool
named w j n x = ltb j n && eqb (name_at w j) x

-- the row that a search answers, whether or not it is of the name
abbrev pub row_of : Result ℕ ℕ → ℕ
row_of (Ok j) = j
row_of (Err j) = j

-- the rows from j up to n, copied one row up: row j keeps its words
unfoldable pub lifted : List ℕ → ℕ → ℕ → List ℕ
lifted w j n = sets w (6 * j + 6) (take (6 * (n - j)) (drop (6 * j) w))

-- every word of the table after a name is bound among n bindings, and how many there are then: a row of that name is
-- overwritten, otherwise the rows from its place on make room
unfoldable pub insert_words : List ℕ → ℕ → ℕ → TypeRef → List ℕ
insert_words w n x r =
    let j = place_from w x 0 n in
    sets (cond (named w j n x) w (lifted w j n)) (6 * j) (row x r)

unfoldable pub insert_count : List ℕ → ℕ → ℕ → ℕ
insert_count w n x = cond (named w (place_from w x 0 n) n x) n (n + 1)

-- a name is bound among n bindings; m are there then
pub record Inserts (w : List ℕ) (n x : ℕ) (r : TypeRef) (w' : List ℕ) (m : ℕ) : Type 0 where
  pub few : m ≤ n + 1
  pub bindings : (ls : List Triple) → bindings_at ls w' 0 m ≡ insert x (type_of ls r) (bindings_at ls w 0 n)
  pub sound : (ls : List Triple) → Good ls r → x < 4294967296 → Sound ls w n → Sound ls w' m
  pub words : w' ≡ insert_words w n x r
  pub count : m ≡ insert_count w n x
