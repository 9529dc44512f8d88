-- How binders are found: a table by name of the lines that bind it. Assumes nothing: these are definitions.
use Rattle.std.specs.Prelude.{◌≡◌, Bool, false, cond, ◌||◌, List, [], ◌∷◌, ℕ, ◌+◌, ◌-◌, ◌≤◌, ◌<◌, length, get_or, set, take, drop, eqb}
use Rattle.nodes.specs.Lists.{All}
use Rattle.spelling.specs.declared.Triple.{Triple}
use Rattle.sheet.specs.Plan.{Declaration, declarations}
use Rattle.sheet.specs.Rows.{rows, line_count, front_of, place_in, binder_at, Linked, quantified}
use Rattle.sheet.specs.Used.{table_length}

-- the table has for each name the line after the last quantifier that bound it: the names xs of quantifiers, the first of which stands on line i, put there
unfoldable pub put_names : List ℕ → ℕ → List ℕ → List ℕ
put_names u i [] = u
put_names u i (x ∷ xs) = put_names (set u x (i + 1)) (i + 1) xs

-- those of a constructor's type that begins with one; it has n lines from line i on, and its entry's own line is t
abbrev pub mark_type : List Triple → List ℕ → Triple → ℕ → ℕ → List ℕ
mark_type ls u t i n = cond (quantified ls t i) (put_names u i (front_of (take n (drop i ls)))) u

-- those of all such types
unfoldable pub mark_all : List Triple → List ℕ → List Declaration → List ℕ
mark_all ls u [] = u
mark_all ls u (e ∷ es) = mark_all ls (mark_type ls u e.head e.line e.count) es

-- the binder of a line by the table, in a type that starts at line i: what was bound before this type counts as nothing
abbrev pub binder_by : List ℕ → ℕ → Triple → ℕ
binder_by u i t = cond (eqb t.kind 11) (get_or u t.value 0 - i) 0

-- the table tells the places among the names xs at the front of a type that starts at line i
abbrev pub TellsPlaces : List ℕ → ℕ → List ℕ → Type 0
TellsPlaces u i xs = (x : ℕ) → get_or u x 0 - i ≡ place_in xs x

-- the table has no line after line i
abbrev pub UpTo : List ℕ → ℕ → Type 0
UpTo u i = (x : ℕ) → get_or u x 0 ≤ i

abbrev pub InTable : ℕ → Type 0
InTable x = x < table_length

-- the names at the front of a type of n lines from line i on fit into the table
abbrev pub FrontFits : List Triple → ℕ → ℕ → Type 0
FrontFits ls i n = All InTable (front_of (take n (drop i ls)))

abbrev pub FrontsFit : List Triple → List Declaration → Type 0
FrontsFit ls [] = Unit {0}
FrontsFit ls (e ∷ es) = FrontFits ls e.line e.count × FrontsFit ls es

-- some constructor's type begins with a quantifier
unfoldable pub any_quantified : List Triple → List Declaration → Bool
any_quantified ls [] = false
any_quantified ls (e ∷ es) = quantified ls e.head e.line || any_quantified ls es

-- what the binders of all types ask: ends and links, no binder yet, and names that the table has
pub record Bindable (d : List ℕ) : Type 0 where
  pub linked : Linked d
  pub free : (i : ℕ) → i < line_count d → binder_at d i ≡ 0
  pub fit : FrontsFit (rows d) (declarations (rows d) 0 0)

-- what those of one type ask, the lines from `first` up to `end`
pub record TypeAsk (d u : List ℕ) (first end : ℕ) : Type 0 where
  pub table : length u ≡ table_length
  pub within : end ≤ length (rows d)
  pub few : end < 65536
  pub older : UpTo u first
  pub fit : FrontFits (rows d) first (end - first)
