-- A sheet that was read, as rows of two words: a line's value; and its kind, sign and count with the line after the part that starts there. A binder stands in the latter too. Behind the rows stand links between the entries.
-- Assumes nothing: these are definitions.
use Rattle.sheet.specs.declared.Entry.{Entry}
use Rattle.sheet.specs.declared.Extent.{Extent}
use Rattle.std.specs.Prelude.{◌≡◌, Bool, cond, ◌&&◌, List, [], ◌∷◌, ◌++◌, ℕ, zero, suc, ◌+◌, ◌*◌, ◌-◌, ◌/◌, ◌%◌, ◌≤◌, ◌<◌, eqb, ltb, length, get_or, set, take, drop, Option, Some, None}
use Rattle.sizes.specs.Sizes.{most_lines}
use Rattle.nodes.specs.Nodes.{zeros}
use Rattle.spelling.specs.declared.Triple.{Triple}
use Rattle.sheet.specs.Plan.{no_triple, triples, part_line, named, Declaration, declarations, find_entry}

-- the second word: 10 bits of kind, one of sign, 17 of count, and then the line, of 12; a binder's place stands above
abbrev pub packed : Triple → ℕ → ℕ
packed t end = t.kind + 1024 * (cond t.negative 1 0 + 2 * (t.count + 131072 * end))

abbrev pub row_triple : ℕ → ℕ → Triple
row_triple v p = record { kind = p % 1024; negative = eqb (p / 1024 % 2) 1; value = v; count = p / 2048 % 131072 }

-- the lines that are held: the words are as many rows, and then two words for each line
unfoldable pub rows_from : ℕ → List ℕ → List Triple
rows_from zero d = []
rows_from (suc n) d = row_triple (get_or d 0 0) (get_or d 1 0) ∷ rows_from n (drop 2 d)

abbrev pub line_count : List ℕ → ℕ
line_count d = length d / 4

unfoldable pub rows : List ℕ → List Triple
rows d = rows_from (line_count d) d

-- the line after the part that starts at line i
abbrev pub end_at : List ℕ → ℕ → ℕ
end_at d i = get_or d (2 * i + 1) 0 / 268435456 % 4096

-- from line `at` on, the ends are those of the lines ls
abbrev pub EndsFrom : List Triple → List ℕ → ℕ → Type 0
EndsFrom ls d at = (i : ℕ) → at ≤ i → i < length ls → end_at d i ≡ part_line ls i 1

-- and the kinds
abbrev pub KindsFrom : List Triple → List ℕ → ℕ → Type 0
KindsFrom ls d at = (i : ℕ) → at ≤ i → i < length ls → get_or d (2 * i + 1) 0 % 1024 ≡ (get_or ls i no_triple).kind

-- the lines ls, which are so many, are held with their ends and kinds from line `at` on
pub record HeldFrom (ls : List Triple) (d : List ℕ) (lines at : ℕ) : Type 0 where
  pub count : length ls ≡ lines
  pub ends : EndsFrom ls d at
  pub kinds : KindsFrom ls d at

-- an entry as the code has it: with the line after it; and the first of entries
abbrev pub entry_of : Declaration → Entry
entry_of e = record { head = e.head; line = e.line; end = e.line + e.count }

abbrev pub first_entry : List Declaration → Option Entry
first_entry [] = None
first_entry (e ∷ es) = Some (entry_of e)

-- ---- links: an entry is written as the line after it, and 0 is none
-- the first entry with that remainder, and the next one with the remainder of the entry at line i
abbrev pub first_at : List ℕ → ℕ → ℕ
first_at d slot = get_or d (2 * line_count d + slot) 0

abbrev pub next_at : List ℕ → ℕ → ℕ
next_at d i = get_or d (3 * line_count d + i) 0

-- the entry of kind k and name x among at most n that are linked from `at` on
unfoldable pub linked_from : ℕ → List ℕ → ℕ → ℕ → ℕ → ℕ
linked_from zero d k x at = 0
linked_from (suc n) d k x at =
    let others = linked_from n d k x (next_at d (at - 1)) in
    cond (eqb at 0) 0 (cond (ltb (line_count d) at) 0 (cond (named k x (get_or (rows d) (at - 1) no_triple)) at others))

unfoldable pub linked : List ℕ → ℕ → ℕ → ℕ
linked d k x = linked_from (line_count d) d k x (first_at d (x % line_count d))

-- the line after an entry that is linked, if it is one
abbrev pub some_line : ℕ → Option ℕ
some_line zero = None
some_line (suc i) = Some (suc i)

-- where the type of an entry stands that is linked
abbrev pub placed : List Triple → ℕ → Option Extent
placed ls zero = None
placed ls (suc i) = Some (record { line = suc i; count = part_line ls (suc i) 1 - suc i })

-- ---- binders: a Var in a constructor's type has the place of the quantifier at the type's front that binds it
-- the names that the quantifiers at the front of a type bind
unfoldable pub front_of : List Triple → List ℕ
front_of [] = []
front_of (t ∷ ts) = let others = front_of ts in cond (eqb t.kind 14) (t.value ∷ others) []

-- the place of the last x among names, the first of which has the place i + 1; `before` where none of them is x
unfoldable pub place_from : List ℕ → ℕ → ℕ → ℕ → ℕ
place_from [] i x before = before
place_from (y ∷ xs) i x before = place_from xs (i + 1) x (cond (eqb y x) (i + 1) before)

-- counted from 1; 0 where none is x
abbrev pub place_in : List ℕ → ℕ → ℕ
place_in xs x = place_from xs 0 x 0

-- which of the names xs binds a line: 0 where none does, or where the line is no Var
abbrev pub binder_of : List ℕ → Triple → ℕ
binder_of xs t = cond (eqb t.kind 11) (place_in xs t.value) 0

-- it stands in the second word, above the line
abbrev pub binder_at : List ℕ → ℕ → ℕ
binder_at d i = get_or d (2 * i + 1) 0 / 1099511627776

-- the binders of a type of n lines from line `first` on
abbrev pub Bound : List Triple → List ℕ → ℕ → ℕ → Type 0
Bound ls d first n = (i : ℕ) → i < n → binder_at d (first + i) ≡ binder_of (front_of (take n (drop first ls))) (get_or ls (first + i) no_triple)

-- every end is that of the lines that are held, and the links lead to every entry
pub record Linked (d : List ℕ) : Type 0 where
  pub ends : EndsFrom (rows d) d 0
  pub found : (k x : ℕ) → placed (rows d) (linked d k x) ≡ find_entry k x (rows d)

-- and every constructor's type has its binders
pub record Ended (d : List ℕ) : Type 0 where
  pub ends : EndsFrom (rows d) d 0
  pub found : (k x : ℕ) → placed (rows d) (linked d k x) ≡ find_entry k x (rows d)
  pub bound : (x line n : ℕ) → find_entry 1 x (rows d) ≡ Some (record { line = line; count = n }) → Bound (rows d) d line n

-- the entry at line i put in front of those with the remainder of its name
abbrev pub in_front : List ℕ → ℕ → ℕ → List ℕ
in_front d slot i = set (set d (3 * line_count d + i) (first_at d slot)) (2 * line_count d + slot) (i + 1)

-- the entry at line i linked, unless one of its kind and name is
abbrev pub link_entry : List ℕ → ℕ → List ℕ
link_entry d i = let t = get_or (rows d) i no_triple in cond (eqb (linked d t.kind t.value) 0) (in_front d (t.value % line_count d) i) d

pub record Unlinked (d : List ℕ) : Type 0 where
  pub none : (i : ℕ) → i < line_count d → first_at d i ≡ 0
  pub alone : (i : ℕ) → i < line_count d → next_at d i ≡ 0

-- ---- reading a sheet to rows, the last line first
-- one row written
abbrev pub set_row : List ℕ → ℕ → Triple → ℕ → List ℕ
set_row d i t end = set (set d (2 * i) t.value) (2 * i + 1) (packed t end)

-- what reading line i asks: a row for each line, and the ends and kinds of those after it
pub record RowAsk (d s : List ℕ) (i : ℕ) : Type 0 where
  pub room : length d ≡ 4 * length (triples s)
  pub few : length (triples s) ≤ most_lines
  pub stands : i < length (triples s)
  pub after : EndsFrom (triples s) d (i + 1)
  pub kinds : KindsFrom (triples s) d (i + 1)

-- ---- every word of a sheet that was read
-- the rows of the lines ts, which are those of ls from line `at` on
unfoldable pub row_words : List Triple → ℕ → List Triple → List ℕ
row_words ls at [] = []
row_words ls at (t ∷ ts) = t.value ∷ packed t (part_line ls at 1) ∷ row_words ls (at + 1) ts

-- the rows of all lines, and no entry linked
unfoldable pub unlinked_words : List Triple → List ℕ
unlinked_words ls = row_words ls 0 ls ++ zeros (2 * length ls)

-- entries linked one after the other; an entry's own line is the one before its type
unfoldable pub link_all : List ℕ → List Declaration → List ℕ
link_all d [] = d
link_all d (e ∷ es) = link_all (link_entry d (e.line - 1)) es

-- the place p written above the line in row i
abbrev pub set_binder : List ℕ → ℕ → ℕ → List ℕ
set_binder d i p = set d (2 * i + 1) (get_or d (2 * i + 1) 0 % 1099511627776 + 1099511627776 * p)

-- the binders of the lines ts, which start at line i, written; xs are the names at the type's front
unfoldable pub put_binders : List ℕ → ℕ → List ℕ → List Triple → List ℕ
put_binders d i xs [] = d
put_binders d i xs (t ∷ ts) = put_binders (set_binder d i (binder_of xs t)) (i + 1) xs ts

-- an entry, whose own line is t, is a constructor, and its type from line i on begins with a quantifier
abbrev pub quantified : List Triple → Triple → ℕ → Bool
quantified ls t i = eqb t.kind 1 && eqb (get_or ls i no_triple).kind 14

-- the binders of such a type, which has n lines; the other types bind nothing at the front
abbrev pub bind_type : List Triple → List ℕ → Triple → ℕ → ℕ → List ℕ
bind_type ls d t i n = let ts = take n (drop i ls) in cond (quantified ls t i) (put_binders d i (front_of ts) ts) d

unfoldable pub bind_all : List Triple → List ℕ → List Declaration → List ℕ
bind_all ls d [] = d
bind_all ls d (e ∷ es) = bind_all ls (bind_type ls d e.head e.line e.count) es

-- what a sheet of the lines ls is read to
unfoldable pub sheet_words : List Triple → List ℕ
sheet_words ls = bind_all ls (link_all (unlinked_words ls) (declarations ls 0 0)) (declarations ls 0 0)
