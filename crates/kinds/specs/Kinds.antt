-- The kinds of document 01: the plan's own lines 1 to 4, types 11 to 16, terms 21 to 30, patterns 41 to 43; what a
-- line's fields hold, and which parts follow it. Assumes nothing: these are definitions.
use Rattle.kinds.specs.declared.Parts.{Parts}
use Rattle.std.specs.Prelude.{◌≡◌, Bool, true, false, not, cond, ◌&&◌, List, [], ◌∷◌, ℕ, ◌+◌, ◌*◌, ◌/◌, ◌%◌, ◌<◌, get_or, leb, ltb, eqb, Option, Some, None}
use Rattle.sizes.specs.Sizes.{highest_name}
use Rattle.spelling.specs.declared.Triple.{Triple}
use Rattle.kinds.specs.declared.Digits.{Digits}
use Rattle.kinds.specs.declared.Row.{Row}
use Rattle.kinds.specs.declared.Sort.{Sort}
use Rattle.kinds.specs.declared.Sort.TheVariants.{Nothing, «Type», Term, Pattern, Arm, Entry, Expected, Goal}
use Rattle.kinds.specs.declared.Value.{Value}
use Rattle.kinds.specs.declared.Value.TheVariants.{Unused, Name, Number, Operator}

-- sorts of parts; an arm is a pattern and then a term
abbrev pub nothing : Sort
nothing = Nothing

abbrev pub a_type : Sort
a_type = «Type»

abbrev pub a_term : Sort
a_term = Term

abbrev pub a_pattern : Sort
a_pattern = Pattern

abbrev pub an_arm : Sort
an_arm = Arm

-- an entry with its type, the expected type with its line, and the term with its line
abbrev pub an_entry : Sort
an_entry = Entry

abbrev pub an_expected : Sort
an_expected = Expected

abbrev pub a_goal : Sort
a_goal = Goal

abbrev pub digit_of : Sort → ℕ
digit_of Nothing = 0
digit_of «Type» = 1
digit_of Term = 2
digit_of Pattern = 3
digit_of Arm = 4
digit_of Entry = 5
digit_of Expected = 6
digit_of Goal = 7

abbrev pub same_sort : Sort → Sort → Bool
same_sort x y = eqb (digit_of x) (digit_of y)

-- the last of them stands for each digit from its own on
abbrev pub sort_in : ℕ → Sort
sort_in d =
    cond (eqb d 0) nothing (cond (eqb d 1) a_type (cond (eqb d 2) a_term (cond (eqb d 3) a_pattern
    (cond (eqb d 4) an_arm (cond (eqb d 5) an_entry (cond (eqb d 6) an_expected a_goal))))))

-- the sort that has the number n, if one has
abbrev pub sort_numbered : ℕ → Option Sort
sort_numbered n = cond (ltb 7 n) None (Some (sort_in n))

-- what a value holds
abbrev unused : Value
unused = Unused

abbrev name : Value
name = Name

abbrev pub number : Value
number = Number

abbrev operator : Value
operator = Operator

abbrev pub value_in : ℕ → Value
value_in d = cond (eqb d 0) unused (cond (eqb d 1) name (cond (eqb d 2) number operator))

abbrev pub value_digit : Value → ℕ
value_digit Unused = 0
value_digit Name = 1
value_digit Number = 2
value_digit Operator = 3

-- whether a line has a count
abbrev counted : Bool
counted = true

abbrev uncounted : Bool
uncounted = false

-- a row: sort, value, count, how many types follow, then how many terms, and what then follows count times
abbrev pub row : Sort → Value → Bool → ℕ → ℕ → Sort → Row
row s v c ty te e = record { sort = s; value = v; counted = c; types = ty; terms = te; each = e }

-- the hexadecimal digits of a word, one for each field of a row
abbrev pub digits_in : ℕ → Digits
digits_in w = record {
  sort = w / 1048576;
  value = w / 65536 % 16;
  count = w / 4096 % 16;
  types = w / 256 % 16;
  terms = w / 16 % 16;
  each = w % 16;
}

-- the row that a word holds
abbrev pub row_in : ℕ → Row
row_in w =
    let d = digits_in w in
    row (sort_in d.sort) (value_in d.value) (not (eqb d.count 0)) d.types d.terms (sort_in d.each)

-- the one word that the rows by kind have for a row
abbrev pub word_of : Row → ℕ
word_of r =
    digit_of r.sort * 1048576 + value_digit r.value * 65536 + cond r.counted 4096 0 + r.types * 256 + r.terms * 16
    + digit_of r.each

pub record Listed : Type 0 where
  pub kind : ℕ
  pub is : Row

abbrev pub listed : ℕ → Row → Listed
listed k r = record { kind = k; is = r }

unfoldable pub table : List Listed
table =
    listed 1 (row an_entry name uncounted 1 0 nothing) ∷  -- data constructor (name, type)
    listed 2 (row an_entry name uncounted 1 0 nothing) ∷  -- context variable (name, type)
    listed 3 (row an_expected unused uncounted 1 0 nothing) ∷  -- expected type (type)
    listed 4 (row a_goal unused uncounted 0 1 nothing) ∷  -- term (term)
    listed 11 (row a_type name uncounted 0 0 nothing) ∷  -- Var (name)
    listed 12 (row a_type name uncounted 0 0 nothing) ∷  -- Con (name)
    listed 13 (row a_type unused uncounted 2 0 nothing) ∷  -- Arrow (two types)
    listed 14 (row a_type name uncounted 1 0 nothing) ∷  -- Forall (name, type)
    listed 15 (row a_type unused uncounted 2 0 nothing) ∷  -- App (two types)
    listed 16 (row a_type unused counted 0 0 a_type) ∷  -- Product (count types)
    listed 21 (row a_term name uncounted 0 0 nothing) ∷  -- Var (name)
    listed 22 (row a_term number uncounted 0 0 nothing) ∷  -- LitInt (signed 64-bit)
    listed 23 (row a_term name uncounted 1 1 nothing) ∷  -- Lambda (name, type, term)
    listed 24 (row a_term unused uncounted 0 2 nothing) ∷  -- App (func, arg)
    listed 25 (row a_term name uncounted 0 1 nothing) ∷  -- TypeLambda (name, term)
    listed 26 (row a_term name counted 0 0 a_term) ∷  -- Constructor (name, count terms)
    listed 27 (row a_term unused counted 0 1 an_arm) ∷  -- Case (scrutinee, count arms, each pattern then term)
    listed 28 (row a_term operator uncounted 0 2 nothing) ∷  -- BinOp (operator; left, right)
    listed 29 (row a_term unused uncounted 0 3 nothing) ∷  -- If (three terms)
    listed 30 (row a_term name counted 0 0 a_term) ∷  -- IntrinsicCall (name, count terms)
    listed 41 (row a_pattern unused uncounted 0 0 nothing) ∷  -- Wildcard
    listed 42 (row a_pattern name uncounted 0 0 nothing) ∷  -- Var (name)
    listed 43 (row a_pattern name counted 0 0 a_pattern) ∷  -- Constructor (name, count patterns)
    []

abbrev pub unlisted : Row
unlisted = row nothing unused uncounted 0 0 nothing

-- the row of the kind k among those listed
unfoldable pub find : ℕ → List Listed → Row
find k [] = unlisted
find k (l ∷ ls) = cond (eqb k l.kind) l.is (find k ls)

-- what the table says of the kind k
unfoldable pub row_of : ℕ → Row
row_of k = find k table

-- an unused value is 0, a LitInt's may be any, names are 1 to 9,999, operators 1 to 6
abbrev pub value_ok : Value → ℕ → Bool
value_ok Unused v = eqb v 0
value_ok Name v = leb 1 v && leb v highest_name
value_ok Number v = true
value_ok Operator v = leb 1 v && leb v 6

-- counts are 0 to 99, an unused count is 0
abbrev pub most_count : Bool → ℕ
most_count c = cond c 99 0

abbrev pub count_ok : Bool → ℕ → Bool
count_ok c n = leb n (most_count c)

-- the fields of a line of that row are in range
abbrev pub fields_ok : Row → Triple → Bool
fields_ok r t = value_ok r.value t.value && count_ok r.counted t.count

-- the line t begins a part of the sort x, and its fields are in range
unfoldable pub begins : Sort → Triple → Bool
begins x t = let r = row_of t.kind in same_sort r.sort x && fields_ok r t

-- what must follow a line of the row r with the count n: types, then terms, then n times each
abbrev pub parts_by : Row → ℕ → Parts
parts_by r n = record { types = r.types; terms = r.terms; each = r.each; count = n }

-- what must follow it, if it begins such a part
unfoldable pub head_of : Sort → Triple → Option Parts
head_of x t = cond (begins x t) (Some (parts_by (row_of t.kind) t.count)) None

-- the same of the sort that is asked for, if it is one: no line begins a part of none
abbrev pub begins_for : Option Sort → Triple → Bool
begins_for None t = false
begins_for (Some x) t = begins x t

abbrev pub head_for : Option Sort → Triple → Option Parts
head_for None t = None
head_for (Some x) t = head_of x t

-- nothing follows a line of the row r
abbrev pub is_leaf : Row → Bool
is_leaf r = eqb r.types 0 && (eqb r.terms 0 && same_sort r.each nothing)

-- how many parts follow a line, by its row and its count
abbrev pub each_parts : Sort → ℕ → ℕ
each_parts e n = cond (same_sort e nothing) 0 (cond (same_sort e an_arm) (2 * n) n)

abbrev pub parts_in : Row → ℕ → ℕ
parts_in r n = r.types + r.terms + each_parts r.each n

unfoldable pub parts_of : Triple → ℕ
parts_of t = parts_in (row_of t.kind) t.count

-- the words of the rows of the kinds 0 to 43, which are all that the table has
abbrev pub Tabled : List ℕ → Type 0
Tabled w = (k : ℕ) → k < 44 → get_or w k 0 ≡ word_of (row_of k)
