-- The grammar of a plan, line by line. Assumes nothing: these are definitions.
use Rattle.grammar.specs.declared.Declared.TheVariants.{Named, Expected}
use Rattle.kinds.specs.declared.Parts.{Parts}
use Rattle.kinds.specs.declared.Sort.{Sort}
use Rattle.grammar.specs.declared.SheetError.TheVariants.{Unfit}
use Rattle.grammar.specs.declared.SheetError.{SheetError}
use Rattle.std.specs.Prelude.{Bool, cond, List, [], ◌∷◌, ◌++◌, ℕ, zero, suc, ◌+◌, ◌*◌, ◌-◌, ◌/◌, length, replicate, take, drop, ltb, eqb, Option, Some, None, Result, Ok, Err, is_some}
use Rattle.sizes.specs.Sizes.{line_length}
use Rattle.spelling.specs.declared.Triple.{Triple}
use Rattle.spelling.specs.Spelling.{lines_from}
use Rattle.kinds.specs.Kinds.{a_type, a_term, a_pattern, an_arm, an_entry, an_expected, a_goal, same_sort, begins, head_of}
use Rattle.grammar.specs.declared.Declared.{Declared}

-- What is due: a whole part of a sort, such as a type, or the line of kind 4 with the term; the rest of a plan, after
-- an entry of kind k, 1 or 2, with the name last.
pub data Item : Type 0 where
  part : Sort → Item
  entries : ℕ → ℕ → Item

-- ---- which lines may stand where an item is due
abbrev pub head_in : Sort → Option Triple → Option Parts
head_in x (Some t) = head_of x t
head_in x None = None

-- an entry of kind 2 comes after those of kind 1, and its name is above the last one of its kind
abbrev pub in_order : ℕ → ℕ → Triple → Bool
in_order k last t = cond (eqb t.kind k) (ltb last t.value) (eqb t.kind 2)

-- entries, then the expected type; the table says which kinds they have and what their fields hold
unfoldable pub declared_by : ℕ → ℕ → Triple → Option Declared
declared_by k last t =
    cond (begins an_entry t) (cond (in_order k last t) (Some (Named t.kind t.value)) None) (cond (begins an_expected t) (Some Expected) None)

abbrev pub declared_in : ℕ → ℕ → Option Triple → Option Declared
declared_in k last (Some t) = declared_by k last t
declared_in k last None = None

-- ---- what must follow such a line
-- n arms, each a pattern and a term
unfoldable pub arms : ℕ → List Item
arms zero = []
arms (suc n) = part a_pattern ∷ part a_term ∷ arms n

abbrev pub repeated : Sort → ℕ → List Item
repeated e n =
    cond (same_sort e a_type) (replicate n (part a_type)) (cond (same_sort e a_term) (replicate n (part a_term))
    (cond (same_sort e a_pattern) (replicate n (part a_pattern)) (cond (same_sort e an_arm) (arms n) [])))

-- types, then terms, then count times each
unfoldable pub following : ℕ → ℕ → Sort → ℕ → List Item
following ty te e n = replicate ty (part a_type) ++ (replicate te (part a_term) ++ repeated e n)

abbrev pub parts_due : Option Parts → List Item
parts_due (Some p) = following p.types p.terms p.each p.count
parts_due None = []

-- what the table says, and then the rest of the plan
abbrev pub entry_due : Option Declared → Option Triple → List Item
entry_due (Some (Named k n)) l = parts_due (head_in an_entry l) ++ (entries k n ∷ [])
entry_due (Some Expected) l = parts_due (head_in an_expected l) ++ (part a_goal ∷ [])
entry_due None l = []

-- ---- reading
-- the line may stand where the item is due
abbrev pub ok : Item → Option Triple → Bool
ok (part x) l = is_some (head_in x l)
ok (entries k last) l = is_some (declared_in k last l)

-- and is then followed by these
abbrev pub due : Item → Option Triple → List Item
due (part x) l = parts_due (head_in x l)
due (entries k last) l = entry_due (declared_in k last l) l

-- Reads what is due from the lines, the first of which is at `at`, counted from 0: each line is the first thing due,
-- and puts what must follow it in its place. Unfit, counted from 1, is the first line that can't stand where it does,
-- or the first that is lacking.
unfoldable pub read : List (Option Triple) → List Item → ℕ → Result ℕ SheetError
read [] [] at = Ok at
read [] (x ∷ ahead) at = Err (Unfit (at + 1))
read (l ∷ ls) [] at = Ok at
read (l ∷ ls) (x ∷ ahead) at = let r = read ls (due x l ++ ahead) (at + 1) in cond (ok x l) r (Err (Unfit (at + 1)))

-- the same in a sheet, from the line at `at` on
unfoldable pub read_at : List ℕ → List Item → ℕ → Result ℕ SheetError
read_at s ahead at = read (lines_from s at (length s / line_length - at)) ahead at

-- a reader's error is the line alone
abbrev pub unfit : Result ℕ ℕ → Result ℕ SheetError
unfit (Ok k) = Ok k
unfit (Err l) = Err (Unfit l)

-- the bytes of the lines that were read, from the line at `at` on
abbrev pub read_bytes : List ℕ → ℕ → Result ℕ SheetError → List ℕ
read_bytes s at (Ok k) = take (line_length * k - line_length * at) (drop (line_length * at) s)
read_bytes s at (Err e) = []

-- the lines of the term that starts at the line at `at`
unfoldable pub sub_term : List ℕ → ℕ → List ℕ
sub_term s at = read_bytes s at (read_at s (part a_term ∷ []) at)
