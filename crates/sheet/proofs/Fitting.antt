-- A sheet is a plan exactly if each of its lines fits in front of those after it, and the plan's own lines come in their order. Assumes nothing.
use Rattle.grammar.specs.declared.SheetError.{SheetError}
use Rattle.std.proofs.Common.{Result, Ok, Err, Option, Some, None, is_some, ◌≡◌, refl, sym, ap, ◌∙◌, subst, inl, Bool, true, false, not, ◌&&◌, ◌||◌, List, [], ◌∷◌, ◌++◌, map, append_assoc, append-nil, ℕ, zero, suc, ◌+◌, ◌/◌, ◌≤◌, ◌<◌, add-zero, zero-add, arith, length, get_or, drop, length-append, drop_of_length-le, eqb, ltb, eqb-true, eq-eqb, ne_eqb, ltb-true, ltb-false}
use mathlib.Core.Bool.{and-eq-true_iff, and_comm, false≢true}
use native.Mathlib.Nat.{sub-zero}
use Rattle.sizes.specs.Sizes.{line_length}
use Rattle.nodes.specs.Parts.{drop_parts}
use Rattle.nodes.specs.Lists.{All}
use Rattle.nodes.proofs.ListLaws.{all_append}
use Rattle.nodes.proofs.PartLaws.{drop-none, drop-drop}
use Rattle.spelling.specs.declared.Triple.{Triple}
use Rattle.spelling.specs.Spelling.{lines_from, lines_of}
use Rattle.spelling.proofs.Laws.{length-lines}
use Rattle.kinds.specs.declared.Row.{Row}
use Rattle.kinds.proofs.Rows.{expected-kind, same-true, true-same}
use Rattle.kinds.specs.declared.Sort.{Sort}
use Rattle.kinds.specs.Kinds.{nothing, same_sort, an_entry, an_expected, a_goal, table, find, row_of, fields_ok, begins, head_of, parts_of}
use Rattle.grammar.specs.declared.Declared.{Declared}
use Rattle.grammar.specs.declared.Declared.TheVariants.{Named, Expected}
use Rattle.grammar.specs.Grammar.{Item, part, entries, in_order, declared_by, ok, due, parts_due, entry_due, read, read_at}
use Rattle.grammar.specs.Check.{length_ok, end_of, read_sheet, fitting, check}
use Rattle.grammar.proofs.Lines.{plan-first}
use Rattle.sheet.specs.declared.Entry.{Entry}
use Rattle.sheet.specs.Plan.{no_triple, triple_of, triples, part_line, is_entry}
use Rattle.sheet.specs.Form.{Forms}
use Rattle.sheet.specs.Fit.{is_plan, forms, first_sort, meets, parts_after, line_fits, all_fit}
use Rattle.sheet.proofs.Lines.{line-inside, drop-line}
use Rattle.sheet.proofs.Declarations.{from, here, type-end, EntryAt, no-entry-at}
use Rattle.sheet.proofs.Forming.{AllParts, parts-following, few-each, length-following, due-following, split}
use Rattle.sheet.proofs.TypeLines.{sort-is, value-ok, count-ok, begun-row}
use Rattle.sheet.proofs.Formed.{Says, an-entry, expects, neither, says, sheet-forms}
use Rattle.sheet.proofs.LineKinds.{Sorted, sorted-following, sorted-due}

-- ---- the test is the fact
pub forms-true : (ts : List Triple) (a : List Item) → forms ts a ≡ true → Forms ts a
unfolding forms
forms-true [] [] e = tt
forms-true [] (x ∷ a) e = absurd (false≢true e)
forms-true (t ∷ ts) [] e = absurd (false≢true e)
forms-true (t ∷ ts) (x ∷ a) e = let b = (and-eq-true_iff (ok x (Some t)) _).0 e in (b.0, forms-true ts (due x (Some t) ++ a) b.1)

pub true-forms : (ts : List Triple) (a : List Item) → Forms ts a → forms ts a ≡ true
unfolding forms
true-forms [] [] f = refl
true-forms [] (x ∷ a) f = absurd f
true-forms (t ∷ ts) [] f = absurd f
true-forms (t ∷ ts) (x ∷ a) f = (and-eq-true_iff (ok x (Some t)) _).1 (f.0, true-forms ts (due x (Some t) ++ a) f.1)

-- ---- a part that is due by its sort
-- the goal's line has kind 4
goal-four : (t : Triple) → begins a_goal t ≡ true → t.kind ≡ 4
unfolding table
goal-four t b = eqb-true t.kind 4 (rw (true-same (row_of t.kind).sort a_goal (sort-is a_goal t b)) at (begun-row a_goal t b refl four refl))
  where
    four : ℕ → Row → Bool
    four k r = not (same_sort r.sort a_goal) || eqb k 4

begins-by : (x : Sort) (t : Triple) → (row_of t.kind).sort ≡ x → fields_ok (row_of t.kind) t ≡ true → begins x t ≡ true
unfolding begins
begins-by x t e f = rw (true-same (row_of t.kind).sort x e) f

begun-fields : (x : Sort) (t : Triple) → begins x t ≡ true → fields_ok (row_of t.kind) t ≡ true
begun-fields x t b = (and-eq-true_iff _ _).1 (value-ok x t b, count-ok x t b)

head-due : (x : Sort) (t : Triple) → begins x t ≡ true → parts_due (head_of x t) ≡ parts_after (row_of t.kind) t.count
unfolding head_of
head-due x t b = rw b

part-ok : (x : Sort) (t : Triple) → begins x t ≡ true → ok (part x) (Some t) ≡ true
unfolding head_of
part-ok x t b = rw b

part-not : (x : Sort) (t : Triple) → begins x t ≡ false → ok (part x) (Some t) ≡ false
unfolding head_of
part-not x t b = rw b

pub length-after : (t : Triple) → length (parts_after (row_of t.kind) t.count) ≡ parts_of t
unfolding parts_of
length-after t = length-following _ _ _ t.count (few-each t.kind)

-- parts of a real sort
abbrev pub Real : List Item → Type 0
Real [] = Unit {0}
Real (part x ∷ a) = (same_sort x nothing ≡ false) × Real a
Real (entries k n ∷ a) = ⊥

real : (a : List Item) → AllParts a → All Sorted a → Real a
real [] p s = tt
real (part x ∷ a) p s = (s.0, real a p s.1)
real (entries k n ∷ a) p s = absurd p

real-append : (a b : List Item) → Real a → Real b → Real (a ++ b)
real-append [] b p q = q
real-append (part x ∷ a) b p q = (p.0, real-append a b p.1 q)
real-append (entries k n ∷ a) b p q = absurd p

pub real-after : (r : Row) (n : ℕ) → Real (parts_after r n)
real-after r n = real (parts_after r n) (parts-following r.types r.terms r.each n) (sorted-following r.types r.terms r.each n)

-- ---- parts one after the other
meets-append : (a b : List Item) (ts : List Triple) → meets ts a ≡ true → meets (drop_parts parts_of ts (length a)) b ≡ true → meets ts (a ++ b) ≡ true
unfolding meets
meets-append [] b ts p q = rw (drop-none parts_of ts) at q
meets-append (part x ∷ a) b ts p q =
    let e = (and-eq-true_iff (same_sort (first_sort ts) x) _).0 p in
    let d : drop_parts parts_of ts (suc (length a)) ≡ drop_parts parts_of (drop_parts parts_of ts 1) (length a) = let k : suc (length a) ≡ 1 + length a = omega arith in ap (drop_parts parts_of ts) k ∙ drop-drop parts_of ts 1 (length a) in
    (and-eq-true_iff (same_sort (first_sort ts) x) _).1 (e.0, meets-append a b (drop_parts parts_of ts 1) e.1 (rw d at q))
meets-append (entries k n ∷ a) b ts p q = absurd (false≢true p)

-- lines that all fit are read over by the parts that they meet
pub over : (ts : List Triple) (a b : List Item) → all_fit ts ≡ true → Real a → meets ts a ≡ true → forms ts (a ++ b) ≡ forms (drop_parts parts_of ts (length a)) b
unfolding all_fit meets forms
over [] [] b f r m = refl
over [] (part x ∷ a) b f r m = absurd (false≢true (sym r.0 ∙ true-same x nothing (sym (same-true nothing x ((and-eq-true_iff (same_sort nothing x) _).0 m).0))))
over [] (entries k n ∷ a) b f r m = absurd r
over (t ∷ ts) [] b f r m = refl
over (t ∷ ts) (entries k n ∷ a) b f r m = absurd r
over (t ∷ ts) (part x ∷ a) b f r m =
    let g = (and-eq-true_iff (line_fits t ts) (all_fit ts)).0 f in
    let h = (and-eq-true_iff (fields_ok (row_of t.kind) t) _).0 g.0 in
    let e = (and-eq-true_iff (same_sort (row_of t.kind).sort x) _).0 m in
    let c = begins-by x t (same-true (row_of t.kind).sort x e.0) h.0 in
    let w : List Item = parts_after (row_of t.kind) t.count in
    let n : length w ≡ parts_of t = length-after t in
    let z : parts_of t + 0 ≡ length w = add-zero (parts_of t) ∙ sym n in
    let l : parts_of t + length a ≡ length (w ++ a) = ap (λ (k : ℕ). k + length a) (sym n) ∙ sym (length-append w a) in
    let again = over ts (w ++ a) b g.1 (real-append w a (real-after (row_of t.kind) t.count) r.1) (meets-append w a ts h.1 (rw z at e.1)) in
    rw (part-ok x t c, head-due x t c, l) (ap (forms ts) (sym (append_assoc w a b)) ∙ again)

-- a line's own parts
pub line-over : (t : Triple) (ts : List Triple) (b : List Item) → all_fit (t ∷ ts) ≡ true → forms ts (parts_after (row_of t.kind) t.count ++ b) ≡ forms (drop_parts parts_of (t ∷ ts) 1) b
unfolding all_fit
line-over t ts b f =
    let g = (and-eq-true_iff (line_fits t ts) (all_fit ts)).0 f in
    let h = (and-eq-true_iff (fields_ok (row_of t.kind) t) _).0 g.0 in
    let w : List Item = parts_after (row_of t.kind) t.count in
    let z : length w ≡ parts_of t + 0 = length-after t ∙ sym (add-zero (parts_of t)) in
    over ts w b g.1 (real-after (row_of t.kind) t.count) h.1 ∙ ap (λ (k : ℕ). forms (drop_parts parts_of ts k) b) z

-- ---- lines that are what is due all fit
forms-meet : (a b : List Item) (ts : List Triple) → AllParts a → Forms ts (a ++ b) → meets ts a ≡ true
unfolding meets
forms-meet [] b ts p f = refl
forms-meet (part x ∷ a) b [] p f = absurd f
forms-meet (part x ∷ a) b (t ∷ ts) p f =
    let s = split (t ∷ ts) (part x ∷ []) (a ++ b) tt f in
    (and-eq-true_iff (same_sort (row_of t.kind).sort x) _).1 (true-same _ x (sort-is x t (due-following x t f.0).0), forms-meet a b (drop_parts parts_of (t ∷ ts) 1) p s.1)
forms-meet (entries k n ∷ a) b ts p f = absurd p

-- a line that may stand: its fields are in range, and its parts come first of what follows
record Follows (t : Triple) (a : List Item) : Type 0 where
  fields : fields_ok (row_of t.kind) t ≡ true
  rest : List Item
  first : a ≡ parts_after (row_of t.kind) t.count ++ rest

entry_follows : (t : Triple) {d : Option Declared} → Says t d → is_some d ≡ true → Follows t (entry_due d (Some t))
entry_follows t (an-entry k n b e kd) o = record { fields = begun-fields an_entry t b; rest = entries k n ∷ []; first = rw (head-due an_entry t b) }
entry_follows t (expects b e) o = record { fields = begun-fields an_expected t b; rest = part a_goal ∷ []; first = rw (head-due an_expected t b) }
entry_follows t neither o = absurd (false≢true o)

line-follows : (x : Item) (t : Triple) → Sorted x → ok x (Some t) ≡ true → Follows t (due x (Some t))
line-follows (part x) t s o =
    let d = due-following x t o in
    record { fields = begun-fields x t d.0; rest = []; first = d.1 ∙ sym (append-nil _) }
line-follows (entries k n) t s o = entry_follows t (says k n t s) o

pub forms-fit : (ts : List Triple) (a : List Item) → All Sorted a → Forms ts a → all_fit ts ≡ true
unfolding all_fit
forms-fit [] a s f = refl
forms-fit (t ∷ ts) [] s f = absurd f
forms-fit (t ∷ ts) (x ∷ a) s f =
    let w = line-follows x t s.0 f.0 in
    let r = row_of t.kind in
    let g : Forms ts (parts_after r t.count ++ (w.rest ++ a)) = subst (Forms ts) (ap (λ (b : List Item). b ++ a) w.first ∙ append_assoc (parts_after r t.count) w.rest a) f.1 in
    let m = forms-meet (parts_after r t.count) (w.rest ++ a) ts (parts-following r.types r.terms r.each t.count) g in
    (and-eq-true_iff (line_fits t ts) (all_fit ts)).1 (
      (and-eq-true_iff (fields_ok r t) _).1 (w.fields, m),
      forms-fit ts (due x (Some t) ++ a) (all_append Sorted (due x (Some t)) a (sorted-due x t s.0) s.1) f.1,
    )

-- ---- a sheet
-- a line that says nothing may stand nowhere
nowhere : (x : Item) → Sorted x → ok x (Some no_triple) ≡ true → ⊥
unfolding row_of find table
nowhere (part x) s o = false≢true (sym s ∙ true-same x nothing (sym (sort-is x no_triple (due-following x no_triple o).0)))
nowhere (entries k n) s o = none (says k n no_triple s) o
  where
    none : {d : Option Declared} → Says no_triple d → is_some d ≡ true → ⊥
    none (an-entry j m b e kd) o = false≢true e
    none (expects b e) o = omega arith
    none neither o = false≢true o

read-on : (l : Option Triple) (ls : List (Option Triple)) (x : Item) (a : List Item) (at : ℕ) → ok x l ≡ true → read (l ∷ ls) (x ∷ a) at ≡ read ls (due x l ++ a) (at + 1)
unfolding read
read-on l ls x a at o = rw o

read_none : (at : ℕ) → read [] [] at ≡ Ok at
unfolding read
read_none at = refl

forms-read : (ls : List (Option Triple)) (a : List Item) (at : ℕ) → All Sorted a → Forms (map triple_of ls) a → read ls a at ≡ Ok (at + length ls)
forms-read [] [] at s f = read_none at ∙ ap Ok (sym (add-zero at))
forms-read [] (x ∷ a) at s f = absurd f
forms-read (l ∷ ls) [] at s f = absurd f
forms-read (Some t ∷ ls) (x ∷ a) at s f =
    let k : at + 1 + length ls ≡ at + suc (length ls) = omega arith in
    read-on (Some t) ls x a at f.0 ∙ forms-read ls (due x (Some t) ++ a) (at + 1) (all_append Sorted (due x (Some t)) a (sorted-due x t s.0) s.1) f.1 ∙ ap Ok k
forms-read (None ∷ ls) (x ∷ a) at s f = absurd (nowhere x s.0 f.0)

module _ (s : List ℕ) (h : length_ok (length s) ≡ true) where
  abbrev n : ℕ
  n = length s / line_length

  forms-plan : Forms (triples s) (entries 1 0 ∷ []) → check s ≡ Ok tt
  unfolding check read_sheet read_at triples lines_of
  forms-plan f =
      let k : 0 + length (lines_from s 0 n) ≡ n = zero-add (length (lines_from s 0 n)) ∙ length-lines s 0 n in
      let r : read (lines_from s 0 n) (entries 1 0 ∷ []) 0 ≡ Ok n = forms-read (lines_from s 0 n) (entries 1 0 ∷ []) 0 (inl refl, tt) f ∙ ap Ok k in
      let q : read_at s (entries 1 0 ∷ []) 0 ≡ Ok n = rw (sub-zero n) r in
      let w : read_sheet s ≡ Ok n = ap (end_of n) q ∙ rw (eq-eqb n n refl) in
      rw h (plan-first s n w (fitting (read_sheet s)) ∙ ap fitting w)

  -- whether it is a plan is whether its lines are what is due
  pub plan-forms : is_plan (check s) ≡ forms (triples s) (entries 1 0 ∷ [])
  plan-forms = go (forms (triples s) (entries 1 0 ∷ [])) refl (check s) refl
    where
      go : (b : Bool) → forms (triples s) (entries 1 0 ∷ []) ≡ b → (c : (Result Unit SheetError)) → check s ≡ c → is_plan c ≡ b
      go true e c q = ap is_plan (sym q ∙ forms-plan (forms-true (triples s) (entries 1 0 ∷ []) e))
      go false e (Ok _) q = absurd (false≢true (sym e ∙ true-forms (triples s) (entries 1 0 ∷ []) (sheet-forms s q)))
      go false e (Err x) q = refl

  -- the lines as they are held
  pub top-plan : {ms : List Triple} → ms ≡ triples s → {r : Bool} → r ≡ forms ms (entries 1 0 ∷ []) → r ≡ is_plan (check s)
  top-plan e q = q ∙ ap (λ (ls : List Triple). forms ls (entries 1 0 ∷ [])) e ∙ sym plan-forms

  -- a line that does not fit
  pub unfit : all_fit (triples s) ≡ false → is_plan (check s) ≡ false
  unfit e = plan-forms ∙ go (forms (triples s) (entries 1 0 ∷ [])) refl
    where
      go : (b : Bool) → forms (triples s) (entries 1 0 ∷ []) ≡ b → forms (triples s) (entries 1 0 ∷ []) ≡ false
      go true q = absurd (false≢true (sym e ∙ forms-fit (triples s) (entries 1 0 ∷ []) (inl refl, tt) (forms-true (triples s) (entries 1 0 ∷ []) q)))
      go false q = q

pub is-plan : (v : Result Unit SheetError) → is_plan v ≡ true → v ≡ Ok tt
is-plan (Ok _) e = refl
is-plan (Err x) e = absurd (false≢true e)

-- ---- the plan's own lines, where all fit
all_drop : (at : ℕ) (ts : List Triple) → all_fit ts ≡ true → all_fit (drop at ts) ≡ true
unfolding all_fit
all_drop zero ts f = f
all_drop (suc at) [] f = refl
all_drop (suc at) (t ∷ ts) f = all_drop at ts ((and-eq-true_iff (line_fits t ts) (all_fit ts)).0 f).1

-- no more is due
forms-nil : (ts : List Triple) (n : ℕ) → n ≤ length ts → forms (drop n ts) [] ≡ eqb n (length ts)
unfolding forms
forms-nil ts n h = go (ltb n (length ts)) refl
  where
    go : (b : Bool) → ltb n (length ts) ≡ b → forms (drop n ts) [] ≡ eqb n (length ts)
    go true e =
        let l = ltb-true n (length ts) e in
        rw (here ts n l, ne_eqb n (length ts) (λ q. omega arith))
    go false e =
        let l = ltb-false n (length ts) e in
        rw (drop_of_length-le ts l, eq-eqb n (length ts) (omega arith))

-- past the last line something is lacking
pub lacking : (ls : List Triple) (at : ℕ) (x : Item) (a : List Item) → length ls ≤ at → forms (drop at ls) (x ∷ a) ≡ false
unfolding forms
lacking ls at x a h = rw (drop_of_length-le ls h)

-- which sort a line of kind 1 to 4 begins, its fields in range
module _ (t : Triple) where
  entry-begins : fields_ok (row_of t.kind) t ≡ true → is_entry t ≡ true → begins an_entry t ≡ true
  unfolding row_of find table
  entry-begins f e = begins-by an_entry t (go (eqb t.kind 1) refl (eqb t.kind 2) refl e) f
    where
      go : (a : Bool) → eqb t.kind 1 ≡ a → (b : Bool) → eqb t.kind 2 ≡ b → (a || b) ≡ true → (row_of t.kind).sort ≡ an_entry
      go true p b q e = rw (eqb-true t.kind 1 p)
      go false p true q e = rw (eqb-true t.kind 2 q)
      go false p false q e = absurd (false≢true e)

  not-begun : (x : Sort) → (begins x t ≡ true → ⊥) → begins x t ≡ false
  not-begun x n = go (begins x t) refl
    where
      go : (b : Bool) → begins x t ≡ b → begins x t ≡ false
      go true e = absurd (n e)
      go false e = e

  begun-entry : begins an_entry t ≡ true → is_entry t ≡ true
  unfolding table
  begun-entry b = rw (true-same (row_of t.kind).sort an_entry (sort-is an_entry t b)) at (begun-row an_entry t b refl own refl)
    where
      own : ℕ → Row → Bool
      own k r = not (same_sort r.sort an_entry) || (eqb k 1 || eqb k 2)

  no-entry : is_entry t ≡ false → begins an_entry t ≡ false
  no-entry e = not-begun an_entry (λ b. false≢true (sym e ∙ begun-entry b))

  expected-begins : fields_ok (row_of t.kind) t ≡ true → t.kind ≡ 3 → begins an_expected t ≡ true
  unfolding row_of find table
  expected-begins f k = begins-by an_expected t (rw k) f

  goal-begins : fields_ok (row_of t.kind) t ≡ true → t.kind ≡ 4 → begins a_goal t ≡ true
  unfolding row_of find table
  goal-begins f k = begins-by a_goal t (rw k) f

  module _ (k last : ℕ) where
    named : begins an_entry t ≡ true → in_order k last t ≡ true → declared_by k last t ≡ Some (Named t.kind t.value)
    unfolding declared_by
    named b o = rw (b, o)

    unordered : begins an_entry t ≡ true → in_order k last t ≡ false → declared_by k last t ≡ None
    unfolding declared_by
    unordered b o = rw (b, o)

    expected : begins an_entry t ≡ false → begins an_expected t ≡ true → declared_by k last t ≡ Some Expected
    unfolding declared_by
    expected b e = rw (b, e)

    neither-of : begins an_entry t ≡ false → begins an_expected t ≡ false → declared_by k last t ≡ None
    unfolding declared_by
    neither-of b e = rw (b, e)

module _ (ls : List Triple) (f : all_fit ls ≡ true) (at : ℕ) (h : at < length ls) where
  abbrev t : Triple
  t = get_or ls at no_triple

  fit-from : all_fit (t ∷ drop (at + 1) ls) ≡ true
  fit-from = rw (here ls at h) at (all_drop at ls f)

  fields-here : fields_ok (row_of t.kind) t ≡ true
  unfolding all_fit
  fields-here = ((and-eq-true_iff (fields_ok (row_of t.kind) t) _).0 ((and-eq-true_iff (line_fits t (drop (at + 1) ls)) _).0 fit-from).0).0

  -- a line that may stand, its parts, and then y
  step : (x : Item) (y : List Item) → ok x (Some t) ≡ true → due x (Some t) ≡ parts_after (row_of t.kind) t.count ++ y → forms (drop at ls) (x ∷ []) ≡ forms (drop (part_line ls at 1) ls) y
  unfolding forms
  step x y o d =
      let w : List Item = parts_after (row_of t.kind) t.count in
      let e : forms (drop (at + 1) ls) (due x (Some t) ++ []) ≡ forms (drop (at + 1) ls) (w ++ y) = ap (forms (drop (at + 1) ls)) (append-nil (due x (Some t)) ∙ d) in
      let g : forms (drop_parts parts_of (t ∷ drop (at + 1) ls) 1) y ≡ forms (drop (part_line ls at 1) ls) y = ap (λ (ts : List Triple). forms ts y) (sym (drop-line ls at 1 ∙ ap (λ (ts : List Triple). drop_parts parts_of ts 1) (here ls at h))) in
      ap (λ (ts : List Triple). forms ts (x ∷ [])) (here ls at h) ∙ rw o (e ∙ line-over t (drop (at + 1) ls) y fit-from ∙ g)

  no_step : (x : Item) → ok x (Some t) ≡ false → forms (drop at ls) (x ∷ []) ≡ false
  unfolding forms
  no_step x o = ap (λ (ts : List Triple). forms ts (x ∷ [])) (here ls at h) ∙ rw o

  pub entry_next : (k last : ℕ) → is_entry t ≡ true → in_order k last t ≡ true → forms (drop at ls) (entries k last ∷ []) ≡ forms (drop (part_line ls at 1) ls) (entries t.kind t.value ∷ [])
  entry_next k last e o =
      let b = entry-begins t fields-here e in
      let d = named t k last b o in
      step (entries k last) (entries t.kind t.value ∷ []) (ap is_some d) (ap (λ (x : Option Declared). entry_due x (Some t)) d ∙ ap (λ (a : List Item). a ++ (entries t.kind t.value ∷ [])) (head-due an_entry t b))

  pub expected-next : (k last : ℕ) → is_entry t ≡ false → t.kind ≡ 3 → forms (drop at ls) (entries k last ∷ []) ≡ forms (drop (part_line ls at 1) ls) (part a_goal ∷ [])
  expected-next k last e q =
      let b = expected-begins t fields-here q in
      let d = expected t k last (no-entry t e) b in
      step (entries k last) (part a_goal ∷ []) (ap is_some d) (ap (λ (x : Option Declared). entry_due x (Some t)) d ∙ ap (λ (a : List Item). a ++ (part a_goal ∷ [])) (head-due an_expected t b))

  pub entry-low : (k last : ℕ) → is_entry t ≡ true → in_order k last t ≡ false → forms (drop at ls) (entries k last ∷ []) ≡ false
  entry-low k last e o = no_step (entries k last) (ap is_some (unordered t k last (entry-begins t fields-here e) o))

  pub entry_other : (k last : ℕ) → is_entry t ≡ false → (t.kind ≡ 3 → ⊥) → forms (drop at ls) (entries k last ∷ []) ≡ false
  entry_other k last e q = no_step (entries k last) (ap is_some (neither-of t k last (no-entry t e) (not-begun t an_expected (λ b. q (expected-kind t.kind (sort-is an_expected t b))))))

  -- what the code has of an entry
  pub entry-on : {e : Entry} → EntryAt ls at e → (k last : ℕ) → {r : Bool} → r ≡ in_order k last e.head → r ≡ true → forms (drop e.end ls) (entries e.head.kind e.head.value ∷ []) ≡ forms (drop at ls) (entries k last ∷ [])
  entry-on {e} E k last q p =
      let o : in_order k last t ≡ true = ap (λ (x : Entry). in_order k last x.head) (sym E.same) ∙ sym q ∙ p in
      rw E.same (ap (λ (n : ℕ). forms (drop n ls) (entries t.kind t.value ∷ [])) (type-end ls at h E.entry) ∙ sym (entry_next k last E.entry o))

  pub entry-off : {e : Entry} → EntryAt ls at e → (k last : ℕ) → {r : Bool} → r ≡ in_order k last e.head → r ≡ false → false ≡ forms (drop at ls) (entries k last ∷ [])
  entry-off {e} E k last q p = sym (entry-low k last E.entry (ap (λ (x : Entry). in_order k last x.head) (sym E.same) ∙ sym q ∙ p))

  pub goal-on : t.kind ≡ 4 → eqb (part_line ls at 1) (length ls) ≡ forms (drop at ls) (part a_goal ∷ [])
  goal-on q =
      let b = goal-begins t fields-here q in
      sym (step (part a_goal) [] (part-ok a_goal t b) (head-due a_goal t b ∙ sym (append-nil _)) ∙ forms-nil ls (part_line ls at 1) (line-inside ls at 1 (omega arith)))

  goal-none : (t.kind ≡ 4 → ⊥) → forms (drop at ls) (part a_goal ∷ []) ≡ false
  goal-none q = no_step (part a_goal) (part-not a_goal t (not-begun t a_goal (λ b. q (goal-four t b))))

pub goal-off : (ls : List Triple) → all_fit ls ≡ true → (at : ℕ) → ((get_or ls at no_triple).kind ≡ 4 → ⊥) → false ≡ forms (drop at ls) (part a_goal ∷ [])
goal-off ls f at n = go (ltb at (length ls)) refl
  where
    go : (b : Bool) → ltb at (length ls) ≡ b → false ≡ forms (drop at ls) (part a_goal ∷ [])
    go true p = sym (goal-none ls f at (ltb-true at (length ls) p) n)
    go false p = sym (lacking ls at (part a_goal) [] (ltb-false at (length ls) p))

-- ---- after the entries
module _ (ls : List Triple) (f : all_fit ls ≡ true) (at : ℕ) (done : from ls at ≡ []) (k last : ℕ) where
  pub expected-on : at < length ls → (get_or ls at no_triple).kind ≡ 3 → forms (drop (part_line ls at 1) ls) (part a_goal ∷ []) ≡ forms (drop at ls) (entries k last ∷ [])
  expected-on h q = sym (expected-next ls f at h k last (no-entry-at ls at done) q)

  pub expected-off : ((get_or ls at no_triple).kind ≡ 3 → ⊥) → false ≡ forms (drop at ls) (entries k last ∷ [])
  expected-off n = go (ltb at (length ls)) refl
    where
      go : (b : Bool) → ltb at (length ls) ≡ b → false ≡ forms (drop at ls) (entries k last ∷ [])
      go true p = sym (entry_other ls f at (ltb-true at (length ls) p) k last (no-entry-at ls at done) n)
      go false p = sym (lacking ls at (entries k last) [] (ltb-false at (length ls) p))

-- ---- from the last line up
module _ (ls : List Triple) (i : ℕ) where
  pub fit_none : length ls ≤ i → true ≡ all_fit (drop i ls)
  unfolding all_fit
  fit_none h = rw (drop_of_length-le ls h)

  pub fit-turn : i < length ls → {at rest : Bool} → at ≡ line_fits (get_or ls i no_triple) (drop (i + 1) ls) → rest ≡ all_fit (drop (i + 1) ls) → (rest && at) ≡ all_fit (drop i ls)
  unfolding all_fit
  fit-turn h {at} {rest} e f = and_comm rest at ∙ rw (here ls i h, e, f)
