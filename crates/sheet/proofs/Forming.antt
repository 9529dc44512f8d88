-- A sheet that is taken is formed: `formed`. A whole part splits into its parts: `split`. Assumes nothing.
use Rattle.std.proofs.Common.{Option, Some, None, Ok, is_some, ◌≡◌, refl, sym, ap, ◌∙◌, Bool, true, false, cond, List, [], ◌∷◌, ◌++◌, append_assoc, map, ℕ, zero, suc, ◌+◌, ◌*◌, arith, length, replicate, length-append}
use mathlib.Core.Path.{subst⁻¹}
use mathlib.Core.Bool.{false≢true}
use lib.ListN.{length-replicate}
use Rattle.nodes.specs.Parts.{take_parts, drop_parts}
use Rattle.spelling.specs.declared.Triple.{Triple}
use Rattle.kinds.specs.declared.Sort.{Sort}
use Rattle.kinds.specs.declared.Sort.TheVariants.{Nothing, «Type», Term, Pattern, Arm, Entry, Expected, Goal}
use Rattle.kinds.specs.Kinds.{a_type, a_term, a_pattern, an_arm, same_sort, row_of, begins, head_of, each_parts, parts_of, table, parts_by}
use Rattle.kinds.proofs.Rows.{row-passes}
use Rattle.grammar.specs.Grammar.{Item, part, entries, ok, due, arms, repeated, following, parts_due, read}
use Rattle.grammar.proofs.Laws.{one, no_line, bounds}
use Rattle.sheet.specs.Plan.{triple_of}
use Rattle.sheet.specs.Form.{Forms}

-- ---- what is due after a line of a part: parts alone, as many as `parts_of` counts
abbrev pub AllParts : List Item → Type 0
AllParts [] = Unit {0}
AllParts (part x ∷ ahead) = AllParts ahead
AllParts (entries k n ∷ ahead) = ⊥

pub parts-append : (a b : List Item) → AllParts a → AllParts b → AllParts (a ++ b)
parts-append [] b p q = q
parts-append (part x ∷ a) b p q = parts-append a b p q
parts-append (entries k n ∷ a) b p q = absurd p

parts-replicate : (n : ℕ) (x : Sort) → AllParts (replicate n (part x))
parts-replicate zero x = tt
parts-replicate (suc n) x = parts-replicate n x

parts-arms : (n : ℕ) → AllParts (arms n)
unfolding arms
parts-arms zero = tt
parts-arms (suc n) = parts-arms n

length-arms : (n : ℕ) → length (arms n) ≡ 2 * n
unfolding arms
length-arms zero = refl
length-arms (suc n) = let h = length-arms n in omega arith

cond-parts : (b : Bool) (x y : List Item) → AllParts x → AllParts y → AllParts (cond b x y)
cond-parts true x y p q = p
cond-parts false x y p q = q

parts-repeated : (e : Sort) (n : ℕ) → AllParts (repeated e n)
parts-repeated e n =
    cond-parts (same_sort e a_type) _ _ (parts-replicate n a_type) (cond-parts (same_sort e a_term) _ _ (parts-replicate n a_term)
    (cond-parts (same_sort e a_pattern) _ _ (parts-replicate n a_pattern) (cond-parts (same_sort e an_arm) (arms n) [] (parts-arms n) tt)))

-- a sort that may follow a line as many times as its count says, and nothing
abbrev is_repeated : Sort → Bool
is_repeated Nothing = true
is_repeated «Type» = true
is_repeated Term = true
is_repeated Pattern = true
is_repeated Arm = true
is_repeated Entry = false
is_repeated Expected = false
is_repeated Goal = false

length-repeated : (e : Sort) (n : ℕ) → is_repeated e ≡ true → length (repeated e n) ≡ each_parts e n
length-repeated Nothing n h = refl
length-repeated «Type» n h = length-replicate n (part a_type)
length-repeated Term n h = length-replicate n (part a_term)
length-repeated Pattern n h = length-replicate n (part a_pattern)
length-repeated Arm n h = length-arms n
length-repeated Entry n h = absurd (false≢true h)
length-repeated Expected n h = absurd (false≢true h)
length-repeated Goal n h = absurd (false≢true h)

pub few-each : (k : ℕ) → is_repeated (row_of k).each ≡ true
unfolding table
few-each k = row-passes (λ r. is_repeated r.each) k refl

pub length-following : (ty te : ℕ) (e : Sort) (n : ℕ) → is_repeated e ≡ true → length (following ty te e n) ≡ ty + te + each_parts e n
unfolding following
length-following ty te e n h =
    length-append (replicate ty (part a_type)) _
    ∙ rw (length-replicate ty (part a_type), length-append (replicate te (part a_term)) (repeated e n), length-replicate te (part a_term), length-repeated e n h) (omega arith)

pub parts-following : (ty te : ℕ) (e : Sort) (n : ℕ) → AllParts (following ty te e n)
unfolding following
parts-following ty te e n =
    parts-append (replicate ty (part a_type)) _ (parts-replicate ty a_type)
    (parts-append (replicate te (part a_term)) (repeated e n) (parts-replicate te a_term) (parts-repeated e n))

-- what follows a line that begins a part
pub due-following : (x : Sort) (t : Triple) → ok (part x) (Some t) ≡ true
    → (begins x t ≡ true) × (due (part x) (Some t) ≡ following (row_of t.kind).types (row_of t.kind).terms (row_of t.kind).each t.count)
unfolding head_of
due-following x t = go (begins x t) refl
  where
    go : (b : Bool) → begins x t ≡ b → is_some (cond b (Some (parts_by (row_of t.kind) t.count)) None) ≡ true
        → (begins x t ≡ true)
        × (parts_due (cond b (Some (parts_by (row_of t.kind) t.count)) None)
        ≡ following (row_of t.kind).types (row_of t.kind).terms (row_of t.kind).each t.count)
    go true q e = (q, refl)
    go false q e = absurd (let z : ◌≡◌ {A = ℕ} 0 1 = cc in omega arith)

pub due-parts : (x : Sort) (t : Triple) → ok (part x) (Some t) ≡ true → (length (due (part x) (Some t)) ≡ parts_of t) × AllParts (due (part x) (Some t))
unfolding parts_of
due-parts x t e =
    let d = (due-following x t e).1 in
    (ap length d ∙ length-following _ _ _ t.count (few-each t.kind), subst⁻¹ AllParts d (parts-following _ _ _ t.count))

-- ---- lines that are n parts and then more: the parts, and the rest
forms-move : (ts : List Triple) {a b : List Item} → a ≡ b → Forms ts a → Forms ts b
forms-move ts e f = rw e at f

pub split : (ts : List Triple) (a b : List Item) → AllParts a → Forms ts (a ++ b)
    → Forms (take_parts parts_of ts (length a)) a × Forms (drop_parts parts_of ts (length a)) b
split [] [] b p f = (tt, f)
split [] (x ∷ a) b p f = absurd f
split (t ∷ ts) [] b p f = (tt, f)
split (t ∷ ts) (part x ∷ a) b p f =
    let d : List Item = due (part x) (Some t) in
    let n = due-parts x t f.0 in
    let l : length (d ++ a) ≡ parts_of t + length a = length-append d a ∙ ap (λ (k : ℕ). k + length a) n.0 in
    let r = split ts (d ++ a) b (parts-append d a n.1 p) (forms-move ts (sym (append_assoc d a b)) f.1) in
    ((f.0, rw l at r.0), rw l at r.1)
split (t ∷ ts) (entries k n ∷ a) b p f = absurd p

-- ---- lines that were read to their end
pub misspelt-none : (x : Item) → ok x None ≡ true → ⊥
misspelt-none (part k) e = let z : ◌≡◌ {A = ℕ} 0 1 = cc in omega arith
misspelt-none (entries k n) e = let z : ◌≡◌ {A = ℕ} 0 1 = cc in omega arith

pub read-forms : (ls : List (Option Triple)) (ahead : List Item) (at : ℕ) → read ls ahead at ≡ Ok (at + length ls) → Forms (map triple_of ls) ahead
read-forms [] [] at e = tt
read-forms [] (x ∷ ahead) at e = absurd (no_line x ahead at _ e)
read-forms (l ∷ ls) [] at e = let h = bounds-nil in absurd h
  where
    bounds-nil : ⊥
    bounds-nil = let z : at ≡ at + suc (length ls) = cc (Rattle.grammar.proofs.Laws.nothing (l ∷ ls) at) in omega arith
read-forms (Some t ∷ ls) (x ∷ ahead) at e =
    let o = one (Some t) ls x ahead at (at + suc (length ls)) e in
    let k : at + suc (length ls) ≡ at + 1 + length ls = omega arith in
    (o.0, read-forms ls (due x (Some t) ++ ahead) (at + 1) (o.1 ∙ ap Ok k))
read-forms (None ∷ ls) (x ∷ ahead) at e = absurd (misspelt-none x (one None ls x ahead at (at + suc (length ls)) e).0)
