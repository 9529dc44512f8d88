-- Which kinds the lines of a sheet that is taken have: never that of an output. Assumes nothing.
use Rattle.kinds.specs.declared.Parts.{Parts}
use Rattle.std.proofs.Common.{Ok, Some, Option, None, is_some, ◌≡◌, refl, sym, ◌∙◌, ◌≢◌, inl, Bool, true, false, not, cond, ◌||◌, List, [], ◌∷◌, ◌++◌, ℕ, zero, suc, arith, replicate, eqb, ne_eqb}
use mathlib.Core.Bool.{and-eq-true_iff, false≢true}
use borrow.Author.Tests.{eqb-false}
use Rattle.nodes.specs.Lists.{All}
use Rattle.nodes.proofs.ListLaws.{cond_ind, all_append}
use Rattle.spelling.specs.declared.Triple.{Triple}
use Rattle.kinds.specs.declared.Sort.{Sort}
use Rattle.kinds.proofs.Rows.{same-true, true-same}
use Rattle.kinds.specs.Kinds.{nothing, a_type, a_term, a_pattern, an_arm, same_sort, an_entry, an_expected, table, find, row_of, begins, head_of, parts_by}
use Rattle.grammar.specs.declared.Declared.{Declared}
use Rattle.grammar.specs.Grammar.{Item, part, entries, ok, due, arms, repeated, following, parts_due, entry_due}
use Rattle.grammar.specs.Check.{check}
use Rattle.sheet.specs.Plan.{triples, is_entry, is_plain}
use Rattle.sheet.specs.Form.{Forms}
use Rattle.sheet.proofs.Formed.{Kinded, Says, an-entry, expects, neither, says, sheet-forms}

-- ---- what is ever due: parts of a real sort, entries after kind 1 or 2
abbrev pub Sorted : Item → Type 0
Sorted (part x) = same_sort x nothing ≡ false
Sorted (entries k n) = Kinded k

sorted-replicate : (n : ℕ) (x : Sort) → same_sort x nothing ≡ false → All Sorted (replicate n (part x))
sorted-replicate zero x h = tt
sorted-replicate (suc n) x h = (h, sorted-replicate n x h)

sorted-arms : (n : ℕ) → All Sorted (arms n)
unfolding arms
sorted-arms zero = tt
sorted-arms (suc n) = (refl, (refl, sorted-arms n))

pub sorted-following : (ty te : ℕ) (e : Sort) (n : ℕ) → All Sorted (following ty te e n)
unfolding following
sorted-following ty te e n =
    all_append Sorted (replicate ty (part a_type)) _ (sorted-replicate ty a_type refl)
    (all_append Sorted (replicate te (part a_term)) (repeated e n) (sorted-replicate te a_term refl)
    (cond_ind (All Sorted) (same_sort e a_type) (λ _. sorted-replicate n a_type refl)
    (λ _. cond_ind (All Sorted) (same_sort e a_term) (λ _. sorted-replicate n a_term refl)
    (λ _. cond_ind (All Sorted) (same_sort e a_pattern) (λ _. sorted-replicate n a_pattern refl)
    (λ _. cond_ind (All Sorted) (same_sort e an_arm) (λ _. sorted-arms n) (λ _. tt))))))

sorted_head : (h : Option Parts) → All Sorted (parts_due h)
sorted_head (Some p) = sorted-following p.types p.terms p.each p.count
sorted_head None = tt

sorted-entry : (t : Triple) {d : Option Declared} → Says t d → All Sorted (entry_due d (Some t))
sorted-entry t (an-entry k n b e kd) = all_append Sorted (parts_due (head_of an_entry t)) _ (sorted_head (head_of an_entry t)) (kd, tt)
sorted-entry t (expects b e) = all_append Sorted (parts_due (head_of an_expected t)) _ (sorted_head (head_of an_expected t)) (refl, tt)
sorted-entry t neither = tt

pub sorted-due : (x : Item) (t : Triple) → Sorted x → All Sorted (due x (Some t))
sorted-due (part x) t h = sorted_head (head_of x t)
sorted-due (entries k n) t h = sorted-entry t (says k n t h)

-- ---- a line that may stand is not of kind 17
begins-kind : (x : Sort) (t : Triple) → same_sort x nothing ≡ false → begins x t ≡ true → t.kind ≢ 17
unfolding begins row_of find table
begins-kind x t h e k =
    let s : (row_of 17).sort ≡ x = rw k at (same-true (row_of t.kind).sort x ((and-eq-true_iff (same_sort (row_of t.kind).sort x) _).0 e).0) in
    false≢true (sym h ∙ true-same x nothing (sym s))

head-kind : (x : Sort) (t : Triple) → same_sort x nothing ≡ false → is_some (head_of x t) ≡ true → t.kind ≢ 17
unfolding head_of
head-kind x t h = go (begins x t) refl
  where
    go : (b : Bool) → begins x t ≡ b
        → is_some (cond b (Some (parts_by (row_of t.kind) t.count)) None) ≡ true → t.kind ≢ 17
    go true e f = begins-kind x t h e
    go false e f = absurd (let z : ◌≡◌ {A = ℕ} 0 1 = cc in omega arith)

entry-kind : {t : Triple} {d : Option Declared} → Says t d → is_some d ≡ true → t.kind ≢ 17
entry-kind {t} (an-entry k n b e kd) o q =
    let z : is_entry t ≡ false = rw q in
    let y : ◌≡◌ {A = ℕ} 0 1 = cc in omega arith
entry-kind (expects b e) o q = omega arith
entry-kind neither o q = let z : ◌≡◌ {A = ℕ} 0 1 = cc in omega arith

ok-kind : (x : Item) (t : Triple) → Sorted x → ok x (Some t) ≡ true → t.kind ≢ 17
ok-kind (part x) t h e = head-kind x t h e
ok-kind (entries k n) t h e = entry-kind (says k n t h) e

forms-kinds : (ts : List Triple) (ahead : List Item) → All Sorted ahead → Forms ts ahead → All (λ t. t.kind ≢ 17) ts
forms-kinds [] ahead s f = tt
forms-kinds (t ∷ ts) [] s f = absurd f
forms-kinds (t ∷ ts) (x ∷ ahead) s f =
    (ok-kind x t s.0 f.0, forms-kinds ts (due x (Some t) ++ ahead) (all_append Sorted (due x (Some t)) ahead (sorted-due x t s.0) s.1) f.1)

-- no line of a sheet that is taken has the kind of an unknown
pub no-unknown : (s : List ℕ) → check s ≡ Ok tt → All (λ t. t.kind ≢ 17) (triples s)
no-unknown s e = forms-kinds (triples s) (entries 1 0 ∷ []) (inl refl, tt) (sheet-forms s e)

-- plain lines: none of kind 14 or 25
pub plain-kinds : (ls : List Triple) → is_plain ls ≡ true → All (λ t. (t.kind ≢ 14) × (t.kind ≢ 25)) ls
unfolding is_plain
plain-kinds [] e = tt
plain-kinds (t ∷ ts) e =
    let b = (and-eq-true_iff (not (eqb t.kind 14 || eqb t.kind 25)) (is_plain ts)).0 e in
    (neither-kind (eqb t.kind 14) refl (eqb t.kind 25) refl b.0, plain-kinds ts b.1)
  where
    neither-kind : (p : Bool) → eqb t.kind 14 ≡ p → (q : Bool) → eqb t.kind 25 ≡ q → not (p || q) ≡ true → (t.kind ≢ 14) × (t.kind ≢ 25)
    neither-kind true p q' q e = absurd (let z : ◌≡◌ {A = ℕ} 0 1 = cc in omega arith)
    neither-kind false p true q e = absurd (let z : ◌≡◌ {A = ℕ} 0 1 = cc in omega arith)
    neither-kind false p false q e = (eqb-false t.kind 14 p, eqb-false t.kind 25 q)

pub kinds-plain : (ls : List Triple) → All (λ t. (t.kind ≢ 14) × (t.kind ≢ 25)) ls → is_plain ls ≡ true
unfolding is_plain
kinds-plain [] h = refl
kinds-plain (t ∷ ts) h = rw (ne_eqb t.kind 14 h.0.0, ne_eqb t.kind 25 h.0.1) (kinds-plain ts h.1)
