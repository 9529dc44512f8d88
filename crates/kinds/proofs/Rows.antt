-- What holds of every row of the table. Assumes nothing.
use Rattle.std.proofs.Common.{Option, Some, None, ◌≡◌, refl, sym, ap, ◌∙◌, ◌⊎◌, inl, inr, Bool, true, false, not, cond, ◌&&◌, ◌||◌, List, [], ◌∷◌, ℕ, zero, suc, ◌+◌, ◌*◌, ◌/◌, ◌%◌, ◌≤◌, ◌<◌, max, arith, eqb, leb, ltb, length, get_or, eq-eqb, ne_eqb, leb-true, eqb-true}
use Rattle.kinds.specs.declared.Parts.{Parts}
use mathlib.Core.Path.{subst⁻¹}
use mathlib.Core.Bool.{and-eq-true_iff}
use lib.ListN.{get_or-map, get_or-eq_default}
use borrow.Author.Tests.{eqb-false, ltb-true, ltb-false}
use Rattle.spelling.specs.declared.Triple.{Triple}
use Rattle.kinds.specs.declared.Row.{Row}
use Rattle.kinds.specs.declared.Sort.{Sort}
use Rattle.kinds.specs.declared.Sort.TheVariants.{Nothing, «Type», Term, Pattern, Arm, Entry, Expected, Goal}
use Rattle.kinds.specs.declared.Value.{Value}
use Rattle.kinds.specs.declared.Value.TheVariants.{Unused, Name, Number, Operator}
use Rattle.kinds.specs.Kinds.{digit_of, word_of, same_sort, sort_in, sort_numbered, fields_ok, begins_for, head_for, Listed, find, table, row_of, unlisted, nothing, a_type, a_term, a_pattern, an_arm, an_entry, an_expected, a_goal, row_in, is_leaf, begins, head_of, parts_of, Tabled, parts_by}
use Rattle.kinds.proofs.Table.{tabled, at}

-- the largest kind listed
abbrev pub most : List Listed → ℕ
most [] = 0
most (l ∷ ls) = max l.kind (most ls)

pub above : (k : ℕ) (ls : List Listed) → most ls < k → find k ls ≡ unlisted
unfolding find
above k [] h = refl
above k (l ∷ ls) h = rw (ne_eqb k l.kind (omega arith)) (above k ls (omega arith))

-- a test that every row passes, and the empty row, holds of the row of each kind
abbrev every : (Row → Bool) → List Listed → Bool
every p [] = p unlisted
every p (l ∷ ls) = p l.is && every p ls

found : (p : Row → Bool) (k : ℕ) (ls : List Listed) → every p ls ≡ true → p (find k ls) ≡ true
unfolding find
found p k [] e = e
found p k (l ∷ ls) e = go (eqb k l.kind) ((and-eq-true_iff (p l.is) (every p ls)).0 e) (found p k ls ((and-eq-true_iff (p l.is) (every p ls)).0 e).1)
  where
    go : (t : Bool) → (p l.is ≡ true) × (every p ls ≡ true) → p (find k ls) ≡ true → p (cond t l.is (find k ls)) ≡ true
    go true h r = h.0
    go false h r = r

pub row-passes : (p : Row → Bool) (k : ℕ) → every p table ≡ true → p (row_of k) ≡ true
unfolding row_of
row-passes p k e = found p k table e

-- a test of kind and row that all listed ones pass holds of each kind that is listed
abbrev pub every_listed : (ℕ → Row → Bool) → List Listed → Bool
every_listed p [] = true
every_listed p (l ∷ ls) = p l.kind l.is && every_listed p ls

listed : (p : ℕ → Row → Bool) (k : ℕ) (ls : List Listed) → every_listed p ls ≡ true → (find k ls ≡ unlisted) ⊎ (p k (find k ls) ≡ true)
unfolding find
listed p k [] e = inl refl
listed p k (l ∷ ls) e = go (eqb k l.kind) refl ((and-eq-true_iff (p l.kind l.is) (every_listed p ls)).0 e) (λ h. listed p k ls h)
  where
    go : (t : Bool) → eqb k l.kind ≡ t → (p l.kind l.is ≡ true) × (every_listed p ls ≡ true)
        → (every_listed p ls ≡ true → (find k ls ≡ unlisted) ⊎ (p k (find k ls) ≡ true)) → (cond t l.is (find k ls) ≡ unlisted) ⊎ (p k (cond t l.is (find k ls)) ≡ true)
    go true q h again = inr (subst⁻¹ (λ (j : ℕ). p j l.is ≡ true) (eqb-true k l.kind q) h.0)
    go false q h again = again h.1

pub listed-passes : (p : ℕ → Row → Bool) (k : ℕ) → every_listed p table ≡ true → (row_of k ≡ unlisted) ⊎ (p k (row_of k) ≡ true)
unfolding row_of
listed-passes p k e = listed p k table e

-- ---- sorts
sort-digit : (x : Sort) → sort_in (digit_of x) ≡ x
sort-digit Nothing = refl
sort-digit «Type» = refl
sort-digit Term = refl
sort-digit Pattern = refl
sort-digit Arm = refl
sort-digit Entry = refl
sort-digit Expected = refl
sort-digit Goal = refl

pub same-true : (x y : Sort) → same_sort x y ≡ true → x ≡ y
same-true x y e = sym (sort-digit x) ∙ ap sort_in (eqb-true (digit_of x) (digit_of y) e) ∙ sort-digit y

pub true-same : (x y : Sort) → x ≡ y → same_sort x y ≡ true
true-same x y e = eq-eqb (digit_of x) (digit_of y) (ap digit_of e)

pub ne_same : (x y : Sort) → (x ≡ y → ⊥) → same_sort x y ≡ false
ne_same x y n = ne_eqb (digit_of x) (digit_of y) (λ e. n (sym (sort-digit x) ∙ ap sort_in e ∙ sort-digit y))

-- and the other way, for the numbers that they have
digit-sort : (n : ℕ) → n ≤ 7 → digit_of (sort_in n) ≡ n
digit-sort zero h = refl
digit-sort (suc zero) h = refl
digit-sort (suc (suc zero)) h = refl
digit-sort (suc (suc (suc zero))) h = refl
digit-sort (suc (suc (suc (suc zero)))) h = refl
digit-sort (suc (suc (suc (suc (suc zero))))) h = refl
digit-sort (suc (suc (suc (suc (suc (suc zero)))))) h = refl
digit-sort (suc (suc (suc (suc (suc (suc (suc zero))))))) h = refl
digit-sort (suc (suc (suc (suc (suc (suc (suc (suc n)))))))) h = absurd (omega arith)

few-sorts : (x : Sort) → digit_of x ≤ 7
few-sorts Nothing = omega arith
few-sorts «Type» = omega arith
few-sorts Term = omega arith
few-sorts Pattern = omega arith
few-sorts Arm = omega arith
few-sorts Entry = omega arith
few-sorts Expected = omega arith
few-sorts Goal = omega arith

nothing-in : (d : ℕ) → same_sort (sort_in d) nothing ≡ eqb d 0
nothing-in d = go (eqb d 0) (eqb d 1) (eqb d 2) (eqb d 3) (eqb d 4) (eqb d 5) (eqb d 6)
  where
    go : (z a b c e f g : Bool)
        → same_sort (cond z nothing (cond a a_type (cond b a_term (cond c a_pattern (cond e an_arm (cond f an_entry (cond g an_expected a_goal))))))) nothing ≡ z
    go true a b c e f g = refl
    go false true b c e f g = refl
    go false false true c e f g = refl
    go false false false true e f g = refl
    go false false false false true f g = refl
    go false false false false false true g = refl
    go false false false false false false true = refl
    go false false false false false false false = refl

-- ---- what a value holds
abbrev pub is_number : Value → Bool
is_number Unused = false
is_number Name = false
is_number Number = true
is_number Operator = false

-- ---- the table as words
abbrev kind_word : ℕ → ℕ
kind_word k = word_of (row_of k)

pub words-tabled : Tabled (tabled kind_word 0 44)
words-tabled k h = at kind_word 0 44 k h

-- such a word holds the row
row-held : (k : ℕ) → k < 44 → row_in (kind_word k) ≡ row_of k
unfolding tabled row_of find table
row-held k h =
    ap row_in (sym (words-tabled k h)) ∙ sym (get_or-map row_in (tabled kind_word 0 44) k 0) ∙ at row_of (row_in 0) 44 k h

-- past the words no kind is listed
pub word-read : (w : List ℕ) (k : ℕ) → length w ≡ 44 → Tabled w → get_or w k 0 ≡ word_of (row_of k)
unfolding row_of table
word-read w k e h = go (ltb k 44) refl
  where
    go : (t : Bool) → ltb k 44 ≡ t → get_or w k 0 ≡ word_of (row_of k)
    go true q = h k (ltb-true k 44 q)
    go false q =
        let l = ltb-false k 44 q in
        let z : get_or w k 0 ≡ 0 = get_or-eq_default w 0 (omega arith) in
        rw (z, above k table l) refl

-- the row alone, of any words that hold those rows
pub row-read : (w : List ℕ) (k : ℕ) → length w ≡ 44 → ((j : ℕ) → j < 44 → row_in (get_or w j 0) ≡ row_of j) → row_in (get_or w k 0) ≡ row_of k
unfolding row_of table
row-read w k e h = go (ltb k 44) refl
  where
    go : (t : Bool) → ltb k 44 ≡ t → row_in (get_or w k 0) ≡ row_of k
    go true q = h k (ltb-true k 44 q)
    go false q =
        let l = ltb-false k 44 q in
        let z : get_or w k 0 ≡ 0 = get_or-eq_default w 0 (omega arith) in
        rw (z, above k table l) (refl {a = unlisted})

pub word-row : (k : ℕ) → row_in (word_of (row_of k)) ≡ row_of k
unfolding tabled
word-row k =
    let w = tabled kind_word 0 44 in
    ap row_in (sym (word-read w k refl words-tabled)) ∙ row-read w k refl (λ j h. ap row_in (words-tabled j h) ∙ row-held j h)

-- its last three digits are those of what follows
two_digits : (v : ℕ) → v % 256 ≡ 16 * (v / 16 % 16) + v % 16
two_digits v = let a : v / 256 ≡ v / 16 / 16 = omega arith in omega arith

digits : (w : ℕ) → w % 4096 ≡ 256 * (w / 256 % 16) + 16 * (w / 16 % 16) + w % 16
digits w =
    let a : w / 256 ≡ w / 16 / 16 = omega arith in
    let b : w % 4096 ≡ 16 * (w / 16 % 256) + w % 16 = let e : w / 4096 ≡ w / 16 / 256 = omega arith in omega arith in
    let d = two_digits (w / 16) in
    rw a (omega arith)

pub leaf-word : (w : ℕ) → eqb (w % 4096) 0 ≡ is_leaf (row_in w)
leaf-word w = go (eqb (w / 256 % 16) 0) refl (eqb (w / 16 % 16) 0) refl (eqb (w % 16) 0) refl
    ∙ ap (λ (b : Bool). eqb (w / 256 % 16) 0 && (eqb (w / 16 % 16) 0 && b)) (sym (nothing-in (w % 16)))
  where
    go : (p : Bool) → eqb (w / 256 % 16) 0 ≡ p → (q : Bool) → eqb (w / 16 % 16) 0 ≡ q → (r : Bool) → eqb (w % 16) 0 ≡ r → eqb (w % 4096) 0 ≡ (p && (q && r))
    go true p true q true r =
        let x = eqb-true (w / 256 % 16) 0 p in
        let y = eqb-true (w / 16 % 16) 0 q in
        let z = eqb-true (w % 16) 0 r in
        let d = digits w in
        eq-eqb (w % 4096) 0 (omega arith)
    go true p true q false r = let n = eqb-false (w % 16) 0 r in let d = digits w in ne_eqb (w % 4096) 0 (λ e. n (omega arith))
    go true p false q r' r = let n = eqb-false (w / 16 % 16) 0 q in let d = digits w in ne_eqb (w % 4096) 0 (λ e. n (omega arith))
    go false p q' q r' r = let n = eqb-false (w / 256 % 16) 0 p in let d = digits w in ne_eqb (w % 4096) 0 (λ e. n (omega arith))

-- ---- the plan's own lines: so many types and terms follow, and no more
abbrev pub Follow : ℕ → ℕ → Row → Type 0
Follow ty te r = (r.types ≡ ty) × (r.terms ≡ te) × (r.each ≡ nothing)

abbrev follows : Sort → ℕ → ℕ → Row → Bool
follows x ty te r = not (same_sort r.sort x) || (eqb r.types ty && (eqb r.terms te && same_sort r.each nothing))

follow : (x : Sort) (ty te : ℕ) (r : Row) → follows x ty te r ≡ true → r.sort ≡ x → Follow ty te r
follow x ty te r p e =
    let h : (eqb r.types ty && (eqb r.terms te && same_sort r.each nothing)) ≡ true = rw (true-same r.sort x e) at p in
    let a = (and-eq-true_iff (eqb r.types ty) _).0 h in
    let b = (and-eq-true_iff (eqb r.terms te) _).0 a.1 in
    (eqb-true r.types ty a.0, eqb-true r.terms te b.0, same-true r.each nothing b.1)

-- a type follows an entry, and the expected type's line; a term follows the goal's
pub entry_row : (k : ℕ) → (row_of k).sort ≡ an_entry → Follow 1 0 (row_of k)
unfolding table
entry_row k e = follow an_entry 1 0 (row_of k) (row-passes (follows an_entry 1 0) k refl) e

pub expected-row : (k : ℕ) → (row_of k).sort ≡ an_expected → Follow 1 0 (row_of k)
unfolding table
expected-row k e = follow an_expected 1 0 (row_of k) (row-passes (follows an_expected 1 0) k refl) e

pub goal-row : (k : ℕ) → (row_of k).sort ≡ a_goal → Follow 0 1 (row_of k)
unfolding table
goal-row k e = follow a_goal 0 1 (row_of k) (row-passes (follows a_goal 0 1) k refl) e

-- the expected type's line has kind 3
pub expected-kind : (k : ℕ) → (row_of k).sort ≡ an_expected → k ≡ 3
unfolding table
expected-kind k e = go (listed-passes three k refl)
  where
    three : ℕ → Row → Bool
    three k r = not (same_sort r.sort an_expected) || eqb k 3

    go : (row_of k ≡ unlisted) ⊎ (three k (row_of k) ≡ true) → k ≡ 3
    go (inl u) = absurd (let z : 0 ≡ 6 = ap digit_of (sym (ap (λ (r : Row). r.sort) u) ∙ e) in omega arith)
    go (inr h) = eqb-true k 3 (rw (true-same (row_of k).sort an_expected e) at h)

-- few parts follow whatever the count says
pub few-types : (k : ℕ) → (row_of k).types ≤ 2
unfolding table
few-types k = leb-true _ 2 (row-passes (λ r. leb r.types 2) k refl)

pub few-terms : (k : ℕ) → (row_of k).terms ≤ 3
unfolding table
few-terms k = leb-true _ 3 (row-passes (λ r. leb r.terms 3) k refl)

pub few-parts : (t : Triple) → t.count < 100000 → parts_of t ≤ 200003
unfolding parts_of
few-parts t h = go (same_sort (row_of t.kind).each nothing) (same_sort (row_of t.kind).each an_arm)
  where
    go : (a b : Bool) → (row_of t.kind).types + (row_of t.kind).terms + cond a 0 (cond b (2 * t.count) t.count) ≤ 200003
    go true b = let ty = few-types t.kind in let te = few-terms t.kind in omega arith
    go false true = let ty = few-types t.kind in let te = few-terms t.kind in omega arith
    go false false = let ty = few-types t.kind in let te = few-terms t.kind in omega arith

-- a part begins with a line exactly if the line says what must follow it
pub begins-head : (f : Option Parts → Bool) → ((p : Parts) → f (Some p) ≡ true) → f None ≡ false → (x : Sort) (t : Triple) → begins x t ≡ f (head_of x t)
unfolding head_of
begins-head f some none x t = go (begins x t)
  where
    go : (b : Bool) → b ≡ f (cond b (Some (parts_by (row_of t.kind) t.count)) None)
    go true = sym (some (parts_by (row_of t.kind) t.count))
    go false = sym none

-- of the sort that has the number n a part begins with a line whose row's sort has it; above 7 there is none
pub begins-numbered : (n : ℕ) (t : Triple) → begins_for (sort_numbered n) t ≡ (eqb (digit_of (row_of t.kind).sort) n && fields_ok (row_of t.kind) t)
unfolding begins
begins-numbered n t = go (ltb 7 n) refl
  where
    x : Sort
    x = (row_of t.kind).sort

    go : (b : Bool) → ltb 7 n ≡ b → begins_for (cond b None (Some (sort_in n))) t ≡ (eqb (digit_of x) n && fields_ok (row_of t.kind) t)
    go true q = let l = ltb-true 7 n q in let h = few-sorts x in rw (ne_eqb (digit_of x) n (omega arith)) refl
    go false q = let l = ltb-false 7 n q in rw (digit-sort n (omega arith)) refl

pub head-begun : (o : Option Sort) (t : Triple) → head_for o t ≡ cond (begins_for o t) (Some (parts_by (row_of t.kind) t.count)) None
unfolding head_of
head-begun None t = refl
head-begun (Some x) t = refl
