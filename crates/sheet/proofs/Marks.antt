-- Laws of the plain mark. Assumes nothing.
use Rattle.std.proofs.Common.{◌≡◌, refl, sym, ap, ap₂, ◌∙◌, Bool, true, false, not, cond, ◌&&◌, ◌||◌, List, [], ◌∷◌, map, ℕ, zero, suc, ◌+◌, ◌-◌, ◌≤◌, ◌<◌, add-one, arith, length, get_or, set, take, drop, drop_of_length-le, length-drop, replicate, length-set, eqb, leb, drop-cons, take_all, get_or-set_same, get_or-set_other, eqb-true, leb-true, leb-false}
use mathlib.Core.Bool.{and-eq-true_iff, and-true, and-false, or-true, or-false, or_assoc, or_comm}
use Rattle.std.specs.List.{list_all, range_with_len}
use lib.ListN.{length-replicate, get_or-eq_default}
use borrow.Author.Tests.{eqb-false}
use Rattle.nodes.specs.Parts.{take_parts}
use Rattle.nodes.proofs.PartLaws.{is-take}
use Rattle.spelling.specs.declared.Triple.{Triple}
use Rattle.kinds.specs.Kinds.{parts_of}
use Rattle.sheet.specs.declared.Entry.{Entry}
use Rattle.sheet.specs.Rows.{entry_of}
use Rattle.sheet.specs.Plan.{no_triple, Declaration, declarations, part_line, places_of, is_plain, is_use, names, plain_entries, plain_plan}
use Rattle.sheet.specs.declared.Places.{Places}
use Rattle.sheet.specs.Used.{table_length, mark_name, marked, is_marked, Tells, SmallNames}
use Rattle.sheet.proofs.Lines.{lines-between}

-- ---- the lines from i up to end
plain-next : (ls : List Triple) (i n : ℕ)
    → is_plain (take (suc n) (drop i ls)) ≡ (not (eqb (get_or ls i no_triple).kind 14 || eqb (get_or ls i no_triple).kind 25) && is_plain (take n (drop (suc i) ls)))
unfolding is_plain
plain-next [] zero zero = refl
plain-next [] zero (suc n) = refl
plain-next [] (suc i) zero = refl
plain-next [] (suc i) (suc n) = refl
plain-next (t ∷ ls) zero n = refl
plain-next (t ∷ ls) (suc i) n = plain-next ls i n

abbrev pub PlainLine : List Triple → ℕ → Bool
PlainLine ls i = let k = (get_or ls i no_triple).kind in not (eqb k 14 || eqb k 25)

pub plain-range : (ls : List Triple) (n i : ℕ) → list_all (PlainLine ls) (range_with_len i n) ≡ is_plain (take n (drop i ls))
unfolding is_plain
plain-range ls zero i = refl
plain-range ls (suc n) i = ap (λ (b : Bool). PlainLine ls i && b) (plain-range ls n (i + 1) ∙ ap (λ (j : ℕ). is_plain (take n (drop j ls))) (add-one i)) ∙ sym (plain-next ls i n)

-- ---- the names marked
module _ (ls : List Triple) (i : ℕ) (u : List ℕ) where
  pub mark-turn : i < length ls → marked (drop (i + 1) ls) (mark_name (get_or ls i no_triple) u) ≡ marked (drop i ls) u
  unfolding marked
  mark-turn h = sym (ap (λ (l : List Triple). marked l u) (drop-cons ls i no_triple h) ∙ rw add-one)

  pub mark-end : length ls ≤ i → u ≡ marked (drop i ls) u
  unfolding marked
  mark-end h = rw (drop_of_length-le ls h)

pub mark-length : (t : Triple) (u : List ℕ) → length (mark_name t u) ≡ length u
mark-length t u = go (is_use t.kind)
  where
    go : (b : Bool) → length (cond b (set u t.value 1) u) ≡ length u
    go true = length-set u t.value 1
    go false = refl

-- one name marked
mark_set : (u : List ℕ) (v x : ℕ) → x < length u → is_marked (set u v 1) x ≡ (eqb v x || is_marked u x)
mark_set u v x h = go (eqb v x) refl
  where
    go : (b : Bool) → eqb v x ≡ b → is_marked (set u v 1) x ≡ (b || is_marked u x)
    go true e = ap (λ (n : ℕ). eqb n 1) (ap (λ (w : ℕ). get_or (set u w 1) x 0) (eqb-true v x e) ∙ get_or-set_same u x 1 0 h)
    go false e = ap (λ (n : ℕ). eqb n 1) (get_or-set_other u v x 1 0 (λ q. eqb-false v x e (sym q)))

mark-is : (u : List ℕ) (t : Triple) (x : ℕ) → x < length u → is_marked (mark_name t u) x ≡ ((eqb t.value x && is_use t.kind) || is_marked u x)
mark-is u t x h = go (is_use t.kind)
  where
    go : (b : Bool) → is_marked (cond b (set u t.value 1) u) x ≡ ((eqb t.value x && b) || is_marked u x)
    go true = mark_set u t.value x h ∙ ap (λ (a : Bool). a || is_marked u x) (sym (and-true (eqb t.value x)))
    go false = ap (λ (a : Bool). a || is_marked u x) (sym (and-false (eqb t.value x)))

marked-is : (ts : List Triple) (u : List ℕ) (x : ℕ) → x < length u → is_marked (marked ts u) x ≡ (names x ts || is_marked u x)
unfolding marked names
marked-is [] u x h = refl
marked-is (t ∷ ts) u x h =
    let l = mark-length t u in
    let here = eqb t.value x && is_use t.kind in
    marked-is ts (mark_name t u) x (omega arith)
    ∙ ap (λ (m : Bool). names x ts || m) (mark-is u t x h)
    ∙ sym (or_assoc (names x ts) here (is_marked u x))
    ∙ ap (λ (m : Bool). m || is_marked u x) (or_comm (names x ts) here)

marked-length : (ts : List Triple) (u : List ℕ) → length (marked ts u) ≡ length u
unfolding marked
marked-length [] u = refl
marked-length (t ∷ ts) u = marked-length ts (mark_name t u) ∙ mark-length t u

not-true : (b : Bool) → (b ≡ true → ⊥) → false ≡ b
not-true true h = absurd (h refl)
not-true false h = refl

-- an empty table, marked, tells the names
table-tells : (ts : List Triple) (z : List ℕ) → length z ≡ table_length → ((x : ℕ) → get_or z x 0 ≡ 0) → SmallNames ts → Tells (marked ts z) ts
table-tells ts z l e s x = go (leb table_length x) refl
  where
    go : (b : Bool) → leb table_length x ≡ b → is_marked (marked ts z) x ≡ names x ts
    go true q =
        let h = leb-true table_length x q in
        let n = marked-length ts z in
        ap (λ (n : ℕ). eqb n 1) (get_or-eq_default (marked ts z) 0 {n = x} (omega arith)) ∙ not-true (names x ts) (λ r. (let k = s x r in omega arith))
    go false q =
        let h = leb-false table_length x q in
        marked-is ts z x (omega arith) ∙ ap (λ (n : ℕ). names x ts || eqb n 1) (e x) ∙ or-false (names x ts)

pub zeros-read : (n x : ℕ) → ◌≡◌ {A = ℕ} (get_or (replicate n 0) x 0) 0
zeros-read zero x = refl
zeros-read (suc n) zero = refl
zeros-read (suc n) (suc x) = zeros-read n x

-- the code's table, zeros at first
pub zeros-tell : (ts : List Triple) (u : List ℕ) → u ≡ marked ts (replicate table_length 0) → SmallNames ts → Tells u ts
zeros-tell ts u e s x =
    ap (λ (w : List ℕ). is_marked w x) e ∙ table-tells ts (replicate table_length 0) (length-replicate {A = ℕ} table_length 0) (zeros-read table_length) s x

-- ---- the entries
-- by a table of names
abbrev pub PlainBy : List ℕ → List Triple → Entry → Bool
PlainBy u ls e = not (is_marked u e.head.value) || is_plain (take (e.end - e.line) (drop e.line ls))

-- by that of the names that the term uses
module _ (term ls : List Triple) (u : List ℕ) (tells : Tells u term) where
  pub all-entries : (es : List Declaration) → list_all (PlainBy u ls) (map entry_of es) ≡ plain_entries term ls es
  unfolding plain_entries
  all-entries [] = refl
  all-entries (e ∷ es) =
      let k : e.line + e.count - e.line ≡ e.count = omega arith in
      rw (tells e.head.value, k) (ap (λ (b : Bool). (not (names e.head.value term) || is_plain (take e.count (drop e.line ls))) && b) (all-entries es))

-- ---- the whole mark
module _ (ls : List Triple) where
  pub lines_from : (at n : ℕ) → n ≡ length ls → is_plain (take (n - at) (drop at ls)) ≡ is_plain (drop at ls)
  lines_from at n f = let e = length-drop at ls in ap is_plain (take_all (n - at) (drop at ls) (omega arith))

  abbrev expected : List Triple
  expected = take_parts parts_of (drop (places_of ls).expected ls) 1

  abbrev term : List Triple
  term = drop (places_of ls).term ls

  -- what the code read says
  module _ {r b : Bool} (p : Places) (e : p ≡ places_of ls) (q : r ≡ b) where
    pub expected-is : (end : ℕ) → end ≡ part_line ls p.expected 1 → r ≡ is_plain (take (end - p.expected) (drop p.expected ls)) → is_plain expected ≡ b
    expected-is end f h =
        sym (h
        ∙ ap (λ (n : ℕ). is_plain (take (n - p.expected) (drop p.expected ls))) f
        ∙ ap is_plain (ap (λ (n : ℕ). take n (drop p.expected ls)) (lines-between ls p.expected 1) ∙ sym (is-take parts_of (drop p.expected ls) 1))
        ∙ ap (λ (w : Places). is_plain (take_parts parts_of (drop w.expected ls) 1)) e)
        ∙ q

    pub term_is : (n : ℕ) → n ≡ length ls → r ≡ is_plain (take (n - p.term) (drop p.term ls)) → is_plain term ≡ b
    term_is n f h = sym (h ∙ lines_from p.term n f ∙ ap (λ (w : Places). is_plain (drop w.term ls)) e) ∙ q

  pub mark-entries : is_plain expected ≡ true → is_plain term ≡ true → plain_entries term ls (declarations ls 0 0) ≡ plain_plan ls
  unfolding plain_plan
  mark-entries e f = sym (rw (e, f))

  pub mark-expected : is_plain expected ≡ false → false ≡ plain_plan ls
  unfolding plain_plan
  mark-expected e = sym (rw e)

  pub mark-term : is_plain expected ≡ true → is_plain term ≡ false → false ≡ plain_plan ls
  unfolding plain_plan
  mark-term e f = sym (rw (e, f))

-- no line of kind 14 or 25 at all: plain
head_plain : (t : Triple) (ts : List Triple) → is_plain (t ∷ ts) ≡ true → (not (eqb t.kind 14 || eqb t.kind 25) ≡ true) × (is_plain ts ≡ true)
unfolding is_plain
head_plain t ts e = (and-eq-true_iff (not (eqb t.kind 14 || eqb t.kind 25)) (is_plain ts)).0 e

drop-plain : (n : ℕ) (ls : List Triple) → is_plain ls ≡ true → is_plain (drop n ls) ≡ true
unfolding is_plain
drop-plain zero ls e = e
drop-plain (suc n) [] e = refl
drop-plain (suc n) (t ∷ ls) e = drop-plain n ls (head_plain t ls e).1

take-plain : (n : ℕ) (ls : List Triple) → is_plain ls ≡ true → is_plain (take n ls) ≡ true
unfolding is_plain
take-plain zero ls e = refl
take-plain (suc n) [] e = refl
take-plain (suc n) (t ∷ ls) e = let h = head_plain t ls e in ap₂ (λ (a b : Bool). a && b) h.0 (take-plain n ls h.1)

entries-plain : (used ls : List Triple) (es : List Declaration) → is_plain ls ≡ true → plain_entries used ls es ≡ true
unfolding plain_entries
entries-plain used ls [] e = refl
entries-plain used ls (d ∷ es) e =
    ap₂ (λ (a b : Bool). (not (names d.head.value used) || a) && b) (take-plain d.count (drop d.line ls) (drop-plain d.line ls e)) (entries-plain used ls es e)
    ∙ ap (λ (b : Bool). b && true) (or-true (not (names d.head.value used)))

pub mark-all : (ls : List Triple) → is_plain ls ≡ true → true ≡ plain_plan ls
mark-all ls e =
    let at = (places_of ls).expected in
    sym (entries-plain (term ls) ls (declarations ls 0 0) e)
    ∙ mark-entries ls (ap is_plain (is-take parts_of (drop at ls) 1) ∙ take-plain (length (take_parts parts_of (drop at ls) 1)) (drop at ls) (drop-plain at ls e)) (drop-plain (places_of ls).term ls e)
