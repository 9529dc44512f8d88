-- Laws of links: those that `link_entries` makes lead to every entry. Assumes nothing.
use Rattle.sheet.specs.declared.Entry.{Entry}
use Rattle.sheet.specs.declared.Extent.{Extent}
use Rattle.std.proofs.Common.{Option, Some, None, is_some, ◌≡◌, refl, sym, ap, ap₂, ◌∙◌, Bool, true, false, not, cond, ◌&&◌, List, [], ℕ, zero, suc, ◌+◌, ◌*◌, ◌-◌, ◌/◌, ◌%◌, ◌≤◌, ◌<◌, mod-lt, arith, ltb, eqb, eqb-true, lt-ltb, le-ltb, ne_eqb, length, get_or, set, length-set, get_or-set_same, get_or-set_other, ext_get_or}
use mathlib.Core.Path.{subst⁻¹}
use mathlib.Core.Bool.{false≢true}
use borrow.Author.Tests.{eqb-false}
use Rattle.spelling.specs.declared.Triple.{Triple}
use Rattle.sheet.specs.Plan.{no_triple, part_line, is_entry, named, Declaration, find_in, find_entry}
use Rattle.sheet.specs.Rows.{rows, row_triple, line_count, EndsFrom, first_at, next_at, linked_from, linked, some_line, placed, Linked, in_front, link_entry, Unlinked, link_all}
use Rattle.sheet.proofs.RowLaws.{length-rows, row_is}
use Rattle.sheet.proofs.Lines.{line-from, line-inside}
use Rattle.sheet.proofs.Declarations.{from, from_one, EntryAt, find-hit, find-turn, find_past}

-- ---- what a store behind the rows leaves
module _ (d : List ℕ) (j v : ℕ) (h : 2 * line_count d ≤ j) where
  abbrev d' : List ℕ
  d' = set d j v

  count_kept : line_count d' ≡ line_count d
  count_kept = ap (λ (n : ℕ). n / 4) (length-set d j v)

  pub rows-kept : rows d' ≡ rows d
  rows-kept =
      let n = length-rows d in
      let n' = length-rows d' in
      let k = count_kept in
      ext_get_or no_triple (rows d') (rows d) (omega arith) (λ i l.
      row_is d' i (omega arith) ∙ ap₂ row_triple (get_or-set_other d j (2 * i) v 0 (λ x. omega arith)) (get_or-set_other d j (2 * i + 1) v 0 (λ x. omega arith)) ∙ sym (row_is d i (omega arith)))

-- ---- following links
-- a link leads to an entry further up
abbrev Falls : List ℕ → Type 0
Falls d = (l : ℕ) → l < line_count d → next_at d l ≤ l

from_nothing : (m : ℕ) (d : List ℕ) (k x : ℕ) → linked_from m d k x 0 ≡ 0
unfolding linked_from
from_nothing zero d k x = refl
from_nothing (suc m) d k x = refl

linked-step : (m : ℕ) (d : List ℕ) (k x l : ℕ) → l < line_count d → linked_from (suc m) d k x (suc l) ≡ cond (named k x (get_or (rows d) l no_triple)) (suc l) (linked_from m d k x (next_at d l))
unfolding linked_from
linked-step m d k x l h =
    let e : ltb (line_count d) (suc l) ≡ false = le-ltb (line_count d) (suc l) (omega arith) in
    let z : eqb (suc l) 0 ≡ false = ne_eqb (suc l) 0 (λ q. omega arith) in
    let p : suc l - 1 ≡ l = omega arith in
    rw (z, e, p)

past_all : (m : ℕ) (d : List ℕ) (k x at : ℕ) → line_count d < at → 0 ≡ linked_from m d k x at
unfolding linked_from
past_all zero d k x at h = refl
past_all (suc m) d k x at h =
    let z : eqb at 0 ≡ false = ne_eqb at 0 (λ q. omega arith) in
    let e : ltb (line_count d) at ≡ true = lt-ltb (line_count d) at h in
    rw (z, e)

-- `linked_line`, look by look
module _ (d : List ℕ) (k x : ℕ) where
  pub linked-none : line_count d ≡ 0 → 0 ≡ linked d k x
  unfolding linked linked_from
  linked-none e = ap (λ (n : ℕ). linked_from n d k x (first_at d (x % line_count d))) (sym e)

  module _ (left at : ℕ) where
    pub linked-over : left ≡ 0 → 0 ≡ linked_from left d k x at
    unfolding linked_from
    linked-over e = ap (λ (n : ℕ). linked_from n d k x at) (sym e)

    pub linked-zero : at ≡ 0 → 0 ≡ linked_from left d k x at
    linked-zero e = rw (e, from_nothing left d k x)

    pub linked-past : line_count d < at → 0 ≡ linked_from left d k x at
    linked-past h = past_all left d k x at h

    module _ (more : 0 < left) (some : at ≡ 0 → ⊥) (within : at ≤ line_count d) where
      abbrev here : Triple
      here = get_or (rows d) (at - 1) no_triple

      whole : linked_from left d k x at ≡ cond (named k x here) at (linked_from (left - 1) d k x (next_at d (at - 1)))
      whole =
          let p : suc (left - 1) ≡ left = omega (arith, more) in
          let q : suc (at - 1) ≡ at = omega (arith, some) in
          ap₂ (λ (m i : ℕ). linked_from m d k x i) (sym p) (sym q) ∙ linked-step (left - 1) d k x (at - 1) (omega (arith, some)) ∙ ap (λ (i : ℕ). cond (named k x here) i (linked_from (left - 1) d k x (next_at d (at - 1)))) q

      pub linked-hit : named k x here ≡ true → at ≡ linked_from left d k x at
      linked-hit e = sym (whole ∙ rw e)

      pub linked-turn : named k x here ≡ false → linked_from (left - 1) d k x (next_at d (at - 1)) ≡ linked_from left d k x at
      linked-turn e = sym (whole ∙ rw e)

-- where a store leaves the links above line `at`, what is found from there is as it was
module _ (d e : List ℕ) (at : ℕ) (within : at ≤ line_count d) (count : line_count e ≡ line_count d) (same : rows e ≡ rows d) (kept : (l : ℕ) → l < at → next_at e l ≡ next_at d l) (falls : Falls d) (k x : ℕ) where
  abbrev Alike : ℕ → Type 0
  Alike m = (p : ℕ) → p ≤ at → linked_from m e k x p ≡ linked_from m d k x p

  alike-turn : (m : ℕ) → Alike m → Alike (suc m)
  alike-turn m again zero h = from_nothing (suc m) e k x ∙ sym (from_nothing (suc m) d k x)
  alike-turn m again (suc l) h =
      let f = falls l (omega arith) in
      linked-step m e k x l (omega arith) ∙ rw (same, kept l (omega arith), again (next_at d l) (omega arith)) (sym (linked-step m d k x l (omega arith)))

  alike : (m : ℕ) → Alike m
  unfolding linked_from
  alike zero p h = refl
  alike (suc m) p h = alike-turn m (alike m) p h

-- how many are looked at does not decide, if they are no fewer than the lines
module _ (d : List ℕ) (falls : Falls d) (k x : ℕ) where
  abbrev Enough : ℕ → Type 0
  Enough m = (n p : ℕ) → p ≤ line_count d → p ≤ m → p ≤ n → linked_from m d k x p ≡ linked_from n d k x p

  enough-turn : (m : ℕ) → Enough m → Enough (suc m)
  enough-turn m again n zero h i j = from_nothing (suc m) d k x ∙ sym (from_nothing n d k x)
  enough-turn m again zero (suc l) h i j = absurd (omega arith)
  enough-turn m again (suc n) (suc l) h i j =
      let f = falls l (omega arith) in
      linked-step m d k x l (omega arith) ∙ rw (again n (next_at d l) (omega arith) (omega arith) (omega arith)) (sym (linked-step n d k x l (omega arith)))

  enough : (m : ℕ) → Enough m
  enough zero n p h i j = let e : p ≡ 0 = omega arith in rw (e, from_nothing zero d k x, from_nothing n d k x)
  enough (suc m) n p h i j = enough-turn m (enough m) n p h i j

-- ---- linking entry by entry
-- what the links say, else what is left of the entries
abbrev first_of : Option Extent → Option Extent → Option Extent
first_of None r = r
first_of (Some e) r = Some e

settled : (ls : List Triple) (q : ℕ) → eqb q 0 ≡ false → (r r' : Option Extent) → first_of (placed ls q) r ≡ first_of (placed ls q) r'
settled ls zero e r r' = absurd (eqb-false 0 0 e refl)
settled ls (suc q) e r r' = refl

-- the entries before line `at` are linked
pub record Linking (ls : List Triple) (d : List ℕ) (at : ℕ) : Type 0 where
  pub same : rows d ≡ ls
  pub ends : EndsFrom ls d 0
  pub within : at ≤ length ls
  pub low : (slot : ℕ) → slot < length ls → first_at d slot ≤ at
  pub falls : (l : ℕ) → l < length ls → next_at d l ≤ l
  pub rest : (k x m : ℕ) → 0 < length ls → at ≤ m → first_of (placed ls (linked_from m d k x (first_at d (x % length ls)))) (find_in k x (from ls at)) ≡ find_entry k x ls

from_first : (ls : List Triple) (k x : ℕ) → find_in k x (from ls 0) ≡ find_entry k x ls
unfolding find_entry
from_first ls k x = refl

pub linking-start : (d : List ℕ) → EndsFrom (rows d) d 0 → Unlinked d → Linking (rows d) d 0
linking-start d e u =
    let n = length-rows d in
    record {
      same = refl;
      ends = e;
      within = omega arith;
      low = λ i h. let z = u.none i (omega arith) in omega arith;
      falls = λ i h. let z = u.alone i (omega arith) in omega arith;
      rest = λ k x m h l. rw (n, u.none (x % line_count d) (mod-lt x (omega arith)), from_nothing m d k x) (from_first (rows d) k x);
    }

done-rest : (f : Option Extent) → first_of f None ≡ f
done-rest None = refl
done-rest (Some e) = refl

none : (ls : List Triple) (at : ℕ) → from ls at ≡ [] → (k x : ℕ) → None ≡ find_in k x (from ls at)
unfolding find_in
none ls at e k x = rw e

-- linking what is left of the entries
all_none : (d : List ℕ) (es : List Declaration) → es ≡ [] → d ≡ link_all d es
unfolding link_all
all_none d es e = rw e

all-turn : (ls : List Triple) (d : List ℕ) (at : ℕ) → at < length ls → is_entry (get_or ls at no_triple) ≡ true → link_all (link_entry d at) (from ls (part_line ls (at + 1) 1)) ≡ link_all d (from ls at)
unfolding link_all
all-turn ls d at h e =
    let k : at ≡ at + 1 - 1 = omega arith in
    ap (λ (i : ℕ). link_all (link_entry d i) (from ls (part_line ls (at + 1) 1))) k ∙ sym (ap (link_all d) (from_one ls at h e))

module _ {ls : List Triple} {d : List ℕ} {at : ℕ} (L : Linking ls d at) where
  count : line_count d ≡ length ls
  count = sym (length-rows d) ∙ ap length L.same

  linked-is : (k x : ℕ) → linked d k x ≡ linked_from (length ls) d k x (first_at d (x % length ls))
  unfolding linked
  linked-is k x = ap (λ (n : ℕ). linked_from n d k x (first_at d (x % n))) count

  -- no entry is left
  found_all : from ls at ≡ [] → (k x n : ℕ) → length ls ≡ n → placed ls (linked d k x) ≡ find_entry k x ls
  unfolding linked_from
  found_all e k x zero h = ap (placed ls) (linked-is k x ∙ ap (λ (n : ℕ). linked_from n d k x (first_at d (x % length ls))) h) ∙ find_past ls k x 0 (omega arith) ∙ from_first ls k x
  found_all e k x (suc n) h =
      let f = placed ls (linked_from (length ls) d k x (first_at d (x % length ls))) in
      ap (placed ls) (linked-is k x) ∙ sym (done-rest f) ∙ ap (first_of f) (none ls at e k x) ∙ L.rest k x (length ls) (omega arith) L.within

  pub linking-done : from ls at ≡ [] → (rows d ≡ ls) × Linked d × (d ≡ link_all d (from ls at))
  linking-done e = (L.same, record { ends = subst⁻¹ (λ (xs : List Triple). EndsFrom xs d 0) L.same L.ends; found = λ k x. rw L.same (found_all e k x (length ls) refl) }, all_none d (from ls at) e)

-- ---- one entry more
pub named-is : (k x : ℕ) (t : Triple) → named k x t ≡ true → (t.kind ≡ k) × (t.value ≡ x)
named-is k x t h = go (eqb t.kind k) (eqb t.value x) refl refl h
  where
    go : (a b : Bool) → eqb t.kind k ≡ a → eqb t.value x ≡ b → (a && b) ≡ true → (t.kind ≡ k) × (t.value ≡ x)
    go true true p q h = (eqb-true t.kind k p, eqb-true t.value x q)
    go true false p q h = absurd (false≢true h)
    go false b p q h = absurd (false≢true h)

-- what the two stores of a link leave
module _ (d : List ℕ) (slot i : ℕ) (hs : slot < line_count d) (hi : i < line_count d) where
  abbrev n : ℕ
  n = line_count d

  abbrev e : List ℕ
  e = set d (3 * n + i) (first_at d slot)

  abbrev f : List ℕ
  f = in_front d slot i

  length_front : length f ≡ length d
  length_front = length-set e (2 * n + slot) (i + 1) ∙ length-set d (3 * n + i) (first_at d slot)

  count-front : line_count f ≡ n
  count-front = ap (λ (m : ℕ). m / 4) length_front

  rows-front : rows f ≡ rows d
  rows-front =
      let k : line_count e ≡ n = ap (λ (m : ℕ). m / 4) (length-set d (3 * n + i) (first_at d slot)) in
      rows-kept e (2 * n + slot) (i + 1) (omega arith) ∙ rows-kept d (3 * n + i) (first_at d slot) (omega arith)

  word-front : (j : ℕ) → (j ≡ 2 * n + slot → ⊥) → (j ≡ 3 * n + i → ⊥) → get_or f j 0 ≡ get_or d j 0
  word-front j p q = get_or-set_other e (2 * n + slot) j (i + 1) 0 p ∙ get_or-set_other d (3 * n + i) j (first_at d slot) 0 q

  first_slot : first_at f slot ≡ i + 1
  first_slot =
      let l = length-set d (3 * n + i) (first_at d slot) in
      ap (λ (m : ℕ). get_or f (2 * m + slot) 0) count-front ∙ get_or-set_same e (2 * n + slot) (i + 1) 0 (omega arith)

  first-other : (b : ℕ) → b < n → (b ≡ slot → ⊥) → first_at f b ≡ first_at d b
  first-other b h ne = ap (λ (m : ℕ). get_or f (2 * m + b) 0) count-front ∙ word-front (2 * n + b) (λ q. ne (omega arith)) (λ q. omega arith)

  next_here : next_at f i ≡ first_at d slot
  next_here =
      ap (λ (m : ℕ). get_or f (3 * m + i) 0) count-front ∙ get_or-set_other e (2 * n + slot) (3 * n + i) (i + 1) 0 (λ q. omega arith) ∙ get_or-set_same d (3 * n + i) (first_at d slot) 0 (omega arith)

  next-other : (l : ℕ) → l < n → (l ≡ i → ⊥) → next_at f l ≡ next_at d l
  next-other l h ne = ap (λ (m : ℕ). get_or f (3 * m + l) 0) count-front ∙ word-front (3 * n + l) (λ q. omega arith) (λ q. ne (omega arith))

-- the entry at line `at` is linked, and the next one follows
module _ {ls : List Triple} {d : List ℕ} {at : ℕ} (L : Linking ls d at) (h : at < length ls) (entry : is_entry (get_or ls at no_triple) ≡ true) where
  abbrev t : Triple
  t = get_or ls at no_triple

  abbrev next : ℕ
  next = part_line ls (at + 1) 1

  abbrev slot : ℕ
  slot = t.value % line_count d

  falls-all : Falls d
  falls-all l i = L.falls l (let c = count L in omega arith)

  first-low : (b : ℕ) → b < line_count d → first_at d b ≤ at
  first-low b i = L.low b (let c = count L in omega arith)

  slot-within : slot < line_count d
  slot-within = mod-lt t.value (let c = count L in omega arith)

  -- one of its kind and name is linked before it
  kept-rest : eqb (linked d t.kind t.value) 0 ≡ false → (k x m : ℕ) → next ≤ m → (b : Bool) → named k x t ≡ b
      → first_of (placed ls (linked_from m d k x (first_at d (x % length ls)))) (find_in k x (from ls next)) ≡ first_of (placed ls (linked_from m d k x (first_at d (x % length ls)))) (find_in k x (from ls at))
  kept-rest e k x m i true q =
      let w = named-is k x t q in
      let c = count L in
      let u = line-from ls (at + 1) 1 in
      let b = mod-lt x {m = length ls} (omega arith) in
      let g = first-low (x % length ls) (omega arith) in
      let y : linked d k x ≡ linked_from m d k x (first_at d (x % length ls)) = linked-is L k x ∙ enough d falls-all k x (length ls) m (first_at d (x % length ls)) (omega arith) (omega arith) (omega arith) in
      settled ls (linked_from m d k x (first_at d (x % length ls))) (ap (λ (j : ℕ). eqb j 0) (sym y ∙ ap₂ (linked d) (sym w.0) (sym w.1)) ∙ e) (find_in k x (from ls next)) (find_in k x (from ls at))
  kept-rest e k x m i false q = ap (first_of (placed ls (linked_from m d k x (first_at d (x % length ls))))) (find-turn ls at h k x entry q)

  linking-kept : eqb (linked d t.kind t.value) 0 ≡ false → Linking ls d next
  linking-kept e =
      let u = line-from ls (at + 1) 1 in
      record {
        same = L.same;
        ends = L.ends;
        within = line-inside ls (at + 1) 1 (omega arith);
        low = λ b i. let g = L.low b i in omega arith;
        falls = L.falls;
        rest = λ k x m z i. kept-rest e k x m i (named k x t) refl ∙ L.rest k x m z (omega arith);
      }

  -- none is
  abbrev d₁ : List ℕ
  d₁ = in_front d slot at

  at-within : at < line_count d
  at-within = let c = count L in omega arith

  alike-front : (k x m p : ℕ) → p ≤ at → linked_from m d₁ k x p ≡ linked_from m d k x p
  alike-front k x m p i =
      let w = at-within in
      alike d d₁ at (omega arith) (count-front d slot at slot-within w) (rows-front d slot at slot-within w) (λ l j. next-other d slot at slot-within w l (omega arith) (λ q. omega arith)) falls-all k x m p i

  -- what is looked for stands in front
  front-hit : eqb (linked d t.kind t.value) 0 ≡ true → (k x m : ℕ) → named k x t ≡ true → at ≤ m
      → Some (record { line = (at + 1); count = (next - (at + 1)) }) ≡ find_entry k x ls
  front-hit e k x m q i =
      let w = named-is k x t q in
      let c = count L in
      let b = mod-lt x {m = length ls} (omega arith) in
      let g = first-low (x % length ls) (omega arith) in
      let y : linked_from m d k x (first_at d (x % length ls)) ≡ linked d k x = enough d falls-all k x m (length ls) (first_at d (x % length ls)) (omega arith) (omega arith) (omega arith) ∙ sym (linked-is L k x) in
      let z : linked_from m d k x (first_at d (x % length ls)) ≡ 0 = y ∙ ap₂ (linked d) (sym w.0) (sym w.1) ∙ eqb-true (linked d t.kind t.value) 0 e in
      find-hit ls at h k x entry q ∙ ap (λ (j : ℕ). first_of (placed ls j) (find_in k x (from ls at))) (sym z) ∙ L.rest k x m (omega arith) i

  abbrev Rest : List ℕ → ℕ → ℕ → ℕ → Type 0
  Rest e k x m = first_of (placed ls (linked_from m e k x (first_at e (x % length ls)))) (find_in k x (from ls next)) ≡ find_entry k x ls

  module _ (new : eqb (linked d t.kind t.value) 0 ≡ true) (k x m : ℕ) (big : next ≤ m) where
    abbrev w : ℕ
    w = x % length ls

    slot_is : slot ≡ t.value % length ls
    slot_is = ap (λ (n : ℕ). t.value % n) (count L)

    -- the same slot: the new entry comes first
    front_same : w ≡ slot → (b : Bool) → named k x t ≡ b → Rest d₁ k x m
    front_same s b q =
        let c = count L in
        let i = at-within in
        let u = line-from ls (at + 1) 1 in
        let p : suc (m - 1) ≡ m = omega arith in
        let one : at + 1 ≡ suc at = omega arith in
        let e : first_at d₁ w ≡ suc at = ap (first_at d₁) s ∙ first_slot d slot at slot-within i ∙ one in
        let g = first-low slot slot-within in
        let f : linked_from m d₁ k x (first_at d₁ w) ≡ cond (named k x t) (suc at) (linked_from (m - 1) d k x (first_at d w)) =
        ap₂ (λ (a b : ℕ). linked_from a d₁ k x b) (sym p) e
        ∙ linked-step (m - 1) d₁ k x at (let z = count-front d slot at slot-within i in omega arith)
        ∙ ap₂ (λ (y : Triple) (z : ℕ). cond (named k x y) (suc at) z) (ap (λ (ys : List Triple). get_or ys at no_triple) (rows-front d slot at slot-within i ∙ L.same))
        (ap (linked_from (m - 1) d₁ k x) (next_here d slot at slot-within i) ∙ alike-front k x (m - 1) (first_at d slot) g ∙ ap (λ (y : ℕ). linked_from (m - 1) d k x (first_at d y)) (sym s)) in
        ap (λ (y : ℕ). first_of (placed ls y) (find_in k x (from ls next))) f ∙ by_name b q
      where
        by_name : (b : Bool) → named k x t ≡ b → first_of (placed ls (cond (named k x t) (suc at) (linked_from (m - 1) d k x (first_at d w)))) (find_in k x (from ls next)) ≡ find_entry k x ls
        by_name true q =
            let u = line-from ls (at + 1) 1 in
            let one : suc at ≡ at + 1 = omega arith in
            rw (q, one) (front-hit new k x (m - 1) q (omega arith))
        by_name false q =
            let u = line-from ls (at + 1) 1 in
            rw q (ap (first_of (placed ls (linked_from (m - 1) d k x (first_at d w)))) (find-turn ls at h k x entry q) ∙ L.rest k x (m - 1) (omega arith) (omega arith))

    -- another one: as it was
    front-other : (w ≡ slot → ⊥) → (b : Bool) → named k x t ≡ b → Rest d₁ k x m
    front-other ne true q = absurd (ne (ap (λ (y : ℕ). y % length ls) (sym (named-is k x t q).1) ∙ sym slot_is))
    front-other ne false q =
        let c = count L in
        let i = at-within in
        let u = line-from ls (at + 1) 1 in
        let j = mod-lt x {m = length ls} (omega arith) in
        let g = first-low w (omega arith) in
        let f : linked_from m d₁ k x (first_at d₁ w) ≡ linked_from m d k x (first_at d w) = ap (linked_from m d₁ k x) (first-other d slot at slot-within i w (omega arith) ne) ∙ alike-front k x m (first_at d w) g in
        ap₂ (λ (y : ℕ) (r : Option Extent). first_of (placed ls y) r) f (find-turn ls at h k x entry q) ∙ L.rest k x m (omega arith) (omega arith)

    front_rest : Rest d₁ k x m
    front_rest = go (eqb w slot) refl
      where
        go : (b : Bool) → eqb w slot ≡ b → Rest d₁ k x m
        go true e = front_same (eqb-true w slot e) (named k x t) refl
        go false e = front-other (eqb-false w slot e) (named k x t) refl

  linking-front : eqb (linked d t.kind t.value) 0 ≡ true → Linking ls d₁ next
  linking-front e =
      let c = count L in
      let i = at-within in
      let u = line-from ls (at + 1) 1 in
      record {
        same = rows-front d slot at slot-within i ∙ L.same;
        ends = λ l z y. ap (λ (v : ℕ). v / 268435456 % 4096) (word-front d slot at slot-within i (2 * l + 1) (λ q. omega arith) (λ q. omega arith)) ∙ L.ends l z y;
        within = line-inside ls (at + 1) 1 (omega arith);
        low = λ b y. low-front b (omega arith) (eqb b slot) refl;
        falls = λ l y. falls-front l (omega arith) (eqb l at) refl;
        rest = λ k x m z y. front_rest e k x m y;
      }
    where
      low-front : (b : ℕ) → b < line_count d → (r : Bool) → eqb b slot ≡ r → first_at d₁ b ≤ next
      low-front b y true q =
          let u = line-from ls (at + 1) 1 in
          let z = first_slot d slot at slot-within at-within in
          rw (eqb-true b slot q) (omega arith)
      low-front b y false q =
          let u = line-from ls (at + 1) 1 in
          let z = first-other d slot at slot-within at-within b y (eqb-false b slot q) in
          let g = first-low b y in
          omega arith

      falls-front : (l : ℕ) → l < line_count d → (r : Bool) → eqb l at ≡ r → next_at d₁ l ≤ l
      falls-front l y true q =
          let z = next_here d slot at slot-within at-within in
          let g = first-low slot slot-within in
          rw (eqb-true l at q) (omega arith)
      falls-front l y false q =
          let z = next-other d slot at slot-within at-within l y (eqb-false l at q) in
          let g = falls-all l y in
          omega arith

  -- whichever it is
  pub linking-turn : Linking ls (link_entry d at) next
  linking-turn = subst⁻¹ (λ (ts : List Triple). (let u = get_or ts at no_triple in Linking ls (cond (eqb (linked d u.kind u.value) 0) (in_front d (u.value % line_count d) at) d) next)) L.same (go (eqb (linked d t.kind t.value) 0) refl)
    where
      go : (b : Bool) → eqb (linked d t.kind t.value) 0 ≡ b → Linking ls (cond b d₁ d) next
      go true e = linking-front e
      go false e = linking-kept e

-- ---- `link_entry` and `link_entries`, exit by exit
pub a_line : (at : ℕ) → (at ≡ 0 → ⊥) → Some at ≡ some_line at
a_line zero z = absurd (z refl)
a_line (suc i) z = refl

some-zero : (q : ℕ) → is_some (some_line q) ≡ not (eqb q 0)
some-zero zero = refl
some-zero (suc i) = sym (ap not (ne_eqb (suc i) 0 (λ e. omega arith)))

not-same : (a b : Bool) → not a ≡ not b → a ≡ b
not-same true true e = refl
not-same true false e = absurd (false≢true e)
not-same false true e = absurd (false≢true (sym e))
not-same false false e = refl

module _ (d : List ℕ) (at : ℕ) {u : Triple} (e : u ≡ get_or (rows d) at no_triple) {q : Option ℕ} (p : q ≡ some_line (linked d u.kind u.value)) {r b : Bool} (tested : is_some q ≡ not r) (f : r ≡ b) where
  abbrev by-line : Bool → List ℕ
  by-line y = cond y (in_front d (u.value % line_count d) at) d

  linked-by : by-line b ≡ link_entry d at
  linked-by =
      ap by-line (sym f ∙ not-same r (eqb (linked d u.kind u.value) 0) (sym tested ∙ ap is_some p ∙ some-zero (linked d u.kind u.value)))
      ∙ ap (λ (v : Triple). cond (eqb (linked d v.kind v.value) 0) (in_front d (v.value % line_count d) at) d) e

pub link-new : (d : List ℕ) (at : ℕ) {u : Triple} → u ≡ get_or (rows d) at no_triple → {q : Option ℕ} → q ≡ some_line (linked d u.kind u.value) → {r : Bool} → is_some q ≡ not r → r ≡ true → {j : ℕ} → j ≡ u.value % line_count d
    → in_front d j at ≡ link_entry d at
link-new d at e p t f s = ap (λ (i : ℕ). in_front d i at) s ∙ linked-by d at e p t f

pub link-old : (d : List ℕ) (at : ℕ) {u : Triple} → u ≡ get_or (rows d) at no_triple → {q : Option ℕ} → q ≡ some_line (linked d u.kind u.value) → {r : Bool} → is_some q ≡ not r → r ≡ false → d ≡ link_entry d at
link-old d at e p t f = linked-by d at e p t f

module _ {ls : List Triple} {d : List ℕ} {at : ℕ} (L : Linking ls d at) where
  pub linking-next : {e : Entry} → EntryAt ls at e → {d' : List ℕ} → d' ≡ link_entry d at → Linking ls d' e.end × (at < e.end) × (link_all d' (from ls e.end) ≡ link_all d (from ls at))
  linking-next {e} E {d'} f =
      let N : Linking ls d' (part_line ls (at + 1) 1) = subst⁻¹ (λ (x : List ℕ). Linking ls x (part_line ls (at + 1) 1)) f (linking-turn L E.within E.entry) in
      let u = line-from ls (at + 1) 1 in
      rw E.same (N, omega arith, ap (λ (x : List ℕ). link_all x (from ls (part_line ls (at + 1) 1))) f ∙ all-turn ls d at E.within E.entry)

-- where the type of an entry stands that was found
pub placed_at : (ls : List Triple) (q : ℕ) {at end : ℕ} → some_line q ≡ Some at → end ≡ part_line ls at 1 → Some (record { line = at; count = (end - at) }) ≡ placed ls q
placed_at ls zero s e = cc
placed_at ls (suc i) {at} s e = let k : suc i ≡ at = cc in rw (e, ← k)
