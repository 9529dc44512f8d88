-- Laws of the words with binders: what writing them leaves, and that every constructor's type has its own. Assumes nothing.
use Rattle.sheet.specs.declared.Extent.{Extent}
use Rattle.std.proofs.Common.{Some, ◌≡◌, refl, sym, ap, ap₂, ◌∙◌, Bool, true, false, cond, List, [], ◌∷◌, ℕ, zero, suc, ◌+◌, ◌*◌, ◌-◌, ◌/◌, ◌%◌, ◌≤◌, ◌<◌, add-zero, add-one, arith, length, get_or, take, drop, length-set, length-take, length-drop, eqb, ltb, get_or-set_same, get_or-set_other, get_or-take, get_or-drop, drop-cons, ext_get_or, eqb-true, eq-eqb, ltb-true, ltb-false}
use mathlib.Core.Path.{subst⁻¹}
use borrow.Author.Tests.{eqb-false}
use Rattle.spelling.specs.declared.Triple.{Triple}
use Rattle.sheet.specs.Plan.{no_triple, part_line, is_entry, named, Declaration, declarations, find_in, find_entry}
use Rattle.sheet.specs.Rows.{rows, row_triple, line_count, end_at, EndsFrom, first_at, next_at, linked_from, linked, front_of, place_from, binder_of, binder_at, Bound, Linked, Ended, set_binder, put_binders, quantified, bind_type, bind_all}
use Rattle.sheet.specs.Binders.{binder_by, TellsPlaces}
use Rattle.sheet.proofs.Lines.{line-from, line-inside}
use Rattle.sheet.proofs.RowLaws.{length-rows, row_is}
use Rattle.sheet.proofs.Declarations.{from, declared, from_past, from-none, from_one}
use Rattle.sheet.proofs.Links.{named-is}
use Rattle.sheet.proofs.Binders.{front-none, binder-is}

-- ---- words that differ in binders alone
pub record Raised (d e : List ℕ) : Type 0 where
  pub long : length e ≡ length d
  pub value : (i : ℕ) → i < line_count d → get_or e (2 * i) 0 ≡ get_or d (2 * i) 0
  pub low : (i : ℕ) → i < line_count d → get_or e (2 * i + 1) 0 % 1099511627776 ≡ get_or d (2 * i + 1) 0 % 1099511627776
  pub links : (j : ℕ) → 2 * line_count d ≤ j → get_or e j 0 ≡ get_or d j 0

raised-refl : (d : List ℕ) → Raised d d
raised-refl d = record { long = refl; value = λ i h. refl; low = λ i h. refl; links = λ j h. refl }

count_of : {d e : List ℕ} → Raised d e → line_count e ≡ line_count d
count_of r = ap (λ (n : ℕ). n / 4) r.long

raised-on : {d e f : List ℕ} → Raised d e → Raised e f → Raised d f
raised-on r s =
    let n = count_of r in
    record {
      long = s.long ∙ r.long;
      value = λ i h. s.value i (omega arith) ∙ r.value i h;
      low = λ i h. s.low i (omega arith) ∙ r.low i h;
      links = λ j h. s.links j (omega arith) ∙ r.links j h;
    }

-- below a binder's place stand kind, sign, count and end
module _ (w : ℕ) where
  abbrev r : ℕ
  r = w % 1099511627776

  kind-low : w % 1024 ≡ r % 1024
  kind-low = omega arith

  sign_low : w / 1024 % 2 ≡ r / 1024 % 2
  sign_low = let q : w / 1024 ≡ 1073741824 * (w / 1099511627776) + r / 1024 = omega arith in rw q (omega arith)

  count_low : w / 2048 % 131072 ≡ r / 2048 % 131072
  count_low = let q : w / 2048 ≡ 536870912 * (w / 1099511627776) + r / 2048 = omega arith in rw q (omega arith)

  end_low : w / 268435456 % 4096 ≡ r / 268435456 % 4096
  end_low = let q : w / 268435456 ≡ 4096 * (w / 1099511627776) + r / 268435456 = omega arith in rw q (omega arith)

triple-low : (v w : ℕ) → row_triple v w ≡ row_triple v (w % 1099511627776)
triple-low v w = rw (kind-low w, sign_low w, count_low w)

module _ {d e : List ℕ} (r : Raised d e) where
  pub raised-rows : rows e ≡ rows d
  raised-rows =
      let n = length-rows d in
      let m = length-rows e in
      let k = r.long in
      ext_get_or no_triple (rows e) (rows d) (omega arith) (λ i h.
      row_is e i (omega arith)
      ∙ triple-low (get_or e (2 * i) 0) (get_or e (2 * i + 1) 0)
      ∙ ap₂ row_triple (r.value i (omega arith)) (r.low i (omega arith))
      ∙ sym (triple-low (get_or d (2 * i) 0) (get_or d (2 * i + 1) 0))
      ∙ sym (row_is d i (omega arith)))

  pub raised-end : (i : ℕ) → i < line_count d → end_at e i ≡ end_at d i
  raised-end i h =
      end_low (get_or e (2 * i + 1) 0) ∙ ap (λ (w : ℕ). w / 268435456 % 4096) (r.low i h) ∙ sym (end_low (get_or d (2 * i + 1) 0))

  abbrev look : ℕ → List Triple → ℕ → ℕ → ℕ → ℕ → ℕ
  look n ts k x at others = cond (eqb at 0) 0 (cond (ltb n at) 0 (cond (named k x (get_or ts (at - 1) no_triple)) at others))

  raised-from : (m k x at : ℕ) → linked_from m e k x at ≡ linked_from m d k x at
  unfolding linked_from
  raised-from zero k x at = refl
  raised-from (suc m) k x at =
      let next : next_at e (at - 1) ≡ next_at d (at - 1) = ap (λ (n : ℕ). get_or e (3 * n + (at - 1)) 0) (count_of r) ∙ r.links (3 * line_count d + (at - 1)) (omega arith) in
      ap₂ (λ (n : ℕ) (ts : List Triple). look n ts k x at (linked_from m e k x (next_at e (at - 1)))) (count_of r) raised-rows
      ∙ ap (look (line_count d) (rows d) k x at) (ap (linked_from m e k x) next ∙ raised-from m k x (next_at d (at - 1)))

  pub raised-linked : (k x : ℕ) → linked e k x ≡ linked d k x
  unfolding linked
  raised-linked k x =
      let n = count_of r in
      ap (λ (n : ℕ). linked_from n e k x (get_or e (2 * n + x % n) 0)) n
      ∙ ap (linked_from (line_count d) e k x) (r.links (2 * line_count d + x % line_count d) (omega arith))
      ∙ raised-from (line_count d) k x (first_at d (x % line_count d))

-- ---- one binder written
module _ (d : List ℕ) (i p : ℕ) (h : i < line_count d) where
  abbrev w : ℕ
  w = get_or d (2 * i + 1) 0 % 1099511627776 + 1099511627776 * p

  abbrev e : List ℕ
  e = set_binder d i p

  set_other : (j : ℕ) → (j ≡ 2 * i + 1 → ⊥) → get_or e j 0 ≡ get_or d j 0
  set_other j ne = get_or-set_other d (2 * i + 1) j w 0 ne

  set_here : get_or e (2 * i + 1) 0 ≡ w
  set_here = get_or-set_same d (2 * i + 1) w 0 (omega arith)

  set-low : (k : ℕ) (b : Bool) → eqb k i ≡ b → get_or e (2 * k + 1) 0 % 1099511627776 ≡ get_or d (2 * k + 1) 0 % 1099511627776
  set-low k true q =
      let z = eqb-true k i q in
      let m : w % 1099511627776 ≡ get_or d (2 * i + 1) 0 % 1099511627776 = omega arith in
      ap (λ (l : ℕ). get_or e (2 * l + 1) 0 % 1099511627776) z ∙ ap (λ (v : ℕ). v % 1099511627776) set_here ∙ m ∙ ap (λ (l : ℕ). get_or d (2 * l + 1) 0 % 1099511627776) (sym z)
  set-low k false q = let ne = eqb-false k i q in ap (λ (v : ℕ). v % 1099511627776) (set_other (2 * k + 1) (λ x. ne (omega arith)))

  pub set-raised : Raised d e
  set-raised = record {
    long = length-set d (2 * i + 1) w;
    value = λ k l. set_other (2 * k) (λ x. omega arith);
    low = λ k l. set-low k (eqb k i) refl;
    links = λ j l. set_other j (λ x. omega arith);
  }

  set-place : binder_at e i ≡ p
  set-place = ap (λ (v : ℕ). v / 1099511627776) set_here ∙ omega arith

-- ---- those of the lines of a type
pub record Put (d : List ℕ) (i : ℕ) (xs : List ℕ) (ts : List Triple) (e : List ℕ) : Type 0 where
  pub raised : Raised d e
  pub before : (j : ℕ) → j < 2 * i → get_or e j 0 ≡ get_or d j 0
  pub after : (l : ℕ) → i + length ts ≤ l → get_or e (2 * l + 1) 0 ≡ get_or d (2 * l + 1) 0
  pub inside : (k : ℕ) → k < length ts → binder_at e (i + k) ≡ binder_of xs (get_or ts k no_triple)

put_one : (d : List ℕ) (i : ℕ) (xs : List ℕ) (t : Triple) (ts : List Triple) (e : List ℕ) → i < line_count d → Put (set_binder d i (binder_of xs t)) (i + 1) xs ts e → Put d i xs (t ∷ ts) e
put_one d i xs t ts e h r = record {
  raised = raised-on (set-raised d i p h) r.raised;
  before = λ j l. r.before j (omega arith) ∙ set_other d i p h j (λ x. omega arith);
  after = λ l k. r.after l (omega arith) ∙ set_other d i p h (2 * l + 1) (λ x. omega arith);
  inside = go;
}
  where
    p : ℕ
    p = binder_of xs t

    go : (k : ℕ) → k < suc (length ts) → binder_at e (i + k) ≡ binder_of xs (get_or (t ∷ ts) k no_triple)
    go zero l = ap (binder_at e) (add-zero i) ∙ ap (λ (v : ℕ). v / 1099511627776) (r.before (2 * i + 1) (omega arith)) ∙ set-place d i p h
    go (suc k) l = let n : i + suc k ≡ i + 1 + k = omega arith in ap (binder_at e) n ∙ r.inside k (omega arith)

pub put_is : (ts : List Triple) (d : List ℕ) (i : ℕ) (xs : List ℕ) → i + length ts ≤ line_count d → Put d i xs ts (put_binders d i xs ts)
unfolding put_binders
put_is [] d i xs h = record { raised = raised-refl d; before = λ j l. refl; after = λ l k. refl; inside = λ k l. absurd (omega arith) }
put_is (t ∷ ts) d i xs h =
    let r = set-raised d i (binder_of xs t) (omega arith) in
    let n = count_of r in
    put_one d i xs t ts (put_binders (set_binder d i (binder_of xs t)) (i + 1) xs ts) (omega arith) (put_is ts (set_binder d i (binder_of xs t)) (i + 1) xs (omega arith))

-- `set_binders`, line by line
module _ (ls : List Triple) (i end : ℕ) (d : List ℕ) (xs : List ℕ) where
  abbrev whole : List ℕ
  whole = put_binders d i xs (take (end - i) (drop i ls))

  pub put-over : end ≤ i → d ≡ whole
  unfolding put_binders
  put-over h = let e : end - i ≡ 0 = omega arith in rw e

  pub put_next : i < end → end ≤ length ls → (u : List ℕ) (first : ℕ) → TellsPlaces u first xs → {e : List ℕ} → e ≡ set_binder d i (binder_by u first (get_or ls i no_triple))
      → put_binders e (i + 1) xs (take (end - (i + 1)) (drop (i + 1) ls)) ≡ whole
  unfolding put_binders
  put_next h k u first f {e} s =
      let n : end - i ≡ suc (end - (i + 1)) = omega arith in
      let t : take (end - i) (drop i ls) ≡ get_or ls i no_triple ∷ take (end - (i + 1)) (drop (i + 1) ls) = rw (n, drop-cons ls i no_triple (omega arith), add-one) in
      ap (λ (v : List ℕ). put_binders v (i + 1) xs (take (end - (i + 1)) (drop (i + 1) ls))) (s ∙ ap (set_binder d i) (binder-is u first xs (get_or ls i no_triple) f)) ∙ sym (ap (put_binders d i xs) t)

-- ---- those of every entry's type
-- a law of the entries from a line on, entry by entry
module _ (ls : List Triple) (P : ℕ → List Declaration → Type 0) (none : (at : ℕ) → P at [])
    (one : (at : ℕ) (h : at < length ls) → P (part_line ls (at + 1) 1) (from ls (part_line ls (at + 1) 1)) → P at (declared ls at h ∷ from ls (part_line ls (at + 1) 1))) where
  by-entry : (at : ℕ) (h : at < length ls) → P (part_line ls (at + 1) 1) (from ls (part_line ls (at + 1) 1)) → (b : Bool) → is_entry (get_or ls at no_triple) ≡ b → P at (from ls at)
  by-entry at h again true e = rw (from_one ls at h e) (one at h again)
  by-entry at h again false e = rw (from-none ls at h e) (none at)

  each : (n at : ℕ) → length ls - at ≤ n → P at (from ls at)
  each zero at h = rw (from_past ls at (omega arith)) (none at)
  each (suc n) at h = go (ltb at (length ls)) refl (each n (part_line ls (at + 1) 1))
    where
      go : (b : Bool) → ltb at (length ls) ≡ b → (length ls - part_line ls (at + 1) 1 ≤ n → P (part_line ls (at + 1) 1) (from ls (part_line ls (at + 1) 1))) → P at (from ls at)
      go true q again =
          let l = ltb-true at (length ls) q in
          let f = line-from ls (at + 1) 1 in
          by-entry at l (again (omega arith)) (is_entry (get_or ls at no_triple)) refl
      go false q again = rw (from_past ls at (ltb-false at (length ls) q)) (none at)

  pub each-entry : P 0 (declarations ls 0 0)
  each-entry = each (length ls) 0 (omega arith)

-- the binders of one type of n lines from line i on
pub record Typed (ls : List Triple) (d : List ℕ) (t : Triple) (i n : ℕ) (e : List ℕ) : Type 0 where
  pub raised : Raised d e
  pub before : (j : ℕ) → j < 2 * i → get_or e j 0 ≡ get_or d j 0
  pub after : (l : ℕ) → i + n ≤ l → get_or e (2 * l + 1) 0 ≡ get_or d (2 * l + 1) 0
  pub inside : t.kind ≡ 1 → ((k : ℕ) → k < n → binder_at d (i + k) ≡ 0) → Bound ls e i n

binder-none : (t : Triple) → binder_of [] t ≡ 0
unfolding place_from
binder-none t = go (eqb t.kind 11)
  where
    go : (b : Bool) → ◌≡◌ {A = ℕ} (cond b 0 0) 0
    go true = refl
    go false = refl

module _ (ls : List Triple) (d : List ℕ) (t : Triple) (i n : ℕ) (within : i + n ≤ length ls) (same : rows d ≡ ls) where
  abbrev ts : List Triple
  ts = take n (drop i ls)

  pub type-length : length ts ≡ n
  type-length = let k = length-drop i ls in length-take n (drop i ls) ∙ omega arith

  type_put : Typed ls d t i n (put_binders d i (front_of ts) ts)
  type_put =
      let l = type-length in
      let c = length-rows d in
      let m = ap length same in
      let r = put_is ts d i (front_of ts) (omega arith) in
      record {
        raised = r.raised;
        before = r.before;
        after = λ k h. r.after k (omega arith);
        inside = λ e f k h. r.inside k (omega arith) ∙ ap (binder_of (front_of ts)) (get_or-take n (drop i ls) k no_triple h ∙ get_or-drop i ls k no_triple);
      }

  type-stays : quantified ls t i ≡ false → Typed ls d t i n d
  type-stays q = record {
    raised = raised-refl d;
    before = λ j h. refl;
    after = λ l h. refl;
    inside = λ e f k h.
        let z : eqb (get_or ls i no_triple).kind 14 ≡ false = rw (eq-eqb t.kind 1 e) at q in
        f k h ∙ sym (ap (λ (xs : List ℕ). binder_of xs (get_or ls (i + k) no_triple)) (front-none ls i n z) ∙ binder-none (get_or ls (i + k) no_triple));
  }

  pub type-bound : Typed ls d t i n (bind_type ls d t i n)
  type-bound = go (quantified ls t i) refl
    where
      go : (b : Bool) → quantified ls t i ≡ b → Typed ls d t i n (cond b (put_binders d i (front_of ts) ts) d)
      go true q = type_put
      go false q = type-stays q

-- and of all types from line `at` on
pub record Bounds (ls : List Triple) (d : List ℕ) (at : ℕ) (es : List Declaration) (e : List ℕ) : Type 0 where
  pub raised : Raised d e
  pub before : (j : ℕ) → j < 2 * at → get_or e j 0 ≡ get_or d j 0
  pub bound : ((i : ℕ) → at ≤ i → i < length ls → binder_at d i ≡ 0) → (x line n : ℕ) → find_in 1 x es ≡ Some (record { line = line; count = n }) → Bound ls e line n

module _ (ls : List Triple) where
  abbrev All : ℕ → List Declaration → Type 0
  All at es = (d : List ℕ) → rows d ≡ ls → Bounds ls d at es (bind_all ls d es)

  bounds-none : (at : ℕ) → All at []
  unfolding bind_all find_in
  bounds-none at d same = record { raised = raised-refl d; before = λ j h. refl; bound = λ f x line n e. absurd (let z : ◌≡◌ {A = ℕ} 0 1 = cc in omega arith) }

  module _ (at : ℕ) (h : at < length ls) where
    abbrev next : ℕ
    next = part_line ls (at + 1) 1

    abbrev n : ℕ
    n = next - (at + 1)

    abbrev t : Triple
    t = get_or ls at no_triple

    fits : at + 1 + n ≡ next
    fits = let l = line-from ls (at + 1) 1 in omega arith

    inner : at + 1 + n ≤ length ls
    inner = let l = fits in let k = line-inside ls (at + 1) 1 (omega arith) in omega arith

    bounds-turn : (d : List ℕ) (es : List Declaration) (e₁ e : List ℕ) → Typed ls d t (at + 1) n e₁ → Bounds ls e₁ next es e → Bounds ls d at (declared ls at h ∷ es) e
    unfolding find_in
    bounds-turn d es e₁ e T B = record {
      raised = raised-on T.raised B.raised;
      before = λ j l. let f = fits in B.before j (omega arith) ∙ T.before j (omega arith);
      bound = λ f x line m q. go f x line m (named 1 x t) refl q;
    }
      where
        go : ((i : ℕ) → at ≤ i → i < length ls → binder_at d i ≡ 0) → (x line m : ℕ) (b : Bool) → named 1 x t ≡ b → cond b (Some (record { line = at + 1; count = n })) (find_in 1 x es) ≡ Some (record { line = line; count = m }) → Bound ls e line m
        go f x line m true p q =
            let same : ◌≡◌ {A = Extent} (record { line = at + 1; count = n }) (record { line = line; count = m }) = cc in
            let a : at + 1 ≡ line = ap (λ (z : Extent). z.line) same in
            let b : n ≡ m = ap (λ (z : Extent). z.count) same in
            let w = fits in
            let v = inner in
            let I = T.inside (named-is 1 x t p).0 (λ k l. f (at + 1 + k) (omega arith) (omega arith)) in
            let r : Bound ls e (at + 1) n = λ k l. ap (λ (v : ℕ). v / 1099511627776) (B.before (2 * (at + 1 + k) + 1) (omega arith)) ∙ I k l in
            rw (← a, ← b) r
        go f x line m false p q =
            B.bound (λ i l k. let w = fits in ap (λ (v : ℕ). v / 1099511627776) (T.after i (omega arith)) ∙ f i (omega arith) k) x line m q

    bounds-one : All next (from ls next) → All at (declared ls at h ∷ from ls next)
    unfolding bind_all
    bounds-one again d same =
        let T = type-bound ls d t (at + 1) n inner same in
        bounds-turn d (from ls next) (bind_type ls d t (at + 1) n) (bind_all ls (bind_type ls d t (at + 1) n) (from ls next)) T (again (bind_type ls d t (at + 1) n) (raised-rows T.raised ∙ same))

  bounds-all : All 0 (declarations ls 0 0)
  bounds-all = each-entry ls All bounds-none bounds-one

-- so what has ends and links, and no binder yet, then has all three
module _ (d : List ℕ) (links : Linked d) (free : (i : ℕ) → i < line_count d → binder_at d i ≡ 0) where
  abbrev out : List ℕ
  out = bind_all (rows d) d (declarations (rows d) 0 0)

  B : Bounds (rows d) d 0 (declarations (rows d) 0 0) out
  B = bounds-all (rows d) d refl

  pub same_rows : rows out ≡ rows d
  same_rows = raised-rows B.raised

  pub all-ended : Ended out
  unfolding find_entry
  all-ended =
      let n = length-rows d in
      record {
        ends = subst⁻¹ (λ (ts : List Triple). EndsFrom ts out 0) same_rows (λ i l h. raised-end B.raised i (omega arith) ∙ links.ends i l h);
        found = λ k x. rw (same_rows, raised-linked B.raised k x) (links.found k x);
        bound = subst⁻¹ (λ (ts : List Triple). (x line n : ℕ) → find_entry 1 x ts ≡ Some (record { line = line; count = n }) → Bound ts out line n) same_rows (B.bound (λ i l h. free i (omega arith)));
      }
