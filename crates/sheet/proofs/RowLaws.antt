-- Laws of `rows`: what a row holds, that a sheet read row by row is the sheet, and its words. Assumes nothing.
use Rattle.std.proofs.Common.{◌≡◌, refl, sym, ap, ap₂, ◌∙◌, Bool, true, false, cond, List, [], ◌∷◌, ◌++◌, append_assoc, ℕ, zero, suc, ◌+◌, ◌*◌, ◌-◌, ◌/◌, ◌%◌, ◌≤◌, ◌<◌, zero-add, add-zero, arith, T, ltb, eqb, eqb→eq, ltb-true, ltb-false, length, get_or, set, take, drop, replicate, length-set, drop-drop, get_or-set_same, get_or-set_other, get_or-drop, ext_get_or}
use mathlib.Core.Path.{subst⁻¹}
use borrow.Author.Tests.{eqb-false}
use lib.ListN.{length-replicate, get_or-replicate, get_or-eq_default}
use borrow.Rule.Slice.PartMut.{put_mid}
use lib.Seq.{sets, sets-eq, length-sets}
use Rattle.sizes.specs.Sizes.{line_length, most_lines}
use Rattle.nodes.specs.Nodes.{zeros}
use Rattle.nodes.proofs.Laws.{getD-sets-below}
use Rattle.spelling.specs.declared.Triple.{Triple}
use Rattle.kinds.specs.Kinds.{parts_of}
use Rattle.sheet.specs.Plan.{no_triple, triples, part_line}
use Rattle.sheet.specs.Rows.{packed, row_triple, rows_from, rows, line_count, EndsFrom, KindsFrom, HeldFrom, set_row, RowAsk, Unlinked, row_words, unlinked_words}
use Rattle.sheet.proofs.Lines.{length-triples, kind-small, count_small, line-turn, line-within}

-- ---- what a row holds
length_from : (n : ℕ) (d : List ℕ) → length (rows_from n d) ≡ n
unfolding rows_from
length_from zero d = refl
length_from (suc n) d = ap suc (length_from n (drop 2 d))

pub length-rows : (d : List ℕ) → length (rows d) ≡ length d / 4
unfolding rows
length-rows d = length_from (line_count d) d

-- for the tactics: how many words there are for so many lines
pub ruleset row_counts = (length-rows)

from_is : (n : ℕ) (d : List ℕ) (i : ℕ) → i < n → get_or (rows_from n d) i no_triple ≡ row_triple (get_or d (2 * i) 0) (get_or d (2 * i + 1) 0)
unfolding rows_from
from_is zero d i h = absurd (omega arith)
from_is (suc n) d zero h = refl
from_is (suc n) d (suc i) h =
    let a : 2 + 2 * i ≡ 2 * suc i = omega arith in
    let b : 2 + (2 * i + 1) ≡ 2 * suc i + 1 = omega arith in
    from_is n (drop 2 d) i (omega arith) ∙ ap₂ row_triple (get_or-drop 2 d (2 * i) 0 ∙ ap (λ (x : ℕ). get_or d x 0) a) (get_or-drop 2 d (2 * i + 1) 0 ∙ ap (λ (x : ℕ). get_or d x 0) b)

pub row_is : (d : List ℕ) (i : ℕ) → i < length d / 4 → get_or (rows d) i no_triple ≡ row_triple (get_or d (2 * i) 0) (get_or d (2 * i + 1) 0)
unfolding rows
row_is d i h = from_is (line_count d) d i h

pub row-none : (d : List ℕ) (i : ℕ) → length d / 4 ≤ i → get_or (rows d) i no_triple ≡ no_triple
row-none d i h = get_or-eq_default (rows d) no_triple (let e = length-rows d in omega arith)

row_small : (d : List ℕ) (i : ℕ) (b : Bool) → ltb i (length d / 4) ≡ b → ((get_or (rows d) i no_triple).kind < 1024) × ((get_or (rows d) i no_triple).count < 131072)
row_small d i true e = rw (row_is d i (ltb-true i (length d / 4) e)) (omega arith, omega arith)
row_small d i false e = rw (row-none d i (ltb-false i (length d / 4) e)) (omega arith, omega arith)

-- a kind has 10 bits, a count 17
pub row-kind : (d : List ℕ) (i : ℕ) → (get_or (rows d) i no_triple).kind < 1024
row-kind d i = (row_small d i (ltb i (length d / 4)) refl).0

pub row_count : (d : List ℕ) (i : ℕ) → (get_or (rows d) i no_triple).count < 131072
row_count d i = (row_small d i (ltb i (length d / 4)) refl).1

-- ---- a packed word holds what was packed
abbrev triple : ℕ → Bool → ℕ → ℕ → Triple
triple k g v c = record { kind = k; negative = g; value = v; count = c }

module _ (k g c e : ℕ) (hk : k < 1024) (hg : g < 2) (hc : c < 131072) where
  abbrev word : ℕ
  word = k + 1024 * (g + 2 * (c + 131072 * e))

  kind-of : word % 1024 ≡ k
  kind-of = let m = g + 2 * (c + 131072 * e) in omega arith

  sign_of : word / 1024 % 2 ≡ g
  sign_of =
      let m = c + 131072 * e in
      let q : word / 1024 ≡ g + 2 * m = omega arith in
      rw q (omega arith)

  rest_of : word / 2048 ≡ c + 131072 * e
  rest_of = let m = c + 131072 * e in omega arith

  count_of : word / 2048 % 131072 ≡ c
  count_of = rw rest_of (omega arith)

  end_of : word / 268435456 ≡ e
  end_of = omega arith

unpack : (k : ℕ) (g : Bool) (v c e : ℕ) → k < 1024 → c < 131072 → (row_triple v (packed (triple k g v c) e) ≡ triple k g v c) × (packed (triple k g v c) e / 268435456 ≡ e)
unpack k true v c e h j = let w : 1 < 2 = omega arith in (rw (kind-of k 1 c e h w j, sign_of k 1 c e h w j, count_of k 1 c e h w j), end_of k 1 c e h w j)
unpack k false v c e h j = let w : 0 < 2 = omega arith in (rw (kind-of k 0 c e h w j, sign_of k 0 c e h w j, count_of k 0 c e h w j), end_of k 0 c e h w j)

-- ---- reading a sheet
-- the words from a on, k of them, filled with 0
pub filled : (d : List ℕ) (a k : ℕ) {ys : List ℕ} → a + k ≡ length d → ys ≡ replicate k 0 → put_mid a k d ys ≡ sets d a (zeros k)
unfolding zeros
filled d a k h e =
    let n = length-replicate {A = ℕ} k 0 in
    let rest : drop (a + length (replicate {A = ℕ} k 0)) d ≡ drop k (drop a d) = ap (λ (m : ℕ). drop (a + m) d) n ∙ sym (drop-drop k a d) in
    rw e (sym (sets-eq (replicate k 0) d a (omega arith) ∙ append_assoc (take a d) (replicate k 0) (drop (a + length (replicate {A = ℕ} k 0)) d) ∙ ap (λ (xs : List ℕ). take a d ++ (replicate k 0 ++ xs)) rest))

-- words that 0 was written to
zeroed : (m : ℕ) (l : List ℕ) (p j : ℕ) → p + m ≤ length l → p ≤ j → j < p + m → get_or (sets l p (zeros m)) j 0 ≡ 0
unfolding zeros
zeroed zero l p j r h k = absurd (omega arith)
zeroed (suc m) l p j r h k = go (eqb j p) refl (λ n. let e = length-set l p 0 in zeroed m (set l p 0) (suc p) j (omega arith) (omega (arith, n)) (omega arith))
  where
    go : (b : Bool) → eqb j p ≡ b → ((j ≡ p → ⊥) → get_or (sets (set l p 0) (suc p) (zeros m)) j 0 ≡ 0) → get_or (sets (set l p 0) (suc p) (zeros m)) j 0 ≡ 0
    go true e again = let z = eqb→eq j p (subst⁻¹ T e tt) in rw z (getD-sets-below (set l p 0) (suc p) (zeros m) p (omega arith) ∙ get_or-set_same l p 0 0 (omega arith))
    go false e again = again (eqb-false j p e)

pub cleared : (d : List ℕ) → Unlinked (sets d (2 * line_count d) (zeros (length d - 2 * line_count d)))
cleared d = record {
  none = λ i h. subst⁻¹ (λ (k : ℕ). get_or D (2 * (k / 4) + i) 0 ≡ 0) n (zeroed m d (2 * line_count d) (2 * line_count d + i) (omega arith) (omega arith) (let x = n in omega arith));
  alone = λ i h. subst⁻¹ (λ (k : ℕ). get_or D (3 * (k / 4) + i) 0 ≡ 0) n (zeroed m d (2 * line_count d) (3 * line_count d + i) (omega arith) (omega arith) (let x = n in omega arith));
}
  where
    m : ℕ
    m = length d - 2 * line_count d

    D : List ℕ
    D = sets d (2 * line_count d) (zeros m)

    n : length D ≡ length d
    n = length-sets d (2 * line_count d) (zeros m)

-- words that are all 0
zeros-are : (m : ℕ) (d : List ℕ) → length d ≡ m → ((i : ℕ) → i < m → get_or d i 0 ≡ 0) → d ≡ zeros m
unfolding zeros
zeros-are m d e f = let n = length-replicate {A = ℕ} m 0 in ext_get_or 0 d (zeros m) (e ∙ sym n) (λ i h. f i (omega arith) ∙ sym (get_or-replicate m i 0 0 (omega arith)))

module _ (ls : List Triple) where
  -- d starts with the rows of the lines ts, which are those of ls from line `at` on
  abbrev StartsWith : List ℕ → ℕ → List Triple → Type 0
  StartsWith d at ts =
      (i : ℕ) → i < length ts → (get_or d (2 * i) 0 ≡ (get_or ts i no_triple).value) × (get_or d (2 * i + 1) 0 ≡ packed (get_or ts i no_triple) (part_line ls (at + i) 1))

  starts-next : (a b : ℕ) (d : List ℕ) (at : ℕ) (t : Triple) (ts : List Triple) → StartsWith (a ∷ b ∷ d) at (t ∷ ts) → StartsWith d (at + 1) ts
  starts-next a b d at t ts f i h =
      let p : 2 * suc i + 1 ≡ suc (suc (2 * i + 1)) = omega arith in
      let q : 2 * suc i ≡ suc (suc (2 * i)) = omega arith in
      let k : at + suc i ≡ at + 1 + i = omega arith in
      rw (p, q, k) at (f (suc i) (omega arith))

  -- rows, and then m words that are 0
  words_are : (m : ℕ) (ts : List Triple) (at : ℕ) (d : List ℕ) → length d ≡ 2 * length ts + m → StartsWith d at ts → ((i : ℕ) → i < m → get_or d (2 * length ts + i) 0 ≡ 0) → d ≡ row_words ls at ts ++ zeros m
  unfolding row_words
  words_are m [] at d e f g = zeros-are m d (omega arith) (λ i h. rw zero-add at (g i h))
  words_are m (t ∷ ts) at [] e f g = absurd (omega arith)
  words_are m (t ∷ ts) at (a ∷ []) e f g = absurd (omega arith)
  words_are m (t ∷ ts) at (a ∷ b ∷ d) e f g =
      let p = f 0 (omega arith) in
      let q : (i : ℕ) → 2 * suc (length ts) + i ≡ suc (suc (2 * length ts + i)) = λ i. omega arith in
      let again = words_are m ts (at + 1) d (omega arith) (starts-next a b d at t ts f) (λ i h. rw (q i) at (g i h)) in
      λ i. p.0 i ∷ (rw add-zero at p.1) i ∷ again i

  -- row i is that of line i, with that end
  abbrev RowIs : List ℕ → ℕ → ℕ → Type 0
  RowIs d i end = (get_or d (2 * i) 0 ≡ (get_or ls i no_triple).value) × (get_or d (2 * i + 1) 0 ≡ packed (get_or ls i no_triple) end)

  -- from line `at` on, the rows are those of the lines ls
  abbrev pub RowsFrom : List ℕ → ℕ → Type 0
  RowsFrom d at = (i : ℕ) → at ≤ i → i < length ls → RowIs d i (part_line ls i 1)

  abbrev pub Small : Type 0
  Small = (i : ℕ) → ((get_or ls i no_triple).kind < 1024) × ((get_or ls i no_triple).count < 131072)

  -- row i written with the end e: it is so, and the other rows and the links stay
  module _ (d : List ℕ) (i e : ℕ) (h : i < length ls) (r : length d ≡ 4 * length ls) where
    abbrev v : ℕ
    v = (get_or ls i no_triple).value

    abbrev p : ℕ
    p = packed (get_or ls i no_triple) e

    row_same : RowIs (set_row d i (get_or ls i no_triple) e) i e
    row_same =
        let l = length-set d (2 * i) v in
        (get_or-set_other (set d (2 * i) v) (2 * i + 1) (2 * i) p 0 (λ x. omega arith) ∙ get_or-set_same d (2 * i) v 0 (omega arith), get_or-set_same (set d (2 * i) v) (2 * i + 1) p 0 (omega arith))

    stays : (j : ℕ) → (j ≡ 2 * i → ⊥) → (j ≡ 2 * i + 1 → ⊥) → get_or (set_row d i (get_or ls i no_triple) e) j 0 ≡ get_or d j 0
    stays j x y = get_or-set_other (set d (2 * i) v) (2 * i + 1) j p 0 y ∙ get_or-set_other d (2 * i) j v 0 x

    row_other : (j f : ℕ) → (j ≡ i → ⊥) → RowIs d j f → RowIs (set_row d i (get_or ls i no_triple) e) j f
    row_other j f ne w = (stays (2 * j) (λ x. ne (omega arith)) (λ x. omega arith) ∙ w.0, stays (2 * j + 1) (λ x. omega arith) (λ x. ne (omega arith)) ∙ w.1)

    pub links-stay : Unlinked d → Unlinked (set_row d i (get_or ls i no_triple) e)
    links-stay u =
        let d' : List ℕ = set_row d i (get_or ls i no_triple) e in
        let l : length d' ≡ length d = simp length-set in
        record {
          none = λ j k. subst⁻¹ (λ (x : ℕ). get_or d' (2 * (x / 4) + j) 0 ≡ 0) l (stays (2 * line_count d + j) (λ x. omega arith) (λ x. omega arith) ∙ u.none j (omega arith));
          alone = λ j k. subst⁻¹ (λ (x : ℕ). get_or d' (3 * (x / 4) + j) 0 ≡ 0) l (stays (3 * line_count d + j) (λ x. omega arith) (λ x. omega arith) ∙ u.alone j (omega arith));
        }

  pub rows_next : (d : List ℕ) (i : ℕ) → i < length ls → length d ≡ 4 * length ls → RowsFrom d (i + 1) → RowsFrom (set_row d i (get_or ls i no_triple) (part_line ls i 1)) i
  rows_next d i h r g j k l = go (eqb j i) refl
    where
      go : (b : Bool) → eqb j i ≡ b → RowIs (set_row d i (get_or ls i no_triple) (part_line ls i 1)) j (part_line ls j 1)
      go true q = let z = eqb→eq j i (subst⁻¹ T q tt) in rw z (row_same d i (part_line ls i 1) h r)
      go false q = let ne = eqb-false j i q in row_other d i (part_line ls i 1) h r j (part_line ls j 1) ne (g j (omega (arith, ne)) l)

  module _ (d : List ℕ) (m : Small) where
    pub row_ends : length ls ≤ most_lines → (at : ℕ) → RowsFrom d at → EndsFrom ls d at
    row_ends few at f i k l =
        let t = get_or ls i no_triple in
        let w = line-within ls i 1 (omega arith) in
        let u = (unpack t.kind t.negative t.value t.count (part_line ls i 1) (m i).0 (m i).1).1 in
        rw ((f i k l).1, u) (omega arith)

    pub row-kinds : (at : ℕ) → RowsFrom d at → KindsFrom ls d at
    row-kinds at f i k l =
        let t = get_or ls i no_triple in
        ap (λ (w : ℕ). w % 1024) (f i k l).1 ∙ ap (λ (u : Triple). u.kind) (unpack t.kind t.negative t.value t.count (part_line ls i 1) (m i).0 (m i).1).0

    module _ (e : length d ≡ 4 * length ls) (f : RowsFrom d 0) where
      pub rows_are : rows d ≡ ls
      rows_are =
          let n = length-rows d in
          ext_get_or no_triple (rows d) ls (omega arith) (λ i h.
          let t = get_or ls i no_triple in
          row_is d i (omega arith)
          ∙ ap₂ row_triple (f i (omega arith) (omega arith)).0 (f i (omega arith) (omega arith)).1
          ∙ (unpack t.kind t.negative t.value t.count (part_line ls i 1) (m i).0 (m i).1).0)

      pub rows-ended : length ls ≤ most_lines → EndsFrom (rows d) d 0
      rows-ended few = subst⁻¹ (λ (xs : List Triple). EndsFrom xs d 0) rows_are (row_ends few 0 f)

      -- the words behind the rows
      behind : Unlinked d → (i : ℕ) → i < 2 * length ls → (b : Bool) → ltb i (length ls) ≡ b → get_or d (2 * length ls + i) 0 ≡ 0
      behind u i h true p =
          let n : line_count d ≡ length ls = omega arith in
          let k = ltb-true i (length ls) p in
          rw n at (u.none i (omega arith))
      behind u i h false p =
          let n : line_count d ≡ length ls = omega arith in
          let l = ltb-false i (length ls) p in
          let k : 3 * line_count d + (i - length ls) ≡ 2 * length ls + i = omega arith in
          rw k at (u.alone (i - length ls) (omega arith))

      pub rows_words : Unlinked d → d ≡ unlinked_words ls
      unfolding unlinked_words
      rows_words u = words_are (2 * length ls) ls 0 d (omega arith) (λ i h. let w = f i (omega arith) h in (w.0, rw zero-add w.1)) (λ i h. behind u i h (ltb i (length ls)) refl)

-- what `entry_at` asks, where the lines ls are held
pub ends-held : (d : List ℕ) {ls : List Triple} → rows d ≡ ls → EndsFrom ls d 0 → (at : ℕ) → EndsFrom (rows d) d at
ends-held d {ls} s e at i h = subst⁻¹ (λ (ts : List Triple). EndsFrom ts d 0) s e i (omega arith)

-- of the lines of a sheet
pub lines-small : (s : List ℕ) → Small (triples s)
lines-small s i = let k = kind-small s i in let c = count_small s i in (omega arith, omega arith)

pub bit-small : (b : Bool) → cond b 1 0 ≤ 1
bit-small true = omega arith
bit-small false = omega arith

-- what reading line i knows of those after it
pub held-after : (s : List ℕ) {d : List ℕ} {i : ℕ} → RowAsk d s i → HeldFrom (triples s) d (length s / line_length) (i + 1)
held-after s a = record { count = length-triples s; ends = a.after; kinds = a.kinds }

-- a part ends where the parts that follow its line end
module _ (s : List ℕ) (i : ℕ) (h : i < length (triples s)) (t : Triple) (e : t ≡ get_or (triples s) i no_triple) (parts end : ℕ) (p : parts ≡ parts_of t) (q : end ≡ part_line (triples s) (i + 1) parts) where
  pub row-end : end ≡ part_line (triples s) i 1
  row-end =
      let n : parts ≡ 1 - 1 + parts_of (get_or (triples s) i no_triple) = p ∙ ap parts_of e ∙ sym (zero-add _) in
      q ∙ ap (part_line (triples s) (i + 1)) n ∙ line-turn (triples s) i 1 h (λ x. omega arith)

  pub row_fits : length (triples s) ≤ most_lines → (t.kind < 1000) × (t.count < 100000) × (end ≤ most_lines + 1)
  row_fits f =
      let w = line-within (triples s) i 1 (omega arith) in
      let r = row-end in
      rw e (kind-small s i, count_small s i, omega arith)
