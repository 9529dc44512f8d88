-- A turn of `write_out` on plain values: the write-out of a type by its first node, the number that falls, and how what
-- two calls leave goes together. Assumes nothing.
use Rattle.std.proofs.Common.{Option, Some, None, ◌≡◌, refl, sym, ap, ap₂, ◌∙◌, subst, ◌≢◌, Bool, true, false, cond, true≢false, List, [], ◌∷◌, ◌++◌, ℕ, ◌+◌, ◌*◌, ◌-◌, ◌≤◌, ◌<◌, add-one, arith, length, get_or, set, take, length-append, length-set, take_all, leb, ltb, eqb, leb-true, leb-false, ltb-true, ltb-false, eqb-true, le-leb}
use Rattle.nodes.specs.declared.Place.{Place}
use lib.Seq.{sets, take-append-le, take-append-add}
use borrow.Author.Tests.{eqb-false, lt-leb}
use Rattle.sizes.specs.Sizes.{most_numbers, book_base}
use Rattle.nodes.specs.Nodes.{Node, node, Ty, words, nodes_at}
use Rattle.nodes.specs.Lists.{In}
use Rattle.nodes.proofs.Laws.{nodes_at-cons, words_append, sets-append, length-words}
use Rattle.judgment.specs.Types.{unknown}
use Rattle.judgment.specs.Solutions.{◌≔◌, Solutions, write_out, solved_unknowns}
use Rattle.judgment.specs.Good.{Free}
use Rattle.judgment.proofs.SolutionLaws.{other-free, written-append, written-free, solved}
use Rattle.judgment.proofs.Visits.{visits, visits-append, visits-free, visits-solved}
use Rattle.book.specs.declared.Book.{Book}
use Rattle.book.specs.Book.{start_of, count_of, sols, Booked, place_of, WriteAsk, wrote, written_to}
use Rattle.book.proofs.Holdings.{found_in, free_of}

-- ---- what `find` tells
pub record Solved (w : List ℕ) (d v : ℕ) (p : Place) : Type 0 where
  pub unknown : d ≡ 17
  pub small : v < most_numbers
  pub high : book_base ≤ start_of w v
  pub start : p.start ≡ start_of w v
  pub count : p.count ≡ count_of w v

abbrev pub Unsolved : List ℕ → ℕ → ℕ → Type 0
Unsolved w d v = d ≡ 17 → v < most_numbers → start_of w v < book_base

abbrev Told : List ℕ → ℕ → ℕ → Option Place → Type 0
Told w d v (Some p) = Solved w d v p
Told w d v None = Unsolved w d v

told : (w : List ℕ) (d v : ℕ) (r : Option Place) → r ≡ place_of w d v → Told w d v r
unfolding place_of
told w d v r e = rw e (go (eqb d 17) refl)
  where
    go₃ : d ≡ 17 → v < most_numbers → (c : Bool) → ltb (start_of w v) book_base ≡ c → Told w d v (cond c None (Some (record { start = start_of w v; count = count_of w v })))
    go₃ i l true q = λ _ _. ltb-true (start_of w v) book_base q
    go₃ i l false q = record { unknown = i; small = l; high = ltb-false (start_of w v) book_base q; start = refl; count = refl }

    go₂ : d ≡ 17 → (c : Bool) → ltb v most_numbers ≡ c → Told w d v (cond c (cond (ltb (start_of w v) book_base) None (Some (record { start = start_of w v; count = count_of w v }))) None)
    go₂ i true q = go₃ i (ltb-true v most_numbers q) (ltb (start_of w v) book_base) refl
    go₂ i false q = λ _ l. absurd (let m = ltb-false v most_numbers q in omega arith)

    go : (c : Bool) → eqb d 17 ≡ c
        → Told w d v (cond c (cond (ltb v most_numbers) (cond (ltb (start_of w v) book_base) None (Some (record { start = start_of w v; count = count_of w v }))) None) None)
    go true q = go₂ (eqb-true d 17 q) (ltb v most_numbers) refl
    go false q = λ i _. absurd (eqb-false d 17 q i)

pub told_at : (w : List ℕ) (d v : ℕ) {r : (Option Place)} {p : Place} → r ≡ place_of w d v → r ≡ Some p → Solved w d v p
told_at w d v {r} e q = subst (Told w d v) q (told w d v r e)

pub told_none : (w : List ℕ) (d v : ℕ) {r : (Option Place)} → r ≡ place_of w d v → r ≡ None → Unsolved w d v
told_none w d v {r} e q = subst (Told w d v) q (told w d v r e)

-- a node that is no solved unknown
pub unsolved-free : {w : List ℕ} {b : Book} {d v : ℕ} → Booked w b → Unsolved w d v → Free (solved_unknowns (sols w)) (node d v)
unsolved-free {w} {b} {d} {v} h f = go (eqb d 17) refl
  where
    go : (c : Bool) → eqb d 17 ≡ c → Free (solved_unknowns (sols w)) (node d v)
    go true q = let i = eqb-true d 17 q in rw i (free_of w b v h (f i))
    go false q = other-free (solved_unknowns (sols w)) d v (eqb-false d 17 q)

-- a solved unknown: its solution is one of the book's, and stands in its words
pub solved-in : {w : List ℕ} {b : Book} {d v : ℕ} {p : Place} → Booked w b → Solved w d v p → In (◌≔◌ v (nodes_at w p.start p.count)) (sols w) × (p.start + 2 * p.count ≤ length w)
solved-in {w} {b} {d} {v} {p} h f =
    let q : In (◌≔◌ v (nodes_at w p.start p.count)) (sols w) × (0 < p.count) × (p.start + 2 * p.count ≤ book_base + 2 * b.nodes) =
    rw (f.start, f.count) (found_in w (book_base + 2 * b.nodes) book_base (sols w) v h.holds f.small f.high) in
    (q.0, let z = q.2 in let r = h.room in let u = h.few in omega arith)

-- ---- what two calls leave
module _ (x y : Ty) (n end : ℕ) (o : List ℕ) where
  pub fits_told : (m : ℕ) → wrote x n end ≡ Some m → (n + length x ≤ end) × (m ≡ n + length x)
  fits_told m e = go (leb (n + length x) end) refl e
    where
      go : (c : Bool) → leb (n + length x) end ≡ c → cond c (Some (n + length x)) None ≡ Some m → (n + length x ≤ end) × (m ≡ n + length x)
      go true q e = (leb-true (n + length x) end q, cc)
      go false q e = absurd (true≢false cc)

  pub over-told : wrote x n end ≡ None → end < n + length x
  over-told e = go (leb (n + length x) end) refl e
    where
      go : (c : Bool) → leb (n + length x) end ≡ c → cond c (Some (n + length x)) None ≡ None → end < n + length x
      go true q e = absurd (true≢false cc)
      go false q e = leb-false (n + length x) end q

  -- the second goes on where the first ended
  then-wrote : wrote y (n + length x) end ≡ wrote (x ++ y) n end
  then-wrote =
      let e : n + length x + length y ≡ n + length (x ++ y) = omega (arith, length-append x y) in
      rw e

  then-written : n + length x ≤ end → written_to y (n + length x) end (written_to x n end o) ≡ written_to (x ++ y) n end o
  then-written h =
      let e : end - n ≡ length x + (end - (n + length x)) = omega arith in
      let f : 2 * n + length (words x) ≡ 2 * (n + length x) = omega (arith, length-words x) in
      ap (λ (t : Ty). sets (sets o (2 * n) (words t)) (2 * (n + length x)) (words (take (end - (n + length x)) y))) (take_all (end - n) x (omega arith))
      ∙ ap (λ (k : ℕ). sets (sets o (2 * n) (words x)) k (words (take (end - (n + length x)) y))) (sym f)
      ∙ sym (sets-append o (2 * n) (words x) (words (take (end - (n + length x)) y)))
      ∙ ap (λ (l : List ℕ). sets o (2 * n) l) (sym (words_append x (take (end - (n + length x)) y)))
      ∙ ap (λ (t : Ty). sets o (2 * n) (words t)) (sym (ap (λ (k : ℕ). take k (x ++ y)) e ∙ take-append-add x y (end - (n + length x))))

  -- the first passes the end
  over-wrote : end < n + length x → wrote (x ++ y) n end ≡ None
  over-wrote h = rw (lt-leb (n + length (x ++ y)) end (omega (arith, length-append x y)))

  over-written : end < n + length x → written_to x n end o ≡ written_to (x ++ y) n end o
  over-written h = ap (λ (t : Ty). sets o (2 * n) (words t)) (sym (take-append-le (end - n) x y (omega arith)))

-- one node
one_written : (d v : ℕ) (n end : ℕ) (o : List ℕ) → n < end → written_to (node d v ∷ []) n end o ≡ set (set o (2 * n) d) (2 * n + 1) v
unfolding words
one_written d v n end o h =
    ap (λ (t : Ty). sets o (2 * n) (words t)) (take_all (end - n) (node d v ∷ []) (omega arith)) ∙ ap (λ (k : ℕ). set (set o (2 * n) d) k v) (sym (add-one (2 * n)))

-- no room for it
none-wrote : (x : Node) (y : Ty) (n end : ℕ) → end ≤ n → wrote ((x ∷ []) ++ y) n end ≡ None
none-wrote x y n end h = over-wrote (x ∷ []) y n end [] (omega arith)

none_written : (t : Ty) (n end : ℕ) (o : List ℕ) → end ≤ n → o ≡ written_to t n end o
unfolding words
none_written t n end o h = let e : end - n ≡ 0 = omega arith in rw e

-- what a call leaves that writes t out, up to node `end`
abbrev pub Leaves : ℕ → Ty → ℕ → List ℕ → Option ℕ → List ℕ → Type 0
Leaves end t m o₁ r o₂ = (r ≡ wrote t m end) × (o₂ ≡ written_to t m end o₁)

-- ---- the first node of a call at which nodes are left. t is its measure
module _ {s : List ℕ} {at left : ℕ} {w o : List ℕ} {n end : ℕ} (ask : WriteAsk s at left w o n end) (some : left ≢ 0) where
  abbrev σ : Solutions
  σ = sols w

  abbrev d : ℕ
  d = get_or s at 0

  abbrev v : ℕ
  v = get_or s (at + 1) 0

  abbrev others : Ty
  others = nodes_at s (at + 2) (left - 1)

  cons : nodes_at s at left ≡ (node d v ∷ []) ++ others
  cons = nodes_at-cons s at left (omega arith)

  -- what the call for the nodes after the first asks
  pub on-ask : (o' : List ℕ) (m : ℕ) → length o' ≡ length o → m ≤ end → WriteAsk s (at + 2) (left - 1) w o' m end
  on-ask o' m e l = record {
    within = let z = ask.within in omega arith;
    book = ask.book;
    room = let z = ask.room in omega arith;
    most = l;
  }

  module _ (f : Unsolved w d v) where
    free : Free (solved_unknowns σ) (node d v)
    free = unsolved-free ask.book.1 f

    miss-out : write_out σ (nodes_at s at left) ≡ (node d v ∷ []) ++ write_out σ others
    miss-out = ap (write_out σ) cons ∙ written-append σ (node d v ∷ []) others ∙ ap (λ (t : Ty). t ++ write_out σ others) (written-free σ (node d v ∷ []) (free, tt))

    pub miss-falls : (t : ℕ) → visits σ (nodes_at s at left) ≡ t → visits σ others < t
    miss-falls t e =
        let q : visits σ (nodes_at s at left) ≡ visits σ (node d v ∷ []) + visits σ others = ap (visits σ) cons ∙ visits-append σ (node d v ∷ []) others in
        let one = visits-free σ (node d v) free in
        omega arith

    pub miss-full : end ≤ n → Leaves end (write_out σ (nodes_at s at left)) n o None o
    miss-full h = rw miss-out (sym (none-wrote (node d v) (write_out σ others) n end h), none_written ((node d v ∷ []) ++ write_out σ others) n end o h)

    pub miss-on : {r : (Option ℕ)} {o₂ : List ℕ} → n < end → Leaves end (write_out σ others) (n + 1) (set (set o (2 * n) d) (2 * n + 1) v) r o₂ → Leaves end (write_out σ (nodes_at s at left)) n o r o₂
    miss-on h l =
        let x : Ty = node d v ∷ [] in
        let y : Ty = write_out σ others in
        rw miss-out
        (l.0 ∙ then-wrote x y n end o, l.1 ∙ ap (λ (q : List ℕ). written_to y (n + 1) end q) (sym (one_written d v n end o h)) ∙ then-written x y n end o (omega arith))

  module _ {p : Place} (f : Solved w d v p) where
    abbrev solution : Ty
    solution = nodes_at w p.start p.count

    found : In (◌≔◌ v solution) σ × (p.start + 2 * p.count ≤ length w)
    found = solved-in ask.book.1 f

    first : nodes_at s at left ≡ unknown v ++ others
    first = cons ∙ ap (λ (k : ℕ). (node k v ∷ []) ++ others) f.unknown

    hit-out : write_out σ (nodes_at s at left) ≡ write_out σ solution ++ write_out σ others
    hit-out = ap (write_out σ) first ∙ written-append σ (unknown v) others ∙ ap (λ (t : Ty). t ++ write_out σ others) (solved σ ask.book.1.fine (◌≔◌ v solution) found.0)

    steps : visits σ (nodes_at s at left) ≡ 1 + visits σ solution + visits σ others
    steps = ap (visits σ) first ∙ visits-append σ (unknown v) others ∙ ap (λ (k : ℕ). k + visits σ others) (visits-solved σ v solution ask.book.1.fine found.0)

    pub in-falls : (t : ℕ) → visits σ (nodes_at s at left) ≡ t → visits σ solution < t
    in-falls t e = omega (arith, steps)

    pub on-falls : (t : ℕ) → visits σ (nodes_at s at left) ≡ t → visits σ others < t
    on-falls t e = omega (arith, steps)

    -- what the call for the solution asks
    pub in-ask : WriteAsk w p.start p.count w o n end
    in-ask = record {
      within = found.1;
      book = ask.book;
      room = ask.room;
      most = ask.most;
    }

    pub hit-fits : {r₁ : (Option ℕ)} {o₁ : List ℕ} {m : ℕ} → Leaves end (write_out σ solution) n o r₁ o₁ → r₁ ≡ Some m → m ≤ end
    hit-fits {m = m} a q = let k = fits_told (write_out σ solution) [] n end o m (sym a.0 ∙ q) in let z = k.0 in let y = k.1 in omega arith

    pub hit-on : {r₁ r₂ : (Option ℕ)} {o₁ o₂ : List ℕ} {m : ℕ} → Leaves end (write_out σ solution) n o r₁ o₁ → r₁ ≡ Some m → Leaves end (write_out σ others) m o₁ r₂ o₂
        → Leaves end (write_out σ (nodes_at s at left)) n o r₂ o₂
    hit-on {m = m} a q l =
        let x = write_out σ solution in
        let y = write_out σ others in
        let k = fits_told x y n end o m (sym a.0 ∙ q) in
        rw hit-out (
          l.0 ∙ ap (λ (j : ℕ). wrote y j end) k.1 ∙ then-wrote x y n end o,
          l.1 ∙ ap₂ (λ (j : ℕ) (b : List ℕ). written_to y j end b) k.1 a.1 ∙ then-written x y n end o k.0,
        )

    pub hit-over : {r₁ : (Option ℕ)} {o₁ : List ℕ} → Leaves end (write_out σ solution) n o r₁ o₁ → r₁ ≡ None → Leaves end (write_out σ (nodes_at s at left)) n o None o₁
    hit-over a q =
        let x = write_out σ solution in
        let y = write_out σ others in
        let k = over-told x y n end o (sym a.0 ∙ q) in
        rw hit-out (sym (over-wrote x y n end o k), a.1 ∙ over-written x y n end o k)

-- a call at which no node is left
empty-leaves : {s : List ℕ} {at left : ℕ} {w o : List ℕ} {n end : ℕ} → WriteAsk s at left w o n end → left ≡ 0
    → (Some n ≡ wrote (write_out (sols w) (nodes_at s at left)) n end) × (o ≡ written_to (write_out (sols w) (nodes_at s at left)) n end o)
unfolding nodes_at words
empty-leaves {s} {at} {left} {w} {o} {n} {end} ask z =
    let e : write_out (sols w) (nodes_at s at left) ≡ [] = ap (λ (k : ℕ). write_out (sols w) (nodes_at s at k)) z ∙ written-free (sols w) [] tt in
    let f : n + 0 ≡ n = omega arith in
    rw (e, f, le-leb n end ask.most) (refl, ap (λ (t : Ty). sets o (2 * n) (words t)) (sym (take_all (end - n) [] (omega arith))))

-- ---- the turns of a call: the l nodes at word p of s are left, and m stand in o'
pub record Turning (s : List ℕ) (at left : ℕ) (w o : List ℕ) (n end : ℕ) (o' : List ℕ) (p l m : ℕ) : Type 0 where
  pub ask : WriteAsk s p l w o' m end
  pub same : length o' ≡ length o
  pub less : visits (sols w) (nodes_at s p l) ≤ visits (sols w) (nodes_at s at left)
  pub whole : (r : Option ℕ) (o₂ : List ℕ) → Leaves end (write_out (sols w) (nodes_at s p l)) m o' r o₂ → Leaves end (write_out (sols w) (nodes_at s at left)) n o r o₂

module _ {s : List ℕ} {at left : ℕ} {w o : List ℕ} {n end : ℕ} where
  module _ {o' : List ℕ} {p l m : ℕ} (i : Turning s at left w o n end o' p l m) where
    pub last_turn : l ≡ 0 → Leaves end (write_out (sols w) (nodes_at s at left)) n o (Some m) o'
    last_turn z = i.whole (Some m) o' (empty-leaves i.ask z)

    module _ (some : 0 < l) where
      left-some : l ≢ 0
      left-some e = omega arith

      pub miss-ends : Unsolved w (get_or s p 0) (get_or s (p + 1) 0) → end ≤ m → Leaves end (write_out (sols w) (nodes_at s at left)) n o None o'
      miss-ends f h = i.whole None o' (miss-full i.ask left-some f h)

      pub miss-turn : Unsolved w (get_or s p 0) (get_or s (p + 1) 0) → m < end
          → Turning s at left w o n end (set (set o' (2 * m) (get_or s p 0)) (2 * m + 1) (get_or s (p + 1) 0)) (p + 2) (l - 1) (m + 1)
      miss-turn f h =
          let e : length (set (set o' (2 * m) (get_or s p 0)) (2 * m + 1) (get_or s (p + 1) 0)) ≡ length o' = simp length-set in
          record {
            ask = on-ask i.ask left-some _ (m + 1) e (omega arith);
            same = e ∙ i.same;
            less = let a = miss-falls i.ask left-some f (visits (sols w) (nodes_at s p l)) refl in let b = i.less in omega arith;
            whole = λ r o₂ x. i.whole r o₂ (miss-on i.ask left-some f h x);
          }

      module _ {q : Place} (f : Solved w (get_or s p 0) (get_or s (p + 1) 0) q) where
        pub in-turn : (t : ℕ) → visits (sols w) (nodes_at s at left) ≡ t → (visits (sols w) (nodes_at w q.start q.count) < t) × WriteAsk w q.start q.count w o' m end
        in-turn t e = (let a = in-falls i.ask left-some f (visits (sols w) (nodes_at s p l)) refl in let b = i.less in omega arith, in-ask i.ask left-some f)

        module _ {r₁ : (Option ℕ)} {o₁ : List ℕ} (a : Leaves end (write_out (sols w) (nodes_at w q.start q.count)) m o' r₁ o₁) where
          pub hit-ends : r₁ ≡ None → Leaves end (write_out (sols w) (nodes_at s at left)) n o None o₁
          hit-ends u = i.whole None o₁ (hit-over i.ask left-some f a u)

          pub hit-turn : (k : ℕ) → length o₁ ≡ length o' → r₁ ≡ Some k → Turning s at left w o n end o₁ (p + 2) (l - 1) k
          hit-turn k e u = record {
            ask = on-ask i.ask left-some o₁ k e (hit-fits i.ask left-some f a u);
            same = e ∙ i.same;
            less = let b = on-falls i.ask left-some f (visits (sols w) (nodes_at s p l)) refl in let b₂ = i.less in omega arith;
            whole = λ r o₂ x. i.whole r o₂ (hit-on i.ask left-some f a u x);
          }
