-- Types compared while solutions are followed, on plain values: a verdict by what stands in front, the first types of a
-- side, and a turn of the comparison. Assumes nothing.
use Rattle.std.proofs.Common.{Option, Some, None, Result, Ok, Err, ◌≡◌, refl, sym, ap, ap₂, ◌∙◌, subst, ◌≢◌, Bool, true, false, cond, not, true≢false, List, [], ◌∷◌, ◌++◌, ℕ, zero, suc, ◌+◌, ◌*◌, ◌-◌, ◌^◌, ◌≤◌, ◌<◌, arith, length, get_or, take, drop, length-append, take_all, length-take-le, eqb, leb, ltb, leb-true, leb-false, le-leb, ltb-true, ltb-false, eqb-true, ne_eqb}
use Rattle.book.specs.declared.Unlike.TheVariants.{Differ, Over}
use Rattle.book.specs.declared.Unlike.{Unlike}
use Rattle.nodes.specs.declared.Place.{Place}
use mathlib.Core.Path.{subst⁻¹}
use lib.Seq.{take-append-le, take-append-add}
use borrow.Author.Tests.{lt-leb, eqb-false, not-true}
use Rattle.sizes.specs.Sizes.{book_size}
use Rattle.nodes.specs.Nodes.{Node, node, Ty, kind as node_kind, node_parts, node_at, nodes_at}
use Rattle.nodes.specs.Parts.{take_parts, drop_parts, Whole}
use Rattle.nodes.specs.Lists.{In}
use Rattle.nodes.proofs.Laws.{length-nodes_at, leb-shift}
use Rattle.nodes.proofs.ListLaws.{cond_ind, all_in}
use Rattle.nodes.proofs.PartLaws as part-laws
use Rattle.nodes.proofs.Wholes.{whole_split, take_whole, whole-few, prefix-free}
use Rattle.judgment.specs.Types.{unknown, eq_node, eq_ty}
use Rattle.judgment.specs.Solutions.{Solution, ◌≔◌, value, write_out}
use Rattle.judgment.proofs.TypeLaws.{eq_ty-true, eq_ty-same, eq_ty-not, eq_ty-front, is_node-true, eq_node-same, both}
use Rattle.judgment.proofs.SolutionLaws.{written-append, written-free, solved}
use Rattle.judgment.proofs.WholeTypes.{unknown-whole, written-whole}
use Rattle.judgment.proofs.Visits.{visits, visits-append, visits-free, visits-solved}
use Rattle.book.specs.declared.Rest.{Rest}
use Rattle.book.specs.Book.{sols, place_of}
use Rattle.book.specs.Compared.{half, nodes_from, parts_from, verdict, passed, compared, next, node_met, alike_at, skipped, onward, first_by, first_met, apart_by, apart_at, Sides, MeetAsk, FirstAsk, NextAsk}
use Rattle.book.proofs.Turns.{Solved, Unsolved, told_at, told_none, unsolved-free, solved-in}

-- ---- a verdict, and what stands in front of both sides
-- the same nodes in front, counted
verdict-on : (x s t : Ty) (n m : ℕ) (after : Rest) → length x + m ≡ n → verdict s t m after ≡ verdict (x ++ s) (x ++ t) n after
verdict-on x s t n m after e =
    ap₂ (λ (p q : Bool). cond p (cond q (Ok after) (Err Over)) (Err Differ)) (sym agree) few
  where
    cut : (z : Ty) → take (suc n) (x ++ z) ≡ x ++ take (suc m) z
    cut z = let f : suc n ≡ length x + suc m = omega arith in ap (λ (k : ℕ). take k (x ++ z)) f ∙ take-append-add x z (suc m)

    agree : eq_ty (take (suc n) (x ++ s)) (take (suc n) (x ++ t)) ≡ eq_ty (take (suc m) s) (take (suc m) t)
    agree = ap₂ eq_ty (cut s) (cut t) ∙ eq_ty-front x (take (suc m) s) (take (suc m) t)

    few : leb (length s) m ≡ leb (length (x ++ s)) n
    few =
        let f : m ≡ n - length x = omega arith in
        let g : length s + length x ≡ length (x ++ s) = omega (arith, length-append x s) in
        ap (leb (length s)) f ∙ leb-shift (length s) (length x) n (omega arith) ∙ ap (λ (k : ℕ). leb k n) g

module _ (x y : Ty) (n : ℕ) (after : Rest) where
  -- what a verdict tells
  abbrev pub Tells : Result Rest Unlike → Type 0
  Tells (Ok d) = (x ≡ y) × (length x ≤ n) × (after ≡ d)
  Tells (Err Differ) = take (suc n) x ≢ take (suc n) y
  Tells (Err Over) = (take (suc n) x ≡ take (suc n) y) × (n < length x) × (n < length y)

  pub tells : (o : Result Rest Unlike) → verdict x y n after ≡ o → Tells o
  tells o e = subst Tells e (go (eq_ty (take (suc n) x) (take (suc n) y)) (leb (length x) n) refl refl)
    where
      short : take (suc n) x ≡ take (suc n) y → length x ≤ n → (b : Bool) → leb (length y) n ≡ b → x ≡ y
      short s l true q = let m = leb-true (length y) n q in sym (take_all (suc n) x (omega arith)) ∙ s ∙ take_all (suc n) y (omega arith)
      short s l false q =
          let m = leb-false (length y) n q in
          absurd (omega (arith, ap {B = ℕ} length (take_all (suc n) x (omega arith)), ap {B = ℕ} length s, length-take-le (suc n) y (omega arith)))

      long : take (suc n) x ≡ take (suc n) y → n < length x → (b : Bool) → leb (length y) n ≡ b → n < length y
      long s l true q =
          let m = leb-true (length y) n q in
          absurd (omega (arith, ap {B = ℕ} length (take_all (suc n) y (omega arith)), ap {B = ℕ} length s, length-take-le (suc n) x (omega arith)))
      long s l false q = leb-false (length y) n q

      go : (p q : Bool) → eq_ty (take (suc n) x) (take (suc n) y) ≡ p → leb (length x) n ≡ q → Tells (cond p (cond q (Ok after) (Err Over)) (Err Differ))
      go true true a b = let s = eq_ty-true (take (suc n) x) (take (suc n) y) a in let l = leb-true (length x) n b in (short s l (leb (length y) n) refl, l, refl)
      go true false a b = let s = eq_ty-true (take (suc n) x) (take (suc n) y) a in let l = leb-false (length x) n b in (s, l, long s l (leb (length y) n) refl)
      go false q a b = λ s. true≢false (sym (eq_ty-same (take (suc n) x)) ∙ ap (eq_ty (take (suc n) x)) s ∙ a)

  is-differ : take (suc n) x ≢ take (suc n) y → (Err Differ) ≡ verdict x y n after
  is-differ h = sym (ap (λ (p : Bool). cond p (cond (leb (length x) n) (Ok after) (Err Over)) (Err Differ)) (eq_ty-not (take (suc n) x) (take (suc n) y) h))

  is-over : take (suc n) x ≡ take (suc n) y → n < length x → (Err Over) ≡ verdict x y n after
  is-over s l = sym
      (ap₂ (λ (p q : Bool). cond p (cond q (Ok after) (Err Over)) (Err Differ)) (ap (eq_ty (take (suc n) x)) (sym s) ∙ eq_ty-same (take (suc n) x)) (lt-leb (length x) n l))

-- two types in front that differ, or that are too long
module _ (x y s t : Ty) (n : ℕ) (after : Rest) where
  differ-front : Whole node_parts x 1 → Whole node_parts y 1 → take (suc n) x ≢ take (suc n) y → (Err Differ) ≡ verdict (x ++ s) (y ++ t) n after
  differ-front h g d = is-differ (x ++ s) (y ++ t) n after (λ e. d (prefix-free node_parts (suc n) x y s t 1 h g e))

  over-front : take (suc n) x ≡ take (suc n) y → n < length x → n < length y → (Err Over) ≡ verdict (x ++ s) (y ++ t) n after
  over-front e l m = is-over (x ++ s) (y ++ t) n after
      (take-append-le (suc n) x s (omega arith) ∙ e ∙ sym (take-append-le (suc n) y t (omega arith)))
      (omega (arith, length-append x s))

-- ---- the nodes from a word on
from_cons : (w : List ℕ) (p : ℕ) → p + 2 ≤ length w → nodes_from w p ≡ node_at w p ∷ nodes_from w (p + 2)
unfolding nodes_from half nodes_at
from_cons w p h = let e : length w - p ≡ suc (suc (length w - (p + 2))) = omega arith in ap (λ (k : ℕ). nodes_at w p (half k)) e

from-none : (w : List ℕ) (p : ℕ) → length w < p + 2 → nodes_from w p ≡ []
unfolding nodes_from half nodes_at
from-none w p h = go (length w - p) refl
  where
    go : (k : ℕ) → length w - p ≡ k → nodes_at w p (half k) ≡ []
    go zero e = refl
    go (suc zero) e = refl
    go (suc (suc k)) e = absurd (omega arith)

from-nodes : (n : ℕ) (w : List ℕ) (p : ℕ) → p + 2 * n ≤ length w → nodes_from w p ≡ nodes_at w p n ++ nodes_from w (p + 2 * n)
unfolding nodes_at
from-nodes zero w p h = let e : p + 2 * 0 ≡ p = omega arith in ap (nodes_from w) (sym e)
from-nodes (suc n) w p h =
    let e : p + 2 + 2 * n ≡ p + 2 * suc n = omega arith in
    from_cons w p (omega arith) ∙ ap (λ (t : Ty). node_at w p ∷ t) (from-nodes n w (p + 2) (omega arith) ∙ ap (λ (k : ℕ). nodes_at w (p + 2) n ++ nodes_from w k) e)

half-few : (n : ℕ) → 2 * half n ≤ n
unfolding half
half-few zero = omega arith
half-few (suc zero) = omega arith
half-few (suc (suc n)) = let z = half-few n in omega arith

from-few : (w : List ℕ) (p : ℕ) → 2 * length (nodes_from w p) ≤ length w - p
unfolding nodes_from
from-few w p = let z = half-few (length w - p) in omega (arith, length-nodes_at w p (half (length w - p)))

-- whole types that stand as nodes are the first types
pub parts_at : (w : List ℕ) (p n m : ℕ) → p + 2 * n ≤ length w → Whole node_parts (nodes_at w p n) m → parts_from w p m ≡ nodes_at w p n
unfolding parts_from
parts_at w p n m h g = ap (λ (t : Ty). take_parts node_parts t m) (from-nodes n w p h) ∙ take_whole node_parts (nodes_at w p n) (nodes_from w (p + 2 * n)) m g

-- the nodes from word p on without the first j
from-drop : (j : ℕ) (w : List ℕ) (p : ℕ) → j ≤ length (nodes_from w p) → nodes_from w (p + 2 * j) ≡ drop j (nodes_from w p)
from-drop zero w p h = let e : p + 2 * 0 ≡ p = omega arith in ap (nodes_from w) e
from-drop (suc j) w p h =
    let z = from-few w p in
    let c = from_cons w p (omega arith) in
    let e : p + 2 * suc j ≡ p + 2 + 2 * j = omega arith in
    ap (nodes_from w) e ∙ from-drop j w (p + 2) (omega (arith, ap {B = ℕ} length c)) ∙ sym (ap (λ (t : Ty). drop (suc j) t) c)

-- ---- the first types of a side
-- t is gone over, and m types are left, from word q on
record Gone (w : List ℕ) (p n : ℕ) (t : Ty) (q m : ℕ) : Type 0 where
  parts : parts_from w p n ≡ t ++ parts_from w q m
  next : q ≡ p + 2 * length t
  whole : Whole node_parts (parts_from w q m) m

module _ (w : List ℕ) (p n : ℕ) (h : Whole node_parts (parts_from w p n) n) (some : n ≢ 0) where
  pub head-room : p + 2 ≤ length w
  unfolding parts_from
  head-room = go n h some (ltb (length w) (p + 2)) refl
    where
      go : (m : ℕ) → Whole node_parts (take_parts node_parts (nodes_from w p) m) m → m ≢ 0 → (b : Bool) → ltb (length w) (p + 2) ≡ b → p + 2 ≤ length w
      go zero g z b e = absurd (z refl)
      go (suc m) g z true e =
          let f : Whole node_parts (take_parts node_parts [] (suc m)) (suc m) = subst (λ (t : Ty). Whole node_parts (take_parts node_parts t (suc m)) (suc m)) (from-none w p (ltb-true (length w) (p + 2) e)) g in
          let y : suc m ≡ 0 = f in
          absurd (omega arith)
      go (suc m) g z false e = ltb-false (length w) (p + 2) e

  -- the first node, and with it as many types more as follow it
  node-gone : Gone w p n (node_at w p ∷ []) (p + 2) (n - 1 + node_parts (node_at w p))
  unfolding parts_from
  node-gone =
      let e = ap (λ (t : Ty). take_parts node_parts t n) (from_cons w p head-room) ∙ part-laws.take-turn node_parts (node_at w p) (nodes_from w (p + 2)) n some in
      record {
        parts = e;
        next = refl;
        whole = go n h some;
      }
    where
      go : (m : ℕ) → Whole node_parts (take_parts node_parts (nodes_from w p) m) m → m ≢ 0
          → Whole node_parts (take_parts node_parts (nodes_from w (p + 2)) (m - 1 + node_parts (node_at w p))) (m - 1 + node_parts (node_at w p))
      go zero g z = absurd (z refl)
      go (suc m) g z =
          let s : node_parts (node_at w p) + m ≡ suc m - 1 + node_parts (node_at w p) = omega arith in
          subst (λ (j : ℕ). Whole node_parts (take_parts node_parts (nodes_from w (p + 2)) j) j) s
          (subst (λ (t : Ty). Whole node_parts (take_parts node_parts t (suc m)) (suc m)) (from_cons w p head-room) g)

  pub head_few : n - 1 + node_parts (node_at w p) ≤ length w
  unfolding parts_from
  head_few =
      let m = n - 1 + node_parts (node_at w p) in
      let a = whole-few node_parts (take_parts node_parts (nodes_from w (p + 2)) m) m node-gone.whole in
      let b = part-laws.length-take node_parts (nodes_from w (p + 2)) m in
      let c = from-few w (p + 2) in
      omega arith

  -- the first type
  one_more : n ≡ 1 + (n - 1)
  one_more = omega arith

  halves : Whole node_parts (take_parts node_parts (parts_from w p (1 + (n - 1))) 1) 1 × Whole node_parts (drop_parts node_parts (parts_from w p (1 + (n - 1))) 1) (n - 1)
  halves = whole_split node_parts (parts_from w p (1 + (n - 1))) 1 (n - 1) (subst (λ (m : ℕ). Whole node_parts (parts_from w p m) m) one_more h)

  pub first-whole : Whole node_parts (parts_from w p 1) 1
  unfolding parts_from
  first-whole = subst (λ (t : Ty). Whole node_parts t 1) (part-laws.take-take node_parts (nodes_from w p) 1 (n - 1)) halves.0

  part-gone : Gone w p n (parts_from w p 1) (p + 2 * length (parts_from w p 1)) (n - 1)
  unfolding parts_from
  part-gone =
      let all = nodes_from w p in
      let t = take_parts node_parts all 1 in
      let after : nodes_from w (p + 2 * length t) ≡ drop_parts node_parts all 1 = from-drop (length t) w p (part-laws.length-take node_parts all 1) ∙ sym (part-laws.is-drop node_parts all 1) in
      let rest : drop_parts node_parts (take_parts node_parts all (1 + (n - 1))) 1 ≡ take_parts node_parts (nodes_from w (p + 2 * length t)) (n - 1) =
      part-laws.drop-take node_parts all 1 (n - 1) ∙ ap (λ (s : Ty). take_parts node_parts s (n - 1)) (sym after) in
      record {
        parts = ap (take_parts node_parts all) one_more ∙ sym (part-laws.take-drop node_parts (take_parts node_parts all (1 + (n - 1))) 1)
            ∙ ap₂ (λ (x y : Ty). x ++ y) (part-laws.take-take node_parts all 1 (n - 1)) rest;
        next = refl;
        whole = subst (λ (s : Ty). Whole node_parts s (n - 1)) rest halves.1;
      }

-- ---- a turn
-- the number that falls
abbrev pub visits_of : List ℕ → List ℕ → List ℕ → Rest → ℕ
visits_of l r k c = visits (sols k) (parts_from l c.left c.parts) + visits (sols k) (parts_from r c.right c.parts)

-- c goes on as e
pub record Turned (l r k : List ℕ) (c e : Rest) : Type 0 where
  pub asks : MeetAsk l r k e
  pub same : compared l r k e ≡ compared l r k c
  pub less : visits_of l r k e < visits_of l r k c

module _ {l r k : List ℕ} {c : Rest} (ask : MeetAsk l r k c) {xs ys : Ty} where
  -- the same nodes are gone over on both sides
  gone_same : {e : Rest} → Gone l c.left c.parts xs e.left e.parts → Gone r c.right c.parts ys e.right e.parts → write_out (sols k) xs ≡ write_out (sols k) ys
      → length (write_out (sols k) xs) + e.budget ≡ c.budget → 0 < visits (sols k) xs + visits (sols k) ys → Turned l r k c e
  unfolding compared
  gone_same {e} F G same counted some =
      let s = parts_from l e.left e.parts in
      let t = parts_from r e.right e.parts in
      let X = write_out (sols k) xs in
      let lo : write_out (sols k) (parts_from l c.left c.parts) ≡ X ++ write_out (sols k) s = ap (write_out (sols k)) F.parts ∙ written-append (sols k) xs s in
      let ro : write_out (sols k) (parts_from r c.right c.parts) ≡ X ++ write_out (sols k) t = ap (write_out (sols k)) G.parts ∙ written-append (sols k) ys t ∙ ap (λ (z : Ty). z ++ write_out (sols k) t) (sym same) in
      let a : e.left + 2 * length s ≡ c.left + 2 * length (parts_from l c.left c.parts) = let z = F.next in omega (arith, ap {B = ℕ} length F.parts, length-append xs s) in
      let b : e.right + 2 * length t ≡ c.right + 2 * length (parts_from r c.right c.parts) = let z = G.next in omega (arith, ap {B = ℕ} length G.parts, length-append ys t) in
      let d : e.budget - length (write_out (sols k) s) ≡ c.budget - length (write_out (sols k) (parts_from l c.left c.parts)) = omega (arith, ap {B = ℕ} length lo, length-append X (write_out (sols k) s)) in
      let after : passed l r k e ≡ passed l r k c =
      ap₂ (λ (i j : ℕ). record { left = i; right = j; parts = 0; budget = e.budget - length (write_out (sols k) s) }) a b
      ∙ ap (λ (i : ℕ). record { left = c.left + 2 * length (parts_from l c.left c.parts); right = c.right + 2 * length (parts_from r c.right c.parts); parts = 0; budget = i }) d in
      record {
        asks = record { sides = record { left = F.whole; right = G.whole }; book = ask.book; solutions = ask.solutions };
        same = verdict-on X (write_out (sols k) s) (write_out (sols k) t) c.budget e.budget (passed l r k e) counted
            ∙ ap (verdict (X ++ write_out (sols k) s) (X ++ write_out (sols k) t) c.budget) after
            ∙ sym (ap₂ (λ (u v : Ty). verdict u v c.budget (passed l r k c)) lo ro);
        less = omega (arith, ap (visits (sols k)) F.parts ∙ visits-append (sols k) xs s, ap (visits (sols k)) G.parts ∙ visits-append (sols k) ys t);
      }

  -- types that differ, or that are too long, are gone over
  module _ {q i m j : ℕ} (F : Gone l c.left c.parts xs q i) (G : Gone r c.right c.parts ys m j) where
    front : (o : Result Rest Unlike) → o ≡ verdict (write_out (sols k) xs ++ write_out (sols k) (parts_from l q i)) (write_out (sols k) ys ++ write_out (sols k) (parts_from r m j)) c.budget (passed l r k c) → o ≡ compared l r k c
    unfolding compared
    front o e = e
        ∙ sym (ap₂ (λ (u v : Ty). verdict u v c.budget (passed l r k c)) (ap (write_out (sols k)) F.parts ∙ written-append (sols k) xs (parts_from l q i)) (ap (write_out (sols k)) G.parts ∙ written-append (sols k) ys (parts_from r m j)))

-- what comes of a turn
abbrev pub Comes : List ℕ → List ℕ → List ℕ → Rest → Result Rest Unlike → Type 0
Comes l r k c (Ok e) = Turned l r k c e
Comes l r k c (Err Differ) = (Err Differ) ≡ compared l r k c
Comes l r k c (Err Over) = (Err Over) ≡ compared l r k c

-- where a whole type of either side is compared
module _ {l r k : List ℕ} {c : Rest} (ask : MeetAsk l r k c) {xs ys : Ty} {q m j : ℕ} (F : Gone l c.left c.parts xs q j) (G : Gone r c.right c.parts ys m j) (hx : Whole node_parts xs 1) (hy : Whole node_parts ys 1) (some : 0 < visits (sols k) xs + visits (sols k) ys) where
  abbrev X : Ty
  X = write_out (sols k) xs

  abbrev Y : Ty
  Y = write_out (sols k) ys

  part-comes : (f : Rest → Rest) (after : Rest) → (length X ≤ c.budget → f after ≡ record { left = q; right = m; parts = j; budget = c.budget - length X }) → (o : Result Rest Unlike) → Tells X Y c.budget after o
      → Comes l r k c (onward f o)
  part-comes f after at (Ok d) h =
      let e : f d ≡ record { left = q; right = m; parts = j; budget = c.budget - length X } = ap f (sym h.2) ∙ at h.1 in
      let z = h.1 in
      subst⁻¹ (Turned l r k c) e (gone_same ask F G h.0 (omega arith) some)
  part-comes f after at (Err Differ) h =
      front ask F G (Err Differ) (differ-front X Y (write_out (sols k) (parts_from l q j)) (write_out (sols k) (parts_from r m j)) c.budget (passed l r k c) (written-whole (sols k) xs ask.solutions hx) (written-whole (sols k) ys ask.solutions hy) h)
  part-comes f after at (Err Over) h =
      front ask F G (Err Over) (over-front X Y (write_out (sols k) (parts_from l q j)) (write_out (sols k) (parts_from r m j)) c.budget (passed l r k c) h.0 h.1 h.2)

-- a solved unknown in front of a side: it is gone over, and its solution is one type of the book
module _ {l r k : List ℕ} {c : Rest} (ask : MeetAsk l r k c) {d v : ℕ} {p : Place} (f : Solved k d v p) where
  solution : Ty
  solution = nodes_at k p.start p.count

  found : In (◌≔◌ v solution) (sols k) × (p.start + 2 * p.count ≤ length k)
  unfolding solution
  found = solved-in ask.book.1 f

  solution-whole : Whole node_parts solution 1
  solution-whole = all_in (λ (x : Solution). Whole node_parts (value x) 1) (sols k) (◌≔◌ v solution) found.0 ask.solutions

  solution-is : parts_from k p.start 1 ≡ solution
  unfolding solution
  solution-is = parts_at k p.start p.count 1 found.1 solution-whole

  in_whole : Whole node_parts (parts_from k p.start 1) 1
  in_whole = subst⁻¹ (λ (t : Ty). Whole node_parts t 1) solution-is solution-whole

  in-out : write_out (sols k) (unknown v) ≡ write_out (sols k) (parts_from k p.start 1)
  in-out = solved (sols k) ask.book.1.fine (◌≔◌ v solution) found.0 ∙ ap (write_out (sols k)) (sym solution-is)

  in-visits : visits (sols k) (unknown v) ≡ 1 + visits (sols k) (parts_from k p.start 1)
  in-visits = visits-solved (sols k) v solution ask.book.1.fine found.0 ∙ ap (λ (t : Ty). 1 + visits (sols k) t) (sym solution-is)

solved-gone : (w : List ℕ) (p n : ℕ) → Whole node_parts (parts_from w p n) n → n ≢ 0 → get_or w p 0 ≡ 17 → Gone w p n (unknown (get_or w (p + 1) 0)) (p + 2) (n - 1)
solved-gone w p n h some e =
    let v = get_or w (p + 1) 0 in
    let z : n - 1 + 0 ≡ n - 1 = omega arith in
    subst (Gone w p n (unknown v) (p + 2)) z (subst (λ (d : ℕ). Gone w p n (node d v ∷ []) (p + 2) (n - 1 + node_parts (node d v))) e (node-gone w p n h some))

module _ {l r k : List ℕ} {c : Rest} (ask : MeetAsk l r k c) (some : c.parts ≢ 0) where
  abbrev ours : Ty
  ours = parts_from l c.left 1

  abbrev theirs : Ty
  theirs = parts_from r c.right 1

  ours-gone : Gone l c.left c.parts ours (c.left + 2 * length ours) (c.parts - 1)
  ours-gone = part-gone l c.left c.parts ask.sides.left some

  theirs-gone : Gone r c.right c.parts theirs (c.right + 2 * length theirs) (c.parts - 1)
  theirs-gone = part-gone r c.right c.parts ask.sides.right some

  pub node-asks : FirstAsk l r c
  node-asks = record {
    some = some;
    left = head-room l c.left c.parts ask.sides.left some;
    right = head-room r c.right c.parts ask.sides.right some;
    few = head_few l c.left c.parts ask.sides.left some;
  }

  -- a solved unknown on the left
  module _ {p : Place} (f : Solved k (get_or l c.left 0) (get_or l (c.left + 1) 0) p) where
    abbrev left_rest : Rest
    left_rest = record { left = p.start; right = c.right; parts = 1; budget = c.budget }

    ours-solved : Gone l c.left c.parts (unknown (get_or l (c.left + 1) 0)) (c.left + 2) (c.parts - 1)
    ours-solved = solved-gone l c.left c.parts ask.sides.left some f.unknown

    pub left-asks : MeetAsk k r k left_rest
    left-asks = record { sides = record { left = in_whole ask f; right = first-whole r c.right c.parts ask.sides.right some }; book = ask.book; solutions = ask.solutions }

    pub left-falls : visits_of k r k left_rest < visits_of l r k c
    left-falls = omega (arith, in-visits ask f, ap (visits (sols k)) ours-solved.parts ∙ visits-append (sols k) (unknown (get_or l (c.left + 1) 0)) (parts_from l (c.left + 2) (c.parts - 1)), ap (visits (sols k)) theirs-gone.parts ∙ visits-append (sols k) theirs (parts_from r (c.right + 2 * length theirs) (c.parts - 1)))

    left-comes : Comes l r k c (onward (λ d. record { left = c.left + 2; right = d.right; parts = c.parts - 1; budget = d.budget }) (compared k r k left_rest))
    unfolding compared
    left-comes =
        let x = unknown (get_or l (c.left + 1) 0) in
        part-comes ask ours-solved theirs-gone (unknown-whole (get_or l (c.left + 1) 0)) left-asks.sides.right (omega (arith, in-visits ask f))
        (λ d. record { left = c.left + 2; right = d.right; parts = c.parts - 1; budget = d.budget }) (passed k r k left_rest)
        (λ few. ap (λ (t : Ty). record { left = c.left + 2; right = c.right + 2 * length theirs; parts = c.parts - 1; budget = c.budget - length t }) (sym (in-out ask f)))
        (compared k r k left_rest)
        (tells (write_out (sols k) x) (write_out (sols k) theirs) c.budget (passed k r k left_rest) (compared k r k left_rest)
        (ap (λ (t : Ty). verdict t (write_out (sols k) theirs) c.budget (passed k r k left_rest)) (in-out ask f)))

  -- a solved unknown on the right
  module _ {p : Place} (f : Solved k (get_or r c.right 0) (get_or r (c.right + 1) 0) p) where
    abbrev right_rest : Rest
    right_rest = record { left = c.left; right = p.start; parts = 1; budget = c.budget }

    theirs-solved : Gone r c.right c.parts (unknown (get_or r (c.right + 1) 0)) (c.right + 2) (c.parts - 1)
    theirs-solved = solved-gone r c.right c.parts ask.sides.right some f.unknown

    pub right-asks : MeetAsk l k k right_rest
    right-asks = record { sides = record { left = first-whole l c.left c.parts ask.sides.left some; right = in_whole ask f }; book = ask.book; solutions = ask.solutions }

    pub right-falls : visits_of l k k right_rest < visits_of l r k c
    right-falls = omega (arith, in-visits ask f, ap (visits (sols k)) theirs-solved.parts ∙ visits-append (sols k) (unknown (get_or r (c.right + 1) 0)) (parts_from r (c.right + 2) (c.parts - 1)), ap (visits (sols k)) ours-gone.parts ∙ visits-append (sols k) ours (parts_from l (c.left + 2 * length ours) (c.parts - 1)))

    right-comes : Comes l r k c (onward (λ d. record { left = d.left; right = c.right + 2; parts = c.parts - 1; budget = d.budget }) (compared l k k right_rest))
    unfolding compared
    right-comes =
        let y = unknown (get_or r (c.right + 1) 0) in
        part-comes ask ours-gone theirs-solved right-asks.sides.left (unknown-whole (get_or r (c.right + 1) 0)) (omega (arith, in-visits ask f))
        (λ d. record { left = d.left; right = c.right + 2; parts = c.parts - 1; budget = d.budget }) (passed l k k right_rest)
        (λ few. refl)
        (compared l k k right_rest)
        (tells (write_out (sols k) ours) (write_out (sols k) y) c.budget (passed l k k right_rest) (compared l k k right_rest)
        (ap (λ (t : Ty). verdict (write_out (sols k) ours) t c.budget (passed l k k right_rest)) (in-out ask f)))

  -- no solved unknown on either side
  module _ (f : Unsolved k (get_or l c.left 0) (get_or l (c.left + 1) 0)) (g : Unsolved k (get_or r c.right 0) (get_or r (c.right + 1) 0)) where
    abbrev x : Node
    x = node_at l c.left

    abbrev y : Node
    y = node_at r c.right

    ours-node : Gone l c.left c.parts (x ∷ []) (c.left + 2) (c.parts - 1 + node_parts x)
    ours-node = node-gone l c.left c.parts ask.sides.left some

    theirs-node : Gone r c.right c.parts (y ∷ []) (c.right + 2) (c.parts - 1 + node_parts y)
    theirs-node = node-gone r c.right c.parts ask.sides.right some

    x-out : write_out (sols k) (x ∷ []) ≡ x ∷ []
    x-out = written-free (sols k) (x ∷ []) (unsolved-free ask.book.1 f, tt)

    y-out : write_out (sols k) (y ∷ []) ≡ y ∷ []
    y-out = written-free (sols k) (y ∷ []) (unsolved-free ask.book.1 g, tt)

    node-comes : Comes l r k c (node_met l r c)
    node-comes = go (eq_node x y) refl
      where
        s : Ty
        s = write_out (sols k) (parts_from l (c.left + 2) (c.parts - 1 + node_parts x))

        t : Ty
        t = write_out (sols k) (parts_from r (c.right + 2) (c.parts - 1 + node_parts y))

        heads : take (suc c.budget) (x ∷ s) ≡ take (suc c.budget) (y ∷ t) → x ≡ y
        heads q = cc

        one : 0 < visits (sols k) (x ∷ []) + visits (sols k) (y ∷ [])
        one = omega (arith, visits-free (sols k) x (unsolved-free ask.book.1 f))

        same : x ≡ y → (b : Bool) → eqb c.budget 0 ≡ b
            → Comes l r k c (cond b (Err Over) (Ok (next l c)))
        same e true z =
            let n = eqb-true c.budget 0 z in
            front ask ours-node theirs-node (Err Over)
            (rw (x-out, y-out) (is-over (x ∷ s) (y ∷ t) c.budget (passed l r k c) (ap (λ (i : ℕ). x ∷ take i s) n ∙ ap (λ (a : Node). a ∷ []) e ∙ sym (ap (λ (i : ℕ). y ∷ take i t) n)) (omega arith)))
        same e false z =
            let q : write_out (sols k) (x ∷ []) ≡ write_out (sols k) (y ∷ []) = ap (λ (n : Node). write_out (sols k) (n ∷ [])) e in
            gone_same ask ours-node (subst⁻¹ (λ (n : Node). Gone r c.right c.parts (y ∷ []) (c.right + 2) (c.parts - 1 + node_parts n)) e theirs-node) q
            (let n = eqb-false c.budget 0 z in omega (arith, ap {B = ℕ} length x-out)) one

        go : (b : Bool) → eq_node x y ≡ b
            → Comes l r k c (cond b (cond (eqb c.budget 0) (Err Over) (Ok (next l c))) (Err Differ))
        go true e = same (sym (is_node-true (get_or l c.left 0) (get_or l (c.left + 1) 0) y e)) (eqb c.budget 0) refl
        go false e =
            front ask ours-node theirs-node (Err Differ)
            (rw (x-out, y-out) (is-differ (x ∷ s) (y ∷ t) c.budget (passed l r k c) (λ q. true≢false (sym (eq_node-same x) ∙ ap (eq_node x) (heads q) ∙ e))))

  pub first-comes : Comes l r k c (first_met l r k c)
  unfolding first_met
  first-comes = go (place_of k (get_or l c.left 0) (get_or l (c.left + 1) 0)) (place_of k (get_or r c.right 0) (get_or r (c.right + 1) 0)) refl refl
    where
      go : (a b : Option Place) → a ≡ place_of k (get_or l c.left 0) (get_or l (c.left + 1) 0) → b ≡ place_of k (get_or r c.right 0) (get_or r (c.right + 1) 0) → Comes l r k c (first_by l r k c a b)
      go (Some p) b e f = left-comes (told_at k (get_or l c.left 0) (get_or l (c.left + 1) 0) e refl)
      go None (Some q) e f = right-comes (told_at k (get_or r c.right 0) (get_or r (c.right + 1) 0) f refl)
      go None None e f = node-comes (told_none k (get_or l c.left 0) (get_or l (c.left + 1) 0) e refl) (told_none k (get_or r c.right 0) (get_or r (c.right + 1) 0) f refl)

-- ---- a turn as the code comes to it
module _ (l r k : List ℕ) (c : Rest) where
  abbrev our_place : Option Place
  our_place = place_of k (get_or l c.left 0) (get_or l (c.left + 1) 0)

  abbrev their_place : Option Place
  their_place = place_of k (get_or r c.right 0) (get_or r (c.right + 1) 0)

  -- i is what is compared with the solution at p, o what that has met, and m where it goes on
  module _ {p : Place} {i : Rest} {o m : (Result Rest Unlike)} where
    pub by_left : Some p ≡ our_place → i ≡ record { left = p.start; right = c.right; parts = 1; budget = c.budget } → o ≡ compared k r k i
        → m ≡ onward (λ d. record { left = c.left + 2; right = d.right; parts = c.parts - 1; budget = d.budget }) o → m ≡ first_met l r k c
    unfolding first_met
    by_left a e q u =
        u ∙ ap (onward (λ d. record { left = c.left + 2; right = d.right; parts = c.parts - 1; budget = d.budget })) (q ∙ ap (compared k r k) e) ∙ ap (λ (f : Option Place). first_by l r k c f their_place) a

    pub by_right : None ≡ our_place → Some p ≡ their_place → i ≡ record { left = c.left; right = p.start; parts = 1; budget = c.budget } → o ≡ compared l k k i
        → m ≡ onward (λ d. record { left = d.left; right = c.right + 2; parts = c.parts - 1; budget = d.budget }) o → m ≡ first_met l r k c
    unfolding first_met
    by_right a b e q u =
        u ∙ ap (onward (λ d. record { left = d.left; right = c.right + 2; parts = c.parts - 1; budget = d.budget })) (q ∙ ap (compared l k k) e) ∙ ap₂ (first_by l r k c) a b

  pub by-node : {o : (Result Rest Unlike)} → None ≡ our_place → None ≡ their_place → o ≡ node_met l r c → o ≡ first_met l r k c
  unfolding first_met
  by-node a b q = q ∙ ap₂ (first_by l r k c) a b

  -- what the calls for a solution ask; t is the measure
  module _ (ask : MeetAsk l r k c) (first : FirstAsk l r c) {p : Place} {i : Rest} (t : ℕ) (m : 2 * visits_of l r k c ≡ t) where
    pub in_left : Some p ≡ our_place → i ≡ record { left = p.start; right = c.right; parts = 1; budget = c.budget } → (2 * visits_of k r k i + 1 < t) × MeetAsk k r k i
    in_left a e =
        let f = told_at k (get_or l c.left 0) (get_or l (c.left + 1) 0) a refl in
        rw e (let z = left-falls ask first.some f in omega arith, left-asks ask first.some f)

    pub in_right : Some p ≡ their_place → i ≡ record { left = c.left; right = p.start; parts = 1; budget = c.budget } → (2 * visits_of l k k i + 1 < t) × MeetAsk l k k i
    in_right b e =
        let f = told_at k (get_or r c.right 0) (get_or r (c.right + 1) 0) b refl in
        rw e (let z = right-falls ask first.some f in omega arith, right-asks ask first.some f)

-- no type is left
pub none-compared : (l r k : List ℕ) (c : Rest) → c.parts ≡ 0 → Ok c ≡ compared l r k c
unfolding compared parts_from
none-compared l r k c z =
    let none : (w : List ℕ) (p : ℕ) → take_parts node_parts (nodes_from w p) c.parts ≡ [] = λ w p. ap (take_parts node_parts (nodes_from w p)) z ∙ part-laws.take_none node_parts (nodes_from w p) in
    let after : Ty → Ty → Rest = λ s t. record { left = c.left + 2 * length s; right = c.right + 2 * length t; parts = 0; budget = c.budget - length (write_out (sols k) s) } in
    let out = written-free (sols k) [] tt in
    let a : c.left + 2 * 0 ≡ c.left = omega arith in
    let b : c.right + 2 * 0 ≡ c.right = omega arith in
    let d : c.budget - length (write_out (sols k) []) ≡ c.budget = omega (arith, ap {B = ℕ} length out) in
    let e : after [] [] ≡ c = rw (a, b, d, sym z) refl in
    sym
    (ap₂ (λ (s t : Ty). verdict (write_out (sols k) s) (write_out (sols k) t) c.budget (after s t)) (none l c.left) (none r c.right)
    ∙ ap₂ (λ (u : Ty) (q : Rest). verdict u u c.budget q) out e ∙ ap (λ (q : Bool). cond q (Ok c) (Err Over)) (le-leb 0 c.budget (omega arith)))

-- ---- nodes that are the same and no unknowns
-- what the test tells
alike-tells : (l r : List ℕ) (c : Rest) → alike_at l r c ≡ true → (c.parts ≢ 0) × (c.budget ≢ 0) × (get_or l c.left 0 ≢ 17) × (node_at l c.left ≡ node_at r c.right)
alike-tells l r c e =
    let p = both (not (eqb c.parts 0)) _ e in
    let q = both (not (eqb c.budget 0)) _ p.1 in
    let s = both (not (eqb (get_or l c.left 0) 17)) _ q.1 in (
      eqb-false c.parts 0 (not-true (eqb c.parts 0) p.0),
      eqb-false c.budget 0 (not-true (eqb c.budget 0) q.0),
      eqb-false (get_or l c.left 0) 17 (not-true (eqb (get_or l c.left 0) 17) s.0),
      sym (is_node-true (get_or l c.left 0) (get_or l (c.left + 1) 0) (node_at r c.right) s.1),
    )

module _ {l r : List ℕ} {c : Rest} (sides : Sides l r c) where
  pub alike-rooms : c.parts ≢ 0 → (c.left + 2 ≤ length l) × (c.right + 2 ≤ length r)
  alike-rooms some = (head-room l c.left c.parts sides.left some, head-room r c.right c.parts sides.right some)

  module _ (e : alike_at l r c ≡ true) where
    pub next-asks : length r < 2 ^ 64 → NextAsk l c
    next-asks h =
        let t = alike-tells l r c e in
        let room = (alike-rooms t.0).1 in
        record { some = t.0; left = (alike-rooms t.0).0; right = omega arith; few = head_few l c.left c.parts sides.left t.0; budget = t.1 }

    pub next-sides : Sides l r (next l c)
    next-sides =
        let t = alike-tells l r c e in
        let m : c.parts - 1 + node_parts (node_at r c.right) ≡ c.parts - 1 + node_parts (node_at l c.left) = ap (λ (x : Node). c.parts - 1 + node_parts x) (sym t.3) in
        record {
          left = (node-gone l c.left c.parts sides.left t.0).whole;
          right = subst (λ (n : ℕ). Whole node_parts (parts_from r (c.right + 2) n) n) m (node-gone r c.right c.parts sides.right t.0).whole;
        }

-- the turns of the loop that goes past them
pub record Skipping (l r : List ℕ) (c d : Rest) : Type 0 where
  pub sides : Sides l r d
  pub same : skipped d.budget l r d ≡ skipped c.budget l r c

pub first-skip : {l r : List ℕ} {c : Rest} → Sides l r c → Skipping l r c c
first-skip s = record { sides = s; same = refl }

skip-more : (n : ℕ) (l r : List ℕ) (c : Rest) → c.budget ≡ n → alike_at l r c ≡ true → skipped (next l c).budget l r (next l c) ≡ skipped n l r c
unfolding skipped
skip-more zero l r c z e = absurd ((alike-tells l r c e).1 z)
skip-more (suc n) l r c z e = let m : c.budget - 1 ≡ n = omega arith in rw (e, m) refl

skip-none : (n : ℕ) (l r : List ℕ) (c : Rest) → alike_at l r c ≡ false → c ≡ skipped n l r c
unfolding skipped
skip-none zero l r c e = refl
skip-none (suc n) l r c e = rw e refl

module _ {l r : List ℕ} {c d : Rest} (i : Skipping l r c d) where
  pub last-skip : alike_at l r d ≡ false → d ≡ skipped c.budget l r c
  last-skip e = skip-none d.budget l r d e ∙ i.same

  module _ (a : alike_at l r d ≡ true) {e : Rest} (q : e ≡ next l d) where
    pub skip-less : e.budget < d.budget
    skip-less = let z = (alike-tells l r d a).1 in let y : e.budget ≡ d.budget - 1 = ap (λ (x : Rest). x.budget) q in omega arith

    pub next-skip : Skipping l r c e
    next-skip = rw q (record { sides = next-sides i.sides a; same = skip-more d.budget l r d refl a ∙ i.same })

-- ---- the turns of a call
pub record Going (l r k : List ℕ) (c d : Rest) : Type 0 where
  pub asks : MeetAsk l r k d
  pub same : compared l r k d ≡ compared l r k c
  pub less : visits_of l r k d ≤ visits_of l r k c

pub then-going : {l r k : List ℕ} {b c d : Rest} → Going l r k b c → Going l r k c d → Going l r k b d
then-going g h = record { asks = h.asks; same = h.same ∙ g.same; less = let x = g.less in let y = h.less in omega arith }

turned-going : {l r k : List ℕ} {c e : Rest} → Turned l r k c e → Going l r k c e
turned-going t = record { asks = t.asks; same = t.same; less = let x = t.less in omega arith }

-- past nodes that are the same and no unknowns, the whole is what is left
skip-goes : (n : ℕ) {l r k : List ℕ} {b c : Rest} → Going l r k b c → Going l r k b (skipped n l r c)
unfolding skipped
skip-goes zero g = g
skip-goes (suc n) {l} {r} {k} {b} {c} g = cond_ind (Going l r k b) (alike_at l r c) (λ e. skip-goes n (further e)) (λ e. g)
  where
    turned : alike_at l r c ≡ true → Turned l r k c (next l c)
    turned e =
        let t = alike-tells l r c e in
        let kind : get_or l c.left 0 ≡ get_or r c.right 0 = ap node_kind t.3 in
        let h = node-comes g.asks t.0 (λ q _. absurd (t.2 q)) (λ q _. absurd (t.2 (kind ∙ q))) in
        let met : node_met l r c ≡ Ok (next l c) = rw (ap (eq_node (node_at l c.left)) (sym t.3) ∙ eq_node-same (node_at l c.left), ne_eqb c.budget 0 t.1) refl in
        subst (Comes l r k c) met h

    further : alike_at l r c ≡ true → Going l r k b (next l c)
    further e = then-going g (turned-going (turned e))

pub here-going : {l r k : List ℕ} {c : Rest} → MeetAsk l r k c → Going l r k c c
here-going a = record { asks = a; same = refl; less = omega arith }

pub first-going : {l r k : List ℕ} {c d : Rest} → MeetAsk l r k c → d ≡ skipped c.budget l r c → Going l r k c d
first-going {c = c} a e = rw e (skip-goes c.budget (here-going a))

module _ {l r k : List ℕ} {c d : Rest} (g : Going l r k c d) where
  pub last-going : d.parts ≡ 0 → Ok d ≡ compared l r k c
  last-going z = none-compared l r k d z ∙ g.same

  module _ (some : 0 < d.parts) where
    types : d.parts ≢ 0
    types z = omega arith

    pub turn-asks : (t : ℕ) → 2 * visits_of l r k c + 1 ≡ t → (2 * visits_of l r k d < t) × (MeetAsk l r k d × FirstAsk l r d)
    turn-asks t e = (let z = g.less in omega arith, (g.asks, node-asks g.asks types))

    module _ {o : (Result Rest Unlike)} (q : o ≡ first_met l r k d) where
      comes : {m : (Result Rest Unlike)} → o ≡ m → Comes l r k d m
      comes e = subst (Comes l r k d) (sym q ∙ e) (first-comes g.asks types)

      module _ {e : Rest} (u : o ≡ Ok e) where
        pub turn-sides : Sides l r e
        turn-sides = (comes u).asks.sides

        pub turn-less : {f : Rest} → f ≡ skipped e.budget l r e → visits_of l r k f < visits_of l r k d
        turn-less w = let t = comes u in let z = (first-going t.asks w).less in let y = t.less in omega arith

        pub turn-going : {f : Rest} → f ≡ skipped e.budget l r e → Going l r k c f
        turn-going w = let t = comes u in then-going g (then-going (turned-going t) (first-going t.asks w))

      pub turn-ends : (x : Unlike) → o ≡ Err x → Err x ≡ compared l r k c
      turn-ends Differ u = comes u ∙ g.same
      turn-ends Over u = comes u ∙ g.same

-- ---- types that their first nodes tell apart
pub apart-rooms : {l r k : List ℕ} {c : Rest} → MeetAsk l r k c → (c.parts ≢ 0 → (c.left + 2 ≤ length l) × (c.right + 2 ≤ length r)) × (book_size ≤ length k)
apart-rooms a = (alike-rooms a.sides, a.book.1.room)

pub apart-differs : {l r k : List ℕ} {c d : Rest} → Going l r k c d → apart_at l r k d ≡ true → (Err Differ) ≡ compared l r k c
apart-differs {l} {r} {k} {c} {d} g e = by (our_place l r k d) (their_place l r k d) refl refl t.1 ∙ g.same
  where
    t : (not (eqb d.parts 0) ≡ true) × (apart_by (our_place l r k d) (their_place l r k d) (eq_node (node_at l d.left) (node_at r d.right)) ≡ true)
    t = both (not (eqb d.parts 0)) _ e

    by : (a b : Option Place) → a ≡ our_place l r k d → b ≡ their_place l r k d → apart_by a b (eq_node (node_at l d.left) (node_at r d.right)) ≡ true → (Err Differ) ≡ compared l r k d
    by (Some p) b u v h = absurd (true≢false (sym h))
    by None (Some q) u v h = absurd (true≢false (sym h))
    by None None u v h =
        let met : node_met l r d ≡ Err Differ = rw (not-true (eq_node (node_at l d.left) (node_at r d.right)) h) refl in
        let f = told_none k (get_or l d.left 0) (get_or l (d.left + 1) 0) u refl in
        let h₂ = told_none k (get_or r d.right 0) (get_or r (d.right + 1) 0) v refl in
        subst (Comes l r k d) met (node-comes g.asks (eqb-false d.parts 0 (not-true (eqb d.parts 0) t.0)) f h₂)

pub compare-is : {l r k : List ℕ} {c d : Rest} {o : (Result Rest Unlike)} → Going l r k c d → o ≡ compared l r k d → o ≡ compared l r k c
compare-is g e = e ∙ g.same
