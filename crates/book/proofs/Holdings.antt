-- What the words of a book hold, and how one more solution changes that. Assumes nothing.
use Rattle.std.proofs.Common.{None, Some, ◌≡◌, refl, sym, ap, ◌∙◌, subst, ◌≢◌, ◌⊎◌, inl, inr, Bool, true, false, List, [], ◌∷◌, ◌++◌, ℕ, zero, suc, ◌+◌, ◌*◌, ◌≤◌, ◌<◌, not-suc-le-zero, add-one, arith, length, get_or, set, length-set, get_or-set_same, get_or-set_other, ltb, eq-eqb, ne_eqb, ltb-true, ltb-false}
use native.Mathlib.Decide.{ℕ_discrete}
use lib.Seq.{sets, length-sets}
use Rattle.sizes.specs.Sizes.{most_nodes, most_numbers, book_base, book_size, book_stride}
use Rattle.nodes.specs.Nodes.{node, Ty, words, nodes_at}
use Rattle.nodes.specs.Lists.{All, In}
use Rattle.nodes.proofs.Laws.{getD-sets-below, getD-sets-above, nodes_at-same, nodes_at-agree, length-nodes_at, length-words}
use Rattle.judgment.specs.Solutions.{◌≔◌, Solutions, solution_nodes, solved_unknowns}
use Rattle.judgment.specs.Good.{Free}
use Rattle.judgment.proofs.SolutionLaws.{in-avoids, fine-snoc}
use Rattle.book.specs.declared.Book.{Book}
use Rattle.book.specs.Book.{start_of, count_of, who, sols_from, sols, Holds, level_word_of, Booked, given, grown}

-- two cases
pub by-eq : (a b : ℕ) {P : Type 0} → (a ≡ b → P) → (a ≢ b → P) → P
by-eq a b f g = elim (ℕ_discrete a b) [ yes i ↦ f i | no n ↦ g n ]

pub apart : (a b : ℕ) {P : Type 0} → (a < b → P) → (b < a → P) → a ≢ b → P
apart a b {P} f g n = go (ltb a b) refl
  where
    go : (c : Bool) → ltb a b ≡ c → P
    go true q = f (ltb-true a b q)
    go false q = let l = ltb-false a b q in g (omega arith)

-- ---- reading off the solutions

pub holds-le : (w : List ℕ) (e p : ℕ) (s : Solutions) → Holds w e p s → p + 2 * length s ≤ e
unfolding Holds
holds-le w e p [] h = let q = h.0 in omega arith
holds-le w e p (◌≔◌ k t ∷ r) h =
    let ih = holds-le w e (p + 2 * length t) r h.1 in
    let q = h.0.some in
    omega arith

pub nodes-count : (w : List ℕ) (e p : ℕ) (s : Solutions) → Holds w e p s → p + 2 * solution_nodes s ≡ e
unfolding Holds solution_nodes
nodes-count w e p [] h = let q = h.0 in omega arith
nodes-count w e p (◌≔◌ j t ∷ r) h = let ih = nodes-count w e (p + 2 * length t) r h.1 in omega arith

who-none : (w : List ℕ) (p n : ℕ) → ((j : ℕ) → j < n → start_of w j ≢ p) → who w p n ≡ None
unfolding who
who-none w p zero h = refl
who-none w p (suc n) h = rw (ne_eqb (start_of w n) p (h n (omega arith)), who-none w p n (λ j l. h j (omega arith)))

who-found : (w : List ℕ) (p n k : ℕ) → k < n → start_of w k ≡ p → ((j : ℕ) → j < n → j ≢ k → start_of w j ≢ p) → who w p n ≡ Some k
unfolding who
who-found w p zero k l q h = absurd (not-suc-le-zero l)
who-found w p (suc n) k l q h = by-eq n k
    (λ i. rw (eq-eqb (start_of w n) p (ap (λ (x : ℕ). start_of w x) i ∙ q)) (ap Some i))
    (λ f.
    rw (ne_eqb (start_of w n) p (h n (omega arith) f))
    (who-found w p n k (omega arith) q (λ j l2. h j (omega arith))))

-- the words hold no other solutions than these
pub sols-from : (w : List ℕ) (e p : ℕ) (s : Solutions) (n : ℕ) → Holds w e p s → length s ≤ n → sols_from w p n ≡ s
unfolding Holds sols_from
sols-from w e p [] zero h l = refl
sols-from w e p [] (suc n) h l = rw (who-none w p most_numbers (λ j i q. let z = h.1 j i in omega arith))
sols-from w e p (◌≔◌ k t ∷ r) zero h l = absurd (not-suc-le-zero l)
sols-from w e p (◌≔◌ k t ∷ r) (suc n) h l =
    let h0 = h.0 in
    let f : who w p most_numbers ≡ Some k =
    who-found w p most_numbers k h0.small h0.starts (λ j i g q. let z = h0.others j i g (omega arith) in let y = h0.some in omega arith) in
    let ih : sols_from w (p + 2 * length t) n ≡ r = sols-from w e (p + 2 * length t) r n h.1 (omega arith) in
    rw (f, h0.counts, h0.nodes, ih)

pub sols-are : (w : List ℕ) (e : ℕ) (s : Solutions) → Holds w e book_base s → e ≤ book_size → sols w ≡ s
unfolding sols
sols-are w e s h l = let m = holds-le w e book_base s h in sols-from w e book_base s most_nodes h (omega arith)

-- an unknown whose solution starts at p or after is solved, and its words are in place
pub found_in : (w : List ℕ) (e p : ℕ) (s : Solutions) (k : ℕ) → Holds w e p s → k < most_numbers → p ≤ start_of w k
    → In (◌≔◌ k (nodes_at w (start_of w k) (count_of w k))) s × (0 < count_of w k) × (start_of w k + 2 * count_of w k ≤ e)
unfolding Holds
found_in w e p [] k h l q = absurd (let z = h.1 k l in omega arith)
found_in w e p (◌≔◌ j t ∷ r) k h l q = by-eq k j
    (λ i.
    let h0 = h.0 in
    let le = holds-le w e (p + 2 * length t) r h.1 in
    let a : start_of w k ≡ p = ap (λ (x : ℕ). start_of w x) i ∙ h0.starts in
    let d : count_of w k ≡ length t = ap (λ (x : ℕ). count_of w x) i ∙ h0.counts in
    let z = h0.some in
    (inl (rw (a, d, h0.nodes, i)), omega arith, omega arith))
    (λ f. let m = found_in w e (p + 2 * length t) r k h.1 l (h.0.others k l f q) in (inr m.0, m.1, m.2))

-- an unknown that starts before p, or has no pair, is none of the solved ones
free-after : (w : List ℕ) (e p : ℕ) (s : Solutions) (k : ℕ) → Holds w e p s → (k < most_numbers → start_of w k < p) → Free (solved_unknowns s) (node 17 k)
unfolding Holds
free-after w e p [] k h l = tt
free-after w e p (◌≔◌ j t ∷ r) k h l =
    let h0 = h.0 in
    let n : j ≢ k = λ i. (let a : start_of w k ≡ p = ap (λ (x : ℕ). start_of w x) (sym i) ∙ h0.starts in
    let m : k < most_numbers = subst (λ (x : ℕ). x < most_numbers) i h0.small in let z = l m in omega arith) in
    (ne_eqb j k n, free-after w e (p + 2 * length t) r k h.1 (λ m. let z = l m in omega arith))

pub free_of : (w : List ℕ) (b : Book) (k : ℕ) → Booked w b → (k < most_numbers → start_of w k < book_base) → Free (solved_unknowns (sols w)) (node 17 k)
free_of w b k h l = free-after w (book_base + 2 * b.nodes) book_base (sols w) k h.holds l

-- and the other way
pub free-start : (w : List ℕ) (b : Book) (k : ℕ) → Booked w b → k < most_numbers → Free (solved_unknowns (sols w)) (node 17 k) → start_of w k < book_base
free-start w b k h l f = go (ltb (start_of w k) book_base) refl
  where
    go : (c : Bool) → ltb (start_of w k) book_base ≡ c → start_of w k < book_base
    go true q = ltb-true (start_of w k) book_base q
    go false q =
        absurd (in-avoids (sols w) (◌≔◌ k (nodes_at w (start_of w k) (count_of w k)))
        (found_in w (book_base + 2 * b.nodes) book_base (sols w) k h.holds l (ltb-false (start_of w k) book_base q)).0 f)

-- ---- one more solution
module _ (w : List ℕ) (b : Book) (k : ℕ) (t : Ty) (small : k < most_numbers) (fits : book_base + 2 * b.nodes + 2 * length t ≤ length w) where
  abbrev e : ℕ
  e = book_base + 2 * b.nodes

  abbrev paired : List ℕ
  paired = sets w (book_stride * k) (e ∷ length t ∷ [])

  high : (j : ℕ) → j < e → get_or (given w b k t) j 0 ≡ get_or paired j 0
  unfolding given
  high j l = getD-sets-below paired e (words t) j l

  start-new : start_of (given w b k t) k ≡ e
  start-new =
      high (book_stride * k) (omega arith)
      ∙ get_or-set_other (set w (book_stride * k) e) (suc (book_stride * k)) (book_stride * k) (length t) 0 (omega arith)
      ∙ get_or-set_same w (book_stride * k) e 0 (omega arith)

  count-new : count_of (given w b k t) k ≡ length t
  count-new =
      let q : book_stride * k + 1 ≡ suc (book_stride * k) = omega arith in
      high (book_stride * k + 1) (omega arith)
      ∙ rw q (get_or-set_same (set w (book_stride * k) e) (suc (book_stride * k)) (length t) 0 (omega (arith, length-set w (book_stride * k) e)))

  pair-kept : (j : ℕ) → (j < book_stride * k) ⊎ (book_stride * k + 2 ≤ j) → get_or paired j 0 ≡ get_or w j 0
  pair-kept j (inl m) = getD-sets-below w (book_stride * k) (e ∷ length t ∷ []) j m
  pair-kept j (inr m) = getD-sets-above w (book_stride * k) (e ∷ length t ∷ []) j m

  -- a word that is neither in the pair nor among the new nodes
  kept : (j : ℕ) → (j < book_stride * k) ⊎ (book_stride * k + 2 ≤ j) → (j < e) ⊎ (e + 2 * length t ≤ j) → get_or (given w b k t) j 0 ≡ get_or w j 0
  unfolding given
  kept j a (inl l) = high j l ∙ pair-kept j a
  kept j a (inr l) = getD-sets-above paired e (words t) j (omega (arith, length-words t)) ∙ pair-kept j a

  pub start-old : (j : ℕ) → j < most_numbers → j ≢ k → start_of (given w b k t) j ≡ start_of w j
  start-old j l f = kept (book_stride * j) (apart j k (λ m. inl (omega arith)) (λ m. inr (omega arith)) f) (inl (omega arith))

  count-old : (j : ℕ) → j < most_numbers → j ≢ k → count_of (given w b k t) j ≡ count_of w j
  count-old j l f = kept (book_stride * j + 1) (apart j k (λ m. inl (omega arith)) (λ m. inr (omega arith)) f) (inl (omega arith))

  -- no level is written, not k's either
  pub given-level : (j : ℕ) → j < most_numbers → level_word_of (given w b k t) j ≡ level_word_of w j
  given-level j l = kept (book_stride * j + 2) (by-eq j k (λ i. inr (omega arith)) (apart j k (λ m. inl (omega arith)) (λ m. inr (omega arith)))) (inl (omega arith))

  nodes-old : (p n : ℕ) → book_base ≤ p → p + 2 * n ≤ e → nodes_at (given w b k t) p n ≡ nodes_at w p n
  nodes-old p n l q = nodes_at-agree w (given w b k t) p n (λ j a z. kept j (inr (omega arith)) (inl (omega arith)))

  nodes-new : nodes_at (given w b k t) e (length t) ≡ t
  unfolding given
  nodes-new = nodes_at-same t paired e (omega (arith, length-sets w (book_stride * k) (e ∷ length t ∷ [])))

  pub length-given : length (given w b k t) ≡ length w
  unfolding given
  length-given = length-sets paired e (words t) ∙ length-sets w (book_stride * k) (e ∷ length t ∷ [])

  holds-snoc : 0 < length t → start_of w k < book_base → (p : ℕ) (s : Solutions) → book_base ≤ p → Holds w e p s
      → Holds (given w b k t) (e + 2 * length t) p (s ++ (◌≔◌ k t ∷ []))
  unfolding Holds
  holds-snoc z f p [] l h =
      let q : p ≡ e = h.0 in (
        record {
          small = small;
          starts = start-new ∙ sym q;
          counts = count-new;
          nodes = rw q nodes-new;
          some = z;
          others = λ j i g y. absurd (let a = h.1 j i in let d = start-old j i g in omega arith);
        },
        (
          omega arith,
          λ j i. by-eq j k
              (λ g. rw g (let d = start-new in omega arith))
              (λ g. let a = h.1 j i in let d = start-old j i g in omega arith),
        ),
      )
  holds-snoc z f p (◌≔◌ j s ∷ r) l h =
      let h0 = h.0 in
      let le = holds-le w e (p + 2 * length s) r h.1 in
      let g : j ≢ k = λ x. (let a : start_of w k ≡ p = ap (λ (y : ℕ). start_of w y) (sym x) ∙ h0.starts in omega arith) in (
        record {
          small = h0.small;
          starts = start-old j h0.small g ∙ h0.starts;
          counts = count-old j h0.small g ∙ h0.counts;
          nodes = nodes-old p (length s) l (omega arith) ∙ h0.nodes;
          some = h0.some;
          others = λ i o x y. by-eq i k
              (λ v. rw v (let d = start-new in omega arith))
              (λ v. let d = start-old i o v in let a = h0.others i o x (omega arith) in omega arith);
        },
        holds-snoc z f (p + 2 * length s) r (omega arith) h.1,
      )

-- what the book holds after it
module _ (w : List ℕ) (b : Book) (k : ℕ) (t : Ty) (h : Booked w b) (small : k < most_numbers) (fits : b.nodes + length t ≤ most_nodes) (Some : 0 < length t)
    (new : Free (solved_unknowns (sols w)) (node 17 k)) where
  abbrev w' : List ℕ
  w' = given w b k t

  within : book_base + 2 * b.nodes + 2 * length t ≤ length w
  within = let r = h.room in omega arith

  held : Holds w' (book_base + 2 * (b.nodes + length t)) book_base (sols w ++ (◌≔◌ k t ∷ []))
  held =
      let q : book_base + 2 * (b.nodes + length t) ≡ book_base + 2 * b.nodes + 2 * length t = omega arith in
      rw q (holds-snoc w b k t small within Some (free-start w b k h small new) book_base (sols w) (omega arith) h.holds)

  pub given-sols : sols w' ≡ sols w ++ (◌≔◌ k t ∷ [])
  given-sols = sols-are w' (book_base + 2 * (b.nodes + length t)) (sols w ++ (◌≔◌ k t ∷ [])) held (omega arith)

  pub given-booked : All (Free (k ∷ solved_unknowns (sols w))) t → Booked w' (grown b (length t))
  given-booked free = record {
    room = let r = h.room in omega (arith, length-given w b k t small within);
    few = fits;
    holds = rw given-sols held;
    unsolved = λ j l u. by-eq j k
        (λ i. absurd (let a = start-new w b k t small within in let y : start_of w' k < book_base = subst (λ (x : ℕ). start_of w' x < book_base) i u in omega arith))
        (λ f.
        let a = start-old w b k t small within j l f in
        let c = count-old w b k t small within j l f in
        let z = h.unsolved j l (omega arith) in
        (a ∙ z.0, c ∙ z.1));
    levels = λ j l. (let c = given-level w b k t small within j l in let z = h.levels j l in omega arith);
    rest = λ j l u. kept w b k t small within j (inr (omega arith)) (inr (omega arith)) ∙ h.rest j (omega arith) u;
    fine = rw given-sols (fine-snoc (sols w) k t h.fine new free);
  }

-- the stores of `solve`; m is k as an index
pub solve-words : (w : List ℕ) (b : Book) (k m : ℕ) (s : List ℕ) (from n : ℕ) → m ≡ k
    → sets (set (set w (book_stride * m) (book_base + 2 * b.nodes)) (book_stride * m + 1) n) (book_base + 2 * b.nodes) (words (nodes_at s from n)) ≡ given w b k (nodes_at s from n)
unfolding given
solve-words w b k m s from n e =
    rw (e, length-nodes_at s from n) (ap (λ (j : ℕ). sets (set (set w (book_stride * k) (book_base + 2 * b.nodes)) j n) (book_base + 2 * b.nodes) (words (nodes_at s from n))) (add-one (book_stride * k)))
