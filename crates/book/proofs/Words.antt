-- The words of a book, with its levels as a caller reads them, are the definition's for the solutions and the levels
-- that it holds (`book-words`); and an empty book. Assumes nothing.
use Rattle.std.proofs.Common.{◌≡◌, refl, sym, ap, ap₂, ◌∙◌, ◌≢◌, ◌⊎◌, inl, inr, Bool, true, false, List, [], ◌∷◌, ◌++◌, ℕ, zero, suc, ◌+◌, ◌*◌, ◌-◌, ◌≤◌, ◌<◌, not-suc-le-zero, arith, ltb, length, get_or, take, replicate, length-set, length-append, get_or-set_same, get_or-set_other, ext_get_or, get_or-take, get_or-append-add, length-take-le, eq-eqb, ne_eqb, ltb-true, ltb-false}
use lib.ListN.{get_or-replicate, get_or-append}
use lib.Seq.{sets, length-sets}
use Rattle.sizes.specs.Sizes.{most_numbers, book_base, book_size, book_stride}
use Rattle.nodes.specs.Nodes.{words, nodes_at, zeros}
use Rattle.nodes.proofs.ListLaws.{cond_ind}
use Rattle.nodes.proofs.Laws.{getD-sets-in, nodes_at-append, words_append, length-words, length-nodes_at}
use Rattle.judgment.specs.Solutions.{◌≔◌, Solutions, solution_nodes}
use Rattle.judgment.specs.Levels.{Levels, own_levels}
use Rattle.judgment.specs.Result.{padded, place_from, level_word, threes_from, node_words, book_words}
use Rattle.judgment.proofs.Words.{length-book}
use Rattle.judgment.proofs.SolutionLaws.{no-fine}
use Rattle.book.specs.declared.Book.{Book}
use Rattle.book.specs.Book.{start_of, count_of, sols, Holds, level_word_of, level_of, levels_of, levels_written, Booked}
use Rattle.book.proofs.Holdings.{by-eq, nodes-count, sols-are}

-- a book without solutions
pub no-solutions : book_words [] own_levels 0 ≡ zeros book_size
unfolding zeros book_words padded threes_from place_from node_words
no-solutions = refl

-- ---- three words a number
-- where the words say that a solution stands
pub place-solved : (w : List ℕ) (e p : ℕ) (s : Solutions) (k : ℕ) → Holds w e p s → k < most_numbers → p ≤ start_of w k → place_from p s k ≡ (start_of w k, count_of w k)
unfolding Holds place_from
place-solved w e p [] k h l q = absurd (let z = h.1 k l in omega arith)
place-solved w e p (◌≔◌ j t ∷ r) k h l q = by-eq j k
    (λ i.
    let a : start_of w k ≡ p = ap (λ (x : ℕ). start_of w x) (sym i) ∙ h.0.starts in
    let d : count_of w k ≡ length t = ap (λ (x : ℕ). count_of w x) (sym i) ∙ h.0.counts in
    rw (eq-eqb j k i, a, d))
    (λ f. rw (ne_eqb j k f) (place-solved w e (p + 2 * length t) r k h.1 l (h.0.others k l (λ x. f (sym x)) q)))

pub place-unsolved : (w : List ℕ) (e p : ℕ) (s : Solutions) (k : ℕ) → Holds w e p s → start_of w k < p → place_from p s k ≡ (0, 0)
unfolding Holds place_from
place-unsolved w e p [] k h l = refl
place-unsolved w e p (◌≔◌ j t ∷ r) k h l =
    let f : j ≢ k = λ i. (let a : start_of w k ≡ p = ap (λ (x : ℕ). start_of w x) (sym i) ∙ h.0.starts in omega arith) in
    rw (ne_eqb j k f) (place-unsolved w e (p + 2 * length t) r k h.1 (omega arith))

length-threes : (s : Solutions) (v : Levels) (n k m : ℕ) → length (threes_from s v n k m) ≡ book_stride * m
unfolding threes_from
length-threes s v n k zero = refl
length-threes s v n k (suc m) = let h = length-threes s v n (k + 1) m in omega arith

-- where the solution of number k + j stands, its nodes, and the level
three-at : (s : Solutions) (v : Levels) (n k m j : ℕ) → j < m
    → (get_or (threes_from s v n k m) (book_stride * j) 0 ≡ (place_from book_base s (k + j)).0)
    × (get_or (threes_from s v n k m) (book_stride * j + 1) 0 ≡ (place_from book_base s (k + j)).1)
    × (get_or (threes_from s v n k m) (book_stride * j + 2) 0 ≡ level_word v n (k + j))
unfolding threes_from
three-at s v n k zero j h = absurd (not-suc-le-zero h)
three-at s v n k (suc m) zero h = let e : k + 0 ≡ k = omega arith in rw e (refl, refl, refl)
three-at s v n k (suc m) (suc j) h =
    let on : (i : ℕ) → book_stride * suc j + i ≡ suc (suc (suc (book_stride * j + i))) = λ i. omega arith in
    let e : book_stride * suc j ≡ suc (suc (suc (book_stride * j))) = omega arith in
    let g : k + 1 + j ≡ k + suc j = omega arith in
    let t = three-at s v n (k + 1) m j (omega arith) in (
      ap (λ (x : ℕ). get_or (threes_from s v n k (suc m)) x 0) e ∙ t.0 ∙ ap (λ (x : ℕ). (place_from book_base s x).0) g,
      ap (λ (x : ℕ). get_or (threes_from s v n k (suc m)) x 0) (on 1) ∙ t.1 ∙ ap (λ (x : ℕ). (place_from book_base s x).1) g,
      ap (λ (x : ℕ). get_or (threes_from s v n k (suc m)) x 0) (on 2) ∙ t.2 ∙ ap (λ (x : ℕ). level_word v n x) g,
    )

-- the number of which a word is, and which of the three it is
third : (i : ℕ) → (j : ℕ) × ((i ≡ book_stride * j) ⊎ ((i ≡ book_stride * j + 1) ⊎ (i ≡ book_stride * j + 2)))
third zero = (0, inl refl)
third (suc zero) = (0, inr (inl refl))
third (suc (suc zero)) = (0, inr (inr refl))
third (suc (suc (suc i))) =
    let h = third i in
    (suc h.0, elim h.1 [ inl e ↦ inl (omega arith) | inr (inl e) ↦ inr (inl (omega arith)) | inr (inr e) ↦ inr (inr (omega arith)) ])

-- ---- levels as a caller reads them
-- no word more
pub length-written : (w : List ℕ) (n : ℕ) → length (levels_written w n) ≡ length w
unfolding levels_written
length-written w zero = refl
length-written w (suc n) = length-set (levels_written w n) (book_stride * n + 2) (level_of w n) ∙ length-written w n

-- a word that is no level of a number below n stays
pub written-kept : (w : List ℕ) (n i : ℕ) → ((k : ℕ) → k < n → i ≢ book_stride * k + 2) → get_or (levels_written w n) i 0 ≡ get_or w i 0
unfolding levels_written
written-kept w zero i f = refl
written-kept w (suc n) i f = get_or-set_other (levels_written w n) (book_stride * n + 2) i (level_of w n) 0 (f n (omega arith)) ∙ written-kept w n i (λ k l. f k (omega arith))

-- and such a level is written
written-level : (w : List ℕ) (n j : ℕ) → book_size ≤ length w → n ≤ most_numbers → j < n → level_word_of (levels_written w n) j ≡ level_of w j
unfolding levels_written
written-level w zero j r m l = absurd (not-suc-le-zero l)
written-level w (suc n) j r m l = by-eq j n
    (λ e. rw e (get_or-set_same (levels_written w n) (book_stride * n + 2) (level_of w n) 0 (omega (arith, length-written w n))))
    (λ f. get_or-set_other (levels_written w n) (book_stride * n + 2) (book_stride * j + 2) (level_of w n) 0 (λ e. f (omega arith)) ∙ written-level w n j r (omega arith) (omega arith))

-- ---- nodes
pub words-at : (w : List ℕ) (p n i : ℕ) → i < 2 * n → get_or (words (nodes_at w p n)) i 0 ≡ get_or w (p + i) 0
unfolding words nodes_at
words-at w p zero i h = absurd (not-suc-le-zero h)
words-at w p (suc n) zero h = let e : p ≡ p + 0 = omega arith in ap (λ (x : ℕ). get_or w x 0) e
words-at w p (suc n) (suc zero) h = refl
words-at w p (suc n) (suc (suc i)) h =
    let e : p + 2 + i ≡ p + suc (suc i) = omega arith in
    words-at w (p + 2) n i (omega arith) ∙ ap (λ (x : ℕ). get_or w x 0) e

node-words : (w : List ℕ) (e p : ℕ) (s : Solutions) → Holds w e p s → node_words s ≡ words (nodes_at w p (solution_nodes s))
unfolding Holds node_words solution_nodes nodes_at words
node-words w e p [] h = refl
node-words w e p (◌≔◌ k t ∷ r) h =
    ap₂ (λ (x y : List ℕ). x ++ y) (ap words (sym h.0.nodes)) (node-words w e (p + 2 * length t) r h.1)
    ∙ sym (words_append (nodes_at w p (length t)) (nodes_at w (p + 2 * length t) (solution_nodes r)))
    ∙ ap words (sym (nodes_at-append w p (length t) (solution_nodes r)))

-- ---- all words
-- of a run that has made the numbers below n
module _ (w : List ℕ) (b : Book) (h : Booked w b) (n : ℕ) (most : n ≤ most_numbers) (unmade : (j : ℕ) → n ≤ j → j < most_numbers → level_word_of w j ≡ 0) where
  abbrev σ : Solutions
  σ = sols w

  abbrev e : ℕ
  e = book_base + 2 * b.nodes

  abbrev written : List ℕ
  written = levels_written w n

  abbrev threes : List ℕ
  threes = threes_from σ (levels_of w) n 0 most_numbers

  both : (j : ℕ) → j < most_numbers → ((place_from book_base σ j).0 ≡ start_of w j) × ((place_from book_base σ j).1 ≡ count_of w j)
  both j l = go (ltb (start_of w j) book_base) refl
    where
      go : (c : Bool) → ltb (start_of w j) book_base ≡ c → ((place_from book_base σ j).0 ≡ start_of w j) × ((place_from book_base σ j).1 ≡ count_of w j)
      go true q =
          let u = ltb-true (start_of w j) book_base q in
          let z = h.unsolved j l u in
          rw (place-unsolved w e book_base σ j h.holds u) (sym z.0, sym z.1)
      go false q = rw (place-solved w e book_base σ j h.holds l (ltb-false (start_of w j) book_base q)) (refl, refl)

  level-at : (j : ℕ) → j < most_numbers → level_word (levels_of w) n j ≡ level_word_of written j
  level-at j l = cond_ind (λ (x : ℕ). x ≡ level_word_of written j) (ltb j n)
      (λ q. sym (written-level w n j h.room most (ltb-true j n q)))
      (λ q. let u = ltb-false j n q in sym (written-kept w n (book_stride * j + 2) (λ k m x. omega arith) ∙ unmade j u l))

  -- the three words of number j
  three : (j : ℕ) → j < most_numbers
      → (get_or threes (book_stride * j) 0 ≡ start_of written j) × (get_or threes (book_stride * j + 1) 0 ≡ count_of written j) × (get_or threes (book_stride * j + 2) 0 ≡ level_word_of written j)
  three j l =
      let g : 0 + j ≡ j = omega arith in
      let t = rw g at (three-at σ (levels_of w) n 0 most_numbers j l) in (
        t.0 ∙ (both j l).0 ∙ sym (written-kept w n (book_stride * j) (λ k m x. omega arith)),
        t.1 ∙ (both j l).1 ∙ sym (written-kept w n (book_stride * j + 1) (λ k m x. omega arith)),
        t.2 ∙ level-at j l,
      )

  low : (i : ℕ) → i < book_base → get_or threes i 0 ≡ get_or written i 0
  low i l = elim (third i).1 [
    | inl q ↦ rw q (three (third i).0 (omega arith)).0
    | inr (inl q) ↦ rw q (three (third i).0 (omega arith)).1
    | inr (inr q) ↦ rw q (three (third i).0 (omega arith)).2
  ]

  nodes-are : node_words σ ≡ words (nodes_at w book_base b.nodes)
  nodes-are =
      let c = nodes-count w e book_base σ h.holds in
      let m : solution_nodes σ ≡ b.nodes = omega arith in
      node-words w e book_base σ h.holds ∙ ap (λ (k : ℕ). words (nodes_at w book_base k)) m

  long : length (threes ++ node_words σ) ≡ e
  long =
      let m = ap length nodes-are ∙ length-words (nodes_at w book_base b.nodes) in
      let k = length-nodes_at w book_base b.nodes in
      let p = length-threes σ (levels_of w) n 0 most_numbers in
      length-append threes (node_words σ) ∙ omega arith

  word_at : (i : ℕ) → i < book_size → get_or ((threes ++ node_words σ) ++ replicate book_size 0) i 0 ≡ get_or written i 0
  word_at i l = go (ltb i book_base) refl
    where
      go₂ : book_base ≤ i → (c : Bool) → ltb i e ≡ c → get_or ((threes ++ node_words σ) ++ replicate book_size 0) i 0 ≡ get_or w i 0
      go₂ g true q =
          let u = ltb-true i e q in
          let p = length-threes σ (levels_of w) n 0 most_numbers in
          let x : i ≡ length threes + (i - book_base) = omega arith in
          let y : book_base + (i - book_base) ≡ i = omega arith in
          get_or-append (threes ++ node_words σ) (replicate book_size 0) 0 i (omega (arith, long))
          ∙ ap (λ (k : ℕ). get_or (threes ++ node_words σ) k 0) x
          ∙ get_or-append-add threes (node_words σ) (i - book_base) 0
          ∙ ap (λ (v : List ℕ). get_or v (i - book_base) 0) nodes-are
          ∙ words-at w book_base b.nodes (i - book_base) (omega arith)
          ∙ ap (λ (k : ℕ). get_or w k 0) y
      go₂ g false q =
          let u = ltb-false i e q in
          let m = long in
          let x : i ≡ length (threes ++ node_words σ) + (i - e) = omega arith in
          ap (λ (k : ℕ). get_or ((threes ++ node_words σ) ++ replicate book_size 0) k 0) x
          ∙ get_or-append-add (threes ++ node_words σ) (replicate book_size 0) (i - e) 0
          ∙ get_or-replicate book_size (i - e) 0 0 (omega arith)
          ∙ sym (h.rest i u l)

      go : (c : Bool) → ltb i book_base ≡ c → get_or ((threes ++ node_words σ) ++ replicate book_size 0) i 0 ≡ get_or written i 0
      go true q =
          let u = ltb-true i book_base q in
          get_or-append (threes ++ node_words σ) (replicate book_size 0) 0 i (omega (arith, long))
          ∙ get_or-append threes (node_words σ) 0 i (omega (arith, length-threes σ (levels_of w) n 0 most_numbers))
          ∙ low i u
      go false q =
          let u = ltb-false i book_base q in
          go₂ u (ltb i e) refl ∙ sym (written-kept w n i (λ k m x. omega arith))

  -- the book's words once its levels are written, up to its tail
  pub book-words : take book_size written ≡ book_words σ (levels_of w) n
  unfolding book_words padded
  book-words =
      let r = h.room in
      let m = length-take-le book_size written (omega (arith, length-written w n)) in
      ext_get_or 0 (take book_size written) (book_words σ (levels_of w) n) (m ∙ sym (length-book σ (levels_of w) n))
      (λ i l.
      let k : i < book_size = omega arith in
      get_or-take book_size written i 0 k ∙ sym (get_or-take book_size ((threes ++ node_words σ) ++ replicate book_size 0) i 0 k ∙ word_at i k))

-- an empty book
module _ (w : List ℕ) (room : book_size ≤ length w) where
  abbrev empty : List ℕ
  empty = sets w 0 (book_words [] own_levels 0)

  pub zero-at : (j : ℕ) → j < book_size → get_or empty j 0 ≡ 0
  unfolding zeros
  zero-at j l =
      let e : 0 + j ≡ j = omega arith in
      let n = length-book [] own_levels 0 in
      ap (λ (k : ℕ). get_or empty k 0) (sym e)
      ∙ getD-sets-in w 0 (book_words [] own_levels 0) j (omega arith) (omega arith)
      ∙ ap (λ (v : List ℕ). get_or v j 0) no-solutions
      ∙ get_or-replicate book_size j 0 0 l

  nothing : Holds empty book_base book_base []
  unfolding Holds
  nothing = (refl, λ j l. let z = zero-at (book_stride * j) (omega arith) in omega arith)

  pub new-sols : sols empty ≡ []
  new-sols = sols-are empty book_base [] nothing (omega arith)

  pub new-booked : Booked empty (record { nodes = 0 })
  new-booked = record {
    room = omega (arith, length-sets w 0 (book_words [] own_levels 0));
    few = omega arith;
    holds = rw new-sols nothing;
    unsolved = λ j l u. (zero-at (book_stride * j) (omega arith), zero-at (book_stride * j + 1) (omega arith));
    levels = λ j l. (let z = zero-at (book_stride * j + 2) (omega arith) in omega arith);
    rest = λ j l u. zero-at j u;
    fine = rw new-sols no-fine;
  }
