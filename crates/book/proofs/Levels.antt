-- The levels that a book holds: what a level given (`levelled`) and levels lowered (`lowered`) keep of its words and
-- its solutions, and the levels after these, after one more solution (`given`) and of an empty book, as equations of
-- levels; and a turn of the loops that lower and that write levels. Assumes nothing.
use Rattle.std.proofs.Common.{◌≡◌, refl, sym, ap, ap₂, ◌∙◌, subst, ◌≢◌, Bool, true, false, cond, ◌||◌, true≢false, List, [], ◌∷◌, ℕ, zero, suc, ◌+◌, ◌*◌, ◌-◌, ◌≤◌, ◌<◌, add-one, arith, length, get_or, set, length-set, get_or-set_same, get_or-set_other, eqb, ltb, eqb-true, eq-eqb, ne_eqb, ltb-true, lt-ltb, le-ltb}
use mathlib.Core.Path.{fun_ext, subst⁻¹}
use lib.Seq.{sets}
use Rattle.sizes.specs.Sizes.{most_nodes, most_numbers, book_base, book_size, book_stride}
use Rattle.nodes.specs.Nodes.{Node, node, Ty, kind, number, node_at, nodes_at}
use Rattle.nodes.specs.Lists.{All}
use Rattle.nodes.proofs.ListLaws.{cond_ind}
use Rattle.nodes.proofs.Laws.{nodes_at-cons, nodes_at-agree}
use Rattle.judgment.specs.Types.{is_node, occurs}
use Rattle.judgment.specs.Solutions.{◌≔◌, Solutions}
use Rattle.judgment.specs.Levels.{own_levels, put, at_most, lower}
use Rattle.judgment.specs.Result.{book_words}
use Rattle.judgment.proofs.TypeLaws.{is_node-true}
use Rattle.book.specs.declared.Book.{Book}
use Rattle.book.specs.Book.{start_of, count_of, who, after, sols_from, sols, Holds, level_word_of, level_by, level_of, levels_of, levelled, lowered_node, lowered, Listed, levels_written, Booked, given}
use Rattle.book.proofs.Holdings.{by-eq}
use Rattle.book.proofs.Words.{written-kept, zero-at}
pub use Rattle.book.proofs.Holdings.{given-level}

-- ---- a level given
-- a word that is not this level stays
level-kept : (w : List ℕ) (k m j : ℕ) → j ≢ book_stride * k + 2 → get_or (levelled w k m) j 0 ≡ get_or w j 0
unfolding levelled
level-kept w k m j f = get_or-set_other w (book_stride * k + 2) j (m + 1) 0 f

-- no word more, no start or count of a solution and no other level changes
pub length-levelled : (w : List ℕ) (k m : ℕ) → length (levelled w k m) ≡ length w
unfolding levelled
length-levelled w k m = length-set w (book_stride * k + 2) (m + 1)

pub level-start : (w : List ℕ) (k m j : ℕ) → start_of (levelled w k m) j ≡ start_of w j
level-start w k m j = level-kept w k m (book_stride * j) (λ e. omega arith)

pub level-count : (w : List ℕ) (k m j : ℕ) → count_of (levelled w k m) j ≡ count_of w j
level-count w k m j = level-kept w k m (book_stride * j + 1) (λ e. omega arith)

pub level-other : (w : List ℕ) (k m j : ℕ) → j ≢ k → level_word_of (levelled w k m) j ≡ level_word_of w j
level-other w k m j f = level-kept w k m (book_stride * j + 2) (λ e. f (omega arith))

-- the word says one more than the level
pub level-same : (w : List ℕ) (k m : ℕ) → book_size ≤ length w → k < most_numbers → level_word_of (levelled w k m) k ≡ m + 1
unfolding levelled
level-same w k m room small = get_or-set_same w (book_stride * k + 2) (m + 1) 0 (omega arith)

-- the solutions
module _ (w : List ℕ) (k m : ℕ) (small : k < most_numbers) where
  abbrev w' : List ℕ
  w' = levelled w k m

  nodes-kept : (p n : ℕ) → book_base ≤ p → nodes_at w' p n ≡ nodes_at w p n
  nodes-kept p n l = nodes_at-agree w w' p n (λ j a z. level-kept w k m j (λ e. omega arith))

  who-kept : (p n : ℕ) → who w' p n ≡ who w p n
  unfolding who
  who-kept p zero = refl
  who-kept p (suc n) = rw (level-start w k m n, who-kept p n)

  sols-kept : (p n : ℕ) → book_base ≤ p → sols_from w' p n ≡ sols_from w p n
  unfolding sols_from
  sols-kept p zero l = refl
  sols-kept p (suc n) l = ap₂ after (who-kept p most_numbers)
      (fun_ext (λ j. rw (level-count w k m j, nodes-kept p (count_of w j) l, sols-kept (p + 2 * count_of w j) n (omega arith))))

  -- these stay
  pub level-sols : sols w' ≡ sols w
  unfolding sols
  level-sols = sols-kept book_base most_nodes (omega arith)

  holds_kept : (e p : ℕ) (s : Solutions) → book_base ≤ p → Holds w e p s → Holds w' e p s
  unfolding Holds
  holds_kept e p [] l h = (h.0, λ j i. (let a = level-start w k m j in let z = h.1 j i in omega arith))
  holds_kept e p (◌≔◌ j t ∷ r) l h =
      let h0 = h.0 in (
        record {
          small = h0.small;
          starts = level-start w k m j ∙ h0.starts;
          counts = level-count w k m j ∙ h0.counts;
          nodes = nodes-kept p (length t) l ∙ h0.nodes;
          some = h0.some;
          others = λ i o f y. (let a = level-start w k m i in let z = h0.others i o f (omega arith) in omega arith);
        },
        holds_kept e (p + 2 * length t) r (omega arith) h.1,
      )

  -- and a book stays one
  pub level-booked : {b : Book} → Booked w b → m < most_numbers → Booked w' b
  level-booked {b} h l = record {
    room = let r = h.room in omega (arith, length-levelled w k m);
    few = h.few;
    holds = rw level-sols (holds_kept (book_base + 2 * b.nodes) book_base (sols w) (omega arith) h.holds);
    unsolved = λ j i u. (let a = level-start w k m j in let z = h.unsolved j i (omega arith) in (a ∙ z.0, level-count w k m j ∙ z.1));
    levels = λ j i. by-eq j k
        (λ e. rw e (let a = level-same w k m h.room small in omega arith))
        (λ f. let a = level-other w k m j f in let z = h.levels j i in omega arith);
    rest = λ j i u. level-kept w k m j (λ e. omega arith) ∙ h.rest j i u;
    fine = rw level-sols h.fine;
  }

-- ---- levels lowered
-- what each level given keeps, all together keep
module _ (P : List ℕ → Type 0) (m : ℕ) (keeps : (w : List ℕ) (k : ℕ) → k < most_numbers → P w → P (levelled w k m)) where
  node-keeps : (x : Node) (w : List ℕ) → Listed x → P w → P (lowered_node m (kind x) (number x) w)
  node-keeps x w l h =
      cond_ind P (eqb (kind x) 17) (λ q. cond_ind P (ltb m (level_of w (number x))) (λ _. keeps w (number x) (l (eqb-true (kind x) 17 q)) h) (λ _. h)) (λ _. h)

  lowered-keeps : (t : Ty) (w : List ℕ) → All Listed t → P w → P (lowered m t w)
  unfolding lowered
  lowered-keeps [] w l h = h
  lowered-keeps (x ∷ t) w l h = lowered-keeps t (lowered_node m (kind x) (number x) w) l.1 (node-keeps x w l.0 h)

-- so no word more, no start and no solution changes, and a book stays one
module _ (m : ℕ) (t : Ty) (w : List ℕ) (listed : All Listed t) where
  pub length-lowered : length (lowered m t w) ≡ length w
  length-lowered = lowered-keeps (λ v. length v ≡ length w) m (λ v k _ e. length-levelled v k m ∙ e) t w listed refl

  pub lowered-start : (j : ℕ) → start_of (lowered m t w) j ≡ start_of w j
  lowered-start j = lowered-keeps (λ v. start_of v j ≡ start_of w j) m (λ v k _ e. level-start v k m j ∙ e) t w listed refl

  pub lowered-sols : sols (lowered m t w) ≡ sols w
  lowered-sols = lowered-keeps (λ v. sols v ≡ sols w) m (λ v k l e. level-sols v k m l ∙ e) t w listed refl

  pub lowered-booked : {b : Book} → Booked w b → m < most_numbers → Booked (lowered m t w) b
  lowered-booked {b} h l = lowered-keeps (λ v. Booked v b) m (λ v k i g. level-booked v k m i g l) t w listed h

neither : (a b : Bool) → (a || b) ≡ false → (a ≡ false) × (b ≡ false)
neither true b e = absurd (true≢false e)
neither false b e = (refl, e)

node-other : (m : ℕ) (x : Node) (w : List ℕ) (j : ℕ) → is_node 17 j x ≡ false → level_word_of (lowered_node m (kind x) (number x) w) j ≡ level_word_of w j
node-other m (node d k) w j f =
    cond_ind (λ v. level_word_of v j ≡ level_word_of w j) (eqb d 17)
    (λ q. cond_ind (λ v. level_word_of v j ≡ level_word_of w j) (ltb m (level_of w k))
    (λ _. level-other w k m j (λ e. true≢false (sym (rw (eq-eqb 17 d (sym (eqb-true d 17 q)), eq-eqb j k e)) ∙ f))) (λ _. refl)) (λ _. refl)

-- nor the level of an unknown that is not in the type
pub lowered-other : (m : ℕ) (t : Ty) (w : List ℕ) (j : ℕ) → occurs j t ≡ false → level_word_of (lowered m t w) j ≡ level_word_of w j
unfolding lowered occurs
lowered-other m [] w j f = refl
lowered-other m (x ∷ t) w j f =
    let n = neither (is_node 17 j x) (occurs j t) f in
    lowered-other m t (lowered_node m (kind x) (number x) w) j n.1 ∙ node-other m x w j n.0

-- ---- the levels
-- by the word alone, if there is one
same-level : (w v : List ℕ) (j : ℕ) → (j < most_numbers → level_word_of v j ≡ level_word_of w j) → level_of v j ≡ level_of w j
same-level w v j f = go (ltb j most_numbers) refl
  where
    go : (b : Bool) → ltb j most_numbers ≡ b → cond b (level_by (level_word_of v j) j) j ≡ cond b (level_by (level_word_of w j) j) j
    go true q = ap (λ (x : ℕ). level_by x j) (f (ltb-true j most_numbers q))
    go false q = refl

-- the level that was given
level-new : (w : List ℕ) (k m : ℕ) → book_size ≤ length w → k < most_numbers → level_of (levelled w k m) k ≡ m
level-new w k m room small = rw (lt-ltb k most_numbers small, level-same w k m room small ∙ add-one m)

by_word : (x k : ℕ) → k < most_numbers → x ≤ most_numbers → level_by x k < most_numbers
by_word zero k l h = l
by_word (suc m) k l h = h

-- a level is a number that the book has words for
pub level-below : (w : List ℕ) {b : Book} (k : ℕ) → Booked w b → k < most_numbers → level_of w k < most_numbers
level-below w k h l = rw (lt-ltb k most_numbers l) (by_word (level_word_of w k) k l (h.levels k l))

-- a level given: the definition's `put`
pub levels-put : (w : List ℕ) (n m : ℕ) → book_size ≤ length w → n < most_numbers → levels_of (levelled w n m) ≡ put n m (levels_of w)
unfolding put
levels-put w n m room small = fun_ext (λ j. by-eq j n
    (λ e. rw (e, eq-eqb n n refl) (level-new w n m room small))
    (λ f. rw (ne_eqb j n f) (same-level w (levelled w n m) j (λ _. level-other w n m j f))))

-- at most m, for one reason and for another
at-most-twice : (a b : Bool) (m l : ℕ) → at_most b m (at_most a m l) ≡ at_most (a || b) m l
at-most-twice true true m l = go (ltb m l) refl
  where
    go : (b : Bool) → ltb m l ≡ b → cond (ltb m (cond b m l)) m (cond b m l) ≡ cond b m l
    go true q = rw (le-ltb m m (omega arith))
    go false q = rw q
at-most-twice true false m l = refl
at-most-twice false b m l = refl

node-level : (m : ℕ) (x : Node) (w : List ℕ) (j : ℕ) → book_size ≤ length w → Listed x
    → level_of (lowered_node m (kind x) (number x) w) j ≡ at_most (is_node 17 j x) m (level_of w j)
node-level m x w j room l = go (is_node 17 j x) refl
  where
    new : j < most_numbers → (b : Bool) → level_of (cond b (levelled w j m) w) j ≡ cond b m (level_of w j)
    new small true = level-new w j m room small
    new small false = refl

    go : (b : Bool) → is_node 17 j x ≡ b → level_of (lowered_node m (kind x) (number x) w) j ≡ at_most b m (level_of w j)
    go true q =
        let e = is_node-true 17 j x q in
        subst⁻¹ (λ (y : Node). level_of (lowered_node m (kind y) (number y) w) j ≡ cond (ltb m (level_of w j)) m (level_of w j)) e
        (new (subst Listed e l refl) (ltb m (level_of w j)))
    go false q = same-level w (lowered_node m (kind x) (number x) w) j (λ _. node-other m x w j q)

-- levels lowered: the definition's `lower`
pub levels-lowered : (m : ℕ) (t : Ty) (w : List ℕ) → book_size ≤ length w → All Listed t → levels_of (lowered m t w) ≡ lower m t (levels_of w)
unfolding lowered lower occurs
levels-lowered m [] w room l = refl
levels-lowered m (x ∷ t) w room l =
    levels-lowered m t (lowered_node m (kind x) (number x) w) (omega (arith, length-lowered m (x ∷ []) w (l.0, tt))) l.1
    ∙ fun_ext (λ j. ap (at_most (occurs j t) m) (node-level m x w j room l.0) ∙ at-most-twice (is_node 17 j x) (occurs j t) m (level_of w j))

-- a solution changes no level
pub levels-given : (w : List ℕ) (b : Book) (k : ℕ) (t : Ty) → k < most_numbers → book_base + 2 * b.nodes + 2 * length t ≤ length w
    → levels_of (given w b k t) ≡ levels_of w
levels-given w b k t small fits = fun_ext (λ j. same-level w (given w b k t) j (given-level w b k t small fits j))

-- ---- an empty book
module _ (w : List ℕ) (room : book_size ≤ length w) where
  -- no level is written
  pub new-level-words : (j : ℕ) → j < most_numbers → level_word_of (sets w 0 (book_words [] own_levels 0)) j ≡ 0
  new-level-words j l = zero-at w room (book_stride * j + 2) (omega arith)

  -- every number has its own
  pub new-levels : levels_of (sets w 0 (book_words [] own_levels 0)) ≡ own_levels
  new-levels = fun_ext (λ j.
      cond_ind (λ (x : ℕ). x ≡ j) (ltb j most_numbers) (λ q. ap (λ (x : ℕ). level_by x j) (new-level-words j (ltb-true j most_numbers q))) (λ _. refl))

-- ---- loops
-- the first of the nodes that are still to be lowered, and the others
pub first-left : (s : List ℕ) (from n i : ℕ) → i < n → nodes_at s (from + 2 * i) (n - i) ≡ node_at s (from + 2 * i) ∷ nodes_at s (from + 2 * (i + 1)) (n - (i + 1))
first-left s from n i l =
    let e : from + 2 * i + 2 ≡ from + 2 * (i + 1) = omega arith in
    let f : n - i - 1 ≡ n - (i + 1) = omega arith in
    nodes_at-cons s (from + 2 * i) (n - i) (omega arith) ∙ ap₂ (λ (p m : ℕ). node_at s (from + 2 * i) ∷ nodes_at s p m) e f

-- one level more as a caller reads it
pub written-turn : (w v : List ℕ) (k : ℕ) → v ≡ levels_written w k → set v (book_stride * k + 2) (level_of v k) ≡ levels_written w (k + 1)
unfolding levels_written
written-turn w v k e = rw (e, add-one k)
    (ap (set (levels_written w k) (book_stride * k + 2)) (same-level w (levels_written w k) k (λ _. written-kept w k (book_stride * k + 2) (λ j l q. omega arith))))
