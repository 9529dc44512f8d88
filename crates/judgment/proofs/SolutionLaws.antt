-- Laws of writing out, and solutions that lead nowhere back.
-- Assumes nothing.
use Rattle.std.proofs.lemmas.Option.{none-some}
use Rattle.std.specs.Prelude.{Option, None, Some}
use Prim.Native.Nat.{ℕ, zero, suc, ◌+◌, ◌<◌}
use native.Mathlib.Nat.{not-suc-le-zero}
use native.Mathlib.Omega.{arith}
use mathlib.Core.Path.{◌≡◌, refl, sym, ◌∙◌, ap, ap₂, subst, subst⁻¹}
use mathlib.Core.Logic.{◌≢◌, ◌⊎◌, inl, inr}
use mathlib.Core.Bool.{Bool, true, false, cond, ◌&&◌, ◌||◌, true≢false}
use mathlib.Core.List.{List, [], ◌∷◌, ◌++◌, append-nil, append_assoc}
use mathlib.Core.WellFounded.{Acc}
use lib.Dec.{eqb}
use lib.ListN.{length, length-append}
use Rattle.nodes.specs.Lists.{All, In}
use Rattle.nodes.proofs.ListLaws.{all_map, all_append, all_in, all_of}
use Rattle.nodes.specs.Nodes.{Node, node, Ty}
use Rattle.judgment.specs.Types.{unknown}
use Rattle.judgment.proofs.TypeLaws.{eqb-true, eqb_same, eqb-false}
use Rattle.judgment.specs.Promise.{Follows, Leads, one, more}
use Rattle.judgment.specs.Solutions.{Solution, ◌≔◌, Solutions, key, value, find, or_unknown, link, links, known, is_solved, any_solved, write_out_by, write_out, Distinct, solved_unknowns}
use Rattle.judgment.specs.Good.{Avoids, Free, Under, Fine}

---------------------------------------------------------------- finding
pub in-solved : (σ : Solutions) (x : Solution) → In x σ → In (key x) (solved_unknowns σ)
in-solved [] x m = absurd m
in-solved (◌≔◌ j r ∷ σ) x (inl e) = inl (ap key e)
in-solved (◌≔◌ j r ∷ σ) x (inr m) = inr (in-solved σ x m)

pub find-some : (σ : Solutions) (k : ℕ) (s : Ty) → find k σ ≡ Some s → In (◌≔◌ k s) σ
unfolding find
find-some [] k s e = absurd (none-some s e)
find-some (◌≔◌ j r ∷ σ) k s e = go (eqb j k) refl e (find-some σ k s)
  where
    go : (b : Bool) → eqb j k ≡ b → cond b (Some r) (find k σ) ≡ Some s → (find k σ ≡ Some s → In (◌≔◌ k s) σ) → In (◌≔◌ k s) (◌≔◌ j r ∷ σ)
    go true p q f = inl (cc (eqb-true j k p, q))
    go false p q f = inr (f q)

pub find-in : (σ : Solutions) → Distinct (solved_unknowns σ) → (x : Solution) → In x σ → find (key x) σ ≡ Some (value x)
unfolding find
find-in [] d x m = absurd m
find-in (◌≔◌ j r ∷ σ) d x (inl e) =
    subst⁻¹ (λ (y : Solution). cond (eqb j (key y)) (Some r) (find (key y) σ) ≡ Some (value y)) e (ap (λ (b : Bool). cond b (Some r) (find j σ)) (eqb_same j))
find-in (◌≔◌ j r ∷ σ) d x (inr m) =
    ap (λ (b : Bool). cond b (Some r) (find (key x) σ)) (eqb-false j (key x) (all_in (λ i. j ≢ i) (solved_unknowns σ) (key x) (in-solved σ x m) d.0)) ∙ find-in σ d.1 x m

pub find_none : (σ : Solutions) (k : ℕ) → Free (solved_unknowns σ) (node 17 k) → find k σ ≡ None
unfolding find
find_none [] k h = refl
find_none (◌≔◌ j s ∷ σ) k h = ap {B = Option Ty} (λ b. cond b (Some s) (find k σ)) h.0 ∙ find_none σ k h.1

pub find-none-free : (σ : Solutions) (k : ℕ) → find k σ ≡ None → Free (solved_unknowns σ) (node 17 k)
unfolding find
find-none-free [] k e = tt
find-none-free (◌≔◌ j r ∷ σ) k e = go (eqb j k) refl e (find-none-free σ k)
  where
    go : (b : Bool) → eqb j k ≡ b → cond b (Some r) (find k σ) ≡ None → (find k σ ≡ None → Free (solved_unknowns σ) (node 17 k)) → Free (j ∷ solved_unknowns σ) (node 17 k)
    go true p q f = absurd (none-some r (sym q))
    go false p q f = (p, f q)

---------------------------------------------------------------- a node that is a solved unknown, and one that is not
-- a node of another kind is no unknown
pub other-free : (ks : List ℕ) (j v : ℕ) → j ≢ 17 → Free ks (node j v)
other-free ks j v h = all_of (λ k. Avoids k (node j v)) ks (λ k m. ap (λ b. b && eqb k v) (eqb-false 17 j (λ e. h (sym e))))

module _ (σ : Solutions) where
  -- one of the two
  pub by-solved : (n : Node) {P : Type 0} → ((v : ℕ) (s : Ty) → n ≡ node 17 v → find v σ ≡ Some s → P) → (is_solved σ n ≡ false → P) → P
  by-solved (node k v) {P} f g = go (eqb k 17) refl (find v σ) refl
    where
      go : (b : Bool) → eqb k 17 ≡ b → (o : Option Ty) → find v σ ≡ o → P
      go true e (Some s) q = f v s (ap (λ (j : ℕ). node j v) (eqb-true k 17 e)) q
      go true e None q = g (ap (λ (b : Bool). cond b (known (find v σ)) false) e ∙ ap known q)
      go false e o q = g (ap (λ (b : Bool). cond b (known (find v σ)) false) e)

  pub link-solved : (v : ℕ) (s : Ty) → find v σ ≡ Some s → link σ (node 17 v) ≡ s
  link-solved v s e = ap (or_unknown v) e

  pub link-unsolved : (n : Node) → is_solved σ n ≡ false → link σ n ≡ n ∷ []
  link-unsolved (node k v) e = go (eqb k 17) refl (find v σ) refl e
    where
      go : (b : Bool) → eqb k 17 ≡ b → (o : Option Ty) → find v σ ≡ o → cond b (known o) false ≡ false → cond b (or_unknown v o) (node k v ∷ []) ≡ node k v ∷ []
      go true p None q e = ap {B = Ty} (λ j. node j v ∷ []) (sym (eqb-true k 17 p))
      go true p (Some s) q e = absurd (true≢false e)
      go false p o q e = refl

  free-unsolved : (n : Node) → Free (solved_unknowns σ) n → is_solved σ n ≡ false
  free-unsolved (node k v) h = go (eqb k 17) refl
    where
      go : (b : Bool) → eqb k 17 ≡ b → cond b (known (find v σ)) false ≡ false
      go true e = ap known (find_none σ v (subst (λ (j : ℕ). Free (solved_unknowns σ) (node j v)) (eqb-true k 17 e) h))
      go false e = refl

  unsolved-free : (n : Node) → is_solved σ n ≡ false → Free (solved_unknowns σ) n
  unsolved-free (node k v) h = go (eqb k 17) refl (find v σ) refl h
    where
      go : (b : Bool) → eqb k 17 ≡ b → (o : Option Ty) → find v σ ≡ o → cond b (known o) false ≡ false → Free (solved_unknowns σ) (node k v)
      go true e None q h = subst⁻¹ (λ (j : ℕ). Free (solved_unknowns σ) (node j v)) (eqb-true k 17 e) (find-none-free σ v q)
      go true e (Some s) q h = absurd (true≢false h)
      go false e o q h = other-free (solved_unknowns σ) k v (λ p. true≢false (sym (ap (λ (j : ℕ). eqb j 17) p) ∙ e))

---------------------------------------------------------------- links, one after the other
module _ (σ : Solutions) where
  links-append : (s t : Ty) → links σ (s ++ t) ≡ links σ s ++ links σ t
  unfolding links
  links-append [] t = refl
  links-append (n ∷ s) t = ap {B = Ty} (λ l. link σ n ++ l) (links-append s t) ∙ sym (append_assoc (link σ n) (links σ s) (links σ t))

  pub links-still : (t : Ty) → All (λ n. is_solved σ n ≡ false) t → links σ t ≡ t
  unfolding links
  links-still [] h = refl
  links-still (n ∷ t) h = ap₂ {C = Ty} (λ x y. x ++ y) (link-unsolved σ n h.0) (links-still t h.1)

  none-solved : (t : Ty) → any_solved σ t ≡ false → All (λ n. is_solved σ n ≡ false) t
  unfolding any_solved
  none-solved [] e = tt
  none-solved (n ∷ t) e = go (is_solved σ n) refl e (none-solved t)
    where
      go : (b : Bool) → is_solved σ n ≡ b → (b || any_solved σ t) ≡ false → (any_solved σ t ≡ false → All (λ n. is_solved σ n ≡ false) t) → All (λ n. is_solved σ n ≡ false) (n ∷ t)
      go true p q f = absurd (true≢false q)
      go false p q f = (p, f q)

  -- without the test
  unfoldable pub times : ℕ → Ty → Ty
  times zero t = t
  times (suc n) t = times n (links σ t)

  times-still : (n : ℕ) (t : Ty) → All (λ n. is_solved σ n ≡ false) t → times n t ≡ t
  unfolding times
  times-still zero t h = refl
  times-still (suc n) t h = ap (times n) (links-still t h) ∙ times-still n t h

  by-times : (n : ℕ) (t : Ty) → write_out_by n σ t ≡ times n t
  unfolding write_out_by times
  by-times zero t = refl
  by-times (suc n) t = go (any_solved σ t) refl (by-times n (links σ t))
    where
      go : (b : Bool) → any_solved σ t ≡ b → write_out_by n σ (links σ t) ≡ times n (links σ t) → elim b [ true ↦ write_out_by n σ (links σ t) | false ↦ t ] ≡ times n (links σ t)
      go true e h = h
      go false e h =
          let u = none-solved t e in
          sym (ap (times n) (links-still t u) ∙ times-still n t u)

  times-append : (n : ℕ) (s t : Ty) → times n (s ++ t) ≡ times n s ++ times n t
  unfolding times
  times-append zero s t = refl
  times-append (suc n) s t = ap (times n) (links-append s t) ∙ times-append n (links σ s) (links σ t)

  times-last : (n : ℕ) (t : Ty) → times n (links σ t) ≡ links σ (times n t)
  unfolding times
  times-last zero t = refl
  times-last (suc n) t = times-last n (links σ t)

  pub written-times : (t : Ty) → write_out σ t ≡ times (length σ) t
  unfolding write_out
  written-times t = by-times (length σ) t

pub written-append : (σ : Solutions) (s t : Ty) → write_out σ (s ++ t) ≡ write_out σ s ++ write_out σ t
written-append σ s t =
    written-times σ (s ++ t) ∙ times-append σ (length σ) s t ∙ sym (ap₂ {C = Ty} (λ x y. x ++ y) (written-times σ s) (written-times σ t))

pub written-free : (σ : Solutions) (t : Ty) → All (Free (solved_unknowns σ)) t → write_out σ t ≡ t
written-free σ t h = written-times σ t ∙ times-still σ (length σ) t (all_map (free-unsolved σ) t h)

-- a node that is no unknown stays
pub written-node : (σ : Solutions) (j v : ℕ) → j ≢ 17 → write_out σ (node j v ∷ []) ≡ node j v ∷ []
written-node σ j v h = written-free σ (node j v ∷ []) (other-free (solved_unknowns σ) j v h, tt)

---------------------------------------------------------------- what holds of every node is kept
module _ (P : Node → Type 0) (σ : Solutions) (hσ : All (λ x. All P (value x)) σ) where
  all-links : (t : Ty) → All P t → All P (links σ t)
  unfolding links
  all-links [] h = tt
  all-links (n ∷ t) h =
      all_append P (link σ n) (links σ t)
      (by-solved σ n
      (λ v s e q. subst⁻¹ (All P) (ap (link σ) e ∙ link-solved σ v s q) (all_in (λ x. All P (value x)) σ (◌≔◌ v s) (find-some σ v s q) hσ))
      (λ e. subst⁻¹ (All P) (link-unsolved σ n e) (h.0, tt)))
      (all-links t h.1)

  all-times : (n : ℕ) (t : Ty) → All P t → All P (times σ n t)
  unfolding times
  all-times zero t h = h
  all-times (suc n) t h = all-times n (links σ t) (all-links t h)

pub all-written : (P : Node → Type 0) (σ : Solutions) (t : Ty) → All (λ x. All P (value x)) σ → All P t → All P (write_out σ t)
all-written P σ t hσ h = subst⁻¹ (All P) (written-times σ t) (all-times P σ hσ (length σ) t h)

---------------------------------------------------------------- solutions that lead nowhere back
module _ (σ : Solutions) (f : Fine σ) where
  -- as many links as the rank leave no solved unknown
  settle : (m : ℕ) (t : Ty) → All (Under f.rank σ m) t → All (λ n. is_solved σ n ≡ false) (times σ m t)
  unfolding times links
  settle zero t h = all_map (λ n u. by-solved σ n (λ v s e q. absurd (not-suc-le-zero (u v s e (find-some σ v s q)))) (λ e. e)) t h
  settle (suc m) t h = settle m (links σ t) (down t h)
    where
      down : (t : Ty) → All (Under f.rank σ (suc m)) t → All (Under f.rank σ m) (links σ t)
      down [] h = tt
      down (n ∷ t) h =
          all_append (Under f.rank σ m) (link σ n) (links σ t)
          (by-solved σ n
          (λ v s e q.
          let i = find-some σ v s q in
          let l = h.0 v s e i in
          subst⁻¹ (All (Under f.rank σ m)) (ap (link σ) e ∙ link-solved σ v s q)
          (all_map (λ x u j r p k. (let z = u j r p k in omega arith)) s (all_in (λ x. All (Under f.rank σ (f.rank (key x))) (value x)) σ (◌≔◌ v s) i f.falls)))
          (λ e. subst⁻¹ (All (Under f.rank σ m)) (link-unsolved σ n e)
          ((λ j r p k. absurd (true≢false (sym (ap (is_solved σ) p ∙ ap known (find-in σ f.once (◌≔◌ j r) k)) ∙ e))), tt)))
          (down t h.1)

  pub low-in : (x : Solution) → In x σ → f.rank (key x) < length σ
  low-in x m = all_in (λ y. f.rank (key y) < length σ) σ x m f.low

  pub rank_falls : (j k : ℕ) (s : Ty) → Follows σ j k → In (◌≔◌ j s) σ → f.rank j < f.rank k
  rank_falls j k s p i =
      all_in (Under f.rank σ (f.rank k)) p.0 (node 17 j) p.2 (all_in (λ x. All (Under f.rank σ (f.rank (key x))) (value x)) σ (◌≔◌ k p.0) p.1 f.falls) j s refl i

  -- a written-out type has none of the solved unknowns
  pub written-is-free : (t : Ty) → All (Free (solved_unknowns σ)) (write_out σ t)
  written-is-free t =
      subst⁻¹ (All (Free (solved_unknowns σ))) (written-times σ t)
      (all_map (unsolved-free σ) (times σ (length σ) t) (settle (length σ) t (all_of (Under f.rank σ (length σ)) t (λ n m j s e i. low-in (◌≔◌ j s) i))))

  -- a solved unknown is, written out, its solution written out
  pub solved : (x : Solution) → In x σ → write_out σ (unknown (key x)) ≡ write_out σ (value x)
  unfolding times links
  solved (◌≔◌ k s) i = written-times σ (unknown k) ∙ go (length σ) refl ∙ sym (written-times σ s)
    where
      first : links σ (unknown k) ≡ s
      first = append-nil (link σ (node 17 k)) ∙ link-solved σ k s (find-in σ f.once (◌≔◌ k s) i)

      go : (n : ℕ) → length σ ≡ n → times σ n (unknown k) ≡ times σ n s
      go zero e = absurd (let l = low-in (◌≔◌ k s) i in omega arith)
      go (suc m) e =
          let l = low-in (◌≔◌ k s) i in
          let u = settle m s (all_map (λ x h j r p q. (let z = h j r p q in omega arith)) s (all_in (λ x. All (Under f.rank σ (f.rank (key x))) (value x)) σ (◌≔◌ k s) i f.falls)) in
          ap (times σ m) first ∙ sym (times-last σ m s ∙ links-still σ (times σ m s) u)

  -- going on until there is no solution to follow ends
  acc : (m k : ℕ) → ((s : Ty) → In (◌≔◌ k s) σ → f.rank k < m) → Acc (Follows σ) k
  acc zero k h = Acc.intro k (λ j p. absurd (not-suc-le-zero (h p.0 p.1)))
  acc (suc m) k h =
      Acc.intro k (λ j p. acc m j (λ s i.
      (let l = h p.0 p.1 in
      let z = rank_falls j k s p i in
      omega arith)))

  pub ends : (k : ℕ) → Acc (Follows σ) k
  ends k = acc (length σ) k (λ s i. low-in (◌≔◌ k s) i)

then : {σ : Solutions} {i j k : ℕ} → Leads σ j k → Follows σ i j → Leads σ i k
then (one p) q = more (one q) p
then (more l p) q = more (then l q) p

never : (σ : Solutions) (k : ℕ) → Acc (Follows σ) k → Leads σ k k → ⊥
never σ k (Acc.intro x h) l = back x l (λ j p. never σ j (h j p))
  where
    back : (x : ℕ) → Leads σ x x → ((j : ℕ) → Follows σ j x → Leads σ j j → ⊥) → ⊥
    back x l ih = back' x x l ih refl
      where
        back' : (i x : ℕ) → Leads σ i x → ((j : ℕ) → Follows σ j x → Leads σ j j → ⊥) → i ≡ x → ⊥
        back' i x (one p) ih e = ih i p (one (subst⁻¹ (λ k. Follows σ i k) e p))
        back' i x (more {j = j} l p) ih e = ih j p (then l (subst⁻¹ (λ k. Follows σ j k) e p))

pub never_back : (σ : Solutions) → Fine σ → (k : ℕ) → Leads σ k k → ⊥
never_back σ f k l = never σ k (ends σ f k) l

pub unsolved : (σ : Solutions) (k : ℕ) → Free (solved_unknowns σ) (node 17 k) → write_out σ (unknown k) ≡ unknown k
unsolved σ k h = written-free σ (unknown k) (h, tt)

---------------------------------------------------------------- one more solution
pub no-fine : Fine []
no-fine = record { rank = λ k. 0; once = tt; low = tt; falls = tt }

in-snoc : (σ : Solutions) (x y : Solution) → In x (σ ++ (y ∷ [])) → In x σ ⊎ (x ≡ y)
in-snoc [] x y (inl e) = inr e
in-snoc [] x y (inr m) = absurd m
in-snoc (z ∷ σ) x y (inl e) = inl (inl e)
in-snoc (z ∷ σ) x y (inr m) = elim (in-snoc σ x y m) [ inl i ↦ inl (inr i) | inr e ↦ inr e ]

-- a solved unknown is not free
pub in-avoids : (σ : Solutions) (x : Solution) → In x σ → Free (solved_unknowns σ) (node 17 (key x)) → ⊥
in-avoids σ x m h = true≢false (sym (eqb_same (key x)) ∙ all_in (λ k. Avoids k (node 17 (key x))) (solved_unknowns σ) (key x) (in-solved σ x m) h)

free_one : (k : ℕ) (ks : List ℕ) → Free (k ∷ ks) (node 17 k) → ⊥
free_one k ks h = true≢false (sym (eqb_same k) ∙ h.0)

distinct_snoc : (σ : Solutions) (k : ℕ) (s : Ty) → Distinct (solved_unknowns σ) → Free (solved_unknowns σ) (node 17 k) → Distinct (solved_unknowns (σ ++ (◌≔◌ k s ∷ [])))
distinct_snoc [] k s d h = (tt, tt)
distinct_snoc (◌≔◌ j r ∷ σ) k s d h = (others σ d.0, distinct_snoc σ k s d.1 h.1)
  where
    others : (τ : Solutions) → All (λ i. j ≢ i) (solved_unknowns τ) → All (λ i. j ≢ i) (solved_unknowns (τ ++ (◌≔◌ k s ∷ [])))
    others [] a = ((λ e. true≢false (sym (eqb_same j) ∙ subst (λ (i : ℕ). eqb j i ≡ false) (sym e) h.0)), tt)
    others (◌≔◌ i u ∷ τ) a = (a.0, others τ a.1)

pub fine-snoc : (σ : Solutions) (k : ℕ) (s : Ty) → Fine σ → Free (solved_unknowns σ) (node 17 k) → All (Free (k ∷ solved_unknowns σ)) s → Fine (σ ++ (◌≔◌ k s ∷ []))
fine-snoc σ k s f u h = record {
  rank = rank;
  once = distinct_snoc σ k s f.once u;
  low = all_append (λ x. rank (key x) < length ω) σ (◌≔◌ k s ∷ []) (all_of (λ x. rank (key x) < length ω) σ (λ x m. (let a = old x m in let l = low-in σ f x m in let z = long in omega arith))) ((let a = new in let z = long in omega arith), tt);
  falls = all_append (λ x. All (Under rank ω (rank (key x))) (value x)) σ (◌≔◌ k s ∷ [])
      (all_of (λ x. All (Under rank ω (rank (key x))) (value x)) σ (λ x m. all_of (Under rank ω (rank (key x))) (value x) (λ n i j r e q. older x m n i j r e (in-snoc σ (◌≔◌ j r) (◌≔◌ k s) q))))
      (all_map (λ n g j r e q. absurd (newer n g j r e (in-snoc σ (◌≔◌ j r) (◌≔◌ k s) q))) s h, tt);
}
  where
    ω : Solutions
    ω = σ ++ (◌≔◌ k s ∷ [])

    rank : ℕ → ℕ
    rank j = cond (eqb j k) 0 (suc (f.rank j))

    long : length ω ≡ length σ + 1
    long = length-append σ (◌≔◌ k s ∷ [])

    new : rank k ≡ 0
    new = ap (λ (b : Bool). cond b 0 (suc (f.rank k))) (eqb_same k)

    old : (x : Solution) → In x σ → rank (key x) ≡ suc (f.rank (key x))
    old x m = ap (λ (b : Bool). cond b 0 (suc (f.rank (key x)))) (eqb-false (key x) k (λ e. in-avoids σ x m (subst⁻¹ (λ (j : ℕ). Free (solved_unknowns σ) (node 17 j)) e u)))

    older : (x : Solution) → In x σ → (n : Node) → In n (value x) → (j : ℕ) (r : Ty) → n ≡ node 17 j → In (◌≔◌ j r) σ ⊎ (◌≔◌ j r ≡ ◌≔◌ k s) → rank j < rank (key x)
    older x m n i j r e (inl q) =
        let a = old x m in
        let b = old (◌≔◌ j r) q in
        let l = all_in (Under f.rank σ (f.rank (key x))) (value x) n i (all_in (λ y. All (Under f.rank σ (f.rank (key y))) (value y)) σ x m f.falls) j r e q in
        omega arith
    older x m n i j r e (inr q) =
        let a = old x m in
        let b : rank j ≡ 0 = ap (λ (y : Solution). rank (key y)) q ∙ new in
        omega arith

    newer : (n : Node) → Free (k ∷ solved_unknowns σ) n → (j : ℕ) (r : Ty) → n ≡ node 17 j → In (◌≔◌ j r) σ ⊎ (◌≔◌ j r ≡ ◌≔◌ k s) → ⊥
    newer n g j r e (inl q) = in-avoids σ (◌≔◌ j r) q (subst (Free (k ∷ solved_unknowns σ)) e g).1
    newer n g j r e (inr q) = free_one k (solved_unknowns σ) (subst (λ (i : ℕ). Free (k ∷ solved_unknowns σ) (node 17 i)) (ap key q) (subst (Free (k ∷ solved_unknowns σ)) e g))

-- the solution just given: under all later solutions its unknown is the same type
pub in-append : (σ τ : Solutions) (x : Solution) → In x σ → In x (σ ++ τ)
in-append [] τ x m = absurd m
in-append (y ∷ σ) τ x (inl e) = inl e
in-append (y ∷ σ) τ x (inr m) = inr (in-append σ τ x m)

pub in-last : (σ : Solutions) (x : Solution) → In x (σ ++ (x ∷ []))
in-last [] x = inl refl
in-last (y ∷ σ) x = inr (in-last σ x)

pub solved-now : (σ τ : Solutions) (k : ℕ) (s : Ty) → Fine ((σ ++ (◌≔◌ k s ∷ [])) ++ τ) → write_out ((σ ++ (◌≔◌ k s ∷ [])) ++ τ) (unknown k) ≡ write_out ((σ ++ (◌≔◌ k s ∷ [])) ++ τ) s
solved-now σ τ k s f = solved ((σ ++ (◌≔◌ k s ∷ [])) ++ τ) f (◌≔◌ k s) (in-append (σ ++ (◌≔◌ k s ∷ [])) τ (◌≔◌ k s) (in-last σ (◌≔◌ k s)))

-- a written-out type is, under later solutions, the type
module _ (σ τ : Solutions) (f : Fine (σ ++ τ)) where
  linked-again : (t : Ty) → write_out (σ ++ τ) (links σ t) ≡ write_out (σ ++ τ) t
  unfolding links
  linked-again [] = refl
  linked-again (n ∷ t) =
      written-append (σ ++ τ) (link σ n) (links σ t)
      ∙ ap₂ {C = Ty} (λ x y. x ++ y)
      (by-solved σ n
      (λ v s e q. ap (write_out (σ ++ τ)) (ap (link σ) e ∙ link-solved σ v s q) ∙ sym (solved (σ ++ τ) f (◌≔◌ v s) (in-append σ τ (◌≔◌ v s) (find-some σ v s q))) ∙ ap (λ (m : Node). write_out (σ ++ τ) (m ∷ [])) (sym e))
      (λ e. ap (write_out (σ ++ τ)) (link-unsolved σ n e)))
      (linked-again t)
      ∙ sym (written-append (σ ++ τ) (n ∷ []) t)

  times-again : (n : ℕ) (t : Ty) → write_out (σ ++ τ) (times σ n t) ≡ write_out (σ ++ τ) t
  unfolding times
  times-again zero t = refl
  times-again (suc n) t = times-again n (links σ t) ∙ linked-again t

  pub written-again : (t : Ty) → write_out (σ ++ τ) (write_out σ t) ≡ write_out (σ ++ τ) t
  written-again t = ap (write_out (σ ++ τ)) (written-times σ t) ∙ times-again (length σ) t
