-- Laws of `words`, `nodes_at` and `sets`. Assumes nothing.
use Rattle.std.proofs.Common.{◌≡◌, refl, sym, ap, ap₂, ◌∙◌, Bool, true, false, List, [], ◌∷◌, ◌++◌, ℕ, zero, suc, ◌+◌, ◌*◌, ◌-◌, ◌≤◌, ◌<◌, add-zero, not-suc-le-zero, add-one, arith, length, get_or, set, take, drop, replicate, length-set, drop-cons, get_or-set_same, get_or-set_other, leb, leb-true, leb-false, le-leb}
use native.Mathlib.Numerals.{add-two, towards_suc}
use lib.ListN.{length-replicate}
use lib.Seq.{paste, sets, sets-eq, take-length, set_comm}
use borrow.Author.Tests.{lt-leb}
use borrow.Rule.Slice.PartMut.{put_mid}
use Rattle.std.proofs.lemmas.Slice.{put_mid-paste}
use Rattle.nodes.specs.Nodes.{Node, node, words, nodes_at, zeros}

-- ---- stores one after another

pub sets-append : (l : List ℕ) (i : ℕ) (vs ws : List ℕ) → sets l i (vs ++ ws) ≡ sets (sets l i vs) (i + length vs) ws
sets-append l i [] ws = ap (λ (k : ℕ). sets l k ws) (sym (add-zero i))
sets-append l i (a ∷ vs) ws =
    let e : suc i + length vs ≡ i + suc (length vs) = omega arith in
    sets-append (set l i a) (suc i) vs ws ∙ ap (λ (k : ℕ). sets (sets (set l i a) (suc i) vs) k ws) e

pub getD-sets-below : (l : List ℕ) (i : ℕ) (vs : List ℕ) (j : ℕ) → j < i → get_or (sets l i vs) j 0 ≡ get_or l j 0
getD-sets-below l i [] j h = refl
getD-sets-below l i (a ∷ vs) j h =
    getD-sets-below (set l i a) (suc i) vs j (omega arith) ∙ get_or-set_other l i j a 0 (omega arith)

pub getD-sets-above : (l : List ℕ) (i : ℕ) (vs : List ℕ) (j : ℕ) → i + length vs ≤ j → get_or (sets l i vs) j 0 ≡ get_or l j 0
getD-sets-above l i [] j h = refl
getD-sets-above l i (a ∷ vs) j h =
    let h' : i + suc (length vs) ≤ j = h in
    getD-sets-above (set l i a) (suc i) vs j (omega arith) ∙ get_or-set_other l i j a 0 (omega arith)

-- ---- words and nodes

pub length-words : (t : List Node) → length (words t) ≡ 2 * length t
unfolding words
length-words [] = refl
length-words (node k v ∷ t) = let ih = length-words t in omega arith

pub words_append : (s t : List Node) → words (s ++ t) ≡ words s ++ words t
unfolding words
words_append [] t = refl
words_append (node k v ∷ s) t = ap (λ (r : List ℕ). k ∷ v ∷ r) (words_append s t)

pub length-nodes_at : (b : List ℕ) (p n : ℕ) → length (nodes_at b p n) ≡ n
unfolding nodes_at
length-nodes_at b p zero = refl
length-nodes_at b p (suc n) = ap suc (length-nodes_at b (p + 2) n)

-- the first node and the others
pub nodes_at-cons : (b : List ℕ) (p n : ℕ) → 0 < n → nodes_at b p n ≡ node (get_or b p 0) (get_or b (p + 1) 0) ∷ nodes_at b (p + 2) (n - 1)
unfolding nodes_at
nodes_at-cons b p zero h = absurd (not-suc-le-zero h)
nodes_at-cons b p (suc n) h =
    let e : n ≡ suc n - 1 = omega arith in
    ap (λ (k : ℕ). node (get_or b p 0) (get_or b (p + 1) 0) ∷ nodes_at b (p + 2) k) e

pub nodes_at-append : (b : List ℕ) (p n m : ℕ) → nodes_at b p (n + m) ≡ nodes_at b p n ++ nodes_at b (p + 2 * n) m
unfolding nodes_at
nodes_at-append b p zero m =
    let e : 0 + m ≡ m = omega arith in
    let f : p ≡ p + 2 * 0 = omega arith in
    ap₂ (λ (x y : ℕ). nodes_at b x y) f e
nodes_at-append b p (suc n) m =
    let e : suc n + m ≡ suc (n + m) = omega arith in
    let f : (p + 2) + 2 * n ≡ p + 2 * suc n = omega arith in
    ap (λ (k : ℕ). nodes_at b p k) e
    ∙ ap (λ (r : List Node). node (get_or b p 0) (get_or b (p + 1) 0) ∷ r)
    (nodes_at-append b (p + 2) n m ∙ ap (λ (k : ℕ). nodes_at b (p + 2) n ++ nodes_at b k m) f)

-- one more node at the end
pub nodes_at-snoc : (b : List ℕ) (p n : ℕ) → nodes_at b p (n + 1) ≡ nodes_at b p n ++ (node (get_or b (p + 2 * n) 0) (get_or b (p + 2 * n + 1) 0) ∷ [])
unfolding nodes_at
nodes_at-snoc b p n = nodes_at-append b p n 1

-- ---- what a run of stores leaves of nodes

pub nodes_at-below : (b : List ℕ) (i : ℕ) (vs : List ℕ) (p n : ℕ) → p + 2 * n ≤ i → nodes_at (sets b i vs) p n ≡ nodes_at b p n
unfolding nodes_at
nodes_at-below b i vs p zero h = refl
nodes_at-below b i vs p (suc n) h =
    rw (getD-sets-below b i vs p (omega arith), getD-sets-below b i vs (p + 1) (omega arith), nodes_at-below b i vs (p + 2) n (omega arith))

pub nodes_at-above : (b : List ℕ) (i : ℕ) (vs : List ℕ) (p n : ℕ) → i + length vs ≤ p → nodes_at (sets b i vs) p n ≡ nodes_at b p n
unfolding nodes_at
nodes_at-above b i vs p zero h = refl
nodes_at-above b i vs p (suc n) h =
    rw (getD-sets-above b i vs p h, getD-sets-above b i vs (p + 1) (omega arith), nodes_at-above b i vs (p + 2) n (omega arith))

pub nodes_at-same : (t : List Node) (b : List ℕ) (p : ℕ) → p + 2 * length t ≤ length b → nodes_at (sets b p (words t)) p (length t) ≡ t
unfolding nodes_at words
nodes_at-same [] b p h = refl
nodes_at-same (node k v ∷ t) b p h =
    let h' : p + 2 * suc (length t) ≤ length b = h in
    let b₂ : List ℕ = set (set b p k) (suc p) v in
    let e₀ : get_or (sets b₂ (suc (suc p)) (words t)) p 0 ≡ k =
    getD-sets-below b₂ (suc (suc p)) (words t) p (omega arith)
    ∙ get_or-set_other (set b p k) (suc p) p v 0 (omega arith)
    ∙ get_or-set_same b p k 0 (omega arith) in
    let e₁ : get_or (sets b₂ (suc (suc p)) (words t)) (p + 1) 0 ≡ v =
    ap (λ (j : ℕ). get_or (sets b₂ (suc (suc p)) (words t)) j 0) (add-one p)
    ∙ getD-sets-below b₂ (suc (suc p)) (words t) (suc p) (omega arith)
    ∙ get_or-set_same (set b p k) (suc p) v 0 (omega (arith, length-set b p k)) in
    let e₂ : nodes_at (sets b₂ (suc (suc p)) (words t)) (p + 2) (length t) ≡ t =
    ap (λ (j : ℕ). nodes_at (sets b₂ (suc (suc p)) (words t)) j (length t)) (add-two p)
    ∙ nodes_at-same t b₂ (suc (suc p)) (omega (arith, length-set (set b p k) (suc p) v, length-set b p k)) in
    rw (e₀, e₁, e₂)

-- one more node stored: two more stores
pub two-more : (l : List ℕ) (i : ℕ) (t : List Node) (k v : ℕ)
    → set (set (sets l i (words t)) (i + 2 * length t) k) (i + 2 * length t + 1) v ≡ sets l i (words (t ++ (node k v ∷ [])))
unfolding words
two-more l i t k v =
    let j : ℕ = i + 2 * length t in
    let e : i + length (words t) ≡ j = ap (λ (x : ℕ). i + x) (length-words t) in
    ap (λ (x : ℕ). set (set (sets l i (words t)) j k) x v) (add-one j)
    ∙ ap (λ (x : ℕ). sets (sets l i (words t)) x (k ∷ v ∷ [])) (sym e)
    ∙ sym (sets-append l i (words t) (k ∷ v ∷ []))
    ∙ ap (λ (r : List ℕ). sets l i r) (sym (words_append t (node k v ∷ [])))

-- what a run of stores stored
pub getD-sets-in : (l : List ℕ) (i : ℕ) (vs : List ℕ) (k : ℕ) → k < length vs → i + length vs ≤ length l → get_or (sets l i vs) (i + k) 0 ≡ get_or vs k 0
getD-sets-in l i [] k h f = absurd (not-suc-le-zero h)
getD-sets-in l i (a ∷ vs) zero h f =
    rw (add-zero i) (getD-sets-below (set l i a) (suc i) vs i (omega arith) ∙ get_or-set_same l i a 0 (omega arith))
getD-sets-in l i (a ∷ vs) (suc k) h f =
    let e : i + suc k ≡ suc i + k = omega arith in
    rw e (getD-sets-in (set l i a) (suc i) vs k (omega arith) (omega (arith, length-set l i a)))

pub take-nodes_at : (b : List ℕ) (p n k : ℕ) → k ≤ n → take k (nodes_at b p n) ≡ nodes_at b p k
unfolding nodes_at
take-nodes_at b p n zero h = refl
take-nodes_at b p zero (suc k) h = absurd (not-suc-le-zero h)
take-nodes_at b p (suc n) (suc k) h = ap (λ (r : List Node). node (get_or b p 0) (get_or b (p + 1) 0) ∷ r) (take-nodes_at b (p + 2) n k (omega arith))

pub drop-nodes_at : (b : List ℕ) (p n k : ℕ) → k ≤ n → drop k (nodes_at b p n) ≡ nodes_at b (p + 2 * k) (n - k)
unfolding nodes_at
drop-nodes_at b p n zero h =
    let e : p ≡ p + 2 * 0 = omega arith in
    let f : n ≡ n - 0 = omega arith in
    ap₂ (λ (x y : ℕ). nodes_at b x y) e f
drop-nodes_at b p zero (suc k) h = absurd (not-suc-le-zero h)
drop-nodes_at b p (suc n) (suc k) h =
    let e : p + 2 + 2 * k ≡ p + 2 * suc k = omega arith in
    let f : n - k ≡ suc n - suc k = omega arith in
    drop-nodes_at b (p + 2) n k (omega arith) ∙ ap₂ (λ (x y : ℕ). nodes_at b x y) e f

-- words that do not change keep the nodes
pub nodes_at-agree : (b b' : List ℕ) (p n : ℕ) → ((j : ℕ) → p ≤ j → j < p + 2 * n → get_or b' j 0 ≡ get_or b j 0) → nodes_at b' p n ≡ nodes_at b p n
unfolding nodes_at
nodes_at-agree b b' p zero f = refl
nodes_at-agree b b' p (suc n) f =
    rw (f p (omega arith) (omega arith), f (p + 1) (omega arith) (omega arith), nodes_at-agree b b' (p + 2) n (λ j l q. f j (omega arith) (omega arith)))

-- ---- a sum tested by a difference
pub leb-shift : (a n m : ℕ) → n ≤ m → leb a (m - n) ≡ leb (a + n) m
leb-shift a n m h = go (leb (a + n) m) refl
  where
    go : (c : Bool) → leb (a + n) m ≡ c → leb a (m - n) ≡ c
    go true q = let l = leb-true (a + n) m q in le-leb a (m - n) (omega arith)
    go false q = let l = leb-false (a + n) m q in lt-leb a (m - n) (omega arith)

-- ---- stores in another order
set_past : (l : List ℕ) (i a j : ℕ) (ws : List ℕ) → i < j → set (sets l j ws) i a ≡ sets (set l i a) j ws
set_past l i a j [] h = refl
set_past l i a j (b ∷ ws) h =
    set_past (set l j b) i a (suc j) ws (omega arith) ∙ ap (λ (r : List ℕ). sets r (suc j) ws) (set_comm l j i b a (λ e. (let d : j ≡ i = e in omega arith)))

-- a run of stores and one above it
pub sets-swap : (l : List ℕ) (i : ℕ) (vs : List ℕ) (j : ℕ) (ws : List ℕ) → i + length vs ≤ j → sets (sets l j ws) i vs ≡ sets (sets l i vs) j ws
sets-swap l i [] j ws h = refl
sets-swap l i (a ∷ vs) j ws h =
    let h' : i + suc (length vs) ≤ j = h in
    ap (λ (r : List ℕ). sets r (suc i) vs) (set_past l i a j ws (omega arith)) ∙ sets-swap (set l i a) (suc i) vs j ws (omega arith)

-- the nodes of t stored just below those of u
pub sets_below : (l : List ℕ) (i : ℕ) (t : List Node) (j : ℕ) (u : List Node) → i + 2 * length t ≡ j → sets (sets l j (words u)) i (words t) ≡ sets l i (words (t ++ u))
sets_below l i t j u e =
    let f : i + length (words t) ≡ j = ap (λ (x : ℕ). i + x) (length-words t) ∙ e in
    let g : i + length (words t) ≤ j = omega arith in
    sets-swap l i (words t) j (words u) g
    ∙ ap (λ (k : ℕ). sets (sets l i (words t)) k (words u)) (sym f)
    ∙ sym (sets-append l i (words t) (words u))
    ∙ ap (sets l i) (sym (words_append t u))

-- ---- turns of the loops that copy and move nodes
pub copy_step : (d s : List ℕ) (at from i : ℕ) (e : List ℕ) → e ≡ sets d at (words (nodes_at s from i))
    → set (set e (at + 2 * i) (get_or s (from + 2 * i) 0)) (at + 2 * i + 1) (get_or s (from + 2 * i + 1) 0) ≡ sets d at (words (nodes_at s from (i + 1)))
copy_step d s at from i e h =
    let k : ℕ = get_or s (from + 2 * i) 0 in
    let v : ℕ = get_or s (from + 2 * i + 1) 0 in
    let t : List Node = nodes_at s from i in
    ap (λ (r : List ℕ). set (set r (at + 2 * i) k) (at + 2 * i + 1) v) h
    ∙ ap (λ (n : ℕ). set (set (sets d at (words t)) (at + 2 * n) k) (at + 2 * n + 1) v) (sym (length-nodes_at s from i))
    ∙ two-more d at t k v
    ∙ ap (λ (r : List Node). sets d at (words r)) (sym (nodes_at-snoc s from i))

-- a turn of the loop that moves nodes to the front: what it reads is not yet overwritten
pub move_step : (l : List ℕ) (from i : ℕ) (e : List ℕ) → e ≡ sets l 0 (words (nodes_at l from i))
    → set (set e (2 * i) (get_or e (from + 2 * i) 0)) (2 * i + 1) (get_or (set e (2 * i) (get_or e (from + 2 * i) 0)) (from + 2 * i + 1) 0) ≡ sets l 0 (words (nodes_at l from (i + 1)))
move_step l from i e h =
    let z : 0 + 2 * i ≡ 2 * i = omega arith in
    let n = length-words (nodes_at l from i) in
    let m = length-nodes_at l from i in
    let read : (j : ℕ) → 2 * i ≤ j → get_or e j 0 ≡ get_or l j 0 =
    λ j q. ap (λ (x : List ℕ). get_or x j 0) h ∙ getD-sets-above l 0 (words (nodes_at l from i)) j (omega arith) in
    let a : get_or e (from + 2 * i) 0 ≡ get_or l (from + 2 * i) 0 = read (from + 2 * i) (omega arith) in
    let b : get_or (set e (2 * i) (get_or l (from + 2 * i) 0)) (from + 2 * i + 1) 0 ≡ get_or l (from + 2 * i + 1) 0 =
    get_or-set_other e (2 * i) (from + 2 * i + 1) (get_or l (from + 2 * i) 0) 0 (omega arith) ∙ read (from + 2 * i + 1) (omega arith) in
    rw (a, b) (ap (λ (x : ℕ). set (set e x (get_or l (from + 2 * i) 0)) (x + 1) (get_or l (from + 2 * i + 1) 0)) (sym z) ∙ copy_step l l 0 from i e h)

-- m more nodes moved up below the k that are moved
up_turn : (l : List ℕ) (to from i m k : ℕ) (e : List ℕ) → from ≤ to → e ≡ sets l (to + 2 * (i + m)) (words (nodes_at l (from + 2 * (i + m)) k))
    → sets e (to + 2 * i) (words (nodes_at e (from + 2 * i) m)) ≡ sets l (to + 2 * i) (words (nodes_at l (from + 2 * i) (m + k)))
up_turn l to from i m k e h q =
    let t : List Node = nodes_at l (from + 2 * i) m in
    let u : List Node = nodes_at l (from + 2 * (i + m)) k in
    let z : length t ≡ m = length-nodes_at l (from + 2 * i) m in
    let d : to + 2 * i + 2 * length t ≡ to + 2 * (i + m) = omega arith in
    let f : from + 2 * (i + m) ≡ from + 2 * i + 2 * m = omega arith in
    let r : nodes_at (sets l (to + 2 * (i + m)) (words u)) (from + 2 * i) m ≡ t = nodes_at-below l (to + 2 * (i + m)) (words u) (from + 2 * i) m (omega arith) in
    ap (λ (x : List ℕ). sets x (to + 2 * i) (words (nodes_at x (from + 2 * i) m))) q
    ∙ ap (λ (x : List Node). sets (sets l (to + 2 * (i + m)) (words u)) (to + 2 * i) (words x)) r
    ∙ sets_below l (to + 2 * i) t (to + 2 * (i + m)) u d
    ∙ ap (λ (x : List Node). sets l (to + 2 * i) (words x))
    (ap (λ (x : ℕ). t ++ nodes_at l x k) f ∙ sym (nodes_at-append l (from + 2 * i) m k))

-- a turn of the loops that move n nodes up, by m
pub up_step : (l : List ℕ) (to from n i m : ℕ) (e : List ℕ) → from ≤ to → m ≤ i → i ≤ n → e ≡ sets l (to + 2 * i) (words (nodes_at l (from + 2 * i) (n - i)))
    → sets e (to + 2 * (i - m)) (words (nodes_at e (from + 2 * (i - m)) m)) ≡ sets l (to + 2 * (i - m)) (words (nodes_at l (from + 2 * (i - m)) (n - (i - m))))
up_step l to from n i m e h b c q =
    let x : i ≡ i - m + m = omega arith in
    let y : m + (n - i) ≡ n - (i - m) = omega arith in
    up_turn l to from (i - m) m (n - i) e h (q ∙ ap (λ (j : ℕ). sets l (to + 2 * j) (words (nodes_at l (from + 2 * j) (n - i)))) x)
    ∙ ap (λ (j : ℕ). sets l (to + 2 * (i - m)) (words (nodes_at l (from + 2 * (i - m)) j))) y

-- no turn was made yet, and the last one was
pub none-up : (l : List ℕ) (i j n : ℕ) → l ≡ sets l i (words (nodes_at l j (n - n)))
unfolding words nodes_at
none-up l i j n =
    let e : n - n ≡ 0 = omega arith in
    ap (λ (k : ℕ). sets l i (words (nodes_at l j k))) (sym e)

pub up_done : (l : List ℕ) (to from n : ℕ) (e : List ℕ) → e ≡ sets l (to + 2 * 0) (words (nodes_at l (from + 2 * 0) (n - 0))) → e ≡ sets l to (words (nodes_at l from n))
up_done l to from n e q =
    let x : to + 2 * 0 ≡ to = omega arith in
    let y : from + 2 * 0 ≡ from = omega arith in
    let z : n - 0 ≡ n = omega arith in
    q ∙ rw (x, y, z)

-- the nodes that were not moved by the turns are moved at once
pub up_rest : (l : List ℕ) (to from n m : ℕ) (e e' : List ℕ) → from ≤ to → m ≤ n → e ≡ sets l (to + 2 * m) (words (nodes_at l (from + 2 * m) (n - m)))
    → e' ≡ sets e to (words (nodes_at e from m)) → e' ≡ sets l to (words (nodes_at l from n))
up_rest l to from n m e e' h b q p =
    let x : to + 2 * (m - m) ≡ to = omega arith in
    let y : from + 2 * (m - m) ≡ from = omega arith in
    let z : n - (m - m) ≡ n = omega arith in
    let w : m ≤ m = omega arith in
    p ∙ ap₂ (λ (i j : ℕ). sets e i (words (nodes_at e j m))) (sym x) (sym y) ∙ up_step l to from n m m e h w b q ∙ rw (x, y, z)

pub one-node : (l : List ℕ) (to from : ℕ) → set (set l to (get_or l from 0)) (to + 1) (get_or l (from + 1) 0) ≡ sets l to (words (nodes_at l from 1))
unfolding words nodes_at
one-node l to from = ap (λ (k : ℕ). set (set l to (get_or l from 0)) k (get_or l (from + 1) 0)) (add-one to)

pub four-nodes : (l : List ℕ) (to from : ℕ)
    → set (set (set (set (set (set (set (set l to (get_or l from 0)) (to + 1) (get_or l (from + 1) 0)) (to + 2) (get_or l (from + 2) 0)) (to + 3) (get_or l (from + 3) 0)) (to + 4) (get_or l (from + 4) 0)) (to + 5) (get_or l (from + 5) 0)) (to + 6) (get_or l (from + 6) 0)) (to + 7) (get_or l (from + 7) 0)
    ≡ sets l to (words (nodes_at l from 4))
unfolding words nodes_at
four-nodes l to from = simp towards_suc

-- ---- runs of words written at once

-- the words of n nodes are those that stand there
pub words-nodes_at : (b : List ℕ) (p n : ℕ) → p + 2 * n ≤ length b → words (nodes_at b p n) ≡ take (2 * n) (drop p b)
unfolding words nodes_at
words-nodes_at b p zero h = refl
words-nodes_at b p (suc n) h =
    let e : 2 * suc n ≡ suc (suc (2 * n)) = omega arith in
    let f : suc (suc p) ≡ p + 2 = omega arith in
    rw (e, drop-cons b p 0 (omega arith), drop-cons b (suc p) 0 (omega arith), f, ← add-one p)
    (ap (λ (r : List ℕ). get_or b p 0 ∷ get_or b (p + 1) 0 ∷ r) (words-nodes_at b (p + 2) n (omega arith)))

-- a part of a list replaced by vs
pub put-sets : (l vs zs : List ℕ) (at k : ℕ) → at + length vs ≤ length l → k ≡ length vs → zs ≡ vs → put_mid at k l zs ≡ sets l at vs
put-sets l vs zs at k h e f =
    put_mid-paste at k l zs vs (length vs) f (sym e) refl
    ∙ ap (λ (r : List ℕ). take at l ++ r ++ drop (at + length vs) l) (take-length vs)
    ∙ sym (sets-eq vs l at h)

-- the words from `from` on copied to word `at`, as nodes
module _ (l b : List ℕ) (at from n k : ℕ) (h : at + 2 * n ≤ length l) (g : from + 2 * n ≤ length b) (e : k ≡ 2 * n) where
  copied : length (words (nodes_at b from n)) ≡ 2 * n
  copied = length-words (nodes_at b from n) ∙ ap (λ (m : ℕ). 2 * m) (length-nodes_at b from n)

  pub paste-nodes : paste l at (drop from b) k ≡ sets l at (words (nodes_at b from n))
  paste-nodes =
      let w = words-nodes_at b from n g in
      let s = copied in
      sym (sets-eq (words (nodes_at b from n)) l at (omega arith) ∙ rw (s, w, e) refl)

  pub put-nodes : (zs : List ℕ) (m : ℕ) → m ≡ 2 * n → zs ≡ take m (drop from b) → put_mid at k l zs ≡ sets l at (words (nodes_at b from n))
  put-nodes zs m d f =
      let s = copied in
      put-sets l (words (nodes_at b from n)) zs at k (omega arith) (omega arith) (f ∙ rw d (sym (words-nodes_at b from n g)))

-- n words from `at` on that became 0
pub put-zeros : (l zs : List ℕ) (at n k m : ℕ) → at + n ≤ length l → k ≡ n → zs ≡ replicate m 0 → m ≡ n → put_mid at k l zs ≡ sets l at (zeros n)
unfolding zeros
put-zeros l zs at n k m h e f d =
    let s : length (zeros n) ≡ n = length-replicate n 0 in
    put-sets l (zeros n) zs at k (omega arith) (omega arith) (f ∙ ap (λ (j : ℕ). replicate j 0) d)
