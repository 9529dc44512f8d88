-- A type whose quantifiers are opened, and its nodes off the rows. Assumes nothing.
use Rattle.std.proofs.Common.{refl, sym, ap, ap₂, ◌∙◌, subst, add-one, arith, length-take, length-drop, ◌≡◌, Bool, true, false, List, [], ◌∷◌, ℕ, zero, suc, ◌+◌, ◌*◌, ◌-◌, ◌≤◌, ◌<◌, eqb, length, get_or, set, take, drop}
use native.Mathlib.Numerals.{add-two}
use Rattle.std.proofs.lemmas.List.Edits.{sets}
use Rattle.nodes.specs.Nodes.{Node, node, kind, number, Ty, words, nodes_at}
use Rattle.nodes.specs.Lists.{All}
use Rattle.nodes.proofs.ListLaws.{all-of-take, all-of-drop}
use Rattle.nodes.proofs.Laws.{nodes_at-same}
use Rattle.spelling.specs.declared.Triple.{Triple}
use Rattle.sheet.specs.Plan.{no_triple, line_node, nodes_of, Narrow}
use Rattle.sheet.specs.Rows.{rows, front_of, binder_at, Bound}
use Rattle.judgment.specs.Types.{rename, front_names, after_front}
use Rattle.judgment.specs.Board.{Rule}
use Rattle.judgment.specs.Rules.{instantiate_constructor}
use Rattle.judgment.specs.Result.{Way}
use Rattle.operations.specs.declared.Run.{Run}
use Rattle.operations.specs.State.{WellFormed, Does}
use Rattle.constructors.specs.declared.Opened.{Opened}
use Rattle.constructors.specs.Opening.{pairs, Named, opened_of, Opens, open_node, open_lines}
use Rattle.constructors.proofs.Binders.{front-names, lines-opened}

-- ---- as many nodes as lines
pub length-nodes_of : (ts : List Triple) → length (nodes_of ts) ≡ length ts
length-nodes_of [] = refl
length-nodes_of (t ∷ ts) = ap suc (length-nodes_of ts)

pub nodes-of-lines : (ls : List Triple) (first n : ℕ) → first + n ≤ length ls → length (nodes_of (take n (drop first ls))) ≡ n
nodes-of-lines ls first n h = length-nodes_of (take n (drop first ls)) ∙ simp (length-take, length-drop) (omega arith)

-- ---- parts of lists
drop-nil : {A : Type 0} (n : ℕ) → drop {A = A} n [] ≡ []
drop-nil zero = refl
drop-nil (suc n) = refl

pub drop-drop : {A : Type 0} (a i : ℕ) (t : List A) → drop i (drop a t) ≡ drop (a + i) t
drop-drop zero i t = let e : 0 + i ≡ i = omega arith in rw e
drop-drop (suc a) zero [] = sym (drop-nil (suc a + 0))
drop-drop (suc a) (suc i) [] = sym (drop-nil (suc a + suc i))
drop-drop (suc a) i (x ∷ t) = let e : suc a + i ≡ suc (a + i) = omega arith in rw e (drop-drop a i t)

within : {A : Type 0} (t : List A) (c i m : ℕ) → i + m ≤ c → take m (drop i (take c t)) ≡ take m (drop i t)
within t zero zero zero h = refl
within t zero zero (suc m) h = absurd (omega arith)
within t zero (suc i) m h = absurd (omega arith)
within [] (suc c) i m h = refl
within (x ∷ t) (suc c) zero zero h = refl
within {A} (x ∷ t) (suc c) zero (suc m) h = ap (λ (l : List A). x ∷ l) (within t c zero m (omega arith))
within (x ∷ t) (suc c) (suc i) m h = within t c i m (omega arith)

pub cut-cut : {A : Type 0} (t : List A) (a c i m : ℕ) → i + m ≤ c → take m (drop i (take c (drop a t))) ≡ take m (drop (a + i) t)
cut-cut t a c i m h = within (drop a t) c i m h ∙ ap (take m) (drop-drop a i t)

pub take_whole : {A : Type 0} (t : List A) (n : ℕ) → length t ≤ n → take n t ≡ t
take_whole [] zero h = refl
take_whole [] (suc n) h = refl
take_whole (x ∷ t) zero h = absurd (omega arith)
take_whole {A} (x ∷ t) (suc n) h = ap (λ (l : List A). x ∷ l) (take_whole t n (omega arith))

-- what holds of all lines holds of a part of them
pub part-all : (P : Triple → Type 0) (ls : List Triple) (first n : ℕ) → All P (take n (drop first ls)) → (at m : ℕ) → at + m ≤ n → All P (take m (drop (first + at) ls))
part-all P ls first n h at m k = subst (All P) (cut-cut ls first n at m k) (all-of-take P m (drop at (take n (drop first ls))) (all-of-drop P at (take n (drop first ls)) h))

pub part-narrow : (ls : List Triple) (first n : ℕ) → All Narrow (take n (drop first ls)) → (at m : ℕ) → at + m ≤ n → All Narrow (take m (drop (first + at) ls))
part-narrow = part-all Narrow

-- the nodes of a part of the lines
pub nodes-cut : (ts : List Triple) (i m : ℕ) → take m (drop i (nodes_of ts)) ≡ nodes_of (take m (drop i ts))
nodes-cut ts zero zero = refl
nodes-cut [] zero (suc m) = refl
nodes-cut (t ∷ ts) zero (suc m) = ap (λ (l : Ty). line_node t ∷ l) (nodes-cut ts zero m)
nodes-cut [] (suc i) zero = refl
nodes-cut [] (suc i) (suc m) = refl
nodes-cut (t ∷ ts) (suc i) m = nodes-cut ts i m

-- ---- behind the quantifiers
pub after-drop : (t : Ty) → after_front t ≡ drop (length (front_names t)) t
unfolding after_front front_names
after-drop [] = refl
after-drop (node k v ∷ t) = by (after-drop t) (eqb k 14)
  where
    by : after_front t ≡ drop (length (front_names t)) t → (q : Bool)
        → elim q [ true ↦ after_front t | false ↦ node k v ∷ t ] ≡ drop (length {A = ℕ} (elim q [ true ↦ v ∷ front_names t | false ↦ [] ])) (node k v ∷ t)
    by e true = e
    by e false = refl

pub few-names : (t : Ty) → length (front_names t) ≤ length t
unfolding front_names
few-names [] = omega arith
few-names (node k v ∷ t) = by (few-names t) (eqb k 14)
  where
    by : length (front_names t) ≤ length t → (q : Bool) → length {A = ℕ} (elim q [ true ↦ v ∷ front_names t | false ↦ [] ]) ≤ suc (length t)
    by i true = omega arith
    by i false = omega arith

-- ---- a type of n lines from line `first` on, whose binders stand in the rows d
module _ (d : List ℕ) (first n : ℕ) (stands : first + n ≤ length (rows d)) where
  abbrev T : Ty
  T = nodes_of (take n (drop first (rows d)))

  pub names-few : {q : ℕ} → q ≡ length (front_names T) → q ≤ n
  names-few e = let f = few-names T in let l = nodes-of-lines (rows d) first n stands in omega arith

  module _ (B : Bound (rows d) d first n) (a : ℕ) where
    -- a part of it, opened
    pub part-opened : (at m : ℕ) → at + m ≤ n → open_lines d a (first + at) m ≡ rename (pairs (front_names T) a []) (take m (drop at T))
    part-opened at m h =
        lines-opened (front_of (take n (drop first (rows d)))) d a (first + at) m (omega arith) (λ i k. let e : first + (at + i) ≡ first + at + i = omega arith in rw e at (B (at + i) (omega arith)))
        ∙ ap₂ (λ (xs : List ℕ) (u : Ty). rename (pairs xs a []) u) (sym (front-names (take n (drop first (rows d)))))
        (ap nodes_of (sym (cut-cut (rows d) first n at m h)) ∙ sym (nodes-cut (take n (drop first (rows d))) at m))

    -- and all that stands behind its quantifiers
    pub all-opened : {q : ℕ} → q ≡ length (front_names T) → open_lines d a (first + q) (n - q) ≡ opened_of T a
    all-opened {q} e =
        let f = names-few e in
        let l = nodes-of-lines (rows d) first n stands in
        part-opened q (n - q) (omega arith)
        ∙ ap (rename (pairs (front_names T) a []))
        (take_whole (drop q T) (n - q) (let z : length (drop q T) ≡ length T - q = length-drop q T in omega arith) ∙ ap (λ (k : ℕ). drop k T) e ∙ sym (after-drop T))

-- ---- nodes written one after the other
put-node : (o : List ℕ) (p : ℕ) (x : Node) (t : Ty) → sets o p (words (x ∷ t)) ≡ sets (set (set o p (kind x)) (p + 1) (number x)) (p + 2) (words t)
unfolding words
put-node o p (node k v) t = ap₂ (λ (y z : ℕ). sets (set (set o p k) y v) z (words t)) (sym (add-one p)) (sym (add-two p))

module _ (d : List ℕ) (a : ℕ) where
  pub length-open : (at n : ℕ) → length (open_lines d a at n) ≡ n
  unfolding open_lines
  length-open at zero = refl
  length-open at (suc n) = ap suc (length-open (at + 1) n)

  -- one node, and those after it
  pub open_turn : (o : List ℕ) (p at left : ℕ) → 0 < left
      → sets o p (words (open_lines d a at left))
      ≡ sets (set (set o p (kind (open_node a (binder_at d at) (get_or (rows d) at no_triple)))) (p + 1) (number (open_node a (binder_at d at) (get_or (rows d) at no_triple)))) (p + 2) (words (open_lines d a (at + 1) (left - 1)))
  unfolding open_lines
  open_turn o p at left h =
      let e : left ≡ suc (left - 1) = omega arith in
      ap (λ (n : ℕ). sets o p (words (open_lines d a at n))) e ∙ put-node o p (open_node a (binder_at d at) (get_or (rows d) at no_triple)) (open_lines d a (at + 1) (left - 1))

  -- the n lines from line `at` on: those before the i-th are written
  pub open-place : (o : List ℕ) (at n i : ℕ) → i < n
      → sets o (2 * i) (words (open_lines d a (at + i) (n - i)))
      ≡ sets (set (set o (2 * i) (kind (open_node a (binder_at d (at + i)) (get_or (rows d) (at + i) no_triple)))) (2 * i + 1) (number (open_node a (binder_at d (at + i)) (get_or (rows d) (at + i) no_triple)))) (2 * (i + 1)) (words (open_lines d a (at + (i + 1)) (n - (i + 1))))
  unfolding open_lines
  open-place o at n i h =
      let e : n - i ≡ suc (n - (i + 1)) = omega arith in
      let p : 2 * i + 2 ≡ 2 * (i + 1) = omega arith in
      let z : at + i + 1 ≡ at + (i + 1) = omega arith in
      let x : Node = open_node a (binder_at d (at + i)) (get_or (rows d) (at + i) no_triple) in
      ap (λ (m : ℕ). sets o (2 * i) (words (open_lines d a (at + i) m))) e ∙ put-node o (2 * i) x (open_lines d a (at + i + 1) (n - (i + 1)))
      ∙ ap₂ (λ (q l : ℕ). sets (set (set o (2 * i) (kind x)) (2 * i + 1) (number x)) q (words (open_lines d a l (n - (i + 1))))) p z

  pub open-end : (o : List ℕ) (p at left : ℕ) → left ≡ 0 → sets o p (words (open_lines d a at left)) ≡ o
  unfolding open_lines words
  open-end o p at left e = rw e

-- the nodes that stand at the front of a buffer after
pub nodes-put : (t : Ty) (o o' : List ℕ) (n : ℕ) → o' ≡ sets o 0 (words t) → length t ≡ n → 2 * n ≤ length o → nodes_at o' 0 n ≡ t
nodes-put t o o' n e l h = rw (e, ← l) (nodes_at-same t o 0 (omega arith))

-- ---- an opened type, and then the rest of a rule
pub opens : {t : Ty} {q : ℕ} {b b' : List ℕ} {c d : Run} → q ≡ length (front_names t) → Named b c q b' d → Opens b c t b' (record { run = d; names = q })
opens {t} {q} {b} {b'} {c} {d} e g = record {
  names = e;
  named = subst (λ (k : ℕ). Named b c k b' d) e g;
  outcome = λ w k rep h f ls. g.outcome w k rep h (λ m. f (rename m (after_front t))) [] (front_names t) (sym e) ls;
}

pub opens-then : {w : Way} {ls : List Triple} {b k rep : List ℕ} {c : Run} {t : Ty} {b₁ : List ℕ} {r : Opened} {b₂ k₂ rep₂ : List ℕ} {c₂ : Run} (f : Ty → Rule)
    → WellFormed b k c → Opens b c t b₁ r → Does w ls b₁ k rep r.run (f (opened_of t c.counters.fresh)) b₂ k₂ rep₂ c₂
    → Does w ls b k rep c (instantiate_constructor t f) b₂ k₂ rep₂ c₂
opens-then {w} {ls} {k = k} {rep = rep} f h x d =
    record { kept = d.kept; taken = d.taken ∙ x.named.taken; outcome = d.outcome ∙ x.outcome w k rep h f ls }
