-- Laws of pieces written one after another. Assumes nothing.
use Rattle.std.proofs.Common.{◌≡◌, refl, ◌∙◌, Bool, List, [], ◌∷◌, ◌++◌, append_assoc, ℕ, zero, suc, ◌+◌, ◌-◌, ◌*◌, ◌/◌, ◌≤◌, ◌<◌, arith, length, get_or, drop, take, min, take_all, length-drop, length-take, sym, ap, get_or-drop, get_or-take}
use Rattle.nodes.specs.Nodes.{node, Ty, nodes_at}
use Rattle.nodes.proofs.Laws.{nodes_at-agree, nodes_at-cons}
use Rattle.wording.specs.declared.Place.{Place}
use Rattle.wording.specs.declared.Place.TheVariants.{Alone, Before, Part}
use Rattle.wording.specs.Texts.{bytes, least}
use Rattle.wording.specs.Spelt.{Piece, text, type, separator, in_parentheses, bare, enclosed, pieces, parts, spelt, type_text, nodes_in, reported}
use Rattle.wording.specs.declared.Text.{Text}
use Rattle.wording.specs.Put.{Put, Reached}
use Rattle.wording.proofs.Laws.{left-none, left-put, left-then, left_end}

pub spelt-text : (ns : Ty) (b : List ℕ) (qs : List Piece) → spelt ns (text b ∷ qs) ≡ b ++ spelt ns qs
unfolding spelt
spelt-text [] b qs = refl
spelt-text (x ∷ ns) b qs = refl

pub spelt-end : (ns : Ty) → spelt ns [] ≡ []
unfolding spelt
spelt-end [] = refl
spelt-end (x ∷ ns) = refl

-- types that are lacking
lacking-parts : (p : Place) (n : ℕ) (qs : List Piece) → spelt [] (parts p n ++ qs) ≡ spelt [] qs
unfolding spelt
lacking-parts p zero qs = refl
lacking-parts p (suc n) qs = lacking-parts Part n qs

-- the nodes of words
pub nodes_none : (ws : List ℕ) → length ws < 2 → nodes_in ws ≡ []
unfolding nodes_at
nodes_none ws h = let z : length ws / 2 ≡ 0 = omega arith in rw z

-- the nodes of words that follow others
nodes-shift : (ws : List ℕ) (p q n : ℕ) → nodes_at ws (q + p) n ≡ nodes_at (drop q ws) p n
unfolding nodes_at
nodes-shift ws p q zero = refl
nodes-shift ws p q (suc n) =
    let a : q + (p + 1) ≡ q + p + 1 = omega arith in
    let b : q + (p + 2) ≡ q + p + 2 = omega arith in
    rw (get_or-drop q ws p 0, get_or-drop q ws (p + 1) 0, a, ← nodes-shift ws (p + 2) q n, b)

pub nodes_cons : (ws : List ℕ) → 2 ≤ length ws → nodes_in ws ≡ node (get_or ws 0 0) (get_or ws 1 0) ∷ nodes_in (drop 2 ws)
nodes_cons ws h =
    let a : length ws / 2 - 1 ≡ length (drop 2 ws) / 2 = omega (arith, length-drop 2 ws) in
    nodes_at-cons ws 0 (length ws / 2) (omega arith) ∙ rw (a, nodes-shift ws 0 2 (length (drop 2 ws) / 2))

-- nodes of a report
pub reported-is : (ws : List ℕ) (from n s e : ℕ) → s ≡ min (2 * from) (length ws) → e ≡ min (2 * (from + n)) (length ws)
    → nodes_in (take (e - s) (drop s ws)) ≡ reported ws from n
unfolding nodes_at
reported-is ws from n s e p q = go (2 * from - length ws) refl
  where
    us : List ℕ
    us = take (e - s) (drop s ws)

    m : length us ≡ e - s
    m = simp (length-take, length-drop) (omega arith)

    go : (d : ℕ) → 2 * from - length ws ≡ d → nodes_in us ≡ reported ws from n
    go zero z =
        let f : length us / 2 ≡ least (from + n) (length ws / 2) - from = omega (arith, m) in
        let g : s + 0 ≡ 2 * from = omega arith in
        nodes_at-agree (drop s ws) us 0 (length us / 2) (λ i _ h. get_or-take (e - s) (drop s ws) i 0 (omega (arith, m)))
        ∙ sym (nodes-shift ws 0 s (length us / 2))
        ∙ rw (f, g)
    go (suc d) z =
        let f : length us / 2 ≡ 0 = omega (arith, m) in
        let g : least (from + n) (length ws / 2) - from ≡ 0 = omega arith in
        rw (f, g)

module _ {ws : List ℕ} {a : Text} where
  pub texts : {b : Text} {s : List ℕ} → Put a s b → Reached (text s ∷ []) a ws b ws
  texts {b} {s} w = record {
    same = w.same;
    left = λ rest. rw (spelt-text (nodes_in ws) s rest) (left-put w.wrote (spelt (nodes_in ws) rest));
    fewer = omega arith;
  }

  pub both : {b c : Text} {vs us : List ℕ} {ps qs : List Piece} → Reached ps a ws b vs → Reached qs b vs c us → Reached (ps ++ qs) a ws c us
  both {ps = ps} {qs = qs} r s = record {
    same = s.same ∙ r.same;
    left = λ rest. rw (append_assoc ps qs rest) (left-then (r.left (qs ++ rest)) (s.left rest));
    fewer = let x = r.fewer in let y = s.fewer in omega arith;
  }

  pub lacking : (p : Place) → length ws < 2 → Reached (type p ∷ []) a ws a ws
  unfolding spelt
  lacking p h = record { same = refl; left = λ rest. rw (nodes_none ws h) left-none; fewer = omega arith }

  lacking-all : (p : Place) (c : ℕ) → length ws < 2 → Reached (parts p c) a ws a ws
  lacking-all p c h = record { same = refl; left = λ rest. rw (nodes_none ws h, lacking-parts p c rest) left-none; fewer = omega arith }

  -- a node is its pieces
  pub opened : {b : Text} {vs us : List ℕ} {k v : ℕ} {e : Bool} (p : Place) → 2 ≤ length ws → k ≡ get_or ws 0 0 → v ≡ get_or ws 1 0
      → us ≡ take (length ws - 2) (drop 2 ws) → e ≡ in_parentheses k p
      → Reached (text (bytes (separator p)) ∷ enclosed e (bare k v)) a us b vs → Reached (type p ∷ []) a ws b vs
  unfolding spelt pieces
  opened p h x y z q r =
      let d = take_all (length ws - 2) (drop 2 ws) (simp length-drop (omega arith)) in
      let s = rw (q, x, y, z, d) at r in
      record {
        same = s.same;
        left = λ rest. rw (nodes_cons ws h) (s.left rest);
        fewer = let f = simp length-drop at s.fewer in omega arith;
      }

  -- one type is written
  pub whole : {b : Text} {vs : List ℕ} → Reached (type Alone ∷ []) a ws b vs → Put a (type_text (nodes_in ws)) b
  unfolding type_text
  whole {b} {vs} r = record { same = r.same; wrote = left_end b.in_range (rw (spelt-end (nodes_in vs)) at (r.left [])) }

-- the place of part k of a Product
abbrev pub place_of : ℕ → Place
place_of zero = Before
place_of (suc k) = Part

pub place-first : (k : ℕ) → k ≡ 0 → Before ≡ place_of k
place-first k e = rw e

pub place-other : (k : ℕ) → (k ≡ 0 → ⊥) → Part ≡ place_of k
place-other zero h = absurd (h refl)
place-other (suc k) h = refl

part-split : (k n : ℕ) → k ≤ n → parts Part n ≡ parts Part k ++ parts Part (n - k)
part-split zero n h = let e : n - 0 ≡ n = omega arith in rw e
part-split (suc k) zero h = absurd (omega arith)
part-split (suc k) (suc n) h =
    let e : suc n - suc k ≡ n - k = omega arith in
    rw e (ap (λ (qs : List Piece). type Part ∷ qs) (part-split k n (omega arith)))

parts-split : (k n : ℕ) → k ≤ n → parts Before n ≡ parts Before k ++ parts (place_of k) (n - k)
parts-split zero n h = let e : n - 0 ≡ n = omega arith in rw e
parts-split (suc k) zero h = absurd (omega arith)
parts-split (suc k) (suc n) h =
    let e : suc n - suc k ≡ n - k = omega arith in
    rw e (ap (λ (qs : List Piece). type Before ∷ qs) (part-split k n (omega arith)))

-- one part more
pub parts-more : {a b c : Text} {ws vs us : List ℕ} (k : ℕ) → Reached (parts Before k) a ws b vs → Reached (type (place_of k) ∷ []) b vs c us
    → Reached (parts Before (k + 1)) a ws c us
parts-more k r s =
    let e : k + 1 - k ≡ 1 = omega arith in
    rw (parts-split k (k + 1) (omega arith), e) (both r s)

-- no node for the other parts
pub parts-lacking : {a b : Text} {ws vs : List ℕ} (k n : ℕ) → k ≤ n → length vs < 2 → Reached (parts Before k) a ws b vs
    → Reached (parts Before n) a ws b vs
parts-lacking k n h l r = rw (parts-split k n h) (both r (lacking-all (place_of k) (n - k) l))
