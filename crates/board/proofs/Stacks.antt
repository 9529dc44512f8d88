-- What the words of a board hold, and how a push and a pop change that. Assumes nothing.
use Rattle.std.proofs.Common.{◌≡◌, refl, sym, ap, ◌∙◌, true, List, [], ◌∷◌, ◌++◌, ℕ, zero, suc, ◌+◌, ◌*◌, ◌-◌, ◌≤◌, ◌<◌, not-suc-le-zero, add-zero, add-one, arith, length, get_or, take, drop, length-append, leb, ltb, leb-true, ltb-true, below_more}
use lib.Seq.{sets, length-sets, take-append_seam, drop-append_seam}
use Rattle.sizes.specs.Sizes.{most_entries, most_nodes, board_base, board_size, board_stride}
use Rattle.nodes.specs.Nodes.{Ty, words, nodes_at, zeros}
use Rattle.nodes.proofs.Laws.{length-words, words_append, length-nodes_at, sets-append, getD-sets-below, getD-sets-above, getD-sets-in, nodes_at-same, nodes_at-agree, take-nodes_at, drop-nodes_at}
use Rattle.spelling.specs.declared.Triple.{Triple}
use Rattle.judgment.proofs.TypeLaws.{both}
use Rattle.judgment.specs.Board.{up_to, Entry, tvar, var, sub, inf, chk, inf_app, entry_nodes, board_nodes, Limits, room_for}
use Rattle.judgment.specs.Result.{board_words}
use Rattle.board.specs.declared.Board.{Board}
use Rattle.board.specs.Board.{entry_of, slot_of, word, size, nodes_below, left_at, entry_at, entries_of, Stacked, fitting, fitting_three, headed, laid, grown, top_of}

-- the nodes of an entry are those of the two types that its words hold
pub slot-nodes : (e : Entry) → entry_nodes e ≡ length (slot_of e).left + length (slot_of e).right
slot-nodes (tvar x) = refl
slot-nodes (var x t) = sym (add-zero (length t))
slot-nodes (sub s t) = refl
slot-nodes (inf e t) = sym (add-zero (length t))
slot-nodes (chk e t) = sym (add-zero (length t))
slot-nodes (inf_app f e t) = refl

pub length-entries : (ls : List Triple) (w : List ℕ) (i : ℕ) → length (entries_of ls w i) ≡ i
unfolding entries_of
length-entries ls w zero = refl
length-entries ls w (suc i) = ap suc (length-entries ls w i)

total : (ls : List Triple) (w : List ℕ) (i : ℕ) → ((k : ℕ) → k < i → entry_nodes (entry_at ls w k) ≡ size w k) → board_nodes (entries_of ls w i) ≡ nodes_below w i
unfolding entries_of board_nodes nodes_below
total ls w zero f = refl
total ls w (suc i) f =
    let ih = total ls w i (λ k l. f k (omega arith)) in
    let e = f i (omega arith) in
    omega arith

pub nodes-total : (ls : List Triple) {w : List ℕ} {b : Board} → Stacked w b → board_nodes (entries_of ls w b.entries) ≡ b.nodes
nodes-total ls {w} {b} s = total ls w b.entries (λ k l. s.counted k l ls) ∙ s.nodes

-- an entry and those below it have no more nodes than all entries below a newer one
pub nodes-within : (w : List ℕ) (i k : ℕ) → k < i → nodes_below w k + size w k ≤ nodes_below w i
unfolding nodes_below
nodes-within w zero k h = absurd (not-suc-le-zero h)
nodes-within w (suc i) k h =
    below_more (λ (j : ℕ). nodes_below w j + size w j ≤ nodes_below w i + size w i) i
    (λ j l. let ih = nodes-within w i j l in omega arith) (omega arith) k (omega arith)

-- the nodes of the newest of i entries, and of the others
pub nodes-turn : (w : List ℕ) (i : ℕ) → 0 < i → nodes_below w (i - 1) + size w (i - 1) ≡ nodes_below w i
unfolding nodes_below
nodes-turn w i h = let e : suc (i - 1) ≡ i = omega arith in ap (nodes_below w) e

-- ---- words that do not change
abbrev pub Low : List ℕ → List ℕ → ℕ → Type 0
Low w w' i = (j : ℕ) → j < board_stride * i → get_or w' j 0 ≡ get_or w j 0

abbrev pub High : List ℕ → List ℕ → ℕ → Type 0
High w w' n = (j : ℕ) → board_base ≤ j → j < board_base + 2 * n → get_or w' j 0 ≡ get_or w j 0

same_nodes : (w w' : List ℕ) (i : ℕ) → Low w w' i → nodes_below w' i ≡ nodes_below w i
unfolding nodes_below
same_nodes w w' zero f = refl
same_nodes w w' (suc i) f =
    rw (same_nodes w w' i (λ j l. f j (omega arith)), f (board_stride * i + 2) (omega arith), f (board_stride * i + 3) (omega arith))

module _ (w w' : List ℕ) (i : ℕ) (f : Low w w' i) (g : High w w' (nodes_below w i)) (k : ℕ) (h : k < i) where
  same_size : size w' k ≡ size w k
  same_size = rw (f (board_stride * k + 2) (omega arith), f (board_stride * k + 3) (omega arith))

  same-entry : (ls : List Triple) → entry_at ls w' k ≡ entry_at ls w k
  same-entry ls =
      let m = nodes-within w i k h in
      rw (
        same_nodes w w' k (λ j l. f j (omega arith)),
        f (board_stride * k + 0) (omega arith),
        f (board_stride * k + 1) (omega arith),
        f (board_stride * k + 2) (omega arith),
        f (board_stride * k + 3) (omega arith),
        nodes_at-agree w w' (left_at w k) (word w k 2) (λ j l q. g j (omega arith) (omega arith)),
        nodes_at-agree w w' (left_at w k + 2 * word w k 2) (word w k 3) (λ j l q. g j (omega arith) (omega arith)),
      )

same_entries : (ls : List Triple) (w w' : List ℕ) (i : ℕ) → ((k : ℕ) → k < i → entry_at ls w' k ≡ entry_at ls w k) → entries_of ls w' i ≡ entries_of ls w i
unfolding entries_of
same_entries ls w w' zero e = refl
same_entries ls w w' (suc i) e = rw (e i (omega arith), same_entries ls w w' i (λ k l. e k (omega arith)))

-- words that agree in the slots and the nodes of the entries below entry i hold the same entries below it
pub frame : (w w' : List ℕ) (i : ℕ) → Low w w' i → High w w' (nodes_below w i)
    → (nodes_below w' i ≡ nodes_below w i)
    × ((ls : List Triple) → entries_of ls w' i ≡ entries_of ls w i)
    × ((k : ℕ) → k < i → (ls : List Triple) → entry_nodes (entry_at ls w k) ≡ size w k → entry_nodes (entry_at ls w' k) ≡ size w' k)
frame w w' i f g = (
  same_nodes w w' i f,
  λ ls. same_entries ls w w' i (λ k l. same-entry w w' i f g k l ls),
  λ k l ls e. ap entry_nodes (same-entry w w' i f g k l ls) ∙ e ∙ sym (same_size w w' i f g k l),
)

-- ---- a push
pub length-laid : (w : List ℕ) (b : Board) (k n : ℕ) (t u : Ty) → length (laid w b k n t u) ≡ length w
unfolding laid
length-laid w b k n t u =
    let s : List ℕ = k ∷ n ∷ length t ∷ length u ∷ [] in
    length-sets (sets w (board_stride * b.entries) s) (board_base + 2 * b.nodes) (words (t ++ u)) ∙ length-sets w (board_stride * b.entries) s

-- what the code of `push` leaves: the words of the entry, and then the nodes of its two types
pub laid_by : (w : List ℕ) (b : Board) (k n : ℕ) (l : List ℕ) (la ln : ℕ) (r : List ℕ) (ra rn : ℕ) (w₀ w₁ w₂ : List ℕ)
    → w₀ ≡ headed w b k n ln rn
    → w₁ ≡ sets w₀ (board_base + 2 * b.nodes) (words (nodes_at l la ln))
    → w₂ ≡ sets w₁ (board_base + 2 * b.nodes + 2 * ln) (words (nodes_at r ra rn))
    → w₂ ≡ laid w b k n (nodes_at l la ln) (nodes_at r ra rn)
unfolding laid
laid_by w b k n l la ln r ra rn w₀ w₁ w₂ o p q =
    let t : Ty = nodes_at l la ln in
    let u : Ty = nodes_at r ra rn in
    let tl : length t ≡ ln = length-nodes_at l la ln in
    let ul : length u ≡ rn = length-nodes_at r ra rn in
    let lo : ℕ = board_base + 2 * b.nodes in
    let v : List ℕ = headed w b k n ln rn in
    let e : lo + 2 * ln ≡ lo + length (words t) = omega (arith, length-words t) in
    rw (tl, ul) (q ∙ rw (p, o, e) (sym (ap (sets v lo) (words_append t u) ∙ sets-append v lo (words t) (words u))))

module _ {w : List ℕ} {b : Board} (s : Stacked w b) (k n : ℕ) (t u : Ty) (few : b.entries < most_entries) (fits : b.nodes + (length t + length u) ≤ most_nodes) where
  abbrev slot : List ℕ
  slot = k ∷ n ∷ length t ∷ length u ∷ []

  abbrev lo : ℕ
  lo = board_base + 2 * b.nodes

  abbrev front : List ℕ
  front = sets w (board_stride * b.entries) slot

  abbrev after : List ℕ
  after = laid w b k n t u

  unchanged : (j : ℕ) → j < lo → get_or after j 0 ≡ get_or front j 0
  unfolding laid
  unchanged j l = getD-sets-below front lo (words (t ++ u)) j l

  at_slot : (j : ℕ) → j < 4 → word after b.entries j ≡ get_or slot j 0
  at_slot j l =
      let r = s.room in
      unchanged (board_stride * b.entries + j) (omega arith) ∙ getD-sets-in w (board_stride * b.entries) slot j l (omega arith)

  kept : (nodes_below after b.entries ≡ nodes_below w b.entries)
      × ((ls : List Triple) → entries_of ls after b.entries ≡ entries_of ls w b.entries)
      × ((i : ℕ) → i < b.entries → (ls : List Triple) → entry_nodes (entry_at ls w i) ≡ size w i → entry_nodes (entry_at ls after i) ≡ size after i)
  kept =
      let e = s.nodes in
      frame w after b.entries
      (λ j l. unchanged j (omega arith) ∙ getD-sets-below w (board_stride * b.entries) slot j l)
      (λ j l m. unchanged j (omega arith) ∙ getD-sets-above w (board_stride * b.entries) slot j (omega arith))

  both-are : nodes_at after lo (length (t ++ u)) ≡ t ++ u
  unfolding laid
  both-are =
      let r = s.room in
      let a = length-append t u in
      nodes_at-same (t ++ u) front lo (omega (arith, length-sets w (board_stride * b.entries) slot))

  left_is : nodes_at after lo (length t) ≡ t
  left_is =
      let a = length-append t u in
      sym (take-nodes_at after lo (length (t ++ u)) (length t) (omega arith)) ∙ ap (take (length t)) both-are ∙ take-append_seam t u

  right_is : nodes_at after (lo + 2 * length t) (length u) ≡ u
  right_is =
      let a = length-append t u in
      let e : length u ≡ length (t ++ u) - length t = omega arith in
      ap (nodes_at after (lo + 2 * length t)) e
      ∙ sym (drop-nodes_at after lo (length (t ++ u)) (length t) (omega arith)) ∙ ap (drop (length t)) both-are ∙ drop-append_seam t u

  new-entry : (ls : List Triple) → entry_at ls after b.entries ≡ entry_of ls k n t u
  new-entry ls =
      rw (kept.0, s.nodes, at_slot 0 (omega arith), at_slot 1 (omega arith), at_slot 2 (omega arith), at_slot 3 (omega arith), left_is, right_is)

  pub laid-entries : (ls : List Triple) → entries_of ls (laid w b k n t u) (b.entries + 1) ≡ entry_of ls k n t u ∷ entries_of ls w b.entries
  unfolding entries_of
  laid-entries ls = rw (add-one b.entries, new-entry ls, kept.1 ls)

  new-size : size after b.entries ≡ length t + length u
  new-size = rw (at_slot 2 (omega arith), at_slot 3 (omega arith))

  pub laid-stacked : ((ls : List Triple) → entry_nodes (entry_of ls k n t u) ≡ length t + length u) → Stacked (laid w b k n t u) (grown b (length t + length u))
  unfolding nodes_below
  laid-stacked sized = record {
    room = let r = s.room in omega (arith, length-laid w b k n t u);
    few_entries = omega arith;
    few_nodes = omega arith;
    nodes = rw (add-one b.entries, kept.0, new-size, s.nodes);
    counted = below_more (λ (i : ℕ). (ls : List Triple) → entry_nodes (entry_at ls after i) ≡ size after i) b.entries
        (λ i l ls. kept.2 i l ls (s.counted i l ls)) (λ ls. ap entry_nodes (new-entry ls) ∙ sized ls ∙ sym new-size);
  }

pub fits-room : (ls : List Triple) {w : List ℕ} {b : Board} → Stacked w b → (L : Limits) → L.entries ≡ up_to most_entries → L.nodes ≡ up_to most_nodes → (e : Entry) (m : ℕ) → entry_nodes e ≡ m
    → room_for L e (entries_of ls w b.entries) ≡ fitting b m
unfolding board_nodes
fits-room ls {w} {b} s L p q e m z =
    let g : m + b.nodes ≡ b.nodes + m = omega arith in
    rw (p, q, z, length-entries ls w b.entries, nodes-total ls s, g)

-- what `fits` tells
pub fits-facts : (b : Board) (n : ℕ) → fitting b n ≡ true → (b.entries < most_entries) × (b.nodes + n ≤ most_nodes)
fits-facts b n e =
    let q = both (ltb b.entries most_entries) (leb (b.nodes + n) most_nodes) e in
    (ltb-true b.entries most_entries q.0, leb-true (b.nodes + n) most_nodes q.1)

pub three-facts : (b : Board) (n : ℕ) → fitting_three b n ≡ true → (b.entries + 3 ≤ most_entries) × (b.nodes + n ≤ most_nodes)
three-facts b n e =
    let q = both (ltb b.entries (most_entries - 2)) (leb (b.nodes + n) most_nodes) e in
    let x = ltb-true b.entries (most_entries - 2) q.0 in
    (omega arith, leb-true (b.nodes + n) most_nodes q.1)

-- ---- a pop
module _ {w : List ℕ} {b : Board} (s : Stacked w b) (h : 0 < b.entries) where
  abbrev last : ℕ
  last = b.entries - 1

  last-nodes : nodes_below w last + size w last ≡ b.nodes
  last-nodes = nodes-turn w b.entries h ∙ s.nodes

  below_last : b.nodes - size w last ≡ nodes_below w last
  below_last = let e = last-nodes in omega arith

  pub top-size : size w (b.entries - 1) ≤ b.nodes
  top-size = let e = last-nodes in omega arith

  pub top-entries : (ls : List Triple) → (let t = top_of w b in
      entries_of ls w b.entries ≡ entry_of ls t.kind t.number (nodes_at w t.at t.left) (nodes_at w (t.at + 2 * t.left) t.right) ∷ entries_of ls w t.rest.entries)
  unfolding top_of entries_of
  top-entries ls =
      let e : b.entries ≡ suc last = omega arith in
      rw below_last (ap (entries_of ls w) e)

  pub top-stacked : Stacked w (top_of w b).rest
  unfolding top_of
  top-stacked = record {
    room = s.room;
    few_entries = let f = s.few_entries in omega arith;
    few_nodes = let f = s.few_nodes in omega arith;
    nodes = sym below_last;
    counted = λ i l. s.counted i (omega arith);
  }

  pub top_within : (top_of w b).at + 2 * ((top_of w b).left + (top_of w b).right) ≤ board_size
  unfolding top_of
  top_within = let f = s.few_nodes in let e = top-size in omega arith

-- ---- no entry
pub new-stacked : (w : List ℕ) → board_size ≤ length w → Stacked w (record { entries = 0; nodes = 0 })
unfolding nodes_below
new-stacked w h = record {
  room = h;
  few_entries = omega arith;
  few_nodes = omega arith;
  nodes = refl;
  counted = λ i l. absurd (not-suc-le-zero l);
}

pub no-entries : (ls : List Triple) (w : List ℕ) → entries_of ls w 0 ≡ []
unfolding entries_of
no-entries ls w = refl

pub cleared-words : board_words ≡ zeros board_size
unfolding board_words zeros
cleared-words = refl
