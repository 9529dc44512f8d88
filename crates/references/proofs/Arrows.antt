-- Lines of types: their parts are those of their nodes, and an Arrow's two parts stand where the lines' ends say.
-- Assumes nothing.
use Rattle.std.proofs.Common.{Some, ◌≡◌, refl, sym, ap, ◌∙◌, subst, Bool, true, false, List, [], ◌∷◌, ◌++◌, append_assoc, ℕ, zero, suc, ◌+◌, ◌-◌, ◌≤◌, ◌<◌, add-zero, arith, eqb, eqb-true, length, get_or, take, drop, length-take, length-drop, take-append-drop}
use mathlib.Core.Bool.{and-eq-true_iff}
use Rattle.nodes.specs.Nodes.{Ty, node_parts}
use Rattle.nodes.specs.Parts.{take_parts, drop_parts, Whole}
use Rattle.nodes.specs.Lists.{All}
use Rattle.nodes.proofs.PartLaws.{is-take, is-drop, take-drop}
use Rattle.nodes.proofs.Wholes.{whole_split, whole-few}
use Rattle.nodes.proofs.Wholes as wholes
use Rattle.spelling.specs.declared.Triple.{Triple}
use Rattle.kinds.specs.Kinds.{a_type, parts_of}
use Rattle.grammar.specs.Grammar.{Item, part, entries, ok, due}
use Rattle.sheet.specs.Plan.{no_triple, line_node, nodes_of, part_line}
use Rattle.sheet.specs.Rows.{front_of}
use Rattle.sheet.specs.Form.{Forms, IsPart}
use Rattle.sheet.proofs.Copies.{lines_cons}
use Rattle.sheet.proofs.Forming.{due-parts}
use Rattle.sheet.proofs.TypeLines.{Only, only-append, type-line}
use Rattle.judgment.specs.Types.{first, rest, front_names}
use Rattle.constructors.proofs.Binders.{front-names}
use Rattle.constructors.proofs.Openings.{cut-cut, take_whole, part-all}
use Rattle.references.specs.Signatures.{arrow_head}
use Rattle.references.specs.References.{TypeLine}

-- ---- a whole type on a sheet that is taken
types-all : (ts : List Triple) (ahead : List Item) → Forms ts ahead → Only a_type ahead → All TypeLine ts × Whole parts_of ts (length ahead)
types-all [] [] f ty = (tt, refl)
types-all [] (x ∷ ahead) f ty = absurd f
types-all (t ∷ ts) [] f ty = absurd f
types-all (t ∷ ts) (entries k n ∷ ahead) f ty = absurd ty
types-all (t ∷ ts) (part x ∷ ahead) f ty =
    let g : (ok (part a_type) (Some t) ≡ true) × Forms ts (due (part a_type) (Some t) ++ ahead) = rw ty.0 at f in
    let l = type-line t g.0 in
    let d = (due-parts a_type t g.0).0 in
    let all = types-all ts (due (part a_type) (Some t) ++ ahead) g.1 (only-append a_type (due (part a_type) (Some t)) ahead l.0 ty.1) in
    ((sym l.1 ∙ d, all.0), rw (lib.ListN.length-append (due (part a_type) (Some t)) ahead, d) at all.1)

pub type-lines : (ts : List Triple) → IsPart a_type ts → All TypeLine ts × Whole parts_of ts 1
type-lines ts f = types-all ts (part a_type ∷ []) f (refl, tt)

-- ---- parts of lines and of nodes
pub take-nodes : (ts : List Triple) (n : ℕ) → All TypeLine ts → take_parts node_parts (nodes_of ts) n ≡ nodes_of (take_parts parts_of ts n)
take-nodes [] n h = refl
take-nodes (t ∷ ts) zero h = refl
take-nodes (t ∷ ts) (suc n) h = ap (λ (l : Ty). line_node t ∷ l) (ap (λ (k : ℕ). take_parts node_parts (nodes_of ts) (k + n)) h.0 ∙ take-nodes ts (parts_of t + n) h.1)

pub drop-nodes : (ts : List Triple) (n : ℕ) → All TypeLine ts → drop_parts node_parts (nodes_of ts) n ≡ nodes_of (drop_parts parts_of ts n)
drop-nodes [] n h = refl
drop-nodes (t ∷ ts) zero h = refl
drop-nodes (t ∷ ts) (suc n) h = ap (λ (k : ℕ). drop_parts node_parts (nodes_of ts) (k + n)) h.0 ∙ drop-nodes ts (parts_of t + n) h.1

pub whole-some : (ls : List Triple) (p c : ℕ) → Whole parts_of (take c (drop p ls)) 1 → 0 < c
whole-some ls p zero w = absurd (let z : ◌≡◌ {A = ℕ} 1 0 = w in omega arith)
whole-some ls p (suc c) w = omega arith

one-part : (t : Triple) → TypeLine t → eqb t.kind 14 ≡ true → parts_of t ≡ 1
one-part t h a = let k = eqb-true t.kind 14 a in sym h ∙ rw k

-- what stands behind the quantifiers at the front of a whole type is one
front-from : (ts : List Triple) → All TypeLine ts → Whole parts_of ts 1 → Whole parts_of (drop (length (front_of ts)) ts) 1
unfolding front_of
front-from [] h w = w
front-from (t ∷ ts) h w = by (eqb t.kind 14) refl (λ e. front-from ts h.1 (rw (one-part t h.0 e) at w))
  where
    by : (b : Bool) → eqb t.kind 14 ≡ b → (eqb t.kind 14 ≡ true → Whole parts_of (drop (length (front_of ts)) ts) 1) → Whole parts_of (drop (length (front_of (t ∷ ts))) (t ∷ ts)) 1
    by true e f = rw e (f e)
    by false e f = rw e w

pub front-whole : (ls : List Triple) (first n q : ℕ) → first + n ≤ length ls → All TypeLine (take n (drop first ls)) → Whole parts_of (take n (drop first ls)) 1
    → q ≡ length (front_names (nodes_of (take n (drop first ls)))) → q ≤ n → Whole parts_of (take (n - q) (drop (first + q) ls)) 1
front-whole ls first n q s ty w e f =
    let ts : List Triple = take n (drop first ls) in
    let l : length ts ≡ n = simp (length-take, length-drop) (omega arith) in
    let d : length (drop q ts) ≡ length ts - q = length-drop q ts in
    let k : q ≡ length (front_of ts) = e ∙ ap length (front-names ts) in
    let v : drop (length (front_of ts)) ts ≡ take (n - q) (drop (first + q) ls) = ap (λ (i : ℕ). drop i ts) (sym k) ∙ sym (take_whole (drop q ts) (n - q) (omega arith)) ∙ cut-cut ls first n q (n - q) (omega arith) in
    subst (λ (us : List Triple). Whole parts_of us 1) v (front-from ts ty w)

two-parts : (t : Triple) → TypeLine t → arrow_head (line_node t) ≡ true → parts_of t ≡ 2
two-parts t h a = let k = eqb-true t.kind 13 ((and-eq-true_iff (eqb t.kind 13) _).0 a).0 in sym h ∙ rw k

-- ---- an Arrow at line p
module _ (ls : List Triple) (p c : ℕ) (stands : p + c ≤ length ls) (types : All TypeLine (take c (drop p ls))) (whole : Whole parts_of (take c (drop p ls)) 1)
    (arrow : arrow_head (line_node (get_or ls p no_triple)) ≡ true) where
  abbrev H : Triple
  H = get_or ls p no_triple

  abbrev after : List Triple
  after = take (c - 1) (drop (p + 1) ls)

  some : 0 < c
  some = whole-some ls p c whole

  cons : take c (drop p ls) ≡ H ∷ after
  cons = let s = some in lines_cons ls p c (omega arith) some

  both-types : TypeLine H × All TypeLine after
  both-types = subst (All TypeLine) cons types

  two : Whole parts_of after 2
  two =
      let w : Whole parts_of after (parts_of H + 0) = subst (λ (ts : List Triple). Whole parts_of ts 1) cons whole in
      rw (two-parts H both-types.0 arrow) at w

  split : Whole parts_of (take_parts parts_of after 1) 1 × Whole parts_of (drop_parts parts_of after 1) 1
  split = whole_split parts_of after 1 1 two

  length-after : length after ≡ c - 1
  length-after = let s = some in simp (length-take, length-drop) (omega arith)

  -- the first part ends where the line's end says, whatever comes after
  same_first : take_parts parts_of (drop (p + 1) ls) 1 ≡ take_parts parts_of after 1
  same_first =
      let A : List Triple = take_parts parts_of after 1 in
      let B : List Triple = drop_parts parts_of after 1 in
      let C : List Triple = drop (c - 1) (drop (p + 1) ls) in
      ap (λ (ts : List Triple). take_parts parts_of ts 1) (sym (take-append-drop (c - 1) (drop (p + 1) ls)) ∙ ap (λ (ts : List Triple). ts ++ C) (sym (take-drop parts_of after 1)) ∙ append_assoc A B C)
      ∙ wholes.take_whole parts_of A (B ++ C) 1 split.0

  module _ (m : ℕ) (e : p + 1 + m ≡ part_line ls (p + 1) 1) where
    size : m ≡ length (take_parts parts_of after 1)
    unfolding part_line
    size = let l = ap length same_first in omega arith

    pub short : 1 + m < c
    short =
        let f = whole-few parts_of (drop_parts parts_of after 1) 1 split.1 in
        let d : length (drop_parts parts_of after 1) ≡ length after - m = ap length (is-drop parts_of after 1 ∙ ap (λ (n : ℕ). drop n after) (sym size)) ∙ length-drop m after in
        let l = length-after in
        let s = some in
        omega arith

    first-lines : take_parts parts_of after 1 ≡ take m (drop (p + 1) ls)
    first-lines =
        let s = short in
        is-take parts_of after 1 ∙ ap (λ (n : ℕ). take n after) (sym size) ∙ cut-cut ls (p + 1) (c - 1) 0 m (omega arith) ∙ ap (λ (n : ℕ). take m (drop n ls)) (add-zero (p + 1))

    rest_lines : drop_parts parts_of after 1 ≡ take (c - 1 - m) (drop (p + 1 + m) ls)
    rest_lines =
        let s = short in
        let l = length-after in
        let d : length (drop m after) ≡ length after - m = length-drop m after in
        is-drop parts_of after 1 ∙ ap (λ (n : ℕ). drop n after) (sym size) ∙ sym (take_whole (drop m after) (c - 1 - m) (omega arith)) ∙ cut-cut ls (p + 1) (c - 1) m (c - 1 - m) (omega arith)

    pub first-whole : Whole parts_of (take m (drop (p + 1) ls)) 1
    first-whole = subst (λ (ts : List Triple). Whole parts_of ts 1) first-lines split.0

    pub rest-whole : Whole parts_of (take (c - 1 - m) (drop (p + 1 + m) ls)) 1
    rest-whole = subst (λ (ts : List Triple). Whole parts_of ts 1) rest_lines split.1

    pub rest-types : All TypeLine (take (c - 1 - m) (drop (p + 1 + m) ls))
    rest-types =
        let s = short in
        let z : p + (1 + m) ≡ p + 1 + m = omega arith in
        rw z at (part-all TypeLine ls p c types (1 + m) (c - 1 - m) (omega arith))

    -- as nodes
    pub arrow-cons : nodes_of (take c (drop p ls)) ≡ line_node H ∷ nodes_of after
    arrow-cons = ap nodes_of cons

    pub first-is : first (nodes_of after) ≡ nodes_of (take m (drop (p + 1) ls))
    first-is = take-nodes after 1 both-types.1 ∙ ap nodes_of first-lines

    pub rest-is : rest (nodes_of after) ≡ nodes_of (take (c - 1 - m) (drop (p + 1 + m) ls))
    rest-is = drop-nodes after 1 both-types.1 ∙ ap nodes_of rest_lines
