-- The type of a reference, and the parameters that it stands for. Assumes nothing.
use Rattle.std.proofs.Common.{◌≡◌, refl, sym, ap, ap₂, ◌∙◌, subst, Bool, true, false, cond, List, [], ◌∷◌, ℕ, zero, suc, ◌+◌, ◌*◌, ◌-◌, ◌≤◌, ◌<◌, arith, eq-eqb, ne_eqb, lt-ltb, ltb, length, get_or, set, take, drop, length-drop}
use lib.Dec.{leb-suc-suc}
use Rattle.std.proofs.lemmas.List.Edits.{sets}
use Rattle.nodes.specs.Nodes.{Node, Ty, words, nodes_at}
use Rattle.nodes.specs.Parts.{Whole}
use Rattle.nodes.specs.Lists.{All}
use Rattle.spelling.specs.declared.Triple.{Triple}
use Rattle.kinds.specs.Kinds.{parts_of}
use Rattle.sheet.specs.Plan.{no_triple, line_node, nodes_of, part_line, Narrow}
use Rattle.sheet.specs.Rows.{rows, Ended}
use Rattle.sheet.proofs.Lines.{line-from}
use Rattle.sheet.proofs.Copies.{lines_cons}
use Rattle.judgment.specs.Types.{first, rest, unknown, Renaming, rename, rename_node}
use Rattle.constructors.specs.Opening.{open_lines}
use Rattle.constructors.proofs.Openings.{nodes-of-lines, cut-cut, nodes-cut, part-all, part-narrow, part-opened, nodes-put}
use Rattle.references.specs.Signatures.{arrow_head, params}
use Rattle.references.specs.declared.TypeRef.{TypeRef}
use Rattle.references.specs.References.{whole_of, opened_at, type_of, instance_out, pending_of, TypeLine, Good, Frame, parameter_of, others_of, Halved}
use Rattle.references.proofs.Cuts.{length-rename, take-rename, drop-rename, arrow-rename}
use Rattle.references.proofs.Arrows.{whole-some, short, first-whole, rest-whole, first-is, rest-is}
use Rattle.references.proofs.Signs.{params-enough}

-- the type of a reference into a type, and its parameters
pub type-is : (ls : List Triple) (r : TypeRef) → 0 < r.lines → type_of ls r ≡ rename (opened_at (whole_of ls r) r.base) (take r.count (drop r.at (whole_of ls r)))
unfolding type_of
type-is ls r h = rw (ne_eqb r.lines 0 (omega arith))

pub pending-is : (ls : List Triple) (r : TypeRef) → 0 < r.lines → pending_of ls r ≡ params r.count (type_of ls r)
unfolding pending_of
pending-is ls r h = rw (ne_eqb r.lines 0 (omega arith))

-- the nodes of its own lines, renamed
pub lines_are : (ls : List Triple) (r : TypeRef) → Good ls r → 0 < r.lines → take r.count (drop r.at (whole_of ls r)) ≡ nodes_of (take r.count (drop (r.first + r.at) ls))
lines_are ls r g h = nodes-cut (take r.lines (drop r.first ls)) r.at r.count ∙ ap nodes_of (cut-cut ls r.first r.lines r.at r.count (g.within h))

-- ---- written to the front of a buffer
pub lines_fit : (ls : List Triple) (r : TypeRef) → Good ls r → 0 < r.lines → (r.first + r.at + r.count ≤ length ls) × All Narrow (take r.count (drop (r.first + r.at) ls))
lines_fit ls r g h =
    let w = g.within h in
    let s = g.stands in
    (omega arith, part-narrow ls r.first r.lines g.narrow r.at r.count w)

module _ (d : List ℕ) (r : TypeRef) (g : Good (rows d) r) (E : Ended d) (h : 0 < r.lines) where
  pub instance-opened : open_lines d r.base (r.first + r.at) r.count ≡ type_of (rows d) r
  instance-opened =
      let D = g.declared h in
      part-opened d r.first r.lines g.stands (E.bound D.name r.first r.lines D.found) r.base r.at r.count (g.within h) ∙ sym (type-is (rows d) r h)

pub put-type : (ls : List Triple) (r : TypeRef) (o o' : List ℕ) (t : Ty) → t ≡ type_of ls r → length t ≡ r.count → 2 * r.count ≤ length o → o' ≡ sets o 0 (words t)
    → (nodes_at o' 0 r.count ≡ type_of ls r) × (o' ≡ instance_out ls r o)
unfolding instance_out
put-type ls r o o' t e l h q = (nodes-put t o o' r.count q l h ∙ e, q ∙ ap (λ (u : Ty). sets o 0 (words u)) e)

pub type-alone : (ls : List Triple) (r : TypeRef) → r.lines ≡ 0 → unknown r.base ≡ type_of ls r
unfolding type_of
type-alone ls r z = rw (eq-eqb r.lines 0 z)

pub put_alone : (o : List ℕ) (u : ℕ) → set (set o 0 17) 1 u ≡ sets o 0 (words (unknown u))
unfolding words
put_alone o u = refl

-- ---- the first parameter, and those after it
some-params : (n : ℕ) (t : Ty) → 0 < length (params n t) → (0 < n) × (params n t ≡ first (drop 1 t) ∷ params (n - 1) (rest (drop 1 t)))
unfolding params
some-params zero t h = absurd (omega arith)
some-params (suc n) [] h = absurd (omega arith)
some-params (suc n) (x ∷ t) h = (omega arith, by (arrow_head x) refl)
  where
    by : (q : Bool) → arrow_head x ≡ q → params (suc n) (x ∷ t) ≡ first t ∷ params (suc n - 1) (rest t)
    by true e = let z : suc n - 1 ≡ n = omega arith in rw (e, z)
    by false e = absurd (let z : length (params (suc n) (x ∷ t)) ≡ 0 = rw e in omega arith)

pub length-type : (ls : List Triple) (r : TypeRef) → Good ls r → 0 < r.lines → length (type_of ls r) ≡ r.count
length-type ls r g h =
    let t : Ty = whole_of ls r in
    let l : length t ≡ r.lines = nodes-of-lines ls r.first r.lines g.stands in
    let w : r.at + r.count ≤ r.lines = g.within h in
    ap length (type-is ls r h) ∙ length-rename (opened_at t r.base) (take r.count (drop r.at t)) ∙ simp (lib.ListN.length-take, length-drop) (omega arith)

-- a type with parameters begins with an Arrow
rename-cons : (m : Renaming) (x : Node) (t : Ty) → rename m (x ∷ t) ≡ rename_node m x ∷ rename m t
unfolding rename
rename-cons m x t = refl

has-params : (n : ℕ) (t : Ty) (x : Node) (u : Ty) → t ≡ x ∷ u → 0 < n → ltb 0 (length (params n t)) ≡ arrow_head x
unfolding params
has-params zero t x u e h = absurd (omega arith)
has-params (suc n) t x u e h = rw e (go (arrow_head x))
  where
    go : (b : Bool) → ltb 0 (length {A = Ty} (cond b (first u ∷ params n (rest u)) [])) ≡ b
    go true = lt-ltb 0 (suc (length (params n (rest u)))) (omega arith)
    go false = refl

some-arrow : (n : ℕ) (t : Ty) (x : Node) (u : Ty) → t ≡ x ∷ u → 0 < length (params n t) → arrow_head x ≡ true
some-arrow n t x u e h = sym (has-params n t x u e (some-params n t h).0) ∙ lt-ltb 0 (length (params n t)) h

-- the first of its parameters has m nodes
module _ (ls : List Triple) (r : TypeRef) (f : Frame ls r) (h : 0 < r.lines) (end : ℕ) (e : end ≡ part_line ls (r.first + r.at + 1) 1) where
  abbrev X : Ty
  X = type_of ls r

  abbrev M : Renaming
  M = opened_at (whole_of ls r) r.base

  abbrev p : ℕ
  p = r.first + r.at

  abbrev m : ℕ
  m = end - (p + 1)

  stands : p + r.count ≤ length ls
  stands = (lines_fit ls r f.good h).0

  types : All TypeLine (take r.count (drop p ls))
  types = part-all TypeLine ls r.first r.lines f.good.types r.at r.count (f.good.within h)

  whole : Whole parts_of (take r.count (drop p ls)) 1
  whole = f.good.whole h

  renamed : X ≡ rename M (nodes_of (take r.count (drop p ls)))
  renamed = type-is ls r h ∙ ap (rename M) (lines_are ls r f.good h)

  head : nodes_of (take r.count (drop p ls)) ≡ line_node (get_or ls p no_triple) ∷ nodes_of (take (r.count - 1) (drop (p + 1) ls))
  head = let s = whole-some ls p r.count whole in let w = stands in ap nodes_of (lines_cons ls p r.count (omega arith) s)

  -- it has parameters, so an Arrow stands at its front
  arrow : arrow_head (line_node (get_or ls p no_triple)) ≡ true
  arrow =
      let s : 0 < length (params r.count X) = subst (λ (l : List Ty). 0 < length l) (pending-is ls r h) f.some in
      sym (arrow-rename M (line_node (get_or ls p no_triple))) ∙ some-arrow r.count X (rename_node M (line_node (get_or ls p no_triple))) (rename M (nodes_of (take (r.count - 1) (drop (p + 1) ls)))) (renamed ∙ ap (rename M) head ∙ rename-cons M (line_node (get_or ls p no_triple)) (nodes_of (take (r.count - 1) (drop (p + 1) ls)))) s

  at-end : p + 1 + m ≡ part_line ls (p + 1) 1
  at-end = let g = line-from ls (p + 1) 1 in omega arith

  pub frame-ends : (p + 1 ≤ end) × (end < length ls) × (1 + m < r.count)
  frame-ends =
      let s = short ls p r.count stands types whole arrow m at-end in
      let g = line-from ls (p + 1) 1 in
      let w = stands in
      (omega arith, omega arith, s)

  after_is : drop 1 X ≡ rename M (nodes_of (take (r.count - 1) (drop (p + 1) ls)))
  after_is = ap (drop 1) (renamed ∙ ap (rename M) head ∙ rename-cons M (line_node (get_or ls p no_triple)) (nodes_of (take (r.count - 1) (drop (p + 1) ls))))

  first_good : Good ls (parameter_of r m)
  first_good =
      let g = f.good in
      let s = frame-ends in
      let w : r.at + r.count ≤ r.lines = g.within h in
      let z : p + 1 ≡ r.first + (r.at + 1) = omega arith in
      record {
        stands = g.stands;
        narrow = g.narrow;
        types = g.types;
        few = g.few;
        within = λ _. omega arith;
        whole = λ _. subst (λ (n : ℕ). Whole parts_of (take m (drop n ls)) 1) z (first-whole ls p r.count stands types whole arrow m at-end);
        declared = g.declared;
        low = g.low;
        alone = λ q. absurd (omega arith);
      }

  others-good : Good ls (others_of r m)
  others-good =
      let g = f.good in
      let s = frame-ends in
      let w : r.at + r.count ≤ r.lines = g.within h in
      let z : p + 1 + m ≡ r.first + (r.at + 1 + m) = omega arith in
      record {
        stands = g.stands;
        narrow = g.narrow;
        types = g.types;
        few = g.few;
        within = λ _. omega arith;
        whole = λ _. subst (λ (n : ℕ). Whole parts_of (take (r.count - 1 - m) (drop n ls)) 1) z (rest-whole ls p r.count stands types whole arrow m at-end);
        declared = g.declared;
        low = g.low;
        alone = λ q. absurd (omega arith);
      }

  first-type : first (drop 1 X) ≡ type_of ls (parameter_of r m)
  first-type =
      let s = frame-ends in
      let z : r.first + (r.at + 1) ≡ p + 1 = omega arith in
      ap first after_is ∙ take-rename M (nodes_of (take (r.count - 1) (drop (p + 1) ls))) 1
      ∙ ap (rename M) (first-is ls p r.count stands types whole arrow m at-end ∙ ap (λ (n : ℕ). nodes_of (take m (drop n ls))) (sym z) ∙ sym (lines_are ls (parameter_of r m) first_good h))
      ∙ sym (type-is ls (parameter_of r m) h)

  rest-type : rest (drop 1 X) ≡ type_of ls (others_of r m)
  rest-type =
      let z : r.first + (r.at + 1 + m) ≡ p + 1 + m = omega arith in
      ap rest after_is ∙ drop-rename M (nodes_of (take (r.count - 1) (drop (p + 1) ls))) 1
      ∙ ap (rename M) (rest-is ls p r.count stands types whole arrow m at-end ∙ ap (λ (n : ℕ). nodes_of (take (r.count - 1 - m) (drop n ls))) (sym z) ∙ sym (lines_are ls (others_of r m) others-good h))
      ∙ sym (type-is ls (others_of r m) h)

  -- others follow where the rest begins with an Arrow
  more-is : ltb 0 (length (pending_of ls (others_of r m))) ≡ arrow_head (line_node (get_or ls end no_triple))
  more-is =
      let s = frame-ends in
      let k : p + 1 + m ≡ end = omega arith in
      let z : r.first + (r.at + 1 + m) ≡ end = omega arith in
      let c : ℕ = r.count - 1 - m in
      let x : type_of ls (others_of r m) ≡ rename_node M (line_node (get_or ls end no_triple)) ∷ rename M (nodes_of (take (c - 1) (drop (end + 1) ls))) =
      type-is ls (others_of r m) h ∙ ap (rename M) (lines_are ls (others_of r m) others-good h ∙ ap (λ (n : ℕ). nodes_of (take c (drop n ls))) z ∙ ap nodes_of (lines_cons ls end c (omega arith) (omega arith)))
      ∙ rename-cons M (line_node (get_or ls end no_triple)) (nodes_of (take (c - 1) (drop (end + 1) ls))) in
      ap (λ (l : List Ty). ltb 0 (length l)) (pending-is ls (others_of r m) h)
      ∙ has-params c (type_of ls (others_of r m)) (rename_node M (line_node (get_or ls end no_triple))) (rename M (nodes_of (take (c - 1) (drop (end + 1) ls)))) x (omega arith)
      ∙ arrow-rename M (line_node (get_or ls end no_triple))

  pub halved : (b : Bool) → b ≡ arrow_head (line_node (get_or ls end no_triple)) → Halved ls r (record { count = m; more = b })
  halved b q =
      let s : 0 < length (params r.count X) = subst (λ (l : List Ty). 0 < length l) (pending-is ls r h) f.some in
      let l = frame-ends in
      let g : length (type_of ls (others_of r m)) ≡ r.count - 1 - m = length-type ls (others_of r m) others-good h in
      let y : length (type_of ls (parameter_of r m)) ≡ m = length-type ls (parameter_of r m) first_good h in
      let pending : pending_of ls r ≡ type_of ls (parameter_of r m) ∷ pending_of ls (others_of r m) =
      pending-is ls r h
      ∙ (some-params r.count X s).1
      ∙ ap₂ (λ (x : Ty) (t : Ty). x ∷ params (r.count - 1) t) first-type rest-type
      ∙ ap (λ (u : List Ty). type_of ls (parameter_of r m) ∷ u)
      (params-enough (r.count - 1) (r.count - 1 - m) (type_of ls (others_of r m)) (omega arith) (omega arith) ∙ sym (pending-is ls (others_of r m) h)) in
      let more : b ≡ ltb 0 (length (pending_of ls (others_of r m))) = q ∙ sym more-is in
      let size : m ≡ length (first (drop 1 X)) = sym (ap length first-type ∙ y) in
      record {
        short = omega arith;
        first = first_good;
        others = others-good;
        pending = pending;
        more = more;
        answer = ap₂ (λ (n : ℕ) (b : Bool). record { count = n; more = b }) size (more ∙ sym (ap (λ (l : List Ty). ltb 1 (length l)) pending ∙ leb-suc-suc 1 (length (pending_of ls (others_of r m)))));
      }
