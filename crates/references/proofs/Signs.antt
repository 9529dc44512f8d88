-- Laws of parameters and results. Assumes nothing.
use Rattle.std.proofs.Common.{◌≡◌, refl, sym, ap, ap₂, ◌∙◌, subst, Bool, true, false, cond, ◌&&◌, List, [], ◌∷◌, ◌++◌, append-nil, append_assoc, ℕ, zero, suc, ◌+◌, ◌-◌, ◌≤◌, ◌<◌, not-suc-le-zero, arith, eqb, length, get_or, take, drop}
use Rattle.nodes.specs.Nodes.{Node, node, Ty, node_parts}
use Rattle.nodes.specs.Parts.{drop_parts, Whole}
use Rattle.nodes.specs.Lists.{All}
use Rattle.spelling.specs.declared.Triple.{Triple}
use Rattle.kinds.specs.Kinds.{parts_of}
use Rattle.sheet.specs.Plan.{no_triple, line_node, nodes_of, part_line}
use Rattle.sheet.proofs.Lines.{line-from}
use Rattle.sheet.proofs.Copies.{lines_cons}
use Rattle.constructors.proofs.Openings.{nodes-of-lines}
use Rattle.nodes.proofs.ListLaws.{cond_ind}
use Rattle.judgment.specs.Types.{first, rest, null, View, is_arrow, is_app, is_forall, is_unknown, is_other, view}
use Rattle.judgment.specs.Board.{Rule}
use Rattle.judgment.specs.Rules.{signature_by, signature_from}
use Rattle.references.specs.Signatures.{arrow_head, params, result, ending_of}
use Rattle.references.specs.References.{TypeLine}
use Rattle.references.proofs.Arrows.{whole-some, short, rest-whole, rest-types, arrow-cons, rest-is}

-- ---- this is what the definition's rule goes on with
module _ (ps : List Ty) (t : Ty) (f : List Ty → Ty → Rule) (again : List Ty → Ty → Rule) where
  other : (v : ℕ) (a b n : Ty) (x y z : Bool)
      → signature_by ps t f again (cond x (is_app a b) (cond y (is_forall v n) (cond z (is_unknown v) is_other))) ≡ f ps t
  other v a b n true y z = refl
  other v a b n false true z = refl
  other v a b n false false true = refl
  other v a b n false false false = refl

  by : (a b : Ty) (qs : List Ty) (r : Ty) (w : View) → again (ps ++ (a ∷ [])) b ≡ f ((ps ++ (a ∷ [])) ++ qs) r → signature_by ps t f again w ≡ f ps t
      → (x : Bool) → signature_by ps t f again (cond x (is_arrow a b) w) ≡ f (ps ++ cond x (a ∷ qs) []) (cond x r t)
  by a b qs r w h g true = h ∙ ap (λ (l : List Ty). f l r) (append_assoc ps (a ∷ []) qs)
  by a b qs r w h g false = g ∙ ap (λ (l : List Ty). f l t) (sym (append-nil ps))

pub signature-is : (n : ℕ) (ps : List Ty) (t : Ty) (f : List Ty → Ty → Rule) → signature_from n ps t f ≡ f (ps ++ params n t) (result n t)
unfolding signature_from params result view
signature-is zero ps t f = ap (λ (l : List Ty). f l t) (sym (append-nil ps))
signature-is (suc n) ps [] f = ap (λ (l : List Ty). f l []) (sym (append-nil ps))
signature-is (suc n) ps (node k v ∷ t) f =
    by ps (node k v ∷ t) f (λ qs u. signature_from n qs u f) (first t) (rest t) (params n (rest t)) (result n (rest t)) _
    (signature-is n (ps ++ (first t ∷ [])) (rest t) f)
    (other ps (node k v ∷ t) f (λ qs u. signature_from n qs u f) v (first t) (rest t) t (eqb k 15 && eqb v 0) (eqb k 14) (eqb k 17 && null t))
    (eqb k 13 && eqb v 0)

-- ---- as many rounds as there are nodes are enough
pub length-parts : (t : Ty) (n : ℕ) → length (drop_parts node_parts t n) ≤ length t
length-parts [] n = omega arith
length-parts (x ∷ t) zero = omega arith
length-parts (x ∷ t) (suc n) = let i = length-parts t (node_parts x + n) in omega arith

pub params-enough : (n m : ℕ) (t : Ty) → length t ≤ n → length t ≤ m → params n t ≡ params m t
unfolding params
params-enough zero zero t h g = refl
params-enough zero (suc m) [] h g = refl
params-enough zero (suc m) (x ∷ t) h g = absurd (not-suc-le-zero h)
params-enough (suc n) zero [] h g = refl
params-enough (suc n) zero (x ∷ t) h g = absurd (not-suc-le-zero g)
params-enough (suc n) (suc m) [] h g = refl
params-enough (suc n) (suc m) (x ∷ t) h g =
    let i = length-parts t 1 in
    let h' : suc (length t) ≤ suc n = h in
    let g' : suc (length t) ≤ suc m = g in
    ap (λ (l : List Ty). cond (arrow_head x) (first t ∷ l) []) (params-enough n m (rest t) (omega arith) (omega arith))

left_over : (n i a : ℕ) → i < n → a ≤ i → 0 < n - a
left_over n i a h g = omega arith

sum-up : (x y z a : ℕ) → x ≡ a + y → y ≡ suc z → x ≡ a + 1 + z
sum-up x y z a e f = omega arith

one_less : (n a : ℕ) → n - a - 1 ≡ n - (a + 1)
one_less n a = omega arith

-- ---- the walk over the lines of a type
params-stop : (f : ℕ) (t : Ty) (x : Node) (u : Ty) → t ≡ x ∷ u → arrow_head x ≡ false → (params f t ≡ []) × (result f t ≡ t)
unfolding params result
params-stop zero t x u c e = (refl, refl)
params-stop (suc f) t x u c e = (rw (c, e), rw (c, e))

module _ (ls : List Triple) (first n : ℕ) (stands : first + n ≤ length ls) where
  abbrev nodes_from : ℕ → Ty
  nodes_from i = nodes_of (take (n - i) (drop (first + i) ls))

  abbrev T : Ty
  T = nodes_of (take n (drop first ls))

  -- the i lines before are those of so many Arrows and their parameters, and what is left is a whole type
  pub record Signing (i arity : ℕ) : Type 0 where
    pub within : i ≤ n
    pub few : arity ≤ i
    pub types : All TypeLine (take (n - i) (drop (first + i) ls))
    pub whole : Whole parts_of (take (n - i) (drop (first + i) ls)) 1
    pub counted : length (params n T) ≡ arity + length (params (n - arity) (nodes_from i))
    pub left : result n T ≡ result (n - arity) (nodes_from i)

  pub sign-start : All TypeLine (take n (drop first ls)) → Whole parts_of (take n (drop first ls)) 1 → Signing 0 0
  sign-start ty w =
      let e : n ≡ n - 0 = omega arith in
      let a : first ≡ first + 0 = omega arith in
      let z : length (params (n - 0) (nodes_from 0)) ≡ 0 + length (params (n - 0) (nodes_from 0)) = omega arith in
      let l : take n (drop first ls) ≡ take (n - 0) (drop (first + 0) ls) = ap₂ (λ (x y : ℕ). take x (drop y ls)) e a in
      record {
        within = omega arith;
        few = omega arith;
        types = subst (All TypeLine) l ty;
        whole = subst (λ (ts : List Triple). Whole parts_of ts 1) l w;
        counted = ap₂ (λ (x : ℕ) (t : Ty). length (params x t)) e (ap nodes_of l) ∙ z;
        left = ap₂ result e (ap nodes_of l);
      }

  module _ {i arity : ℕ} (S : Signing i arity) where
    pub sign-more : i < n
    sign-more = let s = whole-some ls (first + i) (n - i) S.whole in omega arith

    fits : first + i + (n - i) ≤ length ls
    fits = let w = S.within in omega arith

    module _ (arrow : arrow_head (line_node (get_or ls (first + i) no_triple)) ≡ true) (end : ℕ) (e : end ≡ part_line ls (first + i + 1) 1) where
      abbrev m : ℕ
      m = end - (first + i + 1)

      whole-line : first + i + 1 + m ≡ part_line ls (first + i + 1) 1
      whole-line = let f = line-from ls (first + i + 1) 1 in omega arith

      next : end - first ≡ i + 1 + m
      next = let f = line-from ls (first + i + 1) 1 in omega arith

      pub sign-ends : (first ≤ end) × (i < end - first) × (end - first < n)
      sign-ends =
          let s = short ls (first + i) (n - i) fits S.types S.whole arrow m whole-line in
          let f = line-from ls (first + i + 1) 1 in
          let k = next in
          (omega arith, omega arith, omega arith)

      params-turn : (f : ℕ) → 0 < f → (length (params f (nodes_from i)) ≡ suc (length (params (f - 1) (nodes_of (take (n - i - 1 - m) (drop (first + i + 1 + m) ls)))))) × (result f (nodes_from i) ≡ result (f - 1) (nodes_of (take (n - i - 1 - m) (drop (first + i + 1 + m) ls))))
      unfolding params result
      params-turn zero h = absurd (omega arith)
      params-turn (suc f) h =
          let z : suc f - 1 ≡ f = omega arith in
          let c = arrow-cons ls (first + i) (n - i) fits S.types S.whole arrow m whole-line in
          let r = rest-is ls (first + i) (n - i) fits S.types S.whole arrow m whole-line in
          (rw (c, arrow, z, r), rw (c, arrow, z, r))

      pub sign-turn : Signing (end - first) (arity + 1)
      sign-turn =
          let s = sign-more in
          let b = sign-ends in
          let a = S.few in
          let t = params-turn (n - arity) (left_over n i arity s a) in
          let x : first + i + 1 + m ≡ first + (end - first) = (let k = next in omega arith) in
          let y : n - i - 1 - m ≡ n - (end - first) = (let k = next in omega arith) in
          let z : n - arity - 1 ≡ n - (arity + 1) = one_less n arity in
          let t0 : length (params (n - arity) (nodes_from i)) ≡ suc (length (params (n - (arity + 1)) (nodes_from (end - first)))) = rw (x, y, z) at t.0 in
          let t1 : result (n - arity) (nodes_from i) ≡ result (n - (arity + 1)) (nodes_from (end - first)) = rw (x, y, z) at t.1 in
          record {
            within = omega arith;
            few = (let k = next in omega arith);
            types = rw (x, y) at (rest-types ls (first + i) (n - i) fits S.types S.whole arrow m whole-line);
            whole = rw (x, y) at (rest-whole ls (first + i) (n - i) fits S.types S.whole arrow m whole-line);
            counted = sum-up _ _ _ arity S.counted t0;
            left = S.left ∙ t1;
          }

    pub sign-stop : arrow_head (line_node (get_or ls (first + i) no_triple)) ≡ false
        → (nodes_from i ≡ result n T) × (record { arity = arity; start = i } ≡ ending_of n T)
    sign-stop e =
        let s = sign-more in
        let a = S.few in
        let p = stop (n - arity) in
        let l : length (nodes_from i) ≡ n - i = nodes-of-lines ls (first + i) (n - i) fits in
        let c = S.counted in
        let r : nodes_from i ≡ result n T = sym (S.left ∙ p.1) in
        let q : length (result n T) ≡ n - i = ap length (sym r) ∙ l in
        let k : arity ≡ length (params n T) = (let u : length (params (n - arity) (nodes_from i)) ≡ 0 = ap length p.0 in omega arith) in
        let j : i ≡ n - length (result n T) = omega arith in
        (r, ap₂ (λ (x y : ℕ). record { arity = x; start = y }) k j)
      where
        stop : (f : ℕ) → (params f (nodes_from i) ≡ []) × (result f (nodes_from i) ≡ nodes_from i)
        stop f = params-stop f (nodes_from i) (line_node (get_or ls (first + i) no_triple)) _ (let s = sign-more in ap nodes_of (lines_cons ls (first + i) (n - i) (omega arith) (omega arith))) e

pub few-params : (n : ℕ) (t : Ty) → length (params n t) ≤ n
unfolding params
few-params zero t = omega arith
few-params (suc n) [] = omega arith
few-params (suc n) (x ∷ t) = cond_ind (λ (l : List Ty). length l ≤ suc n) (arrow_head x) (λ e. (let i = few-params n (rest t) in omega arith)) (λ e. omega arith)
