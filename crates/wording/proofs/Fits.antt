-- How long a text gets: a type has at most 23 bytes a node. Assumes nothing.
use Rattle.std.proofs.Common.{◌≡◌, refl, Bool, true, false, cond, List, [], ◌∷◌, ◌++◌, ℕ, zero, suc, ◌+◌, ◌-◌, ◌*◌, ◌/◌, ◌≤◌, arith, eqb, length, length-append}
use Rattle.spelling.specs.declared.Field.TheVariants.{Number}
use Rattle.spelling.proofs.Texts.{length-field}
use Rattle.nodes.specs.Nodes.{Node, node, Ty}
use Rattle.nodes.proofs.Laws.{length-nodes_at}
use Rattle.wording.specs.declared.Place.{Place}
use Rattle.wording.specs.declared.Place.TheVariants.{Alone, Before, Result, Part, Applied, Argument}
use Rattle.wording.specs.Texts.{bytes, number_text, name_text, least}
use Rattle.wording.specs.Spelt.{Piece, text, type, separator, in_parentheses, parts, product, quantifier, leaf, bare, pieces, spelt, type_text, reported}
use Rattle.columns.specs.Columns.{digits}
use Rattle.columns.proofs.Laws.{digits-few}

pub cond-within : (b : Bool) (s t : List ℕ) (n : ℕ) → length s ≤ n → length t ≤ n → length (cond b s t) ≤ n
cond-within true s t n h k = h
cond-within false s t n h k = k

pub number-within : (n : ℕ) → length (number_text n) ≤ 10
unfolding number_text
number-within n = rw (length-field (digits n) (Number false n)) (digits-few n)

pub name-within : (x : ℕ) → length (name_text x) ≤ 11
unfolding name_text
name-within x =
    let h : length (bytes "n" ++ number_text x) ≤ 11 = rw (length-append (bytes "n") (number_text x)) (omega (arith, number-within x)) in
    cond-within (eqb x 1) _ _ 11 (omega arith) (cond-within (eqb x 2) _ _ 11 (omega arith) (cond-within (eqb x 3) _ _ 11 (omega arith) (cond-within (eqb x 4) _ _ 11 (omega arith) h)))

-- the bytes of the texts among pieces
weight : List Piece → ℕ
weight [] = 0
weight (text b ∷ qs) = length b + weight qs
weight (type p ∷ qs) = weight qs

weight-append : (qs rs : List Piece) → weight (qs ++ rs) ≡ weight qs + weight rs
unfolding weight
weight-append [] rs = omega arith
weight-append (text b ∷ qs) rs = let h = weight-append qs rs in omega arith
weight-append (type p ∷ qs) rs = weight-append qs rs

weight-parts : (p : Place) (n : ℕ) → weight (parts p n) ≡ 0
unfolding weight
weight-parts p zero = refl
weight-parts p (suc n) = weight-parts Part n

weight-cond : (b : Bool) (qs rs : List Piece) (n : ℕ) → weight qs ≤ n → weight rs ≤ n → weight (cond b qs rs) ≤ n
weight-cond true qs rs n h k = h
weight-cond false qs rs n h k = k

quantifier-within : (x : ℕ) → length (quantifier x) ≤ 16
unfolding quantifier
quantifier-within x = simp length-append (omega (arith, name-within x))

leaf-within : (k v : ℕ) → length (leaf k v) ≤ 11
unfolding leaf
leaf-within k v =
    let a = name-within v in
    let b : length (bytes "^" ++ number_text v) ≤ 11 = rw (length-append (bytes "^") (number_text v)) (omega (arith, number-within v)) in
    let c : length (bytes "!" ++ number_text v) ≤ 11 = rw (length-append (bytes "!") (number_text v)) (omega (arith, number-within v)) in
    cond-within (eqb k 11) _ _ 11 a (cond-within (eqb k 12) _ _ 11 a (cond-within (eqb k 17) _ _ 11 b (cond-within (eqb k 18) _ _ 11 c (omega arith))))

product-within : (n : ℕ) → weight (product n) ≤ 16
unfolding weight
product-within n =
    let ending = text (cond (eqb n 1) (bytes " ×") []) ∷ text (bytes ")") ∷ [] in
    let a : weight (parts Before n ++ ending) ≡ weight (parts Before n) + weight ending = weight-append (parts Before n) ending in
    let b : weight (parts Before n) ≡ 0 = weight-parts Before n in
    let c : length (cond (eqb n 1) (bytes " ×") []) ≤ 3 = cond-within (eqb n 1) _ _ 3 (omega arith) (omega arith) in
    omega arith

bare-within : (k v : ℕ) → weight (bare k v) ≤ 16
unfolding weight bare
bare-within k v =
    let q = quantifier-within v in
    let l = leaf-within k v in
    weight-cond (eqb k 13) _ _ 16 (omega arith)
    (weight-cond (eqb k 14) _ _ 16 (omega arith) (weight-cond (eqb k 15) _ _ 16 (omega arith) (weight-cond (eqb k 16) _ _ 16 (product-within v) (omega arith))))

separator-within : (p : Place) → length (bytes (separator p)) ≤ 5
separator-within Alone = omega arith
separator-within Before = omega arith
separator-within Result = omega arith
separator-within Part = omega arith
separator-within Applied = omega arith
separator-within Argument = omega arith

pieces-within : (p : Place) (x : Node) → weight (pieces p x) ≤ 23
unfolding weight pieces
pieces-within p (node k v) =
    let b = in_parentheses k p in
    let ending = text (cond b (bytes ")") []) ∷ [] in
    let a : weight (bare k v ++ ending) ≡ weight (bare k v) + weight ending = weight-append (bare k v) ending in
    let c : length (cond b (bytes "(") []) ≤ 1 = cond-within b _ _ 1 (omega arith) (omega arith) in
    let d : length (cond b (bytes ")") []) ≤ 1 = cond-within b _ _ 1 (omega arith) (omega arith) in
    let e = separator-within p in
    let f = bare-within k v in
    omega arith

spelt-within : (ns : Ty) (qs : List Piece) → length (spelt ns qs) ≤ weight qs + 23 * length ns
unfolding weight spelt
spelt-within [] [] = omega arith
spelt-within [] (text b ∷ qs) = rw (length-append b (spelt [] qs)) (let h = spelt-within [] qs in omega arith)
spelt-within [] (type p ∷ qs) = spelt-within [] qs
spelt-within (x ∷ ns) [] = omega arith
spelt-within (x ∷ ns) (text b ∷ qs) = rw (length-append b (spelt (x ∷ ns) qs)) (let h = spelt-within (x ∷ ns) qs in omega arith)
spelt-within (x ∷ ns) (type p ∷ qs) =
    let h = spelt-within ns (pieces p x ++ qs) in
    let a = weight-append (pieces p x) qs in
    let b = pieces-within p x in
    omega arith

pub type-within : (ns : Ty) → length (type_text ns) ≤ 23 * length ns
unfolding type_text weight
type-within ns = let h = spelt-within ns (type Alone ∷ []) in omega arith

-- a type of a report
pub reported-within : (ws : List ℕ) (from n : ℕ) → length (type_text (reported ws from n)) ≤ 23 * (least (from + n) (length ws / 2) - from)
reported-within ws from n =
    let e : length (reported ws from n) ≡ least (from + n) (length ws / 2) - from = length-nodes_at ws _ _ in
    let h = type-within (reported ws from n) in
    omega arith
