-- The lines of a whole type are, as nodes, one whole type: `type-whole`. Words hold their values: `type-narrow`; and those of a term, but for a literal: `term-narrow`. Assumes nothing.
use Rattle.std.proofs.Common.{Some, ◌≡◌, refl, sym, ap, ◌∙◌, ◌⊎◌, inl, inr, Bool, true, false, not, cond, ◌&&◌, ◌||◌, List, [], ◌∷◌, ◌++◌, append-nil, ℕ, zero, suc, ◌≤◌, ◌<◌, arith, length, replicate, length-append, eqb, leb, eqb-true, ne_eqb, leb-true}
use mathlib.Core.Path.{subst⁻¹}
use mathlib.Core.Bool.{and-eq-true_iff, false≢true}
use lib.ListN.{length-replicate}
use Rattle.sizes.specs.Sizes.{highest_name}
use Rattle.nodes.specs.Nodes.{node, node_parts}
use Rattle.nodes.specs.Parts.{Whole}
use Rattle.nodes.specs.Lists.{All}
use Rattle.spelling.specs.declared.Triple.{Triple}
use Rattle.kinds.specs.declared.Row.{Row}
use Rattle.kinds.specs.declared.Sort.{Sort}
use Rattle.kinds.specs.declared.Value.{Value}
use Rattle.kinds.specs.declared.Value.TheVariants.{Unused, Name, Number, Operator}
use Rattle.kinds.specs.Kinds.{a_type, a_term, nothing, same_sort, table, row_of, unlisted, value_ok, count_ok, begins}
use Rattle.kinds.proofs.Rows.{every_listed, listed-passes, same-true, true-same, is_number}
use Rattle.grammar.specs.Grammar.{Item, part, entries, ok, due, following}
use Rattle.sheet.specs.Plan.{line_node, nodes_of, Narrow}
use Rattle.sheet.specs.Form.{Forms, IsPart}
use Rattle.sheet.proofs.Forming.{due-following}

-- only parts of sort x are due
abbrev pub Only : Sort → List Item → Type 0
Only x [] = Unit {0}
Only x (part y ∷ ahead) = (y ≡ x) × Only x ahead
Only x (entries k n ∷ ahead) = ⊥

pub only-append : (x : Sort) (a b : List Item) → Only x a → Only x b → Only x (a ++ b)
only-append x [] b p q = q
only-append x (part y ∷ a) b p q = (p.0, only-append x a b p.1 q)
only-append x (entries k n ∷ a) b p q = absurd p

pub only-replicate : (x : Sort) (n : ℕ) → Only x (replicate n (part x))
only-replicate x zero = tt
only-replicate x (suc n) = (refl, only-replicate x n)

-- a type's row: as many types follow as the node says, and nothing else
abbrev type_row : ℕ → Row → Bool
type_row k r =
    not (same_sort r.sort a_type)
    || (eqb r.terms 0 && cond (eqb k 16) (eqb r.types 0 && same_sort r.each a_type) (same_sort r.each nothing && eqb r.types (node_parts (node k 0))))

-- of such a row, with the count c and the value v
abbrev Fits : ℕ → Row → ℕ → ℕ → Type 0
Fits k r c v =
    Only a_type (following r.types r.terms r.each c) × (length (following r.types r.terms r.each c) ≡ node_parts (node k (cond (eqb k 16) c v)))

other-kind : (k v : ℕ) → eqb k 16 ≡ false → node_parts (node k 0) ≡ node_parts (node k v)
other-kind k v e = rw e

row_fits : (k c v : ℕ) (r : Row) → type_row k r ≡ true → r.sort ≡ a_type → Fits k r c v
unfolding following
row_fits k c v r e s = go (eqb k 16) refl rest.0 rest.1
  where
    rest : (r.terms ≡ 0) × (cond (eqb k 16) (eqb r.types 0 && same_sort r.each a_type) (same_sort r.each nothing && eqb r.types (node_parts (node k 0))) ≡ true)
    rest =
        let h : (eqb r.terms 0 && cond (eqb k 16) (eqb r.types 0 && same_sort r.each a_type) (same_sort r.each nothing && eqb r.types (node_parts (node k 0)))) ≡ true = rw s at e in
        let b = (and-eq-true_iff (eqb r.terms 0) _).0 h in
        (eqb-true r.terms 0 b.0, b.1)

    go : (b : Bool) → eqb k 16 ≡ b → r.terms ≡ 0 → cond b (eqb r.types 0 && same_sort r.each a_type) (same_sort r.each nothing && eqb r.types (node_parts (node k 0))) ≡ true → Fits k r c v
    go true q te h =
        let p = (and-eq-true_iff (eqb r.types 0) (same_sort r.each a_type)).0 h in
        let ty = eqb-true r.types 0 p.0 in
        let ea = same-true r.each a_type p.1 in
        let kk = eqb-true k 16 q in
        (rw (ty, te, ea) (only-replicate a_type c), rw (ty, te, ea, kk) (length-replicate c (part a_type)))
    go false q te h =
        let p = (and-eq-true_iff (same_sort r.each nothing) (eqb r.types (node_parts (node k 0)))).0 h in
        let ea = same-true r.each nothing p.0 in
        let ty = eqb-true r.types (node_parts (node k 0)) p.1 in (
          rw (te, ea) (only-append a_type (replicate r.types (part a_type)) [] (only-replicate a_type r.types) tt),
          rw (te, ea) (ap length (append-nil (replicate r.types (part a_type))) ∙ length-replicate r.types (part a_type) ∙ ty ∙ other-kind k (cond (eqb k 16) c v) q),
        )

-- ---- a line that begins a part of sort x
module _ (x : Sort) (t : Triple) (h : begins x t ≡ true) where
  pub sort-is : (row_of t.kind).sort ≡ x
  unfolding begins
  sort-is = same-true (row_of t.kind).sort x ((and-eq-true_iff (same_sort (row_of t.kind).sort x) _).0 h).0

  pub value-ok : value_ok (row_of t.kind).value t.value ≡ true
  unfolding begins
  value-ok = ((and-eq-true_iff (value_ok (row_of t.kind).value t.value) _).0 ((and-eq-true_iff (same_sort (row_of t.kind).sort x) _).0 h).1).0

  pub count-ok : count_ok (row_of t.kind).counted t.count ≡ true
  unfolding begins
  count-ok = ((and-eq-true_iff (value_ok (row_of t.kind).value t.value) _).0 ((and-eq-true_iff (same_sort (row_of t.kind).sort x) _).0 h).1).1

  -- its kind is listed
  pub begun-row : same_sort x nothing ≡ false → (p : ℕ → Row → Bool) → every_listed p table ≡ true → p t.kind (row_of t.kind) ≡ true
  begun-row l p e = go (listed-passes p t.kind e)
    where
      go : (row_of t.kind ≡ unlisted) ⊎ (p t.kind (row_of t.kind) ≡ true) → p t.kind (row_of t.kind) ≡ true
      go (inl u) = absurd (false≢true (sym l ∙ true-same x nothing (sym sort-is ∙ ap (λ (r : Row). r.sort) u)))
      go (inr h) = h

pub type-line : (t : Triple) → ok (part a_type) (Some t) ≡ true → Only a_type (due (part a_type) (Some t)) × (length (due (part a_type) (Some t)) ≡ node_parts (line_node t))
unfolding table
type-line t e =
    let d = due-following a_type t e in
    let f : Fits t.kind (row_of t.kind) t.count t.value = row_fits t.kind t.count t.value (row_of t.kind) (begun-row a_type t d.0 refl type_row refl) (sort-is a_type t d.0) in
    (subst⁻¹ (Only a_type) d.1 f.0, ap length d.1 ∙ f.1)

-- ---- the values of a type's lines are names
abbrev names_only : ℕ → Row → Bool
names_only k r = not (same_sort r.sort a_type) || not (is_number r.value)

pub name-small : (rule : Value) (v : ℕ) → not (is_number rule) ≡ true → value_ok rule v ≡ true → v ≤ highest_name
name-small Unused v e q = let z = eqb-true v 0 q in omega arith
name-small Name v e q = leb-true v highest_name ((and-eq-true_iff (leb 1 v) _).0 q).1
name-small Number v e q = absurd (false≢true e)
name-small Operator v e q = let m = leb-true v 6 ((and-eq-true_iff (leb 1 v) _).0 q).1 in omega arith

pub name-narrow : (rule : Value) (v : ℕ) → not (is_number rule) ≡ true → value_ok rule v ≡ true → v < 4294967296
name-narrow rule v e q = omega (arith, name-small rule v e q)

line-narrow : (t : Triple) → ok (part a_type) (Some t) ≡ true → Narrow t
unfolding table
line-narrow t e =
    let h = (due-following a_type t e).0 in
    let n : (not (same_sort (row_of t.kind).sort a_type) || not (is_number (row_of t.kind).value)) ≡ true = begun-row a_type t h refl names_only refl in
    name-narrow (row_of t.kind).value t.value (rw (sort-is a_type t h) at n) (value-ok a_type t h)

-- ---- lines of types
types-all : (ts : List Triple) (ahead : List Item) → Forms ts ahead → Only a_type ahead → Whole node_parts (nodes_of ts) (length ahead) × All Narrow ts
types-all [] [] f ty = (refl, tt)
types-all [] (x ∷ ahead) f ty = absurd f
types-all (t ∷ ts) [] f ty = absurd f
types-all (t ∷ ts) (entries k n ∷ ahead) f ty = absurd ty
types-all (t ∷ ts) (part x ∷ ahead) f ty =
    let g : (ok (part a_type) (Some t) ≡ true) × Forms ts (due (part a_type) (Some t) ++ ahead) = rw ty.0 at f in
    let l = type-line t g.0 in
    let all = types-all ts (due (part a_type) (Some t) ++ ahead) g.1 (only-append a_type (due (part a_type) (Some t)) ahead l.0 ty.1) in
    (rw (length-append (due (part a_type) (Some t)) ahead, l.1) at all.0, (line-narrow t g.0, all.1))

pub type-whole : (ts : List Triple) → IsPart a_type ts → Whole node_parts (nodes_of ts) 1
type-whole ts f = (types-all ts (part a_type ∷ []) f (refl, tt)).0

pub type-narrow : (ts : List Triple) → IsPart a_type ts → All Narrow ts
type-narrow ts f = (types-all ts (part a_type ∷ []) f (refl, tt)).1

-- ---- a term's line has a name, an operator or nothing, but for a literal
abbrev not_number : ℕ → Row → Bool
not_number k r = not (same_sort r.sort a_term) || (eqb k 22 || not (is_number r.value))

pub term-narrow : (t : Triple) → ok (part a_term) (Some t) ≡ true → (t.kind ≡ 22 → ⊥) → Narrow t
unfolding table
term-narrow t e f =
    let h = (due-following a_term t e).0 in
    let n : (not (same_sort (row_of t.kind).sort a_term) || (eqb t.kind 22 || not (is_number (row_of t.kind).value))) ≡ true = begun-row a_term t h refl not_number refl in
    name-narrow (row_of t.kind).value t.value (rw (sort-is a_term t h, ne_eqb t.kind 22 f) at n) (value-ok a_term t h)
