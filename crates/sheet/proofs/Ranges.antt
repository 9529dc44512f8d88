-- How large the fields of a line are where a part stands, and how many lines there are. Assumes nothing.
use Rattle.grammar.specs.declared.SheetError.TheVariants.{Length}
use Rattle.grammar.specs.declared.SheetError.{SheetError}
use Rattle.std.proofs.Common.{Result, Ok, Err, Some, ◌≡◌, refl, sym, ap, ◌∙◌, ◌≢◌, ◌⊎◌, inl, inr, Bool, true, false, not, cond, ◌&&◌, ◌||◌, List, [], ◌∷◌, ◌++◌, ℕ, ◌≤◌, ◌<◌, arith, length, drop, eqb, eqb-true, ne_eqb, leb-true}
use mathlib.Core.Path.{subst⁻¹}
use mathlib.Core.Bool.{and-eq-true_iff, false≢true}
use Rattle.sizes.specs.Sizes.{most_lines, highest_name}
use Rattle.nodes.specs.Lists.{All}
use Rattle.spelling.specs.declared.Triple.{Triple}
use Rattle.kinds.specs.declared.Row.{Row}
use Rattle.kinds.specs.declared.Sort.{Sort}
use Rattle.kinds.specs.Kinds.{a_term, table, row_of, unlisted, count_ok}
use Rattle.kinds.proofs.Rows.{listed-passes, is_number}
use Rattle.grammar.specs.Grammar.{Item, part, entries, ok, due}
use Rattle.grammar.specs.Check.{length_ok, check}
use Rattle.grammar.proofs.Lines.{few-lines}
use Rattle.sheet.specs.Plan.{triples, places_of, is_use, names}
use Rattle.sheet.specs.Used.{table_length, SmallNames}
use Rattle.sheet.specs.Form.{Forms, IsPart, Formed}
use Rattle.sheet.proofs.Lines.{length-triples}
use Rattle.sheet.proofs.Forming.{AllParts, parts-append, due-following, due-parts}
use Rattle.sheet.proofs.TypeLines.{value-ok, count-ok, name-small}

-- a value but a literal's is at most 9,999, a count at most 99
pub record InRange (t : Triple) : Type 0 where
  pub value : t.kind ≢ 22 → t.value ≤ highest_name
  pub count : t.count ≤ 99

-- only a literal's value is a number, whether the kind is listed or not
abbrev literal_only : ℕ → Row → Bool
literal_only k r = eqb k 22 || not (is_number r.value)

or-true : (b : Bool) → (b || true) ≡ true
or-true true = refl
or-true false = refl

literal-only : (k : ℕ) → literal_only k (row_of k) ≡ true
unfolding table
literal-only k = go (listed-passes literal_only k refl)
  where
    go : (row_of k ≡ unlisted) ⊎ (literal_only k (row_of k) ≡ true) → literal_only k (row_of k) ≡ true
    go (inl u) = subst⁻¹ (λ (r : Row). literal_only k r ≡ true) u (or-true (eqb k 22))
    go (inr h) = h

count_small : (counted : Bool) (c : ℕ) → count_ok counted c ≡ true → c ≤ 99
count_small true c e = leb-true c 99 e
count_small false c e = let z = leb-true c 0 e in omega arith

line-in-range : (x : Sort) (t : Triple) → ok (part x) (Some t) ≡ true → InRange t
line-in-range x t e =
    let b = (due-following x t e).0 in
    record {
      value = λ h. name-small (row_of t.kind).value t.value (rw (ne_eqb t.kind 22 h) at (literal-only t.kind)) (value-ok x t b);
      count = count_small (row_of t.kind).counted t.count (count-ok x t b);
    }

forms-in-range : (ts : List Triple) (ahead : List Item) → AllParts ahead → Forms ts ahead → All InRange ts
forms-in-range [] ahead p f = tt
forms-in-range (t ∷ ts) [] p f = absurd f
forms-in-range (t ∷ ts) (part x ∷ ahead) p f = (
  line-in-range x t f.0,
  forms-in-range ts (due (part x) (Some t) ++ ahead) (parts-append (due (part x) (Some t)) ahead (due-parts x t f.0).1 p) f.1,
)
forms-in-range (t ∷ ts) (entries k n ∷ ahead) p f = absurd p

-- every line of one whole type, term or pattern
pub part-in-range : (x : Sort) (ts : List Triple) → IsPart x ts → All InRange ts
part-in-range x ts f = forms-in-range ts (part x ∷ []) tt f

-- so is every name that the term uses
use-small : (t : Triple) (x : ℕ) → InRange t → (eqb t.value x && is_use t.kind) ≡ true → x < table_length
use-small t x h e =
    let b = (and-eq-true_iff (eqb t.value x) (is_use t.kind)).0 e in
    let v = eqb-true t.value x b.0 in
    let l = h.value (λ k. false≢true (sym (ap is_use k) ∙ b.1)) in
    omega arith

names-small : (ts : List Triple) → All InRange ts → SmallNames ts
unfolding names
names-small [] h x e = absurd (false≢true e)
names-small (t ∷ ts) h x e = go (eqb t.value x && is_use t.kind) refl (λ q. names-small ts h.1 x q) e
  where
    go : (a : Bool) → (eqb t.value x && is_use t.kind) ≡ a → (names x ts ≡ true → x < table_length) → (a || names x ts) ≡ true → x < table_length
    go true q f e = use-small t x h.0 q
    go false q f e = f e

pub term-names : (ls : List Triple) → Formed ls → SmallNames (drop (places_of ls).term ls)
term-names ls f = names-small (drop (places_of ls).term ls) (part-in-range a_term (drop (places_of ls).term ls) f.term)

-- a plan has at most 2,000 lines
pub plan-few : (s : List ℕ) → check s ≡ Ok tt → length (triples s) ≤ most_lines
unfolding check
plan-few s e = go (length_ok (length s)) refl _ e
  where
    go : (b : Bool) → length_ok (length s) ≡ b → (x : (Result Unit SheetError)) → cond b x (Err Length) ≡ Ok tt → length (triples s) ≤ most_lines
    go true h x q = omega (arith, few-lines (length s) h, length-triples s)
    go false h x q = absurd (let z : ◌≡◌ {A = ℕ} 0 1 = cc in omega arith)
