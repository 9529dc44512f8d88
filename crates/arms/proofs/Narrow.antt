-- The values of a pattern's lines are words, so a Case on a sheet that is taken meets what `check_arms` asks. Assumes
-- nothing.
use Rattle.std.proofs.Common.{Some, ◌≡◌, refl, ap, ◌∙◌, subst, Bool, true, false, not, ◌&&◌, ◌||◌, List, [], ◌∷◌, ◌++◌, ℕ, zero, suc, ◌+◌, ◌*◌, arith, eqb, eqb-true}
use mathlib.Core.Path.{subst⁻¹}
use mathlib.Core.Bool.{and-eq-true_iff}
use Rattle.nodes.specs.Lists.{All}
use Rattle.spelling.specs.declared.Triple.{Triple}
use Rattle.kinds.specs.declared.Row.{Row}
use Rattle.kinds.specs.declared.Sort.{Sort}
use Rattle.kinds.proofs.Rows.{same-true, is_number}
use Rattle.kinds.specs.Kinds.{a_pattern, nothing, same_sort, table, row_of}
use Rattle.grammar.specs.Grammar.{Item, part as item, entries, ok, due, repeated, following}
use Rattle.sheet.specs.Plan.{Narrow}
use Rattle.sheet.specs.Form.{Forms, IsPart}
use Rattle.sheet.proofs.Forming.{due-following}
use Rattle.sheet.proofs.TypeLines.{Only, only-append, only-replicate, sort-is, value-ok, begun-row, name-narrow}
use Rattle.judgment.specs.Terms.{Term, part, after_parts}
use Rattle.judgment.proofs.WholeTerms.{ArmsOK, arms-whole}
use Rattle.board.proofs.Terms.{firsts, first_of, after-firsts}
use Rattle.arms.specs.Arms.{NarrowArms}

-- a pattern's row: patterns follow or nothing, and its value is a name or 0
abbrev pattern_row : ℕ → Row → Bool
pattern_row k r = not (same_sort r.sort a_pattern) || ((eqb r.types 0 && eqb r.terms 0) && ((same_sort r.each nothing || same_sort r.each a_pattern) && not (is_number r.value)))

row-patterns : (ty te : ℕ) (e : Sort) (c : ℕ) → ((eqb ty 0 && eqb te 0) && (same_sort e nothing || same_sort e a_pattern)) ≡ true → Only a_pattern (following ty te e c)
unfolding following
row-patterns ty te e c h =
    let a = (and-eq-true_iff (eqb ty 0 && eqb te 0) (same_sort e nothing || same_sort e a_pattern)).0 h in
    let b = (and-eq-true_iff (eqb ty 0) (eqb te 0)).0 a.0 in
    let x = eqb-true ty 0 b.0 in
    let y = eqb-true te 0 b.1 in
    rw (x, y) (by (same_sort e nothing) refl a.1)
  where
    by : (q : Bool) → same_sort e nothing ≡ q → (q || same_sort e a_pattern) ≡ true → Only a_pattern (repeated e c)
    by true q z = let w = same-true e nothing q in rw w tt
    by false q z = let w = same-true e a_pattern z in rw w (only-replicate a_pattern c)

-- a line that begins a pattern
line-pattern : (t : Triple) → ok (item a_pattern) (Some t) ≡ true → Only a_pattern (due (item a_pattern) (Some t)) × Narrow t
unfolding table
line-pattern t e =
    let d = due-following a_pattern t e in
    let r : Row = row_of t.kind in
    let k : ((eqb r.types 0 && eqb r.terms 0) && ((same_sort r.each nothing || same_sort r.each a_pattern) && not (is_number r.value))) ≡ true =
    rw (sort-is a_pattern t d.0) at (begun-row a_pattern t d.0 refl pattern_row refl) in
    let a = (and-eq-true_iff (eqb r.types 0 && eqb r.terms 0) _).0 k in
    let c = (and-eq-true_iff (same_sort r.each nothing || same_sort r.each a_pattern) _).0 a.1 in (
      subst⁻¹ (Only a_pattern) d.1 (row-patterns r.types r.terms r.each t.count ((and-eq-true_iff (eqb r.types 0 && eqb r.terms 0) _).1 (a.0, c.0))),
      name-narrow r.value t.value c.1 (value-ok a_pattern t d.0),
    )

patterns-all : (ts : List Triple) (ahead : List Item) → Forms ts ahead → Only a_pattern ahead → All Narrow ts
patterns-all [] ahead f p = tt
patterns-all (t ∷ ts) [] f p = absurd f
patterns-all (t ∷ ts) (entries k n ∷ ahead) f p = absurd p
patterns-all (t ∷ ts) (item x ∷ ahead) f p =
    let g : (ok (item a_pattern) (Some t) ≡ true) × Forms ts (due (item a_pattern) (Some t) ++ ahead) = rw p.0 at f in
    let l = line-pattern t g.0 in
    (l.1, patterns-all ts (due (item a_pattern) (Some t) ++ ahead) g.1 (only-append a_pattern (due (item a_pattern) (Some t)) ahead l.0 p.1))

pub pattern-narrow : (ts : List Triple) → IsPart a_pattern ts → All Narrow ts
pattern-narrow ts f = patterns-all ts (item a_pattern ∷ []) f (refl, tt)

-- n arms, cut out of the sheet
pub arms-narrow : (n : ℕ) (e : Term) → ArmsOK n (firsts (2 * n) e) → NarrowArms n e
unfolding NarrowArms
arms-narrow zero e f = tt
arms-narrow (suc n) e f =
    let i : 2 * suc n ≡ 2 + 2 * n = omega arith in
    let g : 2 * suc n ≡ 1 + (1 + 2 * n) = omega arith in
    let a = arms-whole n (firsts (2 * suc n) e) f in
    let p : part 0 (firsts (2 * suc n) e) ≡ part 0 e = ap (λ (m : ℕ). part 0 (firsts m e)) g ∙ first_of e (1 + 2 * n) in
    let q : after_parts 2 (firsts (2 * suc n) e) ≡ firsts (2 * n) (after_parts 2 e) = ap (λ (m : ℕ). after_parts 2 (firsts m e)) i ∙ after-firsts e 2 (2 * n) in (
      subst (λ (x : Term). All Narrow x.lines) p (pattern-narrow (part 0 (firsts (2 * suc n) e)).lines a.0),
      arms-narrow n (after_parts 2 e) (subst (ArmsOK n) q a.2),
    )
