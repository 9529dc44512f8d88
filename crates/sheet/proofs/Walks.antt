-- The walk over the parts of a line by their first lines. Assumes nothing.
use Rattle.std.proofs.Common.{◌≡◌, refl, sym, ap, ap₂, ◌∙◌, ◌≢◌, ◌⊎◌, Bool, true, false, ◌&&◌, List, [], ◌∷◌, ◌++◌, ℕ, zero, suc, ◌+◌, ◌*◌, ◌-◌, ◌%◌, ◌≤◌, ◌<◌, arith, length, get_or, drop, replicate, length-append, drop_of_length-le, eqb, eqb-true}
use mathlib.Core.Bool.{and-eq-true_iff}
use Rattle.nodes.specs.Parts.{drop_parts}
use Rattle.spelling.specs.declared.Triple.{Triple}
use Rattle.kinds.specs.declared.Row.{Row}
use Rattle.kinds.specs.declared.Sort.{Sort}
use Rattle.kinds.proofs.Rows.{same-true, ne_same}
use Rattle.grammar.proofs.Laws.{repeated-part, repeated-none}
use Rattle.kinds.specs.Kinds.{nothing, a_type, a_term, a_pattern, an_arm, same_sort, row_of, is_leaf, fields_ok, parts_of}
use Rattle.grammar.specs.Grammar.{Item, part, entries, arms, repeated, following}
use Rattle.sheet.specs.declared.Walked.{Walked}
use Rattle.sheet.specs.Plan.{no_triple, part_line}
use Rattle.sheet.specs.Rows.{end_at, HeldFrom}
use Rattle.sheet.specs.Fit.{first_sort, meets, parts_after, walked_over, walked}
use Rattle.sheet.proofs.Lines.{line-none, line-past, line-hop, line-from, drop-line}
use Rattle.sheet.proofs.Declarations.{here}
use Rattle.sheet.proofs.Forming.{AllParts}
use Rattle.sheet.proofs.Fitting.{length-after}

and_assoc : (a b c : Bool) → (a && (b && c)) ≡ ((a && b) && c)
and_assoc true b c = refl
and_assoc false b c = refl

and-false : (a : Bool) → (a && false) ≡ false
and-false true = refl
and-false false = refl

and-true : (a : Bool) → (a && true) ≡ a
and-true true = refl
and-true false = refl

abbrev ended : ℕ → Bool → Walked
ended at fits = record { line = at; fits = fits }

both-are : {x y : ℕ} {f g : Bool} → x ≡ y → f ≡ g → ended x f ≡ ended y g
both-are e f = ap₂ ended e f

module _ (ls : List Triple) where
  hop : (at n : ℕ) → part_line ls (part_line ls at 1) n ≡ part_line ls at (suc n)
  hop at n = let e : n ≡ suc n - 1 = omega arith in ap (part_line ls (part_line ls at 1)) e ∙ line-hop ls at (suc n) (omega arith)

  -- nothing is due
  pub over_none : (at : ℕ) (f : Bool) → ended at f ≡ walked_over ls at f []
  unfolding meets
  over_none at f = both-are (line-none ls at 0 refl) (sym (and-true f))

  -- a part is due, and no line is there for it
  pub over-past : (at : ℕ) (f : Bool) (x : Sort) (ahead : List Item) → length ls ≤ at → x ≢ nothing → ended at false ≡ walked_over ls at f (part x ∷ ahead)
  unfolding meets
  over-past at f x ahead h n =
      let e : meets (drop at ls) (part x ∷ ahead) ≡ false = rw (drop_of_length-le ls h, ne_same nothing x (λ q. n (sym q))) in
      both-are (line-past ls at (suc (length ahead)) h) (sym (ap (λ (b : Bool). f && b) e ∙ and-false f))

  -- one part more
  pub over-next : (at : ℕ) (f : Bool) (x : Sort) (ahead : List Item) → at < length ls
      → walked_over ls (part_line ls at 1) (f && same_sort (row_of (get_or ls at no_triple).kind).sort x) ahead ≡ walked_over ls at f (part x ∷ ahead)
  unfolding meets
  over-next at f x ahead h =
      let e : Bool = same_sort (row_of (get_or ls at no_triple).kind).sort x in
      let m : meets (drop at ls) (part x ∷ ahead) ≡ (e && meets (drop (part_line ls at 1) ls) ahead) = rw (drop-line ls at 1, here ls at h) in
      both-are (hop at (length ahead)) (sym (ap (λ (b : Bool). f && b) m ∙ and_assoc f e _))

  -- what is due in two goes
  line_on : (at n m : ℕ) → part_line ls (part_line ls at n) m ≡ part_line ls at (n + m)
  line_on at zero m = let e : m ≡ 0 + m = omega arith in ap₂ (λ (k j : ℕ). part_line ls k j) (sym (line-none ls at 0 refl)) e
  line_on at (suc n) m =
      let e : suc (n + m) ≡ suc n + m = omega arith in
      ap (λ (k : ℕ). part_line ls k m) (sym (hop at n)) ∙ line_on (part_line ls at 1) n m ∙ hop at (n + m) ∙ ap (part_line ls at) e

  meets_on : (at : ℕ) (a b : List Item) → AllParts a → meets (drop at ls) (a ++ b) ≡ (meets (drop at ls) a && meets (drop (part_line ls at (length a)) ls) b)
  unfolding meets
  meets_on at [] b p = ap (λ (k : ℕ). meets (drop k ls) b) (line-none ls at 0 refl)
  meets_on at (part x ∷ a) b p =
      let d = drop-line ls at 1 in
      let ts = drop_parts parts_of (drop at ls) 1 in
      let rest = meets (drop (part_line ls at (suc (length a))) ls) b in
      let again : meets ts (a ++ b) ≡ (meets ts a && rest) =
      sym (ap (λ (xs : List Triple). meets xs (a ++ b)) d) ∙ meets_on (part_line ls at 1) a b p
      ∙ ap₂ (λ (y z : Bool). y && z) (ap (λ (xs : List Triple). meets xs a) d) (ap (λ (k : ℕ). meets (drop k ls) b) (hop at (length a))) in
      ap (λ (y : Bool). same_sort (first_sort (drop at ls)) x && y) again ∙ and_assoc (same_sort (first_sort (drop at ls)) x) (meets ts a) rest
  meets_on at (entries k n ∷ a) b p = absurd p

  pub over-on : (at : ℕ) (f : Bool) (a b : List Item) → AllParts a → walked_over ls (part_line ls at (length a)) (f && meets (drop at ls) a) b ≡ walked_over ls at f (a ++ b)
  over-on at f a b p =
      both-are (line_on at (length a) (length b) ∙ ap (part_line ls at) (sym (length-append a b))) (sym (ap (λ (x : Bool). f && x) (meets_on at a b p) ∙ and_assoc f _ _))

-- ---- what the code has read
pub held-on : {ls : List Triple} {d : List ℕ} {lines at line : ℕ} → HeldFrom ls d lines at → at ≤ line → HeldFrom ls d lines line
held-on H h = record { count = H.count; ends = λ i k l. H.ends i (omega arith) l; kinds = λ i k l. H.kinds i (omega arith) l }

pub over-from : (ls : List Triple) (at : ℕ) (f : Bool) (ahead : List Item) {w : Walked} → w ≡ walked_over ls at f ahead → at ≤ w.line
over-from ls at f ahead e = rw e (line-from ls at (length ahead))

-- part i of n parts of one sort
module _ (x : Sort) (n i line : ℕ) (fits : Bool) {ls : List Triple} {d : List ℕ} {lines at : ℕ} (H : HeldFrom ls d lines at) where
  pub sort-turn : i < n → at ≤ line → line < lines → {s : Bool} {e : ℕ} → s ≡ same_sort (row_of (get_or d (2 * line + 1) 0 % 1024)).sort x → e ≡ end_at d line
      → (at ≤ e) × (walked_over ls e (fits && s) (replicate (n - (i + 1)) (part x)) ≡ walked_over ls line fits (replicate (n - i) (part x)))
  sort-turn m h l es ee =
      let c = H.count in
      let s = es ∙ ap (λ (j : ℕ). same_sort (row_of j).sort x) (H.kinds line h (omega arith)) in
      let e = ee ∙ H.ends line h (omega arith) in
      let k : n - i ≡ suc (n - (i + 1)) = omega arith in
      let w = line-from ls line 1 in
      rw (s, e, k) (omega arith, over-next ls line fits x (replicate (n - (i + 1)) (part x)) (omega arith))

  pub sort-past : i < n → lines ≤ line → x ≢ nothing → ended line false ≡ walked_over ls line fits (replicate (n - i) (part x))
  sort-past m l p =
      let c = H.count in
      let k : n - i ≡ suc (n - (i + 1)) = omega arith in
      rw k (over-past ls line fits x (replicate (n - (i + 1)) (part x)) (omega arith) p)

  pub sort-done : n ≤ i → ended line fits ≡ walked_over ls line fits (replicate (n - i) (part x))
  sort-done h = let k : n - i ≡ 0 = omega arith in rw k (over_none ls line fits)

-- arm i of n
module _ (ls : List Triple) (n i line : ℕ) (fits : Bool) where
  pub arm-turn : i < n → {p t : Walked} → p ≡ walked_over ls line fits (replicate 1 (part a_pattern)) → t ≡ walked_over ls p.line p.fits (replicate 1 (part a_term))
      → (line ≤ t.line) × (walked_over ls t.line t.fits (arms (n - (i + 1))) ≡ walked_over ls line fits (arms (n - i)))
  unfolding arms
  arm-turn h ep et =
      let k : n - i ≡ suc (n - (i + 1)) = omega arith in
      let w = line-from ls line 1 in
      let v = line-from ls (part_line ls line 1) 1 in
      let m = meets (drop line ls) (part a_pattern ∷ []) in
      rw (et, ep, k) (omega arith, over-on ls (part_line ls line 1) (fits && m) (part a_term ∷ []) (arms (n - (i + 1))) tt ∙ over-on ls line fits (part a_pattern ∷ []) (part a_term ∷ arms (n - (i + 1))) tt)

  pub arms-done : n ≤ i → ended line fits ≡ walked_over ls line fits (arms (n - i))
  unfolding arms
  arms-done h = let k : n - i ≡ 0 = omega arith in rw k (over_none ls line fits)

-- what follows count times
pub each-parts : (ls : List Triple) (line : ℕ) (fits : Bool) (e : Sort) (n : ℕ) → (e ≡ a_type) ⊎ ((e ≡ a_term) ⊎ (e ≡ a_pattern)) → walked_over ls line fits (replicate n (part e)) ≡ walked_over ls line fits (repeated e n)
each-parts ls line fits e n h = ap (walked_over ls line fits) (repeated-part e n h)

pub each-arms : (ls : List Triple) (line : ℕ) (fits : Bool) (e : Sort) (n : ℕ) → e ≡ an_arm → walked_over ls line fits (arms n) ≡ walked_over ls line fits (repeated e n)
each-arms ls line fits e n h = rw h refl

pub each_none : (ls : List Triple) (line : ℕ) (fits : Bool) (e : Sort) (n : ℕ) → e ≢ a_type → e ≢ a_term → e ≢ a_pattern → e ≢ an_arm → ended line fits ≡ walked_over ls line fits (repeated e n)
each_none ls line fits e n a b c d = over_none ls line fits ∙ ap (walked_over ls line fits) (repeated-none e n a b c d)

-- all that follows a line
all-parts : (n : ℕ) (x : Sort) → AllParts (replicate n (part x))
all-parts zero x = tt
all-parts (suc n) x = all-parts n x

pub parts-walked : (ls : List Triple) (at : ℕ) (held : Bool) (r : Row) (n : ℕ) {ty te e : Walked} → ty ≡ walked_over ls at held (replicate r.types (part a_type)) → te ≡ walked_over ls ty.line ty.fits (replicate r.terms (part a_term))
    → e ≡ walked_over ls te.line te.fits (repeated r.each n) → e ≡ walked_over ls at held (parts_after r n)
unfolding following
parts-walked ls at held r n ey et ee =
    let m = meets (drop at ls) (replicate r.types (part a_type)) in
    rw (ee, et, ey) (
    over-on ls (part_line ls at (length (replicate r.types (part a_type)))) (held && m) (replicate r.terms (part a_term)) (repeated r.each n) (all-parts r.terms a_term)
    ∙ over-on ls at held (replicate r.types (part a_type)) (replicate r.terms (part a_term) ++ repeated r.each n) (all-parts r.types a_type)
    )

-- and of line i
module _ (ls : List Triple) (i : ℕ) (t : Triple) where
  pub line-walked : {r : Row} {f : Bool} {w : Walked} → r ≡ row_of t.kind → f ≡ fields_ok r t → w ≡ walked_over ls (i + 1) f (parts_after r t.count) → w ≡ walked ls i t
  line-walked er ef ew = rw (ew, ef, er) (both-are (ap (part_line ls (i + 1)) (length-after t)) refl)

  leaf-none : (r : Row) (n : ℕ) → is_leaf r ≡ true → parts_after r n ≡ []
  unfolding following
  leaf-none r n e =
      let a = (and-eq-true_iff (eqb r.types 0) _).0 e in
      let b = (and-eq-true_iff (eqb r.terms 0) _).0 a.1 in
      rw (eqb-true r.types 0 a.0, eqb-true r.terms 0 b.0, same-true r.each nothing b.1)

  pub leaf_walked : {r : Row} {f : Bool} → r ≡ row_of t.kind → f ≡ fields_ok r t → is_leaf r ≡ true → ended (i + 1) f ≡ walked ls i t
  leaf_walked {r} {f} er ef l = line-walked er ef (over_none ls (i + 1) f ∙ ap (walked_over ls (i + 1) f) (sym (leaf-none r t.count l)))
