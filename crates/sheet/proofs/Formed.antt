-- The lines of a sheet that is taken: entries with their types, the expected type, the term. Assumes nothing.
use Rattle.grammar.specs.declared.SheetError.TheVariants.{Length, Misspelt, Unfit}
use Rattle.grammar.specs.declared.SheetError.{SheetError}
use Rattle.std.proofs.Common.{Result, Ok, Err, Some, Option, None, is_some, ◌≡◌, refl, sym, ap, ◌∙◌, ◌⊎◌, inl, inr, Bool, true, false, cond, List, [], ◌∷◌, ◌++◌, ℕ, zero, suc, ◌+◌, ◌-◌, ◌/◌, ◌≤◌, ◌<◌, zero-add, arith, length, get_or, drop, drop_of_length-le, eqb, ltb, eqb-true, ltb-true, ltb-false}
use native.Mathlib.Nat.{sub-zero}
use Rattle.sizes.specs.Sizes.{line_length}
use Rattle.nodes.specs.Parts.{take_parts}
use Rattle.nodes.proofs.PartLaws.{is-take}
use Rattle.spelling.specs.declared.Triple.{Triple}
use Rattle.spelling.specs.Spelling.{lines_from, lines_of, first_misspelt}
use Rattle.spelling.proofs.Laws.{length-lines}
use Rattle.kinds.specs.declared.Sort.{Sort}
use Rattle.kinds.specs.Kinds.{a_type, a_term, nothing, an_entry, an_expected, a_goal, row_of, begins, head_of, parts_of}
use Rattle.kinds.proofs.Rows.{Follow, entry_row, expected-row, goal-row, expected-kind}
use Rattle.grammar.specs.declared.Declared.{Declared}
use Rattle.grammar.specs.declared.Declared.TheVariants.{Named, Expected}
use Rattle.grammar.specs.Grammar.{Item, part, entries, in_order, declared_by, following, parts_due, entry_due, read, read_at}
use Rattle.grammar.specs.Check.{length_ok, end_of, read_sheet, fitting, check}
use Rattle.sheet.specs.Plan.{no_triple, triples, part_line, is_entry, end_from, entries_end, places_of}
use Rattle.sheet.specs.Form.{Forms, IsPart, Typed, Formed}
use Rattle.sheet.proofs.Lines.{line-from, lines-between, drop-line}
use Rattle.sheet.proofs.Declarations.{from, here, from-none, from_one, end_none, end-turn}
use Rattle.sheet.proofs.Forming.{due-following, split, read-forms}
use Rattle.sheet.proofs.TypeLines.{sort-is}

-- ---- what a line says where an entry or the expected type is due
abbrev pub Kinded : ℕ → Type 0
Kinded k = (k ≡ 1) ⊎ (k ≡ 2)

pub data Says (t : Triple) : Option Declared → Type 0 where
  an-entry : (k n : ℕ) → begins an_entry t ≡ true → is_entry t ≡ true → Kinded k → Says t (Some (Named k n))
  expects : begins an_expected t ≡ true → t.kind ≡ 3 → Says t (Some Expected)
  neither : Says t None

kinded-entry : (t : Triple) → Kinded t.kind → is_entry t ≡ true
kinded-entry t (inl e) = rw e
kinded-entry t (inr e) = rw e

says-cond : (t : Triple) (b : Bool) {x y : Option Declared} → (b ≡ true → Says t x) → (b ≡ false → Says t y) → Says t (cond b x y)
says-cond t true f g = f refl
says-cond t false f g = g refl

kinded-as : (j k : ℕ) → j ≡ k → Kinded k → Kinded j
kinded-as j k e (inl p) = inl (e ∙ p)
kinded-as j k e (inr p) = inr (e ∙ p)

ordered-kind : (k last : ℕ) (t : Triple) → Kinded k → in_order k last t ≡ true → Kinded t.kind
ordered-kind k last t h = go (eqb t.kind k) refl
  where
    go : (b : Bool) → eqb t.kind k ≡ b → cond b (ltb last t.value) (eqb t.kind 2) ≡ true → Kinded t.kind
    go true q e = kinded-as t.kind k (eqb-true t.kind k q) h
    go false q e = inr (eqb-true t.kind 2 e)

pub says : (k last : ℕ) (t : Triple) → Kinded k → Says t (declared_by k last t)
unfolding declared_by
says k last t h =
    says-cond t (begins an_entry t)
    (λ b. says-cond t (in_order k last t) (λ o. (let kd = ordered-kind k last t h o in an-entry t.kind t.value b (kinded-entry t kd) kd)) (λ _. neither))
    (λ _. says-cond t (begins an_expected t) (λ b. expects b (expected-kind t.kind (sort-is an_expected t b))) (λ _. neither))

-- what must follow one of the plan's own lines: so many types and terms
after_line : (x : Sort) (ty te : ℕ) (t : Triple) → begins x t ≡ true → Follow ty te (row_of t.kind) → parts_due (head_of x t) ≡ following ty te nothing t.count
unfolding head_of
after_line x ty te t b f = rw (b, f.0, f.1, f.2)

pub one_type : (x : Sort) (t : Triple) → begins x t ≡ true → Follow 1 0 (row_of t.kind) → parts_due (head_of x t) ≡ part a_type ∷ []
unfolding following
one_type x t b f = after_line x 1 0 t b f

pub one-term : (x : Sort) (t : Triple) → begins x t ≡ true → Follow 0 1 (row_of t.kind) → parts_due (head_of x t) ≡ part a_term ∷ []
unfolding following
one-term x t b f = after_line x 0 1 t b f

-- ---- the lines from `at` on
module _ (ls : List Triple) where
  record Rest (at : ℕ) : Type 0 where
    typed : Typed ls (from ls at)
    expected : IsPart a_type (take_parts parts_of (drop (end_from at (from ls at) + 1) ls) 1)
    term : IsPart a_term (drop (part_line ls (end_from at (from ls at) + 1) 1 + 1) ls)

  -- the line and the lines after it, if there is one
  inside : (at : ℕ) (x : Item) (xs : List Item) → Forms (drop at ls) (x ∷ xs) → at < length ls
  inside at x xs f = go (ltb at (length ls)) refl
    where
      go : (b : Bool) → ltb at (length ls) ≡ b → at < length ls
      go true e = ltb-true at (length ls) e
      go false e =
          let z : Forms [] (x ∷ xs) = rw (drop_of_length-le ls (ltb-false at (length ls) e)) at f in
          absurd z

  after-goal : (e : ℕ) → Forms (drop e ls) (part a_goal ∷ []) → IsPart a_term (drop (e + 1) ls)
  after-goal e f =
      let h = inside e (part a_goal) [] f in
      let t : Triple = get_or ls e no_triple in
      let g : Forms (t ∷ drop (e + 1) ls) (part a_goal ∷ []) = rw (here ls e h) at f in
      let b = (due-following a_goal t g.0).0 in
      rw (one-term a_goal t b (goal-row t.kind (sort-is a_goal t b))) at g.1

  module _ (at : ℕ) (h : at < length ls) where
    abbrev next : ℕ
    next = part_line ls (at + 1) 1

    entry-rest : is_entry (get_or ls at no_triple) ≡ true → IsPart a_type (take_parts parts_of (drop (at + 1) ls) 1) → Rest next → Rest at
    entry-rest e ty r =
        let f : end_from next (from ls next) ≡ end_from at (from ls at) = end-turn ls at h e in
        record {
          typed = rw (from_one ls at h e, lines-between ls (at + 1) 1) (rw (is-take parts_of (drop (at + 1) ls) 1) at ty, r.typed);
          expected = rw f at r.expected;
          term = rw f at r.term;
        }

    goal-rest : is_entry (get_or ls at no_triple) ≡ false → IsPart a_type (take_parts parts_of (drop (at + 1) ls) 1) → Forms (drop next ls) (part a_goal ∷ []) → Rest at
    goal-rest e ty g =
        let f : at ≡ end_from at (from ls at) = end_none ls at h e in
        record {
          typed = rw (from-none ls at h e) tt;
          expected = rw (← f) ty;
          term = rw (← f) (after-goal next g);
        }

    by-line : (k last : ℕ) → Kinded k → ((k n : ℕ) → Kinded k → Forms (drop next ls) (entries k n ∷ []) → Rest next) → Forms (drop at ls) (entries k last ∷ []) → Rest at
    by-line k last kd again f =
        let g : Forms (get_or ls at no_triple ∷ drop (at + 1) ls) (entries k last ∷ []) = rw (here ls at h) at f in
        go (says k last (get_or ls at no_triple) kd) g.0 g.1
      where
        go : {d : Option Declared} → Says (get_or ls at no_triple) d → is_some d ≡ true → Forms (drop (at + 1) ls) (entry_due d (Some (get_or ls at no_triple)) ++ []) → Rest at
        go (an-entry k n b e kd) o f =
            let d = one_type an_entry (get_or ls at no_triple) b (entry_row _ (sort-is an_entry (get_or ls at no_triple) b)) in
            let s = split (drop (at + 1) ls) (part a_type ∷ []) (entries k n ∷ []) tt (rw d at f) in
            entry-rest e s.0 (again k n kd (rw (drop-line ls (at + 1) 1) s.1))
        go (expects b e) o f =
            let d = one_type an_expected (get_or ls at no_triple) b (expected-row _ (sort-is an_expected (get_or ls at no_triple) b)) in
            let s = split (drop (at + 1) ls) (part a_type ∷ []) (part a_goal ∷ []) tt (rw d at f) in
            goal-rest (rw e) s.0 (rw (drop-line ls (at + 1) 1) s.1)
        go neither o f = absurd (let z : ◌≡◌ {A = ℕ} 0 1 = cc in omega arith)

  rest : (n at k last : ℕ) → length ls - at ≤ n → Kinded k → Forms (drop at ls) (entries k last ∷ []) → Rest at
  rest zero at k last l kd f = let h = inside at (entries k last) [] f in absurd (omega arith)
  rest (suc n) at k last l kd f =
      let h = inside at (entries k last) [] f in
      let q = line-from ls (at + 1) 1 in
      by-line at h k last kd (λ k m kd g. rest n (part_line ls (at + 1) 1) k m (omega arith) kd g) f

  pub lines-formed : Forms ls (entries 1 0 ∷ []) → Formed ls
  unfolding places_of entries_end
  lines-formed f =
      let r = rest (length ls) 0 1 0 (omega arith) (inl refl) f in
      record { entries = r.typed; expected = r.expected; term = r.term }

-- ---- a sheet that is taken
pub cond-plan : (b : Bool) (x y : Result Unit SheetError) → cond b x y ≡ Ok tt → (y ≡ Ok tt → ⊥) → (b ≡ true) × (x ≡ Ok tt)
cond-plan true x y e n = (refl, e)
cond-plan false x y e n = absurd (n e)

end-next : (n : ℕ) (r : Result ℕ SheetError) → fitting (end_of n r) ≡ Ok tt → r ≡ Ok n
end-next n (Ok k) = go (eqb k n) refl
  where
    go : (b : Bool) → eqb k n ≡ b → fitting (cond b (Ok k) (Err (Unfit (k + 1)))) ≡ Ok tt → ◌≡◌ {A = Result ℕ SheetError} (Ok k) (Ok n)
    go true e f = ap Ok (eqb-true k n e)
    go false e f = absurd (let z : ◌≡◌ {A = ℕ} 0 1 = cc in omega arith)
end-next n (Err l) = λ f. absurd (let z : ◌≡◌ {A = ℕ} 0 1 = cc in omega arith)

pub whole-read : (s : List ℕ) → check s ≡ Ok tt → read_at s (entries 1 0 ∷ []) 0 ≡ Ok (length s / line_length)
unfolding check read_sheet
whole-read s e =
    let m = first_misspelt (lines_of s) in
    let a = cond-plan (length_ok (length s)) _ (Err Length) e (λ z. (let y : ◌≡◌ {A = ℕ} 0 1 = cc in omega arith)) in
    end-next (length s / line_length) (read_at s (entries 1 0 ∷ []) 0) (fits (ltb m (length s / line_length)) (m + 1) a.1)
  where
    fits : (b : Bool) (l : ℕ) → cond b (Err (Misspelt l)) (fitting (end_of (length s / line_length) (read_at s (entries 1 0 ∷ []) 0))) ≡ Ok tt
        → fitting (end_of (length s / line_length) (read_at s (entries 1 0 ∷ []) 0)) ≡ Ok tt
    fits true l e = absurd (let z : ◌≡◌ {A = ℕ} 0 1 = cc in omega arith)
    fits false l e = e

pub sheet-forms : (s : List ℕ) → check s ≡ Ok tt → Forms (triples s) (entries 1 0 ∷ [])
unfolding read_at triples lines_of
sheet-forms s e =
    let n = length s / line_length in
    let k : 0 + length (lines_from s 0 n) ≡ n = zero-add (length (lines_from s 0 n)) ∙ length-lines s 0 n in
    let r : read (lines_from s 0 n) (entries 1 0 ∷ []) 0 ≡ Ok (0 + length (lines_from s 0 n)) = rw (sub-zero n) at (whole-read s e) ∙ ap Ok (sym k) in
    read-forms (lines_from s 0 n) (entries 1 0 ∷ []) 0 r

pub formed : (s : List ℕ) → check s ≡ Ok tt → Formed (triples s)
formed s e = lines-formed (triples s) (sheet-forms s e)
