-- Which lines are refused: none past the line after the last. Assumes nothing.
use Rattle.spelling.specs.declared.Triple.{Triple}
use Rattle.grammar.specs.declared.SheetError.TheVariants.{Length, Misspelt, Unfit}
use Rattle.grammar.specs.declared.SheetError.{SheetError}
use Rattle.std.proofs.Common.{Result, Err, Option, Ok, ◌≡◌, refl, sym, ap, ◌∙◌, Bool, true, false, cond, ◌&&◌, List, [], ◌∷◌, ◌++◌, ℕ, ◌+◌, ◌-◌, ◌/◌, ◌%◌, ◌≤◌, arith, length, ltb, leb, eqb, ltb-true, leb-true, le-ltb, eqb-true}
use native.Mathlib.Nat.{sub-zero}
use Rattle.sizes.specs.Sizes.{line_length, most_lines, sheet_bytes}
use Rattle.spelling.specs.Spelling.{lines_from, lines_of, first_misspelt}
use Rattle.spelling.proofs.Laws.{length-lines}
use Rattle.grammar.specs.Grammar.{Item, entries, ok, due, read, read_at}
use Rattle.grammar.specs.Check.{length_ok, end_of, read_sheet, fitting, misspelt_first, check, check_line, refusal_line}
use Rattle.grammar.proofs.Laws.{cond-next, all-spelt, within}

-- where reading stops: at most one line past the last
abbrev Stop : ℕ → Result ℕ SheetError → Type 0
Stop n (Ok k) = Unit {0}
Stop n (Err e) = refusal_line e ≤ n + 1

cond-stop : (n : ℕ) (t : Bool) (x y : Result ℕ SheetError) → Stop n x → Stop n y → Stop n (cond t x y)
cond-stop n true x y p q = p
cond-stop n false x y p q = q

later : (m n : ℕ) (r : Result ℕ SheetError) → m ≤ n → Stop m r → Stop n r
later m n (Ok k) h s = tt
later m n (Err e) h s = omega arith

read-stop : (ls : List (Option Triple)) (ahead : List Item) (at : ℕ) → Stop (at + length ls) (read ls ahead at)
unfolding read
read-stop [] [] at = tt
read-stop [] (x ∷ ahead) at = omega arith
read-stop (l ∷ ls) [] at = tt
read-stop (l ∷ ls) (x ∷ ahead) at =
    cond-stop (at + length (l ∷ ls)) (ok x l) (read ls (due x l ++ ahead) (at + 1)) (Err (Unfit (at + 1)))
    (later (at + 1 + length ls) (at + length (l ∷ ls)) (read ls (due x l ++ ahead) (at + 1)) (omega arith) (read-stop ls (due x l ++ ahead) (at + 1)))
    (omega arith)

entries-stop : (s : List ℕ) → Stop (length s / line_length) (read_at s (entries 1 0 ∷ []) 0)
unfolding read_at
entries-stop s =
    let n = length s / line_length - 0 in
    later (0 + length (lines_from s 0 n)) (length s / line_length) (read (lines_from s 0 n) (entries 1 0 ∷ []) 0) (omega (arith, length-lines s 0 n)) (read-stop (lines_from s 0 n) (entries 1 0 ∷ []) 0)

sheet-stop : (s : List ℕ) → Stop (length s / line_length) (read_sheet s)
unfolding read_sheet
sheet-stop s = go (read_at s (entries 1 0 ∷ []) 0) refl
  where
    go : (r : Result ℕ SheetError) → read_at s (entries 1 0 ∷ []) 0 ≡ r → Stop (length s / line_length) (end_of (length s / line_length) r)
    go (Ok k) e = cond-stop (length s / line_length) (eqb k (length s / line_length)) (Ok k) (Err (Unfit (k + 1))) tt (let w = within s (entries 1 0 ∷ []) 0 k (omega arith) e in omega arith)
    go (Err l) e = rw e at (entries-stop s)

-- a sheet that is read at all has at most 2,000 lines
pub few-lines : (n : ℕ) → length_ok n ≡ true → n / line_length ≤ most_lines
few-lines n = go (ltb 0 n) (leb n sheet_bytes) refl
  where
    go : (a b : Bool) → leb n sheet_bytes ≡ b → (a && (b && eqb (n % line_length) 0)) ≡ true → n / line_length ≤ most_lines
    go true true h e = let l = leb-true n sheet_bytes h in omega arith
    go true false h e = cc
    go false b h e = cc

pub line_small : (s : List ℕ) → check_line (check s) ≤ most_lines + 1
unfolding check
line_small s = length-test (length_ok (length s)) refl
  where
    m : ℕ
    m = first_misspelt (lines_of s)

    fitted : length s / line_length ≤ most_lines → (r : Result ℕ SheetError) → Stop (length s / line_length) r → check_line (fitting r) ≤ most_lines + 1
    fitted n (Ok k) h = omega arith
    fitted n (Err e) h = omega arith

    spelt : length s / line_length ≤ most_lines → (t : Bool) → ltb m (length s / line_length) ≡ t → check_line (cond t (Err (Misspelt (m + 1))) (fitting (read_sheet s))) ≤ most_lines + 1
    spelt n true e = let l = ltb-true m (length s / line_length) e in omega arith
    spelt n false e = fitted n (read_sheet s) (sheet-stop s)

    length-test : (t : Bool) → length_ok (length s) ≡ t → check_line (cond t (cond (ltb m (length s / line_length)) (Err (Misspelt (m + 1))) (fitting (read_sheet s))) (Err Length)) ≤ most_lines + 1
    length-test true e = spelt (few-lines (length s) e) (ltb m (length s / line_length)) refl
    length-test false e = omega arith

-- ---- a plan's lines are spelt
end-next : (n : ℕ) (g : Result ℕ SheetError) (k : ℕ) → end_of n g ≡ Ok k → (g ≡ Ok k) × (k ≡ n)
end-next n (Ok j) k e =
    let h = cond-next (eqb j n) (Ok j) (Unfit (j + 1)) k e in
    let q = h.1 in
    let z : j ≡ k = cc in
    (q, sym z ∙ eqb-true j n h.0)
end-next n (Err l) k e = cc

plan-spelt : (s : List ℕ) (k : ℕ) → read_sheet s ≡ Ok k → first_misspelt (lines_of s) ≡ length s / line_length
unfolding read_sheet read_at lines_of
plan-spelt s k e =
    let h = end-next (length s / line_length) _ k e in
    let n : length (lines_from s 0 (length s / line_length)) ≡ length s / line_length = length-lines s 0 (length s / line_length) in
    let r : read (lines_from s 0 (length s / line_length)) (entries 1 0 ∷ []) 0 ≡ Ok k = sym (ap (λ (m : ℕ). read (lines_from s 0 m) (entries 1 0 ∷ []) 0) (sub-zero (length s / line_length))) ∙ h.0 in
    let q = h.1 in
    all-spelt (lines_from s 0 (length s / line_length)) (entries 1 0 ∷ []) 0 k r (omega arith) ∙ n

-- so a plan is not refused for a line's spelling
pub plan-first : (s : List ℕ) (k : ℕ) → read_sheet s ≡ Ok k → (x : Result Unit SheetError) → misspelt_first s x ≡ x
plan-first s k e x = let h = plan-spelt s k e in rw (le-ltb (first_misspelt (lines_of s)) (length s / line_length) (omega arith))
