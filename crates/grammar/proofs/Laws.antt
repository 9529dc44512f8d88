-- Laws of `read` and `read_at`, which stay shut elsewhere. Assumes nothing.
use Rattle.spelling.specs.declared.Triple.{Triple}
use Rattle.grammar.specs.declared.SheetError.TheVariants.{Unfit}
use Rattle.grammar.specs.declared.SheetError.{SheetError}
use Rattle.std.proofs.Common.{Option, Some, None, Result, Ok, Err, ◌≡◌, ◌≢◌, ◌⊎◌, inl, inr, refl, ap, ◌∙◌, Bool, true, false, cond, List, [], ◌∷◌, ◌++◌, append_assoc, ℕ, zero, suc, ◌+◌, ◌-◌, ◌/◌, ◌≤◌, ◌<◌, arith, length, replicate}
use Rattle.sizes.specs.Sizes.{line_length}
use Rattle.spelling.specs.Spelling.{line_at, lines_from, first_misspelt}
use Rattle.spelling.proofs.Laws.{length-lines, lines_cons, lines-nil, past_end}
use Rattle.kinds.specs.declared.Sort.{Sort}
use Rattle.kinds.specs.Kinds.{a_type, a_term, a_pattern, an_arm}
use Rattle.kinds.proofs.Rows.{ne_same}
use Rattle.grammar.specs.Grammar.{Item, part, entries, repeated, ok, due, read, read_at}

abbrev and_then : Result ℕ SheetError → (ℕ → Result ℕ SheetError) → Result ℕ SheetError
and_then (Ok k) f = f k
and_then (Err l) f = Err l

-- ---- what is repeated, by its sort
pub repeated-part : (e : Sort) (n : ℕ) → (e ≡ a_type) ⊎ ((e ≡ a_term) ⊎ (e ≡ a_pattern)) → replicate n (part e) ≡ repeated e n
repeated-part e n (inl h) = rw h refl
repeated-part e n (inr (inl h)) = rw h refl
repeated-part e n (inr (inr h)) = rw h refl

pub repeated-none : (e : Sort) (n : ℕ) → e ≢ a_type → e ≢ a_term → e ≢ a_pattern → e ≢ an_arm → [] ≡ repeated e n
repeated-none e n a b c d = rw (ne_same e a_type a, ne_same e a_term b, ne_same e a_pattern c, ne_same e an_arm d) refl

-- ---- a list of lines
pub nothing : (ls : List (Option Triple)) (at : ℕ) → read ls [] at ≡ Ok at
unfolding read
nothing [] at = refl
nothing (l ∷ ls) at = refl

pub cond-next : (t : Bool) (Y : Result ℕ SheetError) (l : SheetError) (k : ℕ) → cond t Y (Err l) ≡ Ok k → (t ≡ true) × (Y ≡ Ok k)
cond-next true Y l k e = (refl, e)
cond-next false Y l k e = cc

-- a line that is read, and the rest
pub one : (l : Option Triple) (ls : List (Option Triple)) (x : Item) (ahead : List Item) (at k : ℕ) → read (l ∷ ls) (x ∷ ahead) at ≡ Ok k
    → (ok x l ≡ true) × (read ls (due x l ++ ahead) (at + 1) ≡ Ok k)
unfolding read
one l ls x ahead at k e = cond-next (ok x l) _ _ k e

pub no_line : (x : Item) (ahead : List Item) (at k : ℕ) → read [] (x ∷ ahead) at ≡ Ok k → ⊥
unfolding read
no_line x ahead at k e = cc

pub bounds : (ls : List (Option Triple)) (ahead : List Item) (at k : ℕ) → read ls ahead at ≡ Ok k → (at ≤ k) × (k ≤ at + length ls)
bounds [] [] at k e = let z : at ≡ k = cc (nothing [] at) in omega arith
bounds [] (x ∷ ahead) at k e = absurd (no_line x ahead at k e)
bounds (l ∷ ls) [] at k e = let z : at ≡ k = cc (nothing (l ∷ ls) at) in omega arith
bounds (l ∷ ls) (x ∷ ahead) at k e = let h = bounds ls (due x l ++ ahead) (at + 1) k (one l ls x ahead at k e).1 in omega arith

-- a misspelt line stands nowhere
misspelt-nowhere : (x : Item) → ok x None ≡ true → ⊥
misspelt-nowhere (part x) e = cc
misspelt-nowhere (entries k last) e = cc

-- lines that are read to the end are spelt
pub all-spelt : (ls : List (Option Triple)) (ahead : List Item) (at k : ℕ) → read ls ahead at ≡ Ok k → k ≡ at + length ls → first_misspelt ls ≡ length ls
unfolding first_misspelt
all-spelt [] ahead at k e h = refl
all-spelt (l ∷ ls) [] at k e h = absurd (let z : at ≡ k = cc (nothing (l ∷ ls) at) in omega arith)
all-spelt (Some t ∷ ls) (x ∷ ahead) at k e h = ap suc (all-spelt ls (due x (Some t) ++ ahead) (at + 1) k (one (Some t) ls x ahead at k e).1 (omega arith))
all-spelt (None ∷ ls) (x ∷ ahead) at k e h = absurd (misspelt-nowhere x (one None ls x ahead at k e).0)

strict : (ls : List (Option Triple)) (x : Item) (ahead : List Item) (at k : ℕ) → read ls (x ∷ ahead) at ≡ Ok k → at < k
strict [] x ahead at k e = absurd (no_line x ahead at k e)
strict (l ∷ ls) x ahead at k e = let h = bounds ls (due x l ++ ahead) (at + 1) k (one l ls x ahead at k e).1 in omega arith

cond-then : (t : Bool) (X Y R : Result ℕ SheetError) (K : ℕ → Result ℕ SheetError) → X ≡ and_then Y K → R ≡ and_then R K → cond t X R ≡ and_then (cond t Y R) K
cond-then true X Y R K p q = p
cond-then false X Y R K p q = q

-- ---- a sheet
module _ (s : List ℕ) where
  appended : (N n : ℕ) (a b : List Item) (at : ℕ) → N - at ≡ n
      → read (lines_from s at n) (a ++ b) at ≡ and_then (read (lines_from s at n) a at) (λ k. read (lines_from s k (N - k)) b k)
  unfolding read lines_from
  appended N zero [] b at e = rw e
  appended N zero (x ∷ a) b at e = refl
  appended N (suc n) [] b at e = rw e
  appended N (suc n) (x ∷ a) b at e =
      cond-then (ok x (line_at s at)) _ _ (Err (Unfit (at + 1))) (λ k. read (lines_from s k (N - k)) b k)
      (rw (← append_assoc (due x (line_at s at)) a b) (appended N n (due x (line_at s at) ++ a) b (at + 1) (omega arith))) refl

  pub done : (at : ℕ) → read_at s [] at ≡ Ok at
  unfolding read_at
  done at = nothing _ at

  pub lacking : (x : Item) (ahead : List Item) (at : ℕ) → length s / line_length ≤ at → read_at s (x ∷ ahead) at ≡ Err (Unfit (at + 1))
  unfolding read_at read
  lacking x ahead at h = rw (lines-nil s at (length s / line_length) h)

  here : (x : Item) (ahead : List Item) (at : ℕ) → at < length s / line_length
      → read_at s (x ∷ ahead) at ≡ cond (ok x (line_at s at)) (read_at s (due x (line_at s at) ++ ahead) (at + 1)) (Err (Unfit (at + 1)))
  unfolding read_at read
  here x ahead at h = rw (lines_cons s at (length s / line_length) h)

  -- no item is met past the last line
  past : (x : Item) → ok x None ≡ false
  past (part k) = refl
  past (entries k n) = refl

  pub inside : (x : Item) (at : ℕ) → ok x (line_at s at) ≡ true → at < length s / line_length
  inside x at e = go (lib.Dec.ltb at (length s / line_length)) refl
    where
      go : (b : Bool) → lib.Dec.ltb at (length s / line_length) ≡ b → at < length s / line_length
      go true h = borrow.Author.Tests.ltb-true at _ h
      go false h =
          let p : ok x (line_at s at) ≡ false = rw (past_end s at (borrow.Author.Tests.ltb-false at _ h)) (past x) in
          cc

  pub refused : (x : Item) (ahead : List Item) (at : ℕ) → ok x (line_at s at) ≡ false → read_at s (x ∷ ahead) at ≡ Err (Unfit (at + 1))
  refused x ahead at e = go (lib.Dec.ltb at (length s / line_length)) refl
    where
      go : (b : Bool) → lib.Dec.ltb at (length s / line_length) ≡ b → read_at s (x ∷ ahead) at ≡ Err (Unfit (at + 1))
      go true h = here x ahead at (borrow.Author.Tests.ltb-true at _ h) ∙ rw e
      go false h = lacking x ahead at (borrow.Author.Tests.ltb-false at _ h)

  pub goes_on : (x : Item) (ahead : List Item) (at : ℕ) → ok x (line_at s at) ≡ true → read_at s (x ∷ ahead) at ≡ read_at s (due x (line_at s at) ++ ahead) (at + 1)
  goes_on x ahead at e = here x ahead at (inside x at e) ∙ rw e

  pub follow : (a b : List Item) (at k : ℕ) → read_at s a at ≡ Ok k → read_at s (a ++ b) at ≡ read_at s b k
  unfolding read_at
  follow a b at k e = appended (length s / line_length) _ a b at refl ∙ rw e

  pub stops : (a b : List Item) (at : ℕ) (l : SheetError) → read_at s a at ≡ Err l → read_at s (a ++ b) at ≡ Err l
  unfolding read_at
  stops a b at l e = appended (length s / line_length) _ a b at refl ∙ rw e

  pub within : (ahead : List Item) (at k : ℕ) → at ≤ length s / line_length → read_at s ahead at ≡ Ok k → (at ≤ k) × (k ≤ length s / line_length)
  unfolding read_at
  within ahead at k h e =
      let b = bounds (lines_from s at (length s / line_length - at)) ahead at k e in
      let n = length-lines s at (length s / line_length - at) in
      omega arith

  pub beyond : (x : Item) (ahead : List Item) (at k : ℕ) → read_at s (x ∷ ahead) at ≡ Ok k → at < k
  unfolding read_at
  beyond x ahead at k e = strict _ x ahead at k e
