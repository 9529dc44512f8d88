-- What each way out of the readers shows, on values alone: r and its equations are what a call gave.
-- Assumes nothing.
use Rattle.kinds.specs.declared.Parts.{Parts}
use Rattle.kinds.specs.declared.Sort.{Sort}
use Rattle.grammar.specs.declared.SheetError.TheVariants.{Unfit}
use Rattle.grammar.specs.declared.SheetError.{SheetError}
use Rattle.std.proofs.Common.{Some, None, Ok, Err, is_some, ◌≡◌, ◌≢◌, ◌⊎◌, refl, sym, ap, ◌∙◌, ltb, ltb-true, List, [], ◌∷◌, ◌++◌, append-nil, ℕ, suc, ◌+◌, ◌-◌, ◌/◌, ◌≤◌, ◌<◌, arith, length, replicate, Bool, true, false, cond}
use Rattle.sizes.specs.Sizes.{line_length}
use Rattle.spelling.specs.declared.Triple.{Triple}
use Rattle.spelling.specs.Spelling.{line_at}
use Rattle.grammar.specs.declared.Declared.TheVariants.{Named, Expected}
use Rattle.grammar.specs.Grammar.{Item, part, entries, in_order, declared_by, arms, repeated, following, ok, due, read_at}
use Rattle.kinds.specs.Kinds.{a_type, a_term, a_pattern, an_arm, an_entry, an_expected, a_goal, begins, head_of}
use Rattle.kinds.proofs.Rows.{begins-head}
use Rattle.spelling.proofs.Laws.{past_end}
use borrow.Author.Tests.{ltb-false}
use Rattle.grammar.proofs.Laws.{repeated-part, repeated-none, done, refused, goes_on, follow, stops, within, beyond}

unroll : (x : Item) (n i : ℕ) → i < n → replicate (n - i) x ≡ x ∷ replicate (n - (i + 1)) x
unroll x n i h = let e : n - i ≡ suc (n - (i + 1)) = omega arith in rw e

unroll-arms : (n i : ℕ) → i < n → arms (n - i) ≡ part a_pattern ∷ part a_term ∷ arms (n - (i + 1))
unfolding arms
unroll-arms n i h = let e : n - i ≡ suc (n - (i + 1)) = omega arith in rw e

-- ---- a line that is taken where entries are due begins a part
fits-begins : (x : Sort) (t : Triple) → begins x t ≡ is_some (head_of x t)
fits-begins = begins-head is_some (λ p. refl) refl

entry-begun : (k last : ℕ) (t : Triple) (kd nm : ℕ) → declared_by k last t ≡ Some (Named kd nm) → begins an_entry t ≡ true
unfolding declared_by
entry-begun k last t kd nm = go (begins an_entry t) (begins an_expected t)
  where
    go : (a b : Bool) → cond a (cond (in_order k last t) (Some (Named t.kind t.value)) None) (cond b (Some Expected) None) ≡ Some (Named kd nm) → a ≡ true
    go true b e = refl
    go false true e = cc
    go false false e = cc

expected-begun : (k last : ℕ) (t : Triple) → declared_by k last t ≡ Some Expected → begins an_expected t ≡ true
unfolding declared_by
expected-begun k last t = go (begins an_entry t) (in_order k last t) (begins an_expected t)
  where
    go : (a o b : Bool) → cond a (cond o (Some (Named t.kind t.value)) None) (cond b (Some Expected) None) ≡ Some Expected → b ≡ true
    go true true b e = cc
    go true false b e = cc
    go false o true e = refl
    go false o false e = cc

module _ (s : List ℕ) where
  -- after the items a, the items b
  then : {k : ℕ} (a b : List Item) (at : ℕ) → Ok k ≡ read_at s a at → read_at s b k ≡ read_at s (a ++ b) at
  then a b at e = sym (follow s a b at _ (sym e))

  halt : {e : SheetError} (a b : List Item) (at : ℕ) → Err e ≡ read_at s a at → Err e ≡ read_at s (a ++ b) at
  halt a b at e = sym (stops s a b at _ (sym e))

  -- ---- n parts of a sort, of which i are read
  module _ (x : Item) (n i : ℕ) where
    pub one_read : {k : ℕ} (at : ℕ) → i < n → Ok k ≡ read_at s (x ∷ []) at → read_at s (replicate (n - (i + 1)) x) k ≡ read_at s (replicate (n - i) x) at
    one_read at h e = rw (unroll x n i h) (then (x ∷ []) (replicate (n - (i + 1)) x) at e)

    pub one-stop : {e : SheetError} (at : ℕ) → i < n → Err e ≡ read_at s (x ∷ []) at → Err e ≡ read_at s (replicate (n - i) x) at
    one-stop at h e = rw (unroll x n i h) (halt (x ∷ []) (replicate (n - (i + 1)) x) at e)

    pub all_read : (at : ℕ) → n ≤ i → Ok at ≡ read_at s (replicate (n - i) x) at
    all_read at h = let e : n - i ≡ 0 = omega arith in rw e (sym (done s at))

  -- ---- n arms, of which i are read
  module _ (n i : ℕ) where
    pub arm-stop : {e : SheetError} (at : ℕ) → i < n → Err e ≡ read_at s (part a_pattern ∷ []) at → Err e ≡ read_at s (arms (n - i)) at
    arm-stop at h e = rw (unroll-arms n i h) (halt (part a_pattern ∷ []) (part a_term ∷ arms (n - (i + 1))) at e)

    body : {k : ℕ} (at : ℕ) → i < n → Ok k ≡ read_at s (part a_pattern ∷ []) at → read_at s (part a_term ∷ arms (n - (i + 1))) k ≡ read_at s (arms (n - i)) at
    body at h e = rw (unroll-arms n i h) (then (part a_pattern ∷ []) (part a_term ∷ arms (n - (i + 1))) at e)

    pub body-stop : {k : ℕ} {e : SheetError} (at : ℕ) → i < n → Ok k ≡ read_at s (part a_pattern ∷ []) at → Err e ≡ read_at s (part a_term ∷ []) k
        → Err e ≡ read_at s (arms (n - i)) at
    body-stop at h p e = halt (part a_term ∷ []) (arms (n - (i + 1))) _ e ∙ body at h p

    pub arm_read : {k j : ℕ} (at : ℕ) → i < n → Ok k ≡ read_at s (part a_pattern ∷ []) at → Ok j ≡ read_at s (part a_term ∷ []) k
        → read_at s (arms (n - (i + 1))) j ≡ read_at s (arms (n - i)) at
    arm_read at h p e = then (part a_term ∷ []) (arms (n - (i + 1))) _ e ∙ body at h p

    pub arms-read : (at : ℕ) → n ≤ i → Ok at ≡ read_at s (arms (n - i)) at
    unfolding arms
    arms-read at h = let e : n - i ≡ 0 = omega arith in rw e (sym (done s at))

  -- ---- a part by its first line
  pub misspelt : (x : Item) (at : ℕ) → line_at s at ≡ None → Err (Unfit (at + 1)) ≡ read_at s (x ∷ []) at
  misspelt (part x) at e = sym (refused s (part x) [] at (rw e))
  misspelt (entries k last) at e = sym (refused s (entries k last) [] at (rw e))

  pub on_line : {t : Triple} (at : ℕ) → line_at s at ≡ Some t → at < length s / line_length
  on_line at e = go (ltb at (length s / line_length)) refl
    where
      go : (b : Bool) → ltb at (length s / line_length) ≡ b → at < length s / line_length
      go true h = ltb-true at _ h
      go false h = let z = past_end s at (ltb-false at _ h) in cc

  module _ (x : Sort) (at : ℕ) (t : Triple) (l : line_at s at ≡ Some t) where
    pub no_part : head_of x t ≡ None → Err (Unfit (at + 1)) ≡ read_at s (part x ∷ []) at
    no_part e = sym (refused s (part x) [] at (rw (l, e)))

    pub parted : {p : Parts} → head_of x t ≡ Some p → read_at s (following p.types p.terms p.each p.count) (at + 1) ≡ read_at s (part x ∷ []) at
    parted e = sym (goes_on s (part x) [] at (rw (l, e)) ∙ rw (append-nil, l, e))

  -- ---- types, then terms, then the others
  module _ (at ty te : ℕ) (e : Sort) (n : ℕ) where
    pub types-stop : {d : SheetError} → Err d ≡ read_at s (replicate ty (part a_type)) at → Err d ≡ read_at s (following ty te e n) at
    unfolding following
    types-stop p = halt (replicate ty (part a_type)) _ at p

    pub terms-stop : {k : ℕ} {d : SheetError} → Ok k ≡ read_at s (replicate ty (part a_type)) at → Err d ≡ read_at s (replicate te (part a_term)) k
        → Err d ≡ read_at s (following ty te e n) at
    unfolding following
    terms-stop p q = halt (replicate te (part a_term)) _ _ q ∙ then (replicate ty (part a_type)) _ at p

    module _ {k j : ℕ} (p : Ok k ≡ read_at s (replicate ty (part a_type)) at) (q : Ok j ≡ read_at s (replicate te (part a_term)) k) where
      whole : read_at s (repeated e n) j ≡ read_at s (following ty te e n) at
      unfolding following
      whole = then (replicate te (part a_term)) (repeated e n) _ q ∙ then (replicate ty (part a_type)) _ at p

      pub whole-parts : (e ≡ a_type) ⊎ ((e ≡ a_term) ⊎ (e ≡ a_pattern)) → read_at s (replicate n (part e)) j ≡ read_at s (following ty te e n) at
      whole-parts h = ap (λ a. read_at s a j) (repeated-part e n h) ∙ whole

      pub whole-arms : e ≡ an_arm → read_at s (arms n) j ≡ read_at s (following ty te e n) at
      whole-arms i = sym (ap (λ (x : Sort). read_at s (repeated x n) j) i) ∙ whole

      pub whole-none : e ≢ a_type → e ≢ a_term → e ≢ a_pattern → e ≢ an_arm → Ok j ≡ read_at s (following ty te e n) at
      whole-none a b c d = sym (done s j) ∙ ap (λ x. read_at s x j) (repeated-none e n a b c d) ∙ whole

  -- what is due after the line is what is due after a part's first line, and then y
  one-part : (k last at : ℕ) (x : Sort) (y : Item) → ok (entries k last) (line_at s at) ≡ true → due (entries k last) (line_at s at) ++ [] ≡ due (part x) (line_at s at) ++ (y ∷ []) → ok (part x) (line_at s at) ≡ true
      → read_at s (entries k last ∷ []) at ≡ read_at s (part x ∷ y ∷ []) at
  one-part k last at x y o e f = goes_on s (entries k last) [] at o ∙ ap (λ (a : List Item). read_at s a (at + 1)) e ∙ sym (goes_on s (part x) (y ∷ []) at f)

  module _ (k last at : ℕ) (t : Triple) (l : line_at s at ≡ Some t) where
    pub not_entry : declared_by k last t ≡ None → Err (Unfit (at + 1)) ≡ read_at s (entries k last ∷ []) at
    not_entry q = sym (refused s (entries k last) [] at (rw (l, q)))

    -- an entry in its order is read as one part, and then the others are
    pub named : {kd nm : ℕ} → declared_by k last t ≡ Some (Named kd nm) → read_at s (entries k last ∷ []) at ≡ read_at s (part an_entry ∷ entries kd nm ∷ []) at
    named q =
        let here : due (entries k last) (line_at s at) ++ [] ≡ due (part an_entry) (line_at s at) ++ (entries _ _ ∷ []) = rw (l, q) (append-nil _) in
        one-part k last at an_entry (entries _ _) (rw (l, q)) here (rw l (sym (fits-begins an_entry t) ∙ entry-begun k last t _ _ q))

    -- so is the expected type, and then the goal
    pub expected : declared_by k last t ≡ Some Expected → read_at s (entries k last ∷ []) at ≡ read_at s (part an_expected ∷ part a_goal ∷ []) at
    expected q =
        let here : due (entries k last) (line_at s at) ++ [] ≡ due (part an_expected) (line_at s at) ++ (part a_goal ∷ []) = rw (l, q) (append-nil _) in
        one-part k last at an_expected (part a_goal) (rw (l, q)) here (rw l (sym (fits-begins an_expected t) ∙ expected-begun k last t q))

  module _ (x y z : Item) (at : ℕ) (head : read_at s (x ∷ []) at ≡ read_at s (y ∷ z ∷ []) at) where
    pub entry-stop : {e : SheetError} → Err e ≡ read_at s (y ∷ []) at → Err e ≡ read_at s (x ∷ []) at
    entry-stop e = halt (y ∷ []) (z ∷ []) at e ∙ sym head

    pub entry_more : {j : ℕ} → Ok j ≡ read_at s (y ∷ []) at → read_at s (z ∷ []) j ≡ read_at s (x ∷ []) at
    entry_more e = then (y ∷ []) (z ∷ []) at e ∙ sym head

  -- what was read lies within the sheet, and a part has a line at least
  pub ends-within : {k : ℕ} (ahead : List Item) (at : ℕ) → at ≤ length s / line_length → Ok k ≡ read_at s ahead at → (at ≤ k) × (k ≤ length s / line_length)
  ends-within ahead at h e = within s ahead at _ h (sym e)

  pub ends-beyond : {k : ℕ} (x : Item) (at : ℕ) → Ok k ≡ read_at s (x ∷ []) at → at < k
  ends-beyond x at e = beyond s x [] at _ (sym e)
