-- Lines that were read as one whole type, term or pattern read the same by themselves, cut out of the sheet.
-- Assumes nothing.
use Rattle.grammar.specs.declared.SheetError.{SheetError}
use Rattle.std.proofs.Common.{Ok, Result, ◌≡◌, refl, sym, ap, ◌∙◌, List, [], ◌∷◌, ◌++◌, ℕ, zero, suc, ◌+◌, ◌-◌, ◌*◌, ◌/◌, ◌≤◌, ◌<◌, arith, add_assoc, add-zero, zero-add, length, take, drop, length-take, length-drop}
use Rattle.sizes.specs.Sizes.{line_length}
use Rattle.spelling.specs.declared.Field.TheVariants.{Blank}
use Rattle.spelling.specs.Spelling.{line_at, lines_from}
use Rattle.spelling.proofs.Laws.{cut-byte, cut-field}
use Rattle.kinds.specs.Kinds.{a_term}
use Rattle.grammar.specs.Grammar.{Item, part, due, read, read_at, sub_term}
use Rattle.grammar.proofs.Laws.{nothing, one, bounds, within}

-- ---- m lines cut out of a sheet, from line a on, are those lines
module _ (s : List ℕ) (a m : ℕ) where
  abbrev lines : List ℕ
  lines = take (line_length * m) (drop (line_length * a) s)

  pub line : (i : ℕ) → i < m → line_at lines i ≡ line_at s (a + i)
  unfolding line_at
  line i h =
      let k : line_length * (a + i) ≡ line_length * a + line_length * i = omega arith in
      rw (
        k,
        cut-field s (line_length * a) (line_length * m) 3 (line_length * i) Blank (omega arith),
        cut-field s (line_length * a) (line_length * m) 20 (line_length * i + 3) Blank (omega arith),
        cut-field s (line_length * a) (line_length * m) 5 (line_length * i + 23) Blank (omega arith),
        cut-byte s (line_length * a) (line_length * m) (line_length * i + 28) (omega arith),
        add_assoc (line_length * a) (line_length * i) 3,
        add_assoc (line_length * a) (line_length * i) 23,
        add_assoc (line_length * a) (line_length * i) 28,
      )

  pub lines_cut : (n i : ℕ) → i + n ≤ m → lines_from lines i n ≡ lines_from s (a + i) n
  unfolding lines_from
  lines_cut zero i h = refl
  lines_cut (suc n) i h = rw (line i (omega arith), add_assoc a i 1, lines_cut n (i + 1) (omega arith))

-- ---- what was read whole takes no notice of the lines after it
stop-here : (at b m : ℕ) → at ≡ at + m → ◌≡◌ {A = Result ℕ SheetError} (Ok b) (Ok (b + m))
stop-here at b m e = let z : m ≡ 0 = omega arith in rw (z, add-zero)

module _ (s : List ℕ) where
  shorter : (n : ℕ) (ahead : List Item) (at b m : ℕ) → read (lines_from s at n) ahead at ≡ Ok (at + m) → read (lines_from s at m) ahead b ≡ Ok (b + m)
  unfolding lines_from read
  shorter zero [] at b m e = nothing (lines_from s at m) b ∙ stop-here at b m (cc)
  shorter zero (x ∷ ahead) at b m e = cc
  shorter (suc n) [] at b m e = nothing (lines_from s at m) b ∙ stop-here at b m (cc)
  shorter (suc n) (x ∷ ahead) at b zero e =
      let h = bounds (lines_from s (at + 1) n) (due x (line_at s at) ++ ahead) (at + 1) (at + 0) (one (line_at s at) (lines_from s (at + 1) n) x ahead at (at + 0) e).1 in
      absurd (omega arith)
  shorter (suc n) (x ∷ ahead) at b (suc m) e =
      let i₁ : at + suc m ≡ at + 1 + m = omega arith in
      let i₂ : b + suc m ≡ b + 1 + m = omega arith in
      let o = one (line_at s at) (lines_from s (at + 1) n) x ahead at (at + suc m) e in
      rw (o.0, i₂) (shorter n (due x (line_at s at) ++ ahead) (at + 1) (b + 1) m (o.1 ∙ ap Ok i₁))

-- the lines from a up to k, where a whole x was read, are a whole x
pub alone : (s : List ℕ) (x : Item) (a k : ℕ) → a ≤ length s / line_length → read_at s (x ∷ []) a ≡ Ok k → read_at (take (line_length * (k - a)) (drop (line_length * a) s)) (x ∷ []) 0 ≡ Ok (k - a)
unfolding read_at
alone s x a k h e =
    let w = within s (x ∷ []) a k h e in
    let m : ℕ = k - a in
    let up : a + m ≡ k = omega arith in
    let len : length (lines s a m) ≡ line_length * m = simp (length-take, length-drop) (omega arith) in
    let n : length (lines s a m) / line_length - 0 ≡ m = rw len (omega arith) in
    rw (n, lines_cut s a m m 0 (omega arith), add-zero) (shorter s _ (x ∷ []) a 0 m (e ∙ ap Ok (sym up)) ∙ ap Ok (zero-add m))

-- What `sub_term` returns for a term that was read reads as that term by itself, and has no line more.
pub sub-term-alone : (s : List ℕ) (a k : ℕ) → a ≤ length s / line_length → read_at s (part a_term ∷ []) a ≡ Ok k
    → (read_at (sub_term s a) (part a_term ∷ []) 0 ≡ Ok (k - a)) × (length (sub_term s a) ≡ line_length * (k - a))
unfolding sub_term
sub-term-alone s a k h e =
    let w = within s (part a_term ∷ []) a k h e in
    let d : line_length * k - line_length * a ≡ line_length * (k - a) = omega arith in
    (rw (e, d) (alone s (part a_term) a k h e), rw (e, d) (simp (length-take, length-drop) (omega arith)))
