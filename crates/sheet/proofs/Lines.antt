-- Laws of `triples` and `part_line`. Assumes nothing.
use Rattle.std.proofs.Common.{Option, Some, None, unwrap_or, ◌≡◌, refl, sym, ap, ap₂, ◌∙◌, List, ◌∷◌, ◌++◌, ℕ, suc, ◌+◌, ◌-◌, ◌/◌, ◌≤◌, ◌<◌, add-zero, add-one, arith, length, get_or, drop, length-append, length-drop, drop_of_length-le, drop-cons, drop-drop}
use lib.ListN.{length-map, get_or-map}
use Rattle.sizes.specs.Sizes.{line_length}
use Rattle.nodes.specs.Parts.{take_parts, drop_parts}
use Rattle.nodes.proofs.PartLaws.{take_none, take-turn, take-take, drop-take, take-drop, length-take, is-drop}
use Rattle.spelling.specs.declared.Triple.{Triple}
use Rattle.spelling.specs.Spelling.{line_at, lines_of}
use Rattle.spelling.proofs.Laws.{length-lines, line-of-sheet}
use Rattle.spelling.proofs.Texts.{fair}
use Rattle.kinds.specs.Kinds.{parts_of}
use Rattle.sheet.specs.Plan.{no_triple, triple_of, triples, part_line}

or-none : (l : Option Triple) → unwrap_or l no_triple ≡ triple_of l
or-none (Some t) = refl
or-none None = refl

module _ (s : List ℕ) where
  pub length-triples : length (triples s) ≡ length s / line_length
  unfolding triples lines_of
  length-triples = length-map (lines_of s) triple_of ∙ length-lines s 0 (length s / line_length)

  pub triple-is : (i : ℕ) → get_or (triples s) i no_triple ≡ triple_of (line_at s i)
  unfolding triples
  triple-is i = get_or-map triple_of (lines_of s) i None ∙ ap triple_of (line-of-sheet s i)

  pub line-said : (i : ℕ) → unwrap_or (line_at s i) no_triple ≡ get_or (triples s) i no_triple
  line-said i = or-none (line_at s i) ∙ sym (triple-is i)

  digits_of : (i : ℕ) (l : Option Triple) → line_at s i ≡ l → ((triple_of l).kind < 1000) × ((triple_of l).count < 100000)
  digits_of i (Some t) e = ((fair s i t e).kind, (fair s i t e).count)
  digits_of i None e = (omega arith, omega arith)

  -- a kind has three digits at most, a count five
  pub kind-small : (i : ℕ) → (get_or (triples s) i no_triple).kind < 1000
  kind-small i = rw (triple-is i) (digits_of i (line_at s i) refl).0

  pub count_small : (i : ℕ) → (get_or (triples s) i no_triple).count < 100000
  count_small i = rw (triple-is i) (digits_of i (line_at s i) refl).1

module _ (ls : List Triple) (at n : ℕ) where
  pub line-none : n ≡ 0 → at ≡ part_line ls at n
  unfolding part_line
  line-none e = rw (e, take_none parts_of (drop at ls), add-zero)

  pub line-past : length ls ≤ at → at ≡ part_line ls at n
  unfolding part_line
  line-past h = rw (drop_of_length-le ls h, add-zero)

  pub line-turn : at < length ls → (n ≡ 0 → ⊥) → part_line ls (at + 1) (n - 1 + parts_of (get_or ls at no_triple)) ≡ part_line ls at n
  unfolding part_line
  line-turn h k =
      let m = n - 1 + parts_of (get_or ls at no_triple) in
      let e : take_parts parts_of (drop at ls) n ≡ get_or ls at no_triple ∷ take_parts parts_of (drop (at + 1) ls) m =
      rw (drop-cons ls at no_triple h) (take-turn parts_of (get_or ls at no_triple) (drop (suc at) ls) n k ∙ rw add-one) in
      rw e (omega arith)

  -- past one part, and then the others
  pub line-hop : 0 < n → part_line ls (part_line ls at 1) (n - 1) ≡ part_line ls at n
  unfolding part_line
  line-hop k =
      let xs = drop at ls in
      let e : 1 + (n - 1) ≡ n = omega arith in
      let s : take_parts parts_of xs 1 ++ take_parts parts_of (drop_parts parts_of xs 1) (n - 1) ≡ take_parts parts_of xs (1 + (n - 1)) =
      ap₂ (λ (x y : List Triple). x ++ y) (sym (take-take parts_of xs 1 (n - 1))) (sym (drop-take parts_of xs 1 (n - 1))) ∙ take-drop parts_of (take_parts parts_of xs (1 + (n - 1))) 1 in
      let m : length (take_parts parts_of xs 1) + length (take_parts parts_of (drop_parts parts_of xs 1) (n - 1)) ≡ length (take_parts parts_of xs n) =
      sym (length-append (take_parts parts_of xs 1) _) ∙ ap length s ∙ ap (λ (j : ℕ). length (take_parts parts_of xs j)) e in
      let d : drop (at + length (take_parts parts_of xs 1)) ls ≡ drop_parts parts_of xs 1 = sym (is-drop parts_of xs 1 ∙ drop-drop (length (take_parts parts_of xs 1)) at ls) in
      rw d (omega arith)

  pub line-from : at ≤ part_line ls at n
  unfolding part_line
  line-from = omega arith

  pub line-within : at ≤ length ls + 1 → part_line ls at n ≤ length ls + 1
  unfolding part_line
  line-within h =
      let e = length-drop at ls in
      let k = length-take parts_of (drop at ls) n in
      omega arith

  pub line-inside : at ≤ length ls → part_line ls at n ≤ length ls
  unfolding part_line
  line-inside h =
      let e = length-drop at ls in
      let k = length-take parts_of (drop at ls) n in
      omega arith

  pub lines-between : part_line ls at n - at ≡ length (take_parts parts_of (drop at ls) n)
  unfolding part_line
  lines-between = omega arith

  -- what stands from that line on
  pub drop-line : drop (part_line ls at n) ls ≡ drop_parts parts_of (drop at ls) n
  unfolding part_line
  drop-line = sym (is-drop parts_of (drop at ls) n ∙ drop-drop (length (take_parts parts_of (drop at ls) n)) at ls)

-- part i of n: it ends at line `end`
pub line_next : (ls : List Triple) (at n i : ℕ) {end : ℕ} → i < n → end ≡ part_line ls at 1 → part_line ls end (n - (i + 1)) ≡ part_line ls at (n - i)
line_next ls at n i h e =
    let k : n - (i + 1) ≡ n - i - 1 = omega arith in
    rw (e, k) (line-hop ls at (n - i) (omega arith))
