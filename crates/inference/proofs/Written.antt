-- The words of a type that was copied from the sheet, and of the Arrow around it. Assumes nothing.
use Rattle.std.proofs.Common.{◌≡◌, refl, sym, ap, ◌∙◌, List, [], ◌∷◌, ◌++◌, ℕ, suc, ◌+◌, ◌*◌, ◌-◌, ◌≤◌, arith, length, set, take, drop, length-set, length-append, length-take, length-drop}
use Rattle.std.proofs.Math.Seq.{sets, take-append_seam, drop-append_seam}
use Rattle.nodes.specs.Nodes.{Ty, words, nodes_at}
use Rattle.nodes.proofs.Laws.{two-more, nodes_at-same, take-nodes_at, drop-nodes_at}
use Rattle.spelling.specs.declared.Triple.{Triple}
use Rattle.sheet.specs.Plan.{nodes_of}
use Rattle.sheet.specs.Rows.{rows}
use Rattle.judgment.specs.Types.{unknown, arrow}
use Rattle.inference.specs.Inference.{type_on}

-- ---- a type on n lines has n nodes
length-nodes_of : (ts : List Triple) → length (nodes_of ts) ≡ length ts
length-nodes_of [] = refl
length-nodes_of (t ∷ ts) = ap suc (length-nodes_of ts)

pub length-type_on : (s : List ℕ) (at n : ℕ) → at + n ≤ length (rows s) → length (type_on s at n) ≡ n
length-type_on s at n h =
    let e = length-nodes_of (take n (drop at (rows s))) in
    let p = length-take n (drop at (rows s)) in
    let q = length-drop at (rows s) in
    omega arith

-- ---- a type alone
pub copied : (l : List ℕ) {o : List ℕ} (t : Ty) (n : ℕ) → length t ≡ n → 2 * n ≤ length l → o ≡ sets l 0 (words t) → nodes_at o 0 n ≡ t
copied l t n e h q = rw (q, ← e) (nodes_at-same t l 0 (omega arith))

-- ---- an Arrow
pub arrow-words : (l : List ℕ) (t : Ty) (n b : ℕ) → length t ≡ n
    → set (set (sets (set (set l 0 13) 1 0) 2 (words t)) (2 + 2 * n) 17) (2 + 2 * n + 1) b ≡ sets l 0 (words (arrow t (unknown b)))
unfolding words
arrow-words l t n b e = rw (← e) (two-more (set (set l 0 13) 1 0) 2 t 17 b)

module _ (l : List ℕ) {o : List ℕ} (t : Ty) (n b : ℕ) (e : length t ≡ n) (h : 2 * n + 4 ≤ length l) (q : o ≡ sets l 0 (words (arrow t (unknown b)))) where
  long : length (t ++ unknown b) ≡ n + 1
  long = length-append t (unknown b) ∙ ap (λ (m : ℕ). m + 1) e

  pub arrow-whole : nodes_at o 0 (n + 2) ≡ arrow t (unknown b)
  arrow-whole =
      let g : n + 2 ≡ suc (length (t ++ unknown b)) = let z = long in omega arith in
      rw (q, g) (nodes_at-same (arrow t (unknown b)) l 0 (omega arith))

  parts : nodes_at o 2 (n + 1) ≡ t ++ unknown b
  unfolding words
  parts =
      let l₂ : List ℕ = set (set l 0 13) 1 0 in
      let z : length l₂ ≡ length l = length-set (set l 0 13) 1 0 ∙ length-set l 0 13 in
      let y = long in
      rw (q, ← long) (nodes_at-same (t ++ unknown b) l₂ 2 (omega arith))

  pub arrow-left : nodes_at o 2 n ≡ t
  arrow-left =
      sym (take-nodes_at o 2 (n + 1) n (omega arith)) ∙ ap (take n) parts ∙ ap (λ (m : ℕ). take m (t ++ unknown b)) (sym e) ∙ take-append_seam t (unknown b)

  pub arrow-right : nodes_at o (2 + 2 * n) 1 ≡ unknown b
  arrow-right =
      let g : 1 ≡ n + 1 - n = omega arith in
      ap (nodes_at o (2 + 2 * n)) g
      ∙ sym (drop-nodes_at o 2 (n + 1) n (omega arith)) ∙ ap (drop n) parts ∙ ap (λ (m : ℕ). drop m (t ++ unknown b)) (sym e) ∙ drop-append_seam t (unknown b)
