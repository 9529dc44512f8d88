-- Entries whose nodes are stored first, and then the words of each entry itself: as if they were laid one after the
-- other. Assumes nothing.
use Rattle.std.proofs.Common.{◌≡◌, sym, ap, ◌∙◌, List, [], ◌∷◌, ◌++◌, append-nil, ℕ, ◌+◌, ◌*◌, ◌≤◌, ◌<◌, arith, length, length-append}
use lib.Seq.{sets}
use Rattle.sizes.specs.Sizes.{most_entries, board_base, board_stride}
use Rattle.nodes.specs.Nodes.{Ty, words}
use Rattle.nodes.proofs.Laws.{length-words, sets-swap, sets_below}
use Rattle.board.specs.declared.Board.{Board}
use Rattle.board.specs.Board.{headed, laid, grown}

-- the words of an entry itself stand below all nodes
head-last : (w : List ℕ) (b : Board) (k n ln rn j : ℕ) (ws : List ℕ) → b.entries < most_entries → board_base ≤ j → sets (headed w b k n ln rn) j ws ≡ headed (sets w j ws) b k n ln rn
head-last w b k n ln rn j ws few h = sym (sets-swap w (board_stride * b.entries) (k ∷ n ∷ ln ∷ rn ∷ []) j ws (omega arith))

laid-last : (w : List ℕ) (b : Board) (k n : ℕ) (t u : Ty) → b.entries < most_entries
    → laid w b k n t u ≡ headed (sets w (board_base + 2 * b.nodes) (words (t ++ u))) b k n (length t) (length u)
unfolding laid
laid-last w b k n t u few = head-last w b k n (length t) (length u) (board_base + 2 * b.nodes) (words (t ++ u)) few (omega arith)

-- an entry of two types, one of the first of them, and one of a third type, whose nodes were stored before all others
module _ (w : List ℕ) (b : Board) (k₁ n₁ k₂ n₂ k₃ n₃ : ℕ) (A B C : Ty) (few : b.entries + 3 ≤ most_entries) where
  abbrev b₁ : Board
  b₁ = grown b (length A + length B)

  abbrev b₂ : Board
  b₂ = grown b₁ (length A + 0)

  abbrev lo : ℕ
  lo = board_base + 2 * b.nodes

  abbrev again : ℕ
  again = board_base + 2 * b₁.nodes

  abbrev end : ℕ
  end = board_base + 2 * b₂.nodes

  abbrev heads : List ℕ → List ℕ
  heads v = headed (headed (headed v b k₁ n₁ (length A) (length B)) b₁ k₂ n₂ (length A) 0) b₂ k₃ n₃ (length C) 0

  abbrev in_order : List ℕ
  in_order = sets (sets (sets w lo (words (A ++ B))) again (words A)) end (words C)

  laid-three : laid (laid (laid w b k₁ n₁ A B) b₁ k₂ n₂ A []) b₂ k₃ n₃ C [] ≡ heads in_order
  laid-three =
      let v : List ℕ = sets w lo (words (A ++ B)) in
      let v₂ : List ℕ = sets v again (words A) in
      let l₁ : laid w b k₁ n₁ A B ≡ headed v b k₁ n₁ (length A) (length B) = laid-last w b k₁ n₁ A B (omega arith) in
      let h₁ : List ℕ = headed v b k₁ n₁ (length A) (length B) in
      let l₂ : laid h₁ b₁ k₂ n₂ A [] ≡ headed (headed v₂ b k₁ n₁ (length A) (length B)) b₁ k₂ n₂ (length A) 0 =
      laid-last h₁ b₁ k₂ n₂ A [] (omega arith)
      ∙ ap (λ (t : Ty). headed (sets h₁ again (words t)) b₁ k₂ n₂ (length A) 0) (append-nil A)
      ∙ ap (λ (x : List ℕ). headed x b₁ k₂ n₂ (length A) 0) (head-last v b k₁ n₁ (length A) (length B) again (words A) (omega arith) (omega arith)) in
      let h₂ : List ℕ = headed (headed v₂ b k₁ n₁ (length A) (length B)) b₁ k₂ n₂ (length A) 0 in
      let l₃ : laid h₂ b₂ k₃ n₃ C [] ≡ heads in_order =
      laid-last h₂ b₂ k₃ n₃ C [] (omega arith)
      ∙ ap (λ (t : Ty). headed (sets h₂ end (words t)) b₂ k₃ n₃ (length C) 0) (append-nil C)
      ∙ ap (λ (x : List ℕ). headed x b₂ k₃ n₃ (length C) 0)
      (head-last (headed v₂ b k₁ n₁ (length A) (length B)) b₁ k₂ n₂ (length A) 0 end (words C) (omega arith) (omega arith)
      ∙ ap (λ (x : List ℕ). headed x b₁ k₂ n₂ (length A) 0) (head-last v₂ b k₁ n₁ (length A) (length B) end (words C) (omega arith) (omega arith))) in
      ap (λ (x : List ℕ). laid (laid x b₁ k₂ n₂ A []) b₂ k₃ n₃ C []) l₁ ∙ ap (λ (x : List ℕ). laid x b₂ k₃ n₃ C []) l₂ ∙ l₃

  laid_in_order : (mid : ℕ) → lo + 2 * length A ≡ mid → sets (sets (sets (sets w end (words C)) mid (words B)) lo (words A)) again (words A) ≡ in_order
  laid_in_order mid e =
      let AB : Ty = A ++ B in
      let la = length-append A B in
      let lw = length-words AB in
      let lv = length-words A in
      ap (λ (x : List ℕ). sets x again (words A)) (sets_below (sets w end (words C)) lo A mid B e ∙ sets-swap w lo (words AB) end (words C) (omega arith))
      ∙ sets-swap (sets w lo (words AB)) again (words A) end (words C) (omega arith)

  pub three-laid : (mid : ℕ) → lo + 2 * length A ≡ mid → heads (sets (sets (sets (sets w end (words C)) mid (words B)) lo (words A)) again (words A)) ≡ laid (laid (laid w b k₁ n₁ A B) b₁ k₂ n₂ A []) b₂ k₃ n₃ C []
  three-laid mid e = ap heads (laid_in_order mid e) ∙ sym laid-three
