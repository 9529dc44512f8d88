-- The head of an entry, word by word. Assumes nothing.
use native.Mathlib.Numerals.{towards_suc}
use Rattle.std.proofs.Common.{◌≡◌, List, ℕ, ◌+◌, ◌*◌, set}
use Rattle.sizes.specs.Sizes.{board_stride}
use Rattle.board.specs.declared.Board.{Board}
use Rattle.board.specs.Board.{headed}

-- four words, one after the other, are what `lay` leaves
pub headed-by : (w : List ℕ) (b : Board) (k n ln rn : ℕ) → (let i = board_stride * b.entries in set (set (set (set w i k) (i + 1) n) (i + 2) ln) (i + 3) rn ≡ headed w b k n ln rn)
headed-by w b k n ln rn = simp towards_suc
