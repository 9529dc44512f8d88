-- How long the words of board, book and report are. Assumes nothing.
use Prim.Native.Nat.{ℕ, ◌*◌}
use native.Mathlib.Omega.{arith}
use mathlib.Core.Path.{◌≡◌}
use mathlib.Core.List.{List, ◌++◌}
use lib.ListN.{length, replicate, length-append, length-replicate}
use lib.Seq.{length-take-le}
use Rattle.sizes.specs.Sizes.{most_numbers, board_size, book_size, report_stride}
use Rattle.nodes.specs.Nodes.{Ty, words}
use Rattle.judgment.specs.Solutions.{Solutions}
use Rattle.judgment.specs.Levels.{Levels}
use Rattle.judgment.specs.Result.{padded, threes_from, node_words, book_words, report_words, board_words}

length-padded : (n : ℕ) (ws : List ℕ) → length (padded n ws) ≡ n
unfolding padded
length-padded n ws = length-take-le n (ws ++ replicate n 0) (omega (arith, length-append ws (replicate n 0), length-replicate {A = ℕ} n 0))

pub length-book : (σ : Solutions) (v : Levels) (n : ℕ) → length (book_words σ v n) ≡ book_size
unfolding book_words
length-book σ v n = length-padded book_size (threes_from σ v n 0 most_numbers ++ node_words σ)

pub length-report : (w : ℕ) (t : Ty) → length (report_words w t) ≡ report_stride * w
unfolding report_words
length-report w t = length-padded (report_stride * w) (words t)

pub length-board : length board_words ≡ board_size
unfolding board_words
length-board = length-replicate {A = ℕ} board_size 0
