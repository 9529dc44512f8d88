-- What the rules read of a sheet, and what they ask. Assumes nothing: these are definitions.
use Rattle.std.specs.Prelude.{◌≡◌, true, List, ℕ, ◌+◌, ◌*◌, ◌≤◌, ◌<◌, length, take, drop}
use Rattle.sizes.specs.Sizes.{most_entries, most_nodes, board_base, board_size}
use Rattle.nodes.specs.Nodes.{node, Ty}
use Rattle.nodes.specs.Lists.{All}
use Rattle.sheet.specs.Plan.{nodes_of, Narrow}
use Rattle.sheet.specs.Rows.{rows}
use Rattle.judgment.specs.Terms.{Lambda}
use Rattle.judgment.specs.Solutions.{solved_unknowns}
use Rattle.judgment.specs.Good.{Free}
use Rattle.board.specs.Board.{term_at}
use Rattle.book.specs.Book.{sols}
use Rattle.operations.specs.declared.Run.{Run}
use Rattle.operations.specs.State.{going}

-- the type on the n lines of a sheet from line `at` on
abbrev pub type_on : List ℕ → ℕ → ℕ → Ty
type_on s at n = nodes_of (take n (drop at (rows s)))

-- a Lambda by its name, the lines of its type, and the first line of its body
abbrev pub lambda_on : List ℕ → ℕ → ℕ → ℕ → ℕ → Lambda
lambda_on s name at n body = record { param = name; type = type_on s at n; body = term_at (rows s) body }

-- lines of a type that words can hold
pub record LinesAsk (s : List ℕ) (at n : ℕ) : Type 0 where
  pub within : at + n ≤ length (rows s)
  pub narrow : All Narrow (take n (drop at (rows s)))

-- where the types of the next entry stand on the board
abbrev pub next_at : Run → ℕ
next_at c = board_base + 2 * c.counters.board.nodes

-- three entries, for a Lambda whose type is on n lines and an Arrow whose parts have m and bn nodes, on a board that
-- has room for them
pub record HereAsk (b : List ℕ) (c : Run) (s : List ℕ) (at n m bn : ℕ) : Type 0 where
  pub room : board_size ≤ length b
  pub goes : going c.halt ≡ true
  pub few : c.counters.board.entries + 3 ≤ most_entries
  pub fits : c.counters.board.nodes + (2 * n + (m + bn)) ≤ most_nodes
  pub some : 0 < n
  pub lines : LinesAsk s at n

-- an unknown that was made and is not solved
abbrev pub Open : List ℕ → Run → ℕ → Type 0
Open k c x = (x < c.counters.fresh) × Free (solved_unknowns (sols k)) (node 17 x)
