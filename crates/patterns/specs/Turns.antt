-- What was done of a rule, and what is left of it. Assumes nothing: these are definitions.
use Rattle.std.specs.Prelude.{◌≡◌, List, ℕ, ◌≤◌}
use Rattle.sizes.specs.Sizes.{most_numbers}
use Rattle.spelling.specs.declared.Triple.{Triple}
use Rattle.judgment.specs.Board.{Rule}
use Rattle.judgment.specs.Result.{Way}
use Rattle.board.specs.Board.{Stacked}
use Rattle.operations.specs.declared.Run.{Run}
use Rattle.operations.specs.State.{came_to, perform_c, WellFormed}

-- what code that has no book asks of board and counters
pub record Ready (b : List ℕ) (c : Run) : Type 0 where
  pub board : Stacked b c.counters.board
  pub numbers : c.counters.fresh ≤ most_numbers

-- From p to q, whatever follows: performing q after is performing p before. It holds of a refused run whatever q is,
-- since a refused outcome stays.
pub record Turn {A : Type 0} (ls : List Triple) (b : List ℕ) (c : Run) (p : (A → Rule) → Rule) (b' : List ℕ) (r : Run) (q : (A → Rule) → Rule) : Type 0 where
  pub ready : Ready b' r
  pub taken : r.counters.taken ≡ c.counters.taken
  pub kept : (k : List ℕ) → WellFormed b k c → WellFormed b' k r
  pub outcome : (w : Way) (k rep : List ℕ) → WellFormed b k c → (f : A → Rule)
      → perform_c w ls (q f) (came_to ls b' k rep r) ≡ perform_c w ls (p f) (came_to ls b k rep c)
