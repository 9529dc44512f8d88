-- What opening the quantifiers at the front of a constructor's type leaves. Assumes nothing: these are definitions.
use Rattle.std.specs.Prelude.{◌≡◌, true, cond, List, [], ◌∷◌, ℕ, zero, suc, ◌+◌, ◌-◌, ◌≤◌, eqb, length, get_or, take, drop}
use Rattle.sizes.specs.Sizes.{most_nodes, most_numbers}
use Rattle.nodes.specs.Nodes.{Node, node, Ty}
use Rattle.nodes.specs.Lists.{All}
use Rattle.spelling.specs.declared.Triple.{Triple}
use Rattle.sheet.specs.Plan.{no_triple, line_node, Narrow}
use Rattle.sheet.specs.Rows.{rows, binder_at}
use Rattle.judgment.specs.Types.{Renaming, rename, front_names, after_front}
use Rattle.judgment.specs.Board.{Rule}
use Rattle.judgment.specs.Rules.{open_names, instantiate_constructor}
use Rattle.judgment.specs.Result.{Way}
use Rattle.board.specs.Board.{Stacked}
use Rattle.operations.specs.declared.Run.{Run}
use Rattle.operations.specs.State.{came_to, perform_c, WellFormed, going, fresh_run, push_run, push_words}
use Rattle.constructors.specs.declared.Opened.{Opened}

-- each name with its unknown: the numbers follow each other
unfoldable pub pairs : List ℕ → ℕ → Renaming → Renaming
pairs [] a m = m
pairs (x ∷ xs) a m = pairs xs (a + 1) ((x, a) ∷ m)

-- ---- n unknowns, each with its TVar
unfoldable pub named_run : ℕ → Run → Run
named_run zero c = c
named_run (suc n) c = named_run n (push_run (fresh_run c) 0)

unfoldable pub named_words : ℕ → List ℕ → Run → List ℕ
named_words zero b c = b
named_words (suc n) b c = named_words n (push_words b (fresh_run c) 17 c.counters.fresh [] []) (push_run (fresh_run c) 0)

-- Every word of the board after is fixed, those above its entries too. `outcome` takes any n names, and any rule that
-- goes on with them and their unknowns.
pub record Named (b : List ℕ) (c : Run) (n : ℕ) (b' : List ℕ) (r : Run) : Type 0 where
  pub run : r ≡ named_run n c
  pub words : b' ≡ named_words n b c
  pub stacked : Stacked b' r.counters.board
  pub numbers : c.counters.fresh ≤ most_numbers → r.counters.fresh ≤ most_numbers
  pub taken : r.counters.taken ≡ c.counters.taken
  pub alive : going r.halt ≡ true → going c.halt ≡ true
  pub made : going r.halt ≡ true → r.counters.fresh ≡ c.counters.fresh + n
  pub kept : (k : List ℕ) → WellFormed b k c → WellFormed b' k r
  pub outcome : (w : Way) (k rep : List ℕ) → WellFormed b k c → (f : Renaming → Rule) (m : Renaming) (xs : List ℕ) → length xs ≡ n → (ls : List Triple)
      → perform_c w ls (f (pairs xs c.counters.fresh m)) (came_to ls b' k rep r) ≡ perform_c w ls (open_names xs m f) (came_to ls b k rep c)

-- ---- a type, opened
pub record OpenAsk (b : List ℕ) (c : Run) (ls : List Triple) (first n : ℕ) : Type 0 where
  pub board : Stacked b c.counters.board
  pub numbers : c.counters.fresh ≤ most_numbers
  pub few : n ≤ most_nodes
  pub lines : first + n ≤ length ls
  pub narrow : All Narrow (take n (drop first ls))

-- t behind the quantifiers at its front, with the unknowns from a on for the names that they bind
abbrev pub opened_of : Ty → ℕ → Ty
opened_of t a = rename (pairs (front_names t) a []) (after_front t)

-- Every word of the board is fixed by `named`. A rule goes on with the opened type.
pub record Opens (b : List ℕ) (c : Run) (t : Ty) (b' : List ℕ) (r : Opened) : Type 0 where
  pub names : r.names ≡ length (front_names t)
  pub named : Named b c (length (front_names t)) b' r.run
  pub outcome : (w : Way) (k rep : List ℕ) → WellFormed b k c → (f : Ty → Rule) (ls : List Triple)
      → perform_c w ls (f (opened_of t c.counters.fresh)) (came_to ls b' k rep r.run) ≡ perform_c w ls (instantiate_constructor t f) (came_to ls b k rep c)

-- ---- its nodes, off the rows d of a sheet
-- the node of a line whose binder has the place i, with the unknowns from a on for the names bound
abbrev pub open_node : ℕ → ℕ → Triple → Node
open_node a i t = cond (eqb i 0) (line_node t) (node 17 (a + (i - 1)))

-- those of the n lines from line `at` on
unfoldable pub open_lines : List ℕ → ℕ → ℕ → ℕ → Ty
open_lines d a at zero = []
open_lines d a at (suc n) = open_node a (binder_at d at) (get_or (rows d) at no_triple) ∷ open_lines d a (at + 1) n
