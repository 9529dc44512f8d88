-- Texts put one after another. Assumes nothing: these are definitions.
use Rattle.std.specs.Prelude.{◌≡◌, List, ◌++◌, ℕ, ◌≤◌, length}
use Rattle.wording.specs.declared.Text.{Text}
use Rattle.wording.specs.Texts.{Wrote, Left}
use Rattle.wording.specs.Spelt.{Piece, spelt, nodes_in}

-- s was put into a, which gives b over the same buffer
pub record Put (a : Text) (s : List ℕ) (b : Text) : Type 0 where
  pub same : b.out.ghost_name ≡ a.out.ghost_name
  pub wrote : Wrote a.out.now a.at s b.out.now b.at

-- pieces were put into a, which gives b over the same buffer, and of the words ws those of vs are left: what is left to
-- write is then what was left, whatever comes after them
pub record Reached (qs : List Piece) (a : Text) (ws : List ℕ) (b : Text) (vs : List ℕ) : Type 0 where
  pub same : b.out.ghost_name ≡ a.out.ghost_name
  pub left : (rest : List Piece) → Left a.out.now a.at (spelt (nodes_in ws) (qs ++ rest)) b.out.now b.at (spelt (nodes_in vs) rest)
  pub fewer : length vs ≤ length ws
