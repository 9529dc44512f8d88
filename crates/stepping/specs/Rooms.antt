-- Every word of the report and of the room that a step is lent, by what the taken entry is. Assumes nothing: these are
-- definitions.
use Rattle.std.specs.Prelude.{cond, List, ℕ, ◌+◌, ◌*◌, eqb}
use Rattle.std.proofs.lemmas.List.Edits.{sets}
use Rattle.nodes.specs.Nodes.{Ty, words, nodes_at}
use Rattle.sheet.specs.Rows.{rows}
use Rattle.judgment.specs.Types.{view}
use Rattle.judgment.specs.Terms.{lambda_of}
use Rattle.judgment.specs.Solutions.{write_out}
use Rattle.board.specs.declared.Top.{Top}
use Rattle.board.specs.Board.{term_at}
use Rattle.book.specs.Book.{sols}
use Rattle.operations.specs.declared.Run.{Run}
use Rattle.subtyping.specs.Subtyping.{subtype_report}
use Rattle.checking.specs.Checking.{checked_type, checked_out}
use Rattle.applying.specs.Applying.{app_report}
use Rattle.inferring.specs.Rooms.{Scratch, scratch, with_left, infer_scratch}

-- the report, the room for the taken type, and what Inf and Chk are lent beside it
pub record Room : Type 0 where
  pub report : List ℕ
  pub type : List ℕ
  pub scratch : Scratch

abbrev pub room : List ℕ → List ℕ → List ℕ → List ℕ → List ℕ → List ℕ → Room
room rep t l r w v = record { report = rep; type = t; scratch = scratch l r w v }

abbrev pub with_report : Room → List ℕ → Room
with_report x rep = record { report = rep; type = x.type; scratch = x.scratch }

-- the entry o was taken off the board b; k is the book, and m the nodes that are written out at most
module _ (m : ℕ) (s b k : List ℕ) (c : Run) (o : Top) where
  abbrev left_type : Ty
  left_type = nodes_at b o.at o.left

  abbrev right_type : Ty
  right_type = nodes_at b (o.at + 2 * o.left) o.right

  abbrev pub sub_room : Room → Room
  sub_room x = with_report x (subtype_report x.report c (write_out (sols k) left_type) (write_out (sols k) right_type) m)

  abbrev pub app_room : Room → Room
  app_room x = with_report x (app_report x.report c (write_out (sols k) left_type) (write_out (sols k) right_type) m)

  -- the taken type is copied to the front
  abbrev pub inf_room : Room → Room
  inf_room x = record { report = x.report; type = sets x.type 0 (words left_type); scratch = infer_scratch b c s o.number left_type x.scratch }

  abbrev pub chk_room : Room → Room
  chk_room x =
      let f = lambda_of (term_at (rows s) o.number) in
      record {
        report = x.report;
        type = checked_type x.type c left_type f (view left_type);
        scratch = with_left x.scratch (checked_out x.scratch.left c left_type f (view left_type));
      }

  -- a TVar or a Var leaves it
  unfoldable pub judged_room : Room → Room
  judged_room x =
      cond (eqb o.kind 3) (sub_room x)
      (cond (eqb o.kind 4) (inf_room x)
      (cond (eqb o.kind 5) (chk_room x)
      (cond (eqb o.kind 6) (app_room x) x)))
