-- Every word of the four buffers that Inf is lent, by the kind of the term's first line. Assumes nothing: these are
-- definitions.
use Rattle.sheet.specs.declared.Extent.{Extent}
use Rattle.std.specs.Prelude.{cond, List, ℕ, ◌+◌, ◌-◌, eqb, get_or, take, drop, Option, Some, None}
use Rattle.std.proofs.lemmas.List.Edits.{sets}
use Rattle.nodes.specs.Nodes.{Ty, words}
use Rattle.spelling.specs.declared.Triple.{Triple}
use Rattle.sheet.specs.Plan.{no_triple, nodes_of, part_line, find_entry}
use Rattle.sheet.specs.Rows.{rows}
use Rattle.judgment.specs.Types.{arrow, unknown}
use Rattle.judgment.specs.Board.{or_else, find_var}
use Rattle.board.specs.Board.{entries_of}
use Rattle.operations.specs.declared.Run.{Run}
use Rattle.constructors.specs.Opening.{opened_of}
use Rattle.inference.specs.Inference.{type_on}
use Rattle.applying.specs.Applying.{entry_in, found_out}
use Rattle.arms.specs.Rooms.{room, case_room}
use Rattle.inferring.specs.Inferring.{kind_at}

-- two buffers for types, the words of the frames and of the bindings
pub record Scratch : Type 0 where
  pub left : List ℕ
  pub right : List ℕ
  pub frames : List ℕ
  pub bindings : List ℕ

abbrev pub scratch : List ℕ → List ℕ → List ℕ → List ℕ → Scratch
scratch l r w v = record { left = l; right = r; frames = w; bindings = v }

-- only the first buffer is written to
abbrev pub with_left : Scratch → List ℕ → Scratch
with_left x l = scratch l x.right x.frames x.bindings

-- a Var x: its type is copied, where it has one
abbrev pub variable_out : List ℕ → Run → List ℕ → ℕ → List ℕ → List ℕ
variable_out b c s x l = found_out l (or_else (entry_in 2 x s) (or_else (find_var x (entries_of (rows s) b c.counters.board.entries)) (entry_in 1 x s)))

-- a Lambda: the arrow from its type, whose lines end where its body starts, to a fresh unknown
abbrev pub lambda_out : Run → List ℕ → ℕ → List ℕ → List ℕ
lambda_out c s at l = sets l 0 (words (arrow (type_on s (at + 1) (part_line (rows s) (at + 1) 1 - (at + 1))) (unknown c.counters.fresh)))

-- a Constructor: its type opened, where the sheet has one
abbrev pub constructor_out : Run → List Triple → List ℕ → Option Extent → List ℕ
constructor_out c ls l (Some e) = sets l 0 (words (opened_of (nodes_of (take e.count (drop e.line ls))) c.counters.fresh))
constructor_out c ls l None = l

-- a Case of n arms, the first at `line`; the taken type is t
abbrev pub case_scratch : Run → List Triple → Ty → ℕ → ℕ → Scratch → Scratch
case_scratch c ls t n line x =
    let o = case_room ls t n line (room c x.frames x.bindings x.left x.right) in
    scratch o.left o.right o.frames o.bindings

-- the term at line `at`, if its first line is of kind k; terms of other kinds than these write to none
abbrev pub kind_scratch : ℕ → List ℕ → Run → List ℕ → ℕ → Ty → Scratch → Scratch
kind_scratch k b c s at t x =
    let h = get_or (rows s) at no_triple in
    cond (eqb k 21) (with_left x (variable_out b c s h.value x.left))
    (cond (eqb k 23) (with_left x (lambda_out c s at x.left))
    (cond (eqb k 26) (with_left x (constructor_out c (rows s) x.left (find_entry 1 h.value (rows s))))
    (cond (eqb k 27) (case_scratch c (rows s) t h.count (part_line (rows s) (at + 1) 1) x) x)))

-- by the kind that it has
unfoldable pub infer_scratch : List ℕ → Run → List ℕ → ℕ → Ty → Scratch → Scratch
infer_scratch b c s at t x = kind_scratch (kind_at s at) b c s at t x
