-- Terms: where they stand on the sheet, and their lines in prefix order. No rule hangs on where a term stands; the board's words tell it.
-- Assumes nothing.
use Rattle.std.specs.Prelude.{ℕ, zero, suc, ◌+◌, cond, List, [], ◌∷◌, eqb, length, Option, None, Some}
use Rattle.nodes.specs.Nodes.{Ty}
use Rattle.nodes.specs.Parts.{take_parts, drop_parts}
use Rattle.spelling.specs.declared.Triple.{Triple}
use Rattle.kinds.specs.Kinds.{parts_of}
use Rattle.sheet.specs.Plan.{nodes_of}
pub use Rattle.sheet.specs.Plan.{Term}

-- of lines that are parts, one after the other: what stands after the first n, and the part of number i
abbrev pub after_parts : ℕ → Term → Term
after_parts n e = record { line = e.line + length (take_parts parts_of e.lines n); lines = drop_parts parts_of e.lines n }

abbrev pub part : ℕ → Term → Term
part zero e = record { line = e.line; lines = take_parts parts_of e.lines 1 }
part (suc i) e = part i (after_parts 1 e)

-- a term that is a Lambda
pub record Lambda : Type 0 where
  pub param : ℕ
  pub type : Ty
  pub body : Term

abbrev pub lambda_by : List Triple → ℕ → Option Lambda
lambda_by [] next = None
lambda_by (t ∷ ls) next =
    let parts : Term = record { line = next; lines = ls } in
    cond (eqb t.kind 23) (Some (record { param = t.value; type = nodes_of (part 0 parts).lines; body = part 1 parts })) None

unfoldable pub lambda_of : Term → Option Lambda
lambda_of e = lambda_by e.lines (e.line + 1)

-- What the rules ask of a term.
pub data TermView : Type 0 where
  is_var : ℕ → TermView
  is_lit_int : TermView
  is_lambda : ℕ → Ty → Term → TermView
  is_apply : Term → Term → TermView
  is_type_lambda : ℕ → Term → TermView
  is_constructor : ℕ → TermView
  is_case : ℕ → Term → Term → TermView  -- count of arms, scrutinee, arms
  is_bin_op : ℕ → Term → Term → TermView
  is_if : Term → Term → Term → TermView
  is_intrinsic : ℕ → ℕ → Term → TermView  -- name, count of arguments, the first
  is_none : TermView

-- a term's lines, and the number of the line after its first
abbrev pub view_by : List Triple → ℕ → TermView
view_by [] next = is_none
view_by (t ∷ ls) next =
    let parts : Term = record { line = next; lines = ls } in
    cond (eqb t.kind 21) (is_var t.value)
    (cond (eqb t.kind 22) is_lit_int
    (cond (eqb t.kind 23) (is_lambda t.value (nodes_of (part 0 parts).lines) (part 1 parts))
    (cond (eqb t.kind 24) (is_apply (part 0 parts) (part 1 parts))
    (cond (eqb t.kind 25) (is_type_lambda t.value (part 0 parts))
    (cond (eqb t.kind 26) (is_constructor t.value)
    (cond (eqb t.kind 27) (is_case t.count (part 0 parts) (after_parts 1 parts))
    (cond (eqb t.kind 28) (is_bin_op t.value (part 0 parts) (part 1 parts))
    (cond (eqb t.kind 29) (is_if (part 0 parts) (part 1 parts) (part 2 parts))
    (cond (eqb t.kind 30) (is_intrinsic t.value t.count (part 0 parts)) is_none)))))))))

unfoldable pub term_view : Term → TermView
term_view e = view_by e.lines (e.line + 1)

pub data PatternView : Type 0 where
  is_wildcard is_pattern_var is_pattern_constructor : PatternView

abbrev pub pattern_view : ℕ → PatternView
pattern_view k = cond (eqb k 42) is_pattern_var (cond (eqb k 43) is_pattern_constructor is_wildcard)
