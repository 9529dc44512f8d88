-- A term's first line on the sheet, and where its parts stand. Assumes nothing.
use Rattle.std.proofs.Common.{◌≡◌, refl, sym, ap, ◌∙◌, subst, ◌≢◌, List, ◌∷◌, ℕ, zero, suc, ◌+◌, ◌-◌, ◌≤◌, ◌<◌, arith, length, take, drop, length-drop}
use Rattle.nodes.proofs.PartLaws.{length-take}
use Rattle.spelling.specs.declared.Triple.{Triple}
use Rattle.kinds.specs.declared.Sort.{Sort}
use Rattle.kinds.specs.Kinds.{a_type, a_term, parts_of, row_of, table}
use Rattle.kinds.specs.Kinds.{find as find_row}
use Rattle.sheet.specs.Plan.{part_line}
use Rattle.sheet.specs.Rows.{rows}
use Rattle.sheet.specs.Form.{IsPart}
use Rattle.sheet.proofs.Lines.{line-none}
use Rattle.sheet.proofs.TypeLines.{type-narrow, term-narrow}
use Rattle.judgment.specs.Terms.{Term, part}
use Rattle.judgment.proofs.WholeTerms.{lambda-parts}
use Rattle.board.specs.Board.{term_at}
use Rattle.board.proofs.Terms.{line_of, body_at, term-head, part_at, part-lines}
use Rattle.inference.specs.Inference.{LinesAsk}

-- parts lie within the sheet
pub part-within : (ls : List Triple) (at n : ℕ) → at ≤ length ls → (at ≤ part_line ls at n) × (part_line ls at n ≤ length ls)
unfolding part_line
part-within ls at n h =
    let a = length-take parts_of (drop at ls) n in
    let d = length-drop at ls in
    (omega arith, omega arith)

pub two-parts : (t : Triple) → t.kind ≡ 23 → parts_of t ≡ 2
unfolding parts_of row_of find_row table
two-parts t e = rw e

some-lines : (x : Sort) (n : ℕ) (l : List Triple) → IsPart x (take n l) → 0 < n
some-lines x zero l h = absurd h
some-lines x (suc n) l h = omega arith

module _ (s : List ℕ) (p : ℕ) (h : p < length (rows s)) where
  abbrev ls : List Triple
  ls = rows s

  -- the type of a Lambda's parameter
  pub first-lines : (line_of ls p).kind ≡ 23 → (part 0 (body_at ls p)).lines ≡ take (part_line ls (p + 1) 1 - (p + 1)) (drop (p + 1) ls)
  first-lines e =
      ap (λ (e : Term). e.lines) (part_at ls p 0 (let z = two-parts (line_of ls p) e in omega arith) ∙ ap (term_at ls) (sym (line-none ls (p + 1) 0 refl)))
      ∙ part-lines ls (p + 1)

  module _ (o : IsPart a_term (term_at ls p).lines) where
    pub head_ok : IsPart a_term (line_of ls p ∷ (body_at ls p).lines)
    head_ok = subst (λ (e : Term). IsPart a_term e.lines) (term-head ls p h) o

    -- a word holds its name or operator
    pub head-narrow : (line_of ls p).kind ≢ 22 → (line_of ls p).value < 4294967296
    head-narrow f = term-narrow (line_of ls p) head_ok.0 f

    type-ok : (line_of ls p).kind ≡ 23 → IsPart a_type (take (part_line ls (p + 1) 1 - (p + 1)) (drop (p + 1) ls))
    type-ok e = subst (IsPart a_type) (first-lines e) (lambda-parts (line_of ls p) (body_at ls p) head_ok e).0

    pub lines-some : (line_of ls p).kind ≡ 23 → 0 < part_line ls (p + 1) 1 - (p + 1)
    lines-some e = some-lines a_type (part_line ls (p + 1) 1 - (p + 1)) (drop (p + 1) ls) (type-ok e)

    pub lines-asks : (line_of ls p).kind ≡ 23 → LinesAsk s (p + 1) (part_line ls (p + 1) 1 - (p + 1))
    lines-asks e =
        let w = part-within ls (p + 1) 1 (omega arith) in
        let w0 = w.0 in
        let w1 = w.1 in
        record {
          within = omega arith;
          narrow = type-narrow (take (part_line ls (p + 1) 1 - (p + 1)) (drop (p + 1) ls)) (type-ok e);
        }
