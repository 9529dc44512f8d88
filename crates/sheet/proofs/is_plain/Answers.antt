use Rattle.std.proofs.Common.{drop, sym, ap, ◌∙◌, true≢false}
use Rattle.sheet.specs.declared.Places.{Places}
use Rattle.sheet.specs.Plan.{plain_entries, declarations}
use Rattle.sheet.specs.Rows.{rows}
use Rattle.sheet.proofs.Marks.{lines_from, expected-is, term_is, mark-entries, mark-expected, mark-term, mark-all}
use Rattle.sheet.proofs.is_plain.Goals as goal
use Rattle.sheet.proofs.is_plain.Goals.{then-plain_lines-2, else-plain_lines-2}

pub returns-then-plain_lines : goal.returns-then-plain_lines
returns-then-plain_lines c =
    let ls = rows c.args.s.now in
    mark-all ls (sym (c.plain_lines.ensures ∙ lines_from ls 0 _ c.line_count-lines.ensures) ∙ c.if-plain_lines.true)

pub returns-then-plain_lines-3 : goal.returns-then-plain_lines-3
returns-then-plain_lines-3 c =
    let ls = rows c.args.s.now in
    let p = c.find_places-p in
    c.plain_catalogue.ensures
    ∙ ap (λ (w : Places). plain_entries (drop w.term ls) ls (declarations ls 0 0)) p.ensures
    ∙ elim c.if-plain_lines-2.branch [
      | then-plain_lines-2 w ↦
          mark-entries ls (expected-is ls p.result p.ensures w.if-plain_lines-2.true _ c.part_line.ensures c.plain_lines-2.ensures)
          (term_is ls p.result p.ensures (sym w.value-is ∙ c.if-plain_lines-3.true) _ c.line_count-lines.ensures w.plain_lines-then-plain_lines-2.ensures)
      | else-plain_lines-2 w ↦ absurd (true≢false (sym c.if-plain_lines-3.true ∙ w.value-is ∙ w.if-plain_lines-2.false))
    ]

pub returns-else-plain_lines-3 : goal.returns-else-plain_lines-3
returns-else-plain_lines-3 c =
    let ls = rows c.args.s.now in
    let p = c.find_places-p in
    c.if-plain_lines-3.false
    ∙ elim c.if-plain_lines-2.branch [
      | then-plain_lines-2 w ↦
          mark-term ls (expected-is ls p.result p.ensures w.if-plain_lines-2.true _ c.part_line.ensures c.plain_lines-2.ensures)
          (term_is ls p.result p.ensures (sym w.value-is ∙ c.if-plain_lines-3.false) _ c.line_count-lines.ensures w.plain_lines-then-plain_lines-2.ensures)
      | else-plain_lines-2 w ↦ mark-expected ls (expected-is ls p.result p.ensures w.if-plain_lines-2.false _ c.part_line.ensures c.plain_lines-2.ensures)
    ]
