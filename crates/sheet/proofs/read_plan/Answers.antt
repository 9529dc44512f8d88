use Rattle.std.proofs.Common.{◌≡◌, ◌*◌, length, sym, ◌∙◌, true≢false, arith}
use Rattle.grammar.proofs.Lines.{few-lines}
use Rattle.sheet.specs.Plan.{triples}
use Rattle.sheet.proofs.Lines.{length-triples}
use Rattle.sheet.proofs.RowLaws.{cleared}
use Rattle.sheet.proofs.Binding.{plan-bindable, plan-words}
use Rattle.sheet.proofs.Fitting.{top-plan, unfit, is-plan}
use Rattle.sheet.proofs.read_plan.Goals as goal
use Rattle.sheet.proofs.read_plan.Goals.{else-read_lines-via-then-read_lines+else-top_ok, else-read_lines-via-else-read_lines}

pub read_lines-requires : goal.read_lines-requires
read_lines-requires c =
    let s = c.args.s.now in
    let d = c.args.d.now in
    let n = length-triples s in
    let f = few-lines (length s) c.requires.1 in
    let r = c.requires.0 in
    let q : length d ≡ 4 * length (triples s) = omega arith in
    (c.clear_links.auto.d ∙ q, omega (arith, f), rw c.clear_links.ensures (cleared d), c.table_words-table.ensures)

pub bind_entries-requires : goal.bind_entries-requires
bind_entries-requires c =
    let s = c.args.s.now in
    let r = c.read_lines.ensures in
    let l = c.link_entries.ensures in
    plan-bindable s (is-plan _ (sym (top-plan s c.requires.1 r.0 c.top_ok.ensures) ∙ c.if-top_ok.true)) r.3 r.0 l.0 l.2 l.1

pub returns-then-top_ok : goal.returns-then-top_ok
returns-then-top_ok c =
    let s = c.args.s.now in
    let r = c.read_lines.ensures in
    let l = c.link_entries.ensures in
    let e = c.bind_entries.ensures in
    let p = sym (top-plan s c.requires.1 r.0 c.top_ok.ensures) ∙ c.if-top_ok.true in
    (sym p, plan-words s (is-plan _ p) r.3 r.0 l.0 l.2 e.2, λ _. (e.0 ∙ l.0 ∙ r.0, e.1))

pub returns : goal.returns
returns c =
    let s = c.args.s.now in
    let r = c.read_lines.ensures in (
      elim c.else-read_lines.branch [
        | else-read_lines-via-then-read_lines+else-top_ok w ↦ sym w.if-top_ok.false ∙ top-plan s c.requires.1 r.0 w.top_ok.ensures
        | else-read_lines-via-else-read_lines w ↦ sym (unfit s c.requires.1 (sym r.4 ∙ w.if-read_lines.false))
      ],
      r.3,
      λ q. absurd (true≢false (sym q)),
    )
