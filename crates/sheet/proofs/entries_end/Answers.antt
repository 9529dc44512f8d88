use Rattle.std.proofs.Common.{map, refl, sym, ◌∙◌, map-id, rules, tests}
use Rattle.std.proofs.lemmas.Iterator.{items_from_drains}
use Rattle.std.proofs.lemmas.Iterator.Consumers.{YieldsList-from_first}
use Rattle.sheet.specs.declared.Entry.{Entry}
use Rattle.sheet.specs.Plan.{declarations}
use Rattle.sheet.specs.Rows.{rows, entry_of}
use Rattle.sheet.specs.Entries.{entries_left}
use Rattle.sheet.proofs.Declarations.{last-end}
use Rattle.sheet.proofs.entries_end.Goals as goal

pub returns : goal.returns
returns c =
    let ls = rows c.args.s.now in
    let h = c.last.ensures.ran in
    let d = h.1 in
    let all = items_from_drains {v = λ (e : Entry). e} h.0 (d.1.0, d.1.1, λ _. (d.0, d.1.2)) (YieldsList-from_first (λ (e : Entry). e) entries_left (map entry_of (declarations ls 0 0)) refl) in
    last-end ls (sym (map-id h.0) ∙ all) h.2 c.map_or.result (λ e p. search (rules, tests)) c.map_or.ensures
