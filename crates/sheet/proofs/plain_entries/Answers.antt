use Rattle.std.proofs.Common.{map, ◌∙◌, refl, rules, tests}
use Rattle.std.proofs.lemmas.Iterator.Search.{all_from_yields_List}
use Rattle.std.proofs.lemmas.Iterator.Consumers.{YieldsList-from_first}
use Rattle.sheet.specs.declared.Entry.{Entry}
use Rattle.sheet.specs.Plan.{declarations}
use Rattle.sheet.specs.Rows.{rows, entry_of}
use Rattle.sheet.specs.Entries.{entries_left}
use Rattle.sheet.proofs.Marks.{all-entries, PlainBy}
use Rattle.sheet.proofs.plain_entries.Goals as goal

pub returns : goal.returns
returns c =
    let ls = rows c.args.s.now in
    let es = declarations ls 0 0 in
    let all = all_from_yields_List (PlainBy c.args.used.now ls) c.all.new.self _ c.all.result c.all.ensures.ran (YieldsList-from_first (λ (e : Entry). e) entries_left (map entry_of es) refl) (λ x b q k. search (rules, tests)) in
    λ term tells. all ∙ all-entries term ls c.args.used.now tells es
