use Rattle.std.proofs.Common.{map, ◌∙◌, refl, rules, tests}
use Rattle.std.proofs.lemmas.Iterator.Search.{any_from_yields_List}
use Rattle.std.proofs.lemmas.Iterator.Consumers.{YieldsList-from_first}
use Rattle.sheet.specs.declared.Entry.{Entry}
use Rattle.sheet.specs.Plan.{declarations}
use Rattle.sheet.specs.Rows.{rows, quantified, entry_of}
use Rattle.sheet.specs.Entries.{entries_left}
use Rattle.sheet.proofs.Binding.{any-entry}
use Rattle.sheet.proofs.any_quantified.Goals as goal

pub returns : goal.returns
returns c =
    let ls = rows c.args.s.now in
    any_from_yields_List (λ (e : Entry). quantified ls e.head e.line) c.any.new.self _ c.any.result c.any.ensures.ran (YieldsList-from_first (λ (e : Entry). e) entries_left (map entry_of (declarations ls 0 0)) refl) (λ x b q k. search (rules, tests)) ∙ any-entry ls (declarations ls 0 0)
