use Rattle.std.proofs.Common.{◌-◌, ◌∙◌, refl, rules, tests}
use Rattle.std.proofs.lemmas.Iterator.{YieldsList-from_range}
use Rattle.std.proofs.lemmas.Iterator.Search.{all_from_yields_List}
use Rattle.sheet.specs.Rows.{rows}
use Rattle.sheet.proofs.Marks.{PlainLine, plain-range}
use Rattle.sheet.proofs.plain_lines.Goals as goal

pub returns : goal.returns
returns c =
    let a = c.args in
    let ls = rows a.s.now in
    all_from_yields_List (PlainLine ls) c.all.new.self _ c.all.result c.all.ensures.ran (YieldsList-from_range a.first a.end (a.end - a.first) refl refl) (λ x b q k. search (rules, tests)) ∙ plain-range ls (a.end - a.first) a.first
