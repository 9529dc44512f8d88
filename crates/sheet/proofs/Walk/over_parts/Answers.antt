use Rattle.std.proofs.Common.{replicate, le_trans}
use Rattle.kinds.specs.Kinds.{a_type, a_term}
use Rattle.grammar.specs.Grammar.{part}
use Rattle.sheet.proofs.Walks.{held-on, over-from, parts-walked}
use Rattle.sheet.proofs.Walk.over_parts.Goals as goal

pub returns : goal.returns
returns c = λ ls h.
    (let a = c.args in
    let from = a.from in
    let types = c.over_sort-types in
    let y = types.ensures ls h in
    let i = over-from ls from.line from.fits (replicate a.row.types (part a_type)) y in
    let t = c.over_sort-terms.ensures ls (held-on h i) in
    let j = over-from ls types.result.line types.result.fits (replicate a.row.terms (part a_term)) t in
    parts-walked ls from.line from.fits a.row a.n y t (c.over_each.ensures ls (held-on h (le_trans i j))))
