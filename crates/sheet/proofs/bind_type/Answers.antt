use Rattle.sheet.proofs.Binding.{type-names, type-done}
use Rattle.sheet.proofs.bind_type.Goals as goal

pub returns-then-is_quantified : goal.returns-then-is_quantified
returns-then-is_quantified c =
    let p = c.requires in
    let t = c.args.entry.head in
    let q = c.is_quantified.ensures in
    let m = c.mark_front.ensures in
    (type-done p t q c.if-is_quantified.true m c.set_binders.ensures, type-names p t q c.if-is_quantified.true m)
