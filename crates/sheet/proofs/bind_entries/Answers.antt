use Rattle.std.proofs.Common.{sym, ◌∙◌, arith}
use Rattle.sheet.specs.Plan.{declarations}
use Rattle.sheet.specs.Rows.{rows}
use Rattle.sheet.specs.Used.{table_length}
use Rattle.sheet.proofs.Marks.{zeros-read}
use Rattle.sheet.proofs.Binding.{bind-none, bind_done}
use Rattle.sheet.proofs.bind_entries.Goals as goal

pub bind_types-requires : goal.bind_types-requires
bind_types-requires c = (c.requires, λ x. (let z = zeros-read table_length x in omega arith))

pub returns-then-any_quantified : goal.returns-then-any_quantified
returns-then-any_quantified c = bind_done c.args.d.now c.requires c.bind_types.ensures.0

pub returns-else-any_quantified : goal.returns-else-any_quantified
returns-else-any_quantified c =
    let d = c.args.d.now in
    bind_done d c.requires (bind-none (rows d) d (declarations (rows d) 0 0) (sym c.any_quantified.ensures ∙ c.if-any_quantified.false))
