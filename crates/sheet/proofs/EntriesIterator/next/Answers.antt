use Rattle.std.proofs.Common.{length, ap, refl, arith, rules}
use Rattle.sheet.specs.Rows.{rows}
use Rattle.sheet.proofs.Declarations.{entry-found, entry_rises, entries-one}
use Rattle.sheet.proofs.EntriesIterator.next.Goals as goal

pub invariant_of-self : goal.invariant_of-self
invariant_of-self c =
    let it = c.args.self.now in
    let r = entry_rises (rows it.sheet.now) it.at (entry-found (rows it.sheet.now) it.at refl c.in_ok-entry.ensures) in
    record { ends = λ i h l. it.ends i (omega arith) l }

pub returns-clause-steps : goal.returns-clause-steps
returns-clause-steps c =
    let it = c.args.self.now in
    entries-one (rows it.sheet.now) it.at (entry-found (rows it.sheet.now) it.at refl c.in_ok-entry.ensures)

pub returns-clause-goes : goal.returns-clause-goes
returns-clause-goes c =
    let it = c.args.self.now in
    let e = ap length (entries-one (rows it.sheet.now) it.at (entry-found (rows it.sheet.now) it.at refl c.in_ok-entry.ensures)) in
    record { on = λ f. (search rules, search rules, omega arith); keeps = search rules; rests = λ f. search rules }
