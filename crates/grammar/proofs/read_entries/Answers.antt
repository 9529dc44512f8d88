use Rattle.std.proofs.Common.{sym, arith, ◌≡◌, ◌∙◌, ◌+◌, Some, None}
use Rattle.std.proofs.lemmas.Result.{err_from_is_err_and}
use Rattle.grammar.specs.declared.Declared.TheVariants.{Named, Expected}
use Rattle.grammar.specs.Grammar.{entries}
use Rattle.grammar.proofs.Steps.{misspelt, not_entry, named, expected, entry-stop, entry_more, ends-within, ends-beyond}
use Rattle.grammar.proofs.read_entries.Goals as goal

pub returns-in_err-t : goal.returns-in_err-t
returns-in_err-t c =
    let a = c.args in
    let i = c.loop-t in
    let p = err_from_is_err_and c.from_residual.result c.from_residual.ensures.1 in
    let n : c.line_at.result ≡ None = grind arith in
    let d : c.in_err-t.field-0.0 ≡ i.next + 1 = grind arith in
    rw (p.1, p.2, d) (misspelt a.s.now (entries i.kind_before i.name_before) i.next (sym c.line_at.ensures ∙ n) ∙ i.invariant.rest)

pub returns-in_err-kind : goal.returns-in_err-kind
returns-in_err-kind c =
    let a = c.args in
    let i = c.loop-t in
    let p = err_from_is_err_and c.from_residual-in_err-kind.result c.from_residual-in_err-kind.ensures.1 in
    let l : c.line_at.result ≡ Some c.in_ok-t.t = grind arith in
    let n : c.declared_by.result ≡ None = grind arith in
    let d : c.in_err-kind.field-0.0 ≡ i.next + 1 = grind arith in
    rw (p.1, p.2, d) (not_entry a.s.now i.kind_before i.name_before i.next c.in_ok-t.t (sym c.line_at.ensures ∙ l) (sym c.declared_by.ensures ∙ n) ∙ i.invariant.rest)

-- ---- an entry, and then the others
pub returns-in_err-next-in-Named : goal.returns-in_err-next-in-Named
returns-in_err-next-in-Named c =
    let a = c.args in
    let i = c.loop-t in
    let p = err_from_is_err_and c.from_residual-in_err-next-in-Named.result c.from_residual-in_err-next-in-Named.ensures.1 in
    let l : c.line_at.result ≡ Some c.in_ok-t.t = grind arith in
    let n : c.declared_by.result ≡ Some (Named c.in-Named.kind c.in-Named.name) = grind arith in
    let h = named a.s.now i.kind_before i.name_before i.next c.in_ok-t.t (sym c.line_at.ensures ∙ l) (sym c.declared_by.ensures ∙ n) in
    rw (p.1, p.2) (entry-stop a.s.now _ _ _ i.next h c.in_err-next-in-Named.ensures ∙ i.invariant.rest)

pub loop-t-smaller : goal.loop-t-smaller
loop-t-smaller c =
    let a = c.args in
    let i = c.loop-t in
    let w = ends-within a.s.now _ i.next i.invariant.within c.in_ok-next-in-Named.ensures in
    let b = ends-beyond a.s.now _ i.next c.in_ok-next-in-Named.ensures in
    omega arith

pub loop-t-preserved : goal.loop-t-preserved
loop-t-preserved c =
    let a = c.args in
    let i = c.loop-t in
    let l : c.line_at.result ≡ Some c.in_ok-t.t = grind arith in
    let n : c.declared_by.result ≡ Some (Named c.in-Named.kind c.in-Named.name) = grind arith in
    let h = named a.s.now i.kind_before i.name_before i.next c.in_ok-t.t (sym c.line_at.ensures ∙ l) (sym c.declared_by.ensures ∙ n) in
    record {
      within = (ends-within a.s.now _ i.next i.invariant.within c.in_ok-next-in-Named.ensures).1;
      rest = entry_more a.s.now _ _ _ i.next h c.in_ok-next-in-Named.ensures ∙ i.invariant.rest;
    }

-- ---- the expected type, and then the goal
pub returns-in_err-goal-in-Expected : goal.returns-in_err-goal-in-Expected
returns-in_err-goal-in-Expected c =
    let a = c.args in
    let i = c.loop-t in
    let p = err_from_is_err_and c.from_residual-in_err-goal-in-Expected.result c.from_residual-in_err-goal-in-Expected.ensures.1 in
    let l : c.line_at.result ≡ Some c.in_ok-t.t = grind arith in
    let n : c.declared_by.result ≡ Some Expected = grind arith in
    let h = expected a.s.now i.kind_before i.name_before i.next c.in_ok-t.t (sym c.line_at.ensures ∙ l) (sym c.declared_by.ensures ∙ n) in
    rw (p.1, p.2) (entry-stop a.s.now _ _ _ i.next h c.in_err-goal-in-Expected.ensures ∙ i.invariant.rest)

pub read_part-requires : goal.read_part-requires
read_part-requires c = (ends-within c.args.s.now _ c.loop-t.next c.loop-t.invariant.within c.in_ok-goal-in-Expected.ensures).1

pub returns-in-Expected : goal.returns-in-Expected
returns-in-Expected c =
    let a = c.args in
    let i = c.loop-t in
    let l : c.line_at.result ≡ Some c.in_ok-t.t = grind arith in
    let n : c.declared_by.result ≡ Some Expected = grind arith in
    let h = expected a.s.now i.kind_before i.name_before i.next c.in_ok-t.t (sym c.line_at.ensures ∙ l) (sym c.declared_by.ensures ∙ n) in
    c.read_part.ensures ∙ entry_more a.s.now _ _ _ i.next h c.in_ok-goal-in-Expected.ensures ∙ i.invariant.rest
