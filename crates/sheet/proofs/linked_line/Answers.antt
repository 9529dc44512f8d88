use Rattle.std.proofs.Common.{◌≡◌, ℕ, ◌+◌, ◌/◌, ◌-◌, length, ap, ◌∙◌, arith}
use Rattle.sheet.specs.Plan.{named}
use Rattle.sheet.specs.Rows.{first_at, next_at, linked_from, linked, some_line}
use Rattle.sheet.proofs.Declarations.{seen}
use Rattle.sheet.proofs.Links.{linked-none, linked-zero, linked-past, linked-hit, linked-turn, linked-over, a_line}
use Rattle.sheet.proofs.linked_line.Goals as goal
use Rattle.sheet.proofs.linked_line.Goals.{then-at-eq0-via-then-at-eq0, then-at-eq0-via-else-at-eq0+then-lines-at}

pub returns-then-lines-eq0 : goal.returns-then-lines-eq0
returns-then-lines-eq0 c = ap some_line (linked-none c.args.s.now c.args.kind c.args.name c.if-lines-eq0.true)

pub loop-init : goal.loop-init
unfolding linked
loop-init c =
    let a = c.args in
    let n = length a.s.now / 4 in
    let k : n - 0 ≡ n = omega arith in
    rw k (ap (λ (i : ℕ). linked_from n a.s.now a.kind a.name (first_at a.s.now i)) c.slot_of.ensures.0)

pub returns-then-at-eq0 : goal.returns-then-at-eq0
returns-then-at-eq0 c =
    let a = c.args in
    let L = c.loop in
    let left = length a.s.now / 4 - L.counter in
    ap some_line (elim c.then-at-eq0.branch [
      | then-at-eq0-via-then-at-eq0 w ↦ linked-zero a.s.now a.kind a.name left L.at w.if-at-eq0.true ∙ L.invariant
      | then-at-eq0-via-else-at-eq0+then-lines-at w ↦ linked-past a.s.now a.kind a.name left L.at w.if-lines-at.true ∙ L.invariant
    ])

pub returns-then-is_named : goal.returns-then-is_named
returns-then-is_named c =
    let a = c.args in
    let L = c.loop in
    let t = c.loop-test.true in
    let n = seen (named a.kind a.name) c.triple_at.ensures c.is_named.ensures c.if-is_named.true in
    a_line L.at c.if-at-eq0.false ∙ ap some_line (linked-hit a.s.now a.kind a.name (length a.s.now / 4 - L.counter) L.at (omega arith) c.if-at-eq0.false c.if-lines-at.false n ∙ L.invariant)

pub loop-preserved : goal.loop-preserved
loop-preserved c =
    let a = c.args in
    let L = c.loop in
    let t = c.loop-test.true in
    let lines = length a.s.now / 4 in
    let n = seen (named a.kind a.name) c.triple_at.ensures c.is_named.ensures c.if-is_named.false in
    let k : lines - (L.counter + 1) ≡ lines - L.counter - 1 = omega arith in
    ap (λ (i : ℕ). linked_from i a.s.now a.kind a.name (next_at a.s.now (L.at - 1))) k
    ∙ linked-turn a.s.now a.kind a.name (lines - L.counter) L.at (omega arith) c.if-at-eq0.false c.if-lines-at.false n
    ∙ L.invariant

pub returns : goal.returns
returns c =
    let a = c.args in
    let L = c.loop in
    let t = c.loop-test.false in
    ap some_line (linked-over a.s.now a.kind a.name (length a.s.now / 4 - L.counter) L.at (omega arith) ∙ L.invariant)
