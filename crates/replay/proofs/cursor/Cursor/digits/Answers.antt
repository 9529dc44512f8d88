use Rattle.std.proofs.Common.{sym, ◌∙◌}
use Rattle.replay.proofs.Numbers.{at-digit, at_other, at_long, at-space, at-end}
use Rattle.replay.proofs.cursor.Cursor.digits.Goals.{then-not-is_ascii_digit-via-then-not-is_ascii_digit, then-not-is_ascii_digit-via-else-not-is_ascii_digit+then-magnitude-gt922337203685477580, in-Some+then-b-eq32, in_default}
use Rattle.replay.proofs.cursor.Cursor.digits.Goals as goal

pub returns-then-not-is_ascii_digit : goal.returns-then-not-is_ascii_digit
returns-then-not-is_ascii_digit c =
    let e = rw c.in-Some.ensures.cases.0 at c.loop-b.invariant in
    let v = sym c.is_ascii_digit.ensures.value in
    elim c.then-not-is_ascii_digit.branch [
      | then-not-is_ascii_digit-via-then-not-is_ascii_digit w ↦ e ∙ at_other _ _ _ _ _ c.if-b-eq32.false (v ∙ w.if-not-is_ascii_digit.true)
      | then-not-is_ascii_digit-via-else-not-is_ascii_digit+then-magnitude-gt922337203685477580 w ↦
          e ∙ at_long _ _ _ _ _ c.if-b-eq32.false (v ∙ w.if-not-is_ascii_digit.false) w.if-magnitude-gt922337203685477580.true
    ]

pub loop-b-preserved : goal.loop-b-preserved
loop-b-preserved c =
    let v = sym c.is_ascii_digit.ensures.value in
    rw c.in-Some.ensures.cases.0 at c.loop-b.invariant
    ∙ at-digit _ _ _ _ _ c.if-b-eq32.false (v ∙ c.if-not-is_ascii_digit.false) c.if-magnitude-gt922337203685477580.false

pub returns-then-some : goal.returns-then-some
returns-then-some c = elim c.match-split_first.branch [
  | in-Some+then-b-eq32 w ↦ rw w.self-is (rw c.if-some.true at (rw w.in-Some.ensures.cases.0 at c.loop-b.invariant ∙ at-space _ _ _ _ _ w.if-b-eq32.true))
  | in_default w ↦ rw w.self-is (rw c.if-some.true at (c.loop-b.invariant ∙ at-end _ _ _ _ (rw w.in_default.is at c.split_first.ensures.cases)))
]

pub returns-else-some : goal.returns-else-some
returns-else-some c = elim c.match-split_first.branch [
  | in-Some+then-b-eq32 w ↦ rw c.if-some.false at (rw w.in-Some.ensures.cases.0 at c.loop-b.invariant ∙ at-space _ _ _ _ _ w.if-b-eq32.true)
  | in_default w ↦ rw c.if-some.false at (c.loop-b.invariant ∙ at-end _ _ _ _ (rw w.in_default.is at c.split_first.ensures.cases))
]
