use Rattle.std.proofs.Common.{◌≡◌, ◌+◌, ◌&&◌, take, drop, nat_eq, refl, ◌∙◌}
use lib.Pointwise.{pointwise}
use Rattle.sizes.specs.Sizes.{book_size, usual_report}
use Rattle.judgment.specs.Result.{numbers}
use Rattle.replay.specs.Recorded.{book_from, report_from, seven_from}
use Rattle.replay.proofs.Replaying.{and-yes, and-no, wanted_if}
use Rattle.replay.proofs.room.Room.is_wanted.Goals.{Joined-eq-2, then-eq, else-eq, then-eq-2, else-eq-2}
use Rattle.replay.proofs.room.Room.is_wanted.Goals as goal

-- the first three tests
three : (c : Joined-eq-2) → let s = c.args.self.now in
    c.if-eq-2.value ≡ ((pointwise nat_eq s.board (take book_from s.want) && pointwise nat_eq s.book (take (book_size + 8) (drop book_from s.want)))
    && pointwise nat_eq s.report (take (usual_report + 4) (drop report_from s.want)))
three c =
    let s = c.args.self.now in
    let e2 : c.if-eq.value ≡ (c.eq.result && pointwise nat_eq s.book (take (book_size + 8) (drop book_from s.want))) = elim c.if-eq.branch [
      | then-eq v ↦ and-yes _ _ _ v.if-eq.true (v.value-is ∙ v.eq-then-eq.ensures)
      | else-eq v ↦ and-no _ _ _ v.if-eq.false v.value-is
    ] in
    let e3 : c.if-eq-2.value ≡ (c.if-eq.value && pointwise nat_eq s.report (take (usual_report + 4) (drop report_from s.want))) = elim c.if-eq-2.branch [
      | then-eq-2 v ↦ and-yes _ _ _ v.if-eq-2.true (v.value-is ∙ v.eq-then-eq-2.ensures)
      | else-eq-2 v ↦ and-no _ _ _ v.if-eq-2.false v.value-is
    ] in
    rw (e3, e2, c.eq.ensures)

pub returns-then-eq-3 : goal.returns-then-eq-3
returns-then-eq-3 c =
    wanted_if _ _ _ _ _ _ (and-yes _ _ _ c.if-eq-3.true c.eq-then-eq-3.ensures ∙ rw (three (goal.at.returns-then-eq-3 c).Joined-eq-2, c.seven_of.ensures))

pub returns-else-eq-3 : goal.returns-else-eq-3
returns-else-eq-3 c =
    let seven = pointwise nat_eq (numbers c.args.a) (take 7 (drop seven_from c.args.self.now.want)) in
    wanted_if _ _ _ _ _ _ (and-no _ _ seven c.if-eq-3.false refl ∙ rw (three (goal.at.returns-else-eq-3 c).Joined-eq-2))
