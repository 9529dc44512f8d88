use Rattle.std.proofs.Common.{◌≤◌, length, refl, ap, ◌∙◌, arith}
use Rattle.replay.specs.declared.lines.Lines.{Lines}
use Rattle.replay.specs.Lines.{here, anew, failed}
use Rattle.replay.proofs.LinesOf.{lf-none, told-none}
use Rattle.replay.proofs.lines.Lines.next.Goals.{then-more+then-is_none+in_ok-refill, else-more}
use Rattle.replay.proofs.lines.Lines.next.Goals as goal

pub returns-in_err-refill : goal.returns-in_err-refill
returns-in_err-refill c =
    let s = c.args.self.now in
    let u = s.unread in
    let h : u.end ≤ length s.text = omega arith in
    let none = told-none c.find_lf.result c.is_none.result c.is_none.ensures c.if-is_none.true in
    failed c.if-more.true (lf-none s.text u.at u.end s.order h (none ∙ c.find_lf.ensures)).none_before c.from_residual.ensures.0

pub returns : goal.returns
returns c =
    let s = c.args.self.now in
    let u = s.unread in
    let h : u.end ≤ length s.text = omega arith in
    elim c.if-more.branch [
      | then-more+then-is_none+in_ok-refill w ↦
          let none = told-none w.find_lf.result w.is_none.result w.is_none.ensures w.if-is_none.true in
          anew c.first.result c.if-more.self.unread refl w.if-more.true (lf-none s.text u.at u.end s.order h (none ∙ w.find_lf.ensures)).none_before (rw (c.first.ensures.text, w.self-is) w.in_ok-refill.ensures) (rw c.first.ensures.text c.first.ensures.line)
      | else-more w ↦ here c.first.result refl (c.first.ensures.text ∙ ap (λ (x : Lines). x.text) w.self-is) (rw w.self-is at c.first.ensures.line)
    ]
