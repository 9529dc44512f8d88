use Rattle.std.proofs.Common.{ℕ, ◌≤◌, length, refl, ap, arith}
use Rattle.replay.proofs.LinesOf.{lf-found, lf-in, lf-none, next-feed, next-none}
use Rattle.replay.proofs.lines.Lines.first.Goals.{in-Some, in-None}
use Rattle.replay.proofs.lines.Lines.first.Goals as goal

pub returns-clause-line : goal.returns-clause-line
returns-clause-line c =
    let s = c.args.self.now in
    let u = s.unread in
    let h : u.end ≤ length s.text = omega arith in
    elim c.match-found.branch [
      | in-Some w ↦ record {
        some = omega arith;
        first = refl;
        ends = rw w.stop-is (lf-found s.text u.at u.end s.order h _ w.in-Some.ensures);
        rest = rw w.stop-is (ap (λ (k : ℕ). record { at = k; end = u.end; more = u.more }) (next-feed _ _ (lf-in s.text u.at u.end s.order h _ w.in-Some.ensures)));
      }
      | in-None w ↦ record {
        some = omega arith;
        first = refl;
        ends = rw w.stop-is (lf-none s.text u.at u.end s.order h w.in-None.ensures);
        rest = rw w.stop-is (ap (λ (k : ℕ). record { at = k; end = u.end; more = u.more }) (next-none u.end));
      }
    ]
