use Rattle.replay.specs.Reading.{record_in}
use Rattle.replay.proofs.Replaying.{as-wanted, wanted-as}
use Rattle.replay.proofs.room.Room.replay.Goals as goal

pub returns-then-is_wanted : goal.returns-then-is_wanted
returns-then-is_wanted c =
    let e = c.call-answer.ensures in
    let want = c.is_wanted.ensures.0 c.if-is_wanted.true in
    record {
      which = record_in c.read_record.new.sheet c.read_record.new.want c.in-Some.plan;
      says = c.in-Some.ensures.read;
      judged = record { holds = as-wanted _ _ _ _ _ _ c.soil.ensures.buffers e.answer e.buffers want };
    }

pub returns-else-is_wanted : goal.returns-else-is_wanted
returns-else-is_wanted c =
    let e = c.call-answer.ensures in
    record {
      which = record_in c.read_record.new.sheet c.read_record.new.want c.in-Some.plan;
      says = c.in-Some.ensures.read;
      judged = λ h. absurd (let t = c.is_wanted.ensures.1 (wanted-as _ _ _ _ _ _ c.soil.ensures.buffers e.answer e.buffers h.holds) in let f = c.if-is_wanted.false in cc);
    }
