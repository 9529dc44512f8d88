use Rattle.std.proofs.Common.{◌+◌, arith}
use Rattle.sizes.specs.Sizes.{book_size, usual_report}
use Rattle.replay.specs.Recorded.{book_from, wanted}
use Rattle.replay.specs.Replay.{dirty}
use Rattle.replay.proofs.Laws.{soiled}
use Rattle.replay.proofs.room.Room.soil.Goals as goal

pub returns-clause-buffers : goal.returns-clause-buffers
unfolding dirty
returns-clause-buffers c =
    rw (soiled _ _ book_from c.fill.ensures.after (omega arith), soiled _ _ (book_size + 8) c.fill-2.ensures.after (omega arith), soiled _ _ (usual_report + 4) c.fill-3.ensures.after (omega arith))

pub returns-clause-want : goal.returns-clause-want
returns-clause-want c = soiled _ _ wanted c.fill-4.ensures.after (omega arith)
