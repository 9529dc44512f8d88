use Rattle.std.proofs.Common.{refl, rules, arith}
use Rattle.wording.proofs.Laws.{put-cut}
use Rattle.wording.proofs.Text.put.Goals as goal

pub returns : goal.returns
returns c = let e = c.copy_from_slice.ensures.after in
    record {
      same = refl;
      wrote = record { text = put-cut _ c.args.text.now _ _ c.min-n.result _ (search rules) c.min-n.ensures (omega arith) (grind arith); next = omega arith };
    }
