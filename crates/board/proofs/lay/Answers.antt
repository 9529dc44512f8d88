use Rattle.std.proofs.Common.{◌+◌, ◌*◌, ◌-◌, [], ◌∷◌, refl, arith}
use Rattle.sizes.specs.Sizes.{board_stride}
use Rattle.nodes.proofs.Laws.{put-sets}
use Rattle.board.proofs.lay.Goals as goal

pub returns : goal.returns
returns c = let a = c.args in
    let at = board_stride * a.b.entries in
    let room = c.requires.room in
    let few = c.requires.few in
    (put-sets a.board.now (a.kind ∷ a.number ∷ a.ln ∷ a.rn ∷ []) c.copy_from_slice.new.self at (at + 4 - at) (omega arith) (omega arith) c.copy_from_slice.ensures.after, refl)
