use Prim.Native.Nat.{◌<◌}
use Rattle.checker.proofs.Starting.{begins, copy-asks, line_word, push-asks, begun-is}
use borrow.Author.Rules.{rules}
use borrow.Author.Rules.{rules}
use Rattle.checker.proofs.start.Goals as goal

pub overflow_sub-n : goal.overflow_sub-n
overflow_sub-n c = let p = c.requires in
    begins p c.find_places-places.ensures c.part_line.ensures

pub copy_type-requires : goal.copy_type-requires
copy_type-requires c = let p = c.requires in
    copy-asks p c.find_places-places.ensures c.part_line.ensures

pub overflow_cast-places : goal.overflow_cast-places
overflow_cast-places c = let p = c.requires in
    let x : c.find_places-places.result.term < 4294967296 = line_word p c.find_places-places.ensures c.part_line.ensures in
    search rules

pub push-board-requires : goal.push-board-requires
push-board-requires c = let p = c.requires in
    push-asks p c.find_places-places.ensures c.part_line.ensures c.copy_type.ensures c.copy_type.auto.dst c.new.ensures

pub returns : goal.returns
returns c = let p = c.requires in
    begun-is p c.find_places-places.ensures c.part_line.ensures c.copy_type.ensures c.copy_type.auto.dst c.new.ensures c.push-board.ensures c.clear_book.ensures c.new-2.ensures c.none.ensures
