use Rattle.std.proofs.Common.{refl, ◌∙◌, arith, length-set}
use Rattle.book.proofs.Holdings.{solve-words}
use Rattle.book.proofs.solve.Goals as goal

pub bounds-book-pair-2 : goal.bounds-book-pair-2
bounds-book-pair-2 c = let e = c.wide-pair.ensures in simp length-set (omega (arith, e, c.requires.small, c.requires.room))

pub copy_nodes-requires : goal.copy_nodes-requires
copy_nodes-requires c = simp length-set (omega arith, c.requires.within)

pub returns : goal.returns
returns c = (c.copy_nodes.ensures ∙ solve-words _ _ _ _ _ _ _ c.wide-pair.ensures, refl)
