use Rattle.book.specs.Book.{levelled}
use Rattle.book.proofs.set_level.Goals as goal

pub returns : goal.returns
unfolding levelled
returns c = rw c.wide.ensures
