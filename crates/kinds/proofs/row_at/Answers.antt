use Rattle.kinds.specs.Kinds.{row_of, find, table}
use Rattle.kinds.proofs.Table.{tabled}
use Rattle.kinds.proofs.Rows.{words-tabled}
use Rattle.kinds.proofs.row_at.Goals as goal

pub word_in-requires : goal.word_in-requires
unfolding tabled row_of find table
word_in-requires c = words-tabled
