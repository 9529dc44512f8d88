use Rattle.kinds.specs.Kinds.{row_of, find, table}
use Rattle.kinds.proofs.Table.{tabled}
use Rattle.kinds.proofs.Rows.{words-tabled}
use Rattle.kinds.proofs.table_words.Goals as goal

pub returns : goal.returns
unfolding tabled row_of find table
returns c = words-tabled
