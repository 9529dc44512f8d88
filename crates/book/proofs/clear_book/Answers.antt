use Rattle.std.proofs.Common.{sym, ap, ◌∙◌, List, ℕ}
use lib.Seq.{sets}
use Rattle.book.proofs.Words.{no-solutions}
use Rattle.book.proofs.clear_book.Goals as goal

pub returns : goal.returns
returns c = c.clear_words.ensures ∙ ap (λ (l : List ℕ). sets c.args.book.now 0 l) (sym no-solutions)
