use Rattle.std.proofs.Common.{sym, ap, ◌∙◌, List, ℕ}
use lib.Seq.{sets}
use Rattle.board.proofs.Stacks.{cleared-words}
use Rattle.board.proofs.clear_board.Goals as goal

pub returns : goal.returns
returns c = c.clear_words.ensures ∙ ap (λ (l : List ℕ). sets c.args.board.now 0 l) (sym cleared-words)
