use Rattle.exports.proofs.Sizes.{board-words}
use Rattle.exports.proofs.kirvoghus_board_words.Goals as goal

pub returns : goal.returns
returns c = board-words
