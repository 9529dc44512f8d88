use Rattle.exports.proofs.Sizes.{book-words}
use Rattle.exports.proofs.kirvoghus_book_words.Goals as goal

pub returns : goal.returns
returns c = book-words
