-- How long an answer's text is. Assumes nothing.
use Rattle.std.proofs.Common.{◌≡◌, false, ℕ, ◌+◌, arith, length, length-append}
use Rattle.spelling.specs.declared.Field.TheVariants.{Number}
use Rattle.spelling.proofs.Texts.{length-field}
use Rattle.judgment.specs.declared.Answer.{Answer}
use Rattle.columns.specs.Columns.{width, column, columns_text, answer_text}

length-column : (n : ℕ) → length (column n) ≡ width n
unfolding column
length-column n = length-field (width n) (Number false n)

-- its seven columns, and LF
pub answer-length : (a : Answer) → length (answer_text a)
    ≡ width a.number + width a.line + width a.taken + width a.fresh + width a.detail1 + width a.detail2 + width a.plain + 1
unfolding answer_text columns_text
answer-length a = simp (length-append, length-column) (omega arith)
