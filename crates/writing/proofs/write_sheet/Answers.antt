use mathlib.Core.Path.{refl, sym, ◌∙◌}
use Rattle.writing.proofs.Sheets.{gives-3}
use Rattle.writing.proofs.write_sheet.Goals as goal

pub write_plan-requires : goal.write_plan-requires
write_plan-requires c = (sym c.are_words.ensures ∙ c.if-not-are_words.false, refl)

pub returns-then-not-are_words : goal.returns-then-not-are_words
returns-then-not-are_words c = gives-3 _ _ _ (sym c.are_words.ensures ∙ c.if-not-are_words.true) c.refused.ensures
