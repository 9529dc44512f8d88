-- From the answer to what is told of the sheet. Assumes nothing.
use Rattle.std.proofs.Common.{◌≡◌, sym, ap, ◌∙◌, List, ℕ, ◌≤◌, arith, length}
use Rattle.std.proofs.lemmas.List.Edits.{sets}
use Rattle.sizes.specs.Sizes.{highest_ceiling, usual_limit}
use Rattle.judgment.specs.declared.Answer.{Answer}
use Rattle.judgment.specs.Levels.{first_call}
use Rattle.judgment.specs.Result.{Buffers}
use Rattle.columns.specs.Columns.{answer_text}
use Rattle.columns.proofs.Sixes.{in-sixes}
use Rattle.checker.specs.Answered.{Answered}
use Rattle.checker.proofs.Finishing.{all_set}
use Rattle.telling.specs.Told.{Told}

-- the answer's text is as long as the array that it is written to
module _ {s : List ℕ} {b after : Buffers} {a : Answer} (l : List ℕ) (q : Answered first_call s highest_ceiling usual_limit b a after) (k : length l ≡ 43) where
  as_long : length l ≡ length (answer_text a)
  as_long = k ∙ sym (ap (λ (x : Answer). length (answer_text x)) q.answer ∙ (in-sixes first_call s highest_ceiling usual_limit b).bytes)

  pub room : length (answer_text a) ≤ length l
  room = let h = as_long in omega arith

  pub telling : {m : List ℕ} → m ≡ sets l 0 (answer_text a) → Told s b m after
  telling e = record { text = e ∙ all_set l (answer_text a) as_long ∙ ap answer_text q.answer; buffers = q.buffers }
