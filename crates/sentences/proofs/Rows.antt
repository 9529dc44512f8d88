-- What is said of results that no sheet leads the program to, by computation. Assumes nothing.
use Rattle.std.proofs.Common.{◌≡◌, refl, [], ◌∷◌, map, ℕ}
use Rattle.judgment.specs.declared.Answer.{Answer}
use Rattle.spelling.specs.Text.{field_text}
use Rattle.wording.specs.Texts.{bytes, number_text}
use Rattle.sentences.specs.Explained.{of_limit, of_plan, explained}

abbrev ended : ℕ → Answer
ended n = record { number = n; line = 0; taken = 11; fresh = 6; detail1 = 0; detail2 = 0; plain = 0 }

pub said : map (λ (n : ℕ). explained (ended n) []) (1 ∷ 2 ∷ 32 ∷ 38 ∷ 39 ∷ 40 ∷ []) ≡
    bytes "The plan was not checked: the ceiling is above 10,000.\n" ∷
    bytes "The plan was not checked: a buffer is too short.\n" ∷
    bytes "The plan was not checked: the limit for a type written out is 0 or above 4,096.\n" ∷
    bytes "The result 38 has no meaning here.\n" ∷
    bytes "The plan is refused by the strict call: a solution has a fresh universal that is out of its unknown's scope. 11 entries were taken and 6 fresh numbers were given.\n" ∷
    bytes "The result 40 has no meaning here.\n" ∷
    []
unfolding of_limit of_plan explained number_text field_text
said = refl
