-- The text of an answer: the seven numbers in columns of 6, LF. Assumes nothing: these are definitions;
-- `proofs/Sixes.antt` shows that no answer has a wider number.
use Rattle.std.specs.Prelude.{◌≡◌, false, cond, List, [], ◌∷◌, ◌++◌, ℕ, ◌+◌, ◌*◌, ◌^◌, ◌≤◌, ◌<◌, ltb, length, get_or}
use Rattle.std.proofs.lemmas.List.Edits.{sets}
use Rattle.spelling.specs.declared.Field.TheVariants.{Blank, Number}
use Rattle.spelling.specs.Spelling.{field_from}
use Rattle.spelling.specs.Text.{field_text}
use Rattle.judgment.specs.declared.Answer.{Answer}
use Rattle.judgment.specs.Result.{numbers}

-- how many digits a number of 32 bits has
abbrev pub digits : ℕ → ℕ
digits n =
    cond (ltb n 10) 1
    (cond (ltb n 100) 2
    (cond (ltb n 1000) 3
    (cond (ltb n 10000) 4
    (cond (ltb n 100000) 5
    (cond (ltb n (10 ^ 6)) 6 (cond (ltb n (10 ^ 7)) 7 (cond (ltb n (10 ^ 8)) 8 (cond (ltb n (10 ^ 9)) 9 10))))))))

-- the columns of a number of 32 bits: 6, or more for more digits
abbrev pub width : ℕ → ℕ
width n = cond (ltb n (10 ^ 6)) 6 (cond (ltb n (10 ^ 7)) 7 (cond (ltb n (10 ^ 8)) 8 (cond (ltb n (10 ^ 9)) 9 10)))

unfoldable pub column : ℕ → List ℕ
column n = field_text (width n) (Number false n)

-- n's column written at i of l gives m; the next one starts at j
pub record Written (l : List ℕ) (i n : ℕ) (m : List ℕ) (j : ℕ) : Type 0 where
  pub text : m ≡ sets l i (column n)
  pub next : j ≡ i + width n
  pub near : j ≤ i + 10

-- numbers in columns, LF
unfoldable pub columns_text : List ℕ → List ℕ
columns_text [] = 10 ∷ []
columns_text (n ∷ ns) = column n ++ columns_text ns

unfoldable pub answer_text : Answer → List ℕ
answer_text a = columns_text (numbers a)

-- numbers right-justified in six bytes each, LF
unfoldable pub sixes : List ℕ → List ℕ
sixes [] = 10 ∷ []
sixes (n ∷ ns) = field_text 6 (Number false n) ++ sixes ns

-- the text is of that form, 43 bytes, and the six of each number read as that number
pub record InSixes (a : Answer) : Type 0 where
  pub text : answer_text a ≡ sixes (numbers a)
  pub bytes : length (answer_text a) ≡ 43
  pub reads : (i : ℕ) → i < 7 → field_from (answer_text a) (6 * i) 6 Blank ≡ Number false (get_or (numbers a) i 0)
