-- How a comparison ends before its sides do: they differ, or a type is too long. And the level that a word which is
-- not 0 says. Assumes nothing.
use Rattle.std.proofs.Common.{◌≡◌, refl, ◌≢◌, List, ℕ, zero, suc, ◌-◌, ◌<◌, Result, Err, arith, lt-ltb}
use Rattle.sizes.specs.Sizes.{most_numbers}
use Rattle.book.specs.declared.Rest.{Rest}
use Rattle.book.specs.declared.Unlike.{Unlike}
use Rattle.book.specs.declared.Unlike.TheVariants.{Differ, Over}
use Rattle.book.specs.Book.{level_word_of, level_by, level_of}
use Rattle.book.specs.Compared.{compared, first_met}
use Rattle.book.proofs.Comparing.{Going, turn-ends}

module _ {l r k : List ℕ} {c d : Rest} (g : Going l r k c d) (some : 0 < d.parts) {o : Result Rest Unlike} (q : o ≡ first_met l r k d) where
  pub turn-differs : o ≡ Err Differ → Err Differ ≡ compared l r k c
  turn-differs u = turn-ends g some q Differ u

  pub turn-over : o ≡ Err Over → Err Over ≡ compared l r k c
  turn-over u = turn-ends g some q Over u

pub word-level : (w : List ℕ) (k : ℕ) → k < most_numbers → level_word_of w k ≢ 0 → level_word_of w k - 1 ≡ level_of w k
word-level w k l f = rw (lt-ltb k most_numbers l) (go (level_word_of w k) f)
  where
    go : (x : ℕ) → x ≢ 0 → x - 1 ≡ level_by x k
    go zero g = absurd (g refl)
    go (suc m) g = omega arith
