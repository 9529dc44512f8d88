-- Laws of a function that is handed names. Assumes nothing.
use Rattle.std.proofs.Common.{◌≡◌, ℕ, ◌+◌, ◌≤◌, List, [], ◌∷◌, ◌++◌, length, take, sym, subst, arith, length-append, length-take-le}
use Rattle.std.specs.Prelude.{IsUtf8}
use Rattle.std.proofs.lemmas.List.Elements.{All-push}
use Rattle.std.proofs.lemmas.Fn.{FoldsTo-push}
use Rattle.input.specs.Handed.{longest_name, Name, Handed}

-- the first bytes of a buffer
pub name-of : (s l : List ℕ) (n : ℕ) → s ≡ take n l → IsUtf8 (take n l) → n ≤ length l → length l ≤ longest_name → Name s
name-of s l n e t h k = record { text = subst IsUtf8 (sym e) t; within = rw e (omega (arith, length-take-le n l h)) }

module _ {F : Type 0} (call : F → List ℕ → Unit {0} → F → Type 0) (f : F) where
  -- one name more
  pub one-handed : (g h : F) (count : ℕ) (n : List ℕ) → Handed call f g count → Name n → call g n tt h → Handed call f h (count + 1)
  one-handed g h count n s k c = record {
    names = s.names ++ (n ∷ []);
    right = All-push Name s.names n s.right k;
    counted = omega (arith, length-append s.names (n ∷ []), s.counted);
    called = FoldsTo-push _ f s.names g n h s.called c;
  }
