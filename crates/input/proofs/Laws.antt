-- What a reading says of its buffer. Assumes nothing.
use Rattle.std.proofs.Common.{◌≡◌, refl, sym, ap, subst, ◌∙◌, List, [], ◌∷◌, ℕ, zero, suc, ◌-◌, ◌≤◌, arith, length, take, Result, Ok, Err}
use lib.Seq.{length-take-le}
use borrow.Rule.Slice.PartMut.{mid_of, mid_len, put_mid, same_len_mid, take_put}
use Rattle.std.specs.declared.io.Error.{Error}
use Rattle.input.specs.Filled.{Ends, Filled}

-- ---- one that did not fail
module _ {at n : ℕ} {r : Result ℕ Error} {l m : List ℕ} (e : r ≡ Ok n) (f : Filled at r l m) where
  -- it ends at n or later
  pub read-from-on : at ≤ n
  read-from-on = (subst (λ (g : Result ℕ Error). Ends at g (length l)) e f.ends).0

  -- the bytes read lie in the buffer
  pub read-within : n ≤ length m
  read-within = let h = (subst (λ (g : Result ℕ Error). Ends at g (length l)) e f.ends).1 in let k = f.bytes in omega arith

  pub read_length : n ≡ length (take n m)
  read_length = sym (length-take-le n m read-within)

-- ---- the bytes before its start
pub mid-long : (at : ℕ) (l : List ℕ) → at ≤ length l → length (mid_of at (length l - at) l) ≡ length l - at
mid-long at l h = mid_len at (length l) l (omega arith)

-- a reading into the bytes from `at` on, which leaves d there
pub part_filled : (at : ℕ) (r : Result ℕ Error) (l d : List ℕ) → at ≤ length l → length d ≡ length (mid_of at (length l - at) l) → Ends at r (length l) → Filled at r l (put_mid at (length l - at) l d)
part_filled at r l d h e n = record { ends = n; bytes = same_len_mid at (length l - at) l d e; kept = take_put at (length l - at) l d h }

take-fewer : (i j : ℕ) (x : List ℕ) → i ≤ j → take i (take j x) ≡ take i x
take-fewer zero j x h = refl
take-fewer (suc i) zero x h = absurd (omega arith)
take-fewer (suc i) (suc j) [] h = refl
take-fewer (suc i) (suc j) (y ∷ ys) h = ap (λ (z : List ℕ). y ∷ z) (take-fewer i j ys (omega arith))

-- what is kept before k is kept before a place that is not above
kept-below : (k at : ℕ) (l m : List ℕ) → at ≤ k → take k m ≡ take k l → take at m ≡ take at l
kept-below k at l m h e = sym (take-fewer at k m h) ∙ ap (take at) e ∙ take-fewer at k l h

ends-from : (at k m : ℕ) (r : Result ℕ Error) → at ≤ k → Ends k r m → Ends at r m
ends-from at k m (Ok n) h e = (omega arith, e.1)
ends-from at k m (Err x) h e = tt

-- nothing read yet
pub none_filled : (at : ℕ) (l : List ℕ) → at ≤ length l → Filled at (Ok at) l l
none_filled at l h = record { ends = (omega arith, h); bytes = refl; kept = refl }

-- one reading from where another ended
pub then-filled : {at k : ℕ} {r : Result ℕ Error} {l m d : List ℕ} → Filled at (Ok k) l m → Filled k r m d → Filled at r l d
then-filled {at} {k} {r} {l} {m} {d} f g =
    let h = f.ends.0 in
    record {
      ends = ends-from at k (length l) r h (subst (λ (n : ℕ). Ends k r n) f.bytes g.ends);
      bytes = g.bytes ∙ f.bytes;
      kept = kept-below k at m d h g.kept ∙ f.kept;
    }

-- the same, where what it gave is known
pub then-as : {at k : ℕ} {r q : Result ℕ Error} {l m d : List ℕ} → r ≡ q → Filled at (Ok k) l m → Filled k r m d → Filled at q l d
then-as {at} {l = l} {d = d} e f g = subst (λ (x : Result ℕ Error). Filled at x l d) e (then-filled f g)
