-- The words of the triples that words hold are those words. Assumes nothing.
use mathlib.Core.Path.{◌≡◌, refl, sym, ap, ◌∙◌}
use mathlib.Core.Bool.{Bool, true, false, cond}
use mathlib.Core.List.{List, ◌∷◌}
use Prim.Native.Nat.{ℕ, zero, suc, ◌+◌, ◌*◌, ◌-◌, ◌/◌, ◌%◌, ◌^◌, ◌<◌}
use native.Mathlib.Omega.{arith}
use native.Mathlib.Numerals.{add-one}
use lib.ListN.{length, get_or, drop}
use lib.Dec.{leb}
use lib.Seq.{drop-cons, drop-length}
use borrow.Author.Tests.{leb-true}
use Rattle.sizes.specs.Sizes.{triple_words}
use Rattle.writing.specs.Writing.{triple_of, value_word, triples_from, triples_of, words_of}

value-back : (k v c : ℕ) → v < 2 ^ 64 → value_word (triple_of k v c) ≡ v
value-back k v c h = go (leb (2 ^ 63) v) refl
  where
    go : (b : Bool) → leb (2 ^ 63) v ≡ b → cond b (2 ^ 64 - cond b (2 ^ 64 - v) v) (cond b (2 ^ 64 - v) v) ≡ v
    go true e = let y = leb-true (2 ^ 63) v e in omega arith
    go false e = refl

module _ (ws : List ℕ) (fit : (i : ℕ) → i < length ws → get_or ws i 0 < 2 ^ 64) where
  one : (j k : ℕ) → k ≡ j + 1 → j < length ws → drop j ws ≡ get_or ws j 0 ∷ drop k ws
  one j k e h = drop-cons ws j 0 h ∙ ap (λ (i : ℕ). get_or ws j 0 ∷ drop i ws) (sym (e ∙ add-one j))

  three : (j : ℕ) → j + 2 < length ws → drop j ws ≡ get_or ws j 0 ∷ get_or ws (j + 1) 0 ∷ get_or ws (j + 2) 0 ∷ drop (j + 3) ws
  three j h = rw (one j (j + 1) refl (omega arith), one (j + 1) (j + 2) (omega arith) (omega arith), one (j + 2) (j + 3) (omega arith) (omega arith))

  words-from : (n i : ℕ) → length ws ≡ triple_words * (i + n) → words_of (triples_from ws i n) ≡ drop (triple_words * i) ws
  unfolding words_of triples_from
  words-from zero i h = sym (ap (λ (k : ℕ). drop k ws) (let z : triple_words * i ≡ length ws = omega arith in z) ∙ drop-length ws)
  words-from (suc n) i h =
      let j = triple_words * i in
      let k : triple_words * (i + 1) ≡ j + 3 = omega arith in
      rw (three j (omega arith), words-from n (i + 1) (omega arith), k, value-back (get_or ws j 0) (get_or ws (j + 1) 0) (get_or ws (j + 2) 0) (fit (j + 1) (omega arith)))

  pub words_back : length ws % triple_words ≡ 0 → words_of (triples_of ws) ≡ ws
  unfolding triples_of
  words_back e = words-from (length ws / triple_words) 0 (omega arith)
