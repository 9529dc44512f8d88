-- Types and numbers and their texts, by computation. Assumes nothing.
use Rattle.std.proofs.Common.{◌≡◌, refl, List, [], ◌∷◌, map}
use Prim.Native.String.{String}
use Rattle.nodes.specs.Nodes.{node, Ty}
use Rattle.nodes.specs.Lists.{All}
use Rattle.spelling.specs.Text.{field_text}
use Rattle.wording.specs.Texts.{bytes, number_text, name_text}
use Rattle.wording.specs.Spelt.{quantifier, leaf, bare, pieces, spelt, type_text}

abbrev samples : List (Ty × String)
samples =
    (node 14 10 ∷ node 13 0 ∷ node 11 10 ∷ node 12 1 ∷ [], "∀n10. n10 → Int")
    ∷ (node 13 0 ∷ node 12 1 ∷ node 13 0 ∷ node 12 2 ∷ node 12 3 ∷ [], "Int → Bool → Unit")
    ∷ (node 13 0 ∷ node 13 0 ∷ node 12 1 ∷ node 12 2 ∷ node 12 3 ∷ [], "(Int → Bool) → Unit")
    ∷ (node 13 0 ∷ node 14 10 ∷ node 11 10 ∷ node 14 11 ∷ node 11 11 ∷ [], "(∀n10. n10) → ∀n11. n11")
    ∷ (node 13 0 ∷ node 15 0 ∷ node 12 30 ∷ node 12 1 ∷ node 12 3 ∷ [], "n30 Int → Unit")
    ∷ (node 15 0 ∷ node 15 0 ∷ node 12 30 ∷ node 12 1 ∷ node 15 0 ∷ node 12 31 ∷ node 12 2 ∷ [], "n30 Int (n31 Bool)")
    ∷ (node 15 0 ∷ node 13 0 ∷ node 12 1 ∷ node 12 2 ∷ node 14 10 ∷ node 11 10 ∷ [], "(Int → Bool) (∀n10. n10)")
    ∷ (node 16 0 ∷ [], "()")
    ∷ (node 16 1 ∷ node 12 1 ∷ [], "(Int ×)")
    ∷ (node 16 2 ∷ node 13 0 ∷ node 12 1 ∷ node 12 2 ∷ node 14 10 ∷ node 11 10 ∷ [], "((Int → Bool) × (∀n10. n10))")
    ∷ (node 16 3 ∷ node 16 1 ∷ node 17 3 ∷ node 18 4 ∷ node 15 0 ∷ node 12 4 ∷ node 11 9999 ∷ [], "((^3 ×) × !4 × printInt n9999)")
    ∷ []

spelt-so : All (λ (s : Ty × String). type_text s.0 ≡ bytes s.1) samples
unfolding field_text number_text name_text quantifier leaf bare pieces spelt type_text
spelt-so = (refl, (refl, (refl, (refl, (refl, (refl, (refl, (refl, (refl, (refl, (refl, tt)))))))))))

-- the first and the last number of each length
pub numbers : map number_text (0 ∷ 9 ∷ 10 ∷ 99 ∷ 100 ∷ 999 ∷ 1000 ∷ 9999 ∷ 10000 ∷ 99999 ∷ 100000 ∷ 999999 ∷ 1000000 ∷ 9999999 ∷ 10000000 ∷ 99999999 ∷ 100000000 ∷ 999999999 ∷ 1000000000 ∷ 4294967295 ∷ []) ≡
    bytes "0" ∷ bytes "9" ∷ bytes "10" ∷ bytes "99" ∷ bytes "100" ∷ bytes "999" ∷ bytes "1000" ∷ bytes "9999" ∷ bytes "10000" ∷ bytes "99999" ∷ bytes "100000" ∷ bytes "999999" ∷ bytes "1000000" ∷ bytes "9999999" ∷ bytes "10000000" ∷ bytes "99999999" ∷ bytes "100000000" ∷ bytes "999999999" ∷ bytes "1000000000" ∷ bytes "4294967295" ∷ []
unfolding field_text number_text
numbers = refl
