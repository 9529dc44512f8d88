-- The chain 0 → 1 → … → 999 → Int solved link by link, and what following it asks. Assumes nothing.
use mathlib.Core.Path.{◌≡◌, refl, subst, subst⁻¹}
use mathlib.Core.List.{List, [], ◌∷◌}
use Prim.Native.Nat.{ℕ, zero, suc, ◌+◌, ◌≤◌, ◌<◌}
use native.Mathlib.Numerals.{add-one}
use native.Mathlib.Omega.{arith}
use lib.ListN.{length}
use lib.Seq.{sets}
use Rattle.sizes.specs.Sizes.{book_size}
use Rattle.nodes.specs.Nodes.{node, node_parts, nodes_at}
use Rattle.nodes.specs.Parts.{Whole}
use Rattle.nodes.specs.Lists.{All}
use Rattle.nodes.proofs.ListLaws.{all_append}
use Rattle.judgment.specs.Types.{unknown, con}
use Rattle.judgment.specs.Solutions.{◌≔◌, value}
use Rattle.judgment.specs.Levels.{own_levels}
use Rattle.judgment.specs.Result.{book_words}
use Rattle.judgment.specs.Links.{risen, chained}
use Rattle.judgment.proofs.Links.{next-free, last-free}
use Rattle.book.specs.declared.Book.{Book}
use Rattle.book.specs.Book.{sols, Booked, given, grown}
use Rattle.book.specs.Compared.{half, nodes_from, parts_from, MeetAsk}
use Rattle.book.proofs.Words.{new-sols, new-booked}
use Rattle.book.proofs.Links.{Holding, one_more}

pub chain-starts : (w : List ℕ) → book_size ≤ length w → Holding (sets w 0 (book_words [] own_levels 0)) 0 (risen 0)
unfolding risen
chain-starts w l = (new-booked w l, new-sols w l)

module _ {w : List ℕ} {b : Book} {k : ℕ} (e : b ≡ record { nodes = k }) (h : Holding w k (risen k)) where
  pub chain-turn : k < 999 → Holding (given w b k (node 17 (k + 1) ∷ [])) (k + 1) (risen (k + 1))
  unfolding risen
  chain-turn l =
      subst⁻¹ (λ (a : Book). Holding (given w a k (node 17 (k + 1) ∷ [])) (k + 1) (risen (k + 1))) e
      (subst⁻¹ (λ (m : ℕ). Holding (given w (record { nodes = k }) k (node 17 m ∷ [])) m (risen m)) (add-one k)
      (one_more w k (node 17 (suc k)) (omega arith) (next-free k) h))

  pub chain-ends : k ≡ 999 → Booked (given w b k (con 1)) (grown b 1) × (sols (given w b k (con 1)) ≡ chained 999)
  chain-ends q =
      subst⁻¹ (λ (a : Book). Booked (given w a k (con 1)) (grown a 1) × (sols (given w a k (con 1)) ≡ chained 999)) e
      (subst⁻¹ (λ (m : ℕ). Booked (given w (record { nodes = m }) m (con 1)) (record { nodes = m + 1 }) × (sols (given w (record { nodes = m }) m (con 1)) ≡ chained 999)) q
      (one_more w 999 (node 12 1) (omega arith) (last-free 999) (subst (λ (m : ℕ). Holding w m (risen m)) q h)))

-- ---- whole types
risen-whole : (n : ℕ) → All (λ x. Whole node_parts (value x) 1) (risen n)
unfolding risen
risen-whole zero = tt
risen-whole (suc n) = all_append (λ x. Whole node_parts (value x) 1) (risen n) (◌≔◌ n (unknown (suc n)) ∷ []) (risen-whole n) (refl, tt)

-- unknown 0 beside Int
pub follow-asks : {w : List ℕ} {b : Book} → Booked w b → sols w ≡ chained 999 → MeetAsk (17 ∷ 0 ∷ []) (12 ∷ 1 ∷ []) w (record { left = 0; right = 0; parts = 1; budget = 1 })
unfolding half nodes_from parts_from nodes_at
follow-asks {w} {b} h e = record {
  sides = record { left = refl; right = refl };
  book = (b, h);
  solutions = subst⁻¹ (All (λ x. Whole node_parts (value x) 1)) e (all_append (λ x. Whole node_parts (value x) 1) (risen 999) (◌≔◌ 999 (con 1) ∷ []) (risen-whole 999) (refl, tt));
}
