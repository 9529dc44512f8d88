-- Where the solution of a node stands, for numbers of 32 bits and words as they come, by computation. The answers are
-- those of `place` in reference/following.py, which makes this file. Assumes nothing.
use Rattle.std.proofs.Common.{Option, Some, None, ◌≡◌, refl, List, [], ◌∷◌, ◌++◌, map, ℕ, replicate}
use Rattle.nodes.specs.declared.Place.{Place}
use Rattle.nodes.specs.Nodes.{Node, node, kind, number}
use Rattle.book.specs.Book.{place_of}

abbrev words : List ℕ
words = (3003 ∷ 2 ∷ 1 ∷ []) ++ ((3000 ∷ 1 ∷ 0 ∷ []) ++ ((2999 ∷ 1 ∷ 3001 ∷ []) ++ (replicate 2988 0 ++ ((3007 ∷ 3 ∷ 1000 ∷ []) ++ ((5000 ∷ 7 ∷ 0 ∷ []))))))

abbrev told : List (Node × (Option Place))
told =
    (node 17 0, Some (record { start = 3003; count = 2 })) ∷
    (node 17 1, Some (record { start = 3000; count = 1 })) ∷
    (node 17 2, None) ∷
    (node 17 3, None) ∷
    (node 17 998, None) ∷
    (node 17 999, Some (record { start = 3007; count = 3 })) ∷
    (node 17 1000, None) ∷
    (node 17 1001, None) ∷
    (node 17 65535, None) ∷
    (node 17 65536, None) ∷
    (node 17 65537, None) ∷
    (node 17 66535, None) ∷
    (node 17 66536, None) ∷
    (node 17 131072, None) ∷
    (node 17 2147483648, None) ∷
    (node 17 4294967295, None) ∷
    (node 0 0, None) ∷
    (node 1 0, None) ∷
    (node 11 0, None) ∷
    (node 12 0, None) ∷
    (node 13 0, None) ∷
    (node 14 0, None) ∷
    (node 15 0, None) ∷
    (node 16 0, None) ∷
    (node 18 0, None) ∷
    (node 65553 0, None) ∷
    []

pub places : map (λ q. place_of words (kind q.0) (number q.0)) told ≡ map (λ q. q.1) told
unfolding place_of
places = refl
