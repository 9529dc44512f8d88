-- The book's words, and the solutions that they hold. Assumes nothing: these are definitions.
-- Words 3 k and 3 k + 1 are the start and the node count of unknown k's solution, word 3 k + 2 is for k's level; the
-- nodes stand from word 3,000 on, in order of solving.
use Rattle.nodes.specs.declared.Place.{Place}
use Rattle.std.specs.Prelude.{◌≡◌, ◌≢◌, Bool, cond, List, [], ◌∷◌, ℕ, zero, suc, ◌+◌, ◌*◌, ◌-◌, ◌≤◌, ◌<◌, length, get_or, set, take, eqb, leb, ltb, Option, None, Some}
use Rattle.std.proofs.lemmas.List.Edits.{sets}
use Rattle.sizes.specs.Sizes.{most_nodes, most_numbers, book_base, book_size, book_stride}
use Rattle.nodes.specs.Nodes.{Node, Ty, kind, number, words, nodes_at}
use Rattle.judgment.specs.Solutions.{◌≔◌, Solutions}
use Rattle.judgment.specs.Levels.{Levels}
use Rattle.judgment.specs.Good.{Fine}
use Rattle.book.specs.declared.Book.{Book}

abbrev pub start_of : List ℕ → ℕ → ℕ
start_of w k = get_or w (book_stride * k) 0

abbrev pub count_of : List ℕ → ℕ → ℕ
count_of w k = get_or w (book_stride * k + 1) 0

-- ---- the solutions that the words hold
-- the unknown below n whose solution starts at word p
unfoldable pub who : List ℕ → ℕ → ℕ → Option ℕ
who w p zero = None
who w p (suc k) = cond (eqb (start_of w k) p) (Some k) (who w p k)

abbrev pub after : Option ℕ → (ℕ → Solutions) → Solutions
after None f = []
after (Some k) f = f k

-- the solutions from word p on, n at most, in order of solving
unfoldable pub sols_from : List ℕ → ℕ → ℕ → Solutions
sols_from w p zero = []
sols_from w p (suc n) = after (who w p most_numbers) (λ k. ◌≔◌ k (nodes_at w p (count_of w k)) ∷ sols_from w (p + 2 * count_of w k) n)

unfoldable pub sols : List ℕ → Solutions
sols w = sols_from w book_base most_nodes

-- what the words say of the solution that starts at p
pub record Head (w : List ℕ) (p k : ℕ) (t : Ty) : Type 0 where
  pub small : k < most_numbers
  pub starts : start_of w k ≡ p
  pub counts : count_of w k ≡ length t
  pub nodes : nodes_at w p (length t) ≡ t
  pub some : 0 < length t
  pub others : (j : ℕ) → j < most_numbers → j ≢ k → p ≤ start_of w j → p + 2 * length t ≤ start_of w j

-- the words from p up to e hold these solutions and no others
unfoldable pub Holds : List ℕ → ℕ → ℕ → Solutions → Type 0
Holds w e p [] = (p ≡ e) × ((j : ℕ) → j < most_numbers → start_of w j < p)
Holds w e p (◌≔◌ k t ∷ r) = Head w p k t × Holds w e (p + 2 * length t) r

-- ---- levels
-- While a run goes on the word 0 stands for a number's own level and m + 1 for the level m, so a number of its own
-- level needs no word.
abbrev pub level_word_of : List ℕ → ℕ → ℕ
level_word_of w k = get_or w (book_stride * k + 2) 0

abbrev pub level_by : ℕ → ℕ → ℕ
level_by zero k = k
level_by (suc m) k = m

-- a number that the book has no words for has its own level
abbrev pub level_of : List ℕ → ℕ → ℕ
level_of w k = cond (ltb k most_numbers) (level_by (level_word_of w k) k) k

abbrev pub levels_of : List ℕ → Levels
levels_of w = λ k. level_of w k

-- the level m for the number k
unfoldable pub levelled : List ℕ → ℕ → ℕ → List ℕ
levelled w k m = set w (book_stride * k + 2) (m + 1)

-- the level m at most for every unknown of a type
abbrev pub lowered_node : ℕ → ℕ → ℕ → List ℕ → List ℕ
lowered_node m kind k w = cond (eqb kind 17) (cond (ltb m (level_of w k)) (levelled w k m) w) w

unfoldable pub lowered : ℕ → Ty → List ℕ → List ℕ
lowered m [] w = w
lowered m (x ∷ t) w = lowered m t (lowered_node m (kind x) (number x) w)

-- an unknown that the book has words for
abbrev pub Listed : Node → Type 0
Listed x = kind x ≡ 17 → number x < most_numbers

-- the levels of the numbers below n as a caller reads them
unfoldable pub levels_written : List ℕ → ℕ → List ℕ
levels_written w zero = w
levels_written w (suc k) = set (levels_written w k) (book_stride * k + 2) (level_of w k)

-- The words of a book: what is unsolved and what is not used is 0, and its solutions lead nowhere back.
pub record Booked (w : List ℕ) (b : Book) : Type 0 where
  pub room : book_size ≤ length w
  pub few : b.nodes ≤ most_nodes
  pub holds : Holds w (book_base + 2 * b.nodes) book_base (sols w)
  pub unsolved : (j : ℕ) → j < most_numbers → start_of w j < book_base → (start_of w j ≡ 0) × (count_of w j ≡ 0)
  pub levels : (j : ℕ) → j < most_numbers → level_word_of w j ≤ most_numbers
  pub rest : (j : ℕ) → book_base + 2 * b.nodes ≤ j → j < book_size → get_or w j 0 ≡ 0
  pub fine : Fine (sols w)

-- ---- solve
-- n nodes more do not pass the limit
abbrev pub fitting : Book → ℕ → Bool
fitting b n = leb (b.nodes + n) most_nodes

unfoldable pub given : List ℕ → Book → ℕ → Ty → List ℕ
given w b k t = sets (sets w (book_stride * k) ((book_base + 2 * b.nodes) ∷ length t ∷ [])) (book_base + 2 * b.nodes) (words t)

abbrev pub grown : Book → ℕ → Book
grown b n = record { nodes = b.nodes + n }

pub record SolveAsk (w : List ℕ) (b : Book) (k : ℕ) (s : List ℕ) («from» n : ℕ) : Type 0 where
  pub room : book_size ≤ length w
  pub small : k < most_numbers
  pub fits : b.nodes + n ≤ most_nodes
  pub within : «from» + 2 * n ≤ length s

-- ---- find
-- where the solution of a node stands, if it is a solved unknown
unfoldable pub place_of : List ℕ → ℕ → ℕ → Option Place
place_of w d v =
    cond (eqb d 17) (cond (ltb v most_numbers) (cond (ltb (start_of w v) book_base) None (Some (record { start = start_of w v; count = count_of w v }))) None) None

-- ---- write_out
pub record WriteAsk (s : List ℕ) (at left : ℕ) (w o : List ℕ) (n end : ℕ) : Type 0 where
  pub within : at + 2 * left ≤ length s
  pub book : (b : Book) × Booked w b
  pub room : 2 * end ≤ length o
  pub most : n ≤ end

-- what writing t out from node n of o on, up to node `end`, leaves: the number of nodes that then stand there, or that
-- there are more
abbrev pub wrote : Ty → ℕ → ℕ → Option ℕ
wrote t n end = cond (leb (n + length t) end) (Some (n + length t)) None

abbrev pub written_to : Ty → ℕ → ℕ → List ℕ → List ℕ
written_to t n end o = sets o (2 * n) (words (take (end - n) t))
