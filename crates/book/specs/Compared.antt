-- Types compared as they are when written out, while solutions are followed. Assumes nothing: these are definitions.
use Rattle.book.specs.declared.Unlike.TheVariants.{Differ, Over}
use Rattle.book.specs.declared.Unlike.{Unlike}
use Rattle.nodes.specs.declared.Place.{Place}
use Rattle.std.specs.Prelude.{◌≢◌, Bool, false, cond, not, ◌&&◌, List, ℕ, zero, suc, ◌+◌, ◌*◌, ◌-◌, ◌^◌, ◌≤◌, ◌<◌, length, get_or, take, eqb, leb, Option, Some, None, Result, Ok, Err}
use Rattle.nodes.specs.Nodes.{Ty, node_parts, node_at, nodes_at}
use Rattle.nodes.specs.Parts.{take_parts, Whole}
use Rattle.nodes.specs.Lists.{All}
use Rattle.judgment.specs.Types.{eq_node, eq_ty}
use Rattle.judgment.specs.Solutions.{value, write_out}
use Rattle.book.specs.declared.Book.{Book}
use Rattle.book.specs.declared.Rest.{Rest}
use Rattle.book.specs.Book.{sols, Booked, place_of}

unfoldable pub half : ℕ → ℕ
half zero = 0
half (suc zero) = 0
half (suc (suc n)) = suc (half n)

-- all nodes that stand in w from word p on
unfoldable pub nodes_from : List ℕ → ℕ → Ty
nodes_from w p = nodes_at w p (half (length w - p))

-- the first n types of them
unfoldable pub parts_from : List ℕ → ℕ → ℕ → Ty
parts_from w p n = take_parts node_parts (nodes_from w p) n

-- what is said of x and y under a budget of n nodes: where no node differs, up to one more than the budget, they are
-- the same or longer than it
abbrev pub verdict : Ty → Ty → ℕ → Rest → Result Rest Unlike
verdict x y n after = cond (eq_ty (take (suc n) x) (take (suc n) y)) (cond (leb (length x) n) (Ok after) (Err Over)) (Err Differ)

-- what stands after the types of c, which are the same on both sides
abbrev pub passed : List ℕ → List ℕ → List ℕ → Rest → Rest
passed l r k c = record {
  left = c.left + 2 * length (parts_from l c.left c.parts);
  right = c.right + 2 * length (parts_from r c.right c.parts);
  parts = 0;
  budget = c.budget - length (write_out (sols k) (parts_from l c.left c.parts));
}

-- the types of c compared, with the solutions of the book k
unfoldable pub compared : List ℕ → List ℕ → List ℕ → Rest → Result Rest Unlike
compared l r k c = verdict (write_out (sols k) (parts_from l c.left c.parts)) (write_out (sols k) (parts_from r c.right c.parts)) c.budget (passed l r k c)

-- ---- a turn
-- a node further on both sides
abbrev pub next : List ℕ → Rest → Rest
next l c = record { left = c.left + 2; right = c.right + 2; parts = c.parts - 1 + node_parts (node_at l c.left); budget = c.budget - 1 }

-- the first nodes compared, neither of which is a solved unknown
abbrev pub node_met : List ℕ → List ℕ → Rest → Result Rest Unlike
node_met l r c = cond (eq_node (node_at l c.left) (node_at r c.right)) (cond (eqb c.budget 0) (Err Over) (Ok (next l c))) (Err Differ)

-- there are first nodes, within the budget; they are the same and no unknowns
abbrev pub alike_at : List ℕ → List ℕ → Rest → Bool
alike_at l r c = not (eqb c.parts 0) && (not (eqb c.budget 0) && (not (eqb (get_or l c.left 0) 17) && eq_node (node_at l c.left) (node_at r c.right)))

-- past such nodes, n at most
unfoldable pub skipped : ℕ → List ℕ → List ℕ → Rest → Rest
skipped zero l r c = c
skipped (suc n) l r c = cond (alike_at l r c) (skipped n l r (next l c)) c

-- what goes on as f tells where the same nodes were met
abbrev pub onward : (Rest → Rest) → Result Rest Unlike → Result Rest Unlike
onward f (Ok d) = Ok (f d)
onward f (Err e) = Err e

-- by where the solutions of the first nodes stand: one that is followed has met the first type against it
abbrev pub first_by : List ℕ → List ℕ → List ℕ → Rest → Option Place → Option Place → Result Rest Unlike
first_by l r k c (Some p) q = onward (λ d. record { left = c.left + 2; right = d.right; parts = c.parts - 1; budget = d.budget })
    (compared k r k (record { left = p.start; right = c.right; parts = 1; budget = c.budget }))
first_by l r k c None (Some q) = onward (λ d. record { left = d.left; right = c.right + 2; parts = c.parts - 1; budget = d.budget })
    (compared l k k (record { left = c.left; right = q.start; parts = 1; budget = c.budget }))
first_by l r k c None None = node_met l r c

unfoldable pub first_met : List ℕ → List ℕ → List ℕ → Rest → Result Rest Unlike
first_met l r k c = first_by l r k c (place_of k (get_or l c.left 0) (get_or l (c.left + 1) 0)) (place_of k (get_or r c.right 0) (get_or r (c.right + 1) 0))

-- the first nodes tell two types apart: there are some, none is a solved unknown, and they are not the same
abbrev pub apart_by : Option Place → Option Place → Bool → Bool
apart_by (Some p) q same = false
apart_by None (Some q) same = false
apart_by None None same = not same

abbrev pub apart_at : List ℕ → List ℕ → List ℕ → Rest → Bool
apart_at l r k c = not (eqb c.parts 0) && apart_by (place_of k (get_or l c.left 0) (get_or l (c.left + 1) 0)) (place_of k (get_or r c.right 0) (get_or r (c.right + 1) 0)) (eq_node (node_at l c.left) (node_at r c.right))

-- ---- what a call asks
-- Whole types on either side.
pub record Sides (l r : List ℕ) (c : Rest) : Type 0 where
  pub left : Whole node_parts (parts_from l c.left c.parts) c.parts
  pub right : Whole node_parts (parts_from r c.right c.parts) c.parts

-- These, and a book of whole types.
pub record MeetAsk (l r k : List ℕ) (c : Rest) : Type 0 where
  pub sides : Sides l r c
  pub book : (b : Book) × Booked k b
  pub solutions : All (λ x. Whole node_parts (value x) 1) (sols k)

-- A node on either side.
pub record FirstAsk (l r : List ℕ) (c : Rest) : Type 0 where
  pub some : c.parts ≢ 0
  pub left : c.left + 2 ≤ length l
  pub right : c.right + 2 ≤ length r
  pub few : c.parts - 1 + node_parts (node_at l c.left) ≤ length l

-- The same, within the budget, by the words of the left side alone.
pub record NextAsk (l : List ℕ) (c : Rest) : Type 0 where
  pub some : c.parts ≢ 0
  pub left : c.left + 2 ≤ length l
  pub right : c.right + 2 < 2 ^ 64
  pub few : c.parts - 1 + node_parts (node_at l c.left) ≤ length l
  pub budget : c.budget ≢ 0
