-- The board's words, and the entries that they hold. Assumes nothing: these are definitions.
-- Entry i has words 8 i to 8 i + 3: what it is, its number, and how many nodes its two types have. The nodes of all
-- types stand from word 4,096 on, two words each, entry by entry, up to word 12,287, the last.
use Rattle.nodes.specs.declared.Place.{Place}
use Rattle.std.specs.Prelude.{◌≡◌, Bool, cond, ◌&&◌, List, [], ◌∷◌, ◌++◌, ℕ, zero, suc, ◌+◌, ◌*◌, ◌-◌, ◌≤◌, ◌<◌, length, get_or, drop, eqb, leb, ltb, Option, None, Some}
use Rattle.std.proofs.lemmas.List.Edits.{sets}
use Rattle.sizes.specs.Sizes.{most_entries, most_nodes, board_base, board_size, board_stride}
use Rattle.nodes.specs.Nodes.{node, Ty, kind, number, words, nodes_at}
use Rattle.nodes.specs.Parts.{take_parts}
use Rattle.spelling.specs.declared.Triple.{Triple}
use Rattle.kinds.specs.Kinds.{parts_of}
use Rattle.judgment.specs.Types.{is_node}
use Rattle.judgment.specs.Terms.{Term}
use Rattle.judgment.specs.Board.{Entry, tvar, var, sub, inf, chk, inf_app, entry_nodes}
use Rattle.judgment.specs.Board.{Board as Entries}
use Rattle.board.specs.declared.Board.{Board}
use Rattle.board.specs.declared.Top.{Top}

-- what stands from a line on, and the term that starts there
abbrev pub from_line : List Triple → ℕ → Term
from_line ls p = record { line = p; lines = drop p ls }

unfoldable pub term_at : List Triple → ℕ → Term
term_at ls p = record { line = p; lines = take_parts parts_of (drop p ls) 1 }

-- What an entry is: 2 Var, 3 Sub, 4 Inf, 5 Chk, 6 InfApp; any other kind is that of the node that a TVar names. Its
-- number is a Var's name, a term's first line, or the number of that node.
unfoldable pub entry_of : List Triple → ℕ → ℕ → Ty → Ty → Entry
entry_of ls k n l r =
    cond (eqb k 2) (var n l) (cond (eqb k 3) (sub l r) (cond (eqb k 4) (inf (term_at ls n) l) (cond (eqb k 5) (chk (term_at ls n) l)
    (cond (eqb k 6) (inf_app l (term_at ls n) r) (tvar (node k n))))))

-- an entry as the board's words have it: what it is, its number, its two types
pub record Slot : Type 0 where
  pub kind : ℕ
  pub number : ℕ
  pub left : Ty
  pub right : Ty

abbrev pub slot_of : Entry → Slot
slot_of (tvar x) = record { kind = kind x; number = number x; left = []; right = [] }
slot_of (var x t) = record { kind = 2; number = x; left = t; right = [] }
slot_of (sub s t) = record { kind = 3; number = 0; left = s; right = t }
slot_of (inf e t) = record { kind = 4; number = e.line; left = t; right = [] }
slot_of (chk e t) = record { kind = 5; number = e.line; left = t; right = [] }
slot_of (inf_app f e t) = record { kind = 6; number = e.line; left = f; right = t }

abbrev pub word : List ℕ → ℕ → ℕ → ℕ
word w i k = get_or w (board_stride * i + k) 0

abbrev pub size : List ℕ → ℕ → ℕ
size w i = word w i 2 + word w i 3

-- how many nodes the entries below entry i have
unfoldable pub nodes_below : List ℕ → ℕ → ℕ
nodes_below w zero = 0
nodes_below w (suc i) = nodes_below w i + size w i

-- where the nodes of entry i's types stand
abbrev pub left_at : List ℕ → ℕ → ℕ
left_at w i = board_base + 2 * nodes_below w i

abbrev pub entry_at : List Triple → List ℕ → ℕ → Entry
entry_at ls w i =
    entry_of ls (word w i 0) (word w i 1) (nodes_at w (left_at w i) (word w i 2)) (nodes_at w (left_at w i + 2 * word w i 2) (word w i 3))

-- the newest first
unfoldable pub entries_of : List Triple → List ℕ → ℕ → Entries
entries_of ls w zero = []
entries_of ls w (suc i) = entry_at ls w i ∷ entries_of ls w i

-- the words of a board: its nodes are those of its entries, and an entry's types are all that it counts
pub record Stacked (w : List ℕ) (b : Board) : Type 0 where
  pub room : board_size ≤ length w
  pub few_entries : b.entries ≤ most_entries
  pub few_nodes : b.nodes ≤ most_nodes
  pub nodes : nodes_below w b.entries ≡ b.nodes
  pub counted : (i : ℕ) → i < b.entries → (ls : List Triple) → entry_nodes (entry_at ls w i) ≡ size w i

-- ---- push
-- one more entry, of n nodes, passes neither limit
abbrev pub fitting : Board → ℕ → Bool
fitting b n = ltb b.entries most_entries && leb (b.nodes + n) most_nodes

-- three more entries, of n nodes together, pass neither limit
abbrev pub fitting_three : Board → ℕ → Bool
fitting_three b n = ltb b.entries (most_entries - 2) && leb (b.nodes + n) most_nodes

-- the words of the next entry itself
abbrev pub headed : List ℕ → Board → ℕ → ℕ → ℕ → ℕ → List ℕ
headed w b k n ln rn = sets w (board_stride * b.entries) (k ∷ n ∷ ln ∷ rn ∷ [])

unfoldable pub laid : List ℕ → Board → ℕ → ℕ → Ty → Ty → List ℕ
laid w b k n t u = sets (headed w b k n (length t) (length u)) (board_base + 2 * b.nodes) (words (t ++ u))

abbrev pub grown : Board → ℕ → Board
grown b n = record { entries = b.entries + 1; nodes = b.nodes + n }

pub record LayAsk (w : List ℕ) (b : Board) (ln rn : ℕ) : Type 0 where
  pub room : board_size ≤ length w
  pub few : b.entries < most_entries
  pub fits : b.nodes + (ln + rn) ≤ most_nodes

pub record PushAsk (w : List ℕ) (b : Board) (l : List ℕ) (la ln : ℕ) (r : List ℕ) (ra rn : ℕ) : Type 0 where
  pub room : board_size ≤ length w
  pub few : b.entries < most_entries
  pub fits : b.nodes + (ln + rn) ≤ most_nodes
  pub left : la + 2 * ln ≤ length l
  pub right : ra + 2 * rn ≤ length r

-- ---- pop
-- the newest entry, where its types stand, and the board without it
unfoldable pub top_of : List ℕ → Board → Top
top_of w b =
    let i = b.entries - 1 in
    let n = b.nodes - size w i in
    record {
      kind = word w i 0;
      number = word w i 1;
      at = board_base + 2 * n;
      left = word w i 2;
      right = word w i 3;
      rest = record { entries = i; nodes = n };
    }

-- ---- find_var
-- where the type of the newest Var of that name stands, among the entries below entry i
unfoldable pub var_place : ℕ → List ℕ → ℕ → Option Place
var_place x w zero = None
var_place x w (suc i) =
    let older = var_place x w i in
    cond (is_node 2 x (node (word w i 0) (word w i 1))) (Some (record { start = left_at w i; count = word w i 2 })) older

abbrev pub type_in : List ℕ → Option Place → Option Ty
type_in w (Some p) = Some (nodes_at w p.start p.count)
type_in w None = None
