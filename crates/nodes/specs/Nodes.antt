-- Types as lists of nodes in prefix order, and how words hold them. Assumes nothing: these are definitions.
use Rattle.std.specs.Prelude.{ℕ, zero, suc, ◌+◌, cond, List, [], ◌∷◌, eqb, get_or, replicate}

-- A node is its kind and its number: a name, a number, a Product's count; 0 for Arrow and App.
-- Kinds: 11 Var, 12 Con, 13 Arrow, 14 Forall, 15 App, 16 Product, 17 unknown (`ETVar`), 18 fresh universal.
pub data Node : Type 0 where
  node : ℕ → ℕ → Node

-- a type: its nodes, each before its parts
abbrev pub Ty : Type 0
Ty = List Node

abbrev pub kind : Node → ℕ
kind (node k v) = k

abbrev pub number : Node → ℕ
number (node k v) = v

-- how many types follow a node
abbrev pub node_parts : Node → ℕ
node_parts (node k v) = cond (eqb k 13) 2 (cond (eqb k 14) 1 (cond (eqb k 15) 2 (cond (eqb k 16) v 0)))

-- the words that hold a list of nodes
unfoldable pub words : Ty → List ℕ
words [] = []
words (node k v ∷ t) = k ∷ v ∷ words t

-- the node that stands at word p of b
abbrev pub node_at : List ℕ → ℕ → Node
node_at b p = node (get_or b p 0) (get_or b (p + 1) 0)

-- the n nodes that stand in b from word p on
unfoldable pub nodes_at : List ℕ → ℕ → ℕ → Ty
nodes_at b p zero = []
nodes_at b p (suc n) = node_at b p ∷ nodes_at b (p + 2) n

-- n words that are 0; shut, so that no comparison goes through them one by one
unfoldable pub zeros : ℕ → List ℕ
zeros n = replicate n 0
