-- The board, and the operations that the rules are made of, with the limits that they test.
-- Assumes nothing.
use Rattle.std.specs.Prelude.{ℕ, suc, ◌+◌, Bool, true, false, cond, ◌&&◌, List, [], ◌∷◌, ◌++◌, eqb, leb, ltb, length, Option, None, Some}
use Rattle.nodes.specs.Nodes.{Node, Ty}
use Rattle.judgment.specs.declared.TypeError.{TypeError}
use Rattle.judgment.specs.declared.TypeError.TheVariants.{TypeUnificationError, BoardFull, TypeTooLong, NoFreshNumber, SolutionsFull, OutOfScope}
use Rattle.judgment.specs.Types.{is_node, can_unify}
use Rattle.judgment.specs.Terms.{Term}
use Rattle.judgment.specs.Solutions.{◌≔◌, Solutions, find, write_out, solution_nodes}

-- An entry. A TVar is named by a node: 11 a name, 17 an unknown, 18 a fresh universal.
pub data Entry : Type 0 where
  tvar : Node → Entry
  var : ℕ → Ty → Entry
  sub : Ty → Ty → Entry
  inf chk : Term → Ty → Entry
  inf_app : Ty → Term → Ty → Entry

-- the newest entry comes first
abbrev pub Board : Type 0
Board = List Entry

abbrev pub entry_nodes : Entry → ℕ
entry_nodes (tvar n) = 0
entry_nodes (var x t) = length t
entry_nodes (sub s t) = length s + length t
entry_nodes (inf e t) = length t
entry_nodes (chk e t) = length t
entry_nodes (inf_app f e t) = length f + length t

unfoldable pub board_nodes : Board → ℕ
board_nodes [] = 0
board_nodes (e ∷ Γ) = entry_nodes e + board_nodes Γ

-- `find_var`: the newest
abbrev pub var_named : ℕ → Entry → Option Ty
var_named x (tvar n) = None
var_named x (var y t) = cond (eqb x y) (Some t) None
var_named x (sub s t) = None
var_named x (inf e t) = None
var_named x (chk e t) = None
var_named x (inf_app f e t) = None

abbrev pub or_else : {A : Type 0} → Option A → Option A → Option A
or_else None y = y
or_else (Some a) y = Some a

unfoldable pub find_var : ℕ → Board → Option Ty
find_var x [] = None
find_var x (e ∷ Γ) = or_else (var_named x e) (find_var x Γ)

-- `before`: the newest TVar of a is older than the newest one of b
abbrev pub is_t_var : ℕ → Entry → Bool
is_t_var k (tvar n) = is_node 17 k n
is_t_var k (var x t) = false
is_t_var k (sub s t) = false
is_t_var k (inf e t) = false
is_t_var k (chk e t) = false
is_t_var k (inf_app f e t) = false

abbrev pub has_t_var : ℕ → Board → Bool
has_t_var k [] = false
has_t_var k (e ∷ Γ) = cond (is_t_var k e) true (has_t_var k Γ)

unfoldable pub before : ℕ → ℕ → Board → Bool
before a b [] = false
before a b (e ∷ Γ) = cond (is_t_var a e) false (cond (is_t_var b e) (has_t_var a Γ) (before a b Γ))

-- a limit, or none
pub data Limit : Type 0 where
  up_to : ℕ → Limit
  unlimited : Limit

abbrev pub within : ℕ → Limit → Bool
within k (up_to m) = leb k m
within k unlimited = true

abbrev pub below : ℕ → Limit → Bool
below n (up_to m) = ltb n m
below n unlimited = true

-- document 01's limits: entries and type nodes on the board, nodes of one written-out type, fresh numbers, nodes of all solutions; and document 02's scope: whether an unknown may have a solution
pub record Limits : Type 0 where
  pub entries : Limit
  pub nodes : Limit
  pub written : Limit
  pub numbers : Limit
  pub solved : Limit
  pub scope : ℕ → Ty → Bool

-- What a fresh number is for: an unknown of its own, a universal, or one of the two that an unknown is split into.
pub data Origin : Type 0 where
  own universal : Origin
  splits : ℕ → Origin

-- What a rule does, operation by operation; each hands on what it read or made.
pub data Rule : Type 0 where
  done : Rule
  refuse : TypeError → Ty → Rule  -- with the types that are reported
  fresh : Origin → (ℕ → Rule) → Rule
  push : Entry → Rule → Rule
  solve : ℕ → Ty → Rule → Rule
  zonk : Ty → (Ty → Rule) → Rule
  look : (Board → Rule) → Rule

-- `do` blocks of rules: `a ← fresh own`, then the rest
abbrev pub ◌>>=◌ : {A : Type 0} → ((A → Rule) → Rule) → (A → Rule) → Rule
◌>>=◌ m f = m f

abbrev pub ◌>>◌ : (Rule → Rule) → Rule → Rule
◌>>◌ m p = m p

-- board, solutions, counter
pub data State : Type 0 where
  state : Board → Solutions → ℕ → State

pub data Outcome : Type 0 where
  finished : State → Outcome
  refused : TypeError → Ty → State → Outcome

-- An operation that a rule did: a number made, an entry pushed, a solution given; or a solve that met an unknown solved before.
pub data Operation : Type 0 where
  made : Origin → ℕ → Operation
  pushed : Entry → Operation
  gave : ℕ → Ty → Operation
  met : ℕ → Operation

-- `solve_evar`: an unknown with a solution keeps it, if the new one can be unified with it. For one without, scope is tested before size.
abbrev pub solving : {A : Type 0} → Option Ty → Ty → A → A → A → A
solving None s new same clash = new
solving (Some t) s new same clash = cond (can_unify s t) same clash

-- A rule performed. A refusal keeps the state that it met.
module _ (L : Limits) where
  abbrev pub room_for : Entry → Board → Bool
  room_for e Γ = within (length (e ∷ Γ)) L.entries && within (board_nodes (e ∷ Γ)) L.nodes

  unfoldable pub perform : Rule → Board → Solutions → ℕ → Outcome
  perform done Γ σ n = finished (state Γ σ n)
  perform (refuse r ts) Γ σ n = refused r ts (state Γ σ n)
  perform (fresh g f) Γ σ n =
      cond (below n L.numbers) (perform (f n) Γ σ (suc n)) (refused NoFreshNumber [] (state Γ σ n))
  perform (push e p) Γ σ n =
      cond (room_for e Γ) (perform p (e ∷ Γ) σ n) (refused BoardFull [] (state Γ σ n))
  perform (solve k s p) Γ σ n =
      solving (find k σ) s
      (cond (L.scope k s)
      (cond (within (solution_nodes σ + length s) L.solved) (perform p Γ (σ ++ (◌≔◌ k s ∷ [])) n) (refused SolutionsFull [] (state Γ σ n)))
      (refused OutOfScope [] (state Γ σ n)))
      (perform p Γ σ n)
      (refused TypeUnificationError [] (state Γ σ n))
  perform (zonk t f) Γ σ n =
      cond (within (length (write_out σ t)) L.written) (perform (f (write_out σ t)) Γ σ n) (refused TypeTooLong [] (state Γ σ n))
  perform (look f) Γ σ n = perform (f Γ) Γ σ n

  -- what the rule did: the operations that were granted, in order
  unfoldable pub operations : Rule → Board → Solutions → ℕ → List Operation
  operations done Γ σ n = []
  operations (refuse r ts) Γ σ n = []
  operations (fresh g f) Γ σ n = cond (below n L.numbers) (made g n ∷ operations (f n) Γ σ (suc n)) []
  operations (push e p) Γ σ n = cond (room_for e Γ) (pushed e ∷ operations p (e ∷ Γ) σ n) []
  operations (solve k s p) Γ σ n =
      solving (find k σ) s
      (cond (L.scope k s) (cond (within (solution_nodes σ + length s) L.solved) (gave k s ∷ operations p Γ (σ ++ (◌≔◌ k s ∷ [])) n) []) [])
      (met k ∷ operations p Γ σ n)
      (met k ∷ [])
  operations (zonk t f) Γ σ n = cond (within (length (write_out σ t)) L.written) (operations (f (write_out σ t)) Γ σ n) []
  operations (look f) Γ σ n = operations (f Γ) Γ σ n
