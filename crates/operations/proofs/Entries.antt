-- What a push asks, by the kind of its entry. Assumes nothing.
use Rattle.std.proofs.Common.{◌≡◌, ap, List, [], ℕ, ◌+◌, ◌*◌, ◌≤◌, ◌<◌, arith, length}
use Rattle.nodes.specs.Nodes.{node, Ty, nodes_at}
use Rattle.spelling.specs.declared.Triple.{Triple}
use Rattle.judgment.specs.Board.{tvar}
use Rattle.board.specs.Board.{entry_of, Stacked, slot_of}
use Rattle.board.proofs.Finds.{tvar-is}
use Rattle.operations.specs.declared.Run.{Run}
use Rattle.operations.specs.State.{Pushes, PushAsk}

module _ {b : List ℕ} {c : Run} (kind number : ℕ) where
  -- an entry of two types
  pub two-types : {l : List ℕ} {la ln : ℕ} {r : List ℕ} {ra rn : ℕ} → ((ls : List Triple) (t u : Ty) → slot_of (entry_of ls kind number t u) ≡ record { kind = kind; number = number; left = t; right = u })
      → Stacked b c.counters.board → la + 2 * ln ≤ length l → ra + 2 * rn ≤ length r → PushAsk b c kind number l la ln r ra rn
  two-types {l} {la} {ln} {r} {ra} {rn} h s x y = record { board = s; left = x; right = y; entry = λ ls. h ls (nodes_at l la ln) (nodes_at r ra rn) }

  -- an entry of one type
  pub one_type : {l : List ℕ} {la ln : ℕ} → ((ls : List Triple) (t u : Ty) → slot_of (entry_of ls kind number t u) ≡ record { kind = kind; number = number; left = t; right = [] })
      → Stacked b c.counters.board → la + 2 * ln ≤ length l → PushAsk b c kind number l la ln l 0 0
  unfolding nodes_at
  one_type {l} {la} {ln} h s x = record { board = s; left = x; right = omega arith; entry = λ ls. h ls (nodes_at l la ln) [] }

  -- a TVar
  pub no-type : {l : List ℕ} → 6 < kind → Stacked b c.counters.board → PushAsk b c kind number l 0 0 l 0 0
  unfolding nodes_at
  no-type {l} h s = record { board = s; left = omega arith; right = omega arith; entry = λ ls. ap slot_of (tvar-is ls kind number [] [] h) }

-- the entry of a kind above 6 is a TVar
pub tvar-pushes : (b : List ℕ) (c : Run) (kind number : ℕ) (l b' : List ℕ) (r : Run) → 6 < kind
    → Pushes b c kind number (nodes_at l 0 0) (nodes_at l 0 0) (λ ls. entry_of ls kind number (nodes_at l 0 0) (nodes_at l 0 0)) b' r
    → Pushes b c kind number [] [] (λ ls. tvar (node kind number)) b' r
unfolding nodes_at
tvar-pushes b c kind number l b' r h p = (
  p.0,
  p.1,
  λ w ls k rep f.
      let d = p.2 w ls k rep f in
      record { kept = d.kept; taken = d.taken; outcome = rw (← tvar-is ls kind number [] [] h) d.outcome },
)
