-- The arms of a Case, read one after the other. Assumes nothing: these are definitions.
use Rattle.std.specs.Prelude.{◌≡◌, List, [], ◌∷◌, ℕ, zero, suc, ◌+◌, ◌*◌, ◌≤◌, length}
use Rattle.sizes.specs.Sizes.{most_nodes, most_numbers}
use Rattle.nodes.specs.Nodes.{Ty}
use Rattle.nodes.specs.Lists.{All}
use Rattle.spelling.specs.declared.Triple.{Triple}
use Rattle.sheet.specs.Plan.{Narrow}
use Rattle.judgment.specs.Types.{unknown}
use Rattle.judgment.specs.Terms.{Term, part, after_parts}
use Rattle.judgment.specs.Board.{chk, push}
use Rattle.judgment.specs.Rules.{push_vars, check_patterns}
use Rattle.board.specs.Board.{from_line}
use Rattle.operations.specs.declared.Run.{Run}
use Rattle.operations.specs.State.{Bookable}
use Rattle.tables.specs.Rows.{Sound}
use Rattle.patterns.specs.Turns.{Ready, Turn}
use Rattle.patterns.specs.Readings.{env_at, Sheet}
use Rattle.arms.specs.declared.Arm.{Arm}

pub record VarsAsk (b : List ℕ) (c : Run) (ls : List Triple) (v : List ℕ) (n : ℕ) (l : List ℕ) : Type 0 where
  pub ready : Ready b c
  pub sound : Sound ls v n
  pub few : n ≤ most_nodes
  pub rows : 6 * n ≤ length v
  pub left : 2 * length ls + 2 ≤ length l

-- what all arms share: the scrutinee's unknown, the tables and scratch, the type of the bodies
pub record Lent (ls : List Triple) (u : ℕ) (w v l r t : List ℕ) (ta tn : ℕ) : Type 0 where
  pub sheet : Sheet ls
  pub low : u ≤ most_numbers
  pub frames : 6 * length ls + 12 ≤ length w
  pub rows : 6 * length ls + 6 ≤ length v
  pub left : 2 * length ls + 2 ≤ length l
  pub right : 2 * length ls + 2 ≤ length r
  pub type : ta + 2 * tn ≤ length t

pub record ArmAsk (b : List ℕ) (c : Run) (ls : List Triple) (first u : ℕ) (w v l r t : List ℕ) (ta tn : ℕ) : Type 0 where
  pub formed : Bookable b c
  pub ready : Ready b c
  pub lent : Lent ls u w v l r t ta tn
  pub within : first ≤ length ls
  pub narrow : All Narrow (part 0 (from_line ls first)).lines

-- an arm, and then whatever follows
pub record Armed (b : List ℕ) (c : Run) (ls : List Triple) (first u : ℕ) (t : Ty) (b' : List ℕ) (o : Arm) : Type 0 where
  pub within : o.next ≤ length ls
  pub after : from_line ls o.next ≡ after_parts 2 (from_line ls first)
  pub turn : Turn {A = ℕ} ls b c (λ f. check_patterns (env_at ls) (part 0 (from_line ls first)).lines (unknown u ∷ []) [] (λ bs. push_vars bs (push (chk (part 1 (from_line ls first)) t) (f 0)))) b' o.run (λ f. f 0)

-- n arms whose patterns have names of one word
unfoldable pub NarrowArms : ℕ → Term → Type 0
NarrowArms zero e = Unit
NarrowArms (suc n) e = All Narrow (part 0 e).lines × NarrowArms n (after_parts 2 e)

pub record ArmsAsk (b : List ℕ) (c : Run) (ls : List Triple) (line n u : ℕ) (w v l r t : List ℕ) (ta tn : ℕ) : Type 0 where
  pub formed : Bookable b c
  pub ready : Ready b c
  pub lent : Lent ls u w v l r t ta tn
  pub within : line ≤ length ls
  pub narrow : NarrowArms n (from_line ls line)

-- a Case of n arms, the first at `line`; the bodies must have the type of tn nodes at the front of t
pub record CaseAsk (b : List ℕ) (c : Run) (ls : List Triple) (line n : ℕ) (w v l r t : List ℕ) (tn : ℕ) : Type 0 where
  pub formed : Bookable b c
  pub ready : Ready b c
  pub sheet : Sheet ls
  pub frames : 6 * length ls + 12 ≤ length w
  pub rows : 6 * length ls + 6 ≤ length v
  pub left : 2 * length ls + 2 ≤ length l
  pub right : 2 * length ls + 2 ≤ length r
  pub type : 2 * tn ≤ length t
  pub within : line ≤ length ls
  pub narrow : NarrowArms n (from_line ls line)
