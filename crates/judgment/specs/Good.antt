-- A good state: what every state of a run has, and all that is asked of the state from which a run starts. Assumes nothing: these are definitions.
use Rattle.std.specs.Prelude.{ℕ, ◌<◌, ◌≡◌, ◌≢◌, false, List, length}
use Rattle.nodes.specs.Lists.{All, In}
use Rattle.nodes.specs.Nodes.{Node, node, Ty, kind, number, node_parts}
use Rattle.nodes.specs.Parts.{Whole}
use Rattle.kinds.specs.Kinds.{a_term}
use Rattle.sheet.specs.Plan.{line_node}
use Rattle.sheet.specs.Form.{IsPart}
use Rattle.judgment.specs.Types.{is_node}
use Rattle.judgment.specs.Terms.{Term}
use Rattle.judgment.specs.Solutions.{Solution, ◌≔◌, Solutions, key, value, Distinct, solved_unknowns}
use Rattle.judgment.specs.Board.{Entry, tvar, var, sub, inf, chk, inf_app, Board}

-- ---- solutions that lead nowhere back
-- a node that is not the unknown k; that is none of the unknowns ks
abbrev pub Avoids : ℕ → Node → Type 0
Avoids k n = is_node 17 k n ≡ false

abbrev pub Free : List ℕ → Node → Type 0
Free ks n = All (λ k. Avoids k n) ks

-- a node that is no solved unknown of rank m or above
abbrev pub Under : (ℕ → ℕ) → Solutions → ℕ → Node → Type 0
Under rank σ m n = (j : ℕ) (s : Ty) → n ≡ node 17 j → In (◌≔◌ j s) σ → rank j < m

-- Each unknown is solved once, and following solutions goes down in rank. They may stand in any order.
pub record Fine (σ : Solutions) : Type 0 where
  pub rank : ℕ → ℕ
  pub once : Distinct (solved_unknowns σ)
  pub low : All (λ x. rank (key x) < length σ) σ
  pub falls : All (λ x. All (Under rank σ (rank (key x))) (value x)) σ

-- ---- one whole type, one whole term
abbrev pub IsTy : Ty → Type 0
IsTy t = Whole node_parts t 1

abbrev pub TermOK : Term → Type 0
TermOK e = IsPart a_term e.lines

abbrev pub EntryWhole : Entry → Type 0
EntryWhole (tvar n) = Unit {0}
EntryWhole (var x t) = IsTy t
EntryWhole (sub s t) = IsTy s × IsTy t
EntryWhole (inf e t) = TermOK e × IsTy t
EntryWhole (chk e t) = TermOK e × IsTy t
EntryWhole (inf_app f e t) = IsTy f × TermOK e × IsTy t

-- ---- nodes
-- of the lines of a term, read as nodes
abbrev pub Lines : (Node → Type 0) → Term → Type 0
Lines P e = All (λ l. P (line_node l)) e.lines

-- no quantifier
abbrev pub Mono : Node → Type 0
Mono x = kind x ≢ 14

-- Plain: what is to hold of a plan for its run to have no quantifier
module _ (Plain : Type 0) where
  -- a node whose unknown was made before the number n; in a plain run, no quantifier and no type abstraction
  abbrev pub OK : ℕ → Node → Type 0
  OK n x = (kind x ≡ 17 → number x < n) × (Plain → (kind x ≢ 14) × (kind x ≢ 25))

  abbrev pub EntryOK : ℕ → Entry → Type 0
  EntryOK n (tvar x) = Unit {0}
  EntryOK n (var x t) = All (OK n) t
  EntryOK n (sub s t) = All (OK n) s × All (OK n) t
  EntryOK n (inf e t) = Lines (OK n) e × All (OK n) t
  EntryOK n (chk e t) = Lines (OK n) e × All (OK n) t
  EntryOK n (inf_app f e t) = All (OK n) f × Lines (OK n) e × All (OK n) t

  -- a solution of an unknown that was made
  abbrev pub SolutionOK : ℕ → Solution → Type 0
  SolutionOK n x = (key x < n) × All (OK n) (value x) × All Mono (value x)

  -- what every rule keeps
  pub record Inv (Γ : Board) (σ : Solutions) (n : ℕ) : Type 0 where
    pub entries : All (EntryOK n) Γ
    pub fine : Fine σ
    pub solutions : All (SolutionOK n) σ

  pub record StateOK (Γ : Board) (σ : Solutions) (n : ℕ) : Type 0 where
    pub inv : Inv Γ σ n
    pub entries : All EntryWhole Γ
    pub solutions : All (λ x. IsTy (value x)) σ
