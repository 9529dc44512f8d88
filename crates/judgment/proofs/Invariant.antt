-- What every state of a run has, and what a rule must show to keep it.
-- Assumes nothing.
use Rattle.std.specs.Prelude.{Option, None, Some}
use Prim.Native.Nat.{ℕ, suc, ◌+◌, ◌≤◌, ◌<◌}
use native.Mathlib.Nat.{le_trans}
use native.Mathlib.Omega.{arith}
use mathlib.Core.Path.{◌≡◌, refl, sym, ◌∙◌, subst⁻¹}
use mathlib.Core.Bool.{cond}
use mathlib.Core.List.{[], ◌∷◌, ◌++◌, append-nil, append_assoc}
use lib.ListN.{length}
use Rattle.nodes.specs.Lists.{All}
use Rattle.nodes.proofs.ListLaws.{cond_ind, all_map, all_append}
use Rattle.nodes.specs.Nodes.{Node, node, Ty}
use Rattle.judgment.specs.Types.{can_unify}
use Rattle.sheet.specs.Plan.{line_node}
use Rattle.judgment.specs.Terms.{Term}
use Rattle.judgment.specs.declared.TypeError.{TypeError}
use Rattle.judgment.specs.declared.TypeError.TheVariants.{UnboundVariable, UnboundDataConstructor, NotAFunction, ArityMismatch, SubtypingError, TypeUnificationError, InstantiationError, IntrinsicArityMismatch, UnknownIntrinsic, BoardFull, TypeTooLong, NoFreshNumber, SolutionsFull, OutOfScope}
use Rattle.judgment.specs.Solutions.{Solution, ◌≔◌, Solutions, value, find, write_out, solution_nodes, solved_unknowns}
use Rattle.judgment.proofs.SolutionLaws.{fine-snoc, find_none}
use Rattle.judgment.specs.Board.{below, within, Entry, tvar, var, sub, inf, chk, inf_app, Board, Limits, Origin, own, universal, splits, Rule, done, refuse, fresh, push, solve, zonk, look, state, Outcome, finished, refused, perform, room_for, solving}
use Rattle.judgment.specs.Good.{Free, Lines, Mono, OK, EntryOK, SolutionOK, Inv}

-- the refusal that no run meets
abbrev pub NotClash : TypeError → Type 0
NotClash (UnboundVariable x) = Unit {0}
NotClash (UnboundDataConstructor x) = Unit {0}
NotClash (NotAFunction n) = Unit {0}
NotClash (ArityMismatch e a) = Unit {0}
NotClash (SubtypingError l r) = Unit {0}
NotClash TypeUnificationError = ⊥
NotClash (InstantiationError k n) = Unit {0}
NotClash (IntrinsicArityMismatch a) = Unit {0}
NotClash (UnknownIntrinsic x) = Unit {0}
NotClash BoardFull = Unit {0}
NotClash TypeTooLong = Unit {0}
NotClash NoFreshNumber = Unit {0}
NotClash SolutionsFull = Unit {0}
NotClash OutOfScope = Unit {0}

-- an unknown is split that was made before the number n
abbrev pub Earlier : ℕ → Origin → Type 0
Earlier n own = Unit {0}
Earlier n universal = Unit {0}
Earlier n (splits k) = k < n

module _ (Plain : Type 0) where
  -- a later number
  pub ok-later : {m n : ℕ} → m ≤ n → (x : Node) → OK Plain m x → OK Plain n x
  ok-later l x h = (λ e. le_trans (h.0 e) l, h.1)

  pub all-later : {m n : ℕ} → m ≤ n → (t : Ty) → All (OK Plain m) t → All (OK Plain n) t
  all-later l t h = all_map (ok-later l) t h

  pub lines-later : {m n : ℕ} → m ≤ n → (e : Term) → Lines (OK Plain m) e → Lines (OK Plain n) e
  lines-later l e h = all_map (λ x. ok-later l (line_node x)) e.lines h

  entry-later : {m n : ℕ} → m ≤ n → (e : Entry) → EntryOK Plain m e → EntryOK Plain n e
  entry-later l (tvar x) h = tt
  entry-later l (var x t) h = all-later l t h
  entry-later l (sub s t) h = (all-later l s h.0, all-later l t h.1)
  entry-later l (inf e t) h = (lines-later l e h.0, all-later l t h.1)
  entry-later l (chk e t) h = (lines-later l e h.0, all-later l t h.1)
  entry-later l (inf_app f e t) h = (all-later l f h.0, lines-later l e h.1, all-later l t h.2)

  solution-later : {m n : ℕ} → m ≤ n → (x : Solution) → SolutionOK Plain m x → SolutionOK Plain n x
  solution-later l x h = (le_trans h.0 l, all-later l (value x) h.1, h.2)

  -- what a rule must show of a solution that it gives
  pub record SolveOK (σ : Solutions) (n k : ℕ) (s : Ty) : Type 0 where
    pub unsolved : Free (solved_unknowns σ) (node 17 k)
    pub made : k < n
    pub free : All (Free (k ∷ solved_unknowns σ)) s
    pub ok : All (OK Plain n) s
    pub mono : All Mono s

  -- A rule keeps the invariant, and where it finishes Q holds of the state that it leaves.
  abbrev pub Good : Rule → Board → Solutions → ℕ → (Board → Solutions → ℕ → Type 0) → Type 0
  Good done Γ σ n Q = Q Γ σ n
  Good (refuse r ts) Γ σ n Q = NotClash r
  Good (fresh o f) Γ σ n Q = Earlier n o × Good (f n) Γ σ (suc n) Q
  Good (push e p) Γ σ n Q = EntryOK Plain n e × Good p (e ∷ Γ) σ n Q
  Good (solve k s p) Γ σ n Q = SolveOK σ n k s × Good p Γ (σ ++ (◌≔◌ k s ∷ [])) n Q
  Good (zonk t f) Γ σ n Q = Good (f (write_out σ t)) Γ σ n Q
  Good (look f) Γ σ n Q = Good (f Γ) Γ σ n Q

  abbrev pub Kept : (Board → Solutions → ℕ → Type 0) → Outcome → Type 0
  Kept Q (finished (state Γ σ n)) = Inv Plain Γ σ n × Q Γ σ n
  Kept Q (refused r ts (state Γ σ n)) = Inv Plain Γ σ n × NotClash r

  pub inv-fresh : {Γ : Board} {σ : Solutions} {n : ℕ} → Inv Plain Γ σ n → Inv Plain Γ σ (suc n)
  inv-fresh {Γ} {σ} {n} i = record {
    entries = all_map (entry-later {m = n} (omega arith)) Γ i.entries;
    fine = i.fine;
    solutions = all_map (solution-later {m = n} (omega arith)) σ i.solutions;
  }

  pub inv-push : {Γ : Board} {σ : Solutions} {n : ℕ} (e : Entry) → EntryOK Plain n e → Inv Plain Γ σ n → Inv Plain (e ∷ Γ) σ n
  inv-push e h i = record { entries = (h, i.entries); fine = i.fine; solutions = i.solutions }

  pub inv-solve : {Γ : Board} {σ : Solutions} {n : ℕ} (k : ℕ) (s : Ty) → SolveOK σ n k s → Inv Plain Γ σ n → Inv Plain Γ (σ ++ (◌≔◌ k s ∷ [])) n
  inv-solve {σ = σ} {n = n} k s h i = record {
    entries = i.entries;
    fine = fine-snoc σ k s i.fine h.unsolved h.free;
    solutions = all_append (SolutionOK Plain n) σ (◌≔◌ k s ∷ []) i.solutions ((h.made, h.ok, h.mono), tt);
  }

  module _ (L : Limits) (Q : Board → Solutions → ℕ → Type 0) where
    pub perform_kept : (p : Rule) (Γ : Board) (σ : Solutions) (n : ℕ) → Inv Plain Γ σ n → Good p Γ σ n Q → Kept Q (perform L p Γ σ n)
    unfolding perform
    perform_kept done Γ σ n i g = (i, g)
    perform_kept (refuse r ts) Γ σ n i g = (i, g)
    perform_kept (fresh o f) Γ σ n i g =
        cond_ind (Kept Q) (below n L.numbers) (λ _. perform_kept (f n) Γ σ (suc n) (inv-fresh i) g.1) (λ _. (i, tt))
    perform_kept (push e p) Γ σ n i g =
        cond_ind (Kept Q) (room_for L e Γ) (λ _. perform_kept p (e ∷ Γ) σ n (inv-push e g.0 i) g.1) (λ _. (i, tt))
    perform_kept (solve k s p) Γ σ n i g =
        subst⁻¹ (λ o. Kept Q (solving o s
        (cond (L.scope k s)
        (cond (within (solution_nodes σ + length s) L.solved) (perform L p Γ (σ ++ (◌≔◌ k s ∷ [])) n) (refused SolutionsFull [] (state Γ σ n)))
        (refused OutOfScope [] (state Γ σ n)))
        (perform L p Γ σ n)
        (refused TypeUnificationError [] (state Γ σ n))))
        (find_none σ k g.0.unsolved)
        (cond_ind (Kept Q) (L.scope k s)
        (λ _. cond_ind (Kept Q) (within (solution_nodes σ + length s) L.solved)
        (λ _. perform_kept p Γ (σ ++ (◌≔◌ k s ∷ [])) n (inv-solve k s g.0 i) g.1) (λ _. (i, tt))) (λ _. (i, tt)))
    perform_kept (zonk t f) Γ σ n i g =
        cond_ind (Kept Q) (within (length (write_out σ t)) L.written) (λ _. perform_kept (f (write_out σ t)) Γ σ n i g) (λ _. (i, tt))
    perform_kept (look f) Γ σ n i g = perform_kept (f Γ) Γ σ n i g

-- Whatever a rule does, it adds: the board keeps its entries, the solutions stay.
abbrev pub Grown : Board → Solutions → Outcome → Type 0
Grown Γ σ (finished (state Γ' σ' n)) = ((Δ : Board) × (Γ' ≡ Δ ++ Γ)) × ((τ : Solutions) × (σ' ≡ σ ++ τ))
Grown Γ σ (refused r ts (state Γ' σ' n)) = ((Δ : Board) × (Γ' ≡ Δ ++ Γ)) × ((τ : Solutions) × (σ' ≡ σ ++ τ))

same : (Γ : Board) (σ : Solutions) → ((Δ : Board) × (Γ ≡ Δ ++ Γ)) × ((τ : Solutions) × (σ ≡ σ ++ τ))
same Γ σ = (([], refl), ([], sym (append-nil σ)))

grown-push : (e : Entry) (Γ : Board) (σ : Solutions) (o : Outcome) → Grown (e ∷ Γ) σ o → Grown Γ σ o
grown-push e Γ σ (finished (state Γ' σ' n)) g = ((g.0.0 ++ (e ∷ []), g.0.1 ∙ sym (append_assoc g.0.0 (e ∷ []) Γ)), g.1)
grown-push e Γ σ (refused r ts (state Γ' σ' n)) g = ((g.0.0 ++ (e ∷ []), g.0.1 ∙ sym (append_assoc g.0.0 (e ∷ []) Γ)), g.1)

grown-solve : (x : Solution) (Γ : Board) (σ : Solutions) (o : Outcome) → Grown Γ (σ ++ (x ∷ [])) o → Grown Γ σ o
grown-solve x Γ σ (finished (state Γ' σ' n)) g = (g.0, (x ∷ g.1.0, g.1.1 ∙ append_assoc σ (x ∷ []) g.1.0))
grown-solve x Γ σ (refused r ts (state Γ' σ' n)) g = (g.0, (x ∷ g.1.0, g.1.1 ∙ append_assoc σ (x ∷ []) g.1.0))

solving-grows : (Γ : Board) (σ : Solutions) (o : Option Ty) (s : Ty) (a b c : Outcome) → Grown Γ σ a → Grown Γ σ b → Grown Γ σ c → Grown Γ σ (solving o s a b c)
solving-grows Γ σ None s a b c ha hb hc = ha
solving-grows Γ σ (Some t) s a b c ha hb hc = cond_ind (Grown Γ σ) (can_unify s t) (λ _. hb) (λ _. hc)

pub perform-grows : (L : Limits) (p : Rule) (Γ : Board) (σ : Solutions) (n : ℕ) → Grown Γ σ (perform L p Γ σ n)
unfolding perform
perform-grows L done Γ σ n = same Γ σ
perform-grows L (refuse r ts) Γ σ n = same Γ σ
perform-grows L (fresh o f) Γ σ n = cond_ind (Grown Γ σ) (below n L.numbers) (λ _. perform-grows L (f n) Γ σ (suc n)) (λ _. same Γ σ)
perform-grows L (push e p) Γ σ n =
    cond_ind (Grown Γ σ) (room_for L e Γ) (λ _. grown-push e Γ σ (perform L p (e ∷ Γ) σ n) (perform-grows L p (e ∷ Γ) σ n)) (λ _. same Γ σ)
perform-grows L (solve k s p) Γ σ n =
    solving-grows Γ σ (find k σ) s
    (cond (L.scope k s)
    (cond (within (solution_nodes σ + length s) L.solved) (perform L p Γ (σ ++ (◌≔◌ k s ∷ [])) n) (refused SolutionsFull [] (state Γ σ n)))
    (refused OutOfScope [] (state Γ σ n)))
    (perform L p Γ σ n)
    (refused TypeUnificationError [] (state Γ σ n))
    (cond_ind (Grown Γ σ) (L.scope k s)
    (λ _. cond_ind (Grown Γ σ) (within (solution_nodes σ + length s) L.solved)
    (λ _. grown-solve (◌≔◌ k s) Γ σ (perform L p Γ (σ ++ (◌≔◌ k s ∷ [])) n) (perform-grows L p Γ (σ ++ (◌≔◌ k s ∷ [])) n))
    (λ _. same Γ σ))
    (λ _. same Γ σ))
    (perform-grows L p Γ σ n)
    (same Γ σ)
perform-grows L (zonk t f) Γ σ n =
    cond_ind (Grown Γ σ) (within (length (write_out σ t)) L.written) (λ _. perform-grows L (f (write_out σ t)) Γ σ n) (λ _. same Γ σ)
perform-grows L (look f) Γ σ n = perform-grows L (f Γ) Γ σ n
