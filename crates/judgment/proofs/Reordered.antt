-- Bindings in another order: as many, with as many nodes, and the same type found under each name. Assumes nothing.
use Rattle.std.specs.Prelude.{Option, None, Some}
use Prim.Native.Nat.{ℕ, suc, ◌+◌, ◌<◌}
use native.Mathlib.Omega.{arith}
use mathlib.Core.Path.{◌≡◌, refl, sym, ◌∙◌, ap, ap₂, subst⁻¹}
use mathlib.Core.Logic.{◌≢◌}
use mathlib.Core.Bool.{Bool, true, false, cond}
use mathlib.Core.List.{[], ◌∷◌}
use lib.Dec.{eqb, ltb}
use lib.ListN.{length}
use borrow.Author.Tests.{ltb-true, ltb-false, eqb-false as not_equal}
use Rattle.nodes.specs.Lists.{All}
use Rattle.nodes.proofs.ListLaws.{cond_ind, all_map}
use Rattle.nodes.specs.Nodes.{Ty}
use Rattle.sheet.specs.Plan.{Binding, ◌∶◌, Bindings}
use Rattle.judgment.specs.Board.{Entry, var, Board, entry_nodes, board_nodes, var_named, or_else, find_var}
use Rattle.judgment.specs.Rules.{insert}
use Rattle.judgment.proofs.OtherOrders.{name_of, Distinct, Reordered, same, swap, under, then}
use Rattle.judgment.proofs.TypeLaws.{eqb-true}
use Rattle.judgment.proofs.Alike.{Alike, vars, Near}

-- ---- bindings in another order
abbrev var_of : Binding → Entry
var_of (◌∶◌ x t) = var x t

-- their nodes
unfoldable pub total : Bindings → ℕ
total [] = 0
total (b ∷ bs) = entry_nodes (var_of b) + total bs

-- the type of x once they are pushed, if it was o before
unfoldable newest : ℕ → Bindings → Option Ty → Option Ty
newest x [] o = o
newest x (b ∷ bs) o = newest x bs (or_else (var_named x (var_of b)) o)

-- the board once they are pushed
unfoldable pub onto : Bindings → Board → Board
onto [] Γ = Γ
onto (b ∷ bs) Γ = onto bs (var_of b ∷ Γ)

pub reordered-length : {bs cs : Bindings} → Reordered bs cs → length bs ≡ length cs
reordered-length same = refl
reordered-length swap = refl
reordered-length (under r) = ap suc (reordered-length r)
reordered-length (then r s) = reordered-length r ∙ reordered-length s

pub reordered-total : {bs cs : Bindings} → Reordered bs cs → total bs ≡ total cs
unfolding total
reordered-total same = refl
reordered-total swap = omega arith
reordered-total (under {b} r) = ap (λ n. entry_nodes (var_of b) + n) (reordered-total r)
reordered-total (then r s) = reordered-total r ∙ reordered-total s

reordered-all : (P : Binding → Type 0) {bs cs : Bindings} → Reordered bs cs → All P bs → All P cs
reordered-all P same h = h
reordered-all P swap h = (h.1.0, (h.0, h.1.1))
reordered-all P (under r) h = (h.0, reordered-all P r h.1)
reordered-all P (then r s) h = reordered-all P s (reordered-all P r h)

reordered-distinct : {bs cs : Bindings} → Reordered bs cs → Distinct bs → Distinct cs
reordered-distinct same h = h
reordered-distinct swap h = ((λ e. h.0.0 (sym e), h.1.0), (h.0.1, h.1.1))
reordered-distinct (under {b} r) h = (reordered-all (λ c. name_of b ≢ name_of c) r h.0, reordered-distinct r h.1)
reordered-distinct (then r s) h = reordered-distinct s (reordered-distinct r h)

-- of two Vars of different names, which is newer shows nowhere
two-names : (x : ℕ) (b c : Binding) (o : Option Ty) → name_of b ≢ name_of c
    → or_else (var_named x (var_of c)) (or_else (var_named x (var_of b)) o) ≡ or_else (var_named x (var_of b)) (or_else (var_named x (var_of c)) o)
two-names x (◌∶◌ y t) (◌∶◌ z u) o h = by (eqb x y) (eqb x z) refl refl
  where
    by : (a b : Bool) → eqb x y ≡ a → eqb x z ≡ b
        → or_else (cond b (Some u) None) (or_else (cond a (Some t) None) o) ≡ or_else (cond a (Some t) None) (or_else (cond b (Some u) None) o)
    by true true p q = absurd (h (sym (eqb-true x y p) ∙ eqb-true x z q))
    by true false p q = refl
    by false true p q = refl
    by false false p q = refl

reordered-newest : (x : ℕ) {bs cs : Bindings} → Reordered bs cs → Distinct bs → (o : Option Ty) → newest x bs o ≡ newest x cs o
unfolding newest
reordered-newest x same h o = refl
reordered-newest x (swap {b} {c} {bs}) h o = ap (newest x bs) (two-names x b c o h.0.0)
reordered-newest x (under r) h o = reordered-newest x r h.1 _
reordered-newest x (then r s) h o = reordered-newest x r h o ∙ reordered-newest x s (reordered-distinct r h) o

-- ---- the board with them pushed
onto-found : (x : ℕ) (bs : Bindings) (Γ : Board) → find_var x (onto bs Γ) ≡ newest x bs (find_var x Γ)
unfolding onto newest find_var
onto-found x [] Γ = refl
onto-found x (b ∷ bs) Γ = onto-found x bs (var_of b ∷ Γ)

onto-nodes : (bs : Bindings) (Γ : Board) → board_nodes (onto bs Γ) ≡ total bs + board_nodes Γ
unfolding onto total board_nodes
onto-nodes [] Γ = omega arith
onto-nodes (b ∷ bs) Γ = let h = onto-nodes bs (var_of b ∷ Γ) in omega arith

onto-alike : (bs cs : Bindings) {Γ Δ : Board} → length bs ≡ length cs → Alike Γ Δ → Alike (onto bs Γ) (onto cs Δ)
unfolding onto
onto-alike [] [] e h = h
onto-alike [] (c ∷ cs) e h = absurd (omega arith)
onto-alike (b ∷ bs) [] e h = absurd (omega arith)
onto-alike (◌∶◌ x t ∷ bs) (◌∶◌ y u ∷ cs) e h = onto-alike bs cs (omega arith) (vars x t y u h)

pub onto-near : {bs cs : Bindings} {Γ Δ : Board} → Distinct bs → Reordered bs cs → Near Γ Δ → Near (onto cs Γ) (onto bs Δ)
onto-near {bs} {cs} {Γ} {Δ} d r h = record {
  alike = onto-alike cs bs (sym (reordered-length r)) h.alike;
  whole = record {
    found = λ x. onto-found x cs Γ ∙ sym (reordered-newest x r d (find_var x Γ)) ∙ ap (newest x bs) (h.whole.found x) ∙ sym (onto-found x bs Δ);
    nodes = onto-nodes cs Γ ∙ ap₂ (λ a b. a + b) (sym (reordered-total r)) h.whole.nodes ∙ sym (onto-nodes bs Δ);
  };
}

-- ---- a pattern's bindings: `insert` keeps them in rising order of names
abbrev pub Rising : Bindings → Type 0
Rising [] = Unit {0}
Rising (b ∷ bs) = All (λ c. name_of b < name_of c) bs × Rising bs

pub rising-distinct : (bs : Bindings) → Rising bs → Distinct bs
rising-distinct [] h = tt
rising-distinct (b ∷ bs) h = (all_map (λ c l e. omega (arith, l, e)) bs h.0, rising-distinct bs h.1)

insert-above : (y x : ℕ) (t : Ty) (bs : Bindings) → y < x → All (λ c. y < name_of c) bs → All (λ c. y < name_of c) (insert x t bs)
unfolding insert
insert-above y x t [] l h = (l, tt)
insert-above y x t (◌∶◌ z u ∷ bs) l h =
    cond_ind (All (λ c. y < name_of c)) (eqb x z) (λ _. (l, h.1))
    (λ _. cond_ind (All (λ c. y < name_of c)) (ltb x z) (λ _. (l, h)) (λ _. (h.0, insert-above y x t bs l h.1)))

pub insert-rising : (x : ℕ) (t : Ty) (bs : Bindings) → Rising bs → Rising (insert x t bs)
unfolding insert
insert-rising x t [] h = (tt, tt)
insert-rising x t (◌∶◌ y u ∷ bs) h =
    cond_ind Rising (eqb x y) (λ e. (subst⁻¹ (λ z. All (λ c. z < name_of c) bs) (eqb-true x y e) h.0, h.1))
    (λ d. cond_ind Rising (ltb x y)
    (λ e. let l = ltb-true x y e in ((l, all_map (λ c m. omega (arith, l, m)) bs h.0), h))
    (λ e. (insert-above y x t bs (let a = ltb-false x y e in let b = not_equal x y d in omega arith) h.0, insert-rising x t bs h.1)))
