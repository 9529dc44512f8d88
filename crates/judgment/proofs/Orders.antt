-- Two types written out one after the other, as Sub and InfApp do: which comes first shows nowhere. Assumes nothing.
use mathlib.Core.Path.{◌≡◌, refl}
use mathlib.Core.Bool.{Bool, true, false, cond}
use mathlib.Core.List.{[]}
use Prim.Native.Nat.{ℕ}
use lib.ListN.{length}
use Rattle.nodes.specs.Nodes.{Ty}
use Rattle.judgment.specs.declared.TypeError.TheVariants.{TypeTooLong}
use Rattle.judgment.specs.Solutions.{Solutions, write_out}
use Rattle.judgment.specs.Board.{within, Board, Limits, Rule, zonk, refused, state, perform, operations}

either_way : {A : Type 0} (a b : Bool) (x y : A) → cond a (cond b x y) y ≡ cond b (cond a x y) y
either_way true b x y = refl
either_way false true x y = refl
either_way false false x y = refl

module _ (L : Limits) (s t : Ty) (f : Ty → Ty → Rule) (Γ : Board) (σ : Solutions) (n : ℕ) where
  fits : Ty → Bool
  fits u = within (length (write_out σ u)) L.written

  -- the same outcome, 23 among it
  pub zonks-either-way : perform L (zonk s (λ a. zonk t (λ b. f a b))) Γ σ n ≡ perform L (zonk t (λ b. zonk s (λ a. f a b))) Γ σ n
  unfolding perform fits
  zonks-either-way = either_way (fits s) (fits t) (perform L (f (write_out σ s) (write_out σ t)) Γ σ n) (refused TypeTooLong [] (state Γ σ n))

  -- the same operations
  pub did-either-way : operations L (zonk s (λ a. zonk t (λ b. f a b))) Γ σ n ≡ operations L (zonk t (λ b. zonk s (λ a. f a b))) Γ σ n
  unfolding operations fits
  did-either-way = either_way (fits s) (fits t) (operations L (f (write_out σ s) (write_out σ t)) Γ σ n) []
