use mathlib.Core.Path.{◌≡◌, refl, ap, ◌∙◌, subst}
use Prim.Native.Nat.{ℕ, ◌+◌}
use Rattle.judgment.specs.Types.{con}
use Rattle.judgment.specs.Links.{chained}
use Rattle.book.specs.Book.{sols, Booked, given, grown}
use native.Mathlib.Omega.{arith}
use Rattle.operations_run.proofs.Chaining.{chain-starts, chain-turn, chain-ends}
use Rattle.operations_run.proofs.chain.Goals as goal

pub clear_book-requires : goal.clear_book-requires
clear_book-requires c = c.requires

pub loop-k-init : goal.loop-k-init
loop-k-init c = (omega arith, c.new-b.ensures, rw c.clear_book.ensures (chain-starts _ c.requires), refl)

pub overflow_add-k : goal.overflow_add-k
overflow_add-k c = let l = c.loop-k.invariant.0 in record { fits = omega arith }

pub solve_by-b-requires : goal.solve_by-b-requires
solve_by-b-requires c = let i = c.loop-k.invariant in
    let l = i.0 in
    let e = ap (λ x. x.nodes) i.1 in
    (i.2.0.room, omega arith, omega arith)

pub loop-k-preserved : goal.loop-k-preserved
loop-k-preserved c = let i = c.loop-k.invariant in
    let l = c.loop-k-test.true in
    let s = c.solve_by-b in
    (omega arith, s.ensures.1 ∙ ap (λ x. record { nodes = x.nodes + 1 }) i.1, rw s.ensures.0 (chain-turn i.1 i.2 (omega arith)), s.auto.book ∙ i.3)

pub solve_by-requires : goal.solve_by-requires
solve_by-requires c = let i = c.loop-k.invariant in
    let l = i.0 in
    let e = ap (λ x. x.nodes) i.1 in
    (i.2.0.room, omega arith, omega arith)

pub returns : goal.returns
returns c = let i = c.loop-k.invariant in
    let l = i.0 in
    let n = c.loop-k-test.false in
    let s = c.solve_by in
    let e : c.loop-k.k ≡ 999 = omega arith in
    rw (s.ensures.0, s.ensures.1) (subst (λ (k : ℕ). Booked (given c.loop-k.book c.loop-k.b k (con 1)) (grown c.loop-k.b 1) × (sols (given c.loop-k.book c.loop-k.b k (con 1)) ≡ chained 999)) e (chain-ends i.1 i.2 e))
