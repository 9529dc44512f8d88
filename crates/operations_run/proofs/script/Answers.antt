use mathlib.Core.Path.{◌≡◌, refl}
use mathlib.Core.Bool.{Bool, true}
use mathlib.Core.List.{List, []}
use Prim.Native.Nat.{ℕ, ◌+◌}
use native.Mathlib.Nat.{le_refl}
use native.Mathlib.Omega.{arith}
use Rattle.sizes.specs.Sizes.{usual_limit}
use Rattle.nodes.specs.Nodes.{Ty, nodes_at}
use Rattle.spelling.specs.declared.Triple.{Triple}
use Rattle.judgment.specs.Result.{Way}
use Rattle.operations.specs.State.{Scoped}
use Rattle.operations.proofs.Then.{push-then, solve-then, fresh-then, zonk-then, kept, any_way, kept-board, kept-solved, alive, grows, unmade-free, fresh-made, pair-solves, pair-plain, solve-asks}
use borrow.Author.Rules.{rules}
use Rattle.operations_run.proofs.script.Goals as goal

pub push_tvar-c3-requires : goal.push_tvar-c3-requires
push_tvar-c3-requires c = ((kept c.fresh_evar-c2.ensures.1 (kept c.fresh_evar-c1.ensures.1 c.requires.0)).board, omega arith)

pub push_sub-c4-requires : goal.push_sub-c4-requires
push_sub-c4-requires c = ((kept-board c.push_tvar-c3.ensures.2 (kept c.fresh_evar-c2.ensures.1 (kept c.fresh_evar-c1.ensures.1 c.requires.0))).board, search rules, search rules)

pub solve_evar-c5-requires : goal.solve_evar-c5-requires
unfolding nodes_at
solve_evar-c5-requires c = let D1 = c.fresh_evar-c1.ensures.1 any_way [] _ _ [] c.requires.0 in
    let D2 = c.fresh_evar-c2.ensures.1 any_way [] _ _ [] D1.kept in
    let D3 = c.push_tvar-c3.ensures.2 any_way [] _ [] D2.kept in
    let D4 = c.push_sub-c4.ensures.2 any_way [] _ [] D3.kept in
    solve-asks D4.kept (omega arith) (search rules)
    (λ h.
    let a : ℕ = c.args.c.counters.fresh in
    let b : ℕ = c.fresh_evar-c1.result.counters.fresh in
    let m : b ≡ a + 1 = fresh-made c.args.c c.fresh_evar-c1.result c.fresh_evar-c1.ensures.0 (alive D2 (alive D3 (alive D4 h))) in
    let n : c.fresh_evar-c2.result.counters.fresh ≡ b + 1 = fresh-made c.fresh_evar-c1.result c.fresh_evar-c2.result c.fresh_evar-c2.ensures.0 (alive D3 (alive D4 h)) in
    pair-solves _ c.push_sub-c4.result 13 a b (λ e. omega arith) D1.kept refl (omega arith) (unmade-free c.requires.0 a (le_refl a)) (le_refl b) (omega (arith, n, grows D3, grows D4)))

pub zonk-z-requires : goal.zonk-z-requires
zonk-z-requires c = record { book = (kept-solved c.solve_evar-c5.ensures (kept-board c.push_sub-c4.ensures.2 (kept-board c.push_tvar-c3.ensures.2 (kept c.fresh_evar-c2.ensures.1 (kept c.fresh_evar-c1.ensures.1 c.requires.0))))).book; within = search rules; room = let r = c.requires.1 in omega arith }

pub push_var-requires : goal.push_var-requires
push_var-requires c = let Z = c.zonk-z.ensures.2 in
    ((Z.does (λ k t. true) [] _ (kept-solved c.solve_evar-c5.ensures (kept-board c.push_sub-c4.ensures.2 (kept-board c.push_tvar-c3.ensures.2 (kept c.fresh_evar-c2.ensures.1 (kept c.fresh_evar-c1.ensures.1 c.requires.0)))))).kept.board, let z = Z.within in omega arith)

pub returns : goal.returns
unfolding nodes_at
returns c = λ (f : ℕ → Ty → Bool) (ls : List Triple) (sc : Scoped (record { written = usual_limit; scope = f })).
    let w : Way = record { written = usual_limit; scope = f } in
    let R = c.args.report.now in
    let D1 = c.fresh_evar-c1.ensures.1 w ls _ _ R c.requires.0 in
    let D2 = c.fresh_evar-c2.ensures.1 w ls _ _ R D1.kept in
    let D3 = c.push_tvar-c3.ensures.2 w ls _ R D2.kept in
    let D4 = c.push_sub-c4.ensures.2 w ls _ R D3.kept in
    let b : ℕ = c.fresh_evar-c1.result.counters.fresh in
    let D5 = c.solve_evar-c5.ensures.2 w ls _ R (sc _ _ (pair-plain 13 (λ e. omega arith) b b)) D4.kept in
    let Z = c.zonk-z.ensures.2 in
    let D6 = Z.does f ls _ D5.kept in
    let D7 = c.push_var.ensures.2 w ls _ _ D6.kept in
    fresh-then D1 (fresh-then D2 (push-then D3 (push-then D4 (solve-then D5 (zonk-then D5.kept Z D7)))))
