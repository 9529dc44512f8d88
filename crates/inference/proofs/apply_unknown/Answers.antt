use Rattle.std.proofs.Common.{◌∙◌, [], le_trans, arith, rules}
use Rattle.nodes.specs.Nodes.{nodes_at}
use Rattle.operations.proofs.Then.{push-then, solve-then, fresh-then, any_way, kept-board, kept-book, kept-solved, alive, grows, fresh-made, fresh-sols, pair-solves, solve-asks}
use Rattle.inference.proofs.apply_unknown.Goals as goal

pub fresh_part-c2-requires : goal.fresh_part-c2-requires
fresh_part-c2-requires c = ((kept-book c.fresh_part-c1.ensures.2 c.requires.0).book, le_trans c.requires.1.0 c.requires.0.numbers)

pub push_tvar-c3-requires : goal.push_tvar-c3-requires
push_tvar-c3-requires c = ((kept-book c.fresh_part-c2.ensures.2 (kept-book c.fresh_part-c1.ensures.2 c.requires.0)).board, omega arith)

pub push_tvar-c4-requires : goal.push_tvar-c4-requires
push_tvar-c4-requires c = ((kept-board c.push_tvar-c3.ensures.2 (kept-book c.fresh_part-c2.ensures.2 (kept-book c.fresh_part-c1.ensures.2 c.requires.0))).board, omega arith)

pub solve_evar-c5-requires : goal.solve_evar-c5-requires
unfolding nodes_at
solve_evar-c5-requires c = let f = c.requires.0 in
    let D1 = c.fresh_part-c1.ensures.2 any_way [] _ [] f in
    let D2 = c.fresh_part-c2.ensures.2 any_way [] _ [] D1.kept in
    let D3 = c.push_tvar-c3.ensures.2 any_way [] _ [] D2.kept in
    let D4 = c.push_tvar-c4.ensures.2 any_way [] _ [] D3.kept in
    solve-asks D4.kept (omega arith) (search rules)
    (λ h.
    let y = c.fresh_part-c1.result in
    let m = fresh-made y c.fresh_part-c2.result c.fresh_part-c2.ensures.0 (alive D3 (alive D4 h)) in
    let n = le_trans (grows D3) (grows D4) in
    pair-solves _ c.push_tvar-c4.result 13 c.args.x y.counters.fresh (λ e. omega arith) f (fresh-sols D2 ∙ fresh-sols D1) c.requires.1.0 c.requires.1.1 (grows D1) (omega arith))

pub push_sub-c6-requires : goal.push_sub-c6-requires
push_sub-c6-requires c = ((kept-solved c.solve_evar-c5.ensures (kept-board c.push_tvar-c4.ensures.2 (kept-board c.push_tvar-c3.ensures.2 (kept-book c.fresh_part-c2.ensures.2 (kept-book c.fresh_part-c1.ensures.2 c.requires.0))))).board, search rules, c.requires.2)

pub push_chk-requires : goal.push_chk-requires
push_chk-requires c = ((kept-board c.push_sub-c6.ensures.2 (kept-solved c.solve_evar-c5.ensures (kept-board c.push_tvar-c4.ensures.2 (kept-board c.push_tvar-c3.ensures.2 (kept-book c.fresh_part-c2.ensures.2 (kept-book c.fresh_part-c1.ensures.2 c.requires.0)))))).board, search rules)

pub returns : goal.returns
unfolding nodes_at
returns c = λ w ls E F R scoped.
    let D1 = c.fresh_part-c1.ensures.2 w ls _ R c.requires.0 in
    let D2 = c.fresh_part-c2.ensures.2 w ls _ R D1.kept in
    let D3 = c.push_tvar-c3.ensures.2 w ls _ R D2.kept in
    let D4 = c.push_tvar-c4.ensures.2 w ls _ R D3.kept in
    let D5 = c.solve_evar-c5.ensures.2 w ls _ R (scoped c.args.x _ (λ e. omega arith, (λ e. omega arith, (λ e. omega arith, tt)))) D4.kept in
    let D6 = c.push_sub-c6.ensures.2 w ls _ R D5.kept in
    let D7 = c.push_chk.ensures.2 w ls _ R D6.kept in
    fresh-then D1 (fresh-then D2 (push-then D3 (push-then D4 (solve-then D5 (push-then D6 D7)))))
