use Rattle.std.proofs.Common.{ap, ◌∙◌, List, [], ℕ, ◌≤◌, arith, rules}
use Rattle.nodes.specs.Nodes.{Ty, nodes_at}
use Rattle.spelling.specs.declared.Triple.{Triple}
use Rattle.judgment.specs.Types.{unknown}
use Rattle.judgment.specs.Board.{push, done}
use Rattle.judgment.specs.Rules.{on_side}
use Rattle.judgment.specs.Result.{Way}
use Rattle.operations.specs.State.{WellFormed, Scoped}
use Rattle.core_types.proofs.Walks.{first-within, first-nodes, rest-nodes}
use Rattle.operations.proofs.Then.{does-as, push-then, solve-then, fresh-then, any_way, kept-board, kept-book, kept-solved, grows, fresh-made, fresh-sols, pair-solves, pair-plain, solve-asks}
use Rattle.subtyping.specs.Subtyping.{side_of}
use Rattle.subtyping.proofs.split.Goals.{After-first_part-m, After-solve_evar-c3}
use Rattle.subtyping.proofs.split.Goals as goal

-- the first part is within the type
within : (c : After-first_part-m) → c.first_part-m.result ≤ c.args.n
within c = first-within c.args.t.now c.args.at c.args.n c.first_part-m.result c.first_part-m.ensures

-- what is left once x is solved
solved : (c : After-solve_evar-c3) → WellFormed c.args.board.now c.solve_evar-c3.new.book c.solve_evar-c3.result
solved c = kept-solved c.solve_evar-c3.ensures (kept-book c.fresh_part-c2.ensures.2 (kept-book c.fresh_part-c1.ensures.2 c.requires.formed))

pub overflow_mul-next : goal.overflow_mul-next
overflow_mul-next c = omega (arith, within (goal.at.overflow_mul-next c).After-first_part-m, c.requires.within)

pub overflow_add-next : goal.overflow_add-next
overflow_add-next c = omega (arith, within (goal.at.overflow_add-next c).After-first_part-m, c.requires.within)

pub overflow_sub-more : goal.overflow_sub-more
overflow_sub-more c = within (goal.at.overflow_sub-more c).After-first_part-m

pub fresh_part-c2-requires : goal.fresh_part-c2-requires
fresh_part-c2-requires c = let p = c.requires in ((kept-book c.fresh_part-c1.ensures.2 p.formed).book, let x = p.known in let n = p.formed.numbers in omega arith)

pub solve_evar-c3-requires : goal.solve_evar-c3-requires
unfolding nodes_at
solve_evar-c3-requires c = let f = c.requires.formed in
    let D1 = c.fresh_part-c1.ensures.2 any_way [] _ [] f in
    let D2 = c.fresh_part-c2.ensures.2 any_way [] _ [] D1.kept in
    solve-asks D2.kept (omega arith) (search rules)
    (λ g. pair-solves _ c.fresh_part-c2.result c.args.kind c.args.x c.fresh_part-c1.result.counters.fresh c.requires.pair.0 f (fresh-sols D2 ∙ fresh-sols D1) c.requires.known c.requires.unsolved (grows D1) (let z = fresh-made c.fresh_part-c1.result c.fresh_part-c2.result c.fresh_part-c2.ensures.0 g in omega arith))

pub push_tvar-c4-requires : goal.push_tvar-c4-requires
push_tvar-c4-requires c = ((solved (goal.at.push_tvar-c4-requires c).After-solve_evar-c3).board, omega arith)

pub push_tvar-c5-requires : goal.push_tvar-c5-requires
push_tvar-c5-requires c = ((kept-board c.push_tvar-c4.ensures.2 (solved (goal.at.push_tvar-c5-requires c).After-solve_evar-c3)).board, omega arith)

pub push_on-c6-requires : goal.push_on-c6-requires
push_on-c6-requires c = ((kept-board c.push_tvar-c5.ensures.2 (kept-board c.push_tvar-c4.ensures.2 (solved (goal.at.push_on-c6-requires c).After-solve_evar-c3))).board, search rules, omega (arith, within (goal.at.push_on-c6-requires c).After-first_part-m, c.requires.within))

pub push_on-requires : goal.push_on-requires
push_on-requires c = ((kept-board c.push_on-c6.ensures (kept-board c.push_tvar-c5.ensures.2 (kept-board c.push_tvar-c4.ensures.2 (solved (goal.at.push_on-requires c).After-solve_evar-c3)))).board, search rules, omega (arith, within (goal.at.push_on-requires c).After-first_part-m, c.requires.within))

pub returns : goal.returns
unfolding nodes_at
returns c = λ (w : Way) (ls : List Triple) (rep : List ℕ) (sc : Scoped w).
    let a = c.args in
    let f = c.requires.formed in
    let D1 = c.fresh_part-c1.ensures.2 w ls _ rep f in
    let D2 = c.fresh_part-c2.ensures.2 w ls _ rep D1.kept in
    let D3 = c.solve_evar-c3.ensures.2 w ls _ rep (sc a.x _ (pair-plain a.kind c.requires.pair.1 a.c.counters.fresh c.fresh_part-c1.result.counters.fresh)) D2.kept in
    let D4 = c.push_tvar-c4.ensures.2 w ls _ rep D3.kept in
    let D5 = c.push_tvar-c5.ensures.2 w ls _ rep D4.kept in
    let D6 = c.push_on-c6.ensures w ls _ rep D5.kept in
    let D7 = c.push_on.ensures w ls _ rep D6.kept in
    let e1 = first-nodes a.t.now a.at a.n c.first_part-m.result c.first_part-m.ensures in
    let e2 = rest-nodes a.t.now a.at a.n c.first_part-m.result c.first_part-m.ensures in
    fresh-then D1 (fresh-then D2 (solve-then D3 (push-then D4 (push-then D5
    (push-then (does-as (λ _. ap (λ (x : Ty). push (on_side (side_of a.first) (unknown a.c.counters.fresh) x) done) e1) D6)
    (does-as (λ _. ap (λ (x : Ty). push (on_side (side_of a.second) (unknown c.fresh_part-c1.result.counters.fresh) x) done) e2) D7))))))
