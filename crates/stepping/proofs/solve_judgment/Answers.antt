use Rattle.std.proofs.Common.{arith, sym, ap, ◌+◌, ◌*◌}
use Rattle.nodes.specs.Nodes.{Ty, nodes_at}
use Rattle.sheet.specs.Rows.{rows}
use Rattle.judgment.specs.Rules.{rule}
use Rattle.operations.specs.State.{way_in}
use Rattle.operations.proofs.Then.{does-as, done-does, way-scoped}
use Rattle.applying.specs.Applying.{env_on}
use Rattle.stepping.proofs.Judging.{is-sub, is-app, is-other, subtype-asks, app-asks, infer-asks, check-asks, inf-short, copy-asks, sub-room, app-room, other-room, inferred, inferred-room, checked, checked-room}
use Rattle.stepping.proofs.solve_judgment.Goals as goal

pub solve_subtype-requires : goal.solve_subtype-requires
solve_subtype-requires c = subtype-asks c.requires c.in-3.is

pub returns-in-3 : goal.returns-in-3
returns-in-3 c = let a = c.args in
    let ls = rows a.s.now in
    let E = env_on a.s.now in
    let B = a.board.now in
    let T : Ty = nodes_at B a.o.at a.o.left in
    let U : Ty = nodes_at B (a.o.at + 2 * a.o.left) a.o.right in
    (does-as (λ _. ap (rule E) (sym (is-sub ls a.o.number T U a.o.kind c.in-3.is))) (c.solve_subtype.ensures.0 ls), sub-room c.requires c.in-3.is c.solve_subtype.ensures.1)

pub copy_nodes-requires : goal.copy_nodes-requires
copy_nodes-requires c = let p = c.requires in
    copy-asks p (inf-short p c.in-4.is)

pub solve_inference-requires : goal.solve_inference-requires
solve_inference-requires c = (infer-asks c.requires c.in-4.is _ c.copy_nodes.auto.dst, c.requires.lent.room)

pub returns-in-4 : goal.returns-in-4
returns-in-4 c = let E = env_on c.args.s.now in
    (inferred c.requires c.copy_nodes.ensures E c.in-4.is (c.solve_inference.ensures.0 _ _ _ c.requires.formed), inferred-room c.requires c.copy_nodes.ensures c.in-4.is c.solve_inference.ensures.1)

pub solve_checking-requires : goal.solve_checking-requires
solve_checking-requires c = (c.requires.formed, check-asks c.requires c.in-5.is)

pub returns-in-5 : goal.returns-in-5
returns-in-5 c = let E = env_on c.args.s.now in
    (checked c.requires E c.in-5.is (c.solve_checking.ensures.0 _ E _), checked-room c.requires c.in-5.is c.solve_checking.ensures.1 c.solve_checking.ensures.2)

pub solve_inf_app-requires : goal.solve_inf_app-requires
solve_inf_app-requires c = app-asks c.requires c.in-6.is

pub returns-in-6 : goal.returns-in-6
returns-in-6 c = let a = c.args in
    let ls = rows a.s.now in
    let E = env_on a.s.now in
    let B = a.board.now in
    let T : Ty = nodes_at B a.o.at a.o.left in
    let U : Ty = nodes_at B (a.o.at + 2 * a.o.left) a.o.right in
    (does-as (λ _. ap (rule E) (sym (is-app ls a.o.number T U a.o.kind c.in-6.is))) (c.solve_inf_app.ensures.0 (way_in a.strict a.limit a.book.now).scope ls E (way-scoped a.strict a.limit a.book.now)), app-room c.requires c.in-6.is c.solve_inf_app.ensures.1)

pub returns-in_default : goal.returns-in_default
returns-in_default c = let a = c.args in
    let ls = rows a.s.now in
    let E = env_on a.s.now in
    let B = a.board.now in
    let T : Ty = nodes_at B a.o.at a.o.left in
    let U : Ty = nodes_at B (a.o.at + 2 * a.o.left) a.o.right in
    (does-as (λ _. is-other ls a.o.number T U E a.o.kind (omega arith) (omega arith) (omega arith) (omega arith)) (done-does c.requires.formed), other-room c.requires (omega arith) (omega arith) (omega arith) (omega arith))
