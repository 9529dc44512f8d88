use mathlib.Core.Path.{refl}
use mathlib.Core.Bool.{true}
use native.Mathlib.Omega.{arith}
use mathlib.Core.List.{[]}
use Rattle.operations.proofs.Start.{start-formed}
use Rattle.operations.proofs.Then.{any_way}
use Rattle.operations_run.proofs.run.Goals as goal

pub script-c1-requires : goal.script-c1-requires
script-c1-requires c = let p = c.requires in
    let lb = c.clear_board.auto.board in
    let lr = c.clear_words.auto.dst in
    let x = p.0 in
    let y = p.2 in
    rw (c.new.ensures, c.new-2.ensures, c.none.ensures, c.clear_book.ensures) (start-formed _ _ (omega arith) p.1, omega arith)

pub script-c2-requires : goal.script-c2-requires
script-c2-requires c = let p = c.requires in
    let lb = c.clear_board.auto.board in
    let lr = c.clear_words.auto.dst in
    let x = p.0 in
    let y = p.2 in
    let l1 = c.script-c1.auto.report in
    ((c.script-c1.ensures (λ k t. true) [] (λ k t h. refl)).kept, omega arith)

pub script-c4-requires : goal.script-c4-requires
script-c4-requires c = let p = c.requires in
    let lb = c.clear_board.auto.board in
    let lr = c.clear_words.auto.dst in
    let x = p.0 in
    let y = p.2 in
    let l1 = c.script-c1.auto.report in
    let l2 = c.script-c2.auto.report in
    ((c.refuse-c3.ensures.1 any_way [] _ _ [] (c.script-c2.ensures (λ k t. true) [] (λ k t h. refl)).kept).kept, omega arith)
