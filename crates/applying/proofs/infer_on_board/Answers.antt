use Rattle.std.proofs.Common.{Option, None, ◌≡◌, ap, ◌∙◌, arith, length}
use Rattle.nodes.specs.Nodes.{Ty, nodes_at}
use Rattle.nodes.proofs.Laws.{length-nodes_at}
use Rattle.sheet.specs.Rows.{rows}
use Rattle.judgment.specs.Board.{sub, push, done, or_else}
use Rattle.judgment.specs.Rules.{variable}
use Rattle.operations.proofs.Then.{does-as}
use Rattle.inference.proofs.Written.{copied}
use Rattle.applying.specs.Applying.{env_on, entry_in, found_out}
use Rattle.applying.proofs.Entries.{var-copies, var-is}
use Rattle.applying.proofs.infer_on_board.Goals as goal

pub copy_nodes-requires : goal.copy_nodes-requires
copy_nodes-requires c = let a = c.args in
    let p = c.requires in
    var-copies p a.name c.find_var.ensures c.in-Some.is

pub push_sub-requires : goal.push_sub-requires
push_sub-requires c = let a = c.args in
    let p = c.requires in
    let v = var-copies p a.name c.find_var.ensures c.in-Some.is in
    let n = v.0 in
    let l : length c.copy_nodes.new.dst ≡ length a.out.now = c.copy_nodes.auto.dst in
    let y = p.type in
    (p.board, omega arith, omega arith)

pub returns-in-Some : goal.returns-in-Some
returns-in-Some c = let a = c.args in
    let p = c.requires in
    let v = var-copies p a.name c.find_var.ensures c.in-Some.is in
    let n = v.0 in
    let x : Ty = nodes_at a.board.now c.in-Some.place.start c.in-Some.place.count in
    let e = copied a.out.now x c.in-Some.place.count (length-nodes_at a.board.now c.in-Some.place.start c.in-Some.place.count) (omega arith) c.copy_nodes.ensures in
    let q = var-is a.name a.board.now p.board c.find_var.ensures (rows a.s.now) c.in-Some.is in
    let T : Ty = nodes_at a.t.now 0 a.tn in
    (λ w k rep f. does-as (λ _. ap (λ (u : Ty). push (sub u T) done) e ∙ ap (λ (o : Option Ty). variable (env_on a.s.now) a.name T None o (entry_in 1 a.name a.s.now)) q) (c.push_sub.ensures.2 w (rows a.s.now) k rep f), c.copy_nodes.ensures ∙ ap (λ (o : Option Ty). found_out a.out.now (or_else o (entry_in 1 a.name a.s.now))) q)

pub returns-in-None : goal.returns-in-None
returns-in-None c = let a = c.args in
    let q = var-is a.name a.board.now c.requires.board c.find_var.ensures (rows a.s.now) c.in-None.is in
    let T : Ty = nodes_at a.t.now 0 a.tn in
    (λ w k rep f. does-as (λ _. ap (λ (o : Option Ty). variable (env_on a.s.now) a.name T None o (entry_in 1 a.name a.s.now)) q) (c.infer_constructor.ensures.0 w k rep f), c.infer_constructor.ensures.1 ∙ ap (λ (o : Option Ty). found_out a.out.now (or_else o (entry_in 1 a.name a.s.now))) q)
