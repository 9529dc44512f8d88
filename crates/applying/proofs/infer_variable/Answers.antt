use Rattle.std.proofs.Common.{Option, ap, ◌∙◌}
use Rattle.nodes.specs.Nodes.{Ty, nodes_at}
use Rattle.sheet.specs.Rows.{rows}
use Rattle.judgment.specs.Board.{or_else, find_var}
use Rattle.judgment.specs.Rules.{variable}
use Rattle.board.specs.Board.{entries_of}
use Rattle.operations.proofs.Then.{does-as}
use Rattle.applying.specs.Applying.{env_on, entry_in, found_out}
use Rattle.applying.proofs.Entries.{entry-asks, entry-is, looked}
use Rattle.applying.proofs.infer_variable.Goals as goal

pub push_entry-requires : goal.push_entry-requires
push_entry-requires c = entry-asks 2 c.args.name c.args.s.now c.find_entry.ensures c.requires c.in-Some.is

pub returns-in-Some : goal.returns-in-Some
returns-in-Some c = let a = c.args in
    let T : Ty = nodes_at a.t.now 0 a.tn in
    let B : Option Ty = find_var a.name (entries_of (rows a.s.now) a.board.now a.c.counters.board.entries) in
    let e = entry-is 2 a.name a.s.now c.find_entry.ensures c.in-Some.is in
    (λ w k rep f. looked a.s.now a.name T (does-as (λ _. ap (λ (o : Option Ty). variable (env_on a.s.now) a.name T o B (entry_in 1 a.name a.s.now)) e) (c.push_entry.ensures.0 w k rep f)), c.push_entry.ensures.1 ∙ ap (λ (o : Option Ty). found_out a.out.now (or_else o (or_else B (entry_in 1 a.name a.s.now)))) e)

pub returns-in-None : goal.returns-in-None
returns-in-None c = let a = c.args in
    let T : Ty = nodes_at a.t.now 0 a.tn in
    let B : Option Ty = find_var a.name (entries_of (rows a.s.now) a.board.now a.c.counters.board.entries) in
    let e = entry-is 2 a.name a.s.now c.find_entry.ensures c.in-None.is in
    (λ w k rep f. looked a.s.now a.name T (does-as (λ _. ap (λ (o : Option Ty). variable (env_on a.s.now) a.name T o B (entry_in 1 a.name a.s.now)) e) (c.infer_on_board.ensures.0 w k rep f)), c.infer_on_board.ensures.1 ∙ ap (λ (o : Option Ty). found_out a.out.now (or_else o (or_else B (entry_in 1 a.name a.s.now)))) e)
