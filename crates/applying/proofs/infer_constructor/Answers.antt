use Rattle.std.proofs.Common.{None, ap, ◌∙◌}
use Rattle.nodes.specs.Nodes.{nodes_at}
use Rattle.sheet.specs.Rows.{rows}
use Rattle.judgment.specs.Rules.{variable}
use Rattle.operations.proofs.Then.{does-as}
use Rattle.applying.specs.Applying.{env_on, found_out}
use Rattle.applying.proofs.Entries.{entry-asks, entry-is}
use Rattle.applying.proofs.infer_constructor.Goals as goal

pub push_entry-requires : goal.push_entry-requires
push_entry-requires c = entry-asks 1 c.args.name c.args.s.now c.find_entry.ensures c.requires c.in-Some.is

pub returns-in-Some : goal.returns-in-Some
returns-in-Some c = let a = c.args in
    let e = entry-is 1 a.name a.s.now c.find_entry.ensures c.in-Some.is in
    (λ w k rep f. does-as (λ _. ap (variable (env_on a.s.now) a.name (nodes_at a.t.now 0 a.tn) None None) e) (c.push_entry.ensures.0 w k rep f), c.push_entry.ensures.1 ∙ ap (found_out a.out.now) e)

pub returns-in-None : goal.returns-in-None
unfolding nodes_at
returns-in-None c = let a = c.args in
    let e = entry-is 1 a.name a.s.now c.find_entry.ensures c.in-None.is in
    (λ w k rep f. does-as (λ _. ap (variable (env_on a.s.now) a.name (nodes_at a.t.now 0 a.tn) None None) e) (c.refuse.ensures.1 w (rows a.s.now) _ k rep f), ap (found_out a.out.now) e)
