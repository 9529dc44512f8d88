use Rattle.std.proofs.Common.{sym, ◌∙◌, List, ◌*◌}
use Rattle.nodes.specs.Nodes.{nodes_at}
use Rattle.spelling.specs.declared.Triple.{Triple}
use Rattle.judgment.specs.Rules.{subtype}
use Rattle.operations.proofs.Then.{does-as}
use Rattle.subtyping.proofs.Outs.{both-asks, out-differ, twice-then, twice-stays, report-then, report-stays, written_sub, other-shapes, shapes_out}
use Rattle.operations.specs.State.{way_in}
use Rattle.subtyping.proofs.subtype_out.Goals as goal

pub subtype_shapes-requires : goal.subtype_shapes-requires
subtype_shapes-requires c = let Z = c.zonk-z in
    let Y = c.zonk-y in
    both-asks c.requires.0 Z.ensures.0 Z.ensures.2 Y.ensures.0 Y.ensures.1 Y.ensures.2 (sym c.is_going.ensures ∙ c.if-not-is_going.false)

pub returns : goal.returns
unfolding subtype
returns c = let p = c.requires in
    let Z = c.zonk-z in
    let Y = c.zonk-y in
    let out = Y.new.report in
    let L = nodes_at out 0 Z.result.nodes in
    let R = nodes_at out (2 * Z.result.nodes) Y.result.nodes in
    let S = c.subtype_shapes.ensures in
    let g = sym c.is_going.ensures ∙ c.if-not-is_going.false in
    let e = out-differ p.0 Z.ensures.0 Z.ensures.2 Y.ensures.0 Y.ensures.1 Y.ensures.2 g p.1 in
    (λ (ls : List Triple). twice-then p.0 Z.ensures.0 Z.ensures.2 Y.ensures.0 Y.ensures.1 Y.ensures.2 (way_in c.args.strict c.args.w c.args.book.now).scope ls written_sub (does-as (λ _. other-shapes L R e) (S.0 c.args.w ls)), report-then p.0 Z.ensures.0 Z.ensures.2 Y.ensures.0 Y.ensures.1 Y.ensures.2 Z.ensures.1 shapes_out g S.1)

pub returns-then-not-is_going : goal.returns-then-not-is_going
unfolding subtype
returns-then-not-is_going c = let p = c.requires.0 in
    let Z = c.zonk-z in
    let Y = c.zonk-y in
    let g = sym c.is_going.ensures ∙ c.if-not-is_going.true in
    (λ (ls : List Triple). twice-stays p Z.ensures.0 Z.ensures.2 Y.ensures.0 Y.ensures.1 Y.ensures.2 (way_in c.args.strict c.args.w c.args.book.now).scope ls written_sub g, report-stays p Z.ensures.0 Z.ensures.2 Y.ensures.0 Y.ensures.1 Y.ensures.2 Z.ensures.1 shapes_out g)
