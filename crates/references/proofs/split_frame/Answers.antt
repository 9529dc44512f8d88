use Rattle.std.proofs.Common.{ap, ◌∙◌}
use Rattle.spelling.specs.declared.Triple.{Triple}
use Rattle.sheet.specs.Plan.{line_node}
use Rattle.sheet.specs.Rows.{rows}
use Rattle.references.specs.Signatures.{arrow_head}
use Rattle.references.proofs.Parts.{frame-ends, halved}
use Rattle.references.proofs.split_frame.Goals as goal

pub overflow_sub-result : goal.overflow_sub-result
overflow_sub-result c = let a = c.args in (frame-ends (rows a.s.now) a.r c.requires.0 c.requires.1 _ c.part_line-end.ensures).0

pub returns : goal.returns
returns c = let a = c.args in
    halved (rows a.s.now) a.r c.requires.0 c.requires.1 _ c.part_line-end.ensures _ (c.is_arrow.ensures ∙ ap (λ (t : Triple). arrow_head (line_node t)) c.triple_at.ensures)
