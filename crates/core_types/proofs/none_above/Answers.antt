use Rattle.std.proofs.Common.{sym, ap, ◌∙◌, not, rules}
use Rattle.nodes.specs.Nodes.{nodes_at}
use Rattle.judgment.specs.Levels.{is_above}
use Rattle.core_types.proofs.Walks.{any-told, above-any}
use Rattle.core_types.proofs.none_above.Goals as goal

pub returns : goal.returns
returns c = let a = c.args in
    ap not (any-told (is_above a.m) a.t.now _ a.at a.n _ c.any_node.ensures (λ k v b q. search rules)) ∙ sym (above-any a.m (nodes_at a.t.now a.at a.n))
