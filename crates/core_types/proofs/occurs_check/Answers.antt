use Rattle.std.proofs.Common.{sym, ◌∙◌, rules}
use Rattle.nodes.specs.Nodes.{nodes_at}
use Rattle.judgment.specs.Types.{is_node}
use Rattle.core_types.proofs.Walks.{any-told, occurs-any}
use Rattle.core_types.proofs.occurs_check.Goals as goal

pub returns : goal.returns
returns c = let a = c.args in
    any-told (is_node 17 a.k) a.t.now _ a.at a.n _ c.any_node.ensures (λ k v b q. search rules) ∙ sym (occurs-any a.k (nodes_at a.t.now a.at a.n))
