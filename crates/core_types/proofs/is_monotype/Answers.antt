use Rattle.std.proofs.Common.{sym, ap, ◌∙◌, not, eqb, rules}
use Rattle.nodes.specs.Nodes.{kind, nodes_at}
use Rattle.core_types.proofs.Walks.{any-told, mono-any}
use Rattle.core_types.proofs.is_monotype.Goals as goal

pub returns : goal.returns
returns c = let a = c.args in
    ap not (any-told (λ x. eqb (kind x) 14) a.t.now _ a.at a.n _ c.any_node.ensures (λ k v b q. search rules)) ∙ sym (mono-any (nodes_at a.t.now a.at a.n))
