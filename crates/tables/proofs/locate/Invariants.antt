use Rattle.std.proofs.Common.{◌≡◌, List, ◌++◌, ◌-◌}
use Rattle.nodes.specs.Nodes.{Ty}
use Rattle.spelling.specs.declared.Triple.{Triple}
use Rattle.judgment.specs.Rules.{insert}
use Rattle.tables.specs.Rows.{bindings_at, place_from}
use Rattle.tables.proofs.locate.Given as goal

abbrev pub invariant-loop-j : goal.invariant-loop-j
invariant-loop-j l = ((ls : List Triple) (t : Ty) → insert l.name t (bindings_at ls l.w 0 l.n) ≡ bindings_at ls l.w 0 l.j ++ insert l.name t (bindings_at ls l.w l.j (l.n - l.j)))
    × (place_from l.w l.name 0 l.n ≡ place_from l.w l.name l.j (l.n - l.j))
