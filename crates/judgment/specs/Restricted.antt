-- A plan with those entries alone that its term names. Assumes nothing.
use Rattle.std.specs.Prelude.{cond, List, [], ◌∷◌}
use Rattle.spelling.specs.declared.Triple.{Triple}
use Rattle.sheet.specs.Plan.{◌∶◌, Bindings, names, Plan}

-- of the bindings, those whose name stands on the lines
unfoldable pub named_by : List Triple → Bindings → Bindings
named_by ls [] = []
named_by ls (◌∶◌ x t ∷ bs) = let others = named_by ls bs in cond (names x ls) (◌∶◌ x t ∷ others) others

abbrev pub restricted : Plan → Plan
restricted p = record {
  constructors = named_by p.term.lines p.constructors;
  context = named_by p.term.lines p.context;
  expected = p.expected;
  term = p.term;
  plain = p.plain;
}
