use Rattle.std.proofs.Common.{◌<◌}
use Rattle.std.specs.Fn.{CalledAt}
use Rattle.input.specs.Handed.{Handed}
use Rattle.input.proofs.each_file.Given as goal

abbrev pub invariant-loop-at : goal.invariant-loop-at
invariant-loop-at g l =
    Handed (CalledAt g.F.FnMut) l.initial.each l.each l.names × goal.F-IsAlwaysCallable g l.each × (l.names < l.at)
