use Rattle.std.proofs.Common.{ℕ, ◌+◌, ◌*◌, ◌<◌, false, get_or}
use Rattle.core_types.proofs.any_node.Given as goal

abbrev pub invariant-loop-i : goal.invariant-loop-i
invariant-loop-i g l = (j : ℕ) → j < l.i → goal.F-post g l.is_so (get_or l.t (l.at + 2 * j) 0) (get_or l.t (l.at + 2 * j + 1) 0) false
