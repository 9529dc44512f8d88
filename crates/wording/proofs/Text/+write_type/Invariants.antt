use Rattle.std.proofs.Common.{◌+◌, ◌*◌, length}
use Rattle.wording.specs.declared.Place.TheVariants.{Before}
use Rattle.wording.specs.Spelt.{parts}
use Rattle.wording.specs.Put.{Reached}
use Rattle.wording.proofs.Text.+write_type.Given as goal

abbrev pub decreases-write_node : goal.decreases-write_node
decreases-write_node l = 6 * length l.nodes.now + 5

abbrev pub decreases-write_pair : goal.decreases-write_pair
decreases-write_pair l = 6 * length l.nodes.now + 1

abbrev pub decreases-write_parts : goal.decreases-write_parts
decreases-write_parts l = 6 * length l.nodes.now + 2

abbrev pub decreases-write_product : goal.decreases-write_product
decreases-write_product l = 6 * length l.nodes.now + 4

abbrev pub decreases-write_type : goal.decreases-write_type
decreases-write_type l = 6 * length l.nodes.now

-- the first k parts are written
abbrev pub invariant-write_parts-loop-k : goal.invariant-write_parts-loop-k
invariant-write_parts-loop-k l = Reached (parts Before l.k) l.initial.self l.nodes l.self l.rest
