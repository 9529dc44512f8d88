use Rattle.std.proofs.Common.{arith, ◌+◌, ◌<◌, rules}
use Rattle.sheet.specs.Rows.{rows}
use Rattle.inference.proofs.Heads.{part-within}
use Rattle.inferring.proofs.part_at.Goals as goal

pub overflow_cast-result : goal.overflow_cast-result
overflow_cast-result c = let a = c.args in
    let h = c.requires.0 in
    let f = c.requires.1 in
    let w = (part-within (rows a.s.now) (a.at + 1) a.i (omega arith)).1 in
    let e = c.part_line.ensures in
    let z : c.part_line.result < 4294967296 = omega arith in search rules
