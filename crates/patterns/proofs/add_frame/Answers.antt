use Rattle.std.proofs.Common.{◌∙◌, arith}
use Rattle.patterns.proofs.Lines.{frame-added, frame-none}
use Rattle.patterns.proofs.Rooms.{frame-some, frame-zero}
use Rattle.patterns.proofs.add_frame.Goals as goal

pub returns-then-arity-gt0 : goal.returns-then-arity-gt0
returns-then-arity-gt0 c = let a = c.args in
    let f = frame-some a.w.now a.n a.r a.arity c.if-arity-gt0.true in
    (frame-added a.w.now _ a.n a.r a.arity c.requires c.put.ensures c.if-arity-gt0.true, c.put.ensures ∙ f.0, f.1)

pub returns-else-arity-gt0 : goal.returns-else-arity-gt0
returns-else-arity-gt0 c = let a = c.args in
    let z = c.if-arity-gt0.false in
    let f = frame-zero a.w.now a.n a.r a.arity (omega arith) in
    (frame-none a.w.now a.n a.r a.arity (omega arith), f.0, f.1)
