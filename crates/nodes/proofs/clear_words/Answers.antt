use Rattle.std.proofs.Common.{◌+◌, ◌-◌, length, take, drop, arith, rules}
use Rattle.nodes.proofs.Laws.{put-zeros}
use Rattle.nodes.proofs.clear_words.Goals as goal

pub returns : goal.returns
returns c = let a = c.args in
    put-zeros a.dst.now c.fill.new.self a.at a.n (a.at + a.n - a.at) (length (take (a.at + a.n - a.at) (drop a.at a.dst.now))) (omega arith) (omega arith) (c.fill.ensures.after (λ y q. search rules)) (search rules)
