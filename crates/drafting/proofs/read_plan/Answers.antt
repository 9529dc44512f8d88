use Rattle.std.proofs.Common.{ap, ◌∙◌}
use Rattle.listing.specs.Listing.{State, fed, ended}
use Rattle.drafting.proofs.Laws.{none-fed, fed-on}
use Rattle.drafting.proofs.read_plan.Goals as goal

pub loop-init : goal.loop-init
loop-init g c = none-fed _

pub loop-preserved : goal.loop-preserved
loop-preserved g c = fed-on c.loop.invariant c.in_ok-read_block.ensures

pub returns-then-not-branch : goal.returns-then-not-branch
returns-then-not-branch g c =
    let f = fed-on c.loop.invariant c.in_ok-read_block.ensures in
    record { text = f.text; by = c.finish.ensures ∙ ap ended f.by ∙ ap (λ (s : State). ended (fed s f.text)) c.restart.ensures }
