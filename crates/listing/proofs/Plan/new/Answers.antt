use Rattle.std.proofs.Common.{ap, replicate}
use Rattle.sizes.specs.Sizes.{most_lines, plan_words}
use Rattle.listing.specs.declared.Scan.{Scan}
use Rattle.listing.specs.Listing.{state}
use Rattle.listing.proofs.Plan.new.Goals as goal

pub returns : goal.returns
returns c = ap (λ (x : Scan). state x (replicate plan_words 0) (replicate most_lines 0)) c.start.ensures
