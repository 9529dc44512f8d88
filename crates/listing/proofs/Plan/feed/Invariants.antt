use Rattle.std.proofs.Common.{◌≡◌, drop}
use Rattle.listing.specs.Listing.{fed}
use Rattle.listing.proofs.Plan.feed.Given as goal

abbrev pub invariant-loop-byte : goal.invariant-loop-byte
invariant-loop-byte l = fed l.self (drop l.byte-index l.block) ≡ fed l.initial.self l.block
