use Rattle.std.proofs.Common.{sym, ◌∙◌}
use Rattle.book.proofs.Comparing.{first-going, apart-rooms, apart-differs, compare-is}
use Rattle.book.proofs.compare.Goals as goal

pub skip_same-d-requires : goal.skip_same-d-requires
skip_same-d-requires c = c.requires.sides

pub apart-requires : goal.apart-requires
apart-requires c = apart-rooms (first-going c.requires c.skip_same-d.ensures).asks

pub returns-then-apart : goal.returns-then-apart
returns-then-apart c = apart-differs (first-going c.requires c.skip_same-d.ensures) (sym c.apart.ensures ∙ c.if-apart.true)

pub same_parts-requires : goal.same_parts-requires
same_parts-requires c = (first-going c.requires c.skip_same-d.ensures).asks

pub returns : goal.returns
returns c = compare-is (first-going c.requires c.skip_same-d.ensures) c.same_parts.ensures
