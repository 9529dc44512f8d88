-- The entries that are left to go over. Assumes nothing: these are definitions.
use Rattle.std.specs.Prelude.{List, map, drop}
use Rattle.sheet.specs.declared.Entries.{Entries}
use Rattle.sheet.specs.declared.Entry.{Entry}
use Rattle.sheet.specs.Plan.{declarations}
use Rattle.sheet.specs.Rows.{rows, entry_of}

abbrev pub entries_left : Entries → List Entry
entries_left e = map entry_of (declarations (drop e.at (rows e.sheet.now)) 0 e.at)
