-- Types and terms that are short: at most m nodes, at most m lines. Assumes nothing: these are definitions.
use Rattle.std.specs.Prelude.{ℕ, ◌≤◌, length}
use Rattle.judgment.specs.Board.{Entry, tvar, var, sub, inf, chk, inf_app}

abbrev pub EntryShort : ℕ → Entry → Type 0
EntryShort m (tvar n) = Unit {0}
EntryShort m (var x t) = length t ≤ m
EntryShort m (sub s t) = (length s ≤ m) × (length t ≤ m)
EntryShort m (inf e t) = (length e.lines ≤ m) × (length t ≤ m)
EntryShort m (chk e t) = (length e.lines ≤ m) × (length t ≤ m)
EntryShort m (inf_app f e t) = (length f ≤ m) × (length e.lines ≤ m) × (length t ≤ m)
