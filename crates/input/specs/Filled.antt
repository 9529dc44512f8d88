-- What a reading leaves. Assumes nothing: these are definitions.
use Rattle.std.specs.Prelude.{◌≡◌, List, ℕ, ◌≤◌, length, take, Result, Ok, Err}
use Rattle.std.specs.declared.io.Error.{Error}

-- where it ends: not before `at`, where it began, and within a buffer of m bytes
abbrev pub Ends : ℕ → Result ℕ Error → ℕ → Type 0
Ends at (Ok n) m = (at ≤ n) × (n ≤ m)
Ends at (Err e) m = Unit {0}

-- of a buffer that held l and then holds m, failed or not: it is as long as it was, and its bytes before `at` are kept
pub record Filled (at : ℕ) (r : Result ℕ Error) (l m : List ℕ) : Type 0 where
  pub ends : Ends at r (length l)
  pub bytes : length m ≡ length l
  pub kept : take at m ≡ take at l
