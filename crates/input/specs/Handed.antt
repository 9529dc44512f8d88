-- What a function that was lent names of files was called at. Assumes nothing: these are definitions.
use Rattle.std.specs.Prelude.{◌≡◌, List, ℕ, ◌≤◌, length, IsUtf8}
use Rattle.std.specs.List.{All, FoldsTo}

-- bytes of the longest name of a file
abbrev pub longest_name : ℕ
longest_name = 4096

-- text, no longer than that
pub record Name (n : List ℕ) : Type 0 where
  pub text : IsUtf8 n
  pub within : length n ≤ longest_name

-- It was called at `count` names, one after another, and at nothing else: f is what it was before, g what it is then;
-- `call` says of a call what it does.
pub record Handed {F : Type 0} (call : F → List ℕ → Unit {0} → F → Type 0) (f g : F) (count : ℕ) : Type 0 where
  pub names : List (List ℕ)
  pub right : All (λ n. Name n) names
  pub counted : length names ≡ count
  pub called : FoldsTo (λ p n q. call p n tt q) f names g
