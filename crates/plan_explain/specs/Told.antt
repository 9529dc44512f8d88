-- What is told of a sheet. Assumes nothing: these are definitions.
use Rattle.std.specs.Prelude.{◌≡◌, List, ℕ, ◌≤◌, length, take, Result, Ok, Err}
use Rattle.std.proofs.lemmas.List.Edits.{sets}
use Rattle.sizes.specs.Sizes.{highest_ceiling, usual_limit}
use Rattle.judgment.specs.Levels.{first_call}
use Rattle.judgment.specs.Result.{Buffers, Called, call}
use Rattle.sentences.specs.Explained.{explained}

-- the call with the highest ceiling and document 01's limit
abbrev pub called : List ℕ → Buffers → Called
called s b = call first_call s highest_ceiling usual_limit b

-- its answer in words
unfoldable pub told : List ℕ → Buffers → List ℕ
told s b = explained (called s b).answer (called s b).after.report

-- the first r bytes of m are what is told, the others are those of l, and the buffers after the call are `after`
pub record Told (s : List ℕ) (b : Buffers) (l m : List ℕ) (r : ℕ) (after : Buffers) : Type 0 where
  pub text : m ≡ sets l 0 (told s b)
  pub bytes : r ≡ length (told s b)
  pub within : r ≤ length m
  pub buffers : after ≡ (called s b).after

-- of the bytes that were read, the first n of s; where they could not be read, the text and the buffers are as they
-- were
abbrev pub ToldOf : {E : Type 0} → Result ℕ E → List ℕ → Buffers → List ℕ → List ℕ → Buffers → Type 0
ToldOf (Ok r) s b l m after = (n : ℕ) × (n ≤ length s) × Told (take n s) b l m r after
ToldOf (Err e) s b l m after = (m ≡ l) × (after ≡ b)
