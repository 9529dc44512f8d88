-- What the entry call's contract says. Assumes nothing: this is a definition.
use Rattle.std.specs.Prelude.{◌≡◌, List, ℕ, Ok}
use Rattle.grammar.specs.Check.{check}
use Rattle.sheet.specs.Plan.{triples, plan_of}
use Rattle.judgment.specs.declared.Answer.{Answer}
use Rattle.judgment.specs.Levels.{Mode}
use Rattle.judgment.specs.Result.{Buffers, limits_for, start_of, run_of, call}
use Rattle.judgment.specs.Promise.{Promise}

-- Answer and buffers are the definition's, refusals too; and the promise holds of the run that they are read off.
-- m is the call, s the sheet, c the ceiling and w the limit of a written-out type.
pub record Answered (m : Mode) (s : List ℕ) (c w : ℕ) (before : Buffers) (a : Answer) (after : Buffers) : Type 0 where
  pub answer : a ≡ (call m s c w before).answer
  pub buffers : after ≡ (call m s c w before).after
  pub promise : check s ≡ Ok tt → Promise (start_of (triples s)) (plan_of (triples s)).plain (run_of (limits_for m w) c (plan_of (triples s)))
