-- What InfApp does with its two written-out types. Assumes nothing.
use Rattle.std.proofs.Common.{List, ℕ}
use Rattle.nodes.specs.Nodes.{Ty}
use Rattle.judgment.specs.Types.{view}
use Rattle.judgment.specs.Terms.{Term}
use Rattle.judgment.specs.Board.{Rule}
use Rattle.judgment.specs.Rules.{Env, apply_by}
use Rattle.applying.specs.Applying.{apply_report}

abbrev pub applied : Env → Term → Ty → Ty → Rule
applied E e f t = apply_by E f e t (view f)

abbrev pub applied_report : ℕ → Ty → Ty → List ℕ → List ℕ
applied_report u f t out = apply_report out u (view f)
