-- A type moved to the front of the report. Assumes nothing.
use Rattle.std.proofs.Common.{◌≡◌, sym, ap₂, ◌∙◌, true, false, List, ℕ, ◌+◌, ◌*◌, ◌≤◌, arith, length}
use Rattle.std.proofs.Math.Seq.{sets}
use Rattle.nodes.specs.Nodes.{Ty, words, nodes_at}
use Rattle.nodes.proofs.Laws.{length-nodes_at, nodes_at-same}
use Rattle.judgment.specs.Types.{is_monotype}
use Rattle.subtyping.specs.Subtyping.{mono_report}

pub moved_front : (t : List ℕ) (at n : ℕ) (t' : List ℕ) → t' ≡ sets t 0 (words (nodes_at t at n)) → at + 2 * n ≤ length t
    → (n ≡ length (nodes_at t at n)) × (nodes_at t' 0 n ≡ nodes_at t at n)
moved_front t at n t' e h =
    let l = length-nodes_at t at n in
    (sym l, ap₂ (λ (x : List ℕ) (m : ℕ). nodes_at x 0 m) e (sym l) ∙ nodes_at-same (nodes_at t at n) t 0 (omega arith))

-- every word of the report, by whether the type is a monotype
module _ (rep : List ℕ) (t : Ty) where
  pub mono-stays : is_monotype t ≡ true → rep ≡ mono_report rep t
  mono-stays e = rw e

  pub mono-moves : is_monotype t ≡ false → sets rep 0 (words t) ≡ mono_report rep t
  mono-moves e = rw e
