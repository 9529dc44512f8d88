-- Where a text that was written ends. Assumes nothing.
use Rattle.std.proofs.Common.{◌≡◌, ◌∙◌, ap, List, [], ℕ, ◌+◌, ◌≤◌, arith, length, refl}
use Rattle.std.proofs.Math.Seq.{length-sets}
use Rattle.wording.specs.Texts.{least, Wrote}

-- within the buffer
pub near : {l s m : List ℕ} {i j : ℕ} → Wrote l i s m j → j ≤ length m
near {l} {s} {m} {i} {j} w =
    let b : length m ≡ length l = ap length w.text ∙ length-sets l i s in
    let n : j ≡ least (length l) (i + length s) = w.next in
    omega arith

pub wrote_none : {l : List ℕ} {i : ℕ} → i ≤ length l → Wrote l i [] l i
wrote_none h = record { text = refl; next = omega arith }
