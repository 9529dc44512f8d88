-- From the answer and its words to what is told of the sheet. Assumes nothing.
use Rattle.std.proofs.Common.{◌≡◌, ap, ◌∙◌, List, ℕ, ◌+◌, ◌*◌, ◌/◌, ◌≤◌, arith, length}
use Rattle.std.proofs.lemmas.List.Edits.{sets}
use Rattle.sizes.specs.Sizes.{highest_ceiling, usual_limit, usual_report}
use Rattle.judgment.specs.declared.Answer.{Answer}
use Rattle.judgment.specs.Levels.{first_call}
use Rattle.judgment.specs.Result.{Buffers}
use Rattle.checker.specs.Answered.{Answered}
use Rattle.wording.specs.Texts.{Wrote}
use Rattle.sentences.specs.Explained.{explained}
use Rattle.sentences.proofs.Fits.{held}
use Rattle.plan_explain.specs.Told.{called, told, Told}

pub telling : {s : List ℕ} {b after : Buffers} {a : Answer} {l m : List ℕ} {r : ℕ} → Answered first_call s highest_ceiling usual_limit b a after → length after.report ≡ usual_report
    → 48000 ≤ length l → Wrote l 0 (explained a after.report) m r → Told s b l m r after
unfolding told
telling {s} {b} {after} {a} {l} {m} {r} q e h w =
    let k : 300 + 23 * (length after.report / 2) ≤ length l = rw e (omega arith) in
    let v = held a after.report l m r k w in
    let t : explained a after.report ≡ told s b =
    ap (λ (x : Answer). explained x after.report) q.answer
    ∙ ap (λ (x : Buffers). explained (called s b).answer x.report) q.buffers in
    record { text = w.text ∙ ap (sets l 0) t; bytes = v.0 ∙ ap length t; within = v.2; buffers = q.buffers }
