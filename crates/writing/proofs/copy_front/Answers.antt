use Rattle.std.proofs.Common.{ℕ, List, ◌++◌, length, drop, sym, ap, ◌∙◌, zero-add, arith}
use Rattle.std.proofs.lemmas.List.Edits.{sets-eq}
use Rattle.writing.proofs.copy_front.Goals as goal

pub returns : goal.returns
returns c =
    let text = c.args.text.now in
    let out = c.args.out.now in
    let h = c.requires in
    ap (λ (ws : List ℕ). ws ++ drop (length text) out) c.copy_from_slice.ensures.after
    ∙ sym (sets-eq text out 0 (omega arith) ∙ ap (λ (k : ℕ). text ++ drop k out) (zero-add (length text)))
