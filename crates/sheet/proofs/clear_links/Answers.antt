use Rattle.std.proofs.Common.{◌≡◌, ℕ, ◌*◌, ◌-◌, ◌/◌, length, take, drop, replicate, ap, ◌∙◌, arith, length-take, length-drop}
use Rattle.sheet.proofs.RowLaws.{filled}
use Rattle.sheet.proofs.clear_links.Goals as goal

pub returns : goal.returns
returns c =
    let d = c.args.d.now in
    let n = length d in
    let a = 2 * (n / 4) in
    let k : length (take (n - a) (drop a d)) ≡ n - a = omega (arith, length-take (n - a) (drop a d), length-drop a d) in
    filled d a (n - a) (omega arith) (c.fill.ensures.after (λ y e. e) ∙ ap (λ (m : ℕ). replicate {A = ℕ} m 0) k)
