use Rattle.std.proofs.Common.{rules, ◌≡◌, ◌+◌, ◌-◌, ◌&&◌, true, eqb, take, drop, refl, ◌∙◌, arith}
use Rattle.std.specs.List.{fold}
use Rattle.std.proofs.lemmas.Fn.{fold_over, fronts, slice_gives}
use Rattle.std.proofs.lemmas.List.Sums.{fold_push}
use Rattle.spelling.proofs.Laws.{blank_fold}
use Rattle.spelling.proofs.sixteen_spaces.Goals as goal

pub returns : goal.returns
returns c =
    let all = c.iter.result.rest.now in
    let d : c.args.at + 16 - c.args.at ≡ 16 = omega arith in
    let e : all ≡ take 16 (drop c.args.at c.args.s.now) = rw d at c.iter.ensures.rest in
    fold_over fronts (λ y. y.now) _ (λ ys a. a ≡ fold (λ b x. b && eqb x 32) true ys) _ (λ ys a x b f' i k. simp fold_push (search rules)) _ all true _
    (slice_gives c.iter.result) refl c.fold.ensures.ran
    ∙ rw e (blank_fold c.args.s.now 16 c.args.at true c.requires)
