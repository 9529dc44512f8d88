use Rattle.std.proofs.Common.{rules, ◌≡◌, fold, refl, ap, ◌∙◌}
use Rattle.std.proofs.lemmas.Fn.{fold_over, fronts, slice_gives}
use Rattle.std.proofs.lemmas.List.Sums.{fold_push}
use Rattle.spelling.specs.Spelling.{step}
use Rattle.spelling.specs.declared.Field.TheVariants.{Blank}
use Rattle.spelling.proofs.Fields.{run, field-rest}
use Rattle.spelling.proofs.field_of.Goals as goal

pub returns : goal.returns
returns c =
    fold_over fronts (λ y. y.now) _ (λ ys f. f ≡ fold step Blank ys) _ (λ ys a x b f' i k. simp fold_push (search rules)) _ c.iter.result.rest.now Blank _
    (slice_gives c.iter.result) refl c.fold.ensures.ran
    ∙ ap (run Blank) c.iter.ensures.rest ∙ field-rest c.args.bytes.now c.spaces.result c.spaces.ensures.within c.spaces.ensures.count
