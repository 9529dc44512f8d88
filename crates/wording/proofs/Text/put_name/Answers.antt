use Rattle.std.proofs.Common.{◌≡◌, ◌++◌, arith}
use Rattle.std.proofs.lemmas.Bool.Decides.{nat_tests}
use Rattle.wording.specs.Texts.{bytes, number_text, name_text}
use Rattle.wording.proofs.Laws.{then_put}
use Rattle.wording.proofs.Text.put_name.Goals as goal

pub returns-in_default : goal.returns-in_default
unfolding name_text
returns-in_default c =
    let e : name_text c.args.n ≡ bytes "n" ++ number_text c.args.n = grind (arith, nat_tests) in
    rw e (then_put c.put-in_default.ensures c.put_number.ensures)
