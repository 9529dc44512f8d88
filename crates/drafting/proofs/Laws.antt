-- Texts one after the other. Assumes nothing.
use Rattle.std.proofs.Common.{◌≡◌, refl, sym, ap, ◌∙◌, Bool, List, ℕ, [], ◌++◌, take}
use Rattle.listing.specs.Listing.{State, fed}
use Rattle.listing.proofs.Laws.{fed-append}
use Rattle.drafting.specs.Drafting.{Block}

-- after some text
pub record Fed (s t : State) : Type 0 where
  pub text : List ℕ
  pub by : t ≡ fed s text

pub none-fed : (s : State) → Fed s s
unfolding fed
none-fed s = record { text = []; by = refl }

-- a text and then a block
pub fed-on : {s t u : State} {b : List ℕ} {more : Bool} → Fed s t → Block t b more u → Fed s u
fed-on {s} {b = b} a k =
    record { text = a.text ++ take k.bytes b; by = k.by ∙ ap (λ (x : State). fed x (take k.bytes b)) a.by ∙ sym (fed-append a.text (take k.bytes b) s) }
