-- What the numbers of a text say, read one after another. Assumes nothing: these are definitions.
use Rattle.std.specs.Prelude.{ℕ, zero, suc, ◌+◌, ◌-◌, ◌*◌, Bool, true, false, cond, ◌&&◌, ◌||◌, List, [], ◌∷◌, ◌==◌, nat_le, nat_lt}
use Rattle.replay.specs.declared.cursor.Number.{Number}

-- what a text says at its front, and the bytes after it; or that it does not say such a thing
pub data Parse (A : Type 0) : Type 0 where
  fails : Parse A
  gives : A → List ℕ → Parse A

-- one after the other
abbrev pub and_then : {A B : Type 0} → Parse A → (A → List ℕ → Parse B) → Parse B
and_then fails f = fails
and_then (gives x t) f = f x t

abbrev pub ◌>>=◌ : {A B : Type 0} → (List ℕ → Parse A) → (A → List ℕ → Parse B) → List ℕ → Parse B
◌>>=◌ p f s = and_then (p s) f

abbrev pub pure : {A : Type 0} → A → List ℕ → Parse A
pure x s = gives x s

abbrev pub fail : {A : Type 0} → List ℕ → Parse A
fail s = fails

-- a number that has ended has digits
abbrev pub number_if : Bool → Bool → ℕ → List ℕ → Parse Number
number_if some minus n t = cond some (gives (record { negative = minus; magnitude = n }) t) fails

abbrev pub is_digit : ℕ → Bool
is_digit b = nat_le 48 b && nat_le b 57

-- the digits up to the end or a space, which is passed; `some` if there were digits, n what they say. Ten times a number
-- of more than 922337203685477580 might not fit 64 bits.
unfoldable pub digits : Bool → Bool → ℕ → List ℕ → Parse Number
digits some minus n [] = number_if some minus n []
digits some minus n (b ∷ t) =
    cond (b == 32) (number_if some minus n t) (cond (is_digit b && nat_le n 922337203685477580) (digits true minus (10 * n + (b - 48)) t) fails)

unfoldable pub number : List ℕ → Parse Number
number [] = fails
number (b ∷ t) = cond (b == 45) (digits false true 0 t) (digits false false 0 (b ∷ t))

-- a number of 32 bits
abbrev pub word_of : Number → List ℕ → Parse ℕ
word_of n t = cond (n.negative || nat_lt 4294967295 n.magnitude) fails (gives n.magnitude t)

unfoldable pub word : List ℕ → Parse ℕ
word s = and_then (number s) word_of

-- one of at most m
unfoldable pub up_to : ℕ → List ℕ → Parse ℕ
up_to m s = and_then (word s) (λ n t. cond (nat_lt m n) fails (gives n t))

-- n things one after another, the i-th and those after it; x is what stands before each
unfoldable pub times : {A : Type 0} → ℕ → (ℕ → A → List ℕ → Parse A) → ℕ → A → List ℕ → Parse A
times zero f i x = pure x
times (suc n) f i x = do
  y ← f i x
  times n f (i + 1) y

-- the end of the text
abbrev pub ended : {A : Type 0} → A → List ℕ → Parse A
ended x [] = gives x []
ended x (b ∷ t) = fails
