-- The rounds that a definition counts down never decide: with as many as there are nodes, more change nothing. Assumes nothing.
use Prim.Native.Nat.{ℕ, zero, suc, ◌+◌, ◌≤◌, ◌<◌}
use native.Mathlib.Omega.{arith}
use mathlib.Core.Path.{◌≡◌, refl, sym, ◌∙◌, ap, fun_ext}
use mathlib.Core.Bool.{Bool, true, false, cond, ◌&&◌, ◌||◌}
use mathlib.Core.List.{List, [], ◌∷◌, ◌++◌}
use lib.Dec.{eqb}
use lib.ListN.{length, length-append}
use Rattle.nodes.specs.Nodes.{Node, node, Ty, kind, node_parts}
use Rattle.nodes.specs.Parts.{drop_parts}
use Rattle.judgment.specs.Types.{arrow, is_node, eq_node, rest, View, is_arrow, is_app, is_forall, is_unknown, is_other, view, substitute_from, substitute, can_unify_from}
use Rattle.judgment.specs.Board.{tvar, own, universal, Rule, fresh, push}
use Rattle.judgment.specs.Rules.{Side, left, right, open_body, instantiate_by, instantiate_from, signature_by, signature_from}
use Rattle.judgment.proofs.TypeLaws.{Shows, view-shows}

---------------------------------------------------------------- the rounds of an instantiation are enough
pub substitute-length : (x : ℕ) (r : Node) (t : Ty) (skip : ℕ) → length (substitute_from x r t skip) ≡ length t
substitute-length x r [] skip = refl
substitute-length x r (n ∷ t) zero = ap suc (substitute-length x r t (cond (is_node 14 x n) 1 0))
substitute-length x r (n ∷ t) (suc skip) = ap suc (substitute-length x r t (node_parts n + skip))

open_body-same : (d : Side) (x : ℕ) (b : Ty) (f g : Ty → Rule) → ((t : Ty) → length t ≡ length b → f t ≡ g t) → open_body d x b f ≡ open_body d x b g
unfolding substitute
open_body-same left x b f g h = ap (fresh universal) (fun_ext (λ u. ap (push (tvar (node 18 u))) (h (substitute x (node 18 u) b) (substitute-length x (node 18 u) b 0))))
open_body-same right x b f g h =
    ap (fresh own) (fun_ext (λ u. ap (λ p. push (tvar (node 17 u)) (push (tvar (node 17 u)) p)) (h (substitute x (node 17 u) b) (substitute-length x (node 17 u) b 0))))

instantiate_by-same : (d : Side) (k : ℕ) (t : Ty) (f g : Ty → Rule) (v : View) → Shows v t → ((s : Ty) → suc (length s) ≡ length t → f s ≡ g s)
    → instantiate_by d k t f v ≡ instantiate_by d k t g v
instantiate_by-same d k t f g (is_unknown b) e h = refl
instantiate_by-same d k t f g (is_arrow a b) e h = refl
instantiate_by-same d k t f g (is_app a b) e h = refl
instantiate_by-same d k t f g (is_forall x b) e h = open_body-same d x b f g (λ s q. h s (ap suc q ∙ sym (ap length e)))
instantiate_by-same d k t f g is_other e h = refl

-- more rounds than nodes: the number of rounds does not matter
pub rounds-enough : (m n : ℕ) (d : Side) (k : ℕ) (t : Ty) → length t < m → length t < n → instantiate_from m d k t ≡ instantiate_from n d k t
unfolding instantiate_from
rounds-enough zero n d k t l l' = absurd (omega arith)
rounds-enough (suc m) zero d k t l l' = absurd (omega arith)
rounds-enough (suc m) (suc n) d k t l l' =
    instantiate_by-same d k t (λ s. instantiate_from m d k s) (λ s. instantiate_from n d k s) (view t) (view-shows t)
    (λ s e. rounds-enough m n d k s (omega arith) (omega arith))

---------------------------------------------------------------- and so are those of a signature
-- the result of an Arrow is shorter than the Arrow
arrow-shorter : (a b : Ty) → length b < length (arrow a b)
arrow-shorter a b = omega (arith, length-append a b)

signature_by-same : (ps : List Ty) (t : Ty) (f g h : List Ty → Ty → Rule) (v : View) → Shows v t
    → ((ps' : List Ty) (s : Ty) → length s < length t → g ps' s ≡ h ps' s) → signature_by ps t f g v ≡ signature_by ps t f h v
signature_by-same ps t f g h (is_arrow a b) e k = k (ps ++ (a ∷ [])) b (omega (arith, arrow-shorter a b, ap length e))
signature_by-same ps t f g h (is_app a b) e k = refl
signature_by-same ps t f g h (is_forall x b) e k = refl
signature_by-same ps t f g h (is_unknown j) e k = refl
signature_by-same ps t f g h is_other e k = refl

pub signature-enough : (m n : ℕ) (ps : List Ty) (t : Ty) (f : List Ty → Ty → Rule) → length t ≤ m → length t ≤ n → signature_from m ps t f ≡ signature_from n ps t f
unfolding signature_from view
signature-enough zero zero ps t f l l' = refl
signature-enough zero (suc n) ps [] f l l' = refl
signature-enough zero (suc n) ps (x ∷ t) f l l' = absurd (omega arith)
signature-enough (suc m) zero ps [] f l l' = refl
signature-enough (suc m) zero ps (x ∷ t) f l l' = absurd (omega arith)
signature-enough (suc m) (suc n) ps t f l l' =
    signature_by-same ps t f (λ ps' s. signature_from m ps' s f) (λ ps' s. signature_from n ps' s f) (view t) (view-shows t)
    (λ ps' s k. signature-enough m n ps' s f (omega arith) (omega arith))

---------------------------------------------------------------- and those of `can_types_unify`
drop-shorter : (xs : Ty) (n : ℕ) → length (drop_parts node_parts xs n) ≤ length xs
drop-shorter [] n = omega arith
drop-shorter (x ∷ xs) zero = omega arith
drop-shorter (x ∷ xs) (suc n) = let h = drop-shorter xs (node_parts x + n) in omega arith

-- a choice whose sides are the same
chosen : (b : Bool) {p p' q q' : Bool} → p ≡ p' → q ≡ q' → ◌≡◌ {A = Bool} (elim b [ true ↦ p | false ↦ q ]) (elim b [ true ↦ p' | false ↦ q' ])
chosen true e f = e
chosen false e f = f

pub unify-enough : (m n : ℕ) (s t : Ty) → length s ≤ m → length s ≤ n → can_unify_from m s t ≡ can_unify_from n s t
unify-enough zero zero s t l l' = refl
unify-enough zero (suc n) [] t l l' = refl
unify-enough zero (suc n) (x ∷ s) t l l' = absurd (omega arith)
unify-enough (suc m) zero [] t l l' = refl
unify-enough (suc m) zero (x ∷ s) t l l' = absurd (omega arith)
unify-enough (suc m) (suc n) [] t l l' = refl
unify-enough (suc m) (suc n) (x ∷ s) [] l l' = refl
unify-enough (suc m) (suc n) (x ∷ s) (y ∷ t) l l' =
    let h = drop-shorter s (node_parts x + 0) in
    chosen (eqb (kind x) 17 || eqb (kind y) 17)
    (unify-enough m n (rest (x ∷ s)) (rest (y ∷ t)) (omega arith) (omega arith))
    (ap (λ (b : Bool). eq_node x y && b) (unify-enough m n s t (omega arith) (omega arith)))
