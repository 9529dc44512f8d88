-- The arms of a term that is cut out of the sheet are those on the sheet. Assumes nothing.
use Rattle.std.proofs.Common.{◌≡◌, refl, ap, ap₂, ◌∙◌, ℕ, zero, suc, ◌+◌, ◌*◌, arith, [], ◌∷◌}
use Rattle.nodes.specs.Nodes.{Ty}
use Rattle.judgment.specs.Terms.{Term, part, after_parts}
use Rattle.judgment.specs.Board.{chk, Rule, push}
use Rattle.judgment.specs.Rules.{Env, push_vars, check_patterns, check_arms}
use Rattle.board.proofs.Terms.{firsts, first_of, after-firsts}

second : (e : Term) (n : ℕ) → part 1 (firsts (1 + (1 + n)) e) ≡ part 1 e
second e n = ap (part 0) (after-firsts e 1 (1 + n)) ∙ first_of (after_parts 1 e) n

pub arms-cut : (E : Env) (n : ℕ) (e : Term) (s t : Ty) → check_arms E n (firsts (2 * n) e) s t ≡ check_arms E n e s t
unfolding check_arms
arms-cut E zero e s t = refl
arms-cut E (suc n) e s t =
    let f : 2 * suc n ≡ 2 + 2 * n = omega arith in
    let g : 2 * suc n ≡ 1 + (1 + 2 * n) = omega arith in
    let a : part 0 (firsts (2 * suc n) e) ≡ part 0 e = ap (λ (m : ℕ). part 0 (firsts m e)) g ∙ first_of e (1 + 2 * n) in
    let b : part 1 (firsts (2 * suc n) e) ≡ part 1 e = ap (λ (m : ℕ). part 1 (firsts m e)) g ∙ second e (2 * n) in
    let c : check_arms E n (after_parts 2 (firsts (2 * suc n) e)) s t ≡ check_arms E n (after_parts 2 e) s t =
    ap (λ (m : ℕ). check_arms E n (after_parts 2 (firsts m e)) s t) f
    ∙ ap (λ (x : Term). check_arms E n x s t) (after-firsts e 2 (2 * n))
    ∙ arms-cut E n (after_parts 2 e) s t in
    ap₂ (λ (p q : Term). check_patterns E p.lines (s ∷ []) [] (λ bs. push_vars bs (push (chk q t) (check_arms E n (after_parts 2 (firsts (2 * suc n) e)) s t)))) a b
    ∙ ap (λ (r : Rule). check_patterns E (part 0 e).lines (s ∷ []) [] (λ bs. push_vars bs (push (chk (part 1 e) t) r))) c
