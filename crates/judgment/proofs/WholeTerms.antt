-- One whole term each: the parts that the rules take out of a whole term are whole. Assumes nothing.
use Rattle.std.specs.Prelude.{Option, None, Some}
use Prim.Native.Nat.{ℕ, suc, ◌+◌}
use mathlib.Core.Path.{◌≡◌, subst}
use mathlib.Core.Bool.{true}
use mathlib.Core.List.{List, [], ◌∷◌, append-nil}
use lib.Dec.{eqb}
use lib.ListN.{replicate}
use Rattle.nodes.proofs.ListLaws.{cond_ind}
use Rattle.spelling.specs.declared.Triple.{Triple}
use Rattle.kinds.specs.declared.Sort.{Sort}
use Rattle.kinds.specs.Kinds.{a_type, a_term, a_pattern, row_of, find, table}
use Rattle.grammar.specs.Grammar.{Item, part as item, arms, following}
use Rattle.sheet.specs.Form.{Forms, IsPart}
use Rattle.sheet.proofs.Forming.{due-following, split}
use Rattle.sheet.proofs.TypeLines.{type-whole}
use Rattle.judgment.specs.Terms.{Term, part, after_parts, Lambda, lambda_by, lambda_of, TermView, is_var, is_lit_int, is_lambda, is_apply, is_type_lambda, is_constructor, is_case, is_bin_op, is_if, is_intrinsic, is_none, view_by, term_view}
use Rattle.judgment.specs.Good.{IsTy, TermOK}
use Rattle.judgment.proofs.TypeLaws.{eqb-true}

-- n arms, each a whole pattern and a whole term
abbrev pub ArmsOK : ℕ → Term → Type 0
ArmsOK n e = Forms e.lines (arms n)

-- ---- lines, part by part
front : (e : Term) (x : Sort) (ahead : List Item) → Forms e.lines (item x ∷ ahead) → IsPart x (part 0 e).lines × Forms (after_parts 1 e).lines ahead
front e x ahead f = split e.lines (item x ∷ []) ahead tt f

two : (e : Term) (x y : Sort) (ahead : List Item) → Forms e.lines (item x ∷ item y ∷ ahead) → IsPart x (part 0 e).lines × IsPart y (part 1 e).lines
two e x y ahead f =
    let p = front e x (item y ∷ ahead) f in
    (p.0, (front (after_parts 1 e) y ahead p.1).0)

-- the first arm, as `check_arms` takes it, and the others
pub arms-whole : (n : ℕ) (e : Term) → ArmsOK (suc n) e → IsPart a_pattern (part 0 e).lines × TermOK (part 1 e) × ArmsOK n (after_parts 2 e)
unfolding arms
arms-whole n e f =
    let p = two e a_pattern a_term (arms n) f in
    (p.0, p.1, (split e.lines (item a_pattern ∷ item a_term ∷ []) (arms n) tt f).1)

-- the lines after a term's first, which has kind k
after : (t : Triple) (ls : List Triple) → IsPart a_term (t ∷ ls) → (k : ℕ) → t.kind ≡ k → Forms ls (following (row_of k).types (row_of k).terms (row_of k).each t.count)
after t ls h k e =
    subst (λ (j : ℕ). Forms ls (following (row_of j).types (row_of j).terms (row_of j).each t.count)) e
    (subst (Forms ls) (due-following a_term t h.0).1 (subst (Forms ls) (append-nil _) h.1))

-- the type and the body of a Lambda; its parts are e
pub lambda-parts : (t : Triple) (e : Term) → IsPart a_term (t ∷ e.lines) → t.kind ≡ 23 → IsPart a_type (part 0 e).lines × TermOK (part 1 e)
unfolding row_of find table following
lambda-parts t e h k = two e a_type a_term [] (after t e.lines h 23 k)

-- ---- what is taken out of a term
-- an Intrinsic may have no argument; its rule takes the first only where the count is 1
abbrev pub TermViewWhole : TermView → Type 0
TermViewWhole (is_var x) = Unit {0}
TermViewWhole is_lit_int = Unit {0}
TermViewWhole (is_lambda x s e) = IsTy s × TermOK e
TermViewWhole (is_apply f e) = TermOK f × TermOK e
TermViewWhole (is_type_lambda x e) = TermOK e
TermViewWhole (is_constructor x) = Unit {0}
TermViewWhole (is_case n e arms) = TermOK e × ArmsOK n arms
TermViewWhole (is_bin_op op e₁ e₂) = TermOK e₁ × TermOK e₂
TermViewWhole (is_if e₁ e₂ e₃) = TermOK e₁ × TermOK e₂ × TermOK e₃
TermViewWhole (is_intrinsic x n e) = n ≡ 1 → TermOK e
TermViewWhole is_none = Unit {0}

view-whole : (ls : List Triple) (next : ℕ) → IsPart a_term ls → TermViewWhole (view_by ls next)
unfolding row_of find table following
view-whole [] next h = tt
view-whole (t ∷ ls) next h =
    let W : TermView → Type 0 = TermViewWhole in
    let parts : Term = record { line = next; lines = ls } in
    cond_ind W (eqb t.kind 21) (λ _. tt)
    (λ _. cond_ind W (eqb t.kind 22) (λ _. tt)
    (λ _. cond_ind W (eqb t.kind 23) (λ e. (let p = lambda-parts t parts h (eqb-true t.kind 23 e) in (type-whole (part 0 parts).lines p.0, p.1)))
    (λ _. cond_ind W (eqb t.kind 24) (λ e. two parts a_term a_term [] (from 24 e))
    (λ _. cond_ind W (eqb t.kind 25) (λ e. (front parts a_term [] (from 25 e)).0)
    (λ _. cond_ind W (eqb t.kind 26) (λ _. tt)
    (λ _. cond_ind W (eqb t.kind 27) (λ e. front parts a_term (arms t.count) (from 27 e))
    (λ _. cond_ind W (eqb t.kind 28) (λ e. two parts a_term a_term [] (from 28 e))
    (λ _. cond_ind W (eqb t.kind 29) (λ e. (let p = front parts a_term (item a_term ∷ item a_term ∷ []) (from 29 e) in let q = two (after_parts 1 parts) a_term a_term [] p.1 in (p.0, q.0, q.1)))
    (λ _. cond_ind W (eqb t.kind 30) (λ e n. (front parts a_term [] (subst (λ (c : ℕ). Forms ls (replicate c (item a_term))) n (from 30 e))).0) (λ _. tt))))))))))
  where
    from : (k : ℕ) → eqb t.kind k ≡ true → Forms ls (following (row_of k).types (row_of k).terms (row_of k).each t.count)
    from k e = after t ls h k (eqb-true t.kind k e)

pub term-view-whole : (e : Term) → TermOK e → TermViewWhole (term_view e)
unfolding term_view
term-view-whole e h = view-whole e.lines (e.line + 1) h

abbrev pub LambdaWhole : Option Lambda → Type 0
LambdaWhole None = Unit {0}
LambdaWhole (Some f) = IsTy f.type × TermOK f.body

lambda-by : (ls : List Triple) (next : ℕ) → IsPart a_term ls → LambdaWhole (lambda_by ls next)
unfolding row_of find table following
lambda-by [] next h = tt
lambda-by (t ∷ ls) next h =
    let parts : Term = record { line = next; lines = ls } in
    cond_ind LambdaWhole (eqb t.kind 23)
    (λ e. (let p = lambda-parts t parts h (eqb-true t.kind 23 e) in (type-whole (part 0 parts).lines p.0, p.1)))
    (λ _. tt)

pub lambda-whole : (e : Term) → TermOK e → LambdaWhole (lambda_of e)
unfolding lambda_of
lambda-whole e h = lambda-by e.lines (e.line + 1) h
