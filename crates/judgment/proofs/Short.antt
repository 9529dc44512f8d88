-- No type of a run is longer than m nodes, where m is at least the limit of a type that is written out and the lines of the plan. Solutions may be
-- longer. Assumes nothing.
use Rattle.std.specs.Prelude.{Option, None, Some, Ok}
use Prim.Native.Nat.{ℕ, zero, suc, ◌+◌, ◌≤◌, ◌<◌}
use native.Mathlib.Omega.{arith}
use mathlib.Core.Path.{◌≡◌, refl, ap}
use mathlib.Core.Bool.{true, false, cond}
use mathlib.Core.List.{List, [], ◌∷◌, ◌++◌}
use borrow.Author.Tests.{leb-true}
use lib.Dec.{eqb, ltb}
use lib.ListN.{length, take, drop, length-append, length-take, length-drop}
use Rattle.nodes.specs.Nodes.{Node, node, Ty, node_parts}
use Rattle.nodes.specs.Lists.{All}
use Rattle.nodes.specs.Parts.{take_parts, drop_parts}
use Rattle.nodes.proofs.ListLaws.{cond_ind, all_append}
use Rattle.nodes.proofs.PartLaws.{take-drop}
use Rattle.spelling.specs.declared.Triple.{Triple}
use Rattle.kinds.specs.declared.Sort.{Sort}
use Rattle.kinds.specs.Kinds.{a_type, a_term, parts_of}
use Rattle.grammar.specs.Check.{check}
use Rattle.sheet.specs.Plan.{triples, nodes_of, Declaration, declarations, Binding, ◌∶◌, Bindings, bindings_in, lookup, entries_end, places_of, plan_of}
use Rattle.sheet.specs.Form.{IsPart}
use Rattle.sheet.proofs.Formed.{formed}
use Rattle.judgment.specs.Types.{unknown, eq_ty, View, is_arrow, is_app, is_forall, is_unknown, is_other, view, occurs, is_monotype, is_node, substitute_from, substitute, Renaming, rename, front_names, after_front}
use Rattle.judgment.specs.Terms.{Term, part, after_parts, Lambda, lambda_by, lambda_of, TermView, is_var, is_lit_int, is_lambda, is_apply, is_type_lambda, is_constructor, is_case, is_bin_op, is_if, is_intrinsic, is_none, view_by, term_view, PatternView, is_wildcard, is_pattern_var, is_pattern_constructor, pattern_view}
use Rattle.judgment.specs.Solutions.{◌≔◌, Solutions, find, write_out, solution_nodes}
use Rattle.judgment.specs.Board.{Limit, up_to, unlimited, below, within, Entry, tvar, var, sub, inf, chk, inf_app, Board, var_named, or_else, find_var, before, Limits, Rule, done, refuse, fresh, push, solve, zonk, look, State, state, Outcome, finished, refused, room_for, Operation, perform, operations}
use Rattle.judgment.specs.Levels.{Mode, Levels, own_levels, levels_after}
use Rattle.judgment.specs.Chain.{step_o}
use Rattle.judgment.specs.Rules.{Env, Side, left, right, on_side, off_side, open_body, solve_monotype, instantiate_by, instantiate_from, mismatch, forall_right, forall_left, unknown_right, unknown_left, subtype_by, subtype, open_names, instantiate_constructor, signature_by, signature_from, insert, push_vars, pattern_parts, pattern_constructor, pattern_by, check_patterns, check_arms, variable, constructor, infer_by, synthesize, check_arrow, check_by, apply_by, infer_app, rule}
use Rattle.judgment.specs.Run.{Step, step, Run, run, add_step, onward, run_from, check_type}
use Rattle.judgment.specs.Result.{env_of, start_of, run_of, limits_for}
use Rattle.judgment.specs.Good.{TermOK, EntryWhole}
use Rattle.judgment.specs.Short.{EntryShort}
use Rattle.judgment.proofs.TypeLaws.{eqb-true, Shows, view-shows}
use Rattle.judgment.proofs.WholeTerms.{lambda-parts}
use Rattle.judgment.proofs.WholeRun.{solving-ind, EnvWhole, StateWhole, OutcomeWhole, perform-whole, rule-whole, plan-whole}

---------------------------------------------------------------- types and terms
substitute_from-length : (x : ℕ) (r : Node) (t : Ty) (skip : ℕ) → length (substitute_from x r t skip) ≡ length t
substitute_from-length x r [] skip = refl
substitute_from-length x r (n ∷ ns) (suc skip) = ap suc (substitute_from-length x r ns (node_parts n + skip))
substitute_from-length x r (n ∷ ns) zero = ap suc (substitute_from-length x r ns (cond (is_node 14 x n) 1 0))

rename-length : (m : Renaming) (t : Ty) → length (rename m t) ≡ length t
unfolding rename
rename-length m [] = refl
rename-length m (n ∷ ns) = ap suc (rename-length m ns)

after_front-short : (t : Ty) → length (after_front t) ≤ length t
unfolding after_front
after_front-short [] = omega arith
after_front-short (node k v ∷ ns) =
    let h = after_front-short ns in
    elim (eqb k 14) as (λ b. length {A = Node} (elim b [ true ↦ after_front ns | false ↦ node k v ∷ ns ]) ≤ suc (length ns)) [
      | true ↦ omega arith
      | false ↦ omega arith
    ]

nodes_of-length : (ls : List Triple) → length (nodes_of ls) ≡ length ls
nodes_of-length [] = refl
nodes_of-length (l ∷ ls) = ap suc (nodes_of-length ls)

-- a part and what comes after it
cut-length : (ls : List Triple) (n : ℕ) → length (take_parts parts_of ls n) + length (drop_parts parts_of ls n) ≡ length ls
cut-length ls n = omega (arith, ap {B = ℕ} length (take-drop parts_of ls n), length-append (take_parts parts_of ls n) (drop_parts parts_of ls n))

after-short : (n : ℕ) (e : Term) → length (after_parts n e).lines ≤ length e.lines
after-short n e = omega (arith, cut-length e.lines n)

part-short : (i : ℕ) (e : Term) → length (part i e).lines ≤ length e.lines
part-short zero e = omega (arith, cut-length e.lines 1)
part-short (suc i) e = let h = part-short i (after_parts 1 e) in omega (arith, after-short 1 e, h)

part-some : (x : Sort) (ls : List Triple) → IsPart x ls → 0 < length ls
part-some x [] h = absurd h
part-some x (l ∷ ls) h = omega arith

module _ (m : ℕ) where
  substitute-short : (x : ℕ) (r : Node) (t : Ty) → length t ≤ m → length (substitute x r t) ≤ m
  unfolding substitute
  substitute-short x r t h = omega (arith, substitute_from-length x r t 0, h)

  abbrev ViewShort : View → Type 0
  ViewShort (is_arrow a b) = (length a ≤ m) × (length b ≤ m)
  ViewShort (is_app a b) = (length a ≤ m) × (length b ≤ m)
  ViewShort (is_forall x b) = length b ≤ m
  ViewShort (is_unknown k) = Unit {0}
  ViewShort is_other = Unit {0}

  shows-short : (t : Ty) (v : View) → Shows v t → length t ≤ m → ViewShort v
  shows-short t (is_arrow a b) e h = (omega (arith, ap {B = ℕ} length e, length-append a b, h), omega (arith, ap {B = ℕ} length e, length-append a b, h))
  shows-short t (is_app a b) e h = (omega (arith, ap {B = ℕ} length e, length-append a b, h), omega (arith, ap {B = ℕ} length e, length-append a b, h))
  shows-short t (is_forall x b) e h = omega (arith, ap {B = ℕ} length e, h)
  shows-short t (is_unknown k) e h = tt
  shows-short t is_other e h = tt

  view-short : (t : Ty) → length t ≤ m → ViewShort (view t)
  view-short t h = shows-short t (view t) (view-shows t) h

  abbrev TermShort : Term → Type 0
  TermShort e = length e.lines ≤ m

  -- a Lambda's type has two nodes less than the term has lines: its own line and its body's
  abbrev TermViewShort : TermView → Type 0
  TermViewShort (is_var x) = Unit {0}
  TermViewShort is_lit_int = Unit {0}
  TermViewShort (is_lambda x s e) = (length s + 2 ≤ m) × TermShort e
  TermViewShort (is_apply f e) = TermShort f × TermShort e
  TermViewShort (is_type_lambda x e) = TermShort e
  TermViewShort (is_constructor x) = Unit {0}
  TermViewShort (is_case n e arms) = TermShort e × TermShort arms
  TermViewShort (is_bin_op op e₁ e₂) = TermShort e₁ × TermShort e₂
  TermViewShort (is_if e₁ e₂ e₃) = TermShort e₁ × TermShort e₂ × TermShort e₃
  TermViewShort (is_intrinsic x n e) = TermShort e
  TermViewShort is_none = Unit {0}

  lambda-short : (t : Triple) (e : Term) → IsPart a_term (t ∷ e.lines) → t.kind ≡ 23 → suc (length e.lines) ≤ m → length (nodes_of (part 0 e).lines) + 2 ≤ m
  lambda-short t e h k l =
      let b = part-some a_term (part 1 e).lines (lambda-parts t e h k).1 in
      let c = part-short 0 (after_parts 1 e) in
      omega (arith, nodes_of-length (part 0 e).lines, cut-length e.lines 1, b, c, l)

  lines-short : (ls : List Triple) (next : ℕ) → IsPart a_term ls → length ls ≤ m → TermViewShort (view_by ls next)
  lines-short [] next h l = tt
  lines-short (t ∷ ls) next h l =
      let W : TermView → Type 0 = TermViewShort in
      let parts : Term = record { line = next; lines = ls } in
      cond_ind W (eqb t.kind 21) (λ _. tt)
      (λ _. cond_ind W (eqb t.kind 22) (λ _. tt)
      (λ _. cond_ind W (eqb t.kind 23) (λ e. (lambda-short t parts h (eqb-true t.kind 23 e) l, p 1))
      (λ _. cond_ind W (eqb t.kind 24) (λ _. (p 0, p 1))
      (λ _. cond_ind W (eqb t.kind 25) (λ _. p 0)
      (λ _. cond_ind W (eqb t.kind 26) (λ _. tt)
      (λ _. cond_ind W (eqb t.kind 27) (λ _. (p 0, omega (arith, after-short 1 parts, l)))
      (λ _. cond_ind W (eqb t.kind 28) (λ _. (p 0, p 1))
      (λ _. cond_ind W (eqb t.kind 29) (λ _. (p 0, p 1, p 2))
      (λ _. cond_ind W (eqb t.kind 30) (λ _. p 0) (λ _. tt))))))))))
    where
      p : (i : ℕ) → length (part i (record { line = next; lines = ls })).lines ≤ m
      p i = let h = part-short i (record { line = next; lines = ls }) in omega (arith, h, l)

  term-view-short : (e : Term) → TermOK e → TermShort e → TermViewShort (term_view e)
  unfolding term_view
  term-view-short e h l = lines-short e.lines (e.line + 1) h l

  abbrev LambdaShort : Option Lambda → Type 0
  LambdaShort None = Unit {0}
  LambdaShort (Some f) = (length f.type ≤ m) × TermShort f.body

  lambda_by-short : (ls : List Triple) (next : ℕ) → length ls ≤ m → LambdaShort (lambda_by ls next)
  lambda_by-short [] next l = tt
  lambda_by-short (t ∷ ls) next l =
      let parts : Term = record { line = next; lines = ls } in
      let a = part-short 0 parts in
      let b = part-short 1 parts in
      cond_ind LambdaShort (eqb t.kind 23) (λ _. (omega (arith, nodes_of-length (part 0 parts).lines, a, l), omega (arith, b, l))) (λ _. tt)

  lambda_of-short : (e : Term) → TermShort e → LambdaShort (lambda_of e)
  unfolding lambda_of
  lambda_of-short e l = lambda_by-short e.lines (e.line + 1) l

  ---------------------------------------------------------------- what a rule must show
  abbrev pub BindingShort : Binding → Type 0
  BindingShort (◌∶◌ x t) = length t ≤ m

  pub record EnvShort (E : Env) : Type 0 where
    pub constructors : All BindingShort E.constructors
    pub context : All BindingShort E.context

  abbrev pub StateShort : State → Type 0
  StateShort (state Γ σ n) = All (EntryShort m) Γ

  abbrev pub OutcomeShort : Outcome → Type 0
  OutcomeShort (finished s) = StateShort s
  OutcomeShort (refused r ts s) = StateShort s

  -- where an entry was taken, the entry, and what its rule left
  abbrev pub StepShort : Step → Type 0
  StepShort (step s e os o) = StateShort s × EntryShort m e × OutcomeShort o

  abbrev pub RunShort : Run → Type 0
  RunShort (run ss d s) = All StepShort ss × StateShort s

  -- a type that was looked up
  abbrev pub FoundShort : Option Ty → Type 0
  FoundShort None = Unit {0}
  FoundShort (Some t) = length t ≤ m

  abbrev Shorts : List Ty → Type 0
  Shorts ts = All (λ t. length t ≤ m) ts

  or_else-short : (a b : Option Ty) → FoundShort a → FoundShort b → FoundShort (or_else a b)
  or_else-short None b p q = q
  or_else-short (Some t) b p q = p

  var_named-short : (x : ℕ) (e : Entry) → EntryShort m e → FoundShort (var_named x e)
  var_named-short x (tvar n) h = tt
  var_named-short x (var y t) h = cond_ind FoundShort (eqb x y) (λ _. h) (λ _. tt)
  var_named-short x (sub s t) h = tt
  var_named-short x (inf e t) h = tt
  var_named-short x (chk e t) h = tt
  var_named-short x (inf_app f e t) h = tt

  pub find_var-short : (x : ℕ) (Γ : Board) → All (EntryShort m) Γ → FoundShort (find_var x Γ)
  unfolding find_var
  find_var-short x [] h = tt
  find_var-short x (e ∷ Γ) h = or_else-short (var_named x e) (find_var x Γ) (var_named-short x e h.0) (find_var-short x Γ h.1)

  abbrev pub ShortGood : Rule → Type 0
  ShortGood done = Unit {0}
  ShortGood (refuse r ts) = Unit {0}
  ShortGood (fresh o f) = (n : ℕ) → ShortGood (f n)
  ShortGood (push e p) = EntryShort m e × ShortGood p
  ShortGood (solve k s p) = ShortGood p
  ShortGood (zonk t f) = (u : Ty) → length u ≤ m → ShortGood (f u)
  ShortGood (look f) = (Γ : Board) → All (EntryShort m) Γ → ShortGood (f Γ)

  -- a limit that lets nothing longer pass
  abbrev pub AtMost : Limit → Type 0
  AtMost (up_to w) = w ≤ m
  AtMost unlimited = ⊥

  within-short : (k : ℕ) (l : Limit) → AtMost l → within k l ≡ true → k ≤ m
  within-short k (up_to w) h e = let x = leb-true k w e in omega (arith, x, h)
  within-short k unlimited h e = absurd h

  pub perform-short : (L : Limits) → AtMost L.written → (p : Rule) (Γ : Board) (σ : Solutions) (n : ℕ) → All (EntryShort m) Γ → ShortGood p
      → OutcomeShort (perform L p Γ σ n)
  unfolding perform
  perform-short L w done Γ σ n h g = h
  perform-short L w (refuse r ts) Γ σ n h g = h
  perform-short L w (fresh o f) Γ σ n h g =
      cond_ind OutcomeShort (below n L.numbers) (λ _. perform-short L w (f n) Γ σ (suc n) h (g n)) (λ _. h)
  perform-short L w (push e p) Γ σ n h g =
      cond_ind OutcomeShort (room_for L e Γ) (λ _. perform-short L w p (e ∷ Γ) σ n (g.0, h) g.1) (λ _. h)
  perform-short L w (solve k s p) Γ σ n h g =
      solving-ind OutcomeShort (find k σ) s
      (cond_ind OutcomeShort (L.scope k s)
      (λ _. cond_ind OutcomeShort (within (solution_nodes σ + length s) L.solved) (λ _. perform-short L w p Γ (σ ++ (◌≔◌ k s ∷ [])) n h g) (λ _. h))
      (λ _. h))
      (perform-short L w p Γ σ n h g)
      h
  perform-short L w (zonk t f) Γ σ n h g =
      cond_ind OutcomeShort (within (length (write_out σ t)) L.written)
      (λ e. perform-short L w (f (write_out σ t)) Γ σ n h (g (write_out σ t) (within-short (length (write_out σ t)) L.written w e))) (λ _. h)
  perform-short L w (look f) Γ σ n h g = perform-short L w (f Γ) Γ σ n h (g Γ h)

-- 2 is for the Arrow and the unknown of a Lambda's inferred type, and for the Forall and the unknown of a TypeLambda's
module _ (m : ℕ) (two : 2 ≤ m) where
  ---------------------------------------------------------------- instantiation
  leaf : 1 ≤ m
  leaf = omega (arith, two)

  on-short : (d : Side) (u t : Ty) → length u ≤ m → length t ≤ m → EntryShort m (on_side d u t)
  on-short left u t p q = (p, q)
  on-short right u t p q = (q, p)

  off-short : (d : Side) (u t : Ty) → length u ≤ m → length t ≤ m → EntryShort m (off_side d u t)
  off-short left u t p q = (q, p)
  off-short right u t p q = (p, q)

  open_body-short : (d : Side) (x : ℕ) (b : Ty) (f : Ty → Rule) → length b ≤ m → ((u : Ty) → length u ≤ m → ShortGood m (f u)) → ShortGood m (open_body d x b f)
  open_body-short left x b f h c = λ u. (tt, c (substitute x (node 18 u) b) (substitute-short m x (node 18 u) b h))
  open_body-short right x b f h c = λ a. (tt, (tt, c (substitute x (node 17 a) b) (substitute-short m x (node 17 a) b h)))

  monotype-short : (k : ℕ) (t : Ty) → ShortGood m (solve_monotype k t)
  monotype-short k t = cond_ind (ShortGood m) (is_monotype t) (λ _. tt) (λ _. tt)

  instantiate_by-short : (d : Side) (k : ℕ) (t : Ty) (again : Ty → Rule) (v : View) → ViewShort m v → ((u : Ty) → length u ≤ m → ShortGood m (again u))
      → ShortGood m (instantiate_by d k t again v)
  instantiate_by-short d k t again (is_unknown b) w c = λ Γ hΓ. cond_ind (ShortGood m) (before k b Γ) (λ _. tt) (λ _. monotype-short k t)
  instantiate_by-short d k t again (is_arrow t₁ t₂) w c = λ a b.
      (tt, (tt, (off-short d (unknown a) t₁ leaf w.0, (on-short d (unknown b) t₂ leaf w.1, tt))))
  instantiate_by-short d k t again (is_app t₁ t₂) w c = λ a b.
      (tt, (tt, (on-short d (unknown a) t₁ leaf w.0, (on-short d (unknown b) t₂ leaf w.1, tt))))
  instantiate_by-short d k t again (is_forall x b) w c = open_body-short d x b again w c
  instantiate_by-short d k t again is_other w c = monotype-short k t

  instantiate_from-short : (n : ℕ) (d : Side) (k : ℕ) (t : Ty) → length t ≤ m → ShortGood m (instantiate_from n d k t)
  unfolding instantiate_from
  instantiate_from-short zero d k t h = tt
  instantiate_from-short (suc n) d k t h =
      instantiate_by-short d k t (λ t'. instantiate_from n d k t') (view t) (view-short m t h) (λ u hu. instantiate_from-short n d k u hu)

  ---------------------------------------------------------------- comparisons
  module _ (l r : Ty) (hl : length l ≤ m) (hr : length r ≤ m) where
    forall_right-short : (x : ℕ) (b : Ty) → length b ≤ m → ShortGood m (forall_right l r x b)
    forall_right-short x b h = λ u. (tt, ((hl, substitute-short m x (node 18 u) b h), tt))

    forall_left-short : (x : ℕ) (a : Ty) → length a ≤ m → ShortGood m (forall_left l r x a)
    forall_left-short x a h = λ u. (tt, (tt, ((substitute-short m x (node 17 u) a h, hr), tt)))

    unknown_right-short : (k : ℕ) → ShortGood m (unknown_right l r k)
    unknown_right-short k = cond_ind (ShortGood m) (occurs k l) (λ _. tt) (λ _. instantiate_from-short (suc (length l)) right k l hl)

    unknown_left-short : (k : ℕ) (otherwise : Rule) → ShortGood m otherwise → ShortGood m (unknown_left l r k otherwise)
    unknown_left-short k otherwise g = cond_ind (ShortGood m) (occurs k r) (λ _. g) (λ _. instantiate_from-short (suc (length r)) left k r hr)

    subtype_by-short : (v w : View) → ViewShort m v → ViewShort m w → ShortGood m (subtype_by l r v w)
    subtype_by-short (is_arrow a₁ a₂) (is_arrow b₁ b₂) p q = ((q.0, p.0), ((p.1, q.1), tt))
    subtype_by-short (is_arrow a₁ a₂) (is_app b₁ b₂) p q = tt
    subtype_by-short (is_arrow a₁ a₂) (is_forall x b) p q = forall_right-short x b q
    subtype_by-short (is_arrow a₁ a₂) (is_unknown k) p q = unknown_right-short k
    subtype_by-short (is_arrow a₁ a₂) is_other p q = tt
    subtype_by-short (is_app a₁ a₂) (is_arrow b₁ b₂) p q = tt
    subtype_by-short (is_app a₁ a₂) (is_app b₁ b₂) p q = ((p.0, q.0), ((p.1, q.1), tt))
    subtype_by-short (is_app a₁ a₂) (is_forall x b) p q = forall_right-short x b q
    subtype_by-short (is_app a₁ a₂) (is_unknown k) p q = unknown_right-short k
    subtype_by-short (is_app a₁ a₂) is_other p q = tt
    subtype_by-short (is_forall x a) (is_arrow b₁ b₂) p q = forall_left-short x a p
    subtype_by-short (is_forall x a) (is_app b₁ b₂) p q = forall_left-short x a p
    subtype_by-short (is_forall x a) (is_forall y b) p q = forall_right-short y b q
    subtype_by-short (is_forall x a) (is_unknown k) p q = forall_left-short x a p
    subtype_by-short (is_forall x a) is_other p q = forall_left-short x a p
    subtype_by-short (is_unknown k) (is_arrow b₁ b₂) p q = unknown_left-short k (mismatch l r) tt
    subtype_by-short (is_unknown k) (is_app b₁ b₂) p q = unknown_left-short k (mismatch l r) tt
    subtype_by-short (is_unknown k) (is_forall y b) p q = forall_right-short y b q
    subtype_by-short (is_unknown k) (is_unknown j) p q = unknown_left-short k (unknown_right l r j) (unknown_right-short j)
    subtype_by-short (is_unknown k) is_other p q = unknown_left-short k (mismatch l r) tt
    subtype_by-short is_other (is_arrow b₁ b₂) p q = tt
    subtype_by-short is_other (is_app b₁ b₂) p q = tt
    subtype_by-short is_other (is_forall y b) p q = forall_right-short y b q
    subtype_by-short is_other (is_unknown k) p q = unknown_right-short k
    subtype_by-short is_other is_other p q = tt

  subtype-short : (s t : Ty) → ShortGood m (subtype s t)
  unfolding subtype
  subtype-short s t = λ l hl r hr.
      cond_ind (ShortGood m) (eq_ty l r) (λ _. tt) (λ _. subtype_by-short l r hl hr (view l) (view r) (view-short m l hl) (view-short m r hr))

  ---------------------------------------------------------------- constructors and patterns
  lookup-short : (x : ℕ) (bs : Bindings) → All (BindingShort m) bs → FoundShort m (lookup x bs)
  unfolding lookup
  lookup-short x [] h = tt
  lookup-short x (◌∶◌ y t ∷ bs) h = cond_ind (FoundShort m) (eqb y x) (λ _. h.0) (λ _. lookup-short x bs h.1)

  insert-short : (x : ℕ) (t : Ty) (bs : Bindings) → length t ≤ m → All (BindingShort m) bs → All (BindingShort m) (insert x t bs)
  unfolding insert
  insert-short x t [] h g = (h, tt)
  insert-short x t (◌∶◌ y u ∷ bs) h g =
      cond_ind (All (BindingShort m)) (eqb x y) (λ _. (h, g.1))
      (λ _. cond_ind (All (BindingShort m)) (ltb x y) (λ _. (h, g)) (λ _. (g.0, insert-short x t bs h g.1)))

  open_names-short : (xs : List ℕ) (r : Renaming) (f : Renaming → Rule) → ((r' : Renaming) → ShortGood m (f r')) → ShortGood m (open_names xs r f)
  unfolding open_names
  open_names-short [] r f c = c r
  open_names-short (x ∷ xs) r f c = λ a. (tt, open_names-short xs ((x, a) ∷ r) f c)

  instantiate_constructor-short : (t : Ty) (f : Ty → Rule) → length t ≤ m → ((u : Ty) → length u ≤ m → ShortGood m (f u)) → ShortGood m (instantiate_constructor t f)
  instantiate_constructor-short t f h c =
      open_names-short (front_names t) [] (λ r. f (rename r (after_front t)))
      (λ r. c (rename r (after_front t)) (omega (arith, rename-length r (after_front t), after_front-short t, h)))

  signature_by-short : (ps : List Ty) (t : Ty) (f again : List Ty → Ty → Rule) (v : View) → Shorts m ps → length t ≤ m → ViewShort m v
      → ((ps' : List Ty) (t' : Ty) → Shorts m ps' → length t' ≤ m → ShortGood m (f ps' t'))
      → ((ps' : List Ty) (t' : Ty) → Shorts m ps' → length t' ≤ m → ShortGood m (again ps' t'))
      → ShortGood m (signature_by ps t f again v)
  signature_by-short ps t f again (is_arrow a b) hp ht w c k =
      k (ps ++ (a ∷ [])) b (all_append (λ (u : Ty). length u ≤ m) ps (a ∷ []) hp (w.0, tt)) w.1
  signature_by-short ps t f again (is_app a b) hp ht w c k = c ps t hp ht
  signature_by-short ps t f again (is_forall x b) hp ht w c k = c ps t hp ht
  signature_by-short ps t f again (is_unknown j) hp ht w c k = c ps t hp ht
  signature_by-short ps t f again is_other hp ht w c k = c ps t hp ht

  signature_from-short : (n : ℕ) (ps : List Ty) (t : Ty) (f : List Ty → Ty → Rule) → Shorts m ps → length t ≤ m
      → ((ps' : List Ty) (t' : Ty) → Shorts m ps' → length t' ≤ m → ShortGood m (f ps' t')) → ShortGood m (signature_from n ps t f)
  unfolding signature_from
  signature_from-short zero ps t f hp ht c = c ps t hp ht
  signature_from-short (suc n) ps t f hp ht c =
      signature_by-short ps t f (λ ps' t'. signature_from n ps' t' f) (view t) hp ht (view-short m t ht) c
      (λ ps' t' hp' ht'. signature_from-short n ps' t' f hp' ht' c)

  push_vars-short : (bs : Bindings) (p : Rule) → All (BindingShort m) bs → ShortGood m p → ShortGood m (push_vars bs p)
  unfolding push_vars
  push_vars-short [] p h g = g
  push_vars-short (◌∶◌ x t ∷ bs) p h g = (h.0, push_vars-short bs p h.1 g)

  ---------------------------------------------------------------- every rule
  module _ (E : Env) (hE : EnvShort m E) where
    pattern_constructor-short : (x c : ℕ) (t : Ty) (again : List Ty → Rule) (k : Option Ty) → length t ≤ m → FoundShort m k
        → ((ps : List Ty) → Shorts m ps → ShortGood m (again ps)) → ShortGood m (pattern_constructor E x c t again k)
    pattern_constructor-short x c t again None ht hk f = tt
    pattern_constructor-short x c t again (Some k) ht hk f =
        instantiate_constructor-short k (λ t'. signature_from (length t') [] t' (pattern_parts E c t again)) hk (λ u hu.
        signature_from-short (length u) [] u (pattern_parts E c t again) tt hu (λ ps res hps hres.
        ((hres, ht), cond_ind (ShortGood m) (eqb c (length ps)) (λ _. f ps hps) (λ _. tt))))

    pattern_by-short : (x c : ℕ) (t : Ty) (bs : Bindings) (again : List Ty → Bindings → Rule) (v : PatternView) → length t ≤ m → All (BindingShort m) bs
        → ((ps : List Ty) (bs' : Bindings) → Shorts m ps → All (BindingShort m) bs' → ShortGood m (again ps bs')) → ShortGood m (pattern_by E x c t bs again v)
    pattern_by-short x c t bs again is_wildcard ht hbs f = f [] bs tt hbs
    pattern_by-short x c t bs again is_pattern_var ht hbs f = f [] (insert x t bs) tt (insert-short x t bs ht hbs)
    pattern_by-short x c t bs again is_pattern_constructor ht hbs f =
        pattern_constructor-short x c t (λ ps. again ps bs) (lookup x E.constructors) ht (lookup-short x E.constructors hE.constructors)
        (λ ps hps. f ps bs hps hbs)

    check_patterns-short : (ls : List Triple) (ts : List Ty) (bs : Bindings) (f : Bindings → Rule) → Shorts m ts → All (BindingShort m) bs
        → ((bs' : Bindings) → All (BindingShort m) bs' → ShortGood m (f bs')) → ShortGood m (check_patterns E ls ts bs f)
    unfolding check_patterns
    check_patterns-short [] ts bs f hts hbs c = c bs hbs
    check_patterns-short (l ∷ ls) [] bs f hts hbs c = c bs hbs
    check_patterns-short (l ∷ ls) (t ∷ ts) bs f hts hbs c =
        pattern_by-short l.value l.count t bs (λ ps bs'. check_patterns E ls (ps ++ ts) bs' f) (pattern_view l.kind) hts.0 hbs
        (λ ps bs' hps hbs'. check_patterns-short ls (ps ++ ts) bs' f (all_append (λ (u : Ty). length u ≤ m) ps ts hps hts.1) hbs' c)

    check_arms-short : (n : ℕ) (ls : Term) (s t : Ty) → TermShort m ls → length s ≤ m → length t ≤ m → ShortGood m (check_arms E n ls s t)
    unfolding check_arms
    check_arms-short zero ls s t h hs ht = tt
    check_arms-short (suc n) ls s t h hs ht =
        let p : Rule = push (chk (part 1 ls) t) (check_arms E n (after_parts 2 ls) s t) in
        let a = part-short 1 ls in
        let b = after-short 2 ls in
        check_patterns-short (part 0 ls).lines (s ∷ []) [] (λ bs. push_vars bs p) (hs, tt) tt
        (λ bs hbs. push_vars-short bs p hbs ((omega (arith, a, h), ht), check_arms-short n (after_parts 2 ls) s t (omega (arith, b, h)) hs ht))

    variable-short : (x : ℕ) (t : Ty) (a b c : Option Ty) → length t ≤ m → FoundShort m a → FoundShort m b → FoundShort m c → ShortGood m (variable E x t a b c)
    variable-short x t (Some u) b c ht ha hb hc = ((ha, ht), tt)
    variable-short x t None (Some u) c ht ha hb hc = ((hb, ht), tt)
    variable-short x t None None (Some u) ht ha hb hc = ((hc, ht), tt)
    variable-short x t None None None ht ha hb hc = tt

    constructor-short : (x : ℕ) (t : Ty) (k : Option Ty) → length t ≤ m → FoundShort m k → ShortGood m (constructor E x t k)
    constructor-short x t None ht hk = tt
    constructor-short x t (Some k) ht hk = instantiate_constructor-short k (λ u. push (sub u t) done) hk (λ u hu. ((hu, ht), tt))

    arrow-short : (s : Ty) (b : ℕ) → length s + 2 ≤ m → (suc (length (s ++ unknown b)) ≤ m) × (length s ≤ m)
    arrow-short s b h = (omega (arith, length-append s (unknown b), h), omega (arith, h))

    infer_by-short : (t : Ty) (v : TermView) → TermViewShort m v → length t ≤ m → ShortGood m (infer_by E t v)
    infer_by-short t (is_var x) h ht = λ Γ hΓ.
        variable-short x t (lookup x E.context) (find_var x Γ) (lookup x E.constructors) ht
        (lookup-short x E.context hE.context) (find_var-short m x Γ hΓ) (lookup-short x E.constructors hE.constructors)
    infer_by-short t is_lit_int h ht = ((leaf, ht), tt)
    infer_by-short t (is_lambda x s e) h ht = λ b. (tt, (((arrow-short s b h.0).0, ht), ((arrow-short s b h.0).1, ((h.1, leaf), tt))))
    infer_by-short t (is_apply f e) h ht = λ a. (tt, ((leaf, h.1, ht), ((h.0, leaf), tt)))
    infer_by-short t (is_type_lambda x e) h ht = λ b. (tt, ((two, ht), (tt, ((h, leaf), tt))))
    infer_by-short t (is_constructor x) h ht = constructor-short x t (lookup x E.constructors) ht (lookup-short x E.constructors hE.constructors)
    infer_by-short t (is_case n e arms) h ht = λ a. (tt, ((h.0, leaf), check_arms-short n arms (unknown a) t h.1 leaf ht))
    infer_by-short t (is_bin_op op e₁ e₂) h ht = ((h.0, leaf), ((h.1, leaf), ((leaf, ht), tt)))
    infer_by-short t (is_if e₁ e₂ e₃) h ht = ((h.0, leaf), ((h.1, ht), ((h.2, ht), tt)))
    infer_by-short t (is_intrinsic x n e) h ht =
        cond_ind (ShortGood m) (eqb x 4) (λ _. cond_ind (ShortGood m) (eqb n 1) (λ _. ((h, leaf), ((leaf, ht), tt))) (λ _. tt)) (λ _. tt)
    infer_by-short t is_none h ht = tt

    synthesize-short : (e : Term) (t : Ty) → TermShort m e → length t ≤ m → ShortGood m (synthesize E e t)
    synthesize-short e t he ht = λ a. (tt, ((leaf, ht), ((he, leaf), tt)))

    check_arrow-short : (e : Term) (t a b : Ty) (f : Option Lambda) → TermShort m e → LambdaShort m f → length t ≤ m → length a ≤ m → length b ≤ m
        → ShortGood m (check_arrow E e t a b f)
    check_arrow-short e t a b None he h ht ha hb = synthesize-short e t he ht
    check_arrow-short e t a b (Some f) he h ht ha hb = ((h.0, ha), (h.0, ((h.1, hb), tt)))

    check_by-short : (e : Term) (t : Ty) (v : View) → TermShort m e → length t ≤ m → ViewShort m v → ShortGood m (check_by E e t v)
    check_by-short e t (is_arrow a b) he ht w = check_arrow-short e t a b (lambda_of e) he (lambda_of-short m e he) ht w.0 w.1
    check_by-short e t (is_forall x b) he ht w = λ u. (tt, ((he, substitute-short m x (node 18 u) b w), tt))
    check_by-short e t (is_app a b) he ht w = synthesize-short e t he ht
    check_by-short e t (is_unknown k) he ht w = synthesize-short e t he ht
    check_by-short e t is_other he ht w = synthesize-short e t he ht

    apply_by-short : (f : Ty) (e : Term) (c : Ty) (v : View) → TermShort m e → length c ≤ m → ViewShort m v → ShortGood m (apply_by E f e c v)
    apply_by-short f e c (is_arrow a b) he hc w = ((w.1, hc), ((he, w.0), tt))
    apply_by-short f e c (is_forall x b) he hc w = λ a. (tt, ((substitute-short m x (node 17 a) b w, he, hc), tt))
    apply_by-short f e c (is_unknown k) he hc w = λ a b. (tt, (tt, ((leaf, hc), ((he, leaf), tt))))
    apply_by-short f e c (is_app a b) he hc w = tt
    apply_by-short f e c is_other he hc w = tt

    pub rule-short : (e : Entry) → EntryWhole e → EntryShort m e → ShortGood m (rule E e)
    unfolding infer_app
    rule-short (tvar n) w h = tt
    rule-short (var x t) w h = tt
    rule-short (sub s t) w h = subtype-short s t
    rule-short (inf e t) w h = infer_by-short t (term_view e) (term-view-short m e w.0 h.0) h.1
    rule-short (chk e t) w h = check_by-short e t (view t) h.0 h.1 (view-short m t h.1)
    rule-short (inf_app f e c) w h = λ f' hf c' hc. apply_by-short f' e c' (view f') h.1 hc (view-short m f' hf)

    pub step-short : (L : Limits) → AtMost m L.written → (o : Outcome) → OutcomeWhole o → OutcomeShort m o → OutcomeShort m (step_o L E o)
    step-short L w (finished (state [] σ n)) k h = h
    step-short L w (finished (state (e ∷ Γ) σ n)) k h = perform-short m L w (rule E e) Γ σ n h.1 (rule-short e k.0.0 h.0)
    step-short L w (refused r ts s) k h = h

  ---------------------------------------------------------------- a run
  add-short : (t : Step) (R : Run) → StepShort m t → RunShort m R → RunShort m (add_step t R)
  add-short t (run ss d s) h g = ((h, g.0), g.1)

  module _ (L : Levels → Limits) (hL : (v : Levels) → AtMost m (L v).written) (E : Env) (gE : EnvWhole E) (hE : EnvShort m E) where
    onward-short : (s : State) (e : Entry) (os : List Operation) (o : Outcome) (again : State → Run) → StateShort m s → EntryShort m e → OutcomeWhole o
        → OutcomeShort m o → ((s' : State) → StateWhole s' → StateShort m s' → RunShort m (again s')) → RunShort m (onward L E s e os o again)
    onward-short s e os (finished s') again hs he go ho c = add-short (step s e os (finished s')) (again s') (hs, he, ho) (c s' go ho)
    onward-short s e os (refused r ts s') again hs he go ho c = (((hs, he, ho), tt), ho)

    pub run_short : (c : ℕ) (v : Levels) (s : State) → StateWhole s → StateShort m s → RunShort m (run_from L E c v s)
    unfolding run_from
    run_short zero v (state [] σ n) g h = (tt, h)
    run_short zero v (state (e ∷ Γ) σ n) g h = (tt, h)
    run_short (suc c) v (state [] σ n) g h = (tt, h)
    run_short (suc c) v (state (e ∷ Γ) σ n) g h =
        let os = operations (L v) (rule E e) Γ σ n in
        onward-short (state (e ∷ Γ) σ n) e os (perform (L v) (rule E e) Γ σ n) (λ s. run_from L E c (levels_after os v) s) h h.0
        (perform-whole (L v) (rule E e) Γ σ n g.0.1 g.1 (rule-whole E gE e g.0.0))
        (perform-short m (L v) (hL v) (rule E e) Γ σ n h.1 (rule-short E hE e g.0.0 h.0))
        (λ s gs hs. run_short c (levels_after os v) s gs hs)

---------------------------------------------------------------- a plan
module _ (m : ℕ) (ls : List Triple) (few : length ls ≤ m) where
  cut_short : (i j : ℕ) → length (take i (drop j ls)) ≤ m
  cut_short i j = simp (length-take, length-drop) (omega (arith, few))

  bindings-short : (k : ℕ) (es : List Declaration) → All (BindingShort m) (bindings_in k ls es)
  unfolding bindings_in
  bindings-short k [] = tt
  bindings-short k (e ∷ es) =
      cond_ind (All (BindingShort m)) (eqb e.head.kind k)
      (λ _. (omega (arith, nodes_of-length (take e.count (drop e.line ls)), cut_short e.count e.line), bindings-short k es))
      (λ _. bindings-short k es)

  pub plan-short : (let p = plan_of ls in EnvShort m (env_of p) × EntryShort m (chk p.term p.expected))
  unfolding plan_of
  plan-short =
      let t = drop (places_of ls).expected ls in (
        record {
          constructors = bindings-short 1 (declarations ls 0 0);
          context = bindings-short 2 (declarations ls 0 0);
        },
        (
          omega (arith, length-drop (places_of ls).term ls, few),
          omega (arith, nodes_of-length (take_parts parts_of t 1), cut-length t 1, length-drop (places_of ls).expected ls, few),
        ),
      )

-- a sheet that is taken has the line of its expected type's head, and that type
pub two-lines : (s : List ℕ) → check s ≡ Ok tt → 2 ≤ length (triples s)
unfolding places_of
two-lines s e =
    let ls = triples s in
    let t = drop (entries_end ls + 1) ls in
    let h = part-some a_type (take_parts parts_of t 1) (formed s e).expected in
    omega (arith, h, cut-length t 1, length-drop (entries_end ls + 1) ls)

-- every state of a sheet's run, whatever the call, the ceiling c and the limit w
pub call-short : (s : List ℕ) → check s ≡ Ok tt → (m : ℕ) → length (triples s) ≤ m → (mode : Mode) (w : ℕ) → w ≤ m → (c : ℕ)
    → RunShort m (run_of (limits_for mode w) c (plan_of (triples s)))
unfolding run_of check_type
call-short s e m few mode w h c =
    let k = plan-whole s e in
    let two : 2 ≤ m = omega (arith, two-lines s e, few) in
    let p = plan-short m (triples s) few in
    run_short m two (limits_for mode w) (λ v. h) (env_of (plan_of (triples s))) k.0 p.0 c own_levels (start_of (triples s)) ((k.1, tt), tt) (p.1, tt)
