-- Boards that no rule tells apart, and rules that ask no more of a board than these share. Assumes nothing.
use Rattle.std.specs.Prelude.{Option, None, Some}
use Prim.Native.Nat.{ℕ, zero, suc, ◌+◌}
use mathlib.Core.Path.{◌≡◌, refl, ap, ap₂, subst}
use mathlib.Core.Bool.{Bool, true, false, cond}
use mathlib.Core.List.{[], ◌∷◌, ◌++◌, List}
use lib.ListN.{length}
use Rattle.nodes.proofs.ListLaws.{cond_ind}
use Rattle.nodes.specs.Nodes.{Ty}
use Rattle.judgment.specs.declared.TypeError.{TypeError}
use Rattle.judgment.specs.declared.TypeError.TheVariants.{UnboundVariable, UnboundDataConstructor, NotAFunction, ArityMismatch, SubtypingError, TypeUnificationError, InstantiationError, IntrinsicArityMismatch, UnknownIntrinsic, BoardFull, TypeTooLong, NoFreshNumber, SolutionsFull, OutOfScope}
use Rattle.judgment.specs.Types.{unknown, eq_ty, View, is_arrow, is_app, is_forall, is_unknown, is_other, view, can_unify, occurs, is_monotype}
use Rattle.judgment.specs.Terms.{Term, Lambda, lambda_of}
use Rattle.judgment.specs.Solutions.{◌≔◌, Solutions, find, write_out, solution_nodes}
use Rattle.judgment.specs.Board.{below, within, Entry, var, Board, entry_nodes, board_nodes, var_named, or_else, find_var, is_t_var, has_t_var, before, Limits, Rule, done, refuse, fresh, push, solve, zonk, look, state, Outcome, finished, refused, solving, room_for, perform, Origin, Operation, made, pushed, gave, met, operations}
use Rattle.judgment.specs.Levels.{Levels, level_after, levels_after}
use Rattle.judgment.proofs.WholeRun.{solving-ind}
use Rattle.judgment.specs.Rules.{Env, Side, left, right, open_body, solve_monotype, instantiate_by, instantiate_from, mismatch, unknown_left, unknown_right, subtype_by, subtype, variable, check_arrow, check_by, apply_by, infer_app}

-- ---- boards that no rule tells apart
-- the same answers, and as many nodes
pub record Same (Γ Δ : Board) : Type 0 where
  pub found : (x : ℕ) → find_var x Γ ≡ find_var x Δ
  pub nodes : board_nodes Γ ≡ board_nodes Δ

-- Entry by entry the same, but that Vars may differ, which do nothing when taken. Under an entry that does not differ the boards are the same.
pub data Alike : Board → Board → Type 0 where
  empty : Alike [] []
  entry : (e : Entry) {Γ Δ : Board} → Same Γ Δ → Alike Γ Δ → Alike (e ∷ Γ) (e ∷ Δ)
  vars : (x : ℕ) (t : Ty) (y : ℕ) (u : Ty) {Γ Δ : Board} → Alike Γ Δ → Alike (var x t ∷ Γ) (var y u ∷ Δ)

pub record Near (Γ Δ : Board) : Type 0 where
  pub alike : Alike Γ Δ
  pub whole : Same Γ Δ

pub alike-length : {Γ Δ : Board} → Alike Γ Δ → length Γ ≡ length Δ
alike-length empty = refl
alike-length (entry e s h) = ap suc (alike-length h)
alike-length (vars x t y u h) = ap suc (alike-length h)

alike-has : (k : ℕ) {Γ Δ : Board} → Alike Γ Δ → has_t_var k Γ ≡ has_t_var k Δ
alike-has k empty = refl
alike-has k (entry e s h) = ap (cond (is_t_var k e) true) (alike-has k h)
alike-has k (vars x t y u h) = alike-has k h

alike-before : (a b : ℕ) {Γ Δ : Board} → Alike Γ Δ → before a b Γ ≡ before a b Δ
unfolding before
alike-before a b empty = refl
alike-before a b (entry e s h) = ap₂ (λ p q. cond (is_t_var a e) false (cond (is_t_var b e) p q)) (alike-has a h) (alike-before a b h)
alike-before a b (vars x t y u h) = alike-before a b h

near-push : (e : Entry) {Γ Δ : Board} → Near Γ Δ → Near (e ∷ Γ) (e ∷ Δ)
unfolding find_var board_nodes
near-push e h = record {
  alike = entry e h.whole h.alike;
  whole = record { found = λ x. ap (or_else (var_named x e)) (h.whole.found x); nodes = ap (λ n. entry_nodes e + n) h.whole.nodes };
}

-- ---- rules that go the same way on such boards
-- the same but for the boards; a refusal's is no part of a result
pub data Agree : Outcome → Outcome → Type 0 where
  finish : {Γ Δ : Board} {σ : Solutions} {n : ℕ} → Near Γ Δ → Agree (finished (state Γ σ n)) (finished (state Δ σ n))
  stop : {r : TypeError} {ts : Ty} {Γ Δ : Board} {σ : Solutions} {n : ℕ} → Agree (refused r ts (state Γ σ n)) (refused r ts (state Δ σ n))

either : (b : Bool) {o q o' q' : Outcome} → Agree o o' → Agree q q' → Agree (cond b o q) (cond b o' q')
either true f g = f
either false f g = g

solving-agree : (f : Option Ty) (s : Ty) {a b c a' b' c' : Outcome} → Agree a a' → Agree b b' → Agree c c' → Agree (solving f s a b c) (solving f s a' b' c')
solving-agree None s f g h = f
solving-agree (Some t) s f g h = either (can_unify s t) g h

-- the refusal that no rule raises, only a solve
abbrev pub NotScope : TypeError → Type 0
NotScope (UnboundVariable x) = Unit {0}
NotScope (UnboundDataConstructor x) = Unit {0}
NotScope (NotAFunction n) = Unit {0}
NotScope (ArityMismatch e a) = Unit {0}
NotScope (SubtypingError l r) = Unit {0}
NotScope TypeUnificationError = Unit {0}
NotScope (InstantiationError k n) = Unit {0}
NotScope (IntrinsicArityMismatch a) = Unit {0}
NotScope (UnknownIntrinsic x) = Unit {0}
NotScope BoardFull = Unit {0}
NotScope TypeTooLong = Unit {0}
NotScope NoFreshNumber = Unit {0}
NotScope SolutionsFull = Unit {0}
NotScope OutOfScope = ⊥

abbrev pub InScope : Outcome → Type 0
InScope (finished s) = Unit {0}
InScope (refused r ts s) = NotScope r

-- a rule that asks of the board only what is the same
abbrev pub Steady : Rule → Type 0
Steady done = Unit {0}
Steady (refuse r ts) = NotScope r
Steady (fresh o f) = (n : ℕ) → Steady (f n)
Steady (push e p) = Steady p
Steady (solve k s p) = Steady p
Steady (zonk t f) = (u : Ty) → Steady (f u)
Steady (look f) = ((Γ Δ : Board) → Near Γ Δ → f Γ ≡ f Δ) × ((Γ : Board) → Steady (f Γ))

-- operations that leave the same levels
pub record Levelled (os ps : List Operation) : Type 0 where
  pub same : (v : Levels) → levels_after os v ≡ levels_after ps v

level-none : {os : List Operation} → Levelled os os
level-none = record { same = λ v. refl }

level-more : (o : Operation) {os ps : List Operation} → Levelled os ps → Levelled (o ∷ os) (o ∷ ps)
unfolding levels_after
level-more o k = record { same = λ v. k.same (level_after o v) }

level-either : (b : Bool) {os ps os' ps' : List Operation} → Levelled os os' → Levelled ps ps' → Levelled (cond b os ps) (cond b os' ps')
level-either true f g = f
level-either false f g = g

level-solving : (o : Option Ty) (s : Ty) {a b c a' b' c' : List Operation} → Levelled a a' → Levelled b b' → Levelled c c' → Levelled (solving o s a b c) (solving o s a' b' c')
level-solving None s f g h = f
level-solving (Some t) s f g h = level-either (can_unify s t) g h

-- every solution is in scope
abbrev pub Open : Limits → Type 0
Open L = (k : ℕ) (s : Ty) → L.scope k s ≡ true

module _ (L : Limits) where
  -- two rules that come to the same; and the second never to OutOfScope where every solution is in scope
  pub record Parallel (p q : Rule) : Type 0 where
    pub go : {Γ Δ : Board} (σ : Solutions) (n : ℕ) → Near Γ Δ → Agree (perform L p Γ σ n) (perform L q Δ σ n)
    pub levels : {Γ Δ : Board} (σ : Solutions) (n : ℕ) → Near Γ Δ → Levelled (operations L p Γ σ n) (operations L q Δ σ n)
    pub scope : Open L → (Γ : Board) (σ : Solutions) (n : ℕ) → InScope (perform L q Γ σ n)

  pub done-parallel : Parallel done done
  unfolding perform operations
  done-parallel = record { go = λ σ n h. finish h; levels = λ σ n h. level-none; scope = λ o Γ σ n. tt }

  pub refuse-parallel : {r : TypeError} {ts : Ty} → NotScope r → Parallel (refuse r ts) (refuse r ts)
  unfolding perform operations
  refuse-parallel s = record { go = λ σ n h. stop; levels = λ σ n h. level-none; scope = λ o Γ σ n. s }

  pub fresh-parallel : (a : Origin) {f g : ℕ → Rule} → ((n : ℕ) → Parallel (f n) (g n)) → Parallel (fresh a f) (fresh a g)
  unfolding perform operations
  fresh-parallel a k = record {
    go = λ σ n h. either (below n L.numbers) ((k n).go σ (suc n) h) stop;
    levels = λ σ n h. level-either (below n L.numbers) (level-more (made a n) ((k n).levels σ (suc n) h)) level-none;
    scope = λ o Γ σ n. cond_ind InScope (below n L.numbers) (λ _. (k n).scope o Γ σ (suc n)) (λ _. tt);
  }

  pub push-parallel : {e : Entry} {p q : Rule} → Parallel p q → Parallel (push e p) (push e q)
  unfolding perform operations board_nodes
  push-parallel {e} {p} {q} k = record {
    go = λ {Γ} {Δ} σ n h.
        rw (alike-length h.alike, h.whole.nodes) (either (room_for L e Δ) (k.go σ n (near-push e h)) stop);
    levels = λ {Γ} {Δ} σ n h.
        rw (alike-length h.alike, h.whole.nodes) (level-either (room_for L e Δ) (level-more (pushed e) (k.levels σ n (near-push e h))) level-none);
    scope = λ o Γ σ n. cond_ind InScope (room_for L e Γ) (λ _. k.scope o (e ∷ Γ) σ n) (λ _. tt);
  }

  pub steady-parallel : (p : Rule) → Steady p → Parallel p p
  unfolding perform operations
  steady-parallel done s = done-parallel
  steady-parallel (refuse r ts) s = refuse-parallel s
  steady-parallel (fresh o f) s = fresh-parallel o (λ n. steady-parallel (f n) (s n))
  steady-parallel (push e p) s = push-parallel (steady-parallel p s)
  steady-parallel (solve k t p) s =
      let i = steady-parallel p s in
      record {
        go = λ σ n h.
            solving-agree (find k σ) t
            (either (L.scope k t) (either (within (solution_nodes σ + length t) L.solved) (i.go (σ ++ (◌≔◌ k t ∷ [])) n h) stop) stop) (i.go σ n h) stop;
        levels = λ σ n h.
            level-solving (find k σ) t
            (level-either (L.scope k t) (level-either (within (solution_nodes σ + length t) L.solved) (level-more (gave k t) (i.levels (σ ++ (◌≔◌ k t ∷ [])) n h)) level-none) level-none)
            (level-more (met k) (i.levels σ n h)) level-none;
        scope = λ o Γ σ n.
            solving-ind InScope (find k σ) t
            (rw (o k t) (cond_ind InScope (within (solution_nodes σ + length t) L.solved) (λ _. i.scope o Γ (σ ++ (◌≔◌ k t ∷ [])) n) (λ _. tt)))
            (i.scope o Γ σ n) tt;
      }
  steady-parallel (zonk t f) s =
      record {
        go = λ σ n h. either (within (length (write_out σ t)) L.written) ((steady-parallel (f (write_out σ t)) (s (write_out σ t))).go σ n h) stop;
        levels = λ σ n h. level-either (within (length (write_out σ t)) L.written) ((steady-parallel (f (write_out σ t)) (s (write_out σ t))).levels σ n h) level-none;
        scope = λ o Γ σ n. cond_ind InScope (within (length (write_out σ t)) L.written) (λ _. (steady-parallel (f (write_out σ t)) (s (write_out σ t))).scope o Γ σ n) (λ _. tt);
      }
  steady-parallel (look f) s =
      record {
        go = λ {Γ} {Δ} σ n h. subst (λ p. Agree (perform L (f Γ) Γ σ n) (perform L p Δ σ n)) (s.0 Γ Δ h) ((steady-parallel (f Γ) (s.1 Γ)).go σ n h);
        levels = λ {Γ} {Δ} σ n h. subst (λ p. Levelled (operations L (f Γ) Γ σ n) (operations L p Δ σ n)) (s.0 Γ Δ h) ((steady-parallel (f Γ) (s.1 Γ)).levels σ n h);
        scope = λ o Γ σ n. (steady-parallel (f Γ) (s.1 Γ)).scope o Γ σ n;
      }

-- ---- the rules that push no pattern's Vars
monotype-steady : (k : ℕ) (t : Ty) → Steady (solve_monotype k t)
monotype-steady k t = cond_ind Steady (is_monotype t) (λ _. tt) (λ _. tt)

open_body-steady : (d : Side) (x : ℕ) (b : Ty) (again : Ty → Rule) → ((t : Ty) → Steady (again t)) → Steady (open_body d x b again)
open_body-steady left x b again f = λ u. f _
open_body-steady right x b again f = λ u. f _

instantiate_by-steady : (d : Side) (k : ℕ) (t : Ty) (again : Ty → Rule) (v : View) → ((t : Ty) → Steady (again t)) → Steady (instantiate_by d k t again v)
instantiate_by-steady d k t again (is_unknown b) f = (
  λ Γ Δ h. ap (λ c. cond c (solve b (unknown k) done) (solve_monotype k t)) (alike-before k b h.alike),
  λ Γ. cond_ind Steady (before k b Γ) (λ _. tt) (λ _. monotype-steady k t),
)
instantiate_by-steady d k t again (is_arrow t₁ t₂) f = λ a b. tt
instantiate_by-steady d k t again (is_app t₁ t₂) f = λ a b. tt
instantiate_by-steady d k t again (is_forall x b) f = open_body-steady d x b again f
instantiate_by-steady d k t again is_other f = monotype-steady k t

instantiate_from-steady : (n : ℕ) (d : Side) (k : ℕ) (t : Ty) → Steady (instantiate_from n d k t)
unfolding instantiate_from
instantiate_from-steady zero d k t = tt
instantiate_from-steady (suc n) d k t =
    instantiate_by-steady d k t (λ t'. instantiate_from n d k t') (view t) (λ t'. instantiate_from-steady n d k t')

module _ (l r : Ty) where
  right-steady : (k : ℕ) → Steady (unknown_right l r k)
  right-steady k = cond_ind Steady (occurs k l) (λ _. tt) (λ _. instantiate_from-steady (suc (length l)) right k l)

  left-steady : (k : ℕ) (otherwise : Rule) → Steady otherwise → Steady (unknown_left l r k otherwise)
  left-steady k otherwise h = cond_ind Steady (occurs k r) (λ _. h) (λ _. instantiate_from-steady (suc (length r)) left k r)

  subtype_by-steady : (v w : View) → Steady (subtype_by l r v w)
  subtype_by-steady (is_arrow a₁ a₂) (is_arrow b₁ b₂) = tt
  subtype_by-steady (is_arrow a₁ a₂) (is_app b₁ b₂) = tt
  subtype_by-steady (is_arrow a₁ a₂) (is_forall x b) = λ u. tt
  subtype_by-steady (is_arrow a₁ a₂) (is_unknown k) = right-steady k
  subtype_by-steady (is_arrow a₁ a₂) is_other = tt
  subtype_by-steady (is_app a₁ a₂) (is_arrow b₁ b₂) = tt
  subtype_by-steady (is_app a₁ a₂) (is_app b₁ b₂) = tt
  subtype_by-steady (is_app a₁ a₂) (is_forall x b) = λ u. tt
  subtype_by-steady (is_app a₁ a₂) (is_unknown k) = right-steady k
  subtype_by-steady (is_app a₁ a₂) is_other = tt
  subtype_by-steady (is_forall x a) (is_arrow b₁ b₂) = λ u. tt
  subtype_by-steady (is_forall x a) (is_app b₁ b₂) = λ u. tt
  subtype_by-steady (is_forall x a) (is_forall y b) = λ u. tt
  subtype_by-steady (is_forall x a) (is_unknown k) = λ u. tt
  subtype_by-steady (is_forall x a) is_other = λ u. tt
  subtype_by-steady (is_unknown k) (is_arrow b₁ b₂) = left-steady k (mismatch l r) tt
  subtype_by-steady (is_unknown k) (is_app b₁ b₂) = left-steady k (mismatch l r) tt
  subtype_by-steady (is_unknown k) (is_forall y b) = λ u. tt
  subtype_by-steady (is_unknown k) (is_unknown j) = left-steady k (unknown_right l r j) (right-steady j)
  subtype_by-steady (is_unknown k) is_other = left-steady k (mismatch l r) tt
  subtype_by-steady is_other (is_arrow b₁ b₂) = tt
  subtype_by-steady is_other (is_app b₁ b₂) = tt
  subtype_by-steady is_other (is_forall y b) = λ u. tt
  subtype_by-steady is_other (is_unknown k) = right-steady k
  subtype_by-steady is_other is_other = tt

pub subtype-steady : (s t : Ty) → Steady (subtype s t)
unfolding subtype
subtype-steady s t = λ l r. cond_ind Steady (eq_ty l r) (λ _. tt) (λ _. subtype_by-steady l r (view l) (view r))

module _ (E : Env) where
  pub variable-steady : (x : ℕ) (t : Ty) (a b c : Option Ty) → Steady (variable E x t a b c)
  variable-steady x t (Some u) b c = tt
  variable-steady x t None (Some u) c = tt
  variable-steady x t None None (Some u) = tt
  variable-steady x t None None None = tt

  check_arrow-steady : (e : Term) (t a b : Ty) (f : Option Lambda) → Steady (check_arrow E e t a b f)
  check_arrow-steady e t a b None = λ u. tt
  check_arrow-steady e t a b (Some f) = tt

  pub check_by-steady : (e : Term) (t : Ty) (v : View) → Steady (check_by E e t v)
  check_by-steady e t (is_arrow a b) = check_arrow-steady e t a b (lambda_of e)
  check_by-steady e t (is_forall x b) = λ u. tt
  check_by-steady e t (is_app a b) = λ u. tt
  check_by-steady e t (is_unknown k) = λ u. tt
  check_by-steady e t is_other = λ u. tt

  apply_by-steady : (f : Ty) (e : Term) (c : Ty) (v : View) → Steady (apply_by E f e c v)
  apply_by-steady f e c (is_arrow a b) = tt
  apply_by-steady f e c (is_forall x b) = λ u. tt
  apply_by-steady f e c (is_unknown k) = λ a b. tt
  apply_by-steady f e c (is_app a b) = tt
  apply_by-steady f e c is_other = tt

  pub infer_app-steady : (f : Ty) (e : Term) (c : Ty) → Steady (infer_app E f e c)
  unfolding infer_app
  infer_app-steady f e c = λ f' c'. apply_by-steady f' e c' (view f')
