-- What a walk over the entries of a board finds, from the newest down. Assumes nothing.
use Rattle.std.proofs.Common.{None, Some, Option, ◌≡◌, refl, sym, ap, ap₂, ◌∙◌, Bool, true, false, cond, List, ℕ, zero, suc, ◌+◌, ◌*◌, ◌-◌, ◌<◌, add-zero, arith, get_or, eqb, eqb-true, eq-eqb, ne_eqb}
use Rattle.nodes.specs.declared.Place.{Place}
use borrow.Author.Tests.{eqb-false}
use Rattle.sizes.specs.Sizes.{board_stride}
use Rattle.nodes.specs.Nodes.{Node, node, Ty, nodes_at}
use Rattle.nodes.proofs.ListLaws.{cond_ind}
use Rattle.spelling.specs.declared.Triple.{Triple}
use Rattle.judgment.specs.Types.{is_node}
use Rattle.judgment.specs.Board.{Entry, tvar, var, sub, inf, chk, inf_app, var_named, or_else, find_var, is_t_var, has_t_var, before}
use Rattle.board.specs.Board.{term_at, entry_of, word, left_at, entry_at, entries_of, var_place, type_in}

-- ---- what an entry is, by its kind

-- a kind above 6 is a TVar's
pub tvar-is : (ls : List Triple) (k n : ℕ) (l r : Ty) → 6 < k → entry_of ls k n l r ≡ tvar (node k n)
unfolding entry_of
tvar-is ls k n l r h = rw (ne_eqb k 2 (omega arith), ne_eqb k 3 (omega arith), ne_eqb k 4 (omega arith), ne_eqb k 5 (omega arith), ne_eqb k 6 (omega arith))

-- neither a TVar nor a Var
abbrev Silent : Entry → Type 0
Silent e = (x : ℕ) → (is_t_var x e ≡ false) × (var_named x e ≡ None)

-- a fact of an entry, shown of each kind
by_kind : (P : Entry → Type 0) (ls : List Triple) (k n : ℕ) (l r : Ty)
    → (k ≡ 2 → P (var n l)) → ((e : Entry) → Silent e → 2 < k → k < 7 → P e) → ((k ≡ 2 → ⊥) → P (tvar (node k n))) → P (entry_of ls k n l r)
unfolding entry_of
by_kind P ls k n l r two few other =
    cond_ind P (eqb k 2) (λ e. two (eqb-true k 2 e))
    (λ z. cond_ind P (eqb k 3) (λ e. let q = eqb-true k 3 e in few (sub l r) (λ x. (refl, refl)) (omega arith) (omega arith))
    (λ _. cond_ind P (eqb k 4) (λ e. let q = eqb-true k 4 e in few (inf (term_at ls n) l) (λ x. (refl, refl)) (omega arith) (omega arith))
    (λ _. cond_ind P (eqb k 5) (λ e. let q = eqb-true k 5 e in few (chk (term_at ls n) l) (λ x. (refl, refl)) (omega arith) (omega arith))
    (λ _. cond_ind P (eqb k 6) (λ e. let q = eqb-true k 6 e in few (inf_app l (term_at ls n) r) (λ x. (refl, refl)) (omega arith) (omega arith))
    (λ _. other (eqb-false k 2 z))))))

not-node : (j x k n : ℕ) → (j ≡ k → ⊥) → is_node j x (node k n) ≡ false
not-node j x k n f = rw (ne_eqb j k f)

pub is-tvar : (ls : List Triple) (x k n : ℕ) (l r : Ty) → is_t_var x (entry_of ls k n l r) ≡ is_node 17 x (node k n)
is-tvar ls x k n l r =
    by_kind (λ (e : Entry). is_t_var x e ≡ is_node 17 x (node k n)) ls k n l r
    (λ e. sym (not-node 17 x k n (λ z. omega arith))) (λ e q a b. (q x).0 ∙ sym (not-node 17 x k n (λ z. omega arith))) (λ _. refl)

is-var : (ls : List Triple) (x k n : ℕ) (l r : Ty) → var_named x (entry_of ls k n l r) ≡ cond (is_node 2 x (node k n)) (Some l) None
is-var ls x k n l r =
    let other : (2 ≡ k → ⊥) → None ≡ cond (is_node 2 x (node k n)) (Some l) None = λ f. rw (not-node 2 x k n f) in
    by_kind (λ (e : Entry). var_named x e ≡ cond (is_node 2 x (node k n)) (Some l) None) ls k n l r
    (λ e. rw (eq-eqb 2 k (sym e))) (λ e q a b. (q x).1 ∙ other (λ z. omega arith)) (λ f. other (λ z. f (sym z)))

chosen : (w : List ℕ) (b : Bool) (p : Place) (o : Option Place)
    → or_else (cond b (Some (nodes_at w p.start p.count)) None) (type_in w o) ≡ type_in w (cond b (Some p) o)
chosen w true p o = refl
chosen w false p o = refl

pub var-place : (ls : List Triple) (x : ℕ) (w : List ℕ) (i : ℕ) → find_var x (entries_of ls w i) ≡ type_in w (var_place x w i)
unfolding find_var entries_of var_place
var-place ls x w zero = refl
var-place ls x w (suc i) =
    rw (is-var ls x (word w i 0) (word w i 1) (nodes_at w (left_at w i) (word w i 2)) (nodes_at w (left_at w i + 2 * word w i 2) (word w i 3)), var-place ls x w i)
    (chosen w (is_node 2 x (node (word w i 0) (word w i 1))) (record { start = left_at w i; count = word w i 2 }) (var_place x w i))

-- ---- a turn of a walk: entry i - 1, by what the test of its name says, and the entries below it
abbrev pub name_at : List ℕ → ℕ → Node
name_at w i = node (get_or w (board_stride * i) 0) (get_or w (board_stride * i + 1) 0)

named : (w : List ℕ) (i : ℕ) → node (word w i 0) (word w i 1) ≡ name_at w i
named w i = rw (add-zero (board_stride * i))

module _ (w : List ℕ) where
  is-tvar-at : (ls : List Triple) (x i : ℕ) → is_t_var x (entry_at ls w i) ≡ is_node 17 x (name_at w i)
  is-tvar-at ls x i =
      is-tvar ls x (word w i 0) (word w i 1) (nodes_at w (left_at w i) (word w i 2)) (nodes_at w (left_at w i + 2 * word w i 2) (word w i 3))
      ∙ ap (is_node 17 x) (named w i)

  pub has-turn : (i : ℕ) → 0 < i → (x : ℕ) {a : Bool} → is_node 17 x (name_at w (i - 1)) ≡ a → (ls : List Triple)
      → has_t_var x (entries_of ls w i) ≡ cond a true (has_t_var x (entries_of ls w (i - 1)))
  unfolding entries_of
  has-turn i h x e ls =
      let z : i ≡ suc (i - 1) = omega arith in
      ap (λ (k : ℕ). has_t_var x (entries_of ls w k)) z
      ∙ ap (λ (b : Bool). cond b true (has_t_var x (entries_of ls w (i - 1)))) (is-tvar-at ls x (i - 1) ∙ e)

  pub before-turn : (i : ℕ) → 0 < i → (x y : ℕ) {a b : Bool} → is_node 17 x (name_at w (i - 1)) ≡ a → is_node 17 y (name_at w (i - 1)) ≡ b → (ls : List Triple)
      → before x y (entries_of ls w i) ≡ cond a false (cond b (has_t_var x (entries_of ls w (i - 1))) (before x y (entries_of ls w (i - 1))))
  unfolding entries_of before
  before-turn i h x y e f ls =
      let z : i ≡ suc (i - 1) = omega arith in
      ap (λ (k : ℕ). before x y (entries_of ls w k)) z
      ∙ ap₂ (λ (a b : Bool). cond a false (cond b (has_t_var x (entries_of ls w (i - 1))) (before x y (entries_of ls w (i - 1)))))
      (is-tvar-at ls x (i - 1) ∙ e) (is-tvar-at ls y (i - 1) ∙ f)

  pub find-turn : (i : ℕ) → 0 < i → (x : ℕ) {a : Bool} → is_node 2 x (name_at w (i - 1)) ≡ a
      → var_place x w i ≡ cond a (Some (record { start = left_at w (i - 1); count = word w (i - 1) 2 })) (var_place x w (i - 1))
  unfolding var_place
  find-turn i h x e =
      let z : i ≡ suc (i - 1) = omega arith in
      ap (var_place x w) z
      ∙ ap (λ (b : Bool). cond b (Some (record { start = left_at w (i - 1); count = word w (i - 1) 2 })) (var_place x w (i - 1))) (ap (is_node 2 x) (named w (i - 1)) ∙ e)
