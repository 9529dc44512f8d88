-- The Vars of a pattern. Assumes nothing.
use Rattle.std.proofs.Common.{◌≡◌, refl, sym, ap, ap₂, ◌∙◌, false, List, [], ℕ, ◌+◌, ◌*◌, ◌-◌, ◌≤◌, ◌<◌, arith, length}
use mathlib.Core.Path.{subst⁻¹}
use Rattle.nodes.specs.Nodes.{Ty}
use Rattle.spelling.specs.declared.Triple.{Triple}
use Rattle.sheet.specs.Plan.{Bindings}
use Rattle.judgment.specs.Board.{var, Rule, push}
use Rattle.judgment.specs.Rules.{push_vars}
use Rattle.operations.specs.declared.Run.{Run}
use Rattle.operations.specs.State.{going, Pushes}
use Rattle.references.specs.declared.TypeRef.{TypeRef}
use Rattle.references.specs.References.{type_of, Good}
use Rattle.tables.specs.Rows.{name_at, ref_at, bindings_at}
use Rattle.tables.proofs.Tables.{bindings-cons}
use Rattle.patterns.specs.Turns.{Ready, Turn}
use Rattle.patterns.proofs.Opened.{good-within}
use Rattle.patterns.proofs.Steps.{turn-none, turn-then, turn-as, turn-stays, var-turn}
use Rattle.arms.specs.Arms.{VarsAsk}

module _ (ls : List Triple) (v : List ℕ) (n : ℕ) where
  abbrev pub Left : ℕ → (ℕ → Rule) → Rule
  Left i f = push_vars (bindings_at ls v i (n - i)) (f 0)

  pub vars-start : {b : List ℕ} {c : Run} → Ready b c → Turn {A = ℕ} ls b c (λ f. push_vars (bindings_at ls v 0 n) (f 0)) b c (Left 0)
  vars-start h = let e : n - 0 ≡ n = omega arith in turn-none _ _ h (λ f. ap (λ (m : ℕ). push_vars (bindings_at ls v 0 m) (f 0)) e)

  left_is : (i : ℕ) (t : Ty) (f : ℕ → Rule) → i < n → t ≡ type_of ls (ref_at v i) → push (var (name_at v i) t) (Left (i + 1) f) ≡ Left i f
  unfolding push_vars
  left_is i t f l e =
      let m : n - (i + 1) ≡ n - i - 1 = omega arith in
      ap₂ (λ (u : Ty) (j : ℕ). push (var (name_at v i) u) (push_vars (bindings_at ls v (i + 1) j) (f 0))) e m
      ∙ ap (λ (bs : Bindings). push_vars bs (f 0)) (sym (bindings-cons ls v i (n - i) (omega arith)))

  pub vars-turn : {b₀ b b' : List ℕ} {c₀ c r : Run} {p : (ℕ → Rule) → Rule} (i : ℕ) (q : TypeRef) (t : Ty) → Turn {A = ℕ} ls b₀ c₀ p b c (Left i) → i < n → q ≡ ref_at v i → t ≡ type_of ls q
      → Pushes b c 2 (name_at v i) t [] (λ _. var (name_at v i) t) b' r → Turn {A = ℕ} ls b₀ c₀ p b' r (Left (i + 1))
  vars-turn {b₀} {b} {b'} {c₀} {c} {r} i q t h l eq et d =
      let x : Turn {A = ℕ} ls b c (λ f. push (var (name_at v i) t) (f 0)) b' r (λ f. f 0) = var-turn (name_at v i) t h.ready d in
      let y : Turn {A = ℕ} ls b c (λ f. push (var (name_at v i) t) (Left (i + 1) f)) b' r (Left (i + 1)) =
      record { ready = x.ready; taken = x.taken; kept = x.kept; outcome = λ w k rep z f. x.outcome w k rep z (λ _. Left (i + 1) f) } in
      turn-then h (turn-as (λ f. left_is i t f l (et ∙ ap (type_of ls) eq)) (λ f. refl) y)

  pub vars-end : {b₀ b : List ℕ} {c₀ c : Run} {p : (ℕ → Rule) → Rule} (i : ℕ) → Turn {A = ℕ} ls b₀ c₀ p b c (Left i) → n ≤ i → Turn {A = ℕ} ls b₀ c₀ p b c (λ f. f 0)
  unfolding push_vars bindings_at
  vars-end i h l = let z : n - i ≡ 0 = omega arith in turn-then h (turn-none _ _ h.ready (λ f. sym (rw z)))

  pub vars-halt : {b₀ b : List ℕ} {c₀ c : Run} {p : (ℕ → Rule) → Rule} (i : ℕ) → Turn {A = ℕ} ls b₀ c₀ p b c (Left i) → going c.halt ≡ false → Turn {A = ℕ} ls b₀ c₀ p b c (λ f. f 0)
  vars-halt i h e = turn-stays e h

-- a row of the loop
module _ {b : List ℕ} {c : Run} {ls : List Triple} {v : List ℕ} {n : ℕ} {l : List ℕ} (p : VarsAsk b c ls v n l) {i : ℕ} {q : TypeRef} (h : i < n) (e : q ≡ ref_at v i) where
  pub row-good : Good ls q
  row-good = subst⁻¹ (Good ls) e (p.sound i h).0

  pub row_fits : 2 * q.count ≤ length l
  row_fits = let g = row-good in let w = (good-within g).0 in let s = g.stands in let f = p.left in omega arith
