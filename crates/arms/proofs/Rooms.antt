-- The room that the arms of a Case are lent. Assumes nothing.
use Rattle.std.proofs.Common.{◌≡◌, refl, sym, ap, ◌∙◌, true, false, List, ℕ, zero, suc, ◌+◌, ◌-◌, ◌≤◌, ◌<◌, add-zero, arith, length}
use Rattle.nodes.specs.Nodes.{Ty}
use Rattle.spelling.specs.declared.Triple.{Triple}
use Rattle.sheet.specs.Plan.{part_line}
use Rattle.operations.specs.declared.Run.{Run}
use Rattle.operations.specs.State.{going, fresh_run, push_run}
use Rattle.references.specs.declared.TypeRef.{TypeRef}
use Rattle.references.specs.References.{type_of, instance_out}
use Rattle.tables.specs.Rows.{ref_at}
use Rattle.patterns.specs.declared.Checked.{Checked}
use Rattle.patterns.specs.Rooms.{pattern_rooms, Leaves}
use Rattle.arms.specs.Rooms.{Room, room, vars_run, vars_out, arm_room, after_arm, arms_room, case_room}

-- ---- the Vars: what is left from row i on is the whole
module _ (ls : List Triple) (v : List ℕ) (n : ℕ) where
  pub record Vars (c₀ : Run) (l₀ : List ℕ) (c : Run) (l : List ℕ) (i : ℕ) : Type 0 where
    pub run : vars_run ls v i (n - i) c ≡ vars_run ls v 0 n c₀
    pub out : vars_out ls v i (n - i) c l ≡ vars_out ls v 0 n c₀ l₀

  pub room-start : (c : Run) (l : List ℕ) → Vars c l c l 0
  room-start c l = let e : n - 0 ≡ n = omega arith in record { run = rw e; out = rw e }

  pub room-var : {c₀ c c' : Run} {l₀ l l' : List ℕ} {i : ℕ} (q : TypeRef) (t : Ty) → Vars c₀ l₀ c l i → going c.halt ≡ true → i < n → q ≡ ref_at v i → t ≡ type_of ls q → l' ≡ instance_out ls q l → c' ≡ push_run c (length t + 0)
      → Vars c₀ l₀ c' l' (i + 1)
  unfolding vars_run vars_out
  room-var {i = i} q t h g m eq et el ec =
      let e : n - i ≡ suc (n - (i + 1)) = omega arith in
      record {
        run = rw (ec, add-zero (length t), et, eq) (sym (rw e) ∙ h.run);
        out = rw (el, ec, add-zero (length t), et, eq) (sym (rw (e, g)) ∙ h.out);
      }

  pub room-vars : {c₀ c : Run} {l₀ l : List ℕ} {i : ℕ} → Vars c₀ l₀ c l i → n ≤ i → (c ≡ vars_run ls v 0 n c₀) × (l ≡ vars_out ls v 0 n c₀ l₀)
  unfolding vars_run vars_out
  room-vars {i = i} h m = let e : n - i ≡ 0 = omega arith in (sym (rw e) ∙ h.run, sym (rw e) ∙ h.out)

  -- a refused run stays as it is
  module _ (c : Run) (e : going c.halt ≡ false) where
    push-stays : (k : ℕ) → push_run c k ≡ c
    push-stays k = rw e

    stays-run : (i k : ℕ) → vars_run ls v i k c ≡ c
    unfolding vars_run
    stays-run i zero = refl
    stays-run i (suc k) = ap (vars_run ls v (i + 1) k) (push-stays (length (type_of ls (ref_at v i)))) ∙ stays-run (i + 1) k

    stays_out : (i k : ℕ) (l : List ℕ) → vars_out ls v i k c l ≡ l
    unfolding vars_out
    stays_out i zero l = refl
    stays_out i (suc k) l = rw e

    pub room-halt : {c₀ : Run} {l₀ l : List ℕ} {i : ℕ} → Vars c₀ l₀ c l i → (c ≡ vars_run ls v 0 n c₀) × (l ≡ vars_out ls v 0 n c₀ l₀)
    room-halt {l = l} {i = i} h = (sym (stays-run i (n - i)) ∙ h.run, sym (stays_out i (n - i) l) ∙ h.out)

-- ---- an arm
pub room-arm : (ls : List Triple) (u : ℕ) (t : Ty) (first : ℕ) (c : Run) (w v l r : List ℕ) {body : ℕ} → body ≡ part_line ls first 1 → {o : Checked} {w' v' l₁ l₂ r' : List ℕ} {c₂ c₃ : Run}
    → Leaves (pattern_rooms ls first (body - first) u c w v l r) w' v' l₁ r' o → c₂ ≡ vars_run ls v' 0 o.bound o.run → l₂ ≡ vars_out ls v' 0 o.bound o.run l₁ → c₃ ≡ push_run c₂ (length t + 0)
    → room c₃ w' v' l₂ r' ≡ arm_room ls u t first (room c w v l r)
unfolding arm_room
room-arm ls u t first c w v l r e p ec el eq = rw (eq, add-zero (length t), ec, el, p.run, p.bound, p.frames, p.bindings, p.left, p.right, e)

-- ---- all arms: what is left of them is the whole
module _ (ls : List Triple) (u : ℕ) (t : Ty) where
  pub room-turn : (s : Room) {s' s₀ : Room} (left rest at : ℕ) {next : ℕ} → left ≡ suc rest → going s.run.halt ≡ true → arms_room ls u t left at s ≡ s₀ → next ≡ after_arm ls at → s' ≡ arm_room ls u t at s → arms_room ls u t rest next s' ≡ s₀
  unfolding arms_room
  room-turn s left rest at l g h en es = rw (en, es) (sym (rw (l, g)) ∙ h)

  arms-halt : (s : Room) (left at : ℕ) → going s.run.halt ≡ false → arms_room ls u t left at s ≡ s
  unfolding arms_room
  arms-halt s zero at e = refl
  arms-halt s (suc left) at e = rw e

  pub room-stop : (s : Room) {s₀ : Room} (left at : ℕ) → going s.run.halt ≡ false → arms_room ls u t left at s ≡ s₀ → s ≡ s₀
  room-stop s left at e h = sym (arms-halt s left at e) ∙ h

  pub room-end : (s : Room) {s₀ : Room} (left at : ℕ) → left ≡ 0 → arms_room ls u t left at s ≡ s₀ → s ≡ s₀
  unfolding arms_room
  room-end s left at e h = sym (rw e) ∙ h

-- ---- a Case
pub room-case : (ls : List Triple) (t : Ty) (n line : ℕ) (c : Run) (w v l r : List ℕ) {c₁ c₂ c₃ : Run} → c₁ ≡ fresh_run c → c₂ ≡ push_run c₁ 0 → c₃ ≡ push_run c₂ 1
    → arms_room ls c.counters.fresh t n line (room c₃ w v l r) ≡ case_room ls t n line (room c w v l r)
room-case ls t n line c w v l r e₁ e₂ e₃ = rw (e₃, e₂, e₁)
