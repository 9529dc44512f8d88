-- A pattern from its first line to its last. Assumes nothing.
use Rattle.std.proofs.Common.{◌≡◌, refl, sym, ap, ap₂, ◌∙◌, List, [], ◌∷◌, ◌++◌, ℕ, ◌+◌, ◌*◌, ◌-◌, ◌≤◌, ◌<◌, not-suc-le-zero, arith, length, get_or, take, drop, false}
use mathlib.Core.Path.{subst⁻¹}
use Rattle.std.proofs.lemmas.List.Edits.{sets}
use Rattle.sizes.specs.Sizes.{most_numbers}
use Rattle.nodes.specs.Nodes.{Ty}
use Rattle.nodes.specs.Lists.{All}
use Rattle.spelling.specs.declared.Triple.{Triple}
use Rattle.sheet.specs.Plan.{no_triple, Narrow, Bindings}
use Rattle.sheet.proofs.Copies.{copy-narrow}
use Rattle.judgment.specs.Types.{unknown}
use Rattle.judgment.specs.Board.{Rule}
use Rattle.judgment.specs.Rules.{Env, check_patterns}
use Rattle.operations.specs.declared.Run.{Run}
use Rattle.operations.specs.State.{going}
use Rattle.references.specs.declared.TypeRef.{TypeRef}
use Rattle.references.specs.References.{type_of, pending_of, Frame}
use Rattle.tables.specs.Rows.{ref_at, row, types_of, Frames, bindings_at}
use Rattle.tables.proofs.Tables.{ref-stored}
use Rattle.patterns.specs.declared.Lined.{Lined}
use Rattle.patterns.specs.Turns.{Ready}
use Rattle.patterns.specs.Readings.{env_at, Lining, Reading, Checking}
use Rattle.patterns.specs.Rooms.{alone_of}
use Rattle.patterns.proofs.Steps.{turn-none, turn-then, turn-as, turn-stays}

alone-frame : (ls : List Triple) (u : ℕ) → u ≤ most_numbers → Frame ls (alone_of u)
unfolding pending_of
alone-frame ls u l = record {
  good = record {
    stands = omega arith;
    narrow = tt;
    types = tt;
    few = omega arith;
    within = λ z. absurd (omega arith);
    whole = λ z. absurd (omega arith);
    declared = λ z. absurd (omega arith);
    low = l;
    alone = λ z. (refl, refl);
  };
  some = omega arith;
}

no_lines : (E : Env) (ts : List Ty) (bs : Bindings) (f : Bindings → Rule) (ls : List Triple) (left : ℕ) → left ≡ 0 → f bs ≡ check_patterns E (take left ls) ts bs f
unfolding check_patterns
no_lines E ts bs f ls left e = sym (rw e)

no-types : (E : Env) (ls : List Triple) (bs : Bindings) (f : Bindings → Rule) → f bs ≡ check_patterns E ls [] bs f
unfolding check_patterns
no-types E [] bs f = refl
no-types E (x ∷ ls) bs f = refl

module _ (b : List ℕ) (c : Run) (ls : List Triple) (first lines u : ℕ) where
  first-types : (w w' : List ℕ) → 6 ≤ length w → w' ≡ sets w (6 * 0) (row 0 (alone_of u)) → u ≤ most_numbers → Frames ls w' 1 × (types_of ls w' 1 ≡ unknown u ∷ [])
  unfolding Frames types_of pending_of type_of
  first-types w w' h e l =
      let o : ref_at w' 0 ≡ alone_of u = ap (λ (x : List ℕ). ref_at x 0) e ∙ ref-stored w 0 0 (alone_of u) (omega arith) in
      ((subst⁻¹ (Frame ls) o (alone-frame ls u l), tt), ap (λ (x : TypeRef). pending_of ls x ++ []) o)

  pub read-start : (w w' v : List ℕ) → Ready b c → All Narrow (take lines (drop first ls)) → 6 ≤ length w → w' ≡ sets w (6 * 0) (row 0 (alone_of u)) → u ≤ most_numbers → Reading b c ls first lines u b c w' 1 v 0 0
  unfolding bindings_at
  read-start w w' v ready narrow h e l =
      let t = first-types w w' h e l in
      let z : first + 0 ≡ first = omega arith in
      let y : lines - 0 ≡ lines = omega arith in
      record {
        within = omega arith;
        narrow = rw (z, y) narrow;
        frames = t.0;
        sound = λ i g. absurd (not-suc-le-zero g);
        deep = omega arith;
        few = omega arith;
        turn = turn-none _ _ ready (λ f. rw (z, y, t.1));
      }

  module _ {b₁ w v : List ℕ} {r₁ : Run} {n j i : ℕ} (h : Reading b c ls first lines u b₁ r₁ w n v j i) where
    pub line-narrow : i < lines → first + lines ≤ length ls → Narrow (get_or ls (first + i) no_triple)
    line-narrow l g = (copy-narrow ls (first + i) (lines - i) (omega arith) (omega arith) h.narrow).0

    pub read-turn : {b₂ w₂ v₂ : List ℕ} {o : Lined} → i < lines → first + lines ≤ length ls → Lining b₁ r₁ ls (first + i) w n v j b₂ w₂ v₂ o
        → Reading b c ls first lines u b₂ o.run w₂ o.depth v₂ o.bound (i + 1)
    read-turn {b₂} {w₂} {v₂} {o} l s g =
        let z : first + i + 1 ≡ first + (i + 1) = omega arith in
        let y : lines - i - 1 ≡ lines - (i + 1) = omega arith in
        let a = h.deep in
        let d = g.depth in
        let e = h.few in
        let q = g.bound in
        record {
          within = omega arith;
          narrow = rw (← z, ← y) (copy-narrow ls (first + i) (lines - i) (omega arith) (omega arith) h.narrow).1;
          frames = g.frames;
          sound = g.sound;
          deep = omega arith;
          few = omega arith;
          turn = turn-as (λ f. refl)
              (λ f. ap₂ (λ (p m : ℕ). check_patterns (env_at ls) (take m (drop p ls)) (types_of ls w₂ o.depth) (bindings_at ls v₂ 0 o.bound) f) (sym z) (sym y))
              (turn-then h.turn (g.turn (lines - i) (omega arith)));
        }

    pub read-end : lines ≤ i → Checking b c ls first lines u b₁ v (record { run = r₁; bound = j })
    read-end l = record {
      sound = h.sound;
      few = let a = h.few in let w = h.within in omega arith;
      turn = turn-then h.turn (turn-none _ _ h.turn.ready (λ f. no_lines (env_at ls) (types_of ls w n) (bindings_at ls v 0 j) f (drop (first + i) ls) (lines - i) (omega arith)));
    }

    pub read-stop : n ≡ 0 → Checking b c ls first lines u b₁ v (record { run = r₁; bound = j })
    unfolding types_of
    read-stop z = record {
      sound = h.sound;
      few = let a = h.few in let w = h.within in omega arith;
      turn = turn-then h.turn (turn-none _ _ h.turn.ready (λ f. rw z (no-types (env_at ls) (take (lines - i) (drop (first + i) ls)) (bindings_at ls v 0 j) f)));
    }

    -- a refused run stays as it is, whatever is left of the pattern
    pub read-halt : going r₁.halt ≡ false → Checking b c ls first lines u b₁ v (record { run = r₁; bound = j })
    read-halt e = record {
      sound = h.sound;
      few = let a = h.few in let w = h.within in omega arith;
      turn = turn-stays e h.turn;
    }
