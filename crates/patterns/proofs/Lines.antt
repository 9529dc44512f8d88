-- One line of a pattern. Assumes nothing.
use Rattle.std.proofs.Common.{Option, Some, None, ◌≡◌, refl, sym, ap, ◌∙◌, subst, ◌≢◌, List, [], ◌∷◌, ◌++◌, ℕ, ◌+◌, ◌*◌, ◌-◌, ◌≤◌, ◌<◌, arith, ne_eqb, length, get_or, take, drop}
use Rattle.std.proofs.lemmas.List.Edits.{sets}
use Rattle.nodes.specs.Nodes.{Ty, nodes_at}
use Rattle.spelling.specs.declared.Triple.{Triple}
use Rattle.sheet.specs.Plan.{no_triple, Bindings, lookup, find_entry, type_at}
use Rattle.sheet.proofs.Copies.{lines_cons}
use Rattle.judgment.specs.declared.TypeError.TheVariants.{UnboundDataConstructor}
use Rattle.judgment.specs.Terms.{pattern_view}
use Rattle.judgment.specs.Board.{Rule, refuse}
use Rattle.judgment.specs.Rules.{insert, pattern_constructor, pattern_by, check_patterns}
use Rattle.operations.specs.declared.Run.{Run}
use Rattle.operations.specs.State.{came_to, perform_c, Performs, refused_run}
use Rattle.references.specs.declared.TypeRef.{TypeRef}
use Rattle.references.specs.References.{type_of, pending_of}
use Rattle.tables.specs.declared.Upcoming.{Upcoming}
use Rattle.tables.specs.Rows.{row, types_of, Frames, bindings_at, Sound, Inserts, Taken}
use Rattle.tables.proofs.Pops.{frames-put}
use Rattle.patterns.specs.declared.Parts.{Parts}
use Rattle.patterns.specs.declared.Named.{Named}
use Rattle.patterns.specs.Turns.{Ready}
use Rattle.patterns.specs.Readings.{env_at, body_of, Parting, Adds, Naming, Lining}
use Rattle.patterns.proofs.Steps.{turn-none, turn-refused}
use Rattle.patterns.proofs.Entries.{env-lookup}

-- ---- one more frame, where there are parameters
pub frame-added : (w w' : List ℕ) (n : ℕ) (r : TypeRef) (arity : ℕ) → 6 * n + 6 ≤ length w → w' ≡ sets w (6 * n) (row 0 r) → 0 < arity → Adds w n r arity w' (n + 1)
frame-added w w' n r arity h q l = record {
  depth = omega arith;
  frames = λ ls g e f. frames-put ls w w' n r h q (record { good = g; some = omega arith }) f;
}

no-types : (us ts : List Ty) → length us ≡ 0 → ts ≡ us ++ ts
no-types [] ts e = refl
no-types (u ∷ us) ts e = absurd (omega arith)

pub frame-none : (w : List ℕ) (n : ℕ) (r : TypeRef) (arity : ℕ) → arity ≡ 0 → Adds w n r arity w n
frame-none w n r arity z = record {
  depth = omega arith;
  frames = λ ls g e f. (f, no-types (pending_of ls r) (types_of ls w n) (sym e ∙ z));
}

-- ---- a constructor pattern
module _ {b : List ℕ} {c : Run} (ls : List Triple) (x count : ℕ) (t : Ty) (w : List ℕ) (n : ℕ) where
  pub naming-hit : {b' w' : List ℕ} {o : Parts} {d : ℕ} (line lines base : ℕ) → Some (record { line = line; count = lines }) ≡ find_entry 1 x ls → base ≡ c.counters.fresh → Frames ls w n
      → Parting b c ls line lines count t b' o → Adds w n (body_of line lines o.nodes base) o.arity w' d
      → Naming b c ls x count t w n b' w' (record { run = o.run; depth = d })
  naming-hit {b'} {w'} {o} {d} line lines base q e f p a =
      let r : TypeRef = body_of line lines o.nodes c.counters.fresh in
      let s : Adds w n r o.arity w' d = subst (λ (i : ℕ). Adds w n (body_of line lines o.nodes i) o.arity w' d) e a in
      let g = s.frames ls p.good p.arity f in
      let u = p.turn (env_at ls) in
      record {
        depth = s.depth;
        frames = g.0;
        turn = record {
          ready = u.ready;
          taken = u.taken;
          kept = u.kept;
          outcome = λ m k rep z h.
              ap (λ (ts : List Ty). perform_c m ls (h ts) (came_to ls b' k rep o.run)) g.1
              ∙ u.outcome m k rep z (λ ps. h (ps ++ types_of ls w n))
              ∙ ap (λ (k₁ : Option Ty). perform_c m ls (pattern_constructor (env_at ls) x count t (λ ps. h (ps ++ types_of ls w n)) k₁) (came_to ls b k rep c)) (sym (env-lookup ls x ∙ ap (type_at ls) (sym q)));
        };
      }

  pub naming-miss : {r : Run} → None ≡ find_entry 1 x ls → Ready b c → Frames ls w n → (r ≡ refused_run c (UnboundDataConstructor x)) × Performs c (λ rep. refuse (UnboundDataConstructor x) (nodes_at rep 0 0)) r
      → Naming b c ls x count t w n b w (record { run = r; depth = n })
  naming-miss {r} q h f d = record {
    depth = omega arith;
    frames = f;
    turn =
        turn-refused _ _ h refl
        (λ g. ap (pattern_constructor (env_at ls) x count t (λ ps. g (ps ++ types_of ls w n))) (env-lookup ls x ∙ ap (type_at ls) (sym q))) d;
  }

-- ---- a line
module _ (ls : List Triple) (p : ℕ) (h : p < length ls) (t : Ty) (ts us : List Ty) (bs : Bindings) (same : us ≡ t ∷ ts) (left : ℕ) (l : 0 < left) (f : Bindings → Rule) where
  abbrev X : Triple
  X = get_or ls p no_triple

  abbrev rest : List Triple
  rest = take (left - 1) (drop (p + 1) ls)

  line-is : check_patterns (env_at ls) (take left (drop p ls)) us bs f ≡ pattern_by (env_at ls) X.value X.count t bs (λ ps bs'. check_patterns (env_at ls) rest (ps ++ ts) bs' f) (pattern_view X.kind)
  unfolding check_patterns
  line-is = rw (lines_cons ls p left h l, same)

  line-variable : X.kind ≡ 42 → check_patterns (env_at ls) rest ts (insert X.value t bs) f ≡ check_patterns (env_at ls) (take left (drop p ls)) us bs f
  line-variable e = sym (line-is ∙ rw e)

  line-constructor : X.kind ≡ 43
      → pattern_constructor (env_at ls) X.value X.count t (λ ps. check_patterns (env_at ls) rest (ps ++ ts) bs f) (lookup X.value (env_at ls).constructors) ≡ check_patterns (env_at ls) (take left (drop p ls)) us bs f
  line-constructor e = sym (line-is ∙ rw e)

  line-wildcard : X.kind ≢ 42 → X.kind ≢ 43 → check_patterns (env_at ls) rest ts bs f ≡ check_patterns (env_at ls) (take left (drop p ls)) us bs f
  line-wildcard e g = sym (line-is ∙ rw (ne_eqb X.kind 42 e, ne_eqb X.kind 43 g))

module _ {b w w₁ : List ℕ} {c : Run} {u : Upcoming} (ls : List Triple) (p n : ℕ) (v : List ℕ) (j : ℕ) (h : p < length ls) (ready : Ready b c) (a : Taken ls w n w₁ u) (sound : Sound ls v j)
    (X : Triple) (is : X ≡ get_or ls p no_triple) where
  pub lining-variable : {v' : List ℕ} {j' : ℕ} → X.kind ≡ 42 → X.value < 4294967296 → Inserts v j X.value u.want v' j'
      → Lining b c ls p w n v j b w₁ v' (record { run = c; depth = u.depth; bound = j' })
  lining-variable {v'} {j'} e l i = record {
    depth = let z = a.fewer in omega arith;
    bound = i.few;
    frames = a.frames;
    sound = i.sound ls a.good l sound;
    turn = λ left m. turn-none _ _ ready (λ f.
        ap (λ (z : Bindings). check_patterns (env_at ls) (take (left - 1) (drop (p + 1) ls)) (types_of ls w₁ u.depth) z f)
        (i.bindings ls ∙ ap (λ (y : Triple). insert y.value (type_of ls u.want) (bindings_at ls v 0 j)) is)
        ∙ line-variable ls p h (type_of ls u.want) (types_of ls w₁ u.depth) (types_of ls w n) (bindings_at ls v 0 j) a.types left m f (ap (λ (y : Triple). y.kind) (sym is) ∙ e));
  }

  pub lining-wildcard : X.kind ≢ 42 → X.kind ≢ 43 → Lining b c ls p w n v j b w₁ v (record { run = c; depth = u.depth; bound = j })
  lining-wildcard e g = record {
    depth = let z = a.fewer in omega arith;
    bound = omega arith;
    frames = a.frames;
    sound = sound;
    turn = λ left m. turn-none _ _ ready (λ f.
        line-wildcard ls p h (type_of ls u.want) (types_of ls w₁ u.depth) (types_of ls w n) (bindings_at ls v 0 j) a.types left m f
        (subst (λ (y : Triple). y.kind ≢ 42) is e) (subst (λ (y : Triple). y.kind ≢ 43) is g));
  }

  pub lining-constructor : {b' w' : List ℕ} {o : Named} → X.kind ≡ 43 → Naming b c ls X.value X.count (type_of ls u.want) w₁ u.depth b' w' o
      → Lining b c ls p w n v j b' w' v (record { run = o.run; depth = o.depth; bound = j })
  lining-constructor {b'} {w'} {o} e g =
      let g₁ : Naming b c ls (get_or ls p no_triple).value (get_or ls p no_triple).count (type_of ls u.want) w₁ u.depth b' w' o =
      subst (λ (y : Triple). Naming b c ls y.value y.count (type_of ls u.want) w₁ u.depth b' w' o) is g in
      let y = g₁.turn in
      record {
        depth = let z = g.depth in let x = a.fewer in omega arith;
        bound = omega arith;
        frames = g.frames;
        sound = sound;
        turn = λ left m. record {
          ready = y.ready;
          taken = y.taken;
          kept = y.kept;
          outcome = λ q k rep z f.
              y.outcome q k rep z (λ ts. check_patterns (env_at ls) (take (left - 1) (drop (p + 1) ls)) ts (bindings_at ls v 0 j) f)
              ∙ ap (λ (x : Rule). perform_c q ls x (came_to ls b k rep c))
              (line-constructor ls p h (type_of ls u.want) (types_of ls w₁ u.depth) (types_of ls w n) (bindings_at ls v 0 j) a.types left m f (ap (λ (t : Triple). t.kind) (sym is) ∙ e));
        };
      }
