-- The rooms of a pattern, by the tests that the code makes. Assumes nothing.
use Rattle.std.proofs.Common.{Some, None, ◌≡◌, refl, sym, ap, ◌∙◌, ◌≢◌, Bool, true, false, cond, List, [], ◌∷◌, ℕ, ◌+◌, ◌*◌, ◌-◌, ◌≤◌, ◌<◌, arith, eq-eqb, ne_eqb, lt-ltb, eqb, length, get_or, take, drop}
use Rattle.std.proofs.lemmas.List.Edits.{sets}
use Rattle.nodes.specs.Nodes.{Ty, words}
use Rattle.spelling.specs.declared.Triple.{Triple}
use Rattle.sheet.specs.Plan.{no_triple, nodes_of, find_entry}
use Rattle.sheet.proofs.Copies.{lines_cons}
use Rattle.judgment.specs.declared.TypeError.TheVariants.{ArityMismatch, UnboundDataConstructor}
use Rattle.operations.specs.declared.Run.{Run}
use Rattle.operations.specs.State.{going, refused_run, push_run}
use Rattle.constructors.specs.declared.Opened.{Opened}
use Rattle.constructors.specs.Opening.{opened_of, Opens}
use Rattle.references.specs.declared.TypeRef.{TypeRef}
use Rattle.references.specs.Signatures.{params, result}
use Rattle.references.specs.References.{type_of, instance_out}
use Rattle.tables.specs.declared.Upcoming.{Upcoming}
use Rattle.tables.specs.Rows.{row, Inserts, Taken}
use Rattle.patterns.specs.declared.Parts.{Parts}
use Rattle.patterns.specs.Readings.{body_of}
use Rattle.patterns.specs.Rooms.{Rooms, rooms, arity_run, parts_answer, result_out, frame_words, frame_depth, constructor_rooms, line_rooms, lines_rooms, alone_of, pattern_rooms, Leaves}

cond_same : (b : Bool) (s : Rooms) → cond b s s ≡ s
cond_same true s = refl
cond_same false s = refl

-- ---- a constructor pattern
pub run-same : (c : Run) (arity count : ℕ) → count ≡ arity → c ≡ arity_run c arity count
unfolding arity_run
run-same c arity count e = sym (rw (eq-eqb count arity e))

pub run-other : (c : Run) (arity count : ℕ) → count ≢ arity → refused_run c (ArityMismatch arity count) ≡ arity_run c arity count
unfolding arity_run
run-other c arity count e = sym (rw (ne_eqb count arity e))

pub parts_are : {b : List ℕ} {c : Run} (ls : List Triple) (first n count : ℕ) (want : TypeRef) {b₁ : List ℕ} {o : Opened} → Opens b c (nodes_of (take n (drop first ls))) b₁ o
    → (arity : ℕ) → arity ≡ length (params (n - o.names) (opened_of (nodes_of (take n (drop first ls))) c.counters.fresh))
    → (t u : Ty) → t ≡ result (n - o.names) (opened_of (nodes_of (take n (drop first ls))) c.counters.fresh) → u ≡ type_of ls want
    → {c₂ c₃ : Run} → c₂ ≡ push_run o.run (length t + length u) → c₃ ≡ arity_run c₂ arity count
    → ◌≡◌ {A = Parts} (record { run = c₃; nodes = n - o.names; arity = arity }) (parts_answer ls first n count want c)
unfolding parts_answer
parts_are ls first n count want O arity a t u et eu p r = rw (r, p, et, eu, a, O.names, O.named.run)

pub result-put : {b : List ℕ} {c : Run} (ls : List Triple) (first n : ℕ) {b₁ : List ℕ} {o : Opened} → Opens b c (nodes_of (take n (drop first ls))) b₁ o → (l l' : List ℕ) (t : Ty)
    → t ≡ result (n - o.names) (opened_of (nodes_of (take n (drop first ls))) c.counters.fresh) → l' ≡ sets l 0 (words t) → l' ≡ result_out ls first n c.counters.fresh l
unfolding result_out
result-put ls first n O l l' t e q = q ∙ rw (e, O.names)

pub frame-some : (w : List ℕ) (n : ℕ) (r : TypeRef) (arity : ℕ) → 0 < arity → (sets w (6 * n) (row 0 r) ≡ frame_words w n r arity) × (n + 1 ≡ frame_depth n arity)
unfolding frame_words frame_depth
frame-some w n r arity l = rw (lt-ltb 0 arity l) (refl, refl)

pub frame-zero : (w : List ℕ) (n : ℕ) (r : TypeRef) (arity : ℕ) → arity ≡ 0 → (w ≡ frame_words w n r arity) × (n ≡ frame_depth n arity)
unfolding frame_words frame_depth
frame-zero w n r arity e = rw e (refl, refl)

module _ (ls : List Triple) (x count : ℕ) (want : TypeRef) (c : Run) (w : List ℕ) (n : ℕ) (l r : List ℕ) where
  pub rooms-hit : (line m base : ℕ) → Some (record { line = line; count = m }) ≡ find_entry 1 x ls → base ≡ c.counters.fresh → {o : Parts} {w' l' r' : List ℕ} {d : ℕ} → o ≡ parts_answer ls line m count want c
      → l' ≡ result_out ls line m c.counters.fresh l → r' ≡ instance_out ls want r → w' ≡ frame_words w n (body_of line m o.nodes base) o.arity → d ≡ frame_depth n o.arity
      → (v : List ℕ) (j : ℕ) → rooms o.run w' d v j l' r' ≡ constructor_rooms ls x count want (rooms c w n v j l r) (find_entry 1 x ls)
  unfolding constructor_rooms
  rooms-hit line m base q e p el er ew ed v j = rw (← q, ew, ed, e, p, el, er)

  pub rooms-miss : {c' : Run} → None ≡ find_entry 1 x ls → c' ≡ refused_run c (UnboundDataConstructor x) → (v : List ℕ) (j : ℕ) → rooms c' w n v j l r ≡ constructor_rooms ls x count want (rooms c w n v j l r) (find_entry 1 x ls)
  unfolding constructor_rooms
  rooms-miss q e v j = rw (← q, e)

-- ---- a line
module _ (ls : List Triple) (p : ℕ) (c : Run) (w : List ℕ) (n : ℕ) (v : List ℕ) (j : ℕ) (l r : List ℕ) {w₁ : List ℕ} {u : Upcoming} (a : Taken ls w n w₁ u)
    (X : Triple) (is : X ≡ get_or ls p no_triple) where
  abbrev After : Rooms
  After = line_rooms ls (get_or ls p no_triple) (rooms c w n v j l r)

  pub rooms-variable : {v' : List ℕ} {j' : ℕ} → X.kind ≡ 42 → Inserts v j X.value u.want v' j' → rooms c w₁ u.depth v' j' l r ≡ After
  unfolding line_rooms
  rooms-variable e i = rw (← is, e, i.words, i.count, a.words, a.answer)

  pub rooms-constructor : {c' : Run} {w' l' r' : List ℕ} {d : ℕ} → X.kind ≡ 43
      → rooms c' w' d v j l' r' ≡ constructor_rooms ls X.value X.count u.want (rooms c w₁ u.depth v j l r) (find_entry 1 X.value ls)
      → rooms c' w' d v j l' r' ≡ After
  unfolding line_rooms
  rooms-constructor e g = g ∙ rw (← is, e, a.words, a.answer)

  pub rooms-wildcard : X.kind ≢ 42 → X.kind ≢ 43 → rooms c w₁ u.depth v j l r ≡ After
  unfolding line_rooms
  rooms-wildcard e g = rw (← is, ne_eqb X.kind 42 e, ne_eqb X.kind 43 g, a.words, a.answer)

-- ---- the lines: what is left from line i on is the whole
module _ (ls : List Triple) (first lines : ℕ) where
  abbrev pub Roomed : Rooms → Rooms → ℕ → Type 0
  Roomed s₀ s i = lines_rooms ls (take (lines - i) (drop (first + i) ls)) s ≡ lines_rooms ls (take lines (drop first ls)) s₀

  pub rooms-start : (s : Rooms) → Roomed s s 0
  rooms-start s =
      let z : first + 0 ≡ first = omega arith in
      let y : lines - 0 ≡ lines = omega arith in
      rw (z, y)

  pub rooms-turn : (s₀ s s' : Rooms) (i : ℕ) → i < lines → first + lines ≤ length ls → s.depth ≢ 0 → going s.run.halt ≡ true → Roomed s₀ s i → s' ≡ line_rooms ls (get_or ls (first + i) no_triple) s → Roomed s₀ s' (i + 1)
  unfolding lines_rooms
  rooms-turn s₀ s s' i h g d k q e =
      let z : first + i + 1 ≡ first + (i + 1) = omega arith in
      let y : lines - i - 1 ≡ lines - (i + 1) = omega arith in
      rw (e, ← z, ← y) (sym (rw (lines_cons ls (first + i) (lines - i) (omega arith) (omega arith), ne_eqb s.depth 0 d, k)) ∙ q)

  stops : (xs : List Triple) (s : Rooms) → s.depth ≡ 0 → s ≡ lines_rooms ls xs s
  unfolding lines_rooms
  stops [] s e = refl
  stops (x ∷ xs) s e = sym (rw e)

  halts : (xs : List Triple) (s : Rooms) → going s.run.halt ≡ false → s ≡ lines_rooms ls xs s
  unfolding lines_rooms
  halts [] s e = refl
  halts (x ∷ xs) s e = sym (rw e (cond_same (eqb s.depth 0) s))

  ends : (xs : List Triple) (s : Rooms) (n : ℕ) → n ≡ 0 → s ≡ lines_rooms ls (take n xs) s
  unfolding lines_rooms
  ends xs s n e = sym (rw e)

  module _ (u : ℕ) (c : Run) (w w₀ v l r : List ℕ) (s : Rooms) (i : ℕ) (put : w₀ ≡ sets w 0 (row 0 (alone_of u))) (q : Roomed (rooms c w₀ 1 v 0 l r) s i) where
    abbrev Whole : Rooms
    Whole = pattern_rooms ls first lines u c w v l r

    leaves : s ≡ lines_rooms ls (take lines (drop first ls)) (rooms c w₀ 1 v 0 l r) → Leaves Whole s.frames s.bindings s.left s.right (record { run = s.run; bound = s.bound })
    unfolding pattern_rooms
    leaves q =
        let e : s ≡ Whole = rw (← put) q in
        record {
          run = ap (λ (x : Rooms). x.run) e;
          bound = ap (λ (x : Rooms). x.bound) e;
          frames = ap (λ (x : Rooms). x.frames) e;
          bindings = ap (λ (x : Rooms). x.bindings) e;
          left = ap (λ (x : Rooms). x.left) e;
          right = ap (λ (x : Rooms). x.right) e;
        }

    pub rooms-stop : s.depth ≡ 0 → Leaves Whole s.frames s.bindings s.left s.right (record { run = s.run; bound = s.bound })
    rooms-stop e = leaves (stops (take (lines - i) (drop (first + i) ls)) s e ∙ q)

    pub rooms-halt : going s.run.halt ≡ false → Leaves Whole s.frames s.bindings s.left s.right (record { run = s.run; bound = s.bound })
    rooms-halt e = leaves (halts (take (lines - i) (drop (first + i) ls)) s e ∙ q)

    pub rooms-end : lines ≤ i → Leaves Whole s.frames s.bindings s.left s.right (record { run = s.run; bound = s.bound })
    rooms-end h = leaves (ends (drop (first + i) ls) s (lines - i) (omega arith) ∙ q)
