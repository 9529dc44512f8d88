-- The next pending type. Assumes nothing.
use Rattle.std.proofs.Common.{◌≡◌, refl, sym, ap, ap₂, ◌∙◌, subst, true, false, cond, List, [], ◌∷◌, ◌++◌, ℕ, zero, suc, ◌+◌, ◌*◌, ◌-◌, ◌≤◌, ◌<◌, not-suc-le-zero, arith, eqb, ltb, length, eq-eqb, ne_eqb, ltb-true, ltb-false}
use mathlib.Core.Path.{subst⁻¹}
use Rattle.std.proofs.lemmas.List.Edits.{sets}
use Rattle.sizes.specs.Sizes.{most_nodes}
use Rattle.nodes.specs.Nodes.{Ty}
use Rattle.spelling.specs.declared.Triple.{Triple}
use Rattle.references.specs.declared.TypeRef.{TypeRef}
use Rattle.references.specs.declared.Split.{Split}
use Rattle.references.specs.References.{type_of, pending_of, parameter_of, others_of, split_of, Frame, Halved}
use Rattle.tables.specs.Rows.{ref_at, row, types_of, Frames, top_of, next_of, next_words, Taken}
use Rattle.tables.proofs.Tables.{Same, ref-stored, other_row}

none_left : (l : List Ty) → ltb 0 (length l) ≡ false → l ≡ []
none_left [] e = refl
none_left (x ∷ l) e = absurd (let z = ltb-false 0 (suc (length l)) e in omega arith)

pub bounds : {ls : List Triple} {r : TypeRef} {h : Split} → Halved ls r h → 0 < r.lines → (1 + h.count ≤ r.count) × (r.at + 1 + h.count ≤ most_nodes)
bounds h z =
    let a = h.others.within z in
    let b = h.others.few in
    (h.short, omega arith)

module _ (ls : List Triple) where
  frames-top : (w : List ℕ) (n : ℕ) → 0 < n → Frames ls w n → Frame ls (ref_at w (n - 1)) × Frames ls w (n - 1)
  unfolding Frames
  frames-top w zero l f = absurd (not-suc-le-zero l)
  frames-top w (suc n) l f = let e : n ≡ suc n - 1 = omega arith in subst (λ (i : ℕ). Frame ls (ref_at w i) × Frames ls w i) e f

  pub frames-push : (w : List ℕ) (n : ℕ) → Frame ls (ref_at w n) → Frames ls w n → Frames ls w (n + 1)
  unfolding Frames
  frames-push w n g f = let e : suc n ≡ n + 1 = omega arith in subst (Frames ls w) e (g, f)

  pub types-top : (w : List ℕ) (n : ℕ) → 0 < n → types_of ls w n ≡ pending_of ls (ref_at w (n - 1)) ++ types_of ls w (n - 1)
  unfolding types_of
  types-top w zero l = absurd (not-suc-le-zero l)
  types-top w (suc n) l = let e : n ≡ suc n - 1 = omega arith in ap (λ (i : ℕ). pending_of ls (ref_at w i) ++ types_of ls w i) e

  pub types_same : (w w' : List ℕ) (n : ℕ) → ((i : ℕ) → i < n → Same w w' i) → types_of ls w' n ≡ types_of ls w n
  unfolding types_of
  types_same w w' zero f = refl
  types_same w w' (suc n) f = ap₂ (λ (r : TypeRef) (l : List Ty). pending_of ls r ++ l) (f n (omega arith)).1 (types_same w w' n (λ i l. f i (omega arith)))

  pub frames-same : (w w' : List ℕ) (n : ℕ) → ((i : ℕ) → i < n → Same w w' i) → Frames ls w n → Frames ls w' n
  unfolding Frames
  frames-same w w' zero f g = g
  frames-same w w' (suc n) f g = (subst⁻¹ (Frame ls) (f n (omega arith)).1 g.0, frames-same w w' n (λ i l. f i (omega arith)) g.1)

  -- a frame put on n frames
  pub frames-put : (w w' : List ℕ) (n : ℕ) (r : TypeRef) → 6 * n + 6 ≤ length w → w' ≡ sets w (6 * n) (row 0 r) → Frame ls r → Frames ls w n
      → Frames ls w' (n + 1) × (types_of ls w' (n + 1) ≡ pending_of ls r ++ types_of ls w n)
  frames-put w w' n r h q g f =
      let v : List ℕ = sets w (6 * n) (row 0 r) in
      let o : ref_at v n ≡ r = ref-stored w n 0 r h in
      let same : (i : ℕ) → i < n → Same w v i = λ i j. other_row w n 0 r i (omega arith) in
      let z : n + 1 - 1 ≡ n = omega arith in
      let t : types_of ls v (n + 1) ≡ pending_of ls (ref_at v n) ++ types_of ls v n = types-top v (n + 1) (omega arith) ∙ ap (λ (i : ℕ). pending_of ls (ref_at v i) ++ types_of ls v i) z in
      rw q (
        frames-push v n (subst⁻¹ (Frame ls) o g) (frames-same w v n same f),
        t ∙ ap₂ (λ (x : TypeRef) (y : List Ty). pending_of ls x ++ y) o (types_same w v n same),
      )

  module _ (w : List ℕ) (n : ℕ) (r : TypeRef) (l : 0 < n) (f : Frames ls w n) (e : r ≡ ref_at w (n - 1)) where
    pub top_frame : Frame ls r
    top_frame = subst⁻¹ (Frame ls) e (frames-top w n l f).0

    types-r : types_of ls w n ≡ pending_of ls r ++ types_of ls w (n - 1)
    types-r = types-top w n l ∙ ap (λ (q : TypeRef). pending_of ls q ++ types_of ls w (n - 1)) (sym e)

    pub taken-alone : r.lines ≡ 0 → Taken ls w n w (record { want = r; depth = n - 1 })
    unfolding pending_of next_words next_of
    taken-alone z =
        let b : eqb r.lines 0 ≡ true = eq-eqb r.lines 0 z in
        let v : w ≡ next_words ls r n w = rw b in
        let u : record { want = r; depth = n - 1 } ≡ next_of ls r n = rw b in
        record {
          good = top_frame.good;
          fewer = omega arith;
          frames = (frames-top w n l f).1;
          types = types-r ∙ rw b;
          words = v ∙ ap (λ (q : TypeRef). next_words ls q n w) e;
          answer = u ∙ ap (λ (q : TypeRef). next_of ls q n) e;
        }

    module _ (z : 0 < r.lines) (h : Split) (d : Halved ls r h) where
      types-d : types_of ls w n ≡ type_of ls (parameter_of r h.count) ∷ (pending_of ls (others_of r h.count) ++ types_of ls w (n - 1))
      types-d = types-r ∙ ap (λ (x : List Ty). x ++ types_of ls w (n - 1)) d.pending

      words-d : cond h.more (sets w (6 * (n - 1)) (row 0 (others_of r h.count))) w ≡ next_words ls (top_of w n) n w
      unfolding next_words
      words-d = ap (λ (s : Split). cond s.more (sets w (6 * (n - 1)) (row 0 (others_of r s.count))) w) d.answer ∙ ap (λ (q : TypeRef). next_words ls q n w) e

      answer-d : record { want = parameter_of r h.count; depth = cond h.more n (n - 1) } ≡ next_of ls (top_of w n) n
      unfolding next_of
      answer-d =
          let want : parameter_of r (split_of ls r).count ≡ cond (eqb r.lines 0) r (parameter_of r (split_of ls r).count) = rw (ne_eqb r.lines 0 (omega arith)) in
          ap (λ (s : Split). record { want = parameter_of r s.count; depth = cond s.more n (n - 1) }) d.answer
          ∙ ap (λ (t : TypeRef). record { want = t; depth = cond (split_of ls r).more n (n - 1) }) want
          ∙ ap (λ (q : TypeRef). next_of ls q n) e

      pub taken-last : h.more ≡ false → Taken ls w n w (record { want = parameter_of r h.count; depth = n - 1 })
      taken-last g =
          let s : pending_of ls (others_of r h.count) ≡ [] = none_left (pending_of ls (others_of r h.count)) (sym d.more ∙ g) in
          record {
            good = d.first;
            fewer = omega arith;
            frames = (frames-top w n l f).1;
            types = types-d ∙ ap (λ (x : List Ty). type_of ls (parameter_of r h.count) ∷ (x ++ types_of ls w (n - 1))) s;
            words = rw g at words-d;
            answer = rw g at answer-d;
          }

      pub taken_more : (w' : List ℕ) → 6 * n ≤ length w → w' ≡ sets w (6 * (n - 1)) (row 0 (others_of r h.count)) → h.more ≡ true
          → Taken ls w n w' (record { want = parameter_of r h.count; depth = n })
      taken_more w' long q g =
          let one : n - 1 + 1 ≡ n = omega arith in
          let s : 0 < length (pending_of ls (others_of r h.count)) = ltb-true 0 (length (pending_of ls (others_of r h.count))) (sym d.more ∙ g) in
          let p = frames-put w w' (n - 1) (others_of r h.count) (omega arith) q (record { good = d.others; some = s }) (frames-top w n l f).1 in
          record {
            good = d.first;
            fewer = omega arith;
            frames = subst (Frames ls w') one p.0;
            types = types-d ∙ ap (λ (x : List Ty). type_of ls (parameter_of r h.count) ∷ x) (sym p.1 ∙ ap (types_of ls w') one);
            words = q ∙ (rw g at words-d);
            answer = rw g at answer-d;
          }
