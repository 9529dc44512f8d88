-- Laws of tables of references. Assumes nothing.
use Rattle.std.proofs.Common.{◌≡◌, refl, sym, ap, ap₂, ◌∙◌, subst, ◌≢◌, List, [], ◌∷◌, ◌++◌, append_assoc, ℕ, zero, suc, ◌+◌, ◌*◌, ◌-◌, ◌≤◌, ◌<◌, not-suc-le-zero, arith, length, get_or, set, eq-eqb, ne_eqb, lt-ltb, le-ltb}
use mathlib.Core.Path.{subst⁻¹}
use native.Mathlib.Decide.{ℕ_discrete}
use Rattle.std.proofs.lemmas.List.Edits.{sets}
use Rattle.nodes.specs.Nodes.{Ty}
use Rattle.nodes.proofs.Laws.{getD-sets-below, getD-sets-above, getD-sets-in}
use Rattle.spelling.specs.declared.Triple.{Triple}
use Rattle.sheet.specs.Plan.{Binding, ◌∶◌, Bindings}
use Rattle.judgment.specs.Rules.{insert}
use Rattle.references.specs.declared.TypeRef.{TypeRef}
use Rattle.references.specs.References.{type_of, Good}
use Rattle.tables.specs.Rows.{name_at, ref_at, row, bindings_at, Sound}

-- a row as it was, and a row that stands one higher
abbrev pub Same : List ℕ → List ℕ → ℕ → Type 0
Same w w' i = (name_at w' i ≡ name_at w i) × (ref_at w' i ≡ ref_at w i)

abbrev pub Moved : List ℕ → List ℕ → ℕ → Type 0
Moved w w' i = (name_at w' (i + 1) ≡ name_at w i) × (ref_at w' (i + 1) ≡ ref_at w i)

by-eq : {P : Type 0} (a b : ℕ) → (a ≡ b → P) → (a ≢ b → P) → P
by-eq a b f g = elim (ℕ_discrete a b) [
  | yes e ↦ f e
  | no e ↦ g e
]

-- ---- a row is stored
pub stored : (w : List ℕ) (p x : ℕ) (r : TypeRef) → set (set (set (set (set (set w p x) (p + 1) r.first) (p + 2) r.lines) (p + 3) r.at) (p + 4) r.count) (p + 5) r.base ≡ sets w p (row x r)
stored w p x r =
    let a : p + 1 ≡ suc p = omega arith in
    let b : p + 2 ≡ suc (suc p) = omega arith in
    let c : p + 3 ≡ suc (suc (suc p)) = omega arith in
    let d : p + 4 ≡ suc (suc (suc (suc p))) = omega arith in
    let e : p + 5 ≡ suc (suc (suc (suc (suc p)))) = omega arith in
    rw (a, b, c, d, e)

module _ (w : List ℕ) (i x : ℕ) (r : TypeRef) (h : 6 * i + 6 ≤ length w) where
  in_row : (k : ℕ) → k < 6 → get_or (sets w (6 * i) (row x r)) (6 * i + k) 0 ≡ get_or (row x r) k 0
  in_row k l = getD-sets-in w (6 * i) (row x r) k l h

  pub name-stored : name_at (sets w (6 * i) (row x r)) i ≡ x
  name-stored = let e : 6 * i ≡ 6 * i + 0 = omega arith in ap (λ (j : ℕ). get_or (sets w (6 * i) (row x r)) j 0) e ∙ in_row 0 (omega arith)

  pub ref-stored : ref_at (sets w (6 * i) (row x r)) i ≡ r
  ref-stored = rw (in_row 1 (omega arith), in_row 2 (omega arith), in_row 3 (omega arith), in_row 4 (omega arith), in_row 5 (omega arith))

outside : (w : List ℕ) (i x : ℕ) (r : TypeRef) (j k : ℕ) → j ≢ i → k < 6 → get_or (sets w (6 * i) (row x r)) (6 * j + k) 0 ≡ get_or w (6 * j + k) 0
outside w i x r j k n l = go (6 * j + k) where
  go : (q : ℕ) → get_or (sets w (6 * i) (row x r)) (6 * j + k) 0 ≡ get_or w (6 * j + k) 0
  go q = elim (ℕ_discrete 0 (j - i)) [
    | yes e ↦ getD-sets-below w (6 * i) (row x r) (6 * j + k) (omega arith)
    | no e ↦ getD-sets-above w (6 * i) (row x r) (6 * j + k) (omega arith)
  ]

-- a row whose six words stand in another row
pub row_by : (w w' : List ℕ) (i j : ℕ) → ((k : ℕ) → k < 6 → get_or w' (6 * j + k) 0 ≡ get_or w (6 * i + k) 0) → (name_at w' j ≡ name_at w i) × (ref_at w' j ≡ ref_at w i)
row_by w w' i j f =
    let e : 6 * i ≡ 6 * i + 0 = omega arith in
    let d : 6 * j ≡ 6 * j + 0 = omega arith in (
      ap (λ (q : ℕ). get_or w' q 0) d ∙ f 0 (omega arith) ∙ ap (λ (q : ℕ). get_or w q 0) (sym e),
      rw (f 1 (omega arith), f 2 (omega arith), f 3 (omega arith), f 4 (omega arith), f 5 (omega arith)),
    )

pub other_row : (w : List ℕ) (i x : ℕ) (r : TypeRef) (j : ℕ) → j ≢ i → Same w (sets w (6 * i) (row x r)) j
other_row w i x r j n = row_by w (sets w (6 * i) (row x r)) j j (λ k l. outside w i x r j k n l)

-- ---- bindings
module _ (ls : List Triple) where
  pub bindings-cons : (w : List ℕ) (a n : ℕ) → 0 < n → bindings_at ls w a n ≡ ◌∶◌ (name_at w a) (type_of ls (ref_at w a)) ∷ bindings_at ls w (a + 1) (n - 1)
  unfolding bindings_at
  bindings-cons w a zero h = absurd (not-suc-le-zero h)
  bindings-cons w a (suc n) h = let e : n ≡ suc n - 1 = omega arith in ap (λ (m : ℕ). ◌∶◌ (name_at w a) (type_of ls (ref_at w a)) ∷ bindings_at ls w (a + 1) m) e

  pub bindings-append : (w : List ℕ) (a m n : ℕ) → bindings_at ls w a (m + n) ≡ bindings_at ls w a m ++ bindings_at ls w (a + m) n
  unfolding bindings_at
  bindings-append w a zero n =
      let e : 0 + n ≡ n = omega arith in
      let f : a ≡ a + 0 = omega arith in
      ap₂ (λ (x y : ℕ). bindings_at ls w x y) f e
  bindings-append w a (suc m) n =
      let e : suc m + n ≡ suc (m + n) = omega arith in
      let f : a + 1 + m ≡ a + suc m = omega arith in
      ap (bindings_at ls w a) e ∙ ap (λ (l : Bindings). ◌∶◌ (name_at w a) (type_of ls (ref_at w a)) ∷ l) (bindings-append w (a + 1) m n ∙ ap (λ (x : ℕ). bindings_at ls w (a + 1) m ++ bindings_at ls w x n) f)

  pub bindings-same : (w w' : List ℕ) (a n : ℕ) → ((i : ℕ) → a ≤ i → i < a + n → Same w w' i) → bindings_at ls w' a n ≡ bindings_at ls w a n
  unfolding bindings_at
  bindings-same w w' a zero f = refl
  bindings-same w w' a (suc n) f =
      let g = f a (omega arith) (omega arith) in
      ap₂ (λ (x : Binding) (y : Bindings). x ∷ y) (ap₂ (λ (x : ℕ) (y : TypeRef). ◌∶◌ x (type_of ls y)) g.0 g.1) (bindings-same w w' (a + 1) n (λ i l q. f i (omega arith) (omega arith)))

  pub bindings-moved : (w w' : List ℕ) (a n : ℕ) → ((i : ℕ) → a ≤ i → i < a + n → Moved w w' i) → bindings_at ls w' (a + 1) n ≡ bindings_at ls w a n
  unfolding bindings_at
  bindings-moved w w' a zero f = refl
  bindings-moved w w' a (suc n) f =
      let g = f a (omega arith) (omega arith) in
      ap₂ (λ (x : Binding) (y : Bindings). x ∷ y) (ap₂ (λ (x : ℕ) (y : TypeRef). ◌∶◌ x (type_of ls y)) g.0 g.1) (bindings-moved w w' (a + 1) n (λ i l q. f i (omega arith) (omega arith)))

  -- ---- the place of a name
  pub place-turn : (w : List ℕ) (j n x : ℕ) (t : Ty) → j < n → name_at w j < x
      → bindings_at ls w 0 j ++ insert x t (bindings_at ls w j (n - j)) ≡ bindings_at ls w 0 (j + 1) ++ insert x t (bindings_at ls w (j + 1) (n - (j + 1)))
  unfolding insert bindings_at
  place-turn w j n x t l g =
      let e : n - j - 1 ≡ n - (j + 1) = omega arith in
      let z : 0 + j ≡ j = omega arith in
      rw (bindings-cons w j (n - j) (omega arith), ne_eqb x (name_at w j) (omega arith), le-ltb x (name_at w j) (omega arith), e)
      (sym (append_assoc (bindings_at ls w 0 j) (◌∶◌ (name_at w j) (type_of ls (ref_at w j)) ∷ []) (insert x t (bindings_at ls w (j + 1) (n - (j + 1)))))
      ∙ ap (λ (l : Bindings). l ++ insert x t (bindings_at ls w (j + 1) (n - (j + 1)))) (ap (λ (y : ℕ). bindings_at ls w 0 j ++ (◌∶◌ (name_at w y) (type_of ls (ref_at w y)) ∷ [])) (sym z) ∙ sym (bindings-append w 0 j 1)))

  pub place-start : (w : List ℕ) (n x : ℕ) (t : Ty) → insert x t (bindings_at ls w 0 n) ≡ bindings_at ls w 0 0 ++ insert x t (bindings_at ls w 0 (n - 0))
  unfolding bindings_at
  place-start w n x t = let e : n ≡ n - 0 = omega arith in ap (λ (m : ℕ). insert x t (bindings_at ls w 0 m)) e

  -- ---- a name that is there, and a new one
  module _ (w : List ℕ) (j n x : ℕ) (r : TypeRef) (at : insert x (type_of ls r) (bindings_at ls w 0 n) ≡ bindings_at ls w 0 j ++ insert x (type_of ls r) (bindings_at ls w j (n - j))) where
    split : (w' : List ℕ) (m : ℕ) → j < m → bindings_at ls w' 0 m ≡ bindings_at ls w' 0 j ++ (◌∶◌ (name_at w' j) (type_of ls (ref_at w' j)) ∷ bindings_at ls w' (j + 1) (m - j - 1))
    split w' m l =
        let e : m ≡ j + (m - j) = omega arith in
        let z : 0 + j ≡ j = omega arith in
        ap (bindings_at ls w' 0) e ∙ bindings-append w' 0 j (m - j) ∙ ap (λ (y : ℕ). bindings_at ls w' 0 j ++ bindings_at ls w' y (m - j)) z ∙ ap (λ (l : Bindings). bindings_at ls w' 0 j ++ l) (bindings-cons w' j (m - j) (omega arith))

    pub replaced : (w' : List ℕ) → j < n → name_at w j ≡ x → 6 * j + 6 ≤ length w → w' ≡ sets w (6 * j) (row x r) → bindings_at ls w' 0 n ≡ insert x (type_of ls r) (bindings_at ls w 0 n)
    unfolding insert
    replaced w' l e h q =
        let v : List ℕ = sets w (6 * j) (row x r) in
        rw q (split v n l
        ∙ ap₂ (λ (a b : Bindings). a ++ b) (bindings-same w v 0 j (λ i a b. other_row w j x r i (omega arith)))
        (ap₂ (λ (a : Binding) (b : Bindings). a ∷ b) (ap₂ (λ (a : ℕ) (b : TypeRef). ◌∶◌ a (type_of ls b)) (name-stored w j x r h) (ref-stored w j x r h)) (bindings-same w v (j + 1) (n - j - 1) (λ i a b. other_row w j x r i (omega arith))))
        ∙ sym (at ∙ rw (bindings-cons w j (n - j) (omega arith), eq-eqb x (name_at w j) (sym e))))

    ahead : (m : ℕ) → (0 < m → x < name_at w j) → insert x (type_of ls r) (bindings_at ls w j m) ≡ ◌∶◌ x (type_of ls r) ∷ bindings_at ls w j m
    unfolding insert bindings_at
    ahead zero g = refl
    ahead (suc m) g = let l = g (omega arith) in rw (ne_eqb x (name_at w j) (omega arith), lt-ltb x (name_at w j) l)

    pub inserted : (v w' : List ℕ) → j ≤ n → (j < n → x < name_at w j) → 6 * j + 6 ≤ length v → ((a : ℕ) → a ≤ j → Same w v a) → ((a : ℕ) → j ≤ a → a < n → Moved w v a)
        → w' ≡ sets v (6 * j) (row x r) → bindings_at ls w' 0 (n + 1) ≡ insert x (type_of ls r) (bindings_at ls w 0 n)
    inserted v w' l g h s u q =
        let z : n + 1 - j - 1 ≡ n - j = omega arith in
        let o : List ℕ = sets v (6 * j) (row x r) in
        rw q (split o (n + 1) (omega arith)
        ∙ ap₂ (λ (a b : Bindings). a ++ b) (bindings-same v o 0 j (λ i a b. other_row v j x r i (omega arith)) ∙ bindings-same w v 0 j (λ i a b. s i (omega arith)))
        (ap₂ (λ (a : Binding) (b : Bindings). a ∷ b) (ap₂ (λ (a : ℕ) (b : TypeRef). ◌∶◌ a (type_of ls b)) (name-stored v j x r h) (ref-stored v j x r h))
        (ap (bindings_at ls o (j + 1)) z ∙ bindings-same v o (j + 1) (n - j) (λ i a b. other_row v j x r i (omega arith)) ∙ bindings-moved w v j (n - j) (λ i a b. u i a (omega arith))))
        ∙ sym (at ∙ ap (λ (b : Bindings). bindings_at ls w 0 j ++ b) (ahead (n - j) (λ i. g (omega arith)))))

-- ---- references stay good
abbrev Well : List Triple → List ℕ → ℕ → Type 0
Well ls w i = Good ls (ref_at w i) × (name_at w i < 4294967296)

well-by : (ls : List Triple) (w : List ℕ) (i x : ℕ) (r : TypeRef) → name_at w i ≡ x → ref_at w i ≡ r → Good ls r → x < 4294967296 → Well ls w i
well-by ls w i x r a b g l = (subst⁻¹ (Good ls) b g, omega arith)

pub sound-replaced : (ls : List Triple) (w w' : List ℕ) (j n x : ℕ) (r : TypeRef) → j < n → 6 * j + 6 ≤ length w → w' ≡ sets w (6 * j) (row x r) → Good ls r → x < 4294967296 → Sound ls w n → Sound ls w' n
sound-replaced ls w w' j n x r l h q g y s = rw q (λ i m. by-eq i j
    (λ e. subst⁻¹ (Well ls (sets w (6 * j) (row x r))) e (well-by ls (sets w (6 * j) (row x r)) j x r (name-stored w j x r h) (ref-stored w j x r h) g y))
    (λ e. (let o = other_row w j x r i e in well-by ls (sets w (6 * j) (row x r)) i (name_at w i) (ref_at w i) o.0 o.1 (s i m).0 (s i m).1)))

pub sound-inserted : (ls : List Triple) (w v w' : List ℕ) (j n x : ℕ) (r : TypeRef) → j ≤ n → 6 * j + 6 ≤ length v → ((a : ℕ) → a ≤ j → Same w v a) → ((a : ℕ) → j ≤ a → a < n → Moved w v a)
    → w' ≡ sets v (6 * j) (row x r) → Good ls r → x < 4294967296 → Sound ls w n → Sound ls w' (n + 1)
sound-inserted ls w v w' j n x r l h a b q g y s = rw q (λ i m. by-eq i j
    (λ e. subst⁻¹ (Well ls (sets v (6 * j) (row x r))) e (well-by ls (sets v (6 * j) (row x r)) j x r (name-stored v j x r h) (ref-stored v j x r h) g y))
    (λ e. (let o = other_row v j x r i e in
    let u : Well ls v i = elim (ℕ_discrete 0 (i - j)) [
      | yes z ↦ (let f = a i (omega arith) in let t = s i (omega arith) in well-by ls v i (name_at w i) (ref_at w i) f.0 f.1 t.0 t.1)
      | no z ↦ (let d : i - 1 + 1 ≡ i = omega arith in let f = b (i - 1) (omega arith) (omega arith) in let t = s (i - 1) (omega arith) in subst (Well ls v) d (well-by ls v (i - 1 + 1) (name_at w (i - 1)) (ref_at w (i - 1)) f.0 f.1 t.0 t.1))
    ] in
    well-by ls (sets v (6 * j) (row x r)) i (name_at v i) (ref_at v i) o.0 o.1 u.0 u.1)))
