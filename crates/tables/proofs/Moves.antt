-- The place of a name, rows one row higher, and the words after a name is bound. Assumes nothing.
use Rattle.std.proofs.lemmas.List.Edits.{sets}
use Rattle.std.proofs.Common.{◌≡◌, refl, sym, ap, ap₂, ◌∙◌, Bool, true, false, ◌&&◌, ◌≢◌, List, [], ◌∷◌, ◌++◌, ℕ, zero, suc, ◌+◌, ◌*◌, ◌-◌, ◌≤◌, ◌<◌, not-suc-le-zero, arith, ltb, eqb, length, get_or, set, take, drop, drop-cons, length-take, length-drop, get_or-take, get_or-drop, le-leb, ltb-true, lt-ltb, eqb-true}
use lib.Seq.{sets, set_comm, drop-drop, take-add}
use borrow.Author.Tests.{lt-leb, eqb-false}
use Rattle.nodes.proofs.Laws.{sets-append, getD-sets-below, getD-sets-in}
use Rattle.references.specs.declared.TypeRef.{TypeRef}
use Rattle.tables.specs.Rows.{name_at, ref_at, row, place_from, named, lifted, insert_words, insert_count}
use Rattle.tables.proofs.Tables.{Same, Moved, row_by}

-- ---- the place of a name
pub place-stop : (w : List ℕ) (x j m : ℕ) → (0 < m → x ≤ name_at w j) → j ≡ place_from w x j m
unfolding place_from
place-stop w x j zero h = refl
place-stop w x j (suc m) h = rw (le-leb x (name_at w j) (h (omega arith)))

later : (w : List ℕ) (x j m : ℕ) → 0 < m → name_at w j < x → place_from w x j m ≡ place_from w x (j + 1) (m - 1)
unfolding place_from
later w x j zero h l = absurd (not-suc-le-zero h)
later w x j (suc m) h l = let e : suc m - 1 ≡ m = omega arith in rw (lt-leb x (name_at w j) l, e)

pub place-more : (w : List ℕ) (x j n : ℕ) → j < n → name_at w j < x → place_from w x j (n - j) ≡ place_from w x (j + 1) (n - (j + 1))
place-more w x j n h l = let e : n - j - 1 ≡ n - (j + 1) = omega arith in later w x j (n - j) (omega arith) l ∙ ap (place_from w x (j + 1)) e

pub is-named : (w : List ℕ) (j n x : ℕ) → named w j n x ≡ true → (j < n) × (name_at w j ≡ x)
is-named w j n x e = by (ltb j n) refl e
  where
    by : (q : Bool) → ltb j n ≡ q → (q && eqb (name_at w j) x) ≡ true → (j < n) × (name_at w j ≡ x)
    by true p h = (ltb-true j n p, eqb-true (name_at w j) x h)
    by false p h = absurd (let z : ◌≡◌ {A = ℕ} 0 1 = cc in omega arith)

pub not_named : (w : List ℕ) (j n x : ℕ) → named w j n x ≡ false → j < n → name_at w j ≢ x
not_named w j n x e h = eqb-false (name_at w j) x (rw (lt-ltb j n h) at e)

-- ---- stores below other stores
set-above : (l : List ℕ) (i k a : ℕ) (vs : List ℕ) → i + length vs ≤ k → set (sets l i vs) k a ≡ sets (set l k a) i vs
set-above l i k a [] h = refl
set-above l i k a (v ∷ vs) h = set-above (set l i v) (suc i) k a vs (omega arith) ∙ ap (λ (x : List ℕ). sets x (suc i) vs) (set_comm l i k v a (omega arith))

sets-above : (l : List ℕ) (i k : ℕ) (vs ws : List ℕ) → i + length vs ≤ k → sets (sets l i vs) k ws ≡ sets (sets l k ws) i vs
sets-above l i k vs [] h = refl
sets-above l i k vs (a ∷ ws) h = ap (λ (x : List ℕ). sets x (suc k) ws) (set-above l i k a vs h) ∙ sets-above (set l k a) i (suc k) vs ws (omega arith)

-- ---- rows one row higher
-- ---- rows one row higher
first_word : (w : List ℕ) (p q n : ℕ) → q ≡ suc p → p < length w → take (suc n) (drop p w) ≡ get_or w p 0 ∷ take n (drop q w)
first_word w p q n e h = rw e (ap (take (suc n)) (drop-cons w p 0 h))

row_words : (w : List ℕ) (i : ℕ) → 6 * i + 6 ≤ length w → take 6 (drop (6 * i) w) ≡ row (name_at w i) (ref_at w i)
row_words w i h = rw (
  first_word w (6 * i) (6 * i + 1) 5 (omega arith) (omega arith),
  first_word w (6 * i + 1) (6 * i + 2) 4 (omega arith) (omega arith),
  first_word w (6 * i + 2) (6 * i + 3) 3 (omega arith) (omega arith),
  first_word w (6 * i + 3) (6 * i + 4) 2 (omega arith) (omega arith),
  first_word w (6 * i + 4) (6 * i + 5) 1 (omega arith) (omega arith),
  first_word w (6 * i + 5) (6 * i + 6) 0 (omega arith) (omega arith),
)

pub lifted-same : (w v : List ℕ) (j n a : ℕ) → v ≡ lifted w j n → a ≤ j → Same w v a
unfolding lifted
lifted-same w v j n a e h = rw e (row_by w (lifted w j n) a a (λ k l. getD-sets-below w (6 * j + 6) (take (6 * (n - j)) (drop (6 * j) w)) (6 * a + k) (omega arith)))

pub lifted-moved : (w v : List ℕ) (j n a : ℕ) → v ≡ lifted w j n → 6 * n + 6 ≤ length w → j ≤ a → a < n → Moved w v a
unfolding lifted
lifted-moved w v j n a e h l g = rw e (row_by w (lifted w j n) a (a + 1) word)
  where
    word : (k : ℕ) → k < 6 → get_or (lifted w j n) (6 * (a + 1) + k) 0 ≡ get_or w (6 * a + k) 0
    word k q =
        let i : ℕ = 6 * (a - j) + k in
        let s : length (take (6 * (n - j)) (drop (6 * j) w)) ≡ 6 * (n - j) = simp (length-take, length-drop) (omega arith) in
        let d : 6 * (a + 1) + k ≡ 6 * j + 6 + i = omega arith in
        let z : 6 * j + i ≡ 6 * a + k = omega arith in
        rw d (getD-sets-in w (6 * j + 6) (take (6 * (n - j)) (drop (6 * j) w)) i (omega arith) (omega arith)
        ∙ get_or-take (6 * (n - j)) (drop (6 * j) w) i 0 (omega arith) ∙ get_or-drop (6 * j) w i 0 ∙ ap (λ (p : ℕ). get_or w p 0) z)

pub lift-start : (w : List ℕ) (n : ℕ) → w ≡ lifted w n n
unfolding lifted
lift-start w n = let e : 6 * (n - n) ≡ 0 = omega arith in rw e

-- one row more, the one below: its words are those before, as only rows above it were written
pub lift-turn : (w v u : List ℕ) (i n x : ℕ) (r : TypeRef) → 0 < i → i ≤ n → 6 * n + 6 ≤ length w → v ≡ lifted w i n → x ≡ name_at v (i - 1) → r ≡ ref_at v (i - 1)
    → u ≡ sets v (6 * i) (row x r) → u ≡ lifted w (i - 1) n
unfolding lifted
lift-turn w v u i n x r p l h s d e q =
    let b : ℕ = i - 1 in
    let old : Same w v b = lifted-same w v i n b s (omega arith) in
    let C : List ℕ = take (6 * (n - i)) (drop (6 * i) w) in
    let R : row x r ≡ take 6 (drop (6 * b) w) = ap₂ row (d ∙ old.0) (e ∙ old.1) ∙ sym (row_words w b (omega arith)) in
    let k : 6 * (n - b) ≡ 6 + 6 * (n - i) = omega arith in
    let z : 6 * b + 6 ≡ 6 * i = omega arith in
    let more : take (6 * (n - b)) (drop (6 * b) w) ≡ row x r ++ C =
    ap (λ (m : ℕ). take m (drop (6 * b) w)) k ∙ take-add 6 (6 * (n - i)) (drop (6 * b) w)
    ∙ ap₂ (λ (y : List ℕ) (t : List ℕ). y ++ take (6 * (n - i)) t) (sym R) (drop-drop 6 (6 * b) w ∙ ap (λ (m : ℕ). drop m w) z) in
    q ∙ ap (λ (y : List ℕ). sets y (6 * i) (row x r)) s
    ∙ sym (ap₂ (λ (m : ℕ) (y : List ℕ). sets w m y) z more ∙ sets-append w (6 * i) (row x r) C ∙ sets-above w (6 * i) (6 * i + 6) (row x r) C (omega arith))

-- ---- every word after a name is bound
pub words-there : (w w' : List ℕ) (n x j : ℕ) (r : TypeRef) → j ≡ place_from w x 0 n → named w j n x ≡ true → w' ≡ sets w (6 * j) (row x r)
    → (w' ≡ insert_words w n x r) × (n ≡ insert_count w n x)
unfolding insert_words insert_count
words-there w w' n x j r p e q = (q ∙ rw (← p, e), rw (← p, e))

pub words-new : (w v w' : List ℕ) (n x j : ℕ) (r : TypeRef) → j ≡ place_from w x 0 n → named w j n x ≡ false → v ≡ lifted w j n → w' ≡ sets v (6 * j) (row x r)
    → (w' ≡ insert_words w n x r) × (n + 1 ≡ insert_count w n x)
unfolding insert_words insert_count
words-new w v w' n x j r p e s q = (q ∙ rw (s, ← p, e), rw (← p, e))
