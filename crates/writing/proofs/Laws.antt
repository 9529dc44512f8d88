-- Sayable triples, the text of triples, and what is read of it. Assumes nothing.
use Rattle.kinds.specs.declared.Parts.{Parts}
use Rattle.grammar.specs.declared.SheetError.TheVariants.{Unfit}
use Rattle.grammar.specs.declared.SheetError.{SheetError}
use Rattle.std.specs.Prelude.{Some, None, Result, Ok, Err, Option, is_some}
use mathlib.Core.Path.{◌≡◌, refl, sym, ap, ◌∙◌}
use mathlib.Core.Bool.{Bool, true, false, cond, ◌&&◌, and-eq-true_iff}
use mathlib.Core.List.{List, [], ◌∷◌, ◌++◌, map, append_assoc}
use Prim.Native.Nat.{ℕ, suc, ◌+◌, ◌*◌, ◌-◌, ◌/◌, ◌^◌, ◌≤◌, ◌<◌}
use native.Mathlib.Omega.{arith}
use native.Mathlib.Nat.{sub-zero}
use native.Mathlib.Numerals.{add-one}
use lib.ListN.{length, get_or, set, drop, length-append, length-drop}
use lib.Dec.{ltb, leb, eqb}
use lib.Seq.{sets, take_at, drop_at, drop-cons}
use borrow.Author.Tests.{lt-ltb, ltb-true, le-leb, lt-leb, leb-true, eq-eqb, eqb-true}
use Rattle.sizes.specs.Sizes.{line_length, triple_words}
use Rattle.nodes.proofs.Laws.{sets-append}
use Rattle.spelling.specs.declared.Triple.{Triple}
use Rattle.spelling.specs.Spelling.{line_at, lines_from, first_misspelt}
use Rattle.spelling.specs.Text.{line_text, line_bytes, Fair}
use Rattle.spelling.proofs.Texts.{length-text, reads-back}
use Rattle.kinds.specs.Kinds.{nothing, an_entry, same_sort, find, table, row_of, begins, head_of}
use Rattle.grammar.specs.Grammar.{Item, part, entries, declared_by, ok, due, read, read_at}
use Rattle.grammar.specs.Check.{end_of, read_sheet}
use Rattle.grammar.proofs.Laws.{all-spelt}
use Rattle.writing.specs.Writing.{triple_of, triple_at, triples_from, triples_of, sayable, said, nowhere, tame, read_triples, sheet_text}

-- ---- sayable is fair
plain_value : (n : Bool) (a : Bool) (v : ℕ) → cond n a (ltb v (2 ^ 63)) ≡ true → n ≡ false → v < 2 ^ 63
plain_value true a v e q = absurd (let z : ◌≡◌ {A = ℕ} 0 1 = cc in omega arith)
plain_value false a v e q = ltb-true v (2 ^ 63) e

minus-value : (n : Bool) (k v : ℕ) (b : Bool) → cond n (eqb k 22 && (ltb 0 v && leb v (2 ^ 63))) b ≡ true → n ≡ true → (k ≡ 22) × (0 < v) × (v ≤ 2 ^ 63)
minus-value true k v b e q =
    let x = (and-eq-true_iff (eqb k 22) (ltb 0 v && leb v (2 ^ 63))).0 e in
    let y = (and-eq-true_iff (ltb 0 v) (leb v (2 ^ 63))).0 x.1 in
    (eqb-true k 22 x.0, ltb-true 0 v y.0, leb-true v (2 ^ 63) y.1)
minus-value false k v b e q = absurd (let z : ◌≡◌ {A = ℕ} 0 1 = cc in omega arith)

pub sayable-fair : (t : Triple) → sayable t ≡ true → Fair t
sayable-fair t e =
    let signed = cond t.negative (eqb t.kind 22 && (ltb 0 t.value && leb t.value (2 ^ 63))) (ltb t.value (2 ^ 63)) in
    let k = (and-eq-true_iff (ltb t.kind 1000) (ltb t.count 100000 && signed)).0 e in
    let c = (and-eq-true_iff (ltb t.count 100000) signed).0 k.1 in
    record {
      kind = ltb-true t.kind 1000 k.0;
      count = ltb-true t.count 100000 c.0;
      value = plain_value t.negative _ t.value c.1;
      minus = minus-value t.negative t.kind t.value _ c.1;
    }

pub fair-sayable : (t : Triple) → Fair t → sayable t ≡ true
fair-sayable t f = rw (lt-ltb t.kind 1000 f.kind, lt-ltb t.count 100000 f.count) (go t.negative f.value f.minus)
  where
    go : (n : Bool) → (n ≡ false → t.value < 2 ^ 63) → (n ≡ true → (t.kind ≡ 22) × (0 < t.value) × (t.value ≤ 2 ^ 63))
        → cond n (eqb t.kind 22 && (ltb 0 t.value && leb t.value (2 ^ 63))) (ltb t.value (2 ^ 63)) ≡ true
    go true v m = let h = m refl in rw (eq-eqb t.kind 22 h.0, lt-ltb 0 t.value h.1, le-leb t.value (2 ^ 63) h.2)
    go false v m = lt-ltb t.value (2 ^ 63) (v refl)

pub tame-fair : (t : Triple) → Fair (tame t)
tame-fair t = go (sayable t) refl
  where
    go : (b : Bool) → sayable t ≡ b → Fair (cond b t nowhere)
    go true e = sayable-fair t e
    go false e = sayable-fair nowhere refl

-- ---- the text of triples has a line for each
pub length-sheet : (ts : List Triple) → length (sheet_text ts) ≡ line_length * length ts
unfolding sheet_text
length-sheet [] = refl
length-sheet (t ∷ ts) = length-append (line_text t) (sheet_text ts) ∙ omega (arith, length-text t, length-sheet ts)

text-lines : (ts : List Triple) (before : List ℕ) (i : ℕ) → length before ≡ line_length * i
    → lines_from (before ++ sheet_text (map tame ts)) i (length ts) ≡ map Some (map tame ts)
unfolding lines_from sheet_text
text-lines [] before i h = refl
text-lines (t ∷ ts) before i h =
    let l = line_text (tame t) in
    let rest = sheet_text (map tame ts) in
    let s = before ++ (l ++ rest) in
    let bytes : line_bytes s i ≡ l = rw (drop_at before (l ++ rest) (line_length * i) h) (take_at l rest line_length (length-text (tame t))) in
    let here : line_at s i ≡ Some (tame t) = reads-back s i (tame t) (tame-fair t) bytes in
    let next : lines_from ((before ++ l) ++ rest) (i + 1) (length ts) ≡ map Some (map tame ts) =
    text-lines ts (before ++ l) (i + 1) (length-append before l ∙ omega (arith, length-text (tame t))) in
    let moved : lines_from s (i + 1) (length ts) ≡ map Some (map tame ts) = ap (λ (x : List ℕ). lines_from x (i + 1) (length ts)) (sym (append_assoc before l rest)) ∙ next in
    rw (here, moved)

pub length-map : {A B : Type 0} (f : A → B) (l : List A) → length (map f l) ≡ length l
length-map f [] = refl
length-map f (a ∷ l) = ap suc (length-map f l)

pub length-tame : (ts : List Triple) → length (sheet_text (map tame ts)) ≡ line_length * length ts
length-tame ts = length-sheet (map tame ts) ∙ ap (λ (n : ℕ). line_length * n) (length-map tame ts)

pub lines-count : (ts : List Triple) → length (sheet_text (map tame ts)) / line_length ≡ length ts
lines-count ts = let h = length-tame ts in omega arith

pub lines-tame : (ts : List Triple) → lines_from (sheet_text (map tame ts)) 0 (length ts) ≡ map Some (map tame ts)
lines-tame ts = text-lines ts [] 0 refl

-- ---- the reader's verdict on the text is that on the triples
no-misspelt : (x : Item) → ok x None ≡ false
no-misspelt (part k) = refl
no-misspelt (entries k n) = refl

never : (b : Bool) (h : Option Parts) → is_some (cond (b && false) h None) ≡ false
never true h = refl
never false h = refl

no-nowhere : (x : Item) → ok x (Some nowhere) ≡ false
unfolding head_of begins row_of find table declared_by
no-nowhere (part k) = never (same_sort an_entry k) (Some (record { types = 1; terms = 0; each = nothing; count = 0 }))
no-nowhere (entries k n) = refl

read-tame : (ts : List Triple) (ahead : List Item) (at : ℕ) → read (map Some (map tame ts)) ahead at ≡ read (map said ts) ahead at
unfolding read
read-tame [] [] at = refl
read-tame [] (x ∷ ahead) at = refl
read-tame (t ∷ ts) [] at = refl
read-tame (t ∷ ts) (x ∷ ahead) at = go (sayable t) (λ a. read-tame ts a (at + 1))
  where
    go : (b : Bool) → ((a : List Item) → read (map Some (map tame ts)) a (at + 1) ≡ read (map said ts) a (at + 1))
        → cond (ok x (Some (cond b t nowhere))) (read (map Some (map tame ts)) (due x (Some (cond b t nowhere)) ++ ahead) (at + 1)) (Err (Unfit (at + 1)))
        ≡ cond (ok x (cond b (Some t) None)) (read (map said ts) (due x (cond b (Some t) None) ++ ahead) (at + 1)) (Err (Unfit (at + 1)))
    go true again = rw (again (due x (Some t) ++ ahead))
    go false again = rw (no-nowhere x, no-misspelt x)

pub reads-tame : (ts : List Triple) → read_sheet (sheet_text (map tame ts)) ≡ read_triples ts
unfolding read_sheet read_at read_triples
reads-tame ts =
    rw (lines-count ts, sub-zero (length ts), lines-tame ts) (ap (end_of (length ts)) (read-tame ts (entries 1 0 ∷ []) 0))

-- ---- triples that are taken are all sayable
said_all : (ts : List Triple) → first_misspelt (map said ts) ≡ length (map said ts) → map tame ts ≡ ts
unfolding first_misspelt
said_all [] e = refl
said_all (t ∷ ts) e = go (sayable t) (λ q. said_all ts q) e
  where
    go : (b : Bool) → (first_misspelt (map said ts) ≡ length (map said ts) → map tame ts ≡ ts)
        → first_misspelt (cond b (Some t) None ∷ map said ts) ≡ suc (length (map said ts)) → cond b t nowhere ∷ map tame ts ≡ t ∷ ts
    go true again e = ap (λ (x : List Triple). t ∷ x) (again (omega arith))
    go false again e = absurd (omega arith)

pub end-next : (n : ℕ) (g : Result ℕ SheetError) (k : ℕ) → end_of n g ≡ Ok k → g ≡ Ok n
end-next n (Ok j) k e = go (eqb j n) refl e
  where
    go : (b : Bool) → eqb j n ≡ b → cond b (Ok j) (Err (Unfit (j + 1))) ≡ Ok k → ◌≡◌ {A = Result ℕ SheetError} (Ok j) (Ok n)
    go true q e = ap Ok (eqb-true j n q)
    go false q e = absurd (let z : ◌≡◌ {A = ℕ} 0 1 = cc in omega arith)
end-next n (Err l) k e = absurd (let z : ◌≡◌ {A = ℕ} 0 1 = cc in omega arith)

pub taken-tame : (ts : List Triple) (k : ℕ) → read_triples ts ≡ Ok k → map tame ts ≡ ts
unfolding read_triples
taken-tame ts k e =
    let r = end-next (length ts) (read (map said ts) (entries 1 0 ∷ []) 0) k e in
    said_all ts (all-spelt (map said ts) (entries 1 0 ∷ []) 0 (length ts) r (omega (arith, length-map said ts)))

-- ---- a triple of words
pub below-zero : (k v c : ℕ) → 2 ^ 63 ≤ v → v < 2 ^ 64 → record { kind = k; negative = true; value = 18446744073709551615 - v + 1; count = c } ≡ triple_of k v c
below-zero k v c h f =
    let e : 18446744073709551615 - v + 1 ≡ 2 ^ 64 - v = omega arith in
    rw (le-leb (2 ^ 63) v h, e)

pub from_zero : (k v c : ℕ) → v < 2 ^ 63 → record { kind = k; negative = false; value = v; count = c } ≡ triple_of k v c
from_zero k v c h = rw (lt-leb (2 ^ 63) v h)

-- ---- lines as they are written
pub triples-cons : (ws : List ℕ) (i n : ℕ) → i < n → triples_from ws i (n - i) ≡ triple_at ws i ∷ triples_from ws (i + 1) (n - (i + 1))
unfolding triples_from
triples-cons ws i n h = let e : n - i ≡ suc (n - (i + 1)) = omega arith in rw e

pub triples_done : (ws : List ℕ) (i n : ℕ) → n ≤ i → triples_from ws i (n - i) ≡ []
unfolding triples_from
triples_done ws i n h = let e : n - i ≡ 0 = omega arith in rw e

-- what is left to write from triple i on
abbrev pub left : List ℕ → ℕ → ℕ → List ℕ
left ws i n = sheet_text (map tame (triples_from ws i (n - i)))

pub line-again : (ws l m : List ℕ) (i n : ℕ) → i < n → m ≡ sets l (line_length * i) (line_text (tame (triple_at ws i)))
    → sets m (line_length * (i + 1)) (left ws (i + 1) n) ≡ sets l (line_length * i) (left ws i n)
unfolding sheet_text
line-again ws l m i n h e =
    let t = line_text (tame (triple_at ws i)) in
    let k : line_length * (i + 1) ≡ line_length * i + length t = omega (arith, length-text (tame (triple_at ws i))) in
    rw (e, k, triples-cons ws i n h) (sym (sets-append l (line_length * i) t (left ws (i + 1) n)))

pub line-done : (ws l : List ℕ) (j i n : ℕ) → n ≤ i → sets l j (left ws i n) ≡ l
unfolding sheet_text
line-done ws l j i n h = rw (triples_done ws i n h)

pub line-start : (ws l : List ℕ) → sets l (line_length * 0) (left ws 0 (length ws / triple_words)) ≡ sets l 0 (sheet_text (map tame (triples_of ws)))
unfolding triples_of
line-start ws l = rw (sub-zero (length ws / triple_words))
