-- The sheet of triples that are taken reads as them, and no other does; triples that are not taken are those of no sheet. Assumes nothing.
use Rattle.grammar.specs.declared.SheetError.{SheetError}
use Rattle.grammar.specs.declared.SheetError.TheVariants.{Length, Unfit}
use Rattle.std.specs.Prelude.{Ok, Err, Option, Some, None, Result}
use mathlib.Core.Path.{◌≡◌, refl, sym, ap, ◌∙◌}
use mathlib.Core.Bool.{Bool, true, false, cond, ◌&&◌, and-eq-true_iff}
use mathlib.Core.List.{List, [], ◌∷◌, map}
use Prim.Native.Nat.{ℕ, zero, suc, ◌+◌, ◌*◌, ◌/◌, ◌%◌, ◌^◌, ◌≤◌, ◌<◌}
use native.Mathlib.Omega.{arith}
use native.Mathlib.Nat.{sub-zero}
use lib.ListN.{length, take, drop, length-take}
use lib.Dec.{ltb, leb, eqb}
use lib.Seq.{sets, sets-eq, length-sets, take_at, drop-drop, drop-length}
use borrow.Author.Tests.{lt-ltb, ltb-true, ltb-false, le-ltb, le-leb, leb-true, eq-eqb, eqb-true}
use Rattle.sizes.specs.Sizes.{line_length, triple_words, most_lines, sheet_bytes, plan_words}
use Rattle.spelling.specs.declared.Triple.{Triple}
use Rattle.spelling.specs.Spelling.{line_at, lines_from, lines_of, first_misspelt}
use Rattle.spelling.proofs.Laws.{length-lines}
use Rattle.spelling.proofs.Texts.{only, fair}
use Rattle.grammar.specs.Grammar.{entries, read, read_at}
use Rattle.grammar.specs.Check.{length_ok, end_of, read_sheet, fitting, check, refusal_line}
use Rattle.grammar.proofs.Laws.{all-spelt}
use Rattle.grammar.proofs.Lines.{line_small}
use Rattle.sheet.specs.Plan.{triple_of, triples}
use Rattle.sheet.proofs.Formed.{cond-plan, whole-read}
use Rattle.judgment.specs.declared.Answer.{Answer}
use Rattle.judgment.specs.Result.{refused_at}
use Rattle.writing.specs.Writing.{said, tame, triples_from, triples_of, read_triples, sheet_text, words_ok, Wrote, unwritten, by_verdict, write_call, Reads, Only, Written}
use Rattle.writing.proofs.Laws.{fair-sayable, length-sheet, length-map, length-tame, lines-count, lines-tame, reads-tame, taken-tame}

-- ---- the text of triples is well spelt, so the reader's verdict is its check
first-spelt : (ts : List Triple) → first_misspelt (map Some ts) ≡ length ts
unfolding first_misspelt
first-spelt [] = refl
first-spelt (t ∷ ts) = ap suc (first-spelt ts)

module _ (ts : List Triple) where
  abbrev text : List ℕ
  text = sheet_text (map tame ts)

  all_lines : lines_of text ≡ map Some (map tame ts)
  unfolding lines_of
  all_lines = rw (lines-count ts) (lines-tame ts)

  pub check-text : length_ok (line_length * length ts) ≡ true → check text ≡ fitting (read_triples ts)
  unfolding check
  check-text h =
      let n = lines-count ts in
      let m : first_misspelt (lines_of text) ≡ length ts = ap first_misspelt all_lines ∙ first-spelt (map tame ts) ∙ length-map tame ts in
      rw (length-tame ts, h, m, reads-tame ts) (rw (le-ltb (length ts) (line_length * length ts / line_length) (omega arith)))

  -- so a refused line has a small number
  pub place-small : (x : SheetError) → length_ok (line_length * length ts) ≡ true → read_triples ts ≡ Err x → refusal_line x ≤ most_lines + 1
  place-small x h e = let z : check text ≡ Err x = check-text h ∙ ap fitting e in rw z at (line_small text)

  pub same_length : line_length * length ts ≡ length text
  same_length = sym (length-tame ts)

-- ---- a plan's sheet is the text of its triples
spelt-all : (ls : List (Option Triple)) → first_misspelt ls ≡ length ls → ls ≡ map Some (map triple_of ls)
unfolding first_misspelt
spelt-all [] e = refl
spelt-all (Some t ∷ ls) e = ap (λ (x : List (Option Triple)). Some t ∷ x) (spelt-all ls (omega arith))
spelt-all (None ∷ ls) e = absurd (omega arith)

record Whole (s : List ℕ) : Type 0 where
  bytes : length s ≡ line_length * (length s / line_length)
  reads : read (lines_of s) (entries 1 0 ∷ []) 0 ≡ Ok (length s / line_length)
  lines : lines_of s ≡ map Some (triples s)

length_whole : (n : ℕ) → length_ok n ≡ true → n ≡ line_length * (n / line_length)
length_whole n e =
    let a = (and-eq-true_iff (ltb 0 n) (leb n sheet_bytes && eqb (n % line_length) 0)).0 e in
    let b = (and-eq-true_iff (leb n sheet_bytes) (eqb (n % line_length) 0)).0 a.1 in
    let z = eqb-true (n % line_length) 0 b.1 in
    omega arith

whole : (s : List ℕ) → check s ≡ Ok tt → Whole s
unfolding check read_at lines_of triples
whole s e =
    let n = length s / line_length in
    let a = cond-plan (length_ok (length s)) _ (Err Length) e (λ z. (let y : ◌≡◌ {A = ℕ} 0 1 = cc in omega arith)) in
    let r : read (lines_from s 0 n) (entries 1 0 ∷ []) 0 ≡ Ok n = rw (sub-zero n) at (whole-read s e) in
    let k = length-lines s 0 n in
    record { bytes = length_whole (length s) a.0; reads = r; lines = spelt-all (lines_from s 0 n) (all-spelt (lines_from s 0 n) (entries 1 0 ∷ []) 0 n r (omega arith)) }

module _ (s : List ℕ) where
  text-from : (n i : ℕ) (ts : List Triple) → lines_from s i n ≡ map Some ts → length s ≡ line_length * (i + n) → drop (line_length * i) s ≡ sheet_text ts
  unfolding lines_from sheet_text
  text-from zero i [] e h = ap (λ (k : ℕ). drop k s) (let z : line_length * i ≡ length s = omega arith in z) ∙ drop-length s
  text-from zero i (t ∷ ts) e h = absurd (let z : ◌≡◌ {A = ℕ} 0 1 = cc in omega arith)
  text-from (suc n) i [] e h = absurd (let z : ◌≡◌ {A = ℕ} 0 1 = cc in omega arith)
  text-from (suc n) i (t ∷ ts) e h =
      let z : line_at s i ≡ Some t = cc in
      let y : lines_from s (i + 1) n ≡ map Some ts = cc in
      let k : line_length * i + line_length ≡ line_length * (i + 1) = omega arith in
      sym (lib.ListN.take-append-drop line_length (drop (line_length * i) s))
      ∙ rw (only s i t z, drop-drop line_length (line_length * i) s, k, text-from n (i + 1) ts y (omega arith))

  said-from : (n i : ℕ) (ts : List Triple) → lines_from s i n ≡ map Some ts → map said ts ≡ map Some ts
  unfolding lines_from
  said-from zero i [] e = refl
  said-from zero i (t ∷ ts) e = absurd (let z : ◌≡◌ {A = ℕ} 0 1 = cc in omega arith)
  said-from (suc n) i [] e = absurd (let z : ◌≡◌ {A = ℕ} 0 1 = cc in omega arith)
  said-from (suc n) i (t ∷ ts) e =
      let z : line_at s i ≡ Some t = cc in
      let y : lines_from s (i + 1) n ≡ map Some ts = cc in
      rw (fair-sayable t (fair s i t z), said-from n (i + 1) ts y)

-- ONLY: a sheet that is taken is the text of what is read of it
pub only-text : (s : List ℕ) → check s ≡ Ok tt → s ≡ sheet_text (triples s)
unfolding lines_of
only-text s e =
    let w = whole s e in
    let b = w.bytes in
    text-from s (length s / line_length) 0 (triples s) w.lines (omega arith)

-- and its triples are taken
pub plan-taken : (s : List ℕ) → check s ≡ Ok tt → read_triples (triples s) ≡ Ok (length s / line_length)
unfolding lines_of read_triples triples
plan-taken s e =
    let n = length s / line_length in
    let w = whole s e in
    let h : length (triples s) ≡ n = length-map triple_of (lines_of s) ∙ length-lines s 0 n in
    let l : map said (triples s) ≡ lines_of s = said-from s n 0 (triples s) w.lines ∙ sym w.lines in
    ap (λ (ls : List (Option Triple)). end_of (length (triples s)) (read ls (entries 1 0 ∷ []) 0)) l ∙ rw (w.reads, h, eq-eqb n n refl)

-- BACK: the text of triples that are taken is a sheet that reads as them
module _ (ts : List Triple) (k : ℕ) (h : length_ok (line_length * length ts) ≡ true) (e : read_triples ts ≡ Ok k) where
  taken-plan : check (sheet_text ts) ≡ Ok tt
  taken-plan = ap (λ (x : List Triple). check (sheet_text x)) (sym (taken-tame ts k e)) ∙ check-text ts h ∙ ap fitting e

  triples-spelt : (us : List Triple) → map triple_of (map Some us) ≡ us
  triples-spelt [] = refl
  triples-spelt (u ∷ us) = ap (λ (x : List Triple). u ∷ x) (triples-spelt us)

  taken_back : triples (sheet_text ts) ≡ ts
  unfolding triples
  taken_back =
      let t = taken-tame ts k e in
      ap (λ (x : List Triple). map triple_of (lines_of (sheet_text x))) (sym t) ∙ ap (map triple_of) (all_lines ts) ∙ triples-spelt (map tame ts) ∙ t

  pub taken-only : Only ts (sheet_text ts)
  taken-only = record {
    reads = record { plan = taken-plan; back = taken_back };
    only = λ r p. only-text r p.plan ∙ ap sheet_text p.back;
  }

-- NONE: no sheet that is taken reads as triples that are not
pub unfit-none : (ts : List Triple) (x : SheetError) → read_triples ts ≡ Err x → (s : List ℕ) → Reads ts s → ⊥
unfit-none ts x e s p =
    let z = sym (plan-taken s p.plan) ∙ ap read_triples p.back ∙ e in
    let y : ◌≡◌ {A = ℕ} 0 1 = cc in
    omega arith

-- ---- the call
words_lines : (n m : ℕ) → words_ok n ≡ true → m ≡ n / triple_words → length_ok (line_length * m) ≡ true
words_lines n m e q =
    let a = (and-eq-true_iff (ltb 0 n) (leb n plan_words && eqb (n % triple_words) 0)).0 e in
    let b = (and-eq-true_iff (leb n plan_words) (eqb (n % triple_words) 0)).0 a.1 in
    let x = ltb-true 0 n a.0 in
    let y = leb-true n plan_words b.0 in
    let z = eqb-true (n % triple_words) 0 b.1 in
    rw (lt-ltb 0 (line_length * m) (omega arith), le-leb (line_length * m) sheet_bytes (omega arith), eq-eqb (line_length * m % line_length) 0 (omega arith))

pub length-triples : (ws : List ℕ) (i n : ℕ) → length (triples_from ws i n) ≡ n
unfolding triples_from
length-triples ws i zero = refl
length-triples ws i (suc n) = ap suc (length-triples ws (i + 1) n)

pub lines_ok : (ws : List ℕ) → words_ok (length ws) ≡ true → length_ok (line_length * length (triples_of ws)) ≡ true
unfolding triples_of
lines_ok ws e = words_lines (length ws) _ e (length-triples ws 0 (length ws / triple_words))

-- the sheet stands at the front
front : (out text : List ℕ) (n : ℕ) → length text ≡ n → n ≤ length out → take n (sets out 0 text) ≡ text
front out text n e h = rw (sets-eq text out 0 (omega arith)) (take_at text _ n e)

pub written-by : (ws before : List ℕ) (answer : Answer) (after : List ℕ) → record { answer = answer; out = after } ≡ write_call ws before → Written ws before answer after
unfolding write_call
written-by ws before answer after e =
    record { call = e; taken = λ q. taken (words_ok (length ws)) refl (read_triples ts) refl e q; unfit = λ q s p. unfit (words_ok (length ws)) (read_triples ts) refl e q s p }
  where
    ts : List Triple
    ts = triples_of ws

    w : Wrote
    w = record { answer = answer; out = after }

    zero_number : {m : ℕ} {x : Wrote} → w ≡ x → x.answer.number ≡ suc m → answer.number ≡ 0 → ⊥
    zero_number p y q = let z = ap (λ (v : Wrote). v.answer.number) p in omega arith

    laid : length_ok (line_length * length ts) ≡ true → (k : ℕ) → read_triples ts ≡ Ok k → (b : Bool) → ltb (length before) (line_length * length ts) ≡ b
        → w ≡ cond b (unwritten 31 0 before) (record { answer = refused_at 0 0; out = sets before 0 (sheet_text ts) }) → answer.number ≡ 0
        → Only ts (take (line_length * length ts) after)
    laid h k r true b p q = absurd (zero_number p refl q)
    laid h k r false b p q =
        let z : after ≡ sets before 0 (sheet_text ts) = ap (λ (v : Wrote). v.out) p in
        let y : take (line_length * length ts) after ≡ sheet_text ts = ap (take (line_length * length ts)) z ∙ front before (sheet_text ts) _ (length-sheet ts) (ltb-false _ _ b) in
        rw y (taken-only ts k h r)

    taken : (b : Bool) → words_ok (length ws) ≡ b → (g : Result ℕ SheetError) → read_triples ts ≡ g → w ≡ cond b (by_verdict ts before g) (unwritten 3 0 before) → answer.number ≡ 0
        → Only ts (take (line_length * length ts) after)
    taken true o (Ok k) r p q = laid (lines_ok ws o) k r (ltb (length before) (line_length * length ts)) refl p q
    taken true o (Err x) r p q = absurd (zero_number p refl q)
    taken false o g r p q = absurd (zero_number p refl q)

    five-number : {x : Wrote} → w ≡ x → (x.answer.number ≡ 5 → ⊥) → answer.number ≡ 5 → ⊥
    five-number p y q = y (sym (ap (λ (v : Wrote). v.answer.number) p) ∙ q)

    short : (b : Bool) → w ≡ cond b (unwritten 31 0 before) (record { answer = refused_at 0 0; out = sets before 0 (sheet_text ts) }) → answer.number ≡ 5 → ⊥
    short true p q = five-number p (λ z. omega arith) q
    short false p q = five-number p (λ z. omega arith) q

    unfit : (b : Bool) (g : Result ℕ SheetError) → read_triples ts ≡ g → w ≡ cond b (by_verdict ts before g) (unwritten 3 0 before) → answer.number ≡ 5
        → (s : List ℕ) → Reads ts s → ⊥
    unfit true (Ok k) r p q s d = short (ltb (length before) (line_length * length ts)) p q
    unfit true (Err x) r p q s d = unfit-none ts x r s d
    unfit false g r p q s d = five-number p (λ z. omega arith) q

-- ---- what the code finds, and what it then answers
module _ (ws : List ℕ) (w : words_ok (length ws) ≡ true) where
  bytes-are : line_length * (length ws / triple_words) ≡ line_length * length (triples_of ws)
  unfolding triples_of
  bytes-are = ap (λ (n : ℕ). line_length * n) (sym (length-triples ws 0 (length ws / triple_words)))

  pub bytes_fit : line_length * (length ws / triple_words) ≤ sheet_bytes
  bytes_fit =
      let n = length ws in
      let a = (and-eq-true_iff (ltb 0 n) (leb n plan_words && eqb (n % triple_words) 0)).0 w in
      let b = (and-eq-true_iff (leb n plan_words) (eqb (n % triple_words) 0)).0 a.1 in
      let y = leb-true n plan_words b.0 in
      omega arith

  pub fits-room : (room : List ℕ) → length room ≡ sheet_bytes → line_length * (length ws / triple_words) ≤ length room
  fits-room room h = let f = bytes_fit in omega arith

  pub fits-text : (room text : List ℕ) → length room ≡ sheet_bytes → text ≡ sets room 0 (sheet_text (map tame (triples_of ws))) → line_length * (length ws / triple_words) ≤ length text
  fits-text room text h e = rw (e, length-sets room 0 (sheet_text (map tame (triples_of ws)))) (fits-room room h)

  -- the front of the room, where the lines were written
  pub front-text : (room text : List ℕ) → length room ≡ sheet_bytes → text ≡ sets room 0 (sheet_text (map tame (triples_of ws)))
      → take (line_length * (length ws / triple_words)) text ≡ sheet_text (map tame (triples_of ws))
  front-text room text h e =
      let f = bytes_fit in
      rw e (front room (sheet_text (map tame (triples_of ws))) _ (length-tame (triples_of ws) ∙ sym bytes-are) (omega arith))

  pub front_reads : (room text : List ℕ) → length room ≡ sheet_bytes → text ≡ sets room 0 (sheet_text (map tame (triples_of ws)))
      → read_sheet (take (line_length * (length ws / triple_words)) text) ≡ read_triples (triples_of ws)
  front_reads room text h e = ap read_sheet (front-text room text h e) ∙ reads-tame (triples_of ws)

  pub place-fits : (x : SheetError) → read_triples (triples_of ws) ≡ Err x → refusal_line x < 2 ^ 32
  place-fits x e = let z = place-small (triples_of ws) x (lines_ok ws w) e in omega arith

  module _ (out : List ℕ) (a : Answer) where
    pub gives-5 : (x : SheetError) → read_triples (triples_of ws) ≡ Err x → a ≡ refused_at 5 (refusal_line x) → Written ws out a out
    unfolding write_call
    gives-5 x r e = written-by ws out a out (rw (e, w, r))

    pub gives-31 : (k : ℕ) → read_triples (triples_of ws) ≡ Ok k → length out < line_length * (length ws / triple_words) → a ≡ refused_at 31 0 → Written ws out a out
    unfolding write_call
    gives-31 k r h e = written-by ws out a out (rw (e, w, r, lt-ltb (length out) (line_length * length (triples_of ws)) (rw bytes-are at h)))

    pub gives-0 : (k : ℕ) (room text after : List ℕ) → length room ≡ sheet_bytes → text ≡ sets room 0 (sheet_text (map tame (triples_of ws)))
        → read_triples (triples_of ws) ≡ Ok k → line_length * (length ws / triple_words) ≤ length out
        → after ≡ sets out 0 (take (line_length * (length ws / triple_words)) text) → a ≡ refused_at 0 0 → Written ws out a after
    unfolding write_call
    gives-0 k room text after h t r f x e =
        let y : after ≡ sets out 0 (sheet_text (triples_of ws)) =
        x ∙ ap (sets out 0) (front-text room text h t ∙ ap sheet_text (taken-tame (triples_of ws) k r)) in
        written-by ws out a after (rw (e, y, w, r, le-ltb (length out) (line_length * length (triples_of ws)) (rw bytes-are at f)))

pub front_fits : (n : ℕ) (l out : List ℕ) → n ≤ length out → length (take n l) ≤ length out
front_fits n l out h = omega (arith, length-take n l)

pub gives-3 : (ws out : List ℕ) (a : Answer) → words_ok (length ws) ≡ false → a ≡ refused_at 3 0 → Written ws out a out
unfolding write_call
gives-3 ws out a w e = written-by ws out a out (rw (e, w))
