-- What a sheet and a lack mean: the first bytes are the one sheet that reads as the triples; no sheet does. Assumes
-- nothing.
use Rattle.std.proofs.Common.{◌≡◌, refl, sym, ap, ◌∙◌, subst, Bool, true, false, cond, List, ℕ, ◌*◌, ◌-◌, ◌%◌, ◌≤◌, ◌<◌, eqb, length, get_or, take, Option, Some, None, Result, Ok, Err, arith, lt-ltb, le-ltb, le-leb, eq-eqb, eqb-true}
use Rattle.std.proofs.lemmas.Bool.{eqb-false}
use Rattle.std.proofs.lemmas.List.{length-take-le}
use Rattle.sizes.specs.Sizes.{line_length, sheet_bytes, triple_words, plan_words}
use Rattle.spelling.specs.declared.Triple.{Triple}
use Rattle.kinds.specs.Kinds.{nothing, same_sort, row_of, fields_ok}
use Rattle.grammar.specs.declared.SheetError.{SheetError}
use Rattle.judgment.specs.declared.Answer.{Answer}
use Rattle.listing.specs.declared.Fault.{Fault}
use Rattle.listing.specs.declared.Scan.{Scan}
use Rattle.listing.specs.Listing.{State, Roomy}
use Rattle.writing.specs.Writing.{triple_at, triples_of, read_triples, Wrote, by_verdict, words_ok, write_call, Reads, Only}
use Rattle.writing.proofs.Sheets.{length-triples}
use Rattle.drafting.specs.declared.Wrong.TheVariants.{NoKind, Negative, OutOfRange, Misplaced, Lacking}
use Rattle.drafting.specs.declared.Refusal.{Refusal}
use Rattle.drafting.specs.declared.Refusal.TheVariants.{NoTriple, At}
use Rattle.drafting.specs.Drafting.{below, diagnosis, tells_triple, whole, stopped, outcome, Draft, Drafted, unread, drafted}

-- no triple that is told is a lack
told-no-lack : (t : Triple) → diagnosis t ≡ Lacking → ⊥
told-no-lack t = go (same_sort (row_of t.kind).sort nothing) (below t) (fields_ok (row_of t.kind) t)
  where
    go : (x y z : Bool) → cond x NoKind (cond y Negative (cond z Misplaced OutOfRange)) ≡ Lacking → ⊥
    go true y z e = cc
    go false true z e = cc
    go false false true e = cc
    go false false false e = cc

-- ---- a sheet and a lack are said of the whole input
module _ {w : Result ℕ Refusal} (line : ℕ) where
  sheet-stopped : {m : ℕ} (f : Option Fault) → stopped f line w ≡ Ok m → w ≡ Ok m
  sheet-stopped None e = e
  sheet-stopped (Some f) e = cc

  lack-stopped : {k : ℕ} (f : Option Fault) → stopped f line w ≡ Err (At k Lacking) → w ≡ Err (At k Lacking)
  lack-stopped None e = e
  lack-stopped (Some f) e = cc

module _ (s : State) (a : Answer) where
  abbrev of_whole : Result ℕ Refusal
  of_whole = whole s.scan.triples s.lines a

  abbrev by_told : Bool → Result ℕ Refusal
  by_told b = cond b (Err (At (get_or s.lines (a.line - 1) 0) (diagnosis (triple_at s.words (a.line - 1))))) (stopped s.scan.fault s.scan.line of_whole)

  sheet-whole : {m : ℕ} → outcome s a ≡ Ok m → of_whole ≡ Ok m
  unfolding outcome
  sheet-whole {m} = go (tells_triple a s.scan.triples)
    where
      go : (b : Bool) → by_told b ≡ Ok m → of_whole ≡ Ok m
      go true e = cc
      go false e = sheet-stopped s.scan.line s.scan.fault e

  lack-whole : {k : ℕ} → outcome s a ≡ Err (At k Lacking) → of_whole ≡ Err (At k Lacking)
  unfolding outcome
  lack-whole {k} = go (tells_triple a s.scan.triples)
    where
      go : (b : Bool) → by_told b ≡ Err (At k Lacking) → of_whole ≡ Err (At k Lacking)
      go true e = absurd (told-no-lack (triple_at s.words (a.line - 1)) (cc))
      go false e = lack-stopped s.scan.line s.scan.fault e

module _ (n : ℕ) (l : List ℕ) (a : Answer) where
  abbrev by_tests : Bool → Bool → Result ℕ Refusal
  by_tests x y = cond x (Err NoTriple) (cond y (Ok (line_length * n)) (Err (At (get_or l (n - 1) 0) Lacking)))

  whole-sheet : {m : ℕ} → whole n l a ≡ Ok m → (a.number ≡ 0) × (m ≡ line_length * n)
  whole-sheet {m} = go (eqb n 0) (eqb a.number 0) refl
    where
      go : (x y : Bool) → eqb a.number 0 ≡ y → by_tests x y ≡ Ok m → (a.number ≡ 0) × (m ≡ line_length * n)
      go true y q e = cc
      go false true q e = (eqb-true a.number 0 q, cc)
      go false false q e = cc

  whole-lack : {k : ℕ} → whole n l a ≡ Err (At k Lacking) → (n ≡ 0 → ⊥) × (a.number ≡ 0 → ⊥)
  whole-lack {k} = go (eqb n 0) (eqb a.number 0) refl refl
    where
      go : (x y : Bool) → eqb n 0 ≡ x → eqb a.number 0 ≡ y → by_tests x y ≡ Err (At k Lacking) → (n ≡ 0 → ⊥) × (a.number ≡ 0 → ⊥)
      go true y p q e = cc
      go false true p q e = cc
      go false false p q e = (eqb-false n 0 p, eqb-false a.number 0 q)

-- ---- a sheet's bytes are no more than a sheet's
pub sheet-fits : {s t : State} {b b' : List ℕ} {m : ℕ} → Drafted s b t b' (Ok m) → m ≤ sheet_bytes
sheet-fits (unread e) = cc
sheet-fits {t = t} (drafted d) =
    let p = whole-sheet t.scan.triples t.lines d.answer (sheet-whole t d.answer (sym d.told)) in
    let h = d.roomy in
    omega (arith, p.1)

-- ---- the writer's answer where it is lent room for every sheet
module _ (ws out after : List ℕ) (a : Answer) (call : record { answer = a; out = after } ≡ write_call ws out) (fit : words_ok (length ws) ≡ true) (room : line_length * length (triples_of ws) ≤ length out) where
  refused-5 : (a.number ≡ 0 → ⊥) → a.number ≡ 5
  unfolding write_call
  refused-5 h = go (read_triples (triples_of ws)) (call ∙ rw fit)
    where
      go : (g : Result ℕ SheetError) → ◌≡◌ {A = Wrote} (record { answer = a; out = after }) (by_verdict (triples_of ws) out g) → a.number ≡ 5
      go (Ok k) e = absurd (h (ap (λ (r : Wrote). r.answer.number) (rw (le-ltb (length out) (line_length * length (triples_of ws)) room) at e)))
      go (Err x) e = ap (λ (r : Wrote). r.answer.number) e

-- ---- the triples of a scan
module _ (w : List ℕ) (x : Scan) (roomy : Roomy x) (all : length w ≡ plan_words) where
  front : length (take (triple_words * x.triples) w) ≡ triple_words * x.triples
  front = length-take-le _ _ (omega arith)

  pub front-triples : length (triples_of (take (triple_words * x.triples) w)) ≡ x.triples
  unfolding triples_of
  front-triples = length-triples _ 0 _ ∙ rw front (omega arith)

  front-ok : (x.triples ≡ 0 → ⊥) → words_ok (length (take (triple_words * x.triples) w)) ≡ true
  front-ok h =
      let p : 0 < triple_words * x.triples = omega arith in
      let q : triple_words * x.triples ≤ plan_words = omega arith in
      let r : triple_words * x.triples % triple_words ≡ 0 = omega arith in
      rw (front, lt-ltb 0 (triple_words * x.triples) p, le-leb (triple_words * x.triples) plan_words q, eq-eqb (triple_words * x.triples % triple_words) 0 r)

-- ---- what is said, where the words are those of 2,000 triples
module _ {s t : State} {sheet sheet' : List ℕ} {r : Result ℕ Refusal} (d : Draft s sheet t sheet' r) (all : length t.words ≡ plan_words) where
  abbrev ts : List Triple
  ts = triples_of (take (triple_words * t.scan.triples) t.words)

  pub sheet-said : {m : ℕ} → r ≡ Ok m → Only ts (take m sheet')
  sheet-said {m} e =
      let p = whole-sheet t.scan.triples t.lines d.answer (sheet-whole t d.answer (sym d.told ∙ e)) in
      let q : line_length * length ts ≡ m = ap (λ (i : ℕ). line_length * i) (front-triples t.words t.scan d.roomy all) ∙ sym p.1 in
      subst (λ (i : ℕ). Only ts (take i sheet')) q (d.written.taken p.0)

  pub lack-said : {k : ℕ} → r ≡ Err (At k Lacking) → sheet_bytes ≤ length sheet → (bytes : List ℕ) → Reads ts bytes → ⊥
  lack-said e long =
      let p = whole-lack t.scan.triples t.lines d.answer (lack-whole t d.answer (sym d.told ∙ e)) in
      let n = front-triples t.words t.scan d.roomy all in
      let h : line_length * length ts ≤ length sheet = rw n (let g = d.roomy in omega arith) in
      d.written.unfit (refused-5 _ sheet sheet' d.answer d.written.call (front-ok t.words t.scan d.roomy all p.0) h p.1)
