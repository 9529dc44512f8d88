-- A plan held as triples, written as a sheet (W1). Assumes nothing: these are definitions.
use Rattle.grammar.specs.declared.SheetError.TheVariants.{Unfit}
use Rattle.grammar.specs.declared.SheetError.{SheetError}
use Rattle.std.specs.Prelude.{◌≡◌, Bool, false, cond, ◌&&◌, List, [], ◌∷◌, ◌++◌, map, ℕ, zero, suc, ◌+◌, ◌*◌, ◌-◌, ◌/◌, ◌%◌, ◌^◌, ltb, leb, eqb, length, get_or, take, Ok, Option, Some, None, Result, Err}
use Rattle.std.proofs.lemmas.List.Edits.{sets}
use Rattle.sizes.specs.Sizes.{line_length, triple_words, plan_words}
use Rattle.spelling.specs.declared.Triple.{Triple}
use Rattle.spelling.specs.Text.{line_text}
use Rattle.grammar.specs.Grammar.{entries, read}
use Rattle.grammar.specs.Check.{end_of, check, refusal_line}
use Rattle.sheet.specs.Plan.{triples}
use Rattle.judgment.specs.declared.Answer.{Answer}
use Rattle.judgment.specs.Result.{refused_at}

-- ---- triples as words of 64 bits
-- a value is in two's complement
abbrev pub triple_of : ℕ → ℕ → ℕ → Triple
triple_of k v c =
    let n = leb (2 ^ 63) v in
    record { kind = k; negative = n; value = cond n (2 ^ 64 - v) v; count = c }

-- kind, value and count of the triple at i, counted from 0
abbrev pub triple_at : List ℕ → ℕ → Triple
triple_at ws i = triple_of (get_or ws (triple_words * i) 0) (get_or ws (triple_words * i + 1) 0) (get_or ws (triple_words * i + 2) 0)

-- the n triples from i on, and all of them
unfoldable pub triples_from : List ℕ → ℕ → ℕ → List Triple
triples_from ws i zero = []
triples_from ws i (suc n) = triple_at ws i ∷ triples_from ws (i + 1) n

unfoldable pub triples_of : List ℕ → List Triple
triples_of ws = triples_from ws 0 (length ws / triple_words)

-- the words of triples
abbrev pub value_word : Triple → ℕ
value_word t = cond t.negative (2 ^ 64 - t.value) t.value

unfoldable pub words_of : List Triple → List ℕ
words_of [] = []
words_of (t ∷ ts) = t.kind ∷ value_word t ∷ t.count ∷ words_of ts

-- ---- what their lines say
-- a line can say it: each field fits its columns, the value is in signed 64 bits, and negative for kind 22 alone
abbrev pub sayable : Triple → Bool
sayable t =
    ltb t.kind 1000
    && (ltb t.count 100000
    && cond t.negative (eqb t.kind 22 && (ltb 0 t.value && leb t.value (2 ^ 63))) (ltb t.value (2 ^ 63)))

-- what the line of a triple says; no line says what is not sayable
abbrev pub said : Triple → Option Triple
said t = cond (sayable t) (Some t) None

-- in place of a triple that is not sayable: an entry without a name, which stands nowhere in a plan
abbrev pub nowhere : Triple
nowhere = record { kind = 1; negative = false; value = 0; count = 0 }

abbrev pub tame : Triple → Triple
tame t = cond (sayable t) t nowhere

-- the reader's verdict on these lines: the line of Unfit, counted from 1, is the first that can't continue a plan, or
-- the first that is lacking
unfoldable pub read_triples : List Triple → Result ℕ SheetError
read_triples ts = end_of (length ts) (read (map said ts) (entries 1 0 ∷ []) 0)

-- the sheet of triples
unfoldable pub sheet_text : List Triple → List ℕ
sheet_text [] = []
sheet_text (t ∷ ts) = line_text t ++ sheet_text ts

-- ---- the call
-- the seven numbers, and the bytes lent for the sheet as they are after it
pub record Wrote : Type 0 where
  pub answer : Answer
  pub out : List ℕ

abbrev pub unwritten : ℕ → ℕ → List ℕ → Wrote
unwritten number line out = record { answer = refused_at number line; out = out }

-- 31: the output is shorter than the sheet; else the sheet stands at its front, and the bytes past it are kept
abbrev pub laid_out : List Triple → List ℕ → Wrote
laid_out ts out =
    cond (ltb (length out) (line_length * length ts)) (unwritten 31 0 out) (record { answer = refused_at 0 0; out = sets out 0 (sheet_text ts) })

abbrev pub by_verdict : List Triple → List ℕ → Result ℕ SheetError → Wrote
by_verdict ts out (Ok k) = laid_out ts out
by_verdict ts out (Err e) = unwritten 5 (refusal_line e) out

-- 3: no word, more than those of 2,000 triples, or a part of a triple
abbrev pub words_ok : ℕ → Bool
words_ok n = ltb 0 n && (leb n plan_words && eqb (n % triple_words) 0)

-- 3, 5 and 31 are tried in this order
unfoldable pub write_call : List ℕ → List ℕ → Wrote
write_call ws out = cond (words_ok (length ws)) (by_verdict (triples_of ws) out (read_triples (triples_of ws))) (unwritten 3 0 out)

-- ---- what the sheet is
-- s is a plan's sheet that reads as ts
pub record Reads (ts : List Triple) (s : List ℕ) : Type 0 where
  pub plan : check s ≡ Ok tt
  pub back : triples s ≡ ts

-- s is the one sheet that reads as ts
pub record Only (ts : List Triple) (s : List ℕ) : Type 0 where
  pub reads : Reads ts s
  pub only : (r : List ℕ) → Reads ts r → r ≡ s

-- The call, and what its numbers mean: 0, the one sheet that reads as the triples stands at the front; 5, no sheet reads as them.
pub record Written (ws before : List ℕ) (answer : Answer) (after : List ℕ) : Type 0 where
  pub call : record { answer = answer; out = after } ≡ write_call ws before
  pub taken : answer.number ≡ 0 → Only (triples_of ws) (take (line_length * length (triples_of ws)) after)
  pub unfit : answer.number ≡ 5 → (s : List ℕ) → Reads (triples_of ws) s → ⊥
