-- How long an explanation gets, and that a large enough buffer holds it whole. Assumes nothing.
use Rattle.std.proofs.Common.{◌≡◌, sym, ap, ◌∙◌, List, ◌++◌, ℕ, ◌+◌, ◌*◌, ◌/◌, ◌≤◌, arith, eqb, length, take, length-append}
use Prim.Native.String.{String}
use Rattle.std.proofs.Math.Seq.{length-sets}
use Rattle.judgment.specs.declared.Answer.{Answer}
use Rattle.wording.specs.Texts.{bytes, number_text, least, Wrote}
use Rattle.wording.proofs.Laws.{front-back}
use Rattle.wording.proofs.Fits.{cond-within, number-within, name-within, reported-within}
use Rattle.sentences.specs.Explained.{named, numbered, counted, mismatch, ended, not_function, subtyping, instantiation, of_limit, of_plan, explained}

-- the forms of sentences, by the lengths of their texts
named-within : (before after : String) (x n : ℕ) → length (bytes before) + 11 + length (bytes after) ≤ n → length (named before x after) ≤ n
named-within before after x n h = simp length-append (omega (arith, name-within x))

numbered_within : (before after : String) (k n : ℕ) → length (bytes before) + 10 + length (bytes after) ≤ n → length (numbered before k after) ≤ n
numbered_within before after k n h = simp length-append (omega (arith, number-within k))

counted-within : (k : ℕ) (one many : String) (n : ℕ) → length (bytes one) ≤ n → length (bytes many) ≤ n → length (counted k one many) ≤ 10 + n
counted-within k one many n h h' =
    simp length-append (let c = cond-within (eqb k 1) (bytes one) (bytes many) n h h' in omega (arith, number-within k))

mismatch-within : (before one many : String) (k m n : ℕ) → length (bytes before) ≤ 100 → length (bytes one) ≤ 100 → length (bytes many) ≤ 100 → 300 ≤ n
    → length (mismatch before one many k m) ≤ n
mismatch-within before one many k m n h i j l =
    let c = counted-within k one many 100 i j in
    let d = number-within m in
    let e = length-append (bytes before) (counted k one many ++ (number_text m ++ bytes ".\n")) in
    let f = length-append (counted k one many) (number_text m ++ bytes ".\n") in
    let g = length-append (number_text m) (bytes ".\n") in
    omega arith

ended-within : (before : String) (taken fresh n : ℕ) → length (bytes before) ≤ 200 → 300 ≤ n → length (ended before taken fresh) ≤ n
ended-within before taken fresh n h l =
    let one = counted taken " entry was taken and " " entries were taken and " in
    let two = counted fresh " fresh number was given.\n" " fresh numbers were given.\n" in
    let a = counted-within taken " entry was taken and " " entries were taken and " 30 (omega arith) (omega arith) in
    let b = counted-within fresh " fresh number was given.\n" " fresh numbers were given.\n" 30 (omega arith) (omega arith) in
    let e = length-append (bytes before) (one ++ two) in
    let f = length-append one two in
    omega arith

module _ (ws : List ℕ) where
  most : ℕ
  most = 300 + 23 * (length ws / 2)

  not-function-within : (n : ℕ) → length (not_function ws n) ≤ most
  unfolding most
  not-function-within n = simp length-append (omega (arith, reported-within ws 0 n))

  instantiation-within : (k n : ℕ) → length (instantiation ws k n) ≤ most
  unfolding most
  instantiation-within k n = simp length-append (omega (arith, reported-within ws 0 n, number-within k))

  subtyping-within : (l r : ℕ) → length (subtyping ws l r) ≤ most
  unfolding most
  subtyping-within l r = simp length-append (omega (arith, reported-within ws 0 l, reported-within ws l r))

  limit-within : (a : Answer) → length (of_limit a) ≤ most
  unfolding most of_limit
  limit-within a =
      cond-within (eqb a.number 21) _ _ most (ended-within "The plan is not decided: the ceiling was reached, and an entry remains. " a.taken a.fresh most (omega arith) (omega arith))
      (cond-within (eqb a.number 22) _ _ most (ended-within "The plan is not decided: the board would pass 512 entries or 4,096 type nodes. " a.taken a.fresh most (omega arith) (omega arith))
      (cond-within (eqb a.number 23) _ _ most (ended-within "The plan is not decided: a type written out would have more nodes than the limit. " a.taken a.fresh most (omega arith) (omega arith))
      (cond-within (eqb a.number 24) _ _ most (ended-within "The plan is not decided: a 1,001st fresh number would be needed. " a.taken a.fresh most (omega arith) (omega arith))
      (cond-within (eqb a.number 25) _ _ most (ended-within "The plan is not decided: the solutions would pass 4,096 nodes. " a.taken a.fresh most (omega arith) (omega arith))
      (cond-within (eqb a.number 39) _ _ most (ended-within "The plan is refused by the strict call: a solution has a fresh universal that is out of its unknown's scope. " a.taken a.fresh most (omega arith) (omega arith))
      (cond-within (eqb a.number 32) _ _ most (omega arith) (numbered_within "The result " " has no meaning here.\n" a.number most (omega arith))))))))

  plan-within : (a : Answer) → length (of_plan a ws) ≤ most
  unfolding most of_plan
  plan-within a =
      cond-within (eqb a.number 11) _ _ most (named-within "The plan is refused: the variable " " is bound nowhere.\n" a.detail1 most (omega arith))
      (cond-within (eqb a.number 12) _ _ most (named-within "The plan is refused: the data constructor " " is not declared.\n" a.detail1 most (omega arith))
      (cond-within (eqb a.number 13) _ _ most (not-function-within a.detail1)
      (cond-within (eqb a.number 14) _ _ most (mismatch-within "The plan is refused: a pattern should have " " part and has " " parts and has " a.detail1 a.detail2 most (omega arith) (omega arith) (omega arith) (omega arith))
      (cond-within (eqb a.number 15) _ _ most (subtyping-within a.detail1 a.detail2)
      (cond-within (eqb a.number 16) _ _ most (omega arith)
      (cond-within (eqb a.number 17) _ _ most (instantiation-within a.detail1 a.detail2)
      (cond-within (eqb a.number 18) _ _ most (mismatch-within "The plan is refused: printInt takes " " argument and has " " arguments and has " a.detail1 a.detail2 most (omega arith) (omega arith) (omega arith) (omega arith))
      (cond-within (eqb a.number 19) _ _ most (named-within "The plan is refused: the intrinsic " " is not known.\n" a.detail1 most (omega arith))
      (limit-within a)))))))))

  explained-within : (a : Answer) → length (explained a ws) ≤ most
  unfolding most explained
  explained-within a =
      cond-within (eqb a.number 0) _ _ most (ended-within "The plan is accepted: all its parts fit. " a.taken a.fresh most (omega arith) (omega arith))
      (cond-within (eqb a.number 1) _ _ most (omega arith)
      (cond-within (eqb a.number 2) _ _ most (omega arith)
      (cond-within (eqb a.number 3) _ _ most (omega arith)
      (cond-within (eqb a.number 4) _ _ most (numbered_within "The sheet is refused at line " ": a field is blank, misspelt or too large, or has a minus sign that is not allowed, or the line feed is missing.\n" a.line most (omega arith))
      (cond-within (eqb a.number 5) _ _ most (numbered_within "The sheet is refused at line " ": the plan can't go on with this line, or the line is lacking.\n" a.line most (omega arith))
      (plan-within a))))))

-- a buffer of so many bytes holds the whole text: 47,404 for a report of 4,096 words
pub held : (a : Answer) (ws l m : List ℕ) (r : ℕ) → 300 + 23 * (length ws / 2) ≤ length l → Wrote l 0 (explained a ws) m r
    → (r ≡ length (explained a ws)) × (take r m ≡ explained a ws) × (r ≤ length m)
unfolding most
held a ws l m r h w =
    let k = explained-within ws a in
    let n : r ≡ least (length l) (0 + length (explained a ws)) = w.next in
    let e : length (explained a ws) ≡ r = omega arith in
    let s : length m ≡ length l = ap length w.text ∙ length-sets l 0 (explained a ws) in
    (sym e, ap (take r) w.text ∙ front-back l (explained a ws) r e (omega arith), omega arith)
