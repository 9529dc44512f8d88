-- A term by its first line: its head is that line, and its parts are the terms that start where the parts of that line
-- do. Assumes nothing.
use Rattle.std.proofs.Common.{◌≡◌, refl, sym, ap, ap₂, ◌∙◌, List, ◌∷◌, ℕ, zero, suc, ◌+◌, ◌-◌, ◌<◌, add-zero, not-suc-le-zero, add-one, arith, length, get_or, take, drop, drop-cons}
use Rattle.nodes.specs.Parts.{take_parts}
use Rattle.nodes.proofs.PartLaws.{take-take, drop-take, is-take}
use Rattle.spelling.specs.declared.Triple.{Triple}
use Rattle.kinds.specs.Kinds.{parts_of}
use Rattle.sheet.specs.Plan.{no_triple, part_line}
use Rattle.sheet.proofs.Lines.{line-none, line-hop, drop-line}
use Rattle.judgment.specs.Terms.{Term, part, after_parts}
use Rattle.board.specs.Board.{from_line, term_at}

-- the line of number p
abbrev pub line_of : List Triple → ℕ → Triple
line_of ls p = get_or ls p no_triple

-- ---- the first m parts of several
abbrev pub firsts : ℕ → Term → Term
firsts m e = record { line = e.line; lines = take_parts parts_of e.lines m }

abbrev placed : ℕ → List Triple → Term
placed q xs = record { line = q; lines = xs }

pub first_of : (e : Term) (n : ℕ) → part 0 (firsts (1 + n) e) ≡ part 0 e
first_of e n = ap (placed e.line) (take-take parts_of e.lines 1 n)

pub after-firsts : (e : Term) (n m : ℕ) → after_parts n (firsts (n + m) e) ≡ firsts m (after_parts n e)
after-firsts e n m =
    ap₂ (λ (xs ys : List Triple). placed (e.line + length xs) ys) (take-take parts_of e.lines n m) (drop-take parts_of e.lines n m)

-- ---- parts of a sheet
-- what stands after n parts that start at line q
pub after-from : (ls : List Triple) (q n : ℕ) → after_parts n (from_line ls q) ≡ from_line ls (part_line ls q n)
unfolding part_line
after-from ls q n = ap (placed (part_line ls q n)) (sym (drop-line ls q n))

-- the parts of the line of number p
abbrev pub body_at : List Triple → ℕ → Term
body_at ls p = firsts (parts_of (line_of ls p)) (from_line ls (p + 1))

pub term-head : (ls : List Triple) (p : ℕ) → p < length ls → term_at ls p ≡ placed p (line_of ls p ∷ (body_at ls p).lines)
unfolding term_at
term-head ls p h =
    ap (λ (xs : List Triple). placed p (take_parts parts_of xs 1)) (drop-cons ls p no_triple h)
    ∙ ap₂ (λ (q n : ℕ). placed p (line_of ls p ∷ take_parts parts_of (drop q ls) n)) (sym (add-one p)) (add-zero (parts_of (line_of ls p)))

part-is : (i : ℕ) (ls : List Triple) (q m : ℕ) → i < m → part i (firsts m (from_line ls q)) ≡ term_at ls (part_line ls q i)
unfolding term_at
part-is i ls q zero h = absurd (not-suc-le-zero h)
part-is zero ls q (suc m) h =
    let e : suc m ≡ 1 + m = omega arith in
    ap (λ (n : ℕ). part 0 (firsts n (from_line ls q))) e ∙ first_of (from_line ls q) m ∙ ap (term_at ls) (line-none ls q 0 refl)
part-is (suc i) ls q (suc m) h =
    let e : suc m ≡ 1 + m = omega arith in
    let f : i ≡ suc i - 1 = omega arith in
    ap (λ (n : ℕ). part i (after_parts 1 (firsts n (from_line ls q)))) e
    ∙ ap (part i) (after-firsts (from_line ls q) 1 m ∙ ap (firsts m) (after-from ls q 1))
    ∙ part-is i ls (part_line ls q 1) m (omega arith)
    ∙ ap (term_at ls) (ap (part_line ls (part_line ls q 1)) f ∙ line-hop ls q (suc i) (omega arith))

pub part_at : (ls : List Triple) (p i : ℕ) → i < parts_of (line_of ls p) → part i (body_at ls p) ≡ term_at ls (part_line ls (p + 1) i)
part_at ls p i h = part-is i ls (p + 1) (parts_of (line_of ls p)) h

-- a term, or a type, as a run of lines
pub part-lines : (ls : List Triple) (p : ℕ) → (term_at ls p).lines ≡ take (part_line ls p 1 - p) (drop p ls)
unfolding term_at part_line
part-lines ls p =
    let e : length (take_parts parts_of (drop p ls) 1) ≡ p + length (take_parts parts_of (drop p ls) 1) - p = omega arith in
    is-take parts_of (drop p ls) 1 ∙ ap (λ (n : ℕ). take n (drop p ls)) e
