-- A Case: what stands ready for its arms, and its parts by its first line. Assumes nothing.
use Rattle.std.proofs.Common.{◌≡◌, refl, sym, ap, ap₂, ◌∙◌, subst, List, [], ◌∷◌, ℕ, ◌+◌, ◌*◌, ◌<◌, add-zero, arith, ltb, ltb-true, length}
use mathlib.Core.Path.{fun_ext}
use Rattle.sizes.specs.Sizes.{most_numbers}
use Rattle.nodes.specs.Nodes.{node, Ty}
use Rattle.nodes.proofs.ListLaws.{cond_ind}
use Rattle.spelling.specs.declared.Triple.{Triple}
use Rattle.kinds.specs.Kinds.{a_term, parts_of, row_of, find, table}
use Rattle.sheet.specs.Plan.{part_line}
use Rattle.sheet.specs.Form.{IsPart}
use Rattle.sheet.proofs.Lines.{line-none}
use Rattle.judgment.specs.Types.{unknown}
use Rattle.judgment.specs.Terms.{Term, part, after_parts, is_case, view_by, term_view}
use Rattle.judgment.specs.Board.{tvar, chk, Rule, fresh, push, own}
use Rattle.judgment.specs.Rules.{Env, infer_by}
use Rattle.judgment.proofs.WholeTerms.{TermViewWhole, term-view-whole}
use Rattle.board.specs.Board.{from_line, term_at, entry_of}
use Rattle.board.proofs.Terms.{firsts, after-firsts, after-from, line_of, body_at, term-head, part_at}
use Rattle.operations.specs.declared.Run.{Run}
use Rattle.operations.specs.State.{going, fresh_run, Pushes}
use Rattle.patterns.specs.Turns.{Ready}
use Rattle.patterns.proofs.Steps.{pushed_ready}
use Rattle.arms.specs.Arms.{NarrowArms}
use Rattle.arms.proofs.Cut.{arms-cut}
use Rattle.arms.proofs.Narrow.{arms-narrow}

-- ---- board and counters after a fresh unknown, its TVar and a Chk
pub fresh-ready : {b : List ℕ} (c : Run) {r : Run} → Ready b c → r ≡ fresh_run c → Ready b r
fresh-ready {b} c h e =
    let l = h.numbers in
    rw e
    (cond_ind (Ready b) (going c.halt)
    (λ _. cond_ind (Ready b) (ltb c.counters.fresh most_numbers)
    (λ q. record { board = h.board; numbers = omega (arith, ltb-true c.counters.fresh most_numbers q) }) (λ _. record { board = h.board; numbers = l }))
    (λ _. h))

pub tvar-ready : {b : List ℕ} {c : Run} {a : ℕ} {b' : List ℕ} {r : Run} → Ready b c → Pushes b c 17 a [] [] (λ ls. tvar (node 17 a)) b' r → Ready b' r
unfolding entry_of
tvar-ready {a = a} h p = pushed_ready 17 a [] [] (λ ls. refl) h p

pub chk-ready : {b : List ℕ} {c : Run} (line : ℕ) (t : Ty) {b' : List ℕ} {r : Run} → Ready b c → Pushes b c 5 line t [] (λ ls. chk (term_at ls line) t) b' r → Ready b' r
unfolding entry_of
chk-ready line t h p = pushed_ready 5 line t [] (λ ls. sym (add-zero (length t))) h p

-- ---- a Case on the sheet: its first line is line p
case-parts : (t : Triple) → t.kind ≡ 27 → parts_of t ≡ 1 + 2 * t.count
unfolding parts_of row_of find table
case-parts t e = rw e

case-head : (t : Triple) (xs : List Triple) (next : ℕ) → t.kind ≡ 27 → (let e : Term = record { line = next; lines = xs } in view_by (t ∷ xs) next ≡ is_case t.count (part 0 e) (after_parts 1 e))
case-head t xs next e = rw e

module _ (ls : List Triple) (p : ℕ) (h : p < length ls) (e : (line_of ls p).kind ≡ 27) where
  abbrev n : ℕ
  n = (line_of ls p).count

  abbrev arm_lines : Term
  arm_lines = from_line ls (part_line ls (p + 1) 1)

  scrutinee : part 0 (body_at ls p) ≡ term_at ls (p + 1)
  scrutinee =
      let z = case-parts (line_of ls p) e in
      part_at ls p 0 (omega arith) ∙ ap (term_at ls) (sym (line-none ls (p + 1) 0 refl))

  arms-after : after_parts 1 (body_at ls p) ≡ firsts (2 * n) arm_lines
  arms-after =
      ap (λ (m : ℕ). after_parts 1 (firsts m (from_line ls (p + 1)))) (case-parts (line_of ls p) e)
      ∙ after-firsts (from_line ls (p + 1)) 1 (2 * n)
      ∙ ap (firsts (2 * n)) (after-from ls (p + 1) 1)

  a_case : term_view (term_at ls p) ≡ is_case n (term_at ls (p + 1)) (firsts (2 * n) arm_lines)
  unfolding term_view
  a_case = ap term_view (term-head ls p h) ∙ case-head (line_of ls p) (body_at ls p).lines (p + 1) e ∙ ap₂ (is_case n) scrutinee arms-after

pub case-view : (E : Env) (t : Ty) (ls : List Triple) (p : ℕ) → p < length ls → (line_of ls p).kind ≡ 27
    → infer_by E t (is_case (line_of ls p).count (term_at ls (p + 1)) (from_line ls (part_line ls (p + 1) 1))) ≡ infer_by E t (term_view (term_at ls p))
case-view E t ls p h e =
    ap (fresh own) (fun_ext (λ a. ap (λ (r : Rule). push (tvar (node 17 a)) (push (chk (term_at ls (p + 1)) (unknown a)) r))
    (sym (arms-cut E (line_of ls p).count (from_line ls (part_line ls (p + 1) 1)) (unknown a) t))))
    ∙ ap (infer_by E t) (sym (a_case ls p h e))

pub case-narrow : (ls : List Triple) (p : ℕ) → p < length ls → (line_of ls p).kind ≡ 27 → IsPart a_term (term_at ls p).lines → NarrowArms (line_of ls p).count (from_line ls (part_line ls (p + 1) 1))
case-narrow ls p h e f =
    arms-narrow (line_of ls p).count (from_line ls (part_line ls (p + 1) 1)) (subst TermViewWhole (a_case ls p h e) (term-view-whole (term_at ls p) f)).1
