-- Chk by the shape of its type and the head of its term. Assumes nothing.
use Rattle.std.proofs.Common.{Option, None, Some, ◌≡◌, refl, sym, ap, ap₂, ◌∙◌, ◌≢◌, Bool, cond, List, ℕ, ◌+◌, ◌-◌, ◌≤◌, ◌<◌, arith, length, get_or, eq-eqb, ne_eqb}
use mathlib.Core.Path.{subst⁻¹}
use Rattle.sizes.specs.Sizes.{most_lines}
use Rattle.nodes.specs.Nodes.{Ty}
use Rattle.spelling.specs.declared.Triple.{Triple}
use Rattle.sheet.specs.Plan.{no_triple, part_line, nodes_of, Narrow}
use Rattle.sheet.specs.Rows.{rows}
use Rattle.judgment.specs.Types.{View, is_arrow, is_app, is_forall, is_unknown, is_other}
use Rattle.judgment.specs.Terms.{Term, part, Lambda, lambda_of}
use Rattle.judgment.specs.Rules.{Env, synthesize, check_by, check_arrow}
use Rattle.board.specs.Board.{term_at}
use Rattle.board.proofs.Terms.{line_of, body_at, term-head, part_at}
use Rattle.operations.specs.declared.Run.{Run}
use Rattle.checking.specs.Checking.{copied_type, checked_type, checked_out, CheckAsk, arrow_type, arrow_out}
use Rattle.inference.specs.Inference.{lambda_on}
use Rattle.inference.proofs.Heads.{part-within, two-parts, first-lines, head-narrow}
use Rattle.subtyping.specs.declared.Shape.TheVariants.{Arrow, Forall}
use Rattle.subtyping.specs.Subtyping.{shape_of}

pub check-other : (E : Env) (e : Term) (t : Ty) (v : View) → (shape_of v ≡ Arrow → lambda_of e ≡ None) → shape_of v ≢ Forall → synthesize E e t ≡ check_by E e t v
check-other E e t (is_arrow a b) f g = ap (check_arrow E e t a b) (sym (f refl))
check-other E e t (is_app a b) f g = refl
check-other E e t (is_forall x b) f g = absurd (g refl)
check-other E e t (is_unknown k) f g = refl
check-other E e t is_other f g = refl

-- every word of the rooms, where the view says no more than that the type is copied
pub type-copied : (t : List ℕ) (c : Run) (T : Ty) (f : Option Lambda) (v : View) → (shape_of v ≡ Arrow → f ≡ None) → shape_of v ≢ Forall → copied_type t T ≡ checked_type t c T f v
type-copied t c T f (is_arrow a b) g h = ap (arrow_type t c T) (sym (g refl))
type-copied t c T f (is_app a b) g h = refl
type-copied t c T f (is_forall x b) g h = absurd (h refl)
type-copied t c T f (is_unknown k) g h = refl
type-copied t c T f is_other g h = refl

pub out_stays : (out : List ℕ) (c : Run) (T : Ty) (f : Option Lambda) (v : View) → (shape_of v ≡ Arrow → f ≡ None) → out ≡ checked_out out c T f v
out_stays out c T f (is_arrow a b) h = ap (arrow_out out c T) (sym (h refl))
out_stays out c T f (is_app a b) h = refl
out_stays out c T f (is_forall x b) h = refl
out_stays out c T f (is_unknown k) h = refl
out_stays out c T f is_other h = refl

module _ (s : List ℕ) (p : ℕ) (h : p < length (rows s)) where
  abbrev ls : List Triple
  ls = rows s

  pub no-lambda : (line_of ls p).kind ≢ 23 → lambda_of (term_at ls p) ≡ None
  unfolding lambda_of
  no-lambda f =
      ap lambda_of (term-head ls p h)
      ∙ ap (λ (b : Bool). cond b (Some (record { param = (line_of ls p).value; type = nodes_of (part 0 (body_at ls p)).lines; body = part 1 (body_at ls p) })) None) (ne_eqb (line_of ls p).kind 23 f)

  module _ (e : (line_of ls p).kind ≡ 23) where
    abbrev n : ℕ
    n = part_line ls (p + 1) 1 - (p + 1)

    pub a-lambda : lambda_of (term_at ls p) ≡ Some (lambda_on s (line_of ls p).value (p + 1) n (part_line ls (p + 1) 1))
    unfolding lambda_of
    a-lambda =
        ap lambda_of (term-head ls p h)
        ∙ ap (λ (b : Bool). cond b (Some (record { param = (line_of ls p).value; type = nodes_of (part 0 (body_at ls p)).lines; body = part 1 (body_at ls p) })) None) (eq-eqb (line_of ls p).kind 23 e)
        ∙ ap₂ (λ (x : List Triple) (y : Term). Some (record { param = (line_of ls p).value; type = nodes_of x; body = y })) (first-lines s p h e)
        (part_at ls p 1 (let z = two-parts (line_of ls p) e in omega arith))

-- ---- what the code reads
pub head-is : (s : List ℕ) (line i : ℕ) (h : Triple) → i ≡ line → h ≡ get_or (rows s) i no_triple → h ≡ line_of (rows s) line
head-is s line i h e q = q ∙ ap (line_of (rows s)) e

module _ {b : List ℕ} {c : Run} {s : List ℕ} {line at tn : ℕ} {t out : List ℕ} (a : CheckAsk b c s line at tn t out) where
  abbrev L : List Triple
  L = rows s

  pub name-narrow : {h : Triple} → h ≡ line_of L line → h.kind ≡ 23 → h.value < 4294967296
  name-narrow {h} e k = subst⁻¹ Narrow e (head-narrow s line a.stands a.term (λ z. (let y = sym (ap (λ (x : Triple). x.kind) e) ∙ k in omega arith)))

  pub bounds : (line + 1 ≤ part_line L (line + 1) 1) × (part_line L (line + 1) 1 ≤ most_lines)
  bounds =
      let l = a.stands in
      let f = a.few in
      let w = part-within L (line + 1) 1 (omega arith) in
      let w1 = w.1 in
      (w.0, omega arith)

-- the Lambda that the code puts together
pub lambda-read : (s : List ℕ) (line i pl : ℕ) (h : Triple) → line < length (rows s) → i ≡ line → h ≡ line_of (rows s) line → pl ≡ part_line (rows s) (i + 1) 1 → h.kind ≡ 23
    → Some (lambda_on s h.value (i + 1) (pl - (i + 1)) pl) ≡ lambda_of (term_at (rows s) line)
lambda-read s line i pl h l e q z k =
    rw (z, e, q) (sym (a-lambda s line l (sym (ap (λ (x : Triple). x.kind) q) ∙ k)))
