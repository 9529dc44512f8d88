-- Chk by the taken type on the board and in the room that it is copied to: the rule, and what the rooms hold after.
-- Assumes nothing.
use Rattle.std.proofs.Common.{Option, None, Some, ◌≡◌, sym, ap, ap₂, ◌∙◌, ◌≢◌, Bool, true, false, cond, List, ℕ, ◌+◌, ◌*◌, ◌-◌, ◌≤◌, ◌<◌, arith, length, get_or, take, drop, eqb}
use Rattle.std.proofs.Math.Seq.{sets, length-sets}
use borrow.Author.Tests.{eqb-false}
use Rattle.sizes.specs.Sizes.{most_lines, most_nodes}
use Rattle.nodes.specs.Nodes.{node, Ty, words, nodes_at}
use Rattle.nodes.proofs.Laws.{length-nodes_at, take-nodes_at, drop-nodes_at}
use Rattle.spelling.specs.declared.Triple.{Triple}
use Rattle.sheet.specs.Plan.{part_line}
use Rattle.sheet.specs.Rows.{rows}
use Rattle.judgment.specs.Types.{first, rest, view, is_forall}
use Rattle.judgment.specs.Terms.{Lambda, lambda_of}
use Rattle.judgment.specs.Rules.{Env, synthesize, check_arrow, check_by}
use Rattle.judgment.proofs.TypeLaws.{both}
use Rattle.core_types.proofs.Walks.{first-within, first-nodes, rest-nodes}
use Rattle.board.specs.Board.{term_at, fitting_three}
use Rattle.board.proofs.Stacks.{three-facts}
use Rattle.board.proofs.Terms.{line_of}
use Rattle.operations.specs.declared.Run.{Run}
use Rattle.operations.specs.State.{going}
use Rattle.subtyping.specs.declared.Shape.{Shape}
use Rattle.subtyping.specs.declared.Shape.TheVariants.{Arrow, Forall, Other}
use Rattle.subtyping.specs.Subtyping.{opened_at, shape_of}
use Rattle.subtyping.proofs.Shapes.{forall-view, shaped-some}
use Rattle.inference.specs.Inference.{type_on, lambda_on, LinesAsk, next_at, HereAsk}
use Rattle.inference.proofs.Heads.{lines-asks, lines-some}
use Rattle.inference.proofs.Written.{length-type_on, copied}
use Rattle.checking.specs.Checking.{all_fit, copied_type, arrow_type, checked_type, arrow_out, checked_out, CheckAsk}
use Rattle.checking.proofs.Checks.{check-other, type-copied, out_stays, bounds, no-lambda, lambda-read}

-- a part of nodes that stand at two places
part-as : (v w : List ℕ) (p q n i k : ℕ) → nodes_at v p n ≡ nodes_at w q n → i + k ≤ n → nodes_at v (p + 2 * i) k ≡ nodes_at w (q + 2 * i) k
part-as v w p q n i k e h = sym (is v p) ∙ ap (λ (t : Ty). take k (drop i t)) e ∙ is w q
  where
    is : (u : List ℕ) (j : ℕ) → take k (drop i (nodes_at u j n)) ≡ nodes_at u (j + 2 * i) k
    is u j = ap (take k) (drop-nodes_at u j n i (omega arith)) ∙ take-nodes_at u (j + 2 * i) (n - i) k (omega arith)

module _ {b : List ℕ} {c : Run} {s : List ℕ} {line at tn : ℕ} {t out : List ℕ} (a : CheckAsk b c s line at tn t out) where
  abbrev L : List Triple
  L = rows s

  abbrev T : Ty
  T = nodes_at b at tn

  abbrev parts : Ty
  parts = nodes_at b (at + 2) (tn - 1)

  abbrev f : Option Lambda
  f = lambda_of (term_at L line)

  -- the taken type once it is copied
  pub copied-whole : {t' : List ℕ} → t' ≡ copied_type t T → nodes_at t' 0 tn ≡ T
  copied-whole q = copied t T tn (length-nodes_at b at tn) a.type q

  pub copied-length : {t' : List ℕ} → t' ≡ copied_type t T → length t' ≡ length t
  copied-length q = ap length q ∙ length-sets t 0 (words T)

  pub shaped : {v : Shape} → v ≡ shape_of (view T) → v ≢ Other → 0 < tn
  shaped e l = shaped-some b at tn (λ z. l (e ∙ z))

  -- ---- a Forall
  module _ {t' : List ℕ} (q : t' ≡ copied_type t T) (e : Forall ≡ shape_of (view T)) where
    forall-is : view T ≡ is_forall (get_or t' 1 0) (nodes_at t' 2 (tn - 1))
    forall-is = ap view (sym (copied-whole q)) ∙ forall-view t' 0 tn (ap (λ (X : Ty). shape_of (view X)) (copied-whole q) ∙ sym e)

    pub forall-asks : (1 < length t') × (2 + 2 * (tn - 1) ≤ length t') × (tn - 1 ≤ most_nodes)
    forall-asks =
        let x = shaped e (λ z. cc) in
        let y = a.type in
        let z = copied-length q in
        let w = a.short in
        (omega arith, omega arith, omega arith)

    pub forall-rule : (E : Env) → check_by E (term_at L line) T (is_forall (get_or t' 1 0) (nodes_at t' 2 (tn - 1))) ≡ check_by E (term_at L line) T (view T)
    forall-rule E = ap (check_by E (term_at L line) T) (sym forall-is)

    pub forall-rooms : {t'' : List ℕ} → t'' ≡ opened_at t' 2 (get_or t' 1 0) (node 18 c.counters.fresh) (nodes_at t' 2 (tn - 1)) → (t'' ≡ checked_type t c T f (view T)) × (out ≡ checked_out out c T f (view T))
    forall-rooms p = (
      p ∙ ap (λ (x : List ℕ). opened_at x 2 (get_or t' 1 0) (node 18 c.counters.fresh) (nodes_at t' 2 (tn - 1))) q ∙ ap (checked_type t c T f) (sym forall-is),
      ap (checked_out out c T f) (sym forall-is),
    )

  -- ---- no Forall, and a Lambda against no Arrow
  module _ {t' : List ℕ} (q : t' ≡ copied_type t T) (g : shape_of (view T) ≡ Arrow → f ≡ None) (h : shape_of (view T) ≢ Forall) where
    pub plain-rule : (E : Env) → synthesize E (term_at L line) (nodes_at t' 0 tn) ≡ check_by E (term_at L line) T (view T)
    plain-rule E = ap (synthesize E (term_at L line)) (copied-whole q) ∙ check-other E (term_at L line) T (view T) g h

    pub plain-rooms : (t' ≡ checked_type t c T f (view T)) × (out ≡ checked_out out c T f (view T))
    plain-rooms = (q ∙ type-copied t c T f (view T) g h, out_stays out c T f (view T) g)

  -- no Lambda starts at the line
  pub no-head : false ≡ eqb (line_of L line).kind 23 → f ≡ None
  no-head h = no-lambda s line a.stands (eqb-false (line_of L line).kind 23 (sym h))

  -- ---- an Arrow, and a Lambda as the code reads it
  module _ {i pl : ℕ} {h : Triple} (w : i ≡ line) (e : h ≡ line_of L line) (q : pl ≡ part_line L (i + 1) 1) (k : h.kind ≡ 23) where
    abbrev n : ℕ
    n = pl - (i + 1)

    abbrev lambda : Lambda
    lambda = lambda_on s h.value (i + 1) n pl

    at_head : (line_of L line).kind ≡ 23
    at_head = sym (ap (λ (x : Triple). x.kind) e) ∙ k

    pub lambda-lines : LinesAsk s (i + 1) n
    lambda-lines = rw (q, w) (lines-asks s line a.stands a.term at_head)

    lambda-some : 0 < n
    lambda-some = rw (q, w) (lines-some s line a.stands a.term at_head)

    lambda-is : Some lambda ≡ f
    lambda-is = lambda-read s line i pl h a.stands w e q k

    pub line-bounds : (i + 1 ≤ pl) × (pl ≤ most_lines)
    line-bounds = rw (q, w) (bounds a)

    fit-as : all_fit c (length (type_on s (i + 1) n)) (length T) ≡ all_fit c n tn
    fit-as = ap₂ (all_fit c) (length-type_on s (i + 1) n lambda-lines.within) (length-nodes_at b at tn)

    -- the rooms
    pub fit-rooms : all_fit c n tn ≡ true → (t ≡ arrow_type t c T f) × (out ≡ arrow_out out c T f)
    fit-rooms z =
        let y : all_fit c (length (type_on s (i + 1) n)) (length T) ≡ true = fit-as ∙ z in (
          ap (λ (x : Bool). cond x t (copied_type t T)) (sym y) ∙ ap (arrow_type t c T) lambda-is,
          ap (λ (x : Bool). cond x out (sets out 0 (words lambda.type))) (sym y) ∙ ap (arrow_out out c T) lambda-is,
        )

    pub full-rooms : all_fit c n tn ≡ false → {t' out' : List ℕ} → t' ≡ copied_type t T → out' ≡ sets out 0 (words (type_on s (i + 1) n)) → (t' ≡ arrow_type t c T f) × (out' ≡ arrow_out out c T f)
    full-rooms z p r =
        let y : all_fit c (length (type_on s (i + 1) n)) (length T) ≡ false = fit-as ∙ z in (
          p ∙ ap (λ (x : Bool). cond x t (copied_type t T)) (sym y) ∙ ap (arrow_type t c T) lambda-is,
          r ∙ ap (λ (x : Bool). cond x out (sets out 0 (words lambda.type))) (sym y) ∙ ap (arrow_out out c T) lambda-is,
        )

    -- the parts of the Arrow
    module _ {m : ℕ} (more : 0 < tn) (d : m ≡ length (first parts)) where
      within : m ≤ tn - 1
      within = first-within b (at + 2) (tn - 1) m d

      pub here-asks : all_fit c n tn ≡ true → HereAsk b c s (i + 1) n m (tn - 1 - m)
      here-asks z =
          let y = both (going c.halt) (fitting_three c.counters.board (2 * n + (tn - 1))) z in
          let x = three-facts c.counters.board (2 * n + (tn - 1)) y.1 in
          let l = within in
          let e : m + (tn - 1 - m) ≡ tn - 1 = omega arith in
          record { room = a.board.room; goes = y.0; few = x.0; fits = rw e x.1; some = lambda-some; lines = lambda-lines }

      rule-as : (E : Env) {A B : Ty} → A ≡ first parts → B ≡ rest parts → check_arrow E (term_at L line) T A B (Some lambda) ≡ check_arrow E (term_at L line) T (first parts) (rest parts) f
      rule-as E x y = ap₂ (λ (A B : Ty). check_arrow E (term_at L line) T A B (Some lambda)) x y ∙ ap (check_arrow E (term_at L line) T (first parts) (rest parts)) lambda-is

      pub here-rule : (E : Env) → check_arrow E (term_at L line) T (nodes_at b (next_at c + 2) m) (nodes_at b (next_at c + 2 + 2 * m) (tn - 1 - m)) (Some lambda) ≡ check_arrow E (term_at L line) T (first parts) (rest parts) f
      here-rule E =
          let place = a.place in
          rule-as E
          (ap (λ (p : ℕ). nodes_at b (p + 2) m) (sym place) ∙ first-nodes b (at + 2) (tn - 1) m d)
          (ap (λ (p : ℕ). nodes_at b (p + 2 + 2 * m) (tn - 1 - m)) (sym place) ∙ rest-nodes b (at + 2) (tn - 1) m d)

      pub copied-rule : (E : Env) {t' : List ℕ} → t' ≡ copied_type t T → check_arrow E (term_at L line) T (nodes_at t' 2 m) (nodes_at t' (2 + 2 * m) (tn - 1 - m)) (Some lambda) ≡ check_arrow E (term_at L line) T (first parts) (rest parts) f
      copied-rule E {t'} p =
          let l = within in
          let x : 2 + 2 * m ≡ 0 + 2 * (1 + m) = omega arith in
          let y : at + 2 * (1 + m) ≡ at + 2 + 2 * m = omega arith in
          rule-as E
          (part-as t' b 0 at tn 1 m (copied-whole p) (omega arith) ∙ first-nodes b (at + 2) (tn - 1) m d)
          (ap (λ (j : ℕ). nodes_at t' j (tn - 1 - m)) x ∙ part-as t' b 0 at tn (1 + m) (tn - 1 - m) (copied-whole p) (omega arith)
          ∙ ap (λ (j : ℕ). nodes_at b j (tn - 1 - m)) y ∙ rest-nodes b (at + 2) (tn - 1) m d)

      pub lambda-asks : {t' : List ℕ} → t' ≡ copied_type t T → (2 + 2 * m + 2 * (tn - 1 - m) ≤ length t') × (2 * n ≤ length out)
      lambda-asks p =
          let l = within in
          let x = a.type in
          let y = copied-length p in
          let z = lambda-lines.within in
          let r = a.room in
          (omega arith, omega arith)
