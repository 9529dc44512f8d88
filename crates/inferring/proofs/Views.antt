-- A term by the kind of its first line: what the code reads of it is its view. Assumes nothing.
use Rattle.sheet.specs.declared.Extent.{Extent}
use Rattle.std.proofs.Common.{Some, Option, ◌≡◌, refl, sym, ap, ap₂, ◌∙◌, Bool, true, false, not, ◌&&◌, ◌||◌, List, ℕ, ◌+◌, ◌*◌, ◌-◌, ◌≤◌, ◌<◌, arith, length, take, drop, eqb, leb, leb-true, eqb-true}
use mathlib.Core.Bool.{and-eq-true_iff}
use borrow.Author.Tests.{eqb-false}
use Rattle.nodes.specs.Nodes.{Ty, nodes_at}
use Rattle.spelling.specs.declared.Triple.{Triple}
use Rattle.kinds.specs.declared.Row.{Row}
use Rattle.kinds.specs.Kinds.{a_term, same_sort, parts_of, row_of, each_parts, table}
use Rattle.kinds.specs.Kinds.{find as find_row}
use Rattle.grammar.specs.Grammar.{ok}
use Rattle.grammar.specs.Grammar.{part as item}
use Rattle.sheet.specs.Plan.{part_line, nodes_of, find_entry, type_at}
use Rattle.sheet.specs.Rows.{rows, Bound, Ended}
use Rattle.sheet.proofs.Lines.{line-none}
use Rattle.sheet.proofs.Forming.{due-following}
use Rattle.sheet.proofs.TypeLines.{begun-row, sort-is}
use Rattle.judgment.specs.Terms.{Term, part, TermView, is_var, is_lit_int, is_lambda, is_apply, is_type_lambda, is_constructor, is_case, is_bin_op, is_if, is_intrinsic, term_view}
use Rattle.judgment.specs.Board.{Rule}
use Rattle.judgment.specs.Rules.{Env, constructor, infer_by}
use Rattle.judgment.specs.Result.{Way}
use Rattle.board.specs.Board.{from_line, term_at}
use Rattle.board.proofs.Terms.{line_of, body_at, term-head, part_at}
use Rattle.operations.specs.declared.Run.{Run}
use Rattle.operations.specs.State.{Bookable, WellFormed, Does}
use Rattle.operations.proofs.Then.{does-as}
use Rattle.inference.specs.Inference.{type_on, LinesAsk}
use Rattle.inference.proofs.Heads.{part-within, first-lines, head_ok, head-narrow, lines-asks}
use Rattle.constructors.specs.Opening.{OpenAsk}
use Rattle.patterns.proofs.Entries.{env-lookup, entry_at}
use Rattle.arms.specs.Arms.{CaseAsk}
use Rattle.arms.proofs.Cases.{case-view, case-narrow}
use Rattle.applying.specs.Applying.{env_on}
use Rattle.inferring.specs.Inferring.{TypeFits, InferAsk, CaseRoom, kind_at, TermAsk, Infers}

-- ---- a term's kinds
abbrev term_kind : ℕ → Row → Bool
term_kind k r = not (same_sort r.sort a_term) || (leb 21 k && leb k 30)

pub term-kind : (t : Triple) → ok (item a_term) (Some t) ≡ true → (21 ≤ t.kind) × (t.kind ≤ 30)
unfolding table
term-kind t e =
    let h = (due-following a_term t e).0 in
    let n : (not (same_sort (row_of t.kind).sort a_term) || (leb 21 t.kind && leb t.kind 30)) ≡ true = begun-row a_term t h refl term_kind refl in
    let b = (and-eq-true_iff (leb 21 t.kind) (leb t.kind 30)).0 (rw (sort-is a_term t h) at n) in
    (leb-true 21 t.kind b.0, leb-true t.kind 30 b.1)

-- the argument counts only where it is the only one
one_argument : (E : Env) (T : Ty) (x n : ℕ) (e e' : Term) → (n ≡ 1 → e ≡ e') → infer_by E T (is_intrinsic x n e) ≡ infer_by E T (is_intrinsic x n e')
one_argument E T x n e e' h = go (eqb n 1) refl
  where
    go : (b : Bool) → eqb n 1 ≡ b → infer_by E T (is_intrinsic x n e) ≡ infer_by E T (is_intrinsic x n e')
    go true q = ap (λ (y : Term). infer_by E T (is_intrinsic x n y)) (h (eqb-true n 1 q))
    go false q = rw q

module _ {K : ℕ} {b : List ℕ} {c : Run} {s : List ℕ} {p : ℕ} {t : List ℕ} {tn : ℕ} (a : TermAsk K b c s p t tn) where
  abbrev ls : List Triple
  ls = rows s

  abbrev head : Triple
  head = line_of ls p

  abbrev body : Term
  body = body_at ls p

  abbrev E : Env
  E = env_on s

  abbrev T : Ty
  T = nodes_at t 0 tn

  -- the line at which part i starts
  abbrev start : ℕ → ℕ
  start i = part_line ls (p + 1) i

  -- ---- by another name of the rule, or of the view
  pub ruled : {q : Rule} → q ≡ infer_by E T (term_view (term_at ls p)) → {b' : List ℕ} {o : Run}
      → ((m : Way) (k rep : List ℕ) → WellFormed b k c → Does m ls b k rep c q b' k rep o) → Infers b c s p t tn b' o
  ruled e d = λ m k rep f. does-as (λ _. e) (d m k rep f)

  pub viewed : {v : TermView} → v ≡ term_view (term_at ls p) → {b' : List ℕ} {o : Run}
      → ((m : Way) (k rep : List ℕ) → WellFormed b k c → Does m ls b k rep c (infer_by E T v) b' k rep o) → Infers b c s p t tn b' o
  viewed e d = ruled (ap (infer_by E T) e) d

  -- ---- what the code reads
  -- a word holds its value
  pub value-fits : eqb K 22 ≡ false → head.value < 4294967296
  value-fits e = head-narrow s p a.stands a.term (λ z. eqb-false K 22 e (sym a.kind ∙ z))

  -- how many parts follow its first line
  parts : (j : ℕ) → K ≡ j → parts_of head ≡ (row_of j).types + (row_of j).terms + each_parts (row_of j).each head.count
  unfolding parts_of
  parts j e = ap (λ (i : ℕ). (row_of i).types + (row_of i).terms + each_parts (row_of i).each head.count) (a.kind ∙ e)

  -- the term at the line where part i starts
  part-read : (i : ℕ) {e : ℕ} → i < parts_of head → e ≡ start i → term_at ls e ≡ part i body
  part-read i h q = ap (term_at ls) q ∙ sym (part_at ls p i h)

  -- ---- its view, by kinds
  pub var-view : K ≡ 21 → {x : ℕ} → x ≡ head.value → is_var x ≡ term_view (term_at ls p)
  unfolding term_view
  var-view e q = rw (term-head ls p a.stands, a.kind, e) (ap is_var q)

  pub lit-view : K ≡ 22 → is_lit_int ≡ term_view (term_at ls p)
  unfolding term_view
  lit-view e = rw (term-head ls p a.stands, a.kind, e)

  -- the lines of a Lambda's type end where its body, at line j, starts
  pub type-lines : K ≡ 23 → {j : ℕ} → j ≡ start 1 → (p + 1 ≤ j) × (j - (p + 1) + 1 ≤ length ls) × LinesAsk s (p + 1) (j - (p + 1))
  type-lines e q =
      let h = a.stands in
      let f = a.few in
      let w = part-within ls (p + 1) 1 (omega arith) in
      let w1 = w.1 in
      rw q (w.0, omega arith, lines-asks s p h a.term (a.kind ∙ e))

  pub lambda-view : K ≡ 23 → {x j i : ℕ} → x ≡ head.value → j ≡ i → i ≡ start 1 → is_lambda x (type_on s (p + 1) (j - (p + 1))) (term_at ls i) ≡ term_view (term_at ls p)
  unfolding term_view row_of find_row table
  lambda-view e qx r q =
      let n : parts_of head ≡ 2 = parts 23 e in
      rw (term-head ls p a.stands, a.kind, e, qx)
      (ap₂ (λ (x : List Triple) (y : Term). is_lambda head.value (nodes_of x) y) (ap (λ (j : ℕ). take (j - (p + 1)) (drop (p + 1) ls)) (r ∙ q) ∙ sym (first-lines s p a.stands (a.kind ∙ e))) (part-read 1 (omega arith) q))

  pub apply-view : K ≡ 24 → {f i : ℕ} → f ≡ start 0 → i ≡ start 1 → is_apply (term_at ls f) (term_at ls i) ≡ term_view (term_at ls p)
  unfolding term_view row_of find_row table
  apply-view e qf q =
      let n : parts_of head ≡ 2 = parts 24 e in
      rw (term-head ls p a.stands, a.kind, e) (ap₂ is_apply (part-read 0 (omega arith) qf) (part-read 1 (omega arith) q))

  pub type-lambda-view : K ≡ 25 → {x i : ℕ} → x ≡ head.value → i ≡ start 0 → is_type_lambda x (term_at ls i) ≡ term_view (term_at ls p)
  unfolding term_view row_of find_row table
  type-lambda-view e qx q =
      let n : parts_of head ≡ 1 = parts 25 e in
      rw (term-head ls p a.stands, a.kind, e) (ap₂ is_type_lambda qx (part-read 0 (omega arith) q))

  constructor-view : K ≡ 26 → {x : ℕ} → x ≡ head.value → is_constructor x ≡ term_view (term_at ls p)
  unfolding term_view
  constructor-view e q = rw (term-head ls p a.stands, a.kind, e) (ap is_constructor q)

  pub bin-op-view : K ≡ 28 → {x i j : ℕ} → x ≡ head.value → i ≡ start 0 → j ≡ start 1 → is_bin_op x (term_at ls i) (term_at ls j) ≡ term_view (term_at ls p)
  unfolding term_view row_of find_row table
  bin-op-view e qx qi qj =
      let n : parts_of head ≡ 2 = parts 28 e in
      rw (term-head ls p a.stands, a.kind, e, qx) (ap₂ (is_bin_op head.value) (part-read 0 (omega arith) qi) (part-read 1 (omega arith) qj))

  pub if-view : K ≡ 29 → {i j k : ℕ} → i ≡ start 0 → j ≡ start 1 → k ≡ start 2 → is_if (term_at ls i) (term_at ls j) (term_at ls k) ≡ term_view (term_at ls p)
  unfolding term_view row_of find_row table
  if-view e qi qj qk =
      let n : parts_of head ≡ 3 = parts 29 e in
      rw (term-head ls p a.stands, a.kind, e, part-read 0 (omega arith) qi) (ap₂ (is_if (part 0 body)) (part-read 1 (omega arith) qj) (part-read 2 (omega arith) qk))

  pub intrinsic-rule : K ≡ 30 → {x n i : ℕ} → x ≡ head.value → n ≡ head.count → i ≡ start 0 → infer_by E T (is_intrinsic x n (term_at ls i)) ≡ infer_by E T (term_view (term_at ls p))
  unfolding term_view row_of find_row table
  intrinsic-rule e qx qn q =
      rw (term-head ls p a.stands, a.kind, e, qx, qn)
      (one_argument E T head.value head.count (term_at ls _) (part 0 body) (λ z. (let n : parts_of head ≡ 0 + head.count = parts 30 e in part-read 0 (omega arith) q)))

  -- a Case's scrutinee is its first part, its arms stand after it
  pub case-rule : K ≡ 27 → {n i j : ℕ} → n ≡ head.count → i ≡ start 0 → j ≡ start 1
      → infer_by E T (is_case n (term_at ls i) (from_line ls j)) ≡ infer_by E T (term_view (term_at ls p))
  case-rule e qn qi qj = rw (qn, qi, qj, ← line-none ls (p + 1) 0 refl) (case-view E T ls p a.stands (a.kind ∙ e))

  -- ---- a Constructor's type, where the plan has one
  pub constructor-rule : K ≡ 26 → {x : ℕ} → x ≡ head.value → {v : (Option Extent)} → v ≡ find_entry 1 x ls → constructor E x T (type_at ls v) ≡ infer_by E T (term_view (term_at ls p))
  constructor-rule e qx q = ap (constructor E _ T) (ap (type_at ls) q ∙ sym (env-lookup ls _)) ∙ ap (infer_by E T) (constructor-view e qx)

  pub open-asks : (l : List ℕ) → TypeFits s l → (x : ℕ) {line count : ℕ} → Some (record { line = line; count = count }) ≡ find_entry 1 x ls → OpenAsk b c ls line count × Bound ls s line count × (2 * count ≤ length l) × (0 + 2 * tn ≤ length t) × Bookable b c
  open-asks l h x q =
      let f = a.few in
      let e = entry_at ls x _ _ (record { formed = a.sheet; few = omega arith }) q in
      let w = e.2 in
      (record { board = a.ready.board; numbers = a.ready.numbers; few = e.1; lines = e.2; narrow = e.3 }, a.ended.bound x _ _ (sym q), omega arith, let z = a.within in omega arith, a.formed)

-- ---- the asks of the terms
module _ {b : List ℕ} {c : Run} {s : List ℕ} {p : ℕ} {t : List ℕ} {tn : ℕ} {l : List ℕ} (a : InferAsk b c s p t tn l) where
  -- its first line is h
  pub term_asks : {h : Triple} {K : ℕ} → h ≡ line_of (rows s) p → h.kind ≡ K → TermAsk K b c s p t tn
  term_asks q e = record { formed = a.formed; ready = a.ready; sheet = a.sheet; ended = a.ended; few = a.few; stands = a.stands; term = a.term; within = a.within; kind = ap (λ (t : Triple). t.kind) (sym q) ∙ e }

  pub kinds : (21 ≤ kind_at s p) × (kind_at s p ≤ 30)
  kinds = term-kind (line_of (rows s) p) (head_ok s p a.stands a.term).0

  pub case-asks : {r w v : List ℕ} → CaseRoom s r w v → kind_at s p ≡ 27 → {n j : ℕ} → n ≡ (line_of (rows s) p).count → j ≡ part_line (rows s) (p + 1) 1 → CaseAsk b c (rows s) j n w v l r t tn × Ended s
  case-asks room e qn q =
      let f = a.few in
      let x = room.frames in
      let y = room.bound in
      let h = a.stands in
      let i = (part-within (rows s) (p + 1) 1 (omega arith)).1 in (
        record {
          formed = a.formed;
          ready = a.ready;
          sheet = record { formed = a.sheet; few = omega arith };
          frames = omega arith;
          rows = omega arith;
          left = a.left;
          right = room.right;
          type = a.within;
          within = rw q i;
          narrow = rw (qn, q) (case-narrow (rows s) p h e a.term);
        },
        a.ended,
      )
