-- A sheet that is taken, and its rows: what is known of the one is known of the other. Assumes nothing.
use Rattle.grammar.specs.declared.SheetError.{SheetError}
use Rattle.std.specs.Prelude.{Result, Ok, Err}
use mathlib.Core.Path.{◌≡◌, refl, sym, ap, ◌∙◌, subst}
use mathlib.Core.Bool.{Bool, true, false, false≢true}
use mathlib.Core.List.{List}
use Prim.Native.Nat.{ℕ, ◌+◌, ◌*◌, ◌/◌, ◌≤◌}
use lib.ListN.{length, take}
use lib.Seq.{length-take-le}
use Rattle.sizes.specs.Sizes.{line_length}
use Rattle.spelling.specs.declared.Triple.{Triple}
use Rattle.grammar.specs.Check.{check, check_number, check_line}
use Rattle.sheet.specs.Plan.{triples}
use Rattle.sheet.specs.Rows.{rows, Ended}
use Rattle.sheet.specs.Fit.{is_plan}
use Rattle.judgment.specs.declared.Answer.{Answer}
use Rattle.judgment.specs.Result.{Judged, refused_at, limits_for, judge}
use Rattle.judgment.specs.Levels.{Mode}
use Rattle.inferring.specs.Inferring.{has_case, CaseLent}
use Rattle.stepping.specs.Stepping.{Read, longest}
use Rattle.checker.specs.Calling.{PlanAsk, ReadAsk, TypedAsk, RunAsk, RowsAsk, Ran, Kept, ByCheck}

-- ---- by what the sheet is
by-check : (v : Result Unit SheetError) (A B : Type 0) → (v ≡ Ok tt → A) → (is_plan v ≡ false → B) → ByCheck v A B
by-check (Ok _) A B f g = f refl
by-check (Err e) A B f g = g refl

-- the sheet was found to be no plan, or a plan
module _ (limit : ℕ) (o : Judged) (s b k rep : List ℕ) {a : Answer} {r : Bool} (e : r ≡ is_plan (check s)) where
  pub not-run : r ≡ false → a ≡ refused_at (check_number (check s)) (check_line (check s)) → ByCheck (check s) (Ran limit o b k rep a) (Kept (check s) b k rep b k rep a)
  not-run f q =
      by-check (check s) (Ran limit o b k rep a) (Kept (check s) b k rep b k rep a) (λ z. absurd (false≢true (sym f ∙ e ∙ ap is_plan z))) (λ _. record { answer = q; board = refl; book = refl; report = refl })

  pub was-run : {b' k' rep' : List ℕ} → r ≡ true → Ran limit o b' k' rep' a → ByCheck (check s) (Ran limit o b' k' rep' a) (Kept (check s) b k rep b' k' rep' a)
  was-run {b'} {k'} {rep'} f q = by-check (check s) (Ran limit o b' k' rep' a) (Kept (check s) b k rep b' k' rep' a) (λ _. q) (λ z. absurd (false≢true (sym z ∙ sym e ∙ f)))

-- ---- from the sheet to its rows
pub was_read : (s : List ℕ) {d : List ℕ} → check s ≡ Ok tt → (rows d ≡ triples s) × Ended d → Read d
was_read s h q = record { sheet = s; plan = h; same = q.0; ended = q.1 }

-- of a sheet that was read
pub read-asks : {limit : ℕ} (s : List ℕ) {b k rep d d' : List ℕ} → check s ≡ Ok tt → RowsAsk limit s b k rep d → (rows d' ≡ triples s) × Ended d' → ReadAsk limit d' b k rep
read-asks s h p q = record { plan = was_read s h q; limited = p.run.limited; board = p.run.board; book = p.run.book; report = p.run.report }

-- ---- room
-- for a Case, where the sheet has one
pub plan-asks : {limit : ℕ} {d b k rep t l r w v : List ℕ} → TypedAsk limit d b k rep t l → CaseLent d r w v → PlanAsk limit d b k rep t l r w v
plan-asks p x = record {
  plan = p.read.plan;
  limited = p.read.limited;
  board = p.read.board;
  book = p.read.book;
  report = p.read.report;
  lent = record { type = p.type; left = p.left; lines = p.lines; room = x };
}

-- room for two types of any node count that the limit or the sheet allows
pub typed-asks : {limit : ℕ} {d b k rep t l : List ℕ} → ReadAsk limit d b k rep → 2 * longest limit d ≤ length t → 2 * longest limit d ≤ length l → 2 * length (rows d) + 2 ≤ length l → TypedAsk limit d b k rep t l
typed-asks p x y z = record { read = p; type = x; left = y; lines = z }

pub no-case : {d r w v : List ℕ} → has_case (rows d) ≡ false → CaseLent d r w v
no-case h e = absurd (false≢true (sym h ∙ e))

pub case-room : {d r w v : List ℕ} → 2 * length (rows d) + 2 ≤ length r → 6 * length (rows d) + 12 ≤ length w → 6 * length (rows d) + 6 ≤ length v → CaseLent d r w v
case-room x y z _ = record { right = x; frames = y; bound = z }

-- rows that are long enough
pub rows-asks : (d : List ℕ) {limit : ℕ} {s b k rep : List ℕ} → RunAsk limit s b k rep → 4 * (length s / line_length) ≤ length d → RowsAsk limit s b k rep (take (4 * (length s / line_length)) d)
rows-asks d {limit} {s} p h = record { run = p; rows = length-take-le (4 * (length s / line_length)) d h }

pub ran-as : (m : Mode) {ls ms : List Triple} (c limit : ℕ) {b k rep : List ℕ} {a : Answer} → ls ≡ ms → Ran limit (judge (limits_for m limit) c ls) b k rep a → Ran limit (judge (limits_for m limit) c ms) b k rep a
ran-as m c limit {b} {k} {rep} {a} e r = subst (λ (ls : List Triple). Ran limit (judge (limits_for m limit) c ls) b k rep a) e r
