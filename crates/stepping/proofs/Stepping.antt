-- One step in words is one step of the definition's run. Assumes nothing.
use Rattle.operations.proofs.Latch.{not-halted}
use Rattle.std.proofs.Common.{◌≡◌, refl, ap, ◌∙◌, subst, List, ◌∷◌, ℕ, ◌+◌, ◌*◌, ◌≤◌, ◌<◌, arith, length, Bool}
use native.Mathlib.Nat.{le-max_left}
use Rattle.sizes.specs.Sizes.{most_nodes, board_base}
use Rattle.nodes.specs.Lists.{All}
use Rattle.spelling.specs.declared.Triple.{Triple}
use Rattle.sheet.specs.Rows.{rows}
use Rattle.judgment.specs.Board.{Entry, state}
use Rattle.judgment.specs.Board.{Board as Entries}
use Rattle.judgment.specs.Rules.{rule}
use Rattle.judgment.specs.Chain.{step_o, perform_o, step_l, perform_l}
use Rattle.judgment.proofs.Chained.{performs, levels-performed}
use Rattle.judgment.specs.Result.{limits_in}
use Rattle.judgment.specs.Good.{EntryWhole, EntryOK}
use Rattle.judgment.specs.Short.{EntryShort}
use Rattle.board.specs.declared.Board.{Board}
use Rattle.board.specs.declared.Top.{Top}
use Rattle.board.specs.Board.{entries_of, Stacked, top_of}
use Rattle.board.proofs.Stacks.{top-size, top-entries, top-stacked, top_within}
use Rattle.book.specs.Book.{sols, levels_of}
use Rattle.operations.specs.declared.Run.{Run}
use Rattle.operations.specs.State.{Words, Came, perform_w, refusal_of, outcome_by, outcome_of, state_of, WellFormed, Does, way_in}
use Rattle.applying.specs.Applying.{env_on}
use Rattle.stepping.specs.Rooms.{Room, room, judged_room}
use Rattle.stepping.specs.Stepping.{longest, top_entry, taking, JudgeAsk, Stepping, StepAsk}
use Rattle.stepping.proofs.Reaching.{entry-sound, solutions-sound, stands}

top-few : {b : List ℕ} {d : Board} → Stacked b d → 0 < d.entries → (top_of b d).left + (top_of b d).right ≤ most_nodes
unfolding top_of
top-few h l = let x = top-size h l in let y = h.few_nodes in omega arith

top-place : (b : List ℕ) (d : Board) → (top_of b d).at ≡ board_base + 2 * (top_of b d).rest.nodes
unfolding top_of
top-place b d = refl

module _ {m : ℕ} {s b k rep : List ℕ} {c : Run} {t l r w v : List ℕ} (a : StepAsk m s b k rep c t l r w v) (strict : Bool) (o : Top) (e : o ≡ top_of b c.counters.board) where
  abbrev ls : List Triple
  ls = rows s

  abbrev below : Entries
  below = entries_of ls b o.rest.entries

  abbrev st : Stacked b c.counters.board
  st = a.standing.formed.board

  entries-are : entries_of ls b c.counters.board.entries ≡ top_entry ls b o ∷ below
  entries-are = rw e (top-entries st a.more ls)

  formed-next : WellFormed b k (taking c o)
  formed-next = record {
    board = rw e (top-stacked st a.more);
    book = a.standing.formed.book;
    numbers = a.standing.formed.numbers;
    unmade = a.standing.formed.unmade;
  }

  pub step-asks : JudgeAsk m s b k rep (taking c o) o t l r w v
  step-asks =
      let q = a.standing.good in
      let z = subst (All (EntryShort (longest m s))) entries-are a.standing.short in
      record {
        plan = a.standing.plan;
        formed = formed-next;
        place = rw e (top-place b c.counters.board);
        within = rw e (top_within st a.more);
        few = rw e (top-few st a.more);
        limit = a.limit;
        report = a.report;
        lent = a.lent;
        entry =
            let x = subst (All (EntryOK ⊥ c.counters.fresh)) entries-are q.inv.entries in
            let y = subst (All EntryWhole) entries-are q.entries in
            entry-sound ⊥ c.counters.fresh (top_entry ls b o) x.0 y.0;
        short = z.0;
        others = z.1;
        solutions = solutions-sound ⊥ c.counters.fresh (sols k) q.inv.solutions q.solutions;
      }

  pub step-reached : {b' k' : List ℕ} {q : Run} {x' : Room} → Does (way_in strict m k) ls b k rep (taking c o) (rule (env_on s) (top_entry ls b o)) b' k' x'.report q × (x' ≡ judged_room m s b k (taking c o) o (room rep t l r w v))
      → Stepping strict m s b k c (room rep t l r w v) b' k' q x'
  step-reached {b'} {k'} {q} {x'} p =
      let d = p.0 in
      let rep' = x'.report in
      let E = env_on s in
      let g = a.goes in
      let n : Entry = top_entry ls b o in
      let σ = sols k in
      let one : perform_o (limits_in (way_in strict m k)) (rule E n) (outcome_by (refusal_of c.halt) rep (state below σ c.counters.fresh)) ≡ step_o (limits_in (way_in strict m k)) E (outcome_by (refusal_of c.halt) rep (state_of ls b k c))
      = rw (not-halted c.halt g, entries-are) (performs (limits_in (way_in strict m k)) (rule E n) below σ c.counters.fresh) in
      let two : perform_l (limits_in (way_in strict m k)) (rule E n) (outcome_by (refusal_of c.halt) rep (state below σ c.counters.fresh)) (levels_of k) ≡ step_l (limits_in (way_in strict m k)) E (outcome_by (refusal_of c.halt) rep (state_of ls b k c)) (levels_of k)
      = rw (not-halted c.halt g, entries-are) (levels-performed (limits_in (way_in strict m k)) (rule E n) below σ c.counters.fresh (levels_of k)) in
      let f : outcome_of ls b' k' rep' q ≡ step_o (limits_in (way_in strict m k)) E (outcome_of ls b k rep c) = ap (λ (x : Came). x.outcome) d.outcome ∙ one in
      record {
        standing = stands m (limits_in (way_in strict m k)) rep rep' (le-max_left m (length ls)) a.standing d.kept f;
        outcome = f;
        levels = ap (λ (x : Came). x.levels) d.outcome ∙ two;
        taken = d.taken;
        words = subst (λ (y : Top). ◌≡◌ {A = Words} (record { board = b'; book = k'; run = q }) (perform_w (way_in strict m k) ls (rule E (top_entry ls b y)) (record { board = b; book = k; run = taking c y }))) e (ap (λ (y : Came). y.words) d.outcome);
        room = subst (λ (y : Top). x' ≡ judged_room m s b k (taking c y) y (room rep t l r w v)) e p.1;
      }
