-- Where the run of a sheet starts, in words. Assumes nothing.
use mathlib.Core.Path.{◌≡◌, refl, sym, ap, ap₂, ◌∙◌, subst, subst⁻¹}
use mathlib.Core.List.{List, [], ◌∷◌, ◌++◌, append-nil}
use Prim.Native.Nat.{ℕ, ◌+◌, ◌*◌, ◌-◌, ◌≤◌, ◌<◌}
use native.Mathlib.Nat.{add-zero, le-max_right}
use native.Mathlib.Omega.{arith}
use lib.ListN.{length, take, drop}
use lib.Seq.{sets}
use Rattle.sizes.specs.Sizes.{most_lines, most_nodes, board_size, book_size, book_stride}
use Rattle.nodes.specs.Nodes.{Ty, words, nodes_at}
use Rattle.nodes.specs.Lists.{All}
use Rattle.nodes.specs.Parts.{take_parts, drop_parts}
use Rattle.nodes.proofs.Laws.{length-nodes_at}
use Rattle.nodes.proofs.PartLaws.{take-drop}
use Rattle.spelling.specs.declared.Triple.{Triple}
use Rattle.kinds.specs.declared.Sort.{Sort}
use Rattle.kinds.specs.Kinds.{a_type, a_term, parts_of}
use Rattle.grammar.specs.Grammar.{part as item}
use Rattle.sheet.specs.declared.Places.{Places}
use Rattle.sheet.specs.Plan.{Term, part_line, nodes_of, Narrow, places_of, plan_of}
use Rattle.sheet.specs.Rows.{rows}
use Rattle.sheet.specs.Form.{Forms, IsPart}
use Rattle.sheet.proofs.Forming.{split}
use Rattle.sheet.proofs.TypeLines.{type-narrow}
use mathlib.Core.Bool.{Bool, true, false, true≢false}
use Rattle.judgment.specs.Board.{Limits, State, Outcome, finished, refused}
use Rattle.judgment.specs.Run.{run_from}
use Rattle.judgment.proofs.Plans.{plan-inv}
use Rattle.judgment.proofs.Short.{OutcomeShort, plan-short}
use Rattle.judgment.specs.Levels.{Levels, own_levels}
use Rattle.judgment.specs.Result.{start_of, book_words}
use Rattle.applying.specs.Applying.{env_on}
use Rattle.board.specs.declared.Board.{Board}
use Rattle.board.specs.Board.{term_at, entry_of, entries_of, Stacked, laid, grown, PushAsk}
use Rattle.board.proofs.Stacks.{laid-entries, laid-stacked, new-stacked, no-entries}
use Rattle.board.proofs.Terms.{part-lines}
use Rattle.book.specs.declared.Book.{Book}
use Rattle.book.specs.Book.{sols, levels_of}
use Rattle.book.proofs.Levels.{new-levels, new-level-words}
use Rattle.book.proofs.Words.{new-sols, new-booked, zero-at}
use Rattle.inference.proofs.Heads.{part-within}
use Rattle.inference.proofs.Written.{length-type_on, copied}
use Rattle.operations.specs.declared.Halt.{Halt}
use Rattle.operations.specs.declared.Run.{Run}
use Rattle.operations.specs.State.{no_halt, refusal_of, outcome_of, state_of, WellFormed, going}
use Rattle.operations.proofs.Latch.{not-halted, halted}
use Rattle.stepping.specs.Stepping.{Read, longest, Standing}
use Rattle.judgment.specs.Chain.{told}
use Rattle.checker.specs.Calling.{StartAsk}
use Rattle.stepping.proofs.Judging.{part-stands}
use Rattle.stepping.proofs.Reading.{read-few, read-formed, read-good, read_whole}
use Rattle.stepping.proofs.Reaching.{OutcomeOK, of-outcome, of-short}

-- a part that is all there is
no_lines : (ts : List Triple) → Forms ts [] → ts ≡ []
no_lines [] f = refl
no_lines (t ∷ ts) f = absurd f

alone : (x : Sort) (ts : List Triple) → IsPart x ts → take_parts parts_of ts 1 ≡ ts
alone x ts f =
    let q = no_lines (drop_parts parts_of ts 1) (split ts (item x ∷ []) [] tt f).1 in
    sym (append-nil (take_parts parts_of ts 1)) ∙ ap (λ (ys : List Triple). take_parts parts_of ts 1 ++ ys) (sym q) ∙ take-drop parts_of ts 1

module _ (s : List ℕ) (h : Read s) where
  abbrev ls : List Triple
  ls = rows s

  abbrev at : ℕ
  at = (places_of ls).expected

  expected-part : IsPart a_type (term_at ls at).lines
  unfolding term_at
  expected-part = (read-formed h).expected

  -- the expected type stands within the sheet
  pub expected-within : (at ≤ part_line ls at 1) × (part_line ls at 1 ≤ most_lines)
  expected-within =
      let l = part-stands a_type ls at expected-part in
      let w = part-within ls at 1 (omega arith) in
      let n = read-few h in
      let w1 = w.1 in
      (w.0, omega arith)

  pub copy_start : (t : List ℕ) → 2 * length ls ≤ length t → (let n = part_line ls at 1 - at in (0 + 2 * n ≤ length t) × (at + n ≤ length ls) × All Narrow (take n (drop at ls)))
  copy_start t m =
      let l = part-stands a_type ls at expected-part in
      let w = part-within ls at 1 (omega arith) in
      let n = read-few h in
      let w0 = w.0 in
      let w1 = w.1 in
      (omega arith, omega arith, type-narrow (take (part_line ls at 1 - at) (drop at ls)) (subst (IsPart a_type) (part-lines ls at) expected-part))

  -- the line of the term is a word
  pub term-word : (places_of ls).term < 4294967296
  unfolding places_of
  term-word = let w = expected-within.1 in omega arith

  -- what stands there is the plan's
  term_is : term_at ls (places_of ls).term ≡ (plan_of ls).term
  unfolding term_at plan_of
  term_is = ap (λ (xs : List Triple). (let e : Term = record { line = (places_of ls).term; lines = xs } in e)) (alone a_term (drop (places_of ls).term ls) (read-formed h).term)

  type-is : nodes_of (take (part_line ls at 1 - at) (drop at ls)) ≡ (plan_of ls).expected
  unfolding plan_of term_at
  type-is = ap nodes_of (sym (part-lines ls at))

  module _ (b k t : List ℕ) (lb : board_size ≤ length b) (lk : book_size ≤ length k) (n : ℕ) (ln : n ≡ part_line ls at 1 - at) (tn : nodes_at t 0 n ≡ nodes_of (take (part_line ls at 1 - at) (drop at ls))) where
    abbrev none : Board
    none = record { entries = 0; nodes = 0 }

    abbrev T : Ty
    T = nodes_at t 0 n

    abbrev words-after : List ℕ
    words-after = laid b none 5 (places_of ls).term T []

    abbrev begun : Run
    begun = record { counters = record { taken = 0; fresh = 0; board = grown none (n + 0) }; book = record { nodes = 0 }; halt = no_halt }

    few : 0 + (length T + 0) ≤ most_nodes
    few =
        let x = length-nodes_at t 0 n in
        let w0 = expected-within.0 in
        let w1 = expected-within.1 in
        omega arith

    stacked : Stacked words-after (grown none (n + 0))
    unfolding entry_of
    stacked =
        let e : length T + 0 ≡ n + 0 = ap (λ (m : ℕ). m + 0) (length-nodes_at t 0 n) in
        subst (λ (m : ℕ). Stacked words-after (grown none m)) e
        (laid-stacked (new-stacked b lb) 5 (places_of ls).term T [] (omega arith) few (λ _. sym (add-zero (length T))))

    pub begun-formed : WellFormed words-after (sets k 0 (book_words [] own_levels 0)) begun
    begun-formed = record {
      board = stacked;
      book = new-booked k lk;
      numbers = omega arith;
      unmade = λ j _ i. (let z = zero-at k lk (book_stride * j) (omega arith) in omega arith, new-level-words k lk j i);
    }

    pub begun-outcome : (rep : List ℕ) → outcome_of ls words-after (sets k 0 (book_words [] own_levels 0)) rep begun ≡ finished (start_of ls)
    unfolding entry_of
    begun-outcome rep =
        rw (not-halted no_halt refl, laid-entries (new-stacked b lb) 5 (places_of ls).term T [] (omega arith) few ls, no-entries ls b, new-sols k lk, term_is, tn, type-is) refl

-- what the code reads and writes, one after the other
module _ {s b k t : List ℕ} (a : StartAsk s b k t) {p : Places} (ep : p ≡ places_of (rows s)) {e : ℕ} (ee : e ≡ part_line (rows s) p.expected 1) where
  count-is : e - p.expected ≡ part_line (rows s) (places_of (rows s)).expected 1 - (places_of (rows s)).expected
  count-is = rw (ee, ep) refl

  pub begins : p.expected ≤ e
  begins = rw (ee, ep) (expected-within s a.plan).0

  pub copy-asks : (0 + 2 * (e - p.expected) ≤ length t) × (p.expected + (e - p.expected) ≤ length (rows s)) × All Narrow (take (e - p.expected) (drop p.expected (rows s)))
  copy-asks = rw (ee, ep) (copy_start s a.plan t a.type)

  pub line_word : p.term < 4294967296
  line_word = rw ep (term-word s a.plan)

  module _ {t' : List ℕ} (et : t' ≡ sets t 0 (words (nodes_of (take (e - p.expected) (drop p.expected (rows s)))))) (m : length t' ≡ length t) {d : Board} (ed : d ≡ record { entries = 0; nodes = 0 }) where
    pub push-asks : PushAsk b d t' 0 (e - p.expected) t' 0 0
    push-asks =
        let w0 = copy-asks.0 in
        let w1 = (expected-within s a.plan).1 in
        let c = count-is in
        rw ed (record { room = a.board; few = omega arith; fits = omega arith; left = omega arith; right = omega arith })

    expected-nodes : nodes_at t' 0 (e - p.expected) ≡ nodes_of (take (part_line (rows s) (places_of (rows s)).expected 1 - (places_of (rows s)).expected) (drop (places_of (rows s)).expected (rows s)))
    expected-nodes =
        let T : Ty = nodes_of (take (e - p.expected) (drop p.expected (rows s))) in
        let w0 = copy-asks.0 in
        let y : nodes_at t' 0 (e - p.expected) ≡ T = copied t T (e - p.expected) (length-type_on s p.expected (e - p.expected) copy-asks.1) (omega arith) et in
        let z : T ≡ nodes_of (take (part_line (rows s) (places_of (rows s)).expected 1 - (places_of (rows s)).expected) (drop (places_of (rows s)).expected (rows s))) = rw (ee, ep) refl in
        y ∙ z

    pub begun-is : {b' k' : List ℕ} {q : Board} {bk : Book} → (b' ≡ laid b d 5 p.term (nodes_at t' 0 (e - p.expected)) (nodes_at t' 0 0)) × (q ≡ grown d (e - p.expected + 0)) → k' ≡ sets k 0 (book_words [] own_levels 0) → bk ≡ record { nodes = 0 } → {h : Halt} → h ≡ no_halt
        → (let r : Run = record { counters = record { taken = 0; fresh = 0; board = q }; book = bk; halt = h } in WellFormed b' k' r × (r.counters.taken ≡ 0) × (levels_of k' ≡ own_levels) × ((rep : List ℕ) → outcome_of (rows s) b' k' rep r ≡ finished (start_of (rows s))))
    unfolding nodes_at
    begun-is u ek eb eh =
        let f = begun-formed s a.plan b k t' a.board a.book (e - p.expected) count-is expected-nodes in
        let o = begun-outcome s a.plan b k t' a.board a.book (e - p.expected) count-is expected-nodes in
        let pt : p.term ≡ (places_of (rows s)).term = ap (λ (x : Places). x.term) ep in
        (rw (u.0, u.1, ek, eb, ed, pt, eh) f, refl, rw ek (new-levels k a.book), λ rep. rw (u.0, u.1, ek, ed, pt, eh) (o rep))

-- what stands in the words is where the run of the sheet starts
abbrev state_in : Outcome → State
state_in (finished s) = s
state_in (refused e ts s) = s

abbrev goes_on : Outcome → Bool
goes_on (finished s) = true
goes_on (refused e ts s) = false

pub start_is : (s b k : List ℕ) (c : Run) → WellFormed b k c × (c.counters.taken ≡ 0) × (levels_of k ≡ own_levels) × ((rep : List ℕ) → outcome_of (rows s) b k rep c ≡ finished (start_of (rows s))) → (going c.halt ≡ true) × (state_of (rows s) b k c ≡ start_of (rows s))
start_is s b k c q = go (going c.halt) refl
  where
    go : (g : Bool) → going c.halt ≡ g → (going c.halt ≡ true) × (state_of (rows s) b k c ≡ start_of (rows s))
    go true g = (g, ap state_in (rw (not-halted c.halt g) at (q.3 [])))
    go false g = absurd (true≢false (sym (ap goes_on (rw (halted c.halt g) at (q.3 [])))))

pub start-stands : (m : ℕ) (s b k : List ℕ) (c : Run) → Read s → WellFormed b k c × (c.counters.taken ≡ 0) × (levels_of k ≡ own_levels) × ((rep : List ℕ) → outcome_of (rows s) b k rep c ≡ finished (start_of (rows s))) → Standing m s b k c × (going c.halt ≡ true)
start-stands m s b k c h q =
    let p = plan_of (rows s) in
    let w = read_whole h in
    let e = start_is s b k c q in
    let o = of-outcome ⊥ (refusal_of c.halt) [] (entries_of (rows s) b c.counters.board.entries) (sols k) c.counters.fresh
    (subst⁻¹ (OutcomeOK ⊥) (q.3 []) (record { inv = plan-inv p (read-good h); entries = (w.1, tt); solutions = tt })) in
    let z = longest m s in
    let v = of-short z (refusal_of c.halt) [] (entries_of (rows s) b c.counters.board.entries) (sols k) c.counters.fresh
    (subst⁻¹ (OutcomeShort z) (q.3 []) ((plan-short z (rows s) (le-max_right m (length (rows s)))).1, tt)) in
    (record { plan = h; formed = q.0; good = o; short = v }, e.0)

-- its run is the sheet's
pub start-told : (L : Levels → Limits) (s b k : List ℕ) (c : Run) (C : ℕ) → WellFormed b k c × (c.counters.taken ≡ 0) × (levels_of k ≡ own_levels) × ((rep : List ℕ) → outcome_of (rows s) b k rep c ≡ finished (start_of (rows s)))
    → told 0 own_levels (run_from L (env_on s) C own_levels (start_of (rows s))) ≡ told c.counters.taken (levels_of k) (run_from L (env_on s) (C - c.counters.taken) (levels_of k) (state_of (rows s) b k c))
start-told L s b k c C q =
    let e = start_is s b k c q in
    let z : C ≡ C - 0 = omega arith in
    sym (ap (λ (v : Levels). told c.counters.taken v (run_from L (env_on s) (C - c.counters.taken) v (state_of (rows s) b k c))) q.2
    ∙ ap₂ (λ (m : ℕ) (x : State). told m own_levels (run_from L (env_on s) (C - m) own_levels x)) q.1 e.1 ∙ ap (λ (m : ℕ). told 0 own_levels (run_from L (env_on s) m own_levels (start_of (rows s)))) (sym z))
