-- One operation, and then the rest of a rule: the proof of a rule in code follows the rule. Assumes nothing.
use Rattle.std.proofs.Common.{Option, None, Some, ◌≡◌, refl, sym, ap, ◌∙◌, ◌≢◌, Bool, true, false, true≢false, List, [], ◌∷◌, ◌++◌, ℕ, ◌+◌, ◌*◌, ◌≤◌, ◌<◌, le_refl, le_trans, arith, ltb, length, ne_eqb}
use Rattle.sizes.specs.Sizes.{most_numbers}
use Rattle.nodes.specs.Nodes.{node, Ty, kind, nodes_at}
use Rattle.nodes.specs.Lists.{All}
use Rattle.nodes.proofs.ListLaws.{cond_ind}
use Rattle.spelling.specs.declared.Triple.{Triple}
use Rattle.judgment.specs.declared.TypeError.{TypeError}
use Rattle.judgment.specs.declared.TypeError.TheVariants.{NoFreshNumber}
use Rattle.judgment.specs.Types.{unknown, can_unify}
use Rattle.judgment.specs.Solutions.{Solutions, find, solution_nodes, write_out, solved_unknowns}
use Rattle.judgment.specs.Board.{below, within, Entry, Board as Entries, Limits, Origin, Rule, done, refuse, fresh, push, solve, zonk, look, State, state, Outcome, finished, refused, room_for, solving}
use Rattle.judgment.specs.Chain.{board_of, solutions_of, counter_of, perform_o, refuse_o, fresh_o, push_o, solve_o, zonk_o, fresh_l, perform_l}
use Rattle.judgment.specs.Levels.{Levels, none_above}
use Rattle.judgment.proofs.Chained.{stays, levels-stay}
use Rattle.judgment.specs.Result.{Way, limits_in}
use Rattle.judgment.specs.Good.{Free}
use Rattle.judgment.proofs.SolutionLaws.{other-free}
use Rattle.board.specs.Board.{entries_of}
use Rattle.book.specs.Book.{sols, levels_of}
use Rattle.book.proofs.Holdings.{free_of}
use Rattle.operations.proofs.Latch.{halt-stops, not-halted, came, words-stay, refused-stays, levels-rest}
use Rattle.operations.specs.declared.Halt.{Halt}
use Rattle.operations.specs.declared.Run.{Run}
use Rattle.operations.specs.declared.Zonked.{Zonked}
use Rattle.operations.specs.State.{refusal_of, outcome_by, state_of, outcome_of, WellFormed, refuse_w, Came, came_to, perform_c, Does, Performs, PerformsOnBoard, PerformsOnBook, going, stopped, refused_run, made, fresh_run, Gives, Solves, SolveAsk, Zonks, Scoped, way_in}

-- ---- what an outcome holds, refused or not
counter-is : (h : Option TypeError) (rep : List ℕ) (Γ : Entries) (σ : Solutions) (n : ℕ) → counter_of (outcome_by h rep (state Γ σ n)) ≡ n
counter-is None rep Γ σ n = refl
counter-is (Some e) rep Γ σ n = refl

board-is : (h : Option TypeError) (rep : List ℕ) (Γ : Entries) (σ : Solutions) (n : ℕ) → board_of (outcome_by h rep (state Γ σ n)) ≡ Γ
board-is None rep Γ σ n = refl
board-is (Some e) rep Γ σ n = refl

solutions-are : (h : Option TypeError) (rep : List ℕ) (Γ : Entries) (σ : Solutions) (n : ℕ) → solutions_of (outcome_by h rep (state Γ σ n)) ≡ σ
solutions-are None rep Γ σ n = refl
solutions-are (Some e) rep Γ σ n = refl

-- a refused run stays, whatever rule comes
stays-so : (w : Way) (ls : List Triple) (b k rep : List ℕ) (c : Run) (p : Rule) → going c.halt ≡ false → perform_c w ls p (came_to ls b k rep c) ≡ came_to ls b k rep c
stays-so w ls b k rep c p g = came (sym (refused-stays (limits_in w) c.halt g rep (state_of ls b k c) p)) (words-stay w ls p (record { board = b; book = k; run = c }) g) (sym (levels-rest (limits_in w) c.halt g rep (state_of ls b k c) p (levels_of k)))

-- rules that are the same where a run goes on
pub same-going : (w : Way) (ls : List Triple) (b k rep : List ℕ) (c : Run) (p q : Rule) → (going c.halt ≡ true → p ≡ q) → perform_c w ls p (came_to ls b k rep c) ≡ perform_c w ls q (came_to ls b k rep c)
same-going w ls b k rep c p q e = by (going c.halt) refl
  where
    by : (g : Bool) → going c.halt ≡ g → perform_c w ls p (came_to ls b k rep c) ≡ perform_c w ls q (came_to ls b k rep c)
    by true g = ap (λ (r : Rule). perform_c w ls r (came_to ls b k rep c)) (e g)
    by false g = stays-so w ls b k rep c p g ∙ sym (stays-so w ls b k rep c q g)

-- a fresh number, and then the rest with it
pub fresh-is : (w : Way) (ls : List Triple) (b k rep : List ℕ) (c : Run) (o : Origin) (f : ℕ → Rule)
    → perform_c w ls (fresh o f) (came_to ls b k rep c) ≡ perform_c w ls (f c.counters.fresh) (perform_c w ls (fresh o (λ n. done)) (came_to ls b k rep c))
fresh-is w ls b k rep c o f =
    let n = counter-is (refusal_of c.halt) rep (entries_of ls b c.counters.board.entries) (sols k) c.counters.fresh in
    let O = outcome_of ls b k rep c in
    came (ap (λ (n : ℕ). perform_o (limits_in w) (f n) (fresh_o (limits_in w) O)) n) refl (ap (λ (n : ℕ). perform_l (limits_in w) (f n) (fresh_o (limits_in w) O) (fresh_l (limits_in w) o O (levels_of k))) n)

-- a refusal, whatever follows
stopped-so : (c : Run) (e : TypeError) → going (refused_run c e).halt ≡ false
stopped-so c e = cond_ind (λ (r : Run). going r.halt ≡ false) (going c.halt) (λ _. halt-stops e) (λ g. g)

refused-so : (L : Limits) (p : Rule) (e : TypeError) (ts : Ty) (o : Outcome) → perform_o L p (refuse_o L e ts o) ≡ refuse_o L e ts o
unfolding refuse_o
refused-so L p e ts (finished s) = stays L p e ts s
refused-so L p e ts (refused x us s) = stays L p x us s

refused-levels : (L : Limits) (p : Rule) (e : TypeError) (ts : Ty) (o : Outcome) (v : Levels) → perform_l L p (refuse_o L e ts o) v ≡ v
unfolding refuse_o
refused-levels L p e ts (finished s) v = levels-stay L p e ts s v
refused-levels L p e ts (refused x us s) v = levels-stay L p x us s v

pub refusal-stays : (w : Way) (ls : List Triple) (p : Rule) (e : TypeError) (ts : Ty) (b k rep : List ℕ) (c : Run)
    → perform_c w ls p (perform_c w ls (refuse e ts) (came_to ls b k rep c)) ≡ perform_c w ls (refuse e ts) (came_to ls b k rep c)
unfolding refuse_w
refusal-stays w ls p e ts b k rep c =
    came (refused-so (limits_in w) p e ts (outcome_of ls b k rep c)) (words-stay w ls p (record { board = b; book = k; run = refused_run c e }) (stopped-so c e))
    (refused-levels (limits_in w) p e ts (outcome_of ls b k rep c) (levels_of k))

pub done-does : {w : Way} {ls : List Triple} {b k rep : List ℕ} {c : Run} → WellFormed b k c → Does w ls b k rep c done b k rep c
done-does f = record { kept = f; taken = refl; outcome = refl }

module _ {w : Way} {ls : List Triple} {b k rep : List ℕ} {c : Run} {b₂ k₂ rep₂ : List ℕ} {c₂ : Run} where
  -- the same rule by another name, where a run goes on
  pub does-as : {p q : Rule} → (going c.halt ≡ true → p ≡ q) → Does w ls b k rep c p b₂ k₂ rep₂ c₂ → Does w ls b k rep c q b₂ k₂ rep₂ c₂
  does-as {p} {q} e d = record {
    kept = d.kept;
    taken = d.taken;
    outcome = d.outcome ∙ same-going w ls b k rep c p q e;
  }

  -- a look at the board
  pub look_then : {f : Entries → Rule} → Does w ls b k rep c (f (entries_of ls b c.counters.board.entries)) b₂ k₂ rep₂ c₂ → Does w ls b k rep c (look f) b₂ k₂ rep₂ c₂
  look_then {f} d = record {
    kept = d.kept;
    taken = d.taken;
    outcome =
        d.outcome
        ∙ came (ap (λ (Γ : Entries). perform_o (limits_in w) (f Γ) (outcome_of ls b k rep c)) (sym (board-is (refusal_of c.halt) rep (entries_of ls b c.counters.board.entries) (sols k) c.counters.fresh))) refl
        (ap (λ (Γ : Entries). perform_l (limits_in w) (f Γ) (outcome_of ls b k rep c) (levels_of k)) (sym (board-is (refusal_of c.halt) rep (entries_of ls b c.counters.board.entries) (sols k) c.counters.fresh)));
  }

  -- a write-out, and then the rest with the type that it left in the report
  pub zonk-then : {t : Ty} {to : ℕ} {rep₁ : List ℕ} {z : Zonked} {f : Ty → Rule} → WellFormed b k c → Zonks k rep c t to w.written rep₁ z
      → Does w ls b k rep₁ z.run (f (nodes_at rep₁ (2 * to) z.nodes)) b₂ k₂ rep₂ c₂ → Does w ls b k rep c (zonk t f) b₂ k₂ rep₂ c₂
  zonk-then {t} {to} {rep₁} {z} {f} h q d =
      let e = q.does w.scope ls b h in
      record {
        kept = d.kept;
        taken = d.taken ∙ e.taken;
        outcome =
            d.outcome
            ∙ same-going w ls b k rep₁ z.run (f (nodes_at rep₁ (2 * to) z.nodes)) (f (write_out (sols k) t)) (λ g. ap f (q.nodes g))
            ∙ ap (perform_c w ls (f (write_out (sols k) t))) e.outcome
            ∙ came (ap (λ (σ : Solutions). perform_o (limits_in w) (f (write_out σ t)) (zonk_o (limits_in w) t (outcome_of ls b k rep c))) (sym (solutions-are (refusal_of c.halt) rep (entries_of ls b c.counters.board.entries) (sols k) c.counters.fresh))) refl
            (ap (λ (σ : Solutions). perform_l (limits_in w) (f (write_out σ t)) (zonk_o (limits_in w) t (outcome_of ls b k rep c)) (levels_of k)) (sym (solutions-are (refusal_of c.halt) rep (entries_of ls b c.counters.board.entries) (sols k) c.counters.fresh)));
      }

  module _ {b₁ k₁ rep₁ : List ℕ} {c₁ : Run} where
    -- the operations of p, and then those of q
    pub does-then : {p q r : Rule} → Does w ls b k rep c p b₁ k₁ rep₁ c₁ → Does w ls b₁ k₁ rep₁ c₁ q b₂ k₂ rep₂ c₂
        → perform_c w ls r (came_to ls b k rep c) ≡ perform_c w ls q (perform_c w ls p (came_to ls b k rep c))
        → Does w ls b k rep c r b₂ k₂ rep₂ c₂
    does-then {p} {q} {r} d e h = record {
      kept = e.kept;
      taken = e.taken ∙ d.taken;
      outcome = e.outcome ∙ ap (perform_c w ls q) d.outcome ∙ sym h;
    }

    pub push-then : {e : Entry} {p : Rule} → Does w ls b k rep c (push e done) b₁ k₁ rep₁ c₁ → Does w ls b₁ k₁ rep₁ c₁ p b₂ k₂ rep₂ c₂ → Does w ls b k rep c (push e p) b₂ k₂ rep₂ c₂
    push-then {e} {p} x y = does-then {p = push e done} {q = p} {r = push e p} x y refl

    pub solve-then : {j : ℕ} {t : Ty} {p : Rule} → Does w ls b k rep c (solve j t done) b₁ k₁ rep₁ c₁ → Does w ls b₁ k₁ rep₁ c₁ p b₂ k₂ rep₂ c₂ → Does w ls b k rep c (solve j t p) b₂ k₂ rep₂ c₂
    solve-then {j} {t} {p} x y = does-then {p = solve j t done} {q = p} {r = solve j t p} x y refl

    pub fresh-then : {o : Origin} {f : ℕ → Rule} → Does w ls b k rep c (fresh o (λ n. done)) b₁ k₁ rep₁ c₁ → Does w ls b₁ k₁ rep₁ c₁ (f c.counters.fresh) b₂ k₂ rep₂ c₂ → Does w ls b k rep c (fresh o f) b₂ k₂ rep₂ c₂
    fresh-then {o} {f} x y = does-then {p = fresh o (λ n. done)} {q = f c.counters.fresh} {r = fresh o f} x y (fresh-is w ls b k rep c o f)

-- ---- what every rule leaves
-- an operation keeps what is well formed, whatever the run is told, the lines and the report
abbrev pub any_way : Way
any_way = record { written = 0; scope = λ k s. true }

module _ {b k : List ℕ} {c r : Run} where
  pub kept : {p : List ℕ → Rule} → Performs c p r → WellFormed b k c → WellFormed b k r
  kept d f = (d any_way [] b k [] f).kept

  pub kept-board : {b' : List ℕ} {p : List Triple → Rule} → PerformsOnBoard b c p b' r → WellFormed b k c → WellFormed b' k r
  kept-board d f = (d any_way [] k [] f).kept

  pub kept-book : {k' : List ℕ} {p : Rule} → PerformsOnBook k c p k' r → WellFormed b k c → WellFormed b k' r
  kept-book d f = (d any_way [] b [] f).kept

  pub kept-solved : {k' : List ℕ} {x : ℕ} {t : Ty} → Gives k c x t k' r → WellFormed b k c → WellFormed b k' r
  kept-solved d f = (d.2 any_way [] b [] refl f).kept

-- what a solution asks of a run, from the state that it comes to
pub solve-asks : {b k : List ℕ} {c : Run} {x : ℕ} {s : List ℕ} {at n : ℕ} → WellFormed b k c → 0 < n → at + 2 * n ≤ length s → (going c.halt ≡ true → Solves k c x (nodes_at s at n)) → SolveAsk k c x s at n
solve-asks f h l g = record { book = f.book; numbers = f.numbers; some = h; within = l; solves = g }

-- an outcome that goes on
abbrev goes : Outcome → Bool
goes (finished s) = true
goes (refused e ts s) = false

goes-is : (h : Halt) (rep : List ℕ) (s : State) → goes (outcome_by (refusal_of h) rep s) ≡ going h
unfolding refusal_of
goes-is h rep s = cond_ind (λ (r : Option TypeError). goes (outcome_by r rep s) ≡ going h) (going h) (λ e. sym e) (λ e. sym e)

goes_back : (L : Limits) (p : Rule) (o : Outcome) → goes (perform_o L p o) ≡ true → goes o ≡ true
goes_back L p (finished s) e = refl
goes_back L p (refused x ts s) e = absurd (true≢false (sym e ∙ ap goes (stays L p x ts s)))

-- a run that goes on after a rule went on before it
pub alive : {w : Way} {ls : List Triple} {b k rep : List ℕ} {c : Run} {p : Rule} {b' k' rep' : List ℕ} {r : Run} → Does w ls b k rep c p b' k' rep' r → going r.halt ≡ true → going c.halt ≡ true
alive {w} {ls} {b} {k} {rep} {c} {p} {b'} {k'} {rep'} {r} d g =
    sym (goes-is c.halt rep (state_of ls b k c))
    ∙ goes_back (limits_in w) p (outcome_of ls b k rep c) (ap (λ (x : Came). goes x.outcome) (sym d.outcome) ∙ goes-is r.halt rep' (state_of ls b' k' r) ∙ g)

-- the counter never falls
counter-grows : (L : Limits) (p : Rule) (o : Outcome) → counter_of o ≤ counter_of (perform_o L p o)
unfolding refuse_o fresh_o push_o solve_o zonk_o
counter-grows L done o = le_refl (counter_of o)
counter-grows L (refuse r ts) (finished (state Γ σ n)) = le_refl n
counter-grows L (refuse r ts) (refused x us (state Γ σ n)) = le_refl n
counter-grows L (fresh g f) o = le_trans (one o) (counter-grows L (f (counter_of o)) (fresh_o L o))
  where
    one : (o : Outcome) → counter_of o ≤ counter_of (fresh_o L o)
    one (finished (state Γ σ n)) =
        cond_ind (λ (x : Outcome). n ≤ counter_of x) (below n L.numbers) (λ _. omega arith) (λ _. le_refl n)
    one (refused x us (state Γ σ n)) = le_refl n
counter-grows L (push e p) o = le_trans (one o) (counter-grows L p (push_o L e o))
  where
    one : (o : Outcome) → counter_of o ≤ counter_of (push_o L e o)
    one (finished (state Γ σ n)) = cond_ind (λ (x : Outcome). n ≤ counter_of x) (room_for L e Γ) (λ _. le_refl n) (λ _. le_refl n)
    one (refused x us (state Γ σ n)) = le_refl n
counter-grows L (solve k t p) o = le_trans (one o) (counter-grows L p (solve_o L k t o))
  where
    by : (m : Option Ty) (n : ℕ) (x y z : Outcome) → n ≤ counter_of x → n ≤ counter_of y → n ≤ counter_of z → n ≤ counter_of (solving m t x y z)
    by None n x y z a c d = a
    by (Some u) n x y z a c d = cond_ind (λ (x : Outcome). n ≤ counter_of x) (can_unify t u) (λ _. c) (λ _. d)

    one : (o : Outcome) → counter_of o ≤ counter_of (solve_o L k t o)
    one (finished (state Γ σ n)) =
        by (find k σ) n _ _ _ (cond_ind (λ (x : Outcome). n ≤ counter_of x) (L.scope k t) (λ _. cond_ind (λ (x : Outcome). n ≤ counter_of x) (within (solution_nodes σ + length t) L.solved) (λ _. le_refl n) (λ _. le_refl n)) (λ _. le_refl n)) (le_refl n) (le_refl n)
    one (refused x us (state Γ σ n)) = le_refl n
counter-grows L (zonk t f) o = le_trans (one o) (counter-grows L (f (write_out (solutions_of o) t)) (zonk_o L t o))
  where
    one : (o : Outcome) → counter_of o ≤ counter_of (zonk_o L t o)
    one (finished (state Γ σ n)) = cond_ind (λ (x : Outcome). n ≤ counter_of x) (within (length (write_out σ t)) L.written) (λ _. le_refl n) (λ _. le_refl n)
    one (refused x us (state Γ σ n)) = le_refl n
counter-grows L (look f) o = counter-grows L (f (board_of o)) o

pub grows : {w : Way} {ls : List Triple} {b k rep : List ℕ} {c : Run} {p : Rule} {b' k' rep' : List ℕ} {r : Run} → Does w ls b k rep c p b' k' rep' r → c.counters.fresh ≤ r.counters.fresh
grows {w} {ls} {b} {k} {rep} {c} {p} {b'} {k'} {rep'} {r} d =
    let h = counter-grows (limits_in w) p (outcome_of ls b k rep c) in
    let x = counter-is (refusal_of c.halt) rep (entries_of ls b c.counters.board.entries) (sols k) c.counters.fresh in
    let y = ap (λ (x : Came). counter_of x.outcome) d.outcome in
    let z = counter-is (refusal_of r.halt) rep' (entries_of ls b' r.counters.board.entries) (sols k') r.counters.fresh in
    omega arith

-- ---- fresh numbers
-- a number that is not made is none of the solved unknowns
pub unmade-free : {b k : List ℕ} {c : Run} → WellFormed b k c → (j : ℕ) → c.counters.fresh ≤ j → Free (solved_unknowns (sols k)) (node 17 j)
unmade-free {k = k} {c = c} f j h = free_of k c.book j f.book (λ l. (f.unmade j h l).0)

pub fresh-made : (c r : Run) → r ≡ fresh_run c → going r.halt ≡ true → r.counters.fresh ≡ c.counters.fresh + 1
fresh-made c r e g = by (going c.halt) refl (ltb c.counters.fresh most_numbers) refl
  where
    by : (x : Bool) → going c.halt ≡ x → (y : Bool) → ltb c.counters.fresh most_numbers ≡ y → r.counters.fresh ≡ c.counters.fresh + 1
    by true p true q = let z : r ≡ made c = e ∙ rw (p, q) in ap (λ (d : Run). d.counters.fresh) z
    by true p false q = let z : r ≡ stopped c NoFreshNumber = e ∙ rw (p, q) in absurd (true≢false (sym g ∙ ap (λ (d : Run). going d.halt) z))
    by false p y q = let z : r ≡ c = e ∙ rw p in absurd (true≢false (sym g ∙ ap (λ (d : Run). going d.halt) z ∙ p))

-- making a number gives no solution
kept-sols : (L : Limits) (o : Outcome) → solutions_of (fresh_o L o) ≡ solutions_of o
unfolding fresh_o
kept-sols L (finished (state Γ σ n)) = cond_ind (λ (x : Outcome). solutions_of x ≡ σ) (below n L.numbers) (λ _. refl) (λ _. refl)
kept-sols L (refused e ts s) = refl

pub fresh-sols : {w : Way} {ls : List Triple} {b k rep : List ℕ} {c : Run} {o : Origin} {b' k' rep' : List ℕ} {r : Run} → Does w ls b k rep c (fresh o (λ n. done)) b' k' rep' r → sols k' ≡ sols k
fresh-sols {w} {ls} {b} {k} {rep} {c} {o} {b'} {k'} {rep'} {r} d =
    sym (solutions-are (refusal_of r.halt) rep' (entries_of ls b' r.counters.board.entries) (sols k') r.counters.fresh)
    ∙ ap (λ (x : Came). solutions_of x.outcome) d.outcome
    ∙ kept-sols (limits_in w) (outcome_of ls b k rep c)
    ∙ solutions-are (refusal_of c.halt) rep (entries_of ls b c.counters.board.entries) (sols k) c.counters.fresh

-- A pair of the number that c makes and of a later one may solve an older unknown; r is the run that solves it, and has
-- made both; its book has the solutions of before.
pub pair-solves : {b k : List ℕ} {c : Run} (k₂ : List ℕ) (r : Run) (kind x y : ℕ) → (kind ≡ 17 → ⊥) → WellFormed b k c → sols k₂ ≡ sols k → x < c.counters.fresh → Free (solved_unknowns (sols k)) (node 17 x) → c.counters.fresh ≤ y → y < r.counters.fresh
    → Solves k₂ r x (node kind 0 ∷ (unknown c.counters.fresh ++ unknown y))
pair-solves {k = k} {c = c} k₂ r kind x y pair f same known new l m =
    let newer : (z : ℕ) → c.counters.fresh ≤ z → Free (x ∷ solved_unknowns (sols k)) (node 17 z) = λ z h. (ne_eqb x z (λ e. (let d : x ≡ z = e in omega arith)), unmade-free f z h) in
    record {
      made = omega arith;
      unsolved = rw same new;
      free = rw same (other-free (x ∷ solved_unknowns (sols k)) kind 0 pair, (newer c.counters.fresh (le_refl c.counters.fresh), (newer y l, tt)));
      older = (λ e. absurd (pair e), (λ _. omega arith, (λ _. m, tt)));
    }

-- the pair has no universal
pub pair-plain : (d : ℕ) → d ≢ 18 → (x y : ℕ) → All (λ n. kind n ≢ 18) (node d 0 ∷ (unknown x ++ unknown y))
pair-plain d h x y = (h, (λ e. omega arith, (λ e. omega arith, tt)))

-- and what has none is in scope of either call
none_above-by : (m : ℕ) (t : Ty) → All (λ n. kind n ≢ 18) t → none_above m t ≡ true
unfolding none_above
none_above-by m [] h = refl
none_above-by m (n ∷ t) h = rw (ne_eqb (kind n) 18 h.0) (none_above-by m t h.1)

pub way-scoped : (strict : Bool) (m : ℕ) (k : List ℕ) → Scoped (way_in strict m k)
way-scoped true m k x t h = none_above-by (levels_of k x) t h
way-scoped false m k x t h = refl

-- ---- the report
-- while a run goes on, nothing hangs on what the report holds
pub report-free : {w : Way} {ls : List Triple} {b k rep rep₁ : List ℕ} {c : Run} {p : Rule} {b' k' rep' : List ℕ} {r : Run} → going c.halt ≡ true
    → Does w ls b k rep₁ c p b' k' rep' r → Does w ls b k rep c p b' k' rep' r
report-free {w} {ls} {b} {k} {rep} {rep₁} {c} {p} g d = record {
  kept = d.kept;
  taken = d.taken;
  outcome = d.outcome ∙ ap (perform_c w ls p) (came (same c.halt g) refl refl);
}
  where
    same : (h : Halt) → going h ≡ true → outcome_by (refusal_of h) rep₁ (state_of ls b k c) ≡ outcome_by (refusal_of h) rep (state_of ls b k c)
    same h e = rw (not-halted h e) refl
