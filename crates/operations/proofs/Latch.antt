-- A run that was refused stays; what each operation leaves of one that goes on. Assumes nothing.
use Rattle.std.proofs.Common.{Some, None, ◌≡◌, refl, sym, ap, ap₂, ◌∙◌, subst, ◌≢◌, Bool, true, false, ◌||◌, List, [], ◌∷◌, ℕ, ◌+◌, ◌*◌, ◌≤◌, ◌<◌, add-one, arith, length, ltb, leb-true, ltb-true, lt-ltb, le-ltb}
use Rattle.sizes.specs.Sizes.{most_nodes, most_numbers, book_base}
use Rattle.nodes.specs.Nodes.{Ty, nodes_at}
use Rattle.nodes.specs.Lists.{All}
use Rattle.nodes.proofs.Laws.{length-nodes_at}
use Rattle.nodes.proofs.ListLaws.{cond_ind}
use Rattle.spelling.specs.declared.Triple.{Triple}
use Rattle.judgment.specs.declared.TypeError.{TypeError}
use Rattle.judgment.specs.declared.TypeError.TheVariants.{UnboundVariable, UnboundDataConstructor, NotAFunction, ArityMismatch, SubtypingError, TypeUnificationError, InstantiationError, IntrinsicArityMismatch, UnknownIntrinsic, BoardFull, TypeTooLong, NoFreshNumber, SolutionsFull, OutOfScope}
use Rattle.judgment.specs.Types.{is_node, occurs}
use Rattle.judgment.proofs.TypeLaws.{is_node-true}
use Rattle.judgment.specs.Solutions.{find, solution_nodes, write_out}
use Rattle.judgment.specs.Board.{Entry, entry_nodes, Limits, Origin, own, universal, splits, Rule, done, refuse, fresh, push, solve, zonk, look, State, Outcome, finished, refused}
use Rattle.judgment.specs.Chain.{perform_o, refuse_o, fresh_o, push_o, solve_o, fresh_l, solve_l, perform_l}
use Rattle.judgment.proofs.Chained.{stays, levels-stay}
use Rattle.judgment.specs.Result.{Way, limits_in}
use Rattle.judgment.specs.Levels.{Levels, put, lower}
use Rattle.judgment.proofs.Invariant.{Earlier}
use Rattle.judgment.proofs.SolutionLaws.{find_none}
use Rattle.board.specs.declared.Board.{Board}
use Rattle.board.specs.Board.{entry_of, entries_of, Slot, slot_of}
use Rattle.board.specs.Board.{fitting as fits_board, laid, grown as board_grown}
use Rattle.board.proofs.Stacks.{slot-nodes, laid-entries, laid-stacked, fits-room, fits-facts}
use Rattle.book.specs.declared.Book.{Book}
use Rattle.book.specs.Book.{start_of, sols, level_word_of, level_of, levels_of, levelled, lowered, Listed, Booked}
use Rattle.book.specs.Book.{fitting as fits_book, given, grown as book_grown}
use Rattle.book.proofs.Holdings.{nodes-count, given-sols, given-booked, start-old}
use Rattle.book.proofs.Levels.{level-start, level-sols, level-booked, level-other, level-below, lowered-start, lowered-sols, lowered-booked, lowered-other, given-level, levels-put, levels-lowered, levels-given}
use Rattle.operations.specs.declared.Halt.{Halt}
use Rattle.operations.specs.declared.Run.{Run}
use Rattle.operations.specs.State.{reported, halt_of, error_of, refusal_of, outcome_by, state_of, WellFormed, Words, refuse_w, fresh_w, push_w, solve_w, zonk_w, perform_w, Came, Does, Performs, going, stopped, refused_run, made, fresh_run, makes, fresh_words, with_board, Pushes, PushAsk, with_book, Makes, Gives, Made, Solves, SolveAsk}

-- an error's words are those of no other, and none of them is a run that goes on
halt-is : (e : TypeError) → (going (halt_of e) ≡ false) × (error_of (halt_of e) ≡ e)
unfolding error_of
halt-is (UnboundVariable x) = (refl, refl)
halt-is (UnboundDataConstructor x) = (refl, refl)
halt-is (NotAFunction n) = (refl, refl)
halt-is (ArityMismatch e a) = (refl, refl)
halt-is (SubtypingError l r) = (refl, refl)
halt-is TypeUnificationError = (refl, refl)
halt-is (InstantiationError k n) = (refl, refl)
halt-is (IntrinsicArityMismatch a) = (refl, refl)
halt-is (UnknownIntrinsic x) = (refl, refl)
halt-is BoardFull = (refl, refl)
halt-is TypeTooLong = (refl, refl)
halt-is NoFreshNumber = (refl, refl)
halt-is SolutionsFull = (refl, refl)
halt-is OutOfScope = (refl, refl)

pub halt-stops : (e : TypeError) → going (halt_of e) ≡ false
halt-stops e = (halt-is e).0

pub error-is : (e : TypeError) → error_of (halt_of e) ≡ e
error-is e = (halt-is e).1

-- a run that goes on was not refused, one that doesn't was, and by what it was refused for
pub not-halted : (h : Halt) → going h ≡ true → refusal_of h ≡ None
unfolding refusal_of
not-halted h g = rw g refl

pub halted : (h : Halt) → going h ≡ false → refusal_of h ≡ Some (error_of h)
unfolding refusal_of
halted h g = rw g refl

pub refused-is : (e : TypeError) (rep : List ℕ) (s : State) → outcome_by (refusal_of (halt_of e)) rep s ≡ refused e (nodes_at rep 0 (reported e)) s
refused-is e rep s = rw (halted (halt_of e) (halt-stops e), error-is e) refl

-- an outcome, words and levels, each by its own equation
pub came : {o o' : Outcome} {x x' : Words} {v v' : Levels} → o ≡ o' → x ≡ x' → v ≡ v' → ◌≡◌ {A = Came} (record { outcome = o; words = x; levels = v }) (record { outcome = o'; words = x'; levels = v' })
came {o} {o'} {x} {x'} {v} {v'} e f h =
    ap₂ (λ (o : Outcome) (x : Words). (let c : Came = record { outcome = o; words = x; levels = v } in c)) e f
    ∙ ap (λ (v : Levels). (let c : Came = record { outcome = o'; words = x'; levels = v } in c)) h

-- a refused outcome stays, and so do its words
pub words-stay : (w : Way) (ls : List Triple) (p : Rule) (x : Words) → going x.run.halt ≡ false → perform_w w ls p x ≡ x
unfolding refuse_w fresh_w push_w solve_w zonk_w
words-stay w ls done x g = refl
words-stay w ls (refuse e ts) x g = rw g
words-stay w ls (fresh own f) x g = rw g (words-stay w ls (f x.run.counters.fresh) x g)
words-stay w ls (fresh universal f) x g = rw g (words-stay w ls (f x.run.counters.fresh) x g)
words-stay w ls (fresh (splits j) f) x g = rw g (words-stay w ls (f x.run.counters.fresh) x g)
words-stay w ls (push e p) x g = rw g (words-stay w ls p x g)
words-stay w ls (solve k t p) x g = cond_ind (λ (y : Words). perform_w w ls p y ≡ x) (w.scope k t) (λ _. rw g (words-stay w ls p x g)) (λ _. rw g (words-stay w ls p x g))
words-stay w ls (zonk t f) x g = rw g (words-stay w ls (f (write_out (sols x.book) t)) x g)
words-stay w ls (look f) x g = words-stay w ls (f (entries_of ls x.board x.run.counters.board.entries)) x g

pub refused-stays : (L : Limits) (h : Halt) → going h ≡ false → (rep : List ℕ) (s : State) (p : Rule) → outcome_by (refusal_of h) rep s ≡ perform_o L p (outcome_by (refusal_of h) rep s)
refused-stays L h e rep s p = rw (halted h e) (sym (stays L p (error_of h) (nodes_at rep 0 (reported (error_of h))) s))

pub levels-rest : (L : Limits) (h : Halt) → going h ≡ false → (rep : List ℕ) (s : State) (p : Rule) (v : Levels) → v ≡ perform_l L p (outcome_by (refusal_of h) rep s) v
levels-rest L h e rep s p v = rw (halted h e) (sym (levels-stay L p (error_of h) (nodes_at rep 0 (reported (error_of h))) s v))

-- ---- unknowns that were made
pub older-listed : (t : Ty) {n : ℕ} → n ≤ most_numbers → All (Made n) t → All Listed t
older-listed [] h a = tt
older-listed (x ∷ t) h a = (λ e. (let z = a.0 e in omega arith), older-listed t h a.1)

older-not : (n j : ℕ) (t : Ty) → n ≤ j → All (Made n) t → occurs j t ≡ false
unfolding occurs
older-not n j [] h a = refl
older-not n j (x ∷ t) h a = go (is_node 17 j x) refl (older-not n j t h a.1)
  where
    go : (y : Bool) → is_node 17 j x ≡ y → occurs j t ≡ false → (y || occurs j t) ≡ false
    go true e r = absurd (let z = subst (Made n) (is_node-true 17 j x e) a.0 refl in omega arith)
    go false e r = r

module _ {b k : List ℕ} {c : Run} (f : WellFormed b k c) (w : Way) (ls : List Triple) (rep : List ℕ) where
  abbrev at : Run → Words
  at d = record { board = b; book = k; run = d }

  -- nothing is done once a run was refused
  pub stays-does : going c.halt ≡ false → (p : Rule) → Does w ls b k rep c p b k rep c
  stays-does e p = record {
    kept = f;
    taken = refl;
    outcome = came (refused-stays (limits_in w) c.halt e rep (state_of ls b k c) p) (sym (words-stay w ls p (at c) e)) (levels-rest (limits_in w) c.halt e rep (state_of ls b k c) p (levels_of k));
  }

  stopped-kept : (e : TypeError) → WellFormed b k (stopped c e)
  stopped-kept e = record { board = f.board; book = f.book; numbers = f.numbers; unmade = f.unmade }

  -- an operation that a run does not pass: p is the rule, e its error
  stops-does : going c.halt ≡ true → (e : TypeError) (p : Rule)
      → refused e (nodes_at rep 0 (reported e)) (state_of ls b k c) ≡ perform_o (limits_in w) p (finished (state_of ls b k c))
      → at (stopped c e) ≡ perform_w w ls p (at c) → levels_of k ≡ perform_l (limits_in w) p (finished (state_of ls b k c)) (levels_of k)
      → Does w ls b k rep c p b k rep (stopped c e)
  stops-does g e p q x v = record {
    kept = stopped-kept e;
    taken = refl;
    outcome = came (refused-is e rep (state_of ls b k c) ∙ q ∙ rw (not-halted c.halt g) refl) x (v ∙ rw (not-halted c.halt g) refl);
  }

  pub refuse-does : going c.halt ≡ true → (e : TypeError) → Does w ls b k rep c (refuse e (nodes_at rep 0 (reported e))) b k rep (stopped c e)
  unfolding refuse_o refuse_w
  refuse-does g e = stops-does g e (refuse e (nodes_at rep 0 (reported e))) refl (rw g) refl

  -- ---- a fresh number
  no_word : (o : Origin) → going c.halt ≡ true → ltb c.counters.fresh most_numbers ≡ false → fresh_words o k c ≡ k
  no_word own g e = refl
  no_word universal g e = rw (g, e)
  no_word (splits x) g e = rw (g, e)

  no-level : (o : Origin) → ltb c.counters.fresh most_numbers ≡ false → levels_of k ≡ fresh_l (limits_in w) o (finished (state_of ls b k c)) (levels_of k)
  unfolding fresh_l
  no-level own e = refl
  no-level universal e = rw e
  no-level (splits x) e = rw e

  fresh-stops : (o : Origin) → going c.halt ≡ true → ltb c.counters.fresh most_numbers ≡ false → Does w ls b k rep c (fresh o (λ n. done)) b k rep (stopped c NoFreshNumber)
  unfolding fresh_o fresh_w nodes_at
  fresh-stops o g e = stops-does g NoFreshNumber (fresh o (λ n. done)) (rw e) (rw (no_word o g e, g, e)) (no-level o e)

  -- a number that is made, k' being the book with its level
  fresh-by : (o : Origin) (k' : List ℕ) → going c.halt ≡ true → ltb c.counters.fresh most_numbers ≡ true → fresh_words o k c ≡ k' → Booked k' c.book → sols k' ≡ sols k
      → ((j : ℕ) → c.counters.fresh < j → j < most_numbers → (start_of k' j < book_base) × (level_word_of k' j ≡ 0)) → levels_of k' ≡ fresh_l (limits_in w) o (finished (state_of ls b k c)) (levels_of k)
      → Does w ls b k rep c (fresh o (λ n. done)) b k' rep (made c)
  unfolding fresh_o fresh_w
  fresh-by o k' g e q booked same unmade v = record {
    kept = record {
      board = f.board;
      book = booked;
      numbers = let l = ltb-true c.counters.fresh most_numbers e in omega arith;
      unmade = λ j h. unmade j (omega arith);
    };
    taken = refl;
    outcome = came (rw (not-halted c.halt g, e, same, add-one c.counters.fresh)) (rw (q, g, e)) (v ∙ rw (not-halted c.halt g) refl);
  }

  -- of the level m
  fresh-level : (o : Origin) (m : ℕ) → m < most_numbers → fresh_words o k c ≡ makes k c m → put c.counters.fresh m (levels_of k) ≡ fresh_l (limits_in w) o (finished (state_of ls b k c)) (levels_of k) → going c.halt ≡ true → ltb c.counters.fresh most_numbers ≡ true
      → Does w ls b k rep c (fresh o (λ n. done)) b (levelled k c.counters.fresh m) rep (made c)
  fresh-level o m h q v g e =
      let l = ltb-true c.counters.fresh most_numbers e in
      fresh-by o (levelled k c.counters.fresh m) g e (q ∙ rw (g, e)) (level-booked k c.counters.fresh m l f.book h) (level-sols k c.counters.fresh m l)
      (λ j i n.
      let u = f.unmade j (omega arith) n in
      let z : j ≢ c.counters.fresh = λ x. omega arith in
      (rw (level-start k c.counters.fresh m j) u.0, level-other k c.counters.fresh m j z ∙ u.1))
      (levels-put k c.counters.fresh m f.book.room l ∙ v)

  pub fresh-does : (o : Origin) → Earlier most_numbers o → Does w ls b k rep c (fresh o (λ n. done)) b (fresh_words o k c) rep (fresh_run c)
  unfolding fresh_l
  fresh-does o x = by (going c.halt) refl (ltb c.counters.fresh most_numbers) refl
    where
      same : (k' : List ℕ) (r : Run) → fresh_words o k c ≡ k' → fresh_run c ≡ r → Does w ls b k rep c (fresh o (λ n. done)) b k' rep r
          → Does w ls b k rep c (fresh o (λ n. done)) b (fresh_words o k c) rep (fresh_run c)
      same k' r p q d = rw (p, q) d

      stays : (o : Origin) → going c.halt ≡ false → fresh_words o k c ≡ k
      stays own g = refl
      stays universal g = rw g
      stays (splits x) g = rw g

      makes-level : (o : Origin) → Earlier most_numbers o → going c.halt ≡ true → ltb c.counters.fresh most_numbers ≡ true → Does w ls b k rep c (fresh o (λ n. done)) b (fresh_words o k c) rep (made c)
      makes-level own x g e = fresh-by own k g e refl f.book refl (λ j i n. f.unmade j (omega arith) n) refl
      makes-level universal x g e = let d = fresh-level universal 0 (omega arith) refl (rw e) g e in rw (g, e) d
      makes-level (splits y) x g e = let d = fresh-level (splits y) (level_of k y) (level-below k y f.book x) refl (rw e) g e in rw (g, e) d

      by : (y : Bool) → going c.halt ≡ y → (z : Bool) → ltb c.counters.fresh most_numbers ≡ z → Does w ls b k rep c (fresh o (λ n. done)) b (fresh_words o k c) rep (fresh_run c)
      by true g true e = same (fresh_words o k c) (made c) refl (rw (g, e)) (makes-level o x g e)
      by true g false e = same k (stopped c NoFreshNumber) (no_word o g e) (rw (g, e)) (fresh-stops o g e)
      by false g z e = same k c (stays o g) (rw g) (stays-does g (fresh o (λ n. done)))

  -- ---- a push
  module _ (kind number : ℕ) (t u : Ty) (slots : (ls : List Triple) → slot_of (entry_of ls kind number t u) ≡ record { kind = kind; number = number; left = t; right = u }) (g : going c.halt ≡ true) where
    abbrev entry : List Triple → Entry
    entry ls = entry_of ls kind number t u

    abbrev n : ℕ
    n = length t + length u

    counts : (ls : List Triple) → entry_nodes (entry ls) ≡ n
    counts ls = slot-nodes (entry ls) ∙ ap (λ (s : Slot). length s.left + length s.right) (slots ls)

    pub push-stops : fits_board c.counters.board n ≡ false → Does w ls b k rep c (push (entry ls) done) b k rep (stopped c BoardFull)
    unfolding push_o push_w nodes_at
    push-stops e = stops-does g BoardFull (push (entry ls) done) (rw (fits-room ls f.board (limits_in w) refl refl (entry ls) n (counts ls), e)) (rw (slots ls, g, e)) refl

    pub push-does : fits_board c.counters.board n ≡ true → Does w ls b k rep c (push (entry ls) done) (laid b c.counters.board kind number t u) k rep (with_board c (board_grown c.counters.board n))
    unfolding push_o push_w
    push-does e =
        let few = (fits-facts c.counters.board n e).0 in
        let fits = (fits-facts c.counters.board n e).1 in
        record {
          kept = record {
            board = laid-stacked f.board kind number t u few fits counts;
            book = f.book;
            numbers = f.numbers;
            unmade = f.unmade;
          };
          taken = refl;
          outcome = came (rw (not-halted c.halt g, fits-room ls f.board (limits_in w) refl refl (entry ls) n (counts ls), e, laid-entries f.board kind number t u few fits ls)) (rw (slots ls, g, e)) refl;
        }

  -- ---- a solution
  module _ (x : ℕ) (t : Ty) (some : 0 < length t) (s : Solves k c x t) (g : going c.halt ≡ true) where
    none_yet : find x (sols k) ≡ None
    none_yet = find_none (sols k) x s.unsolved

    used : solution_nodes (sols k) ≡ c.book.nodes
    used = let q = nodes-count k (book_base + 2 * c.book.nodes) book_base (sols k) f.book.holds in omega arith

    -- out of scope
    pub scope-stops : w.scope x t ≡ false → Does w ls b k rep c (solve x t done) b k rep (stopped c OutOfScope)
    unfolding solve_o solve_w solve_l nodes_at
    scope-stops sc = stops-does g OutOfScope (solve x t done) (rw (none_yet, sc)) (rw (sc, g)) (rw (none_yet, sc))

    pub solve-stops : w.scope x t ≡ true → fits_book c.book (length t) ≡ false → Does w ls b k rep c (solve x t done) b k rep (stopped c SolutionsFull)
    unfolding solve_o solve_w solve_l nodes_at
    solve-stops sc e = stops-does g SolutionsFull (solve x t done) (rw (none_yet, sc, used, e)) (rw (sc, g, e)) (rw (none_yet, sc, used, e))

    pub solve-does : w.scope x t ≡ true → fits_book c.book (length t) ≡ true
        → Does w ls b k rep c (solve x t done) b (lowered (level_of k x) t (given k c.book x t)) rep (with_book c (book_grown c.book (length t)))
    unfolding solve_o solve_w solve_l
    solve-does sc e =
        let small : x < most_numbers = let l = s.made in let m = f.numbers in omega arith in
        let fits : c.book.nodes + length t ≤ most_nodes = leb-true (c.book.nodes + length t) most_nodes e in
        let listed = older-listed t f.numbers s.older in
        let q = lowered-sols (level_of k x) t (given k c.book x t) listed ∙ given-sols k c.book x t f.book small fits some s.unsolved in
        let gb = given-booked k c.book x t f.book small fits some s.unsolved s.free in
        record {
          kept = record {
            board = f.board;
            book = lowered-booked (level_of k x) t (given k c.book x t) listed gb (level-below k x f.book small);
            numbers = f.numbers;
            unmade = λ j h l.
                let m = s.made in
                let r = f.book.room in
                let u = f.unmade j h l in (
                  rw (lowered-start (level_of k x) t (given k c.book x t) listed j, start-old k c.book x t small (omega arith) j l (λ y. omega arith)) u.0,
                  lowered-other (level_of k x) t (given k c.book x t) j (older-not c.counters.fresh j t h s.older) ∙ given-level k c.book x t small (omega arith) j l ∙ u.1,
                );
          };
          taken = refl;
          outcome = came (rw (not-halted c.halt g, none_yet, sc, used, e, q)) (rw (sc, g, e)) (levels-lowered (level_of k x) t (given k c.book x t) gb.room listed ∙ ap (lower (level_of k x) t) (levels-given k c.book x t small (omega arith)) ∙ rw (not-halted c.halt g, none_yet, sc, used, e));
        }

-- ---- what the functions return
pub refused-run : (c : Run) (e : TypeError) → going c.halt ≡ true → refused_run c e ≡ stopped c e
refused-run c e g = rw g

pub stays-run : (c : Run) (e : TypeError) → going c.halt ≡ false → refused_run c e ≡ c
stays-run c e g = rw g

-- what refusing returns
abbrev Refuses : Run → TypeError → Run → Type 0
Refuses c e r = (r ≡ refused_run c e) × Performs c (λ rep. refuse e (nodes_at rep 0 (reported e))) r

-- the first refusal stays
pub refuse-stays : (c : Run) (e : TypeError) → going c.halt ≡ false → Refuses c e c
refuse-stays c e g = (sym (stays-run c e g), λ w ls b k rep f. stays-does f w ls rep g (refuse e (nodes_at rep 0 (reported e))))

pub refuse-returns : (c : Run) (e : TypeError) (h : Halt) → going c.halt ≡ true → h ≡ halt_of e → Refuses c e (record { counters = c.counters; book = c.book; halt = h })
refuse-returns c e h g q = rw q (sym (refused-run c e g), λ w ls b k rep f. refuse-does f w ls rep g e)

-- a fresh number, by the two tests
module _ (c : Run) where
  pub made-run : going c.halt ≡ true → c.counters.fresh < most_numbers → made c ≡ fresh_run c
  made-run g l = rw (g, lt-ltb c.counters.fresh most_numbers l) refl

  pub full-run : {r : Run} → going c.halt ≡ true → most_numbers ≤ c.counters.fresh → r ≡ refused_run c NoFreshNumber → r ≡ fresh_run c
  full-run g l q = rw (q, g, le-ltb c.counters.fresh most_numbers l) refl

  pub halted-run : {r : Run} → going c.halt ≡ false → r ≡ refused_run c NoFreshNumber → r ≡ fresh_run c
  halted-run g q = rw (q, g) refl

-- a number of its own level, and one that a level is written for
pub fresh-returns : (c r : Run) → r ≡ fresh_run c → (r ≡ fresh_run c) × Performs c (λ rep. fresh own (λ n. done)) r
fresh-returns c r e = (e, λ w ls b k rep f. rw e (fresh-does f w ls rep own tt))

pub level-returns : {k k' : List ℕ} {c r : Run} (o : Origin) → Earlier most_numbers o → r ≡ fresh_run c → k' ≡ fresh_words o k c → Makes k c o k' r
level-returns o x e q = (e, q, λ w ls b rep f. rw (e, q) (fresh-does f w ls rep o x))

module _ {c : Run} {b : List ℕ} {kind number : ℕ} {l : List ℕ} {la ln : ℕ} {r : List ℕ} {ra rn : ℕ} (a : PushAsk b c kind number l la ln r ra rn) where
  abbrev t : Ty
  t = nodes_at l la ln

  abbrev u : Ty
  u = nodes_at r ra rn

  abbrev pushed : List Triple → Entry
  pushed ls = entry_of ls kind number t u

  sizes : ln + rn ≡ length t + length u
  sizes = ap₂ (λ (x y : ℕ). x + y) (sym (length-nodes_at l la ln)) (sym (length-nodes_at r ra rn))

  pub push-stays : {p : Run} → going c.halt ≡ false → p ≡ refused_run c BoardFull → Pushes b c kind number t u pushed b p
  push-stays g q = rw (q ∙ stays-run c BoardFull g) (rw g refl, rw g refl, λ w ls k rep f. stays-does f w ls rep g (push (pushed ls) done))

  pub push-returns : {b' : List ℕ} {d : Board} → going c.halt ≡ true → fits_board c.counters.board (ln + rn) ≡ true → (b' ≡ laid b c.counters.board kind number t u) × (d ≡ board_grown c.counters.board (ln + rn))
      → Pushes b c kind number t u pushed b' (with_board c d)
  push-returns g e q =
      let f : fits_board c.counters.board (length t + length u) ≡ true = subst (λ (m : ℕ). fits_board c.counters.board m ≡ true) sizes e in
      rw (q.0, q.1, sizes) (rw (g, f) refl, rw (g, f) refl, λ w ls k rep h. push-does h w ls rep kind number t u a.entry g f)

  pub push-refuses : {p : Run} → going c.halt ≡ true → fits_board c.counters.board (ln + rn) ≡ false → p ≡ refused_run c BoardFull → Pushes b c kind number t u pushed b p
  push-refuses g e q =
      let f : fits_board c.counters.board (length t + length u) ≡ false = subst (λ (m : ℕ). fits_board c.counters.board m ≡ false) sizes e in
      rw (q ∙ refused-run c BoardFull g) (rw (g, f) refl, rw (g, f) refl, λ w ls k rep h. push-stops h w ls rep kind number t u a.entry g f)

pub solve-stays : (k : List ℕ) (c : Run) (x : ℕ) (t : Ty) {p : Run} → going c.halt ≡ false → p ≡ refused_run c SolutionsFull → Gives k c x t k p
solve-stays k c x t g q = rw (q ∙ stays-run c SolutionsFull g) (rw g refl, rw g refl, λ w ls b rep _ f. stays-does f w ls rep g (solve x t done))

module _ {k : List ℕ} {c : Run} {x : ℕ} {s : List ℕ} {from n : ℕ} (a : SolveAsk k c x s from n) (g : going c.halt ≡ true) where
  abbrev v : Ty
  v = nodes_at s from n

  long : n ≡ length v
  long = sym (length-nodes_at s from n)

  many : 0 < length v
  many = let z = a.some in omega (arith, long)

  small : x < most_numbers
  small = let z = (a.solves g).made in let y = a.numbers in omega arith

  pub solve-returns : {k₁ k' : List ℕ} {m : ℕ} {d : Book} → fits_book c.book n ≡ true → m ≡ level_of k x → (k₁ ≡ given k c.book x v) × (d ≡ book_grown c.book n) → k' ≡ lowered m v k₁
      → Gives k c x v k' (with_book c d)
  solve-returns e q r z =
      let f : fits_book c.book (length v) ≡ true = subst (λ (m : ℕ). fits_book c.book m ≡ true) long e in
      rw (z, q, r.0, r.1 ∙ ap (book_grown c.book) long) (rw (g, f) refl, rw (g, f) refl, λ w ls b rep sc h. solve-does h w ls rep x v many (a.solves g) g sc f)

  pub solve-refuses : {p : Run} → fits_book c.book n ≡ false → p ≡ refused_run c SolutionsFull → Gives k c x v k p
  solve-refuses e q =
      let f : fits_book c.book (length v) ≡ false = subst (λ (m : ℕ). fits_book c.book m ≡ false) long e in
      rw (q ∙ refused-run c SolutionsFull g) (rw (g, f) refl, rw (g, f) refl, λ w ls b rep sc h. solve-stops h w ls rep x v many (a.solves g) g sc f)
