-- Turns, one after the other. Assumes nothing.
use Rattle.std.proofs.Common.{◌≡◌, refl, sym, ap, ◌∙◌, Bool, true, false, true≢false, List, [], ◌≢◌, ℕ, ◌+◌, add-zero, eq-eqb, ne_eqb, length}
use mathlib.Core.Path.{subst⁻¹}
use Rattle.nodes.specs.Nodes.{Ty, nodes_at}
use Rattle.nodes.proofs.ListLaws.{cond_ind}
use Rattle.spelling.specs.declared.Triple.{Triple}
use Rattle.judgment.specs.declared.TypeError.{TypeError}
use Rattle.judgment.specs.declared.TypeError.TheVariants.{ArityMismatch}
use Rattle.judgment.specs.Board.{Entry, sub, var, chk, entry_nodes, Rule, done, refuse, push}
use Rattle.judgment.specs.Result.{Way}
use Rattle.board.specs.Board.{term_at, entry_of}
use Rattle.board.specs.Board.{fitting as fits_board}
use Rattle.board.proofs.Stacks.{laid-stacked, fits-facts}
use Rattle.operations.specs.declared.Run.{Run}
use Rattle.operations.specs.State.{reported, came_to, perform_c, WellFormed, Does, Performs, Pushes, going, refused_run, push_run, push_words}
use Rattle.operations.proofs.Then.{same-going, refusal-stays, any_way}
use Rattle.patterns.specs.Turns.{Ready, Turn}
use Rattle.patterns.specs.Readings.{Arity}

module _ {A : Type 0} {ls : List Triple} where
  -- nothing was done
  pub turn-none : {b : List ℕ} {c : Run} (p q : (A → Rule) → Rule) → Ready b c → ((f : A → Rule) → q f ≡ p f) → Turn ls b c p b c q
  turn-none {b} {c} p q h e = record {
    ready = h;
    taken = refl;
    kept = λ k z. z;
    outcome = λ w k rep z f. ap (λ (x : Rule). perform_c w ls x (came_to ls b k rep c)) (e f);
  }

  pub turn-then : {b b₁ b₂ : List ℕ} {c c₁ c₂ : Run} {p q s : (A → Rule) → Rule} → Turn ls b c p b₁ c₁ q → Turn ls b₁ c₁ q b₂ c₂ s → Turn ls b c p b₂ c₂ s
  turn-then x y = record {
    ready = y.ready;
    taken = y.taken ∙ x.taken;
    kept = λ k z. y.kept k (x.kept k z);
    outcome = λ w k rep z f. y.outcome w k rep (x.kept k z) f ∙ x.outcome w k rep z f;
  }

  -- the same rules by other names
  pub turn-as : {b b' : List ℕ} {c r : Run} {p q p' q' : (A → Rule) → Rule} → ((f : A → Rule) → p f ≡ p' f) → ((f : A → Rule) → q' f ≡ q f) → Turn ls b c p b' r q → Turn ls b c p' b' r q'
  turn-as {b} {b'} {c} {r} e g x = record {
    ready = x.ready;
    taken = x.taken;
    kept = x.kept;
    outcome = λ w k rep z f.
        ap (λ (y : Rule). perform_c w ls y (came_to ls b' k rep r)) (g f)
        ∙ x.outcome w k rep z f
        ∙ ap (λ (y : Rule). perform_c w ls y (came_to ls b k rep c)) (e f);
  }

  -- after a refusal whatever is left may be put for what is left
  pub turn-stays : {b b' : List ℕ} {c r : Run} {p q q' : (A → Rule) → Rule} → going r.halt ≡ false → Turn ls b c p b' r q → Turn ls b c p b' r q'
  turn-stays {b} {b'} {c} {r} {p} {q} {q'} e x = record {
    ready = x.ready;
    taken = x.taken;
    kept = x.kept;
    outcome = λ w k rep z f. same-going w ls b' k rep r (q' f) (q f) (λ g. absurd (true≢false (sym g ∙ e))) ∙ x.outcome w k rep z f;
  }

-- ---- a refusal: whatever follows
refused-ready : (b : List ℕ) (c : Run) (e : TypeError) → Ready b c → Ready b (refused_run c e)
refused-ready b c e h =
    cond_ind (λ (r : Run). Ready b r) (going c.halt) (λ _. record { board = h.board; numbers = h.numbers }) (λ _. h)

pub turn-refused : {A : Type 0} {ls : List Triple} {b : List ℕ} {c r : Run} {e : TypeError} (p q : (A → Rule) → Rule) → Ready b c → reported e ≡ 0 → ((f : A → Rule) → p f ≡ refuse e [])
    → (r ≡ refused_run c e) × Performs c (λ rep. refuse e (nodes_at rep 0 (reported e))) r → Turn ls b c p b r q
unfolding nodes_at
turn-refused {A} {ls} {b} {c} {r} {e} p q h z s d = record {
  ready = subst⁻¹ (Ready b) d.0 (refused-ready b c e h);
  taken = ap (λ (x : Run). x.counters.taken) d.0 ∙ cond_ind (λ (x : Run). x.counters.taken ≡ c.counters.taken) (going c.halt) (λ _. refl) (λ _. refl);
  kept = λ k y. (d.1 any_way ls b k [] y).kept;
  outcome = λ w k rep y f.
      ap (perform_c w ls (q f)) (d.1 w ls b k rep y).outcome
      ∙ refusal-stays w ls (q f) e (nodes_at rep 0 (reported e)) b k rep c
      ∙ ap (λ (n : ℕ). perform_c w ls (refuse e (nodes_at rep 0 n)) (came_to ls b k rep c)) z
      ∙ ap (λ (x : Rule). perform_c w ls x (came_to ls b k rep c)) (sym (s f));
}

-- ---- a push
pub push-ready : (b : List ℕ) (c : Run) (kind number : ℕ) (t u : Ty) → ((ls : List Triple) → entry_nodes (entry_of ls kind number t u) ≡ length t + length u) → Ready b c
    → Ready (push_words b c kind number t u) (push_run c (length t + length u))
push-ready b c kind number t u n h = by (going c.halt) refl (fits_board c.counters.board (length t + length u)) refl
  where
    by : (x : Bool) → going c.halt ≡ x → (y : Bool) → fits_board c.counters.board (length t + length u) ≡ y → Ready (push_words b c kind number t u) (push_run c (length t + length u))
    by true p true q =
        let f = fits-facts c.counters.board (length t + length u) q in
        rw (p, q) (record { board = laid-stacked h.board kind number t u f.0 f.1 n; numbers = h.numbers })
    by true p false q = rw (p, q) (record { board = h.board; numbers = h.numbers })
    by false p y q = rw p h

pub pushed_ready : {b : List ℕ} {c : Run} (kind number : ℕ) (t u : Ty) {e : List Triple → Entry} {b' : List ℕ} {r : Run} → ((ls : List Triple) → entry_nodes (entry_of ls kind number t u) ≡ length t + length u)
    → Ready b c → Pushes b c kind number t u e b' r → Ready b' r
pushed_ready {b} {c} kind number t u n h p = rw (p.1, p.0) (push-ready b c kind number t u n h)

pub turn-push : {ls : List Triple} {b : List ℕ} {c : Run} (kind number : ℕ) (t u : Ty) (e : List Triple → Entry) {b' : List ℕ} {r : Run} → ((ls : List Triple) → entry_nodes (entry_of ls kind number t u) ≡ length t + length u)
    → Ready b c → Pushes b c kind number t u e b' r → Turn {A = ℕ} ls b c (λ f. push (e ls) (f 0)) b' r (λ f. f 0)
turn-push {ls} {b} {c} kind number t u e {b'} {r} n h p = record {
  ready = pushed_ready kind number t u n h p;
  taken = ap (λ (x : Run). x.counters.taken) p.0
      ∙ cond_ind (λ (x : Run). x.counters.taken ≡ c.counters.taken) (going c.halt) (λ _. cond_ind (λ (x : Run). x.counters.taken ≡ c.counters.taken) (fits_board c.counters.board (length t + length u)) (λ _. refl) (λ _. refl)) (λ _. refl);
  kept = λ k z. (p.2 any_way ls k [] z).kept;
  outcome = λ w k rep z f. ap (perform_c w ls (f 0)) (p.2 w ls k rep z).outcome;
}

-- ---- the rule that a turn is
pub turn-does : {w : Way} {ls : List Triple} {b k rep : List ℕ} {c : Run} {b' : List ℕ} {r : Run} {p : (ℕ → Rule) → Rule} → WellFormed b k c → Turn {A = ℕ} ls b c p b' r (λ f. f 0) → Does w ls b k rep c (p (λ _. done)) b' k rep r
turn-does {w} {ls} {b} {k} {rep} h x = record { kept = x.kept k h; taken = x.taken; outcome = x.outcome w k rep h (λ _. done) }

pub sub-turn : {ls : List Triple} {b : List ℕ} {c : Run} (t u : Ty) {b' : List ℕ} {r : Run} → Ready b c → Pushes b c 3 0 t u (λ _. sub t u) b' r → Turn {A = ℕ} ls b c (λ f. push (sub t u) (f 0)) b' r (λ f. f 0)
unfolding entry_of
sub-turn t u h p = turn-push 3 0 t u (λ _. sub t u) (λ _. refl) h p

pub var-turn : {ls : List Triple} {b : List ℕ} {c : Run} (x : ℕ) (t : Ty) {b' : List ℕ} {r : Run} → Ready b c → Pushes b c 2 x t [] (λ _. var x t) b' r → Turn {A = ℕ} ls b c (λ f. push (var x t) (f 0)) b' r (λ f. f 0)
unfolding entry_of
var-turn x t h p = turn-push 2 x t [] (λ _. var x t) (λ _. sym (add-zero (length t))) h p

pub chk-turn : {ls : List Triple} {b : List ℕ} {c : Run} (line : ℕ) (t : Ty) {b' : List ℕ} {r : Run} → Ready b c → Pushes b c 5 line t [] (λ ls. chk (term_at ls line) t) b' r
    → Turn {A = ℕ} ls b c (λ f. push (chk (term_at ls line) t) (f 0)) b' r (λ f. f 0)
unfolding entry_of
chk-turn line t h p = turn-push 5 line t [] (λ ls. chk (term_at ls line) t) (λ _. sym (add-zero (length t))) h p

-- ---- the counts
pub arity-same : {ls : List Triple} {b : List ℕ} {c : Run} {arity count : ℕ} → Ready b c → count ≡ arity → Arity ls b c arity count c
arity-same {arity = arity} {count = count} h e = turn-none _ _ h (λ f. sym (rw (eq-eqb count arity e)))

pub arity-other : {ls : List Triple} {b : List ℕ} {c r : Run} {arity count : ℕ} → Ready b c → count ≢ arity
    → (r ≡ refused_run c (ArityMismatch arity count)) × Performs c (λ rep. refuse (ArityMismatch arity count) (nodes_at rep 0 0)) r → Arity ls b c arity count r
arity-other {arity = arity} {count = count} h e d = turn-refused _ _ h refl (λ f. rw (ne_eqb count arity e)) d
