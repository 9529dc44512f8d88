-- Unknowns made one after the other, each with its TVar. Assumes nothing.
use Rattle.std.proofs.Common.{refl, sym, ap, ap₂, ◌∙◌, subst, true≢false, arith, ltb-true, ◌≡◌, Bool, true, false, List, [], ◌∷◌, ℕ, zero, suc, ◌+◌, ◌-◌, ◌≤◌, ◌<◌, ltb, length}
use mathlib.Core.Path.{subst⁻¹}
use Rattle.sizes.specs.Sizes.{most_numbers}
use Rattle.nodes.specs.Nodes.{node}
use Rattle.nodes.proofs.ListLaws.{cond_ind}
use Rattle.spelling.specs.declared.Triple.{Triple}
use Rattle.judgment.specs.Types.{Renaming}
use Rattle.judgment.specs.Board.{tvar, Rule, done, fresh, push, own}
use Rattle.judgment.specs.Rules.{open_names}
use Rattle.judgment.specs.Result.{Way}
use Rattle.board.specs.Board.{entry_of, Stacked}
use Rattle.board.specs.Board.{fitting as fits_board}
use Rattle.board.proofs.Stacks.{laid-stacked, fits-facts}
use Rattle.operations.specs.declared.Run.{Run}
use Rattle.operations.specs.State.{came_to, perform_c, WellFormed, Performs, going, fresh_run, push_run, push_words, Pushes}
use Rattle.operations.proofs.Then.{same-going, fresh-is, fresh-made, kept, kept-board}
use Rattle.constructors.specs.Opening.{pairs, named_run, named_words, Named}

-- ---- a run after an operation
abbrev Follows : Run → Run → Type 0
Follows c r = (r.counters.taken ≡ c.counters.taken) × (going r.halt ≡ true → going c.halt ≡ true)

fresh-follows : (c : Run) → Follows c (fresh_run c) × ((fresh_run c).counters.board ≡ c.counters.board)
fresh-follows c =
    cond_ind (λ (r : Run). Follows c r × (r.counters.board ≡ c.counters.board)) (going c.halt)
    (λ g. cond_ind (λ (r : Run). Follows c r × (r.counters.board ≡ c.counters.board)) (ltb c.counters.fresh most_numbers) (λ _. ((refl, λ _. g), refl)) (λ _. ((refl, λ _. g), refl)))
    (λ _. ((refl, λ z. z), refl))

fresh-numbers : (c : Run) → c.counters.fresh ≤ most_numbers → (fresh_run c).counters.fresh ≤ most_numbers
fresh-numbers c l =
    cond_ind (λ (r : Run). r.counters.fresh ≤ most_numbers) (going c.halt)
    (λ _. cond_ind (λ (r : Run). r.counters.fresh ≤ most_numbers) (ltb c.counters.fresh most_numbers) (λ h. omega (arith, ltb-true c.counters.fresh most_numbers h)) (λ _. l))
    (λ _. l)

push-follows : (c : Run) (n : ℕ) → Follows c (push_run c n) × ((push_run c n).counters.fresh ≡ c.counters.fresh)
push-follows c n =
    cond_ind (λ (r : Run). Follows c r × (r.counters.fresh ≡ c.counters.fresh)) (going c.halt)
    (λ g. cond_ind (λ (r : Run). Follows c r × (r.counters.fresh ≡ c.counters.fresh)) (fits_board c.counters.board n) (λ _. ((refl, λ _. g), refl)) (λ _. ((refl, λ _. g), refl)))
    (λ _. ((refl, λ z. z), refl))

tvar-stacked : (b : List ℕ) (c : Run) (a : ℕ) → Stacked b c.counters.board → Stacked (push_words b c 17 a [] []) (push_run c 0).counters.board
unfolding entry_of
tvar-stacked b c a s = by (going c.halt) refl (fits_board c.counters.board 0) refl
  where
    by : (x : Bool) → going c.halt ≡ x → (y : Bool) → fits_board c.counters.board 0 ≡ y → Stacked (push_words b c 17 a [] []) (push_run c 0).counters.board
    by true p true q = let f = fits-facts c.counters.board 0 q in rw (p, q) (laid-stacked s 17 a [] [] f.0 f.1 (λ ls. refl))
    by true p false q = rw (p, q) s
    by false p y q = rw p s

-- ---- one unknown, and then the others
named_none : (b : List ℕ) (c : Run) → Stacked b c.counters.board → Named b c 0 b c
unfolding named_run named_words pairs open_names
named_none b c s = record {
  run = refl;
  words = refl;
  stacked = s;
  numbers = λ l. l;
  taken = refl;
  alive = λ z. z;
  made = λ _. omega arith;
  kept = λ k h. h;
  outcome = λ w k rep h f m xs l ls. none w k rep f m xs l ls;
}
  where
    none : (w : Way) (k rep : List ℕ) (f : Renaming → Rule) (m : Renaming) (xs : List ℕ) → length xs ≡ 0 → (ls : List Triple)
        → perform_c w ls (f (pairs xs c.counters.fresh m)) (came_to ls b k rep c) ≡ perform_c w ls (open_names xs m f) (came_to ls b k rep c)
    none w k rep f m [] l ls = refl
    none w k rep f m (x ∷ xs) l ls = absurd (omega arith)

pub named_end : {b : List ℕ} {c : Run} {n : ℕ} → Stacked b c.counters.board → n ≡ 0 → Named b c n b c
named_end {b} {c} {n} s e = rw e (named_none b c s)

-- a refused run stays as it is
module _ (c : Run) (e : going c.halt ≡ false) where
  fresh-stays : fresh_run c ≡ c
  fresh-stays = rw e

  push-stays : push_run (fresh_run c) 0 ≡ c
  push-stays = ap (λ (r : Run). push_run r 0) fresh-stays ∙ rw e

  words-stay : (b : List ℕ) (a : ℕ) → push_words b (fresh_run c) 17 a [] [] ≡ b
  words-stay b a = ap (λ (r : Run). push_words b r 17 a [] []) fresh-stays ∙ rw e

stays-run : (n : ℕ) (c : Run) → going c.halt ≡ false → named_run n c ≡ c
unfolding named_run
stays-run zero c e = refl
stays-run (suc n) c e = ap (named_run n) (push-stays c e) ∙ stays-run n c e

stays-words : (n : ℕ) (b : List ℕ) (c : Run) → going c.halt ≡ false → named_words n b c ≡ b
unfolding named_words
stays-words zero b c e = refl
stays-words (suc n) b c e = ap₂ (named_words n) (words-stay c e b c.counters.fresh) (push-stays c e) ∙ stays-words n b c e

pub named-refused : {b : List ℕ} {c : Run} (n : ℕ) → Stacked b c.counters.board → going c.halt ≡ false → Named b c n b c
named-refused {b} {c} n s e = record {
  run = sym (stays-run n c e);
  words = sym (stays-words n b c e);
  stacked = s;
  numbers = λ l. l;
  taken = refl;
  alive = λ z. z;
  made = λ z. absurd (true≢false (sym z ∙ e));
  kept = λ k h. h;
  outcome = λ w k rep h f m xs l ls. same-going w ls b k rep c (f (pairs xs c.counters.fresh m)) (open_names xs m f) (λ z. absurd (true≢false (sym z ∙ e)));
}

pub made-stacked : {b : List ℕ} (c r : Run) → r ≡ fresh_run c → Stacked b c.counters.board → Stacked b r.counters.board
made-stacked c r e s = rw (e, (fresh-follows c).1) s

module _ {b b₂ : List ℕ} {c c₁ c₂ : Run} (d : (c₁ ≡ fresh_run c) × Performs c (λ rep. fresh own (λ n. done)) c₁)
    (p : Pushes b c₁ 17 c.counters.fresh [] [] (λ ls. tvar (node 17 c.counters.fresh)) b₂ c₂) where
  first-follows : Follows c c₁ × (c₁.counters.board ≡ c.counters.board)
  first-follows = subst⁻¹ (λ (r : Run). Follows c r × (r.counters.board ≡ c.counters.board)) d.0 (fresh-follows c)

  then-follows : Follows c₁ c₂ × (c₂.counters.fresh ≡ c₁.counters.fresh)
  then-follows = subst⁻¹ (λ (r : Run). Follows c₁ r × (r.counters.fresh ≡ c₁.counters.fresh)) p.0 (push-follows c₁ 0)

  -- the numbers follow each other
  next : going c₂.halt ≡ true → c₂.counters.fresh ≡ c.counters.fresh + 1
  next g = then-follows.1 ∙ fresh-made c c₁ d.0 (then-follows.0.1 g)

  pub named-stacked : Stacked b c.counters.board → Stacked b₂ c₂.counters.board
  named-stacked s = rw (p.1, p.0) (tvar-stacked b c₁ c.counters.fresh (made-stacked c c₁ d.0 s))

  module _ {b₃ : List ℕ} {c₃ : Run} {n : ℕ} (g : Named b₂ c₂ n b₃ c₃) where
    more : (w : Way) (k rep : List ℕ) → WellFormed b k c → (f : Renaming → Rule) (m : Renaming) (xs : List ℕ) → length xs ≡ suc n → (ls : List Triple)
        → perform_c w ls (f (pairs xs c.counters.fresh m)) (came_to ls b₃ k rep c₃) ≡ perform_c w ls (open_names xs m f) (came_to ls b k rep c)
    unfolding pairs open_names
    more w k rep h f m [] l ls = absurd (omega arith)
    more w k rep h f m (x ∷ xs) l ls =
        let D1 = d.1 w ls b k rep h in
        let D2 = p.2 w ls k rep D1.kept in
        let m₂ : Renaming = (x, c.counters.fresh) ∷ m in
        same-going w ls b₃ k rep c₃ (f (pairs xs (c.counters.fresh + 1) m₂)) (f (pairs xs c₂.counters.fresh m₂)) (λ z. ap (λ (a : ℕ). f (pairs xs a m₂)) (sym (next (g.alive z))))
        ∙ g.outcome w k rep D2.kept f m₂ xs (omega arith) ls
        ∙ ap (perform_c w ls (open_names xs m₂ f)) (D2.outcome ∙ ap (perform_c w ls (push (tvar (node 17 c.counters.fresh)) done)) D1.outcome)
        ∙ sym (fresh-is w ls b k rep c own (λ a. push (tvar (node 17 a)) (open_names xs ((x, a) ∷ m) f)))

    named_more : Named b c (suc n) b₃ c₃
    unfolding named_run named_words
    named_more = record {
      run = g.run ∙ rw (p.0, d.0);
      words = g.words ∙ rw (p.1, p.0, d.0);
      stacked = g.stacked;
      numbers = λ l. g.numbers (let z : c₁.counters.fresh ≤ most_numbers = subst⁻¹ (λ (r : Run). r.counters.fresh ≤ most_numbers) d.0 (fresh-numbers c l) in rw then-follows.1 z);
      taken = g.taken ∙ then-follows.0.0 ∙ first-follows.0.0;
      alive = λ z. first-follows.0.1 (then-follows.0.1 (g.alive z));
      made = λ z. let i = g.made z in let j = next (g.alive z) in omega arith;
      kept = λ k h. g.kept k (kept-board p.2 (kept d.1 h));
      outcome = more;
    }

  -- i of n names were made before, and one more now
  pub named-turn : {b₃ : List ℕ} {c₃ : Run} {n i : ℕ} → i < n → Named b₂ c₂ (n - (i + 1)) b₃ c₃ → Named b c (n - i) b₃ c₃
  named-turn {b₃} {c₃} {n} {i} l g = let e : suc (n - (i + 1)) ≡ n - i = omega arith in subst (λ (m : ℕ). Named b c m b₃ c₃) e (named_more g)
