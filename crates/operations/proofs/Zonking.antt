-- What a write-out leaves. Assumes nothing.
use Rattle.std.proofs.Common.{Option, Some, None, ◌≡◌, refl, sym, ap, ap₂, ◌∙◌, Bool, true, false, cond, true≢false, List, [], ℕ, ◌+◌, ◌*◌, ◌-◌, ◌≤◌, ◌<◌, arith, length, take, take_all, leb, le-leb, leb-true}
use Rattle.std.proofs.Math.Seq.{sets, length-sets}
use borrow.Author.Tests.{lt-leb}
use Rattle.nodes.specs.Nodes.{Ty, words, nodes_at}
use Rattle.nodes.proofs.Laws.{nodes_at-same, nodes_at-below}
use Rattle.judgment.specs.declared.TypeError.TheVariants.{TypeTooLong}
use Rattle.judgment.specs.Solutions.{write_out}
use Rattle.judgment.specs.Board.{done, zonk}
use Rattle.judgment.specs.Chain.{zonk_o}
use Rattle.book.specs.Book.{sols, wrote, written_to}
use Rattle.book.proofs.Turns.{fits_told, over-told}
use Rattle.operations.specs.declared.Halt.{Halt}
use Rattle.operations.specs.declared.Run.{Run}
use Rattle.operations.specs.declared.Zonked.{Zonked}
use Rattle.operations.specs.State.{halt_of, state_of, WellFormed, zonk_w, going, stopped, refused_run, zonk_by, zonk_run, zonk_words, ZonkAsk, Zonks}
use Rattle.operations.proofs.Latch.{not-halted, refused-is, came, stays-does}

module _ {k : List ℕ} {c : Run} {s : List ℕ} {at n : ℕ} {rep : List ℕ} {to w : ℕ} (a : ZonkAsk k c s at n rep to w) where
  abbrev t : Ty
  t = nodes_at s at n

  abbrev T : Ty
  T = write_out (sols k) t

  -- what the function returns
  abbrev Returns : List ℕ → Zonked → Type 0
  Returns rep' z = (z ≡ zonk_run c T to w) × (rep' ≡ zonk_words rep c T to w) × Zonks k rep c t to w rep' z

  pub zonk-stays : going c.halt ≡ false → Returns rep (record { run = c; nodes = 0 })
  zonk-stays g = (
    rw g refl,
    rw g refl,
    record {
      does = λ z ls b f. stays-does f (record { written = w; scope = z }) ls rep g (zonk t (λ _. done));
      nodes = λ e. absurd (true≢false (sym e ∙ g));
      within = let r = a.room in omega arith;
    },
  )

  -- the report, written to
  module _ {rep' : List ℕ} (q : rep' ≡ written_to T to (to + w) rep) (g : going c.halt ≡ true) where
    same_length : length rep' ≡ length rep
    same_length = ap length q ∙ length-sets rep (2 * to) (words (take (to + w - to) T))

    moved : {b : List ℕ} (h : Halt) → WellFormed b k c → WellFormed b k (record { counters = c.counters; book = c.book; halt = h })
    moved h f = record {
      board = f.board;
      book = f.book;
      numbers = f.numbers;
      unmade = f.unmade;
    }

    pub zonk-fits : {r : (Option ℕ)} {end : ℕ} → r ≡ wrote T to (to + w) → r ≡ Some end → Returns rep' (record { run = c; nodes = end - to })
    unfolding zonk_o zonk_w
    zonk-fits {end = end} p e =
        let m = fits_told T [] to (to + w) rep end (sym p ∙ e) in
        let few : length T ≤ w = let z = m.0 in omega arith in
        let long : end - to ≡ length T = let z = m.1 in omega arith in (
          rw (g, sym p ∙ e) refl,
          rw g q,
          record {
            does = λ z ls b f. record {
              kept = moved c.halt f;
              taken = refl;
              outcome = came (rw (not-halted c.halt g, le-leb (length T) w few)) (rw (g, le-leb (length T) w few)) refl;
            };
            nodes = λ _.
                let r = a.room in
                ap₂ (λ (x : List ℕ) (y : ℕ). nodes_at x (2 * to) y) (q ∙ ap (λ (x : Ty). sets rep (2 * to) (words x)) (take_all (to + w - to) T (omega arith))) long
                ∙ nodes_at-same T rep (2 * to) (omega arith);
            within = let r = a.room in omega (arith, same_length);
          },
        )

    pub zonk-over : {r : (Option ℕ)} {d : Run} → r ≡ wrote T to (to + w) → r ≡ None → d ≡ refused_run c TypeTooLong → Returns rep' (record { run = d; nodes = 0 })
    unfolding zonk_o zonk_w nodes_at
    zonk-over p e u =
        let m = over-told T [] to (to + w) rep (sym p ∙ e) in
        let many : w < length T = omega arith in
        let v : refused_run c TypeTooLong ≡ stopped c TypeTooLong = rw g in
        rw (u ∙ v) (
          rw (g, sym p ∙ e) refl,
          rw g q,
          record {
            does = λ z ls b f. record {
              kept = moved (halt_of TypeTooLong) f;
              taken = refl;
              outcome = came (refused-is TypeTooLong rep' (state_of ls b k c) ∙ rw (not-halted c.halt g, lt-leb (length T) w many)) (rw (g, lt-leb (length T) w many)) refl;
            };
            nodes = λ z. absurd (true≢false (sym z));
            within = let r = a.room in omega (arith, same_length);
          },
        )

-- ---- what a caller asks of the words that a write-out leaves
module _ (c : Run) (t : Ty) (to w : ℕ) where
  -- no more nodes than the limit
  pub zonk-few : {z : Zonked} → z ≡ zonk_run c t to w → z.nodes ≤ w
  zonk-few {z} e = by (going c.halt) refl (leb (to + length t) (to + w)) refl
    where
      by : (x : Bool) → going c.halt ≡ x → (y : Bool) → leb (to + length t) (to + w) ≡ y → z.nodes ≤ w
      by true p true q =
          let l = leb-true (to + length t) (to + w) q in
          let u : z ≡ record { run = c; nodes = to + length t - to } = e ∙ rw (p, q) in
          let v = ap (λ (d : Zonked). d.nodes) u in
          omega arith
      by true p false q = let u : z ≡ record { run = stopped c TypeTooLong; nodes = 0 } = e ∙ rw (p, q) in let v = ap (λ (d : Zonked). d.nodes) u in omega arith
      by false p y q = let u : z ≡ record { run = c; nodes = 0 } = e ∙ rw p in let v = ap (λ (d : Zonked). d.nodes) u in omega arith

  -- no number is made
  pub zonk-fresh : (zonk_run c t to w).run.counters.fresh ≡ c.counters.fresh
  zonk-fresh = by (going c.halt) (leb (to + length t) (to + w))
    where
      by : (x y : Bool) → (cond x (zonk_by (cond y (Some (to + length t)) None) c to) (record { run = c; nodes = 0 })).run.counters.fresh ≡ c.counters.fresh
      by true true = refl
      by true false = refl
      by false y = refl

  -- what stands before it stays
  pub zonk-below : (rep rep' : List ℕ) → rep' ≡ zonk_words rep c t to w → (p m : ℕ) → p + 2 * m ≤ 2 * to → nodes_at rep' p m ≡ nodes_at rep p m
  zonk-below rep rep' e p m h = ap (λ (x : List ℕ). nodes_at x p m) e ∙ by (going c.halt)
    where
      by : (x : Bool) → nodes_at (cond x (written_to t to (to + w) rep) rep) p m ≡ nodes_at rep p m
      by true = nodes_at-below rep (2 * to) (words (take (to + w - to) t)) p m h
      by false = refl
