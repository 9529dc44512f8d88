-- A sound type, written out, may be compared; two write-outs one after the other. Assumes nothing.
use Rattle.std.proofs.Common.{◌≡◌, sym, ap, ap₂, ◌∙◌, ◌≢◌, Bool, true, false, cond, List, [], ◌∷◌, ℕ, ◌+◌, ◌*◌, ◌≤◌, ◌<◌, le_trans, arith, length}
use mathlib.Core.Path.{subst⁻¹}
use Rattle.sizes.specs.Sizes.{most_nodes}
use Rattle.nodes.specs.Nodes.{Node, Ty, node_parts, nodes_at}
use Rattle.spelling.specs.declared.Triple.{Triple}
use Rattle.nodes.proofs.Laws.{length-nodes_at}
use Rattle.nodes.specs.Parts.{Whole}
use Rattle.nodes.specs.Lists.{All}
use Rattle.nodes.proofs.ListLaws.{all_map}
use Rattle.judgment.specs.Types.{view, eq_ty}
use Rattle.judgment.specs.Board.{Rule, done, zonk}
use Rattle.judgment.specs.Rules.{subtype_by}
use Rattle.judgment.specs.Solutions.{Solution, value, write_out}
use Rattle.judgment.proofs.TypeLaws.{eq_ty-not}
use Rattle.judgment.proofs.SolutionLaws.{all-written, written-is-free}
use Rattle.judgment.proofs.WholeTypes.{written-whole}
use Rattle.judgment.specs.Result.{Way}
use Rattle.book.specs.Book.{sols}
use Rattle.operations.specs.declared.Run.{Run}
use Rattle.operations.specs.declared.Zonked.{Zonked}
use Rattle.operations.specs.State.{WellFormed, Made, Does, going, zonk_run, zonk_words, ZonkAsk, Zonks}
use Rattle.operations.proofs.Latch.{stays-does}
use Rattle.operations.proofs.Zonking.{zonk-few, zonk-fresh, zonk-below}
use Rattle.operations.proofs.Then.{does-as, zonk-then, alive, grows}
use Rattle.subtyping.specs.Subtyping.{shapes_report, twice_report, Written, Sound, SubAsk, SubtypeAsk}

some-node : (t : Ty) → Whole node_parts t 1 → 0 < length t
some-node [] h = absurd (let z : 1 ≡ 0 = h in omega arith)
some-node (n ∷ t) h = omega arith

pub written_out : {b k : List ℕ} {c : Run} → WellFormed b k c → (n : ℕ) → n ≤ c.counters.fresh → All (λ (x : Solution). Sound n (value x)) (sols k) → (s t : Ty) → Sound n s
    → t ≡ write_out (sols k) s → length t ≤ most_nodes → Written k c t
written_out {b} {k} {c} f n l h s t a e few = record {
  some = subst⁻¹ (λ (x : Ty). 0 < length x) e (some-node (write_out (sols k) s) (written-whole (sols k) s (all_map (λ x q. q.whole) (sols k) h) a.whole));
  few = few;
  free = subst⁻¹ (All _) e (written-is-free (sols k) f.book.fine s);
  made = subst⁻¹ (All (Made c.counters.fresh)) e
      (all-written (Made c.counters.fresh) (sols k) s (all_map (λ x q. all_map (λ y m. later y m) (value x) q.made) (sols k) h) (all_map (λ y m. later y m) s a.made));
}
  where
    later : (y : Node) → Made n y → Made c.counters.fresh y
    later y m = λ z. le_trans (m z) l

-- ---- two types of the board written out, one after the other, as Sub and InfApp do
module _ {b k rep : List ℕ} {c : Run} {at fn tn w : ℕ} (p : SubtypeAsk b k rep c at fn tn w) where
  abbrev f : Ty
  f = nodes_at b at fn

  abbrev t : Ty
  t = nodes_at b (at + 2 * fn) tn

  -- whatever is in scope
  abbrev way : (ℕ → Ty → Bool) → Way
  way g = record { written = w; scope = g }

  abbrev all : ℕ → Ty → Bool
  all = λ x s. true

  -- both write-outs fit
  pub first-asks : ZonkAsk k c b at fn rep 0 w
  first-asks =
      let x = p.within in
      let r = p.report in
      record { book = p.formed.book; within = omega arith; room = omega arith }

  module _ {rep₁ : List ℕ} {z : Zonked} (e₁ : z ≡ zonk_run c (write_out (sols k) f) 0 w) (Z₁ : Zonks k rep c f 0 w rep₁ z) where
    D₁ : (g : ℕ → Ty → Bool) (ls : List Triple) → Does (way g) ls b k rep c (zonk f (λ _. done)) b k rep₁ z.run
    D₁ g ls = Z₁.does g ls b p.formed

    pub few₁ : z.nodes ≤ w
    few₁ = zonk-few c (write_out (sols k) f) 0 w e₁

    pub second-asks : length rep₁ ≡ length rep → ZonkAsk k z.run b (at + 2 * fn) tn rep₁ z.nodes w
    second-asks l =
        let x = p.within in
        let r = p.report in
        let s = few₁ in
        record { book = (D₁ all []).kept.book; within = omega arith; room = omega arith }

    module _ {rep₂ : List ℕ} {y : Zonked} (e₂ : y ≡ zonk_run z.run (write_out (sols k) t) z.nodes w)
        (q : rep₂ ≡ zonk_words rep₁ z.run (write_out (sols k) t) z.nodes w) (Z₂ : Zonks k rep₁ z.run t z.nodes w rep₂ y) where
      abbrev F : Ty
      F = nodes_at rep₂ 0 z.nodes

      abbrev T : Ty
      T = nodes_at rep₂ (2 * z.nodes) y.nodes

      D₂ : (g : ℕ → Ty → Bool) (ls : List Triple) → Does (way g) ls b k rep₁ z.run (zonk t (λ _. done)) b k rep₂ y.run
      D₂ g ls = Z₂.does g ls b (D₁ g ls).kept

      -- the second write-out leaves the first type
      first-stays : F ≡ nodes_at rep₁ 0 z.nodes
      first-stays = zonk-below z.run (write_out (sols k) t) z.nodes w rep₁ rep₂ q 0 z.nodes (omega arith)

      -- where the run goes on, both types are written out
      outs : going y.run.halt ≡ true → (F ≡ write_out (sols k) f) × (T ≡ write_out (sols k) t)
      outs g = (first-stays ∙ Z₁.nodes (alive (D₂ all []) g), Z₂.nodes g)

      pub both-asks : going y.run.halt ≡ true → SubAsk b k rep₂ y.run z.nodes y.nodes
      both-asks g =
          let later : c.counters.fresh ≤ y.run.counters.fresh = let m = grows (D₁ all []) in let n = grows (D₂ all []) in omega arith in
          let lim = p.limit in
          let l₁ : length F ≤ most_nodes = let s = few₁ in omega (arith, length-nodes_at rep₂ 0 z.nodes) in
          let l₂ : length T ≤ most_nodes = let s = zonk-few z.run (write_out (sols k) t) z.nodes w e₂ in omega (arith, length-nodes_at rep₂ (2 * z.nodes) y.nodes) in
          record {
            formed = (D₂ all []).kept;
            goes = g;
            within = Z₂.within;
            left = written_out (D₂ all []).kept c.counters.fresh later p.solutions f F p.left (outs g).0 l₁;
            right = written_out (D₂ all []).kept c.counters.fresh later p.solutions t T p.right (outs g).1 l₂;
          }

      -- types that differ stand in the report as types that differ
      pub out-differ : going y.run.halt ≡ true → write_out (sols k) f ≢ write_out (sols k) t → eq_ty F T ≡ false
      out-differ g h = eq_ty-not F T (λ e. h (sym (outs g).0 ∙ e ∙ (outs g).1))

      -- the rest of the rule, with the two types as they stand in the report
      pub twice-then : (g : ℕ → Ty → Bool) (ls : List Triple) (G : Ty → Ty → Rule) {b' k' rep' : List ℕ} {r : Run} → Does (way g) ls b k rep₂ y.run (G F T) b' k' rep' r
          → Does (way g) ls b k rep c (zonk f (λ (x : Ty). zonk t (G x))) b' k' rep' r
      twice-then g ls G d =
          zonk-then {f = λ (x : Ty). zonk t (G x)} p.formed Z₁ (zonk-then {f = G (nodes_at rep₁ 0 z.nodes)} (D₁ g ls).kept Z₂ (does-as (λ _. ap (λ (x : Ty). G x T) first-stays) d))

      -- a run that is refused stays
      pub twice-stays : (v : ℕ → Ty → Bool) (ls : List Triple) (G : Ty → Ty → Rule) → going y.run.halt ≡ false → Does (way v) ls b k rep c (zonk f (λ (x : Ty). zonk t (G x))) b k rep₂ y.run
      twice-stays v ls G g = twice-then v ls G (stays-does (D₂ v ls).kept (way v) ls rep₂ g (G F T))

      -- every word of the report: the write-outs', and then what G makes of them, with the two types as they stand
      -- there
      module _ (q₁ : rep₁ ≡ zonk_words rep c (write_out (sols k) f) 0 w) where
        twice-report : {g : Bool} → going y.run.halt ≡ g → (G : List ℕ → List ℕ) → cond g (G rep₂) rep₂ ≡ twice_report rep c (write_out (sols k) f) (write_out (sols k) t) w G
        twice-report h G =
            ap₂ (λ (x : Bool) (o : List ℕ). cond x (G o) o) (sym h ∙ ap (λ (v : Zonked). going v.run.halt) (e₂ ∙ ap (λ (v : Zonked). zonk_run v.run (write_out (sols k) t) v.nodes w) e₁))
            (q ∙ ap₂ (λ (x : List ℕ) (v : Zonked). zonk_words x v.run (write_out (sols k) t) v.nodes w) q₁ e₁)

        fresh-is : y.run.counters.fresh ≡ c.counters.fresh
        fresh-is =
            ap (λ (v : Zonked). v.run.counters.fresh) e₂ ∙ zonk-fresh z.run (write_out (sols k) t) z.nodes w
            ∙ ap (λ (v : Zonked). v.run.counters.fresh) e₁ ∙ zonk-fresh c (write_out (sols k) f) 0 w

        pub report-then : (G : ℕ → Ty → Ty → List ℕ → List ℕ) → going y.run.halt ≡ true → {rep' : List ℕ} → rep' ≡ G y.run.counters.fresh F T rep₂
            → rep' ≡ twice_report rep c (write_out (sols k) f) (write_out (sols k) t) w (G c.counters.fresh (write_out (sols k) f) (write_out (sols k) t))
        report-then G g e =
            e ∙ ap (λ (n : ℕ). G n F T rep₂) fresh-is ∙ ap₂ (λ (l r : Ty). G c.counters.fresh l r rep₂) (outs g).0 (outs g).1
            ∙ twice-report g (G c.counters.fresh (write_out (sols k) f) (write_out (sols k) t))

        pub report-stays : (G : ℕ → Ty → Ty → List ℕ → List ℕ) → going y.run.halt ≡ false
            → rep₂ ≡ twice_report rep c (write_out (sols k) f) (write_out (sols k) t) w (G c.counters.fresh (write_out (sols k) f) (write_out (sols k) t))
        report-stays G g = twice-report g (G c.counters.fresh (write_out (sols k) f) (write_out (sols k) t))

-- ---- Sub on its two written_out types
abbrev pub written_sub : Ty → Ty → Rule
written_sub l r = cond (eq_ty l r) done (subtype_by l r (view l) (view r))

pub same-done : (l r : Ty) → eq_ty l r ≡ true → written_sub l r ≡ done
same-done l r e = rw e

pub other-shapes : (l r : Ty) → eq_ty l r ≡ false → subtype_by l r (view l) (view r) ≡ written_sub l r
other-shapes l r e = rw e

abbrev pub shapes_out : ℕ → Ty → Ty → List ℕ → List ℕ
shapes_out u l r out = shapes_report out u l r (view r)
