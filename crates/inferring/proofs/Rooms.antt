-- The room that Inf is lent. Assumes nothing.
use Rattle.sheet.specs.declared.Extent.{Extent}
use Rattle.std.proofs.Common.{Option, ◌≡◌, sym, ap, ◌∙◌, List, ℕ}
use Rattle.nodes.specs.Nodes.{Ty, nodes_at}
use Rattle.spelling.specs.declared.Triple.{Triple}
use Rattle.sheet.specs.Plan.{find_entry}
use Rattle.operations.specs.declared.Run.{Run}
use Rattle.arms.specs.Rooms.{Room, room, case_room}
use Rattle.inferring.specs.Inferring.{TermAsk}
use Rattle.inferring.specs.Rooms.{Scratch, scratch, constructor_out, case_scratch, kind_scratch, infer_scratch}

module _ {K : ℕ} {b : List ℕ} {c : Run} {s : List ℕ} {p : ℕ} {t : List ℕ} {tn : ℕ} (a : TermAsk K b c s p t tn) where
  -- by its kind
  pub of-kind : (x : Scratch) → kind_scratch K b c s p (nodes_at t 0 tn) x ≡ infer_scratch b c s p (nodes_at t 0 tn) x
  unfolding infer_scratch
  of-kind x = ap (λ (k : ℕ). kind_scratch k b c s p (nodes_at t 0 tn) x) (sym a.kind)

  -- only the first buffer is written to
  pub of_left : {l l' : List ℕ} (l₀ r w v : List ℕ) → l ≡ l' → scratch l' r w v ≡ kind_scratch K b c s p (nodes_at t 0 tn) (scratch l₀ r w v) → scratch l r w v ≡ infer_scratch b c s p (nodes_at t 0 tn) (scratch l₀ r w v)
  of_left l₀ r w v e q = ap (λ (x : List ℕ). scratch x r w v) e ∙ q ∙ of-kind (scratch l₀ r w v)

pub case-scratch : (c : Run) (ls : List Triple) (t : Ty) {n m line at : ℕ} (w v l r : List ℕ) {w' v' l' r' : List ℕ} {o : Run} → n ≡ m → line ≡ at → room o w' v' l' r' ≡ case_room ls t n line (room c w v l r)
    → scratch l' r' w' v' ≡ case_scratch c ls t m at (scratch l r w v)
case-scratch c ls t w v l r en el h = ap (λ (x : Room). scratch x.left x.right x.frames x.bindings) h ∙ rw (en, el)

pub constructor-out : (c : Run) (ls : List Triple) (l : List ℕ) {x y : ℕ} {v : (Option Extent)} → x ≡ y → v ≡ find_entry 1 x ls → constructor_out c ls l v ≡ constructor_out c ls l (find_entry 1 y ls)
constructor-out c ls l e q = ap (constructor_out c ls l) (q ∙ ap (λ (i : ℕ). find_entry 1 i ls) e)
